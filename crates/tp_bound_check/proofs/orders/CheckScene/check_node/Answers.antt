use Rattle.std.proofs.Common.{◌∷◌, [], ◌<◌, length, arith, sym, subst, All, List}
use Rattle.tp_bound_check.specs.Frames.{AreStacked, with_frame}
use Rattle.tp_bound_check.specs.Looks.{IsSoundFrame}
use Rattle.tp_bound_check.specs.declared.dues.Frame.{Frame}
use Rattle.tp_bound_check.proofs.FrameFacts.{fewer, next-stack, on-few, on-with, stacked-front, stacked-last}
use Rattle.tp_bound_check.proofs.NodeFacts.{node-fault, node-step}
use Rattle.tp_bound_check.proofs.TakeFacts.{all-left, all-last, on-gone}
use Rattle.tp_bound_check.proofs.WayFacts.{gone-frames, last-frame, next-frames}
use Rattle.tp_bound_check.proofs.orders.CheckScene.check_node.Goals as goal

pub pass-requires-clause-sound : goal.pass-requires-clause-sound
pass-requires-clause-sound c =
    let P : Frame → Type 0 = IsSoundFrame c.args.self.now.rows.machine.now in
    all-last P c.pop.new.self.items c.in-Some.frame (subst (All P) c.in-Some.ensures.items c.frames.invariant.sound)

pub pass-requires-clause-ranked : goal.pass-requires-clause-ranked
pass-requires-clause-ranked c =
    let s = c.args.self.now in
    last-frame s.rows.machine.now s.plans.now c.frames.ranks.before c.frames.stack.items c.pop.new.self.items c.in-Some.frame c.frames.invariant.ranked c.in-Some.ensures.items

pub returns-in-Passed-clause-ranked : goal.returns-in-Passed-clause-ranked
returns-in-Passed-clause-ranked c =
    let s = c.args.self.now in
    next-frames s.rows.machine.now s.plans.now c.frames.ranks.before c.pass.new.ranks.before c.frames.stack.items c.pop.new.self.items c.put.new.stack.items c.put-in-Passed.new.stack.items c.in-Some.frame c.in-Passed.left c.in-Passed.below
    c.frames.invariant.ranked c.in-Some.ensures.items c.in-Passed.ensures.ranked c.in-Passed.ensures.stay c.put.ensures.items c.put-in-Passed.ensures.items

pub put-requires-clause-fits : goal.put-requires-clause-fits
put-requires-clause-fits c = λ due.
    let m = c.args.self.now.rows.machine.now in let fs = c.pop.new.self.items in
    let here = stacked-last fs c.in-Some.frame (subst (AreStacked 0) c.in-Some.ensures.items c.frames.invariant.stacked) in
    on-few m c.in-Passed.left (length fs) c.in-Passed.ensures.sound.0 (c.in-Passed.ensures.sound.2 (length fs) here).0 due

pub put-requires-in-Passed-clause-fits : goal.put-requires-in-Passed-clause-fits
put-requires-in-Passed-clause-fits c = λ due.
    let m = c.args.self.now.rows.machine.now in let fs = c.pop.new.self.items in
    let here = stacked-last fs c.in-Some.frame (subst (AreStacked 0) c.in-Some.ensures.items c.frames.invariant.stacked) in
    let on = on-with fs c.in-Passed.left c.in-Passed.below (c.in-Passed.ensures.sound.2 (length fs) here).1 in
    subst (λ (xs : List Frame). length xs < 322) (sym c.put.ensures.items) (on-few m c.in-Passed.below (length (with_frame c.in-Passed.left fs)) c.in-Passed.ensures.sound.1 on due)

pub returns-in-Passed-clause-ok : goal.returns-in-Passed-clause-ok
returns-in-Passed-clause-ok c =
    let s = c.args.self.now in
    node-step s.rows.machine.now s.plans.now s.rows.ask.now s.rows.rows.now s.limit c.args.goals.now c.args.stack.now.items c.frames.stack.items c.pop.new.self.items c.put.new.stack.items c.put-in-Passed.new.stack.items c.in-Some.frame c.in-Passed.left c.in-Passed.below c.args.node.now
    c.frames.invariant.left c.in-Some.ensures.items c.in-Passed.ensures.passing c.put.ensures.items c.put-in-Passed.ensures.items

pub returns-in-Passed-clause-stack : goal.returns-in-Passed-clause-stack
returns-in-Passed-clause-stack c =
    let m = c.args.self.now.rows.machine.now in
    next-stack m c.frames.stack.items c.pop.new.self.items c.put.new.stack.items c.put-in-Passed.new.stack.items c.in-Some.frame c.in-Passed.left c.in-Passed.below
    (record { sound = c.frames.invariant.sound; stacked = c.frames.invariant.stacked; few = c.frames.invariant.few }) c.in-Some.ensures.items c.in-Passed.ensures.sound c.put.ensures.items c.put-in-Passed.ensures.items

pub returns-in-Wrong-clause-fault : goal.returns-in-Wrong-clause-fault
returns-in-Wrong-clause-fault c =
    let s = c.args.self.now in
    node-fault s.rows.machine.now s.plans.now s.rows.ask.now s.rows.rows.now s.limit c.args.goals.now c.args.stack.now.items c.frames.stack.items c.pop.new.self.items c.in-Some.frame c.args.node.now c.in-Wrong.fault
    c.frames.invariant.left c.in-Some.ensures.items c.in-Wrong.ensures.passing

pub frames-preserved : goal.frames-preserved
frames-preserved c =
    let s = c.args.self.now in
    let P : Frame → Type 0 = IsSoundFrame s.rows.machine.now in
    let fs = c.pop.new.self.items in
    let sound = subst (All P) c.in-Some.ensures.items c.frames.invariant.sound in
    let stacked = subst (AreStacked 0) c.in-Some.ensures.items c.frames.invariant.stacked in
    record {
      left = on-gone s.rows.machine.now s.plans.now s.rows.ask.now s.rows.rows.now s.limit c.args.goals.now c.args.stack.now.items c.frames.stack.items fs c.in-Some.frame c.frames.invariant.left c.in-Some.ensures.items c.in-Empty.ensures.passing;
      sound = all-left P fs (c.in-Some.frame ∷ []) sound;
      stacked = stacked-front 0 fs (c.in-Some.frame ∷ []) stacked;
      ranked = gone-frames s.rows.machine.now s.plans.now c.frames.ranks.before c.pass.new.ranks.before c.frames.stack.items fs c.in-Some.frame c.frames.invariant.ranked c.in-Some.ensures.items c.in-Empty.ensures.stay;
      few = fewer c.frames.stack.items fs c.in-Some.frame c.in-Some.ensures.items c.frames.invariant.few;
      room = let r = c.frames.invariant.room in let same = c.pop.ensures.capacity in omega (arith, r, same);
    }
