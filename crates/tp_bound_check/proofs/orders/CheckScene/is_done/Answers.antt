use Rattle.std.proofs.Common.{◌∷◌, [], refl, subst, All}
use Rattle.tp_bound_check.specs.Looks.{IsSoundFrame}
use Rattle.tp_bound_check.specs.declared.dues.Frame.{Frame}
use Rattle.tp_bound_check.proofs.NodeFacts.{node-left}
use Rattle.tp_bound_check.proofs.TakeFacts.{all-left, all-last, on-gone}
use Rattle.tp_bound_check.proofs.orders.CheckScene.is_done.Goals as goal

pub has_more-requires : goal.has_more-requires
has_more-requires c =
    let P : Frame → Type 0 = IsSoundFrame c.args.self.now.rows.machine.now in
    all-last P c.pop.new.self.items c.in-Some.frame (subst (All P) c.in-Some.ensures.items c.frames.invariant.sound)

pub returns-then-has_more-clause-more : goal.returns-then-has_more-clause-more
returns-then-has_more-clause-more c = λ _.
    let s = c.args.self.now in let some = c.if-has_more.ensures.some refl in
    node-left s.rows.machine.now s.plans.now s.rows.ask.now s.rows.rows.now s.limit c.args.goals.now c.args.stack.now.items c.frames.stack.items c.pop.new.self.items c.in-Some.frame some.0 some.1 c.frames.invariant.left c.in-Some.ensures.items some.2

pub frames-preserved : goal.frames-preserved
frames-preserved c =
    let s = c.args.self.now in
    let P : Frame → Type 0 = IsSoundFrame s.rows.machine.now in
    record {
      left = on-gone s.rows.machine.now s.plans.now s.rows.ask.now s.rows.rows.now s.limit c.args.goals.now c.args.stack.now.items c.frames.stack.items c.pop.new.self.items c.in-Some.frame c.frames.invariant.left c.in-Some.ensures.items (c.if-has_more.ensures.none refl);
      sound = all-left P c.pop.new.self.items (c.in-Some.frame ∷ []) (subst (All P) c.in-Some.ensures.items c.frames.invariant.sound);
    }
