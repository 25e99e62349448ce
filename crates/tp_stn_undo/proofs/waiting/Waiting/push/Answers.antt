use Rattle.std.proofs.Common.{arith, ◌≡◌, ◌∙◌, ◌<◌, ◌≤◌, false, true, ap, sym, length, subst, set}
use Rattle.std.proofs.lemmas.List.{length-set, get_or_read}
use Rattle.std.proofs.lemmas.List.Elements.{All-push}
use Rattle.tp_stn_undo.specs.Flags.{flag, AreHeld, AreBelow, Waits}
use Rattle.tp_stn_undo.proofs.FlagFacts.{held_push, held_few, flagged-lt}
use Rattle.tp_stn_undo.proofs.waiting.Waiting.push.Goals as goal
use Rattle.tp_stn_undo.proofs.waiting.Waiting.push.Goals.{After-index, After-push_back_reserved}

known : (c : After-index) → c.args.point < length c.self.inside.waits.items
known c = let v = ap (λ (w : Waits). length w.flags) c.self.view_is in let r = c.requires in omega arith

free : (c : After-index) → c.index.result.now ≡ false → flag c.self.inside.waits.items c.args.point ≡ false
free c e = sym (get_or_read c.self.inside.waits.items c.args.point c.index.result.now (known c) c.index.ensures false) ∙ e

after : (c : After-push_back_reserved) → AreHeld (set c.self.inside.waits.items c.args.point true) c.push_back_reserved.new.self.points
after c =
    let a = c.self.inside in
    let k = (goal.at.invariant_of-self c).After-index in
    rw c.push_back_reserved.ensures.points (held_push a.waits.items a.line.points c.args.point (known k) (free k c.if-not-index.true) c.self.invariant.held)

pub invariant_of-self : goal.invariant_of-self
invariant_of-self c =
    let a = c.self.inside in
    let l = length-set a.waits.items c.args.point true in
    let n = c.self.invariant.capacity in
    let cap = c.push_back_reserved.ensures.capacity in
    record { held = after c; capacity = omega arith }

pub push_back_reserved-requires : goal.push_back_reserved-requires
push_back_reserved-requires c =
    let k = (goal.at.push_back_reserved-requires c).After-index in
    let inv = c.self.invariant in
    let a = c.self.inside in
    let m = inv.capacity in
    let lt = flagged-lt a.waits.items c.args.point (known k) (free k c.if-not-index.true) in
    let s = inv.held.short in
    omega arith

pub returns-then-not-index-clause-few : goal.returns-then-not-index-clause-few
returns-then-not-index-clause-few c = held_few (set c.self.inside.waits.items c.args.point true) c.push_back_reserved.new.self.points (after (goal.at.returns-then-not-index-clause-few c).After-push_back_reserved)

pub returns-else-not-index-clause-few : goal.returns-else-not-index-clause-few
returns-else-not-index-clause-few c = subst (λ (w : Waits). length w.points ≤ length w.flags) c.self.view_is (held_few c.self.inside.waits.items c.self.inside.line.points c.self.invariant.held)

pub returns-then-not-index-clause-known : goal.returns-then-not-index-clause-known
returns-then-not-index-clause-known c = λ count h all.
    let a = c.self.inside in
    rw c.push_back_reserved.ensures.points
    (All-push (λ q. q < count) a.line.points c.args.point (subst (λ (w : Waits). AreBelow count w.points) (sym c.self.view_is) all) h)
