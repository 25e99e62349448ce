use Rattle.std.proofs.Common.{arith, ◌≡◌, ◌∙◌, ◌-◌, List, ap, sym, subst, length, take, drop}
use Rattle.std.proofs.lemmas.List.{drop-take, length-take-le}
use Rattle.tp_stn_undo.specs.declared.point_state.SavedState.{SavedState}
use Rattle.tp_stn_undo.specs.Flags.{Noted}
use Rattle.tp_stn_undo.specs.Times.{IsOneMoved, KeepTimes}
use Rattle.tp_stn_undo.specs.Saved.{restored}
use Rattle.tp_stn_undo.proofs.changes.Changes.is_late.Goals as goal
use Rattle.tp_stn_undo.proofs.changes.Changes.is_late.Goals.{After-is_one_moved}

-- the entries that are looked at
looked : (c : After-is_one_moved) → take (c.self.inside.before - c.args.from) (drop c.args.from c.deref.result.now) ≡ drop c.args.from c.args.self.now.older
looked c =
    let a = c.self.inside in
    let v = ap (λ (w : Noted). length w.older) c.self.view_is in
    let l = length-take-le a.before a.entries.items c.self.invariant.within in
    let f = c.requires.from in
    ap (λ (es : List SavedState). take (a.before - c.args.from) (drop c.args.from es)) c.deref.ensures.value
    ∙ sym (drop-take c.args.from (a.before - c.args.from) a.entries.items)
    ∙ ap (λ n. drop c.args.from (take n a.entries.items)) (omega arith)
    ∙ ap (λ (w : Noted). drop c.args.from w.older) c.self.view_is

pub returns-clause-same : goal.returns-clause-same
returns-clause-same c none =
    let k = (goal.at.returns-clause-same c).After-is_one_moved in
    subst (λ (es : List SavedState). KeepTimes c.args.end.0 (restored es c.args.states.now) c.args.states.now) (looked k) (c.is_one_moved.ensures.same none)

pub returns-clause-moved : goal.returns-clause-moved
returns-clause-moved c one =
    let k = (goal.at.returns-clause-moved c).After-is_one_moved in
    subst (IsOneMoved c.args.end.0 c.args.states.now) (looked k) (c.is_one_moved.ensures.moved one)
