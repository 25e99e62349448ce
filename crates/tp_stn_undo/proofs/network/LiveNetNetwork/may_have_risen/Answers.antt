use Rattle.std.proofs.Common.{◌≡◌, List, drop, Some, sym, ap, subst, ◌∙◌, length}
use Rattle.std.specs.List.{slice_get}
use Rattle.tp_base.specs.Net.{Net, HaveSameTimes}
use Rattle.tp_stn_undo.specs.declared.marks.LiveMark.{LiveMark}
use Rattle.tp_stn_undo.specs.declared.point_state.PointState.{PointState}
use Rattle.tp_stn_undo.specs.LiveState.{LiveState}
use Rattle.tp_stn_undo.specs.Saved.{restored}
use Rattle.tp_stn_undo.specs.Times.{KeepTimes}
use Rattle.tp_stn_undo.proofs.TimeFacts.{same_times_since}
use Rattle.tp_stn_undo.specs.Flags.{AreKnown}
use Rattle.tp_stn_undo.proofs.NoteFacts.{known_all}
use Rattle.tp_stn_undo.proofs.network.LiveNetNetwork.may_have_risen.Goals as goal

pub returns-in-Some : goal.returns-in-Some
returns-in-Some c none =
    let a = c.self.inside in
    let m = c.in-Some.mark.now in
    let oldest : slice_get a.marks.items 0 ≡ Some m = ap (λ (ms : List LiveMark). slice_get ms 0) (sym c.deref.ensures.value) ∙ sym c.in-Some.ensures.value in
    let kept = subst (λ (states : List PointState). KeepTimes c.args.end.0 (restored (drop m.saved a.working.changes.older) states) states) c.deref-in-Some.ensures.value (c.is_late.ensures.same none) in
    subst (λ (s : LiveState). (old : Net) → slice_get s.past 0 ≡ Some old → HaveSameTimes c.args.end.0 old s.net) c.self.view_is
    (same_times_since a m c.args.end.0 c.self.invariant oldest kept)

pub is_late-requires-clause-known : goal.is_late-requires-clause-known
is_late-requires-clause-known c =
    let a = c.self.inside in
    subst (λ (ss : List PointState). AreKnown (length ss) a.working.changes.older) (sym c.deref-in-Some.ensures.value) (known_all a.working.changes.older (length a.states.items) c.self.invariant.kept.known)
