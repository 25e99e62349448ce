use Rattle.std.proofs.Common.{ℕ, ◌<◌, get_or}
use Rattle.tp_stn_undo.specs.declared.point_state.SavedState.{SavedState}
use Rattle.tp_stn_undo.proofs.TimeFacts.{IsOfNow}
use Rattle.tp_stn_undo.proofs.changes.is_one_moved.Given as goal

abbrev pub invariant-each : goal.invariant-each
invariant-each l = (k : ℕ) (d : SavedState) → k < l.entry-index → IsOfNow l.end.0 l.states (get_or l.entries k d)
