use Rattle.std.proofs.Common.{◌≡◌, ℕ, ◌<◌, ◌≤◌, List, Option, Some, slice_get}
use Rattle.tp_windows.specs.RestTables.{rest_of}
use Rattle.tp_windows.specs.WaitingLabels.{Grows, IsReached, KeepsKeys}
use Rattle.tp_windows.specs.declared.gaps.Ends.{Ends}
use Rattle.tp_windows.proofs.way_search.offer_ends.Given as goal

abbrev pub invariant-ends : goal.invariant-ends
invariant-ends l = record {
  grows : Grows l.fn.front l.front;
  keyed : (rests : List (Option ℕ)) → rest_of rests l.to.state ≡ Some l.rest → KeepsKeys rests l.fn.front l.front;
  reached : (n end : ℕ) (e : Ends) → n < l.number → slice_get l.ends n ≡ Some e → e.from ≤ end → end ≤ e.till → IsReached l.front l.to.state end;
}
