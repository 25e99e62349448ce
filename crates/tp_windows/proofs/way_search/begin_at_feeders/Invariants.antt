use Rattle.std.proofs.Common.{◌≡◌, ℕ, ◌<◌, Some, slice_get}
use Rattle.tp_machine.specs.declared.parts.Feeder.{Feeder}
use Rattle.tp_schedule.specs.Routes.{fresh}
use Rattle.tp_windows.specs.SoughtWays.{AreStartsReached}
use Rattle.tp_windows.specs.WaitingLabels.{Grows, KeepsKeys}
use Rattle.tp_windows.proofs.way_search.begin_at_feeders.Given as goal

abbrev pub invariant-feeders : goal.invariant-feeders
invariant-feeders l = record {
  grows : Grows l.fn.front l.front;
  keyed : KeepsKeys l.sought.rests.now.rests.items l.fn.front l.front;
  starts : (k : ℕ) (f : Feeder) → k < l.number → slice_get l.sought.machine.now.feeders k ≡ Some f → AreStartsReached l.sought (fresh f.loc) l.front;
}
