use Rattle.std.proofs.Common.{ℕ, ◌<◌, ◌-◌, length}
use Rattle.std.specs.Prelude.{option_map}
use Rattle.tp_routes.specs.Index.{IsIndexOf, IsNextAt}
use Rattle.tp_routes.specs.declared.index.ActEnd.TheVariants.{From}
use Rattle.tp_windows.specs.SoughtWays.{AreStepsReached}
use Rattle.tp_windows.specs.WaitingLabels.{Grows, KeepsKeys}
use Rattle.tp_windows.proofs.way_search.spread.Given as goal

-- all steps by actions before the least one are reached, and the next one is the first from it on that starts where the arrival is
abbrev pub invariant-acts : goal.invariant-acts
invariant-acts l = record {
  grows : Grows l.fn.front l.front;
  keyed : KeepsKeys l.sought.rests.now.rests.items l.fn.front l.front;
  reached : (act : ℕ) → act < l.least → AreStepsReached l.sought l.from act l.front;
  next : IsIndexOf From l.sought.machine.now l.sought.starts.now.firsts.items l.sought.starts.now.nexts.items
      → IsNextAt From l.sought.machine.now.actions l.from.state.loc.0 l.least (option_map (λ act. act.0) l.next);
}

abbrev pub decreases-acts : goal.decreases-acts
decreases-acts l = length l.sought.machine.now.actions - l.least
