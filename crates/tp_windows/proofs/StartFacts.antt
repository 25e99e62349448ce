-- The start states of an ask.
use Rattle.std.proofs.Common.{◌≡◌, ℕ, slice_get, Some, subst, ◌∙◌, ap}
use Rattle.tp_machine.specs.declared.machine.Machine.{Machine}
use Rattle.tp_machine.specs.declared.parts.Feeder.{Feeder}
use Rattle.tp_machine.specs.declared.parts.State.{State}
use Rattle.tp_schedule.specs.Routes.{IsStart, IsStartFrom, fresh}
use Rattle.tp_schedule.specs.declared.parts.Ask.{Ask}
use Rattle.tp_schedule.specs.declared.parts.Origin.{Origin}
use Rattle.tp_schedule.specs.declared.parts.Origin.TheVariants.{Feeder as FromFeeder, Front as FromFront}
use Rattle.tp_windows.proofs.RowFacts.{there_in}

-- the new sheet at a feeder of the machine
pub record IsNewSheet (machine : Machine) (s : State) : Type 0 where
  pub number : ℕ
  pub feeder : Feeder
  pub there : slice_get machine.feeders number ≡ Some feeder
  pub state : s ≡ fresh feeder.loc

pub new-sheet : (machine : Machine) (ask : Ask) (s : State) → ask.origin ≡ FromFeeder → IsStart machine ask s → IsNewSheet machine s
new-sheet machine ask s origin starts = go (subst (λ (o : Origin). IsStartFrom machine ask o s) origin starts)
  where
    go : IsStartFrom machine ask FromFeeder s → IsNewSheet machine s
    go ((k, f, below, at, both), free) = record { number = k; feeder = f; there = there_in machine.feeders k f below ∙ ap Some at; state = both.1 }

pub front-state : (machine : Machine) (ask : Ask) (s state : State) (end kept : ℕ) → ask.origin ≡ FromFront state end kept → IsStart machine ask s → s ≡ state
front-state machine ask s state end kept origin starts = subst (λ (o : Origin). IsStartFrom machine ask o s) origin starts
