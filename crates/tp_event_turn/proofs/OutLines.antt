-- A module that goes out keeps lines, whoever gives right answers.
use Rattle.std.proofs.Common.{ℕ, Bool, List}
use Rattle.tp_machine.specs.declared.machine.Machine.{Machine}
use Rattle.tp_schedule.specs.declared.records.Record.{Record}
use Rattle.tp_outage_laws.proofs.OutagesKeep.{through-goes}
use Rattle.tp_outage_laws.specs.Through.{KeepsThrough}
use Rattle.tp_event_rules.specs.StateInvariants.{KeepsLines}
use Rattle.tp_event_rules.specs.Logs.{spent_on_trust}
use Rattle.tp_event_rules.specs.Planners.{GoesOut}
use Rattle.tp_event_rules.specs.States.{SessionState}
use Rattle.tp_event_turn.specs.LiveTurns.{right_deeds}

-- lines are kept where a module goes out in this state
abbrev pub OutagesKeepLines : Machine → SessionState → Type 0
OutagesKeepLines machine s = (m : ℕ) (jam : Bool) (records : List Record) (s' : SessionState) → GoesOut (right_deeds machine) machine s m jam tt records s' tt → KeepsLines s'

pub lines-out : (machine : Machine) (s : SessionState) → KeepsThrough machine s → OutagesKeepLines machine s
lines-out machine s through m jam records s' out =
    (through-goes (right_deeds machine) machine (λ p. spent_on_trust) (λ p plans deed plans' p' does. does) s m jam tt records s' tt out through).lines
