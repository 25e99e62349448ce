-- Each event's own part leaves a state that can take any event, with copy numbers that are one greater at the most.
use Rattle.std.proofs.Common.{◌≡◌, ℕ, ◌+◌, List, length, None, arith}
use Rattle.tp_machine.specs.declared.machine.Machine.{Machine}
use Rattle.tp_script.specs.Form.{GroupForm}
use Rattle.tp_event_rules.proofs.ReadyTurns.{events-more, ready-job, ready-on}
use Rattle.tp_event_rules.specs.Clock.{clock_move}
use Rattle.tp_event_rules.specs.StateInvariants.{live_part}
use Rattle.tp_event_rules.specs.Ready.{CanTakeEvents}
use Rattle.tp_event_rules.specs.Refusals.{clock_refusal, job_refusal}
use Rattle.tp_event_rules.specs.States.{SessionState}
use Rattle.tp_event_rules.specs.Turns.{with_job, with_on}
use Rattle.tp_event_turn.proofs.CanAskFacts.{plan-on}
use Rattle.tp_event_turn.proofs.ClockFacts.{ready-moved}
use Rattle.tp_event_turn.proofs.ClockLeast.{least-moved}

pub events-on : (machine : Machine) (m : ℕ) (s : SessionState) (copies : ℕ) → CanTakeEvents machine copies s → CanTakeEvents machine (copies + 1) (with_on m s)
events-on machine m s copies can = events-more machine copies (copies + 1) (with_on m s) (omega arith) (record { kept = ready-on machine m s copies can.kept; least = can.least })

pub events-job : (machine : Machine) (name tray media : List ℕ) (groups : List GroupForm) (s : SessionState) → job_refusal machine s.jobs (length s.waiting) name tray media groups ≡ None
    → (copies : ℕ) → CanTakeEvents machine copies s → CanTakeEvents machine (copies + 1) (with_job machine name tray media groups s)
events-job machine name tray media groups s accepted copies can = record { kept = ready-job machine name tray media groups s accepted copies can.kept; least = can.least }

pub events-moved : (machine : Machine) (to : ℕ) (s : SessionState) → clock_refusal s.now to ≡ None
    → (copies : ℕ) → CanTakeEvents machine copies s → CanTakeEvents machine (copies + 1) (live_part machine (clock_move machine to s).state)
events-moved machine to s accepted copies can =
    events-more machine copies (copies + 1) (live_part machine (clock_move machine to s).state) (omega arith) (record {
      kept = ready-moved machine to s accepted copies can.kept;
      least = least-moved machine s.now to s.plans accepted (plan-on machine copies s can.kept) can.least;
    })
