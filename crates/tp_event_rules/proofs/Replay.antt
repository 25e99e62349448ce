-- A turn computed from answers that are given, and that it is a turn.
use Rattle.std.proofs.Common.{◌≡◌, ℕ, Bool, true, false, List, [], ◌∷◌, ◌++◌, Option, Some, None, ◌&&◌}
use Rattle.tp_machine.specs.declared.machine.Machine.{Machine}
use Rattle.tp_script.specs.declared.event.Event.{Event}
use Rattle.tp_script.specs.declared.event.Event.TheVariants.{Bad, Job as NewJob, Clock, Jam, Off, On, Refill}
use Rattle.tp_schedule.specs.PlannerAnswers.{Deed}
use Rattle.tp_schedule.specs.PlannerAnswers.Deed.{replied, settled}
use Rattle.tp_schedule.specs.declared.parts.Ask.{Ask}
use Rattle.tp_schedule.specs.declared.parts.Plan.{Plan}
use Rattle.tp_schedule.specs.declared.parts.Reply.{Reply}
use Rattle.tp_schedule.specs.declared.records.Cause.{Cause}
use Rattle.tp_schedule.specs.declared.records.Record.{Record}
use Rattle.tp_schedule.specs.declared.records.Record.TheVariants.{FullUp, Refused}
use Rattle.tp_jobs.specs.declared.parts.WaitingCopy.{WaitingCopy}
use Rattle.tp_jobs.specs.Backlogs.{tray_of}
use Rattle.tp_event_rules.specs.States.{SessionState}
use Rattle.tp_event_rules.specs.Labels.{label}
use Rattle.tp_event_rules.specs.Refusals.{refusal, module_of}
use Rattle.tp_event_rules.specs.Clock.{clock_move}
use Rattle.tp_event_rules.specs.Outages.{outage}
use Rattle.tp_event_rules.specs.AnswerRecords.{Answer, told_of_reply, moves}
use Rattle.tp_event_rules.specs.Loops.{next_ask, after_one}
use Rattle.tp_event_rules.specs.Planners.{PlannerSteps}
use Rattle.tp_event_rules.specs.AskPhase.{ask_waiting, is_full, is_passed_over, passed_after, state_after_reply}
use Rattle.tp_event_rules.specs.Turns.{with_job, with_on, with_refill}
use Rattle.tp_machine.specs.declared.parts.Feeder.{Feeder}
use Rattle.tp_stock.specs.Stock.{feeder_named}

-- an answer with the schedule after it, or the schedule after a settling
pub data Given : Type 0 where
  answers : Reply → List Plan → Given
  settles : List Plan → Given

abbrev pub given : Deed → List Plan → Given
given (replied ask reply) plans = answers reply plans
given (settled now) plans = settles plans

-- a planner that takes its deeds from a list
abbrev pub listed : PlannerSteps (List Given)
listed = record {
  does = λ left plans deed plans' left'. left ≡ given deed plans' ∷ left';
  stops = λ left plans what left'. (left ≡ []) × (left' ≡ []);
}

-- an outcome, what is left of the list, and whether the list served
pub record Played : Type 0 where
  pub records : List Record
  pub state : SessionState
  pub left : List Given
  pub fits : Bool

abbrev pub played : Bool → SessionState → List Given → Played
played fits s left = record { records = []; state = s; left = left; fits = fits }

abbrev pub told_first : List Record → Played → Played
told_first records p = record { records = records ++ p.records; state = p.state; left = p.left; fits = p.fits }

abbrev pub told_full : SessionState → WaitingCopy → List Record
told_full s w = FullUp (label s.jobs w.sheet) ∷ []

abbrev pub pass_over : SessionState → List ℕ → WaitingCopy → List ℕ
pass_over s passed w = (tray_of s.jobs w.sheet).0 ∷ passed

-- what comes of a copy that waits: passed over, told full, or answered from the list
abbrev pub chosen : Bool → Bool → SessionState → List Given → (List Given → Played) → (List Given → Played) → (Reply → List Plan → List Given → Played) → Played
chosen true full s left over told asked = over left
chosen false true s left over told asked = told left
chosen false false s [] over told asked = played false s []
chosen false false s (settles plans ∷ left) over told asked = played false s left
chosen false false s (answers reply plans ∷ left) over told asked = asked reply plans left

-- the phase of asks, by what follows a copy that is reported full, and one that is answered
abbrev pub play_asks : Machine → List WaitingCopy → List ℕ → SessionState → List Given → Played
play_asks machine [] passed s left = played true s left
play_asks machine (w ∷ ws) passed s left = chosen (is_passed_over s passed w) (is_full machine s) s left
    (play_asks machine ws passed s)
    (λ l. told_first (told_full s w) (play_asks machine ws (pass_over s passed w) s l))
    (λ reply plans l. told_first (told_of_reply machine s.plans (ask_waiting machine s w) reply plans)
    (play_asks machine ws (passed_after reply (tray_of s.jobs w.sheet).0 passed) (state_after_reply s w reply plans) l))

abbrev pub answer : Reply → List Plan → Answer
answer reply plans = record { reply = reply; plans = plans }

-- the loop goes on where an ask is due, and ends with the settling where none is
abbrev pub loop_on : Option Ask → SessionState → (Ask → Played) → Played
loop_on None s next = played false s []
loop_on (Some ask) s next = next ask

abbrev pub loop_end : Option Ask → SessionState → List Plan → List Given → Played
loop_end None s plans left = record { records = moves s.plans plans; state = record s { plans = plans }; left = left; fits = true }
loop_end (Some ask) s plans left = played false s []

abbrev pub play_loop : Machine → SessionState → List Given → Played
play_loop machine s [] = played false s []
play_loop machine s (settles plans ∷ left) = loop_end (next_ask machine s) s plans left
play_loop machine s (answers reply plans ∷ left) = loop_on (next_ask machine s) s
    (λ ask. told_first (after_one machine s (answer reply plans)).records (play_loop machine (after_one machine s (answer reply plans)).state left))

abbrev pub and_asks : Machine → Played → Played
and_asks machine p =
    let q = play_asks machine p.state.waiting [] p.state p.left in
    record { records = p.records ++ q.records; state = q.state; left = q.left; fits = p.fits && q.fits }

abbrev pub play_out : Machine → Option ℕ → Bool → SessionState → List Given → Played
play_out machine None jam s left = played false s []
play_out machine (Some m) jam s left = told_first (outage machine m jam s).records (play_loop machine (outage machine m jam s).state left)

abbrev pub play_on : Option ℕ → SessionState → List Given → Played
play_on None s left = played false s []
play_on (Some m) s left = played true (with_on m s) left

abbrev pub play_refill : Option Feeder → ℕ → SessionState → List Given → Played
play_refill None count s left = played false s []
play_refill (Some f) count s left = played true (with_refill f count s) left

abbrev pub play_begin : Machine → Event → SessionState → List Given → Played
play_begin machine Bad s left = played false s []
play_begin machine (NewJob name tray media groups) s left = played true (with_job machine name tray media groups s) left
play_begin machine (Clock to) s left = told_first (clock_move machine to s).records (played true (clock_move machine to s).state left)
play_begin machine (Jam name) s left = play_out machine (module_of machine name) true s left
play_begin machine (Off name) s left = play_out machine (module_of machine name) false s left
play_begin machine (On name) s left = play_on (module_of machine name) s left
play_begin machine (Refill name count) s left = play_refill (feeder_named machine name) count s left

abbrev pub play_by : Option Cause → Machine → Event → SessionState → List Given → Played
play_by (Some cause) machine event s left = told_first (Refused cause ∷ []) (played true s left)
play_by None machine event s left = and_asks machine (play_begin machine event s left)

abbrev pub play : Machine → Event → SessionState → List Given → Played
play machine event s left = play_by (refusal machine s event) machine event s left

-- a turn that was played to its end: its records and the next state
abbrev pub turn_played : List Record → SessionState → Played
turn_played records s = record { records = records; state = s; left = []; fits = true }
