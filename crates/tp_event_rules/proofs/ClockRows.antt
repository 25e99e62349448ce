-- A job of one sheet, and moves of the clock.
use Rattle.std.proofs.Common.{◌≡◌, List, [], ◌∷◌, refl, codes}
use Rattle.tp_machine.specs.Modes.{gap_at}
use Rattle.tp_schedule.specs.declared.parts.Plan.{Plan}
use Rattle.tp_schedule.specs.declared.parts.Reply.TheVariants.{Planned}
use Rattle.tp_schedule.specs.declared.records.Cause.TheVariants.{Back, End}
use Rattle.tp_schedule.specs.declared.records.Record.{Record}
use Rattle.tp_schedule.specs.declared.records.Record.TheVariants.{Plan as TellsPlan, Release, Done, Refused}
use Rattle.tp_stock.specs.Stock.{no_refills}
use Rattle.tp_script.specs.declared.event.Event.TheVariants.{Job as NewJob, Clock}
use Rattle.tp_event_rules.specs.States.{SessionState, empty_state, none_out}
use Rattle.tp_event_rules.proofs.Machines.{duo, act, mono_sheet}
use Rattle.tp_event_rules.proofs.RowParts.{sheet, j1, j2, group, job, whole}
use Rattle.tp_event_rules.proofs.Replay.{answers, play, turn_played}

abbrev pub only_plan : Plan
only_plan = whole (sheet 0 1 1) (codes "j1") mono_sheet 3 (act 0 ∷ act 2 ∷ act 3 ∷ []) (3 ∷ 5 ∷ 11 ∷ 14 ∷ []) 0

abbrev pub planned_one : SessionState
planned_one = record {
  now = 0;
  plans = only_plan ∷ [];
  lost = [];
  jobs = job (codes "j1") 3 ∷ [];
  waiting = [];
  outs = none_out;
  refills = no_refills;
}

pub comes : play duo (NewJob (codes "j1") (codes "t") (codes "plain") (group 1 ∷ [])) empty_state (answers Planned (only_plan ∷ []) ∷ [])
    ≡ turn_played (TellsPlan (j1 1 1) (codes "t") (3 ∷ 5 ∷ 11 ∷ 14 ∷ []) (codes "feed" ∷ codes "print2" ∷ codes "out" ∷ []) ∷ []) planned_one
comes = refl

abbrev pub feed_released : Record
feed_released = Release (j1 1 1) 1 (codes "feed") 3 5

abbrev pub later_records : List Record
later_records = Release (j1 1 1) 2 (codes "print2") 5 11 ∷ Release (j1 1 1) 3 (codes "out") 11 14 ∷ Done (j1 1 1) (codes "t") 14 ∷ []

-- an action is released at the moment by which its start is lead ticks away
abbrev pub at_one : SessionState
at_one = record planned_one { now = 1; plans = record only_plan { released = 1 } ∷ [] }

pub clock_to_one : play duo (Clock 1) planned_one [] ≡ turn_played (feed_released ∷ []) at_one
clock_to_one = refl

-- back, too far, and to the same moment
pub clock_back : play duo (Clock 0) at_one [] ≡ turn_played (Refused (Back 1) ∷ []) at_one
clock_back = refl

pub clock_too_far : play duo (Clock 1000000001) at_one [] ≡ turn_played (Refused End ∷ []) at_one
clock_too_far = refl

pub clock_to_now : play duo (Clock 1) at_one [] ≡ turn_played [] at_one
clock_to_now = refl

-- one jump tells what the steps between tell
abbrev pub all_released : Plan
all_released = record only_plan { released = 3 }

pub one_jump : play duo (Clock 100) planned_one []
    ≡ turn_played (feed_released ∷ later_records) (record planned_one { now = 100; plans = all_released ∷ [] })
one_jump = refl

abbrev pub at_fifty : SessionState
at_fifty = record planned_one { now = 50; plans = all_released ∷ [] }

pub second_step : play duo (Clock 50) at_one [] ≡ turn_played later_records at_fifty
second_step = refl

pub third_step : play duo (Clock 100) at_fifty [] ≡ turn_played [] (record planned_one { now = 100; plans = all_released ∷ [] })
third_step = refl

-- the last moment, and a job at it
abbrev pub at_last : SessionState
at_last = record planned_one { now = 1000000000; plans = all_released ∷ [] }

pub last_moment : play duo (Clock 1000000000) at_one [] ≡ turn_played later_records at_last
last_moment = refl

abbrev pub last_plan : Plan
last_plan = whole (sheet 1 1 1) (codes "j2") mono_sheet 3 (act 0 ∷ act 2 ∷ act 3 ∷ [])
    (1000000003 ∷ 1000000005 ∷ 1000000011 ∷ 1000000014 ∷ []) 0

pub comes_last : play duo (NewJob (codes "j2") (codes "t") (codes "plain") (group 1 ∷ [])) at_last (answers Planned (all_released ∷ last_plan ∷ []) ∷ [])
    ≡ turn_played
    (TellsPlan (j2 1 1) (codes "t") (1000000003 ∷ 1000000005 ∷ 1000000011 ∷ 1000000014 ∷ []) (codes "feed" ∷ codes "print2" ∷ codes "out" ∷ []) ∷ [])
    (record at_last { plans = all_released ∷ last_plan ∷ []; jobs = job (codes "j1") 3 ∷ job (codes "j2") 3 ∷ [] })
unfolding gap_at
comes_last = refl

-- while the print runs
abbrev pub at_six : SessionState
at_six = record planned_one { now = 6; plans = record only_plan { released = 2 } ∷ [] }

pub clock_to_six : play duo (Clock 6) planned_one [] ≡ turn_played (feed_released ∷ Release (j1 1 1) 2 (codes "print2") 5 11 ∷ []) at_six
clock_to_six = refl
