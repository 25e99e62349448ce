-- A module is switched off: unstarted copies are withdrawn, those in flight are cut and asked again, a copy without a way
-- to its tray is purged, and one without any way is stuck.
use Rattle.std.proofs.Common.{◌≡◌, List, [], ◌∷◌, refl, codes, Some, None}
use Rattle.tp_schedule.specs.declared.parts.Plan.{Plan}
use Rattle.tp_schedule.specs.declared.parts.Reply.TheVariants.{Planned, Never as NoWay}
use Rattle.tp_schedule.specs.declared.records.Record.TheVariants.{Plan as TellsPlan, Move, Never, Release, Lost, Recall, Withdraw, Cut, Purge, Again, Stuck}
use Rattle.tp_stock.specs.Stock.{no_refills}
use Rattle.tp_script.specs.declared.event.Event.TheVariants.{Job as NewJob, Clock, Off}
use Rattle.tp_event_rules.specs.States.{SessionState, empty_state, none_out}
use Rattle.tp_event_rules.proofs.Machines.{duo, act, mono_sheet}
use Rattle.tp_event_rules.proofs.RowParts.{sheet, j1, group, job, waits, whole, purged, front}
use Rattle.tp_event_rules.proofs.ClockRows.{only_plan, at_six}
use Rattle.tp_event_rules.proofs.Replay.{answers, settles, play, turn_played}

-- two sheets: the second is fed first, and the first moves
abbrev pub first_plan : Plan
first_plan = record only_plan { points = 5 ∷ 7 ∷ 13 ∷ 16 ∷ [] }

abbrev pub second_plan : Plan
second_plan = whole (sheet 0 2 1) (codes "j1") mono_sheet 3 (act 0 ∷ act 1 ∷ act 3 ∷ []) (3 ∷ 5 ∷ 14 ∷ 17 ∷ []) 0

abbrev pub planned_two : SessionState
planned_two = record {
  now = 0;
  plans = first_plan ∷ second_plan ∷ [];
  lost = [];
  jobs = job (codes "j1") 3 ∷ [];
  waiting = [];
  outs = none_out;
  refills = no_refills;
}

pub two_come : play duo (NewJob (codes "j1") (codes "t") (codes "plain") (group 2 ∷ [])) empty_state
    (answers Planned (only_plan ∷ []) ∷ answers Planned (first_plan ∷ second_plan ∷ []) ∷ [])
    ≡ turn_played
    (TellsPlan (j1 1 1) (codes "t") (3 ∷ 5 ∷ 11 ∷ 14 ∷ []) (codes "feed" ∷ codes "print2" ∷ codes "out" ∷ [])
    ∷ TellsPlan (j1 2 1) (codes "t") (3 ∷ 5 ∷ 14 ∷ 17 ∷ []) (codes "feed" ∷ codes "print1" ∷ codes "out" ∷ [])
    ∷ Move (j1 1 1) (5 ∷ 7 ∷ 13 ∷ 16 ∷ []) ∷ [])
    planned_two
two_come = refl

abbrev pub at_four : SessionState
at_four = record planned_two { now = 4; plans = record first_plan { released = 1 } ∷ record second_plan { released = 2 } ∷ [] }

-- at one moment by copy, else by moment
pub clock_to_four : play duo (Clock 4) planned_two []
    ≡ turn_played
    (Release (j1 2 1) 1 (codes "feed") 3 5 ∷ Release (j1 1 1) 1 (codes "feed") 5 7 ∷ Release (j1 2 1) 2 (codes "print1") 5 14 ∷ [])
    at_four
clock_to_four = refl

-- OUT is off: the first sheet is withdrawn, and the second, which is fed, is cut. It cannot come before the first, so it
-- is purged and its next copy waits
abbrev pub dumped : Plan
dumped = purged second_plan (act 0 ∷ act 2 ∷ act 4 ∷ []) (3 ∷ 5 ∷ 11 ∷ 14 ∷ []) 1

abbrev pub dumping : List Plan
dumping = record dumped { released = 2 } ∷ []

pub out_goes_off : play duo (Off (codes "OUT")) at_four (answers Planned (dumped ∷ []) ∷ settles dumping ∷ answers NoWay dumping ∷ [])
    ≡ turn_played
    (Recall (j1 1 1) 1 ∷ Withdraw (j1 1 1) ∷ Recall (j1 2 1) 2 ∷ Cut (j1 2 1) ∷ Purge (j1 2 1) ∷ Again (j1 2 2)
    ∷ TellsPlan (j1 2 1) (codes "p") (5 ∷ 11 ∷ 14 ∷ []) (codes "print2" ∷ codes "dump" ∷ [])
    ∷ Release (j1 2 1) 2 (codes "print2") 5 11
    ∷ Never (j1 1 1) (Some (codes "t")) ∷ [])
    (record {
      now = 4;
      plans = dumping;
      lost = [];
      jobs = job (codes "j1") 3 ∷ [];
      waiting = waits (sheet 0 1 1) mono_sheet ∷ waits (sheet 0 2 2) mono_sheet ∷ [];
      outs = record { 0 = 8 };
      refills = no_refills;
    })
out_goes_off = refl

-- OUT is off while the only sheet is printed: it has no way to its tray, and goes to the purge tray
abbrev pub dumped_at_six : Plan
dumped_at_six = purged only_plan (act 0 ∷ act 2 ∷ act 4 ∷ []) (3 ∷ 5 ∷ 11 ∷ 14 ∷ []) 2

abbrev pub cut_front : Plan
cut_front = front only_plan (act 0 ∷ act 2 ∷ []) (3 ∷ 5 ∷ 11 ∷ []) 2

abbrev pub to_dump : SessionState
to_dump = record {
  now = 6;
  plans = dumped_at_six ∷ [];
  lost = [];
  jobs = job (codes "j1") 3 ∷ [];
  waiting = waits (sheet 0 1 2) mono_sheet ∷ [];
  outs = record { 0 = 8 };
  refills = no_refills;
}

pub no_way_to_tray : play duo (Off (codes "OUT")) at_six
    (answers NoWay (cut_front ∷ []) ∷ answers Planned (dumped_at_six ∷ []) ∷ settles (dumped_at_six ∷ []) ∷ answers NoWay (dumped_at_six ∷ []) ∷ [])
    ≡ turn_played
    (Cut (j1 1 1) ∷ Never (j1 1 1) (Some (codes "t")) ∷ Purge (j1 1 1) ∷ Again (j1 1 2)
    ∷ TellsPlan (j1 1 1) (codes "p") (11 ∷ 14 ∷ []) (codes "dump" ∷ [])
    ∷ Never (j1 1 2) (Some (codes "t")) ∷ [])
    to_dump
no_way_to_tray = refl

-- DUMP is off as well: the sheet has no way at all, and the module that it runs on jams
abbrev pub stuck_front : Plan
stuck_front = purged cut_front (act 0 ∷ act 2 ∷ []) (3 ∷ 5 ∷ 11 ∷ []) 2

abbrev pub all_out : SessionState
all_out = record {
  now = 6;
  plans = stuck_front ∷ [];
  lost = sheet 0 1 1 ∷ [];
  jobs = job (codes "j1") 3 ∷ [];
  waiting = waits (sheet 0 1 2) mono_sheet ∷ [];
  outs = record { 0 = 28 };
  refills = no_refills;
}

pub no_way_at_all : play duo (Off (codes "DUMP")) to_dump
    (answers NoWay (stuck_front ∷ []) ∷ settles (stuck_front ∷ []) ∷ answers NoWay (stuck_front ∷ []) ∷ [])
    ≡ turn_played
    (Cut (j1 1 1) ∷ Never (j1 1 1) None ∷ Stuck (j1 1 1) (codes "ENG2") ∷ Lost (j1 1 1) ∷ Never (j1 1 2) (Some (codes "t")) ∷ [])
    all_out
no_way_at_all = refl
