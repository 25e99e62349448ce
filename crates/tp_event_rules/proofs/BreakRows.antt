-- A sheet is lost while a later one of its line enters the tray: its job breaks.
use Rattle.std.proofs.Common.{◌≡◌, true, List, [], ◌∷◌, refl, codes}
use Rattle.tp_schedule.specs.declared.parts.Plan.{Plan}
use Rattle.tp_schedule.specs.declared.parts.Reply.TheVariants.{Planned}
use Rattle.tp_schedule.specs.declared.records.Record.TheVariants.{Plan as TellsPlan, Move, Release, Done, Lost, Recall, Withdraw, Purge, Broken, Drop}
use Rattle.tp_stock.specs.Stock.{no_refills}
use Rattle.tp_script.specs.declared.event.Event.TheVariants.{Job as NewJob, Clock, Jam}
use Rattle.tp_event_rules.specs.States.{SessionState, empty_state, none_out}
use Rattle.tp_event_rules.proofs.Machines.{duo, twin, act, mono_sheet, blank_sheet}
use Rattle.tp_event_rules.proofs.RowParts.{sheet, j1, j2, plain, job, whole, purged, front}
use Rattle.tp_event_rules.proofs.Replay.{answers, settles, play, turn_played}

-- two jobs in one line
abbrev pub right_first : Plan
right_first = whole (sheet 0 1 1) (codes "j1") blank_sheet 2 (act 0 ∷ act 2 ∷ []) (3 ∷ 5 ∷ 10 ∷ []) 0

abbrev pub right_moved : Plan
right_moved = record right_first { points = 5 ∷ 7 ∷ 12 ∷ [] }

abbrev pub left : Plan
left = whole (sheet 1 1 1) (codes "j2") blank_sheet 2 (act 0 ∷ act 1 ∷ []) (3 ∷ 5 ∷ 13 ∷ []) 0

abbrev pub one_job : SessionState
one_job = record { now = 0; plans = right_first ∷ []; lost = []; jobs = job (codes "j1") 2 ∷ []; waiting = []; outs = none_out; refills = no_refills }

abbrev pub two_jobs : SessionState
two_jobs = record one_job { plans = right_moved ∷ left ∷ []; jobs = job (codes "j1") 2 ∷ job (codes "j2") 2 ∷ [] }

pub first_comes : play twin (NewJob (codes "j1") (codes "t") (codes "plain") (plain 1 ∷ [])) empty_state (answers Planned (right_first ∷ []) ∷ [])
    ≡ turn_played (TellsPlan (j1 1 1) (codes "t") (3 ∷ 5 ∷ 10 ∷ []) (codes "feed" ∷ codes "right" ∷ []) ∷ []) one_job
first_comes = refl

pub second_comes : play twin (NewJob (codes "j2") (codes "t") (codes "plain") (plain 1 ∷ [])) one_job (answers Planned (right_moved ∷ left ∷ []) ∷ [])
    ≡ turn_played
    (TellsPlan (j2 1 1) (codes "t") (3 ∷ 5 ∷ 13 ∷ []) (codes "feed" ∷ codes "left" ∷ []) ∷ Move (j1 1 1) (5 ∷ 7 ∷ 12 ∷ []) ∷ [])
    two_jobs
second_comes = refl

abbrev pub entering : Plan
entering = record left { released = 2 }

abbrev pub at_eight : SessionState
at_eight = record two_jobs { now = 8; plans = record right_moved { released = 2 } ∷ entering ∷ [] }

pub clock_to_eight : play twin (Clock 8) two_jobs []
    ≡ turn_played
    (Release (j2 1 1) 1 (codes "feed") 3 5 ∷ Release (j1 1 1) 1 (codes "feed") 5 7 ∷ Release (j2 1 1) 2 (codes "left") 5 13
    ∷ Release (j1 1 1) 2 (codes "right") 7 12 ∷ [])
    at_eight
clock_to_eight = refl

abbrev pub lost_right : Plan
lost_right = front right_moved (act 0 ∷ act 2 ∷ []) (5 ∷ 7 ∷ 12 ∷ []) 2

abbrev pub first_broken : SessionState
first_broken = record {
  now = 8;
  plans = lost_right ∷ entering ∷ [];
  lost = sheet 0 1 1 ∷ [];
  jobs = record (job (codes "j1") 2) { broken = true } ∷ job (codes "j2") 2 ∷ [];
  waiting = [];
  outs = record { 0 = 4 };
  refills = no_refills;
}

pub right_jams : play twin (Jam (codes "R")) at_eight (settles (lost_right ∷ entering ∷ []) ∷ [])
    ≡ turn_played (Lost (j1 1 1) ∷ Broken (codes "j1") ∷ []) first_broken
right_jams = refl

pub entering_is_done : play twin (Clock 13) first_broken [] ≡ turn_played (Done (j2 1 1) (codes "t") 13 ∷ []) (record first_broken { now = 13 })
entering_is_done = refl

-- A job of four sheets breaks: the first is lost on ENG1; the second is on its way, and is purged; the third was to run on
-- ENG1, so it waits again, and is dropped; the fourth has not started, and is dropped.

abbrev pub lost1 : Plan
lost1 = whole (sheet 0 1 1) (codes "j1") mono_sheet 3 (act 0 ∷ act 1 ∷ act 3 ∷ []) (5 ∷ 7 ∷ 16 ∷ 19 ∷ []) 2

abbrev pub fed2 : Plan
fed2 = whole (sheet 0 2 1) (codes "j1") mono_sheet 3 (act 0 ∷ act 2 ∷ act 3 ∷ []) (11 ∷ 13 ∷ 19 ∷ 22 ∷ []) 2

abbrev pub unstarted3 : Plan
unstarted3 = whole (sheet 0 3 1) (codes "j1") mono_sheet 3 (act 0 ∷ act 1 ∷ act 3 ∷ []) (14 ∷ 18 ∷ 27 ∷ 30 ∷ []) 1

abbrev pub unstarted4 : Plan
unstarted4 = whole (sheet 0 4 1) (codes "j1") mono_sheet 3 (act 0 ∷ act 2 ∷ act 3 ∷ []) (16 ∷ 20 ∷ 26 ∷ 33 ∷ []) 0

abbrev pub entering_long : Plan
entering_long = whole (sheet 1 1 1) (codes "j2") mono_sheet 3 (act 0 ∷ act 2 ∷ act 3 ∷ []) (3 ∷ 5 ∷ 11 ∷ 41 ∷ []) 3

abbrev pub at_twelve : SessionState
at_twelve = record {
  now = 12;
  plans = lost1 ∷ fed2 ∷ unstarted3 ∷ unstarted4 ∷ entering_long ∷ [];
  lost = [];
  jobs = job (codes "j1") 3 ∷ job (codes "j2") 3 ∷ [];
  waiting = [];
  outs = none_out;
  refills = no_refills;
}

abbrev pub purged2 : Plan
purged2 = purged fed2 (act 0 ∷ act 2 ∷ act 4 ∷ []) (11 ∷ 13 ∷ 19 ∷ 22 ∷ []) 1

abbrev pub after_break : List Plan
after_break = front lost1 (act 0 ∷ act 1 ∷ []) (5 ∷ 7 ∷ 16 ∷ []) 2 ∷ record purged2 { released = 2 } ∷ entering_long ∷ []

pub job_of_four_breaks : play duo (Jam (codes "ENG1")) at_twelve
    (answers Planned (front lost1 (act 0 ∷ act 1 ∷ []) (5 ∷ 7 ∷ 16 ∷ []) 2 ∷ purged2 ∷ entering_long ∷ []) ∷ settles after_break ∷ [])
    ≡ turn_played
    (Lost (j1 1 1) ∷ Recall (j1 3 1) 1 ∷ Withdraw (j1 3 1) ∷ Broken (codes "j1")
    ∷ Recall (j1 2 1) 2 ∷ Purge (j1 2 1) ∷ Drop (j1 3 1) ∷ Drop (j1 4 1)
    ∷ TellsPlan (j1 2 1) (codes "p") (13 ∷ 19 ∷ 22 ∷ []) (codes "print2" ∷ codes "dump" ∷ [])
    ∷ Release (j1 2 1) 2 (codes "print2") 13 19 ∷ [])
    (record {
      now = 12;
      plans = after_break;
      lost = sheet 0 1 1 ∷ [];
      jobs = record (job (codes "j1") 3) { broken = true } ∷ job (codes "j2") 3 ∷ [];
      waiting = [];
      outs = record { 0 = 2 };
      refills = no_refills;
    })
job_of_four_breaks = refl
