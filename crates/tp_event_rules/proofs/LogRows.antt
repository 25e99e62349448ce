-- Two logs by hand: in one a job breaks and a later copy is delivered, in the other the second copy of a lost sheet is
-- delivered before the next sheet.
use Rattle.std.proofs.Common.{◌≡◌, ℕ, true, List, [], ◌∷◌, refl, Some, codes}
use Rattle.tp_schedule.specs.declared.parts.Plan.{Plan}
use Rattle.tp_schedule.specs.declared.parts.Reply.TheVariants.{Planned, Never}
use Rattle.tp_schedule.specs.declared.records.Record.{Record}
use Rattle.tp_schedule.specs.declared.records.Record.TheVariants.{Plan as TellsPlan, Move, Never as TellsNever, Release, Done, Lost, Recall, Withdraw, Again, Broken}
use Rattle.tp_stock.specs.Stock.{no_refills}
use Rattle.tp_script.specs.declared.event.Event.TheVariants.{Job as NewJob, Clock, Jam, On}
use Rattle.tp_event_rules.specs.Logs.{Entry}
use Rattle.tp_event_rules.specs.Deliveries.{arrivals, is_earlier, received, records_of, sheet_ref}
use Rattle.tp_event_rules.specs.States.{SessionState, empty_state, none_out}
use Rattle.tp_event_rules.proofs.BreakRows.{at_eight, clock_to_eight, entering, entering_is_done, first_comes, first_broken, left, lost_right, one_job, right_first, right_jams, right_moved, second_comes, two_jobs}
use Rattle.tp_event_rules.proofs.Machines.{duo, twin, act, mono_sheet}
use Rattle.tp_event_rules.proofs.Replay.{answers, settles, play, turn_played}
use Rattle.tp_event_rules.proofs.RowParts.{sheet, j1, j2, group, plain, job, waits, whole, front}

-- The job breaks: its sheet is lost while the sheet of the next job enters the tray.

abbrev pub told_first : List Record
told_first = TellsPlan (j1 1 1) (codes "t") (3 ∷ 5 ∷ 10 ∷ []) (codes "feed" ∷ codes "right" ∷ []) ∷ []

abbrev pub told_second : List Record
told_second = TellsPlan (j2 1 1) (codes "t") (3 ∷ 5 ∷ 13 ∷ []) (codes "feed" ∷ codes "left" ∷ []) ∷ Move (j1 1 1) (5 ∷ 7 ∷ 12 ∷ []) ∷ []

abbrev pub told_clock : List Record
told_clock =
    Release (j2 1 1) 1 (codes "feed") 3 5 ∷ Release (j1 1 1) 1 (codes "feed") 5 7 ∷ Release (j2 1 1) 2 (codes "left") 5 13
    ∷ Release (j1 1 1) 2 (codes "right") 7 12 ∷ []

abbrev pub told_jam : List Record
told_jam = Lost (j1 1 1) ∷ Broken (codes "j1") ∷ []

abbrev pub told_done : List Record
told_done = Done (j2 1 1) (codes "t") 13 ∷ []

abbrev pub broken_log : List (Entry ℕ)
broken_log =
    record { event = NewJob (codes "j1") (codes "t") (codes "plain") (plain 1 ∷ []); records = told_first; trees = [] }
    ∷ record { event = NewJob (codes "j2") (codes "t") (codes "plain") (plain 1 ∷ []); records = told_second; trees = [] }
    ∷ record { event = Clock 8; records = told_clock; trees = [] }
    ∷ record { event = Jam (codes "R"); records = told_jam; trees = [] }
    ∷ record { event = Clock 13; records = told_done; trees = [] }
    ∷ []

-- its turns, from the empty state on
pub breaks_1 : play twin (NewJob (codes "j1") (codes "t") (codes "plain") (plain 1 ∷ [])) empty_state (answers Planned (right_first ∷ []) ∷ []) ≡ turn_played told_first one_job
breaks_1 = first_comes

pub breaks_2 : play twin (NewJob (codes "j2") (codes "t") (codes "plain") (plain 1 ∷ [])) one_job (answers Planned (right_moved ∷ left ∷ []) ∷ []) ≡ turn_played told_second two_jobs
breaks_2 = second_comes

pub breaks_3 : play twin (Clock 8) two_jobs [] ≡ turn_played told_clock at_eight
breaks_3 = clock_to_eight

pub breaks_4 : play twin (Jam (codes "R")) at_eight (settles (lost_right ∷ entering ∷ []) ∷ []) ≡ turn_played told_jam first_broken
breaks_4 = right_jams

pub breaks_5 : play twin (Clock 13) first_broken [] ≡ turn_played told_done (record first_broken { now = 13 })
breaks_5 = entering_is_done

-- the sheet of the broken job is skipped
pub later_is_received : received (codes "t") (records_of broken_log) ≡ j2 1 1 ∷ []
later_is_received = refl

pub skipped_is_earlier : is_earlier (arrivals broken_log) (sheet_ref (j1 1 1)) (sheet_ref (j2 1 1)) ≡ true
skipped_is_earlier = refl

-- A sheet is lost as its feeder jams, and comes again when the feeder is back: its second copy, and then the next sheet.

abbrev pub first_plan : Plan
first_plan = whole (sheet 0 1 1) (codes "j1") mono_sheet 3 (act 0 ∷ act 2 ∷ act 3 ∷ []) (3 ∷ 5 ∷ 11 ∷ 14 ∷ []) 0

abbrev pub next_plan : Plan
next_plan = whole (sheet 0 2 1) (codes "j1") mono_sheet 3 (act 0 ∷ act 1 ∷ act 3 ∷ []) (5 ∷ 7 ∷ 16 ∷ 19 ∷ []) 0

abbrev pub two_planned : SessionState
two_planned = record { now = 0; plans = first_plan ∷ next_plan ∷ []; lost = []; jobs = job (codes "j1") 3 ∷ []; waiting = []; outs = none_out; refills = no_refills }

abbrev pub told_two : List Record
told_two =
    TellsPlan (j1 1 1) (codes "t") (3 ∷ 5 ∷ 11 ∷ 14 ∷ []) (codes "feed" ∷ codes "print2" ∷ codes "out" ∷ [])
    ∷ TellsPlan (j1 2 1) (codes "t") (5 ∷ 7 ∷ 16 ∷ 19 ∷ []) (codes "feed" ∷ codes "print1" ∷ codes "out" ∷ []) ∷ []

pub again_1 : play duo (NewJob (codes "j1") (codes "t") (codes "plain") (group 2 ∷ [])) empty_state
    (answers Planned (first_plan ∷ []) ∷ answers Planned (first_plan ∷ next_plan ∷ []) ∷ []) ≡ turn_played told_two two_planned
again_1 = refl

abbrev pub at_four : SessionState
at_four = record two_planned { now = 4; plans = record first_plan { released = 2 } ∷ record next_plan { released = 1 } ∷ [] }

abbrev pub told_to_four : List Record
told_to_four = Release (j1 1 1) 1 (codes "feed") 3 5 ∷ Release (j1 1 1) 2 (codes "print2") 5 11 ∷ Release (j1 2 1) 1 (codes "feed") 5 7 ∷ []

pub again_2 : play duo (Clock 4) two_planned [] ≡ turn_played told_to_four at_four
again_2 = refl

abbrev pub lost_feed : Plan
lost_feed = front first_plan (act 0 ∷ []) (3 ∷ 5 ∷ []) 1

abbrev pub both_wait : SessionState
both_wait = record {
  now = 4;
  plans = lost_feed ∷ [];
  lost = sheet 0 1 1 ∷ [];
  jobs = job (codes "j1") 3 ∷ [];
  waiting = waits (sheet 0 1 2) mono_sheet ∷ waits (sheet 0 2 1) mono_sheet ∷ [];
  outs = record { 0 = 1 };
  refills = no_refills;
}

abbrev pub told_loss : List Record
told_loss =
    Lost (j1 1 1) ∷ Recall (j1 1 1) 2 ∷ Recall (j1 2 1) 1 ∷ Withdraw (j1 2 1) ∷ Again (j1 1 2)
    ∷ TellsNever (j1 1 2) (Some (codes "t")) ∷ []

pub again_3 : play duo (Jam (codes "FEED")) at_four (settles (lost_feed ∷ []) ∷ answers Never (lost_feed ∷ []) ∷ []) ≡ turn_played told_loss both_wait
again_3 = refl

abbrev pub second_plan : Plan
second_plan = whole (sheet 0 1 2) (codes "j1") mono_sheet 3 (act 0 ∷ act 2 ∷ act 3 ∷ []) (7 ∷ 9 ∷ 15 ∷ 18 ∷ []) 0

abbrev pub next_again : Plan
next_again = whole (sheet 0 2 1) (codes "j1") mono_sheet 3 (act 0 ∷ act 1 ∷ act 3 ∷ []) (9 ∷ 11 ∷ 20 ∷ 23 ∷ []) 0

abbrev pub replanned : SessionState
replanned = record both_wait { plans = lost_feed ∷ second_plan ∷ next_again ∷ []; waiting = []; outs = none_out }

abbrev pub told_again : List Record
told_again =
    TellsPlan (j1 1 2) (codes "t") (7 ∷ 9 ∷ 15 ∷ 18 ∷ []) (codes "feed" ∷ codes "print2" ∷ codes "out" ∷ [])
    ∷ TellsPlan (j1 2 1) (codes "t") (9 ∷ 11 ∷ 20 ∷ 23 ∷ []) (codes "feed" ∷ codes "print1" ∷ codes "out" ∷ []) ∷ []

pub again_4 : play duo (On (codes "FEED")) both_wait
    (answers Planned (lost_feed ∷ second_plan ∷ []) ∷ answers Planned (lost_feed ∷ second_plan ∷ next_again ∷ []) ∷ []) ≡ turn_played told_again replanned
again_4 = refl

abbrev pub told_both_done : List Record
told_both_done =
    Release (j1 1 2) 1 (codes "feed") 7 9 ∷ Release (j1 1 2) 2 (codes "print2") 9 15 ∷ Release (j1 2 1) 1 (codes "feed") 9 11
    ∷ Release (j1 2 1) 2 (codes "print1") 11 20 ∷ Release (j1 1 2) 3 (codes "out") 15 18 ∷ Done (j1 1 2) (codes "t") 18
    ∷ Release (j1 2 1) 3 (codes "out") 20 23 ∷ Done (j1 2 1) (codes "t") 23 ∷ []

pub again_5 : play duo (Clock 30) replanned []
    ≡ turn_played told_both_done (record replanned { now = 30; plans = lost_feed ∷ record second_plan { released = 3 } ∷ record next_again { released = 3 } ∷ [] })
again_5 = refl

abbrev pub again_log : List (Entry ℕ)
again_log =
    record { event = NewJob (codes "j1") (codes "t") (codes "plain") (group 2 ∷ []); records = told_two; trees = [] }
    ∷ record { event = Clock 4; records = told_to_four; trees = [] }
    ∷ record { event = Jam (codes "FEED"); records = told_loss; trees = [] }
    ∷ record { event = On (codes "FEED"); records = told_again; trees = [] }
    ∷ record { event = Clock 30; records = told_both_done; trees = [] }
    ∷ []

-- the second copy of the lost sheet, and then the next sheet
pub both_are_received : received (codes "t") (records_of again_log) ≡ j1 1 2 ∷ j1 2 1 ∷ []
both_are_received = refl

pub second_is_earlier : is_earlier (arrivals again_log) (sheet_ref (j1 1 2)) (sheet_ref (j1 2 1)) ≡ true
second_is_earlier = refl
