-- The breaking of a job, and the fall-back of a copy that cannot reach its tray in its turn.
use Rattle.std.specs.Prelude.{ℕ, Bool, not, ◌&&◌, ◌==◌, List, [], ◌∷◌, ◌++◌, map, filter, flat_map, if◌then◌else◌}
use Rattle.std.specs.List.{list_any}
use Rattle.tp_machine.specs.declared.parts.Sheet.{Sheet}
use Rattle.tp_schedule.specs.Plans.{is_before}
use Rattle.tp_schedule.specs.declared.parts.Plan.{Plan}
use Rattle.tp_schedule.specs.declared.parts.SheetId.{SheetId}
use Rattle.tp_schedule.specs.declared.records.Record.{Record}
use Rattle.tp_schedule.specs.declared.records.Record.TheVariants.{Again, Broken, Drop}
use Rattle.tp_jobs.specs.Backlogs.{mark_broken, next_copy}
use Rattle.tp_jobs.specs.WaitingCopies.{put_waiting}
use Rattle.tp_event_rules.specs.States.{SessionState, Outcome, nothing_told, and_then}
use Rattle.tp_event_rules.specs.Lines.{is_same_line, is_job_broken, is_lost, is_of_job}
use Rattle.tp_event_rules.specs.Labels.{job_name, label}
use Rattle.tp_event_rules.specs.Moments.{is_in_flight, is_unstarted, is_entering, is_to_tray}
use Rattle.tp_event_rules.specs.Fates as fates
use Rattle.tp_event_rules.specs.Fates.{Fate, told_of, told_by, befall}

-- the plan of a copy that is not lost
abbrev pub is_copy : SessionState → Plan → Bool
is_copy s p = not (is_lost s p)

-- in flight, with its tray as goal
abbrev pub is_on_its_way : ℕ → Plan → Bool
is_on_its_way now p = is_in_flight now p && is_to_tray p.goal

-- A job breaks: a copy that waits or is unstarted is gone, and one on its way is purged unless it is entering. An
-- entering copy is delivered.

abbrev pub fate_in_break : SessionState → ℕ → Plan → Fate
fate_in_break s job p =
    if not ((p.sheet.job == job) && is_copy s p) then fates.stays else
    (if is_unstarted s.now p then fates.dropped else
    (if is_on_its_way s.now p && not (is_entering s.now p) then fates.purged else fates.stays))

-- what is reported of a copy, for an order by copies
pub record Notice : Type 0 where
  pub sheet : SheetId
  pub records : List Record

abbrev pub put_notice : Notice → List Notice → List Notice
put_notice n [] = n ∷ []
put_notice n (m ∷ ms) = if is_before m.sheet n.sheet then m ∷ put_notice n ms else (n ∷ m ∷ ms)

abbrev pub by_copy : List Notice → List Notice
by_copy [] = []
by_copy (n ∷ ns) = put_notice n (by_copy ns)

abbrev pub notices_of_waiting : SessionState → ℕ → List Notice
notices_of_waiting s job =
    map (λ w. record { sheet = w.sheet; records = Drop (label s.jobs w.sheet) ∷ [] }) (filter (is_of_job job) s.waiting)

abbrev pub notices_of_plans : SessionState → ℕ → List Notice
notices_of_plans s job =
    map (λ p. record { sheet = p.sheet; records = told_of s.jobs s.now p (fate_in_break s job p) }) s.plans

abbrev pub without_job : ℕ → SessionState → SessionState
without_job job s = record s {
  jobs = mark_broken job s.jobs;
  waiting = filter (λ w. not (is_of_job job w)) s.waiting;
}

abbrev pub job_break : ℕ → SessionState → Outcome
job_break job s = record {
  records = Broken (job_name s.jobs job) ∷ flat_map (λ n. n.records) (by_copy (notices_of_waiting s job ++ notices_of_plans s job));
  state = without_job job (befall (fate_in_break s job) s);
}

-- The fall-back: the later copies of the line wait again or are replaced, unless one of them is entering, which breaks
-- the job.

-- a copy that was displaced, what its sheet wants, and whether a next copy of the sheet is to wait
pub record Displaced : Type 0 where
  pub sheet : SheetId
  pub want : Sheet
  pub again : Bool

abbrev pub is_later : SessionState → SheetId → Plan → Bool
is_later s copy p = is_before copy p.sheet && is_same_line s.jobs copy p.sheet && is_copy s p

abbrev pub fate_in_fall_back : SessionState → SheetId → Plan → Fate
fate_in_fall_back s copy p =
    if not (is_later s copy p) then fates.stays else
    (if is_unstarted s.now p then fates.withdrawn else
    (if is_on_its_way s.now p then fates.replaced else fates.stays))

abbrev pub next_waits : Displaced → SessionState → Outcome
next_waits d s =
    if d.again
    then record {
      records = Again (label s.jobs (next_copy d.sheet)) ∷ [];
      state = record s { waiting = put_waiting s.waiting (record { sheet = next_copy d.sheet; want = d.want }) };
    }
    else nothing_told s

abbrev pub later_fall_back : SheetId → SessionState → Outcome
later_fall_back copy s = record {
  records = told_by (fate_in_fall_back s copy) s;
  state = befall (fate_in_fall_back s copy) s;
}

abbrev pub is_line_entering : SessionState → SheetId → Bool
is_line_entering s copy = list_any (λ p. is_later s copy p && is_entering s.now p) s.plans

abbrev pub fall_back : SessionState → Displaced → Outcome
fall_back s d =
    if is_line_entering s d.sheet
    then job_break d.sheet.job s
    else and_then (next_waits d s) (later_fall_back d.sheet)

abbrev pub fall_back_unless_broken : SessionState → Displaced → Outcome
fall_back_unless_broken s d = if is_job_broken s.jobs d.sheet.job then nothing_told s else fall_back s d
