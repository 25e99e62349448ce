-- What a move of the clock tells.
use Rattle.std.specs.Prelude.{ℕ, ◌+◌, ◌-◌, Bool, not, ◌&&◌, nat_lt, nat_le, List, [], ◌∷◌, ◌++◌, map, flat_map, if◌then◌else◌}
use Rattle.tp_machine.specs.declared.machine.Machine.{Machine}
use Rattle.tp_schedule.specs.Plans.{end_of_plan, is_front}
use Rattle.tp_schedule.specs.Holders.{Run}
use Rattle.tp_schedule.specs.declared.parts.Plan.{Plan}
use Rattle.tp_schedule.specs.declared.records.Record.{Record}
use Rattle.tp_schedule.specs.declared.records.Record.TheVariants.{Release, Done}
use Rattle.tp_jobs.specs.declared.parts.Job.{Job}
use Rattle.tp_event_rules.specs.declared.tell.Tell.{Tell}
use Rattle.tp_event_rules.specs.declared.tell.Tell.TheVariants.{Done as TellsDone, Release as TellsRelease}
use Rattle.tp_event_rules.specs.States.{SessionState, Outcome}
use Rattle.tp_event_rules.specs.Labels.{label, location_name, action_name, end_location}
use Rattle.tp_event_rules.specs.Moments.{due_until, release_until}

-- what is reported, with its moment
pub record Told : Type 0 where
  pub at : ℕ
  pub tell : Tell

-- a release stands by the machine's lead before the start
abbrev pub release_of : Machine → Run → Told
release_of machine run =
    record { at = run.start - machine.lead; tell = TellsRelease run.sheet run.number run.act run.start run.end }

abbrev pub releases : Machine → ℕ → Plan → List Told
releases machine to p = map (release_of machine) (due_until (to + machine.lead) p)

-- a whole plan is done at its end
abbrev pub is_done_between : ℕ → ℕ → Plan → Bool
is_done_between now to p = not (is_front p.kind) && nat_lt now (end_of_plan p) && nat_le (end_of_plan p) to

abbrev pub delivery : Machine → Plan → Told
delivery machine p = record { at = end_of_plan p; tell = TellsDone p.sheet (end_location machine p) (end_of_plan p) }

abbrev pub deliveries : Machine → ℕ → ℕ → Plan → List Told
deliveries machine now to p = if is_done_between now to p then delivery machine p ∷ [] else []

-- by moment; what is reported at one moment keeps its order
abbrev pub put_told : Told → List Told → List Told
put_told t [] = t ∷ []
put_told t (u ∷ us) = if nat_le t.at u.at then t ∷ u ∷ us else (u ∷ put_told t us)

abbrev pub by_moment : List Told → List Told
by_moment [] = []
by_moment (t ∷ ts) = put_told t (by_moment ts)

-- what a move of the clock tells: by moment, at one moment deliveries before releases, then by copy
abbrev pub clock_tells : Machine → ℕ → ℕ → List Plan → List Tell
clock_tells machine now to plans =
    map (λ t. t.tell) (by_moment (flat_map (deliveries machine now to) plans ++ flat_map (releases machine to) plans))

-- the record of it, by names
abbrev pub record_of : Machine → List Job → Tell → Record
record_of machine jobs (TellsDone sheet loc at) = Done (label jobs sheet) (location_name machine loc) at
record_of machine jobs (TellsRelease sheet number act start end) =
    Release (label jobs sheet) number (action_name machine act) start end

abbrev pub clock_records : Machine → SessionState → ℕ → List Record
clock_records machine s to = map (record_of machine s.jobs) (clock_tells machine s.now to s.plans)

-- the plans after the releases
abbrev pub released_until : Machine → ℕ → List Plan → List Plan
released_until machine to plans = map (release_until (to + machine.lead)) plans

-- the clock moves: no point does
abbrev pub clock_move : Machine → ℕ → SessionState → Outcome
clock_move machine to s = record {
  records = clock_records machine s to;
  state = record s { now = to; plans = released_until machine to s.plans };
}
