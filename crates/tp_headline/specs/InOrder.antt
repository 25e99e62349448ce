-- In which order things are reported: by moment as the clock moves, and by copy where a job breaks.
use Rattle.std.specs.Prelude.{◌≡◌, ◌<◌, ◌⊎◌, ℕ, Bool, true, false, ◌&&◌, ◌||◌, nat_lt, List, ◌∷◌, ◌++◌, map, flat_map, All, AllPairs, IsTrue, IsFalse, IsPermutation}
use Rattle.tp_machine.specs.declared.machine.Machine.{Machine}
use Rattle.tp_schedule.specs.Plans.{IsEarlier, is_before, is_same_copy}
use Rattle.tp_schedule.specs.declared.parts.Plan.{Plan}
use Rattle.tp_schedule.specs.declared.records.Record.{Record}
use Rattle.tp_schedule.specs.declared.records.Record.TheVariants.{Broken}
use Rattle.tp_event_rules.specs.Clock.{Told, deliveries, releases, clock_tells}
use Rattle.tp_event_rules.specs.FallBacks.{Notice, notices_of_waiting, notices_of_plans, job_break}
use Rattle.tp_event_rules.specs.StateInvariants.{is_planned_among}
use Rattle.tp_event_rules.specs.Labels.{job_name}
use Rattle.tp_event_rules.specs.States.{SessionState}
use Rattle.tp_event_rules.specs.declared.tell.Tell.{Tell}
use Rattle.tp_event_rules.specs.declared.tell.Tell.TheVariants.{Done, Release}

-- of what is reported of one moment, deliveries come before releases, then copies in their order, and a copy's actions by number
abbrev pub comes_first : Tell → Tell → Bool
comes_first (Done copy place at) (Done other place' at') = is_before copy other
comes_first (Done copy place at) (Release other number act start end) = true
comes_first (Release copy number act start end) (Done other place at) = false
comes_first (Release copy number act start end) (Release other number' act' start' end') =
    is_before copy other || (is_same_copy copy other && nat_lt number number')

-- the first one's moment is sooner, or it is the same and the first one comes first
abbrev pub IsToldBefore : Told → Told → Type 0
IsToldBefore t u = (t.at < u.at) ⊎ ((t.at ≡ u.at) × IsTrue (comes_first t.tell u.tell))

-- what there is to tell as the clock moves: the deliveries and the releases of the plans, each with its moment
abbrev pub to_tell : Machine → ℕ → ℕ → List Plan → List Told
to_tell machine now to plans = flat_map (deliveries machine now to) plans ++ flat_map (releases machine to) plans

-- all of it is reported, and no more, in this order
pub record AreToldInOrder (machine : Machine) (now to : ℕ) (plans : List Plan) (tells : List Tell) : Type 0 where
  pub timed : List Told
  pub told : map (λ t. t.tell) timed ≡ tells
  pub same : IsPermutation (to_tell machine now to plans) timed
  pub in_order : AllPairs IsToldBefore timed

-- the clock tells in order, where the plans stand in the order of copies
abbrev pub ClockTellsInOrder : Type 0
ClockTellsInOrder = (machine : Machine) (now to : ℕ) (plans : List Plan) → AllPairs IsEarlier plans
    → AreToldInOrder machine now to plans (clock_tells machine now to plans)

-- the first one's copy comes before the other's
abbrev pub IsNoticedBefore : Notice → Notice → Type 0
IsNoticedBefore n m = IsTrue (is_before n.sheet m.sheet)

-- behind the record of the broken job, the records of each copy of it that waits and of each plan, copy by copy
pub record AreToldByCopy (s : SessionState) (job : ℕ) (records : List Record) : Type 0 where
  pub notices : List Notice
  pub told : Broken (job_name s.jobs job) ∷ flat_map (λ n. n.records) notices ≡ records
  pub same : IsPermutation (notices_of_waiting s job ++ notices_of_plans s job) notices
  pub in_order : AllPairs IsNoticedBefore notices

-- a break tells in order, where the copies that wait and the plans stand in order, and no copy that waits has a plan
abbrev pub BreaksTellInOrder : Type 0
BreaksTellInOrder = (s : SessionState) (job : ℕ) → AllPairs (λ v w. IsTrue (is_before v.sheet w.sheet)) s.waiting
    → All (λ w. IsFalse (is_planned_among s.plans w.sheet)) s.waiting → AllPairs IsEarlier s.plans
    → AreToldByCopy s job (job_break job s).records
