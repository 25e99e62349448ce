-- What holds of lines and sheets in the midst of an outage, while some copies that were displaced are still to fall back.
use Rattle.std.proofs.Common.{◌≡◌, ℕ, ◌+◌, ◌-◌, ◌<◌, ◌≤◌, ◌⊎◌, inl, inr, Bool, true, false, ◌&&◌, not, List, map, filter, length, refl, ap, arith, AllPairs, Any, Contains, subst}
use Rattle.std.specs.Prelude.{count_by}
use Rattle.std.proofs.lemmas.Bool.{and_parts}
use Rattle.std.proofs.lemmas.Bool.Decides.{nat_tests}
use Rattle.tp_machine.specs.declared.machine.Machine.{Machine}
use Rattle.tp_jobs.specs.Backlogs.{WaitsBefore, tray_of}
use Rattle.tp_jobs.specs.declared.parts.Job.{Job}
use Rattle.tp_jobs.specs.declared.parts.WaitingCopy.{WaitingCopy}
use Rattle.tp_schedule.specs.Plans.{IsEarlier, end_of_plan, is_before, is_delivered_to, is_front, point}
use Rattle.tp_schedule.specs.Legality.{EndsBefore}
use Rattle.tp_schedule.proofs.Pairs.{AllPairs-either}
use Rattle.tp_schedule.specs.declared.parts.Plan.{Plan}
use Rattle.tp_schedule.specs.declared.parts.SheetId.{SheetId}
use Rattle.tp_event_rules.specs.StateInvariants.{open_copies, is_copy_of, is_known, is_of_its_job, is_same_sheet}
use Rattle.tp_event_rules.specs.FallBacks.{Displaced, is_copy}
use Rattle.tp_event_rules.specs.Lines.{is_job_broken, is_lost, is_same_line}
use Rattle.tp_event_rules.specs.Moments.{is_to_tray, is_tray_plan}
use Rattle.tp_event_rules.specs.States.{SessionState}
use Rattle.tp_outage_laws.proofs.Counts.{count-one, count-two}
use Rattle.tp_outage_laws.proofs.JobFacts.{unbroken}
use Rattle.tp_outage_laws.proofs.Midway.{IsMid}
use Rattle.tp_outage_laws.proofs.PlanFacts.{is-delivered, not-false}
use Rattle.tp_outage_laws.proofs.Waits.{waiting_of}

-- what an outage begins with: the jobs, which numbers are sheets of a job, and of which jobs sheets may have no copy
pub record Outset : Type 0 where
  pub jobs : List Job
  pub is_sheet : ℕ → ℕ → Bool
  pub exempt : ℕ → Bool

abbrev pub is_sheet_in : Outset → SheetId → Bool
is_sheet_in base c = base.is_sheet c.job c.number

-- the sheet must have a copy
abbrev pub is_wanted : Outset → ℕ → ℕ → Bool
is_wanted base job number = not (base.exempt job) && base.is_sheet job number

abbrev pub outset_of : SessionState → (ℕ → ℕ → Bool) → (ℕ → Bool) → Outset
outset_of s is_sheet exempt = record { jobs = s.jobs; is_sheet = is_sheet; exempt = exempt }

-- copies are of sheets, and each sheet that must have a copy has an open one
pub record HasSheets (base : Outset) (s : SessionState) : Type 0 where
  pub waiting : (w : WaitingCopy) → Contains s.waiting w → is_sheet_in base w.sheet ≡ true
  pub planned : (p : Plan) → Contains s.plans p → is_sheet_in base p.sheet ≡ true
  pub each : (job number : ℕ) → job < length base.jobs → is_job_broken s.jobs job ≡ false → is_wanted base job number ≡ true
      → Any (λ copy. is_copy_of job number copy ≡ true) (open_copies s)

-- a planned copy is open where it is not lost and its goal is its tray
abbrev pub is_open : SessionState → Plan → Bool
is_open s p = is_copy s p && is_to_tray p.goal

-- of the copies that pass a test, how many wait, are open, and are to wait: a test of plans, and of their sheets
abbrev pub open_by : SessionState → (Plan → Bool) → Plan → Bool
open_by s of_plan p = is_open s p && of_plan p

abbrev pub waits_by : (SheetId → Bool) → WaitingCopy → Bool
waits_by of_sheet w = of_sheet w.sheet

abbrev pub pending_by : (SheetId → Bool) → Displaced → Bool
pending_by of_sheet d = d.again && of_sheet d.sheet

abbrev pub total_by : (Plan → Bool) → (SheetId → Bool) → SessionState → List Displaced → ℕ
total_by of_plan of_sheet s ds = count_by (waits_by of_sheet) s.waiting + (count_by (open_by s of_plan) s.plans + count_by (pending_by of_sheet) ds)

-- of the copies of a sheet
abbrev pub open_of : SessionState → ℕ → ℕ → Plan → Bool
open_of s job number p = is_open s p && is_copy_of job number p.sheet

abbrev pub pending_of : ℕ → ℕ → Displaced → Bool
pending_of job number d = d.again && is_copy_of job number d.sheet

abbrev pub total : ℕ → ℕ → SessionState → List Displaced → ℕ
total job number s ds = total_by (λ p. is_copy_of job number p.sheet) (is_copy_of job number) s ds

-- a copy that is still to fall back while it waits
pub record IsPending (ds : List Displaced) (copy : SheetId) : Type 0 where
  pub d : Displaced
  pub there : Contains ds d
  pub waits : d.again ≡ false
  pub is : d.sheet ≡ copy

-- a copy that waits is a sheet of a job that came and is not broken
pub record IsWaiter (base : Outset) (s : SessionState) (w : WaitingCopy) : Type 0 where
  pub known : is_known base.jobs w.sheet ≡ true
  pub sheet : is_sheet_in base w.sheet ≡ true
  pub whole : is_job_broken s.jobs w.sheet.job ≡ false

-- a plan of its job, for one of its sheets; one that is to be purged has started, and of a broken job one to the tray
-- is whole and its last action has started
pub record IsPlanned (base : Outset) (s : SessionState) (p : Plan) : Type 0 where
  pub own : is_of_its_job base.jobs p ≡ true
  pub sheet : is_sheet_in base p.sheet ≡ true
  pub purge : is_to_tray p.goal ≡ false → point p 0 ≤ s.now
  pub broken : is_open s p ≡ true → is_job_broken s.jobs p.sheet.job ≡ true → (is_front p.kind ≡ false) × (point p (length p.acts - 1) ≤ s.now)
  pub lost : is_lost s p ≡ true → is_front p.kind ≡ true

pub record Falls (machine : Machine) (base : Outset) (ex : ℕ → Bool) (s : SessionState) (ds : List Displaced) : Type 0 where
  pub same : map unbroken s.jobs ≡ map unbroken base.jobs
  pub mid : IsMid machine s
  pub in_order : AllPairs WaitsBefore s.waiting
  pub waiters : (w : WaitingCopy) → Contains s.waiting w → IsWaiter base s w
  pub planned : (p : Plan) → Contains s.plans p → IsPlanned base s p
  pub pending : (d : Displaced) → Contains ds d → (is_known base.jobs d.sheet ≡ true) × (is_sheet_in base d.sheet ≡ true)
  pub lost_are : map (λ p. p.sheet) (filter (is_lost s) s.plans) ≡ s.lost
  -- of each sheet at most one copy, and of each sheet of a job that is not broken one, but for jobs that are to break
  pub once : (job number : ℕ) → total job number s ds ≤ 1
  pub each : (job number : ℕ) → job < length base.jobs → is_job_broken s.jobs job ≡ false → ex job ≡ false → is_wanted base job number ≡ true → 1 ≤ total job number s ds
  -- all other copies of the sheet are older
  pub older_waiting : (p : Plan) (w : WaitingCopy) → Contains s.plans p → Contains s.waiting w → is_same_sheet p.sheet w.sheet ≡ true → p.sheet.copy < w.sheet.copy
  pub older_pending : (p : Plan) (d : Displaced) → Contains s.plans p → Contains ds d → d.again ≡ true → is_same_sheet p.sheet d.sheet ≡ true → p.sheet.copy ≤ d.sheet.copy
  pub older_planned : (p q : Plan) → Contains s.plans p → Contains s.plans q → is_open s p ≡ false → is_open s q ≡ true → is_same_sheet p.sheet q.sheet ≡ true → p.sheet.copy < q.sheet.copy
  -- no copy that waits stands before an open one of its line, but for those that are still to fall back
  pub line : (w : WaitingCopy) (p : Plan) → Contains s.waiting w → Contains s.plans p → is_open s p ≡ true → is_same_line base.jobs w.sheet p.sheet ≡ true → (is_before p.sheet w.sheet ≡ true) ⊎ IsPending ds w.sheet
  -- what was delivered stands before all that is not
  pub ended_waiting : (p : Plan) (w : WaitingCopy) → Contains s.plans p → is_open s p ≡ true → end_of_plan p ≤ s.now → Contains s.waiting w → is_same_line base.jobs w.sheet p.sheet ≡ true → is_before p.sheet w.sheet ≡ true
  pub ended_pending : (p : Plan) (d : Displaced) → Contains s.plans p → is_open s p ≡ true → end_of_plan p ≤ s.now → Contains ds d → is_same_line base.jobs d.sheet p.sheet ≡ true → is_before p.sheet d.sheet ≡ true
  pub ended_front : (p q : Plan) → Contains s.plans p → is_open s p ≡ true → end_of_plan p ≤ s.now → Contains s.plans q → is_open s q ≡ true → is_front q.kind ≡ true → is_same_line base.jobs q.sheet p.sheet ≡ true → is_before p.sheet q.sheet ≡ true

pub of-copy : (a b : SheetId) → is_same_sheet a b ≡ true → is_copy_of b.job b.number a ≡ true
of-copy a b e = grind (arith, nat_tests)

pub own-copy : (a : SheetId) → is_copy_of a.job a.number a ≡ true
own-copy a = grind (arith, nat_tests)

pub both-true : (a b : Bool) → a ≡ true → b ≡ true → (a && b) ≡ true
both-true a b e f = rw (e, f) refl

abbrev pub none_breaks : ℕ → Bool
none_breaks job = false

module _ (machine : Machine) (base : Outset) (ex : ℕ → Bool) (s : SessionState) (ds : List Displaced) (f : Falls machine base ex s ds) where
  -- two open copies of one sheet are one
  pub one-open : (p q : Plan) → Contains s.plans p → Contains s.plans q → is_open s p ≡ true → is_open s q ≡ true → is_same_sheet p.sheet q.sheet ≡ true → p ≡ q
  one-open p q in' in'' op op' same =
      let few = f.once q.sheet.job q.sheet.number in
      count-two (open_of s q.sheet.job q.sheet.number) s.plans p q (omega arith) in' in''
      (both-true (is_open s p) _ op (of-copy p.sheet q.sheet same)) (both-true (is_open s q) _ op' (own-copy q.sheet))

  pub none-waits : (p : Plan) (w : WaitingCopy) → Contains s.plans p → Contains s.waiting w → is_open s p ≡ true → is_same_sheet p.sheet w.sheet ≡ true → ⊥
  none-waits p w in' in'' op same =
      let few = f.once w.sheet.job w.sheet.number in
      let one = count-one (waiting_of w.sheet.job w.sheet.number) s.waiting w in'' (own-copy w.sheet) in
      let other = count-one (open_of s w.sheet.job w.sheet.number) s.plans p in' (both-true (is_open s p) _ op (of-copy p.sheet w.sheet same)) in
      omega arith

  -- an open copy that ended is whole
  pub ended-whole : (p : Plan) → Contains s.plans p → is_open s p ≡ true → end_of_plan p ≤ s.now → is_front p.kind ≡ false
  ended-whole p in' op past = go (is_front p.kind) refl where
    go : (b : Bool) → is_front p.kind ≡ b → b ≡ false
    go true e = absurd (let flies = f.mid.flying p in' e (not-false (is_lost s p) (and_parts (is_copy s p) (is_to_tray p.goal) op).0) in let ends = flies.ends in omega arith)
    go false e = refl

  both-orders : AllPairs (λ p q. IsEarlier p q × EndsBefore p q) s.plans
  both-orders i j d before within = (f.mid.plans.legal.in_order i j d before within, f.mid.plans.legal.rise i j d before within)

  same-line-tray : (a b : SheetId) → is_same_line base.jobs a b ≡ true → (tray_of base.jobs a).0 ≡ (tray_of base.jobs b).0
  same-line-tray a b e = grind (arith, nat_tests)

  -- what was delivered stands before each open copy that was not
  pub ended-open : (p q : Plan) → Contains s.plans p → is_open s p ≡ true → end_of_plan p ≤ s.now → Contains s.plans q → is_open s q ≡ true → s.now < end_of_plan q → is_same_line base.jobs q.sheet p.sheet ≡ true → is_before p.sheet q.sheet ≡ true
  ended-open p q in' op past in'' op' ends line = go (is_front q.kind) refl where
    tray : (x : Plan) → is_open s x ≡ true → is_front x.kind ≡ false → is_tray_plan x ≡ true
    tray x o w = both-true (not (is_front x.kind)) (is_to_tray x.goal) (rw w refl) (and_parts (is_copy s x) (is_to_tray x.goal) o).1

    go : (b : Bool) → is_front q.kind ≡ b → is_before p.sheet q.sheet ≡ true
    go true e = f.ended_front p q in' op past in'' op' e line
    go false e = elim (AllPairs-either (λ p q. IsEarlier p q × EndsBefore p q) s.plans p q both-orders in' in'' (λ is. absurd (let same : end_of_plan p ≡ end_of_plan q = ap end_of_plan is in omega arith))) [
      | inl both ↦ both.0
      | inr back ↦ absurd (
          let to = is-delivered base.jobs p (tray p op (ended-whole p in' op past)) (f.planned p in').own in
          let to' = is-delivered base.jobs q (tray q op' e) (f.planned q in'').own in
          let first : end_of_plan q < end_of_plan p = back.1 (tray_of base.jobs p.sheet).0 (subst (λ n. is_delivered_to q n ≡ true) (same-line-tray q.sheet p.sheet line) to') to in
          omega arith)
    ]
