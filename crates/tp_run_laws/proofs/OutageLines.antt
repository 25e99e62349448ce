-- What an outage, a break, a fall-back and a move of the clock tell has lines.
use Rattle.std.proofs.Common.{ℕ, Bool, true, false, cond, List, [], ◌∷◌, ◌++◌, map, filter, flat_map, All}
use Rattle.std.proofs.lemmas.List.Elements.{All-append, All-cons, All-head, All-map, All-nil, All-tail}
use Rattle.tp_machine.specs.declared.machine.Machine.{Machine}
use Rattle.tp_jobs.specs.declared.parts.Job.{Job}
use Rattle.tp_jobs.specs.Backlogs.{next_copy}
use Rattle.tp_run_laws.proofs.ToldRecords.{IsTold}
use Rattle.tp_schedule.specs.Plans.{is_before}
use Rattle.tp_schedule.specs.declared.parts.Plan.{Plan}
use Rattle.tp_schedule.specs.declared.records.Record.{Record}
use Rattle.tp_schedule.specs.declared.records.Record.TheVariants.{Again, Broken, Cut, Drop, Lost, Purge, Recall, Withdraw}
use Rattle.tp_event_rules.specs.Clock.{clock_tells, clock_records, record_of}
use Rattle.tp_event_rules.specs.FallBacks.{Displaced, Notice, by_copy, fall_back, fall_back_unless_broken, fate_in_break, fate_in_fall_back, is_line_entering, job_break, later_fall_back, next_waits, notices_of_plans, notices_of_waiting, put_notice}
use Rattle.tp_event_rules.specs.Fates as fates
use Rattle.tp_event_rules.specs.Fates.{Fate, recalls, told_by, told_of}
use Rattle.tp_event_rules.specs.Labels.{label}
use Rattle.tp_event_rules.specs.Lines.{is_job_broken, is_of_job}
use Rattle.tp_event_rules.specs.Moments.{recalled}
use Rattle.tp_event_rules.specs.Outages.{displaced, fate_of_running, fate_unless_lost, going_out, outage}
use Rattle.tp_event_rules.specs.States.{Outcome, SessionState, and_then, for_each, nothing_told}
use Rattle.tp_event_rules.specs.declared.tell.Tell.{Tell}
use Rattle.tp_event_rules.specs.declared.tell.Tell.TheVariants.{Done as TellsDone, Release as TellsRelease}

abbrev pub HaveLines : List Record → Type 0
HaveLines records = All IsTold records

pub none : HaveLines []
none = All-nil IsTold

pub one : (r : Record) → IsTold r → HaveLines (r ∷ [])
one r has = All-cons IsTold r [] has none

pub both : (first rest : List Record) → HaveLines first → HaveLines rest → HaveLines (first ++ rest)
both first rest has have = All-append IsTold first rest has have

pub of-each : {X : Type 0} (f : X → List Record) → ((x : X) → HaveLines (f x)) → (xs : List X) → HaveLines (flat_map f xs)
of-each f each [] = none
of-each f each (x ∷ xs) = both (f x) (flat_map f xs) (each x) (of-each f each xs)

pub of-map : {X : Type 0} (f : X → Record) → ((x : X) → IsTold (f x)) → (xs : List X) → HaveLines (map f xs)
of-map f each [] = none
of-map f each (x ∷ xs) = All-cons IsTold (f x) (map f xs) (each x) (of-map f each xs)

pub of-either : (b : Bool) (o q : Outcome) → HaveLines o.records → HaveLines q.records → HaveLines (cond b o q).records
of-either true o q has have = has
of-either false o q has have = have

pub of-for_each : {X : Type 0} (part : SessionState → X → Outcome) → ((s : SessionState) (x : X) → HaveLines (part s x).records) → (xs : List X) (s : SessionState) → HaveLines (for_each part xs s).records
of-for_each part each [] s = none
of-for_each part each (x ∷ xs) s = both (part s x).records (for_each part xs (part s x).state).records (each s x) (of-for_each part each xs (part s x).state)

-- what befalls a copy
lines-recalls : (jobs : List Job) (now : ℕ) (p : Plan) → HaveLines (recalls jobs now p)
lines-recalls jobs now p = of-map (λ run. Recall (label jobs p.sheet) run.number) (λ run. tt) (recalled now p)

lines-told_of : (jobs : List Job) (now : ℕ) (p : Plan) (f : Fate) → HaveLines (told_of jobs now p f)
lines-told_of jobs now p fates.stays = none
lines-told_of jobs now p fates.lost = All-cons IsTold (Lost (label jobs p.sheet)) (recalls jobs now p) tt (lines-recalls jobs now p)
lines-told_of jobs now p fates.withdrawn = both (recalls jobs now p) (Withdraw (label jobs p.sheet) ∷ []) (lines-recalls jobs now p) (one (Withdraw (label jobs p.sheet)) tt)
lines-told_of jobs now p fates.cut = both (recalls jobs now p) (Cut (label jobs p.sheet) ∷ []) (lines-recalls jobs now p) (one (Cut (label jobs p.sheet)) tt)
lines-told_of jobs now p fates.purged = both (recalls jobs now p) (Purge (label jobs p.sheet) ∷ []) (lines-recalls jobs now p) (one (Purge (label jobs p.sheet)) tt)
lines-told_of jobs now p fates.replaced = both (recalls jobs now p) (Purge (label jobs p.sheet) ∷ Again (label jobs (next_copy p.sheet)) ∷ []) (lines-recalls jobs now p)
    (All-cons IsTold (Purge (label jobs p.sheet)) (Again (label jobs (next_copy p.sheet)) ∷ []) tt (one (Again (label jobs (next_copy p.sheet))) tt))
lines-told_of jobs now p fates.dropped = both (recalls jobs now p) (Drop (label jobs p.sheet) ∷ []) (lines-recalls jobs now p) (one (Drop (label jobs p.sheet)) tt)

lines-told_by : (fate : Plan → Fate) (s : SessionState) → HaveLines (told_by fate s)
lines-told_by fate s = of-each (λ p. told_of s.jobs s.now p (fate p)) (λ p. lines-told_of s.jobs s.now p (fate p)) s.plans

-- a break: the notices stand by copy
abbrev IsLined : Notice → Type 0
IsLined n = HaveLines n.records

lined-put : (n : Notice) (ms : List Notice) → IsLined n → All IsLined ms → All IsLined (put_notice n ms)
lined-put n [] has all = All-cons IsLined n [] has (All-nil IsLined)
lined-put n (m ∷ ms) has all = go (is_before m.sheet n.sheet) (lined-put n ms has (All-tail IsLined m ms all)) where
  go : (b : Bool) → All IsLined (put_notice n ms) → All IsLined (cond b (m ∷ put_notice n ms) (n ∷ m ∷ ms))
  go true rest = All-cons IsLined m (put_notice n ms) (All-head IsLined m ms all) rest
  go false rest = All-cons IsLined n (m ∷ ms) has all

lined-by_copy : (ns : List Notice) → All IsLined ns → All IsLined (by_copy ns)
lined-by_copy [] all = All-nil IsLined
lined-by_copy (n ∷ ns) all = lined-put n (by_copy ns) (All-head IsLined n ns all) (lined-by_copy ns (All-tail IsLined n ns all))

lines-notices : (ns : List Notice) → All IsLined ns → HaveLines (flat_map (λ n. n.records) ns)
lines-notices [] all = none
lines-notices (n ∷ ns) all = both n.records (flat_map (λ n. n.records) ns) (All-head IsLined n ns all) (lines-notices ns (All-tail IsLined n ns all))

all-each : {X : Type 0} (Q : X → Type 0) → ((x : X) → Q x) → (xs : List X) → All Q xs
all-each Q each [] = All-nil Q
all-each Q each (x ∷ xs) = All-cons Q x xs (each x) (all-each Q each xs)

lines-job_break : (job : ℕ) (s : SessionState) → HaveLines (job_break job s).records
lines-job_break job s =
    let waited = All-map IsLined (λ w. record { sheet = w.sheet; records = Drop (label s.jobs w.sheet) ∷ [] }) (filter (is_of_job job) s.waiting)
    (all-each _ (λ w. one (Drop (label s.jobs w.sheet)) tt) (filter (is_of_job job) s.waiting)) in
    let planned = All-map IsLined (λ p. record { sheet = p.sheet; records = told_of s.jobs s.now p (fate_in_break s job p) }) s.plans
    (all-each _ (λ p. lines-told_of s.jobs s.now p (fate_in_break s job p)) s.plans) in
    let all = lined-by_copy (notices_of_waiting s job ++ notices_of_plans s job) (All-append IsLined (notices_of_waiting s job) (notices_of_plans s job) waited planned) in
    All-cons IsTold (Broken _) _ tt (lines-notices (by_copy (notices_of_waiting s job ++ notices_of_plans s job)) all)

-- a fall-back, and an outage
lines-next_waits : (d : Displaced) (s : SessionState) → HaveLines (next_waits d s).records
lines-next_waits d s = of-either d.again _ (nothing_told s) (one (Again (label s.jobs (next_copy d.sheet))) tt) none

pub lines-fall_back : (s : SessionState) (d : Displaced) → HaveLines (fall_back s d).records
lines-fall_back s d =
    of-either (is_line_entering s d.sheet) (job_break d.sheet.job s) (and_then (next_waits d s) (later_fall_back d.sheet)) (lines-job_break d.sheet.job s)
    (both (next_waits d s).records (later_fall_back d.sheet (next_waits d s).state).records (lines-next_waits d s) (lines-told_by (fate_in_fall_back (next_waits d s).state d.sheet) (next_waits d s).state))

lines-unless_broken : (s : SessionState) (d : Displaced) → HaveLines (fall_back_unless_broken s d).records
lines-unless_broken s d = of-either (is_job_broken s.jobs d.sheet.job) (nothing_told s) (fall_back s d) none (lines-fall_back s d)

pub lines-outage : (machine : Machine) (m : ℕ) (jam : Bool) (s : SessionState) → HaveLines (outage machine m jam s).records
lines-outage machine m jam s =
    both (going_out machine m jam s).records (for_each fall_back_unless_broken (displaced machine m jam s) (going_out machine m jam s).state).records
    (both (told_by (fate_of_running machine m jam s) s) (told_by (fate_unless_lost machine m jam s) s) (lines-told_by (fate_of_running machine m jam s) s) (lines-told_by (fate_unless_lost machine m jam s) s))
    (of-for_each fall_back_unless_broken lines-unless_broken (displaced machine m jam s) (going_out machine m jam s).state)

-- a move of the clock
pub line-tell : (machine : Machine) (jobs : List Job) (t : Tell) → IsTold (record_of machine jobs t)
line-tell machine jobs (TellsDone sheet place at) = tt
line-tell machine jobs (TellsRelease sheet number act start end) = tt

pub lines-clock : (machine : Machine) (s : SessionState) (to : ℕ) → HaveLines (clock_records machine s to)
lines-clock machine s to = of-map (record_of machine s.jobs) (line-tell machine s.jobs) (clock_tells machine s.now to s.plans)
