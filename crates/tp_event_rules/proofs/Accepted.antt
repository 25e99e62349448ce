-- What befalls copies, breaks, fall-backs and outages tell no refusal.
use Rattle.std.proofs.Common.{◌≡◌, ℕ, Bool, true, false, cond, List, [], ◌∷◌, ◌++◌, map, flat_map, refl, All}
use Rattle.std.proofs.lemmas.List.Concat.{flat_map-cons}
use Rattle.std.proofs.lemmas.List.Elements.{All-nil, All-cons, All-head, All-tail, All-append}
use Rattle.tp_machine.specs.declared.machine.Machine.{Machine}
use Rattle.tp_jobs.specs.declared.parts.Job.{Job}
use Rattle.tp_schedule.specs.Plans.{is_before}
use Rattle.tp_schedule.specs.declared.parts.Plan.{Plan}
use Rattle.tp_schedule.specs.declared.records.Record.{Record}
use Rattle.tp_schedule.specs.declared.records.Record.TheVariants.{Again, Purge as PurgeTold}
use Rattle.tp_event_rules.specs.States.{SessionState, Outcome, nothing_told, and_then, for_each}
use Rattle.tp_jobs.specs.Backlogs.{next_copy}
use Rattle.tp_event_rules.specs.Lines.{is_job_broken}
use Rattle.tp_event_rules.specs.Labels.{label}
use Rattle.tp_event_rules.specs.Fates as fates
use Rattle.tp_event_rules.specs.Fates.{Fate, recalls, told_of, told_by}
use Rattle.tp_event_rules.specs.FallBacks.{Notice, put_notice, by_copy, notices_of_waiting, notices_of_plans, job_break, Displaced, next_waits, later_fall_back, is_line_entering, fall_back, fall_back_unless_broken, fate_in_break}
use Rattle.tp_event_rules.specs.Outages.{told_in_outage, fate_of_running, fate_unless_lost, displaced, going_out, outage}
use Rattle.tp_event_rules.specs.Moments.{recalled}
use Rattle.tp_event_rules.specs.Deliveries.{is_refusal}

-- a record that tells no refusal, and such records
abbrev pub IsOther : Record → Type 0
IsOther r = is_refusal r ≡ false

abbrev pub AreOthers : List Record → Type 0
AreOthers records = All IsOther records

pub others-nil : AreOthers []
others-nil = All-nil IsOther

pub others-one : (r : Record) → IsOther r → AreOthers (r ∷ [])
others-one r other = All-cons IsOther r [] other (All-nil IsOther)

pub others-map : {X : Type 0} (f : X → Record) → ((x : X) → IsOther (f x)) → (xs : List X) → AreOthers (map f xs)
others-map f each [] = All-nil IsOther
others-map f each (x ∷ xs) = All-cons IsOther (f x) (map f xs) (each x) (others-map f each xs)

pub others-flat_map : {X : Type 0} (f : X → List Record) → ((x : X) → AreOthers (f x)) → (xs : List X) → AreOthers (flat_map f xs)
others-flat_map f each [] = All-nil IsOther
others-flat_map f each (x ∷ xs) = rw (flat_map-cons f x xs) (All-append IsOther (f x) (flat_map f xs) (each x) (others-flat_map f each xs))

-- what befalls the copies
others-told_of : (jobs : List Job) (now : ℕ) (p : Plan) (f : Fate) → AreOthers (told_of jobs now p f)
others-told_of jobs now p fates.stays = others-nil
others-told_of jobs now p fates.lost = All-cons IsOther _ (recalls jobs now p) refl (others-map _ (λ run. refl) (recalled now p))
others-told_of jobs now p fates.withdrawn = All-append IsOther (recalls jobs now p) _ (others-map _ (λ run. refl) (recalled now p)) (others-one _ refl)
others-told_of jobs now p fates.cut = All-append IsOther (recalls jobs now p) _ (others-map _ (λ run. refl) (recalled now p)) (others-one _ refl)
others-told_of jobs now p fates.purged = All-append IsOther (recalls jobs now p) _ (others-map _ (λ run. refl) (recalled now p)) (others-one _ refl)
others-told_of jobs now p fates.replaced =
    All-append IsOther (recalls jobs now p) _ (others-map _ (λ run. refl) (recalled now p)) (All-cons IsOther (PurgeTold (label jobs p.sheet)) (Again (label jobs (next_copy p.sheet)) ∷ []) refl (others-one (Again (label jobs (next_copy p.sheet))) refl))
others-told_of jobs now p fates.dropped = All-append IsOther (recalls jobs now p) _ (others-map _ (λ run. refl) (recalled now p)) (others-one _ refl)

others-told_by : (fate : Plan → Fate) (s : SessionState) → AreOthers (told_by fate s)
others-told_by fate s = others-flat_map (λ p. told_of s.jobs s.now p (fate p)) (λ p. others-told_of s.jobs s.now p (fate p)) s.plans

-- a break
abbrev IsOtherNotice : Notice → Type 0
IsOtherNotice n = AreOthers n.records

All-put_notice : (n : Notice) (ns : List Notice) → IsOtherNotice n → All IsOtherNotice ns → All IsOtherNotice (put_notice n ns)
All-put_notice n [] one all = All-cons IsOtherNotice n [] one all
All-put_notice n (m ∷ ms) one all = go (is_before m.sheet n.sheet) (All-put_notice n ms one (All-tail IsOtherNotice m ms all)) where
  go : (b : Bool) → All IsOtherNotice (put_notice n ms) → All IsOtherNotice (cond b (m ∷ put_notice n ms) (n ∷ m ∷ ms))
  go true rest = All-cons IsOtherNotice m (put_notice n ms) (All-head IsOtherNotice m ms all) rest
  go false rest = All-cons IsOtherNotice n (m ∷ ms) one all

All-by_copy : (ns : List Notice) → All IsOtherNotice ns → All IsOtherNotice (by_copy ns)
All-by_copy [] all = all
All-by_copy (n ∷ ns) all = All-put_notice n (by_copy ns) (All-head IsOtherNotice n ns all) (All-by_copy ns (All-tail IsOtherNotice n ns all))

others-notices : (ns : List Notice) → All IsOtherNotice ns → AreOthers (flat_map (λ n. n.records) ns)
others-notices [] all = All-nil IsOther
others-notices (n ∷ ns) all =
    rw (flat_map-cons (λ (n : Notice). n.records) n ns)
    (All-append IsOther n.records (flat_map (λ n. n.records) ns) (All-head IsOtherNotice n ns all) (others-notices ns (All-tail IsOtherNotice n ns all)))

notices-map : {X : Type 0} (f : X → Notice) → ((x : X) → IsOtherNotice (f x)) → (xs : List X) → All IsOtherNotice (map f xs)
notices-map f each [] = All-nil IsOtherNotice
notices-map f each (x ∷ xs) = All-cons IsOtherNotice (f x) (map f xs) (each x) (notices-map f each xs)

others-job_break : (job : ℕ) (s : SessionState) → AreOthers (job_break job s).records
others-job_break job s =
    All-cons IsOther _ _ refl (others-notices (by_copy (notices_of_waiting s job ++ notices_of_plans s job)) (All-by_copy (notices_of_waiting s job ++ notices_of_plans s job)
    (All-append IsOtherNotice (notices_of_waiting s job) (notices_of_plans s job)
    (notices-map _ (λ w. others-one _ refl) _)
    (notices-map _ (λ p. others-told_of s.jobs s.now p (fate_in_break s job p)) s.plans))))

-- a fall-back, and an outage
pub others-either : (b : Bool) (o q : Outcome) → AreOthers o.records → AreOthers q.records → AreOthers (cond b o q).records
others-either true o q one other = one
others-either false o q one other = other

pub others-fall_back : (s : SessionState) (d : Displaced) → AreOthers (fall_back s d).records
others-fall_back s d =
    others-either (is_line_entering s d.sheet) (job_break d.sheet.job s) (and_then (next_waits d s) (later_fall_back d.sheet))
    (others-job_break d.sheet.job s)
    (All-append IsOther (next_waits d s).records (later_fall_back d.sheet (next_waits d s).state).records
    (others-either d.again _ (nothing_told s) (others-one _ refl) others-nil)
    (others-told_by _ (next_waits d s).state))

others-unless_broken : (s : SessionState) (d : Displaced) → AreOthers (fall_back_unless_broken s d).records
others-unless_broken s d = others-either (is_job_broken s.jobs d.sheet.job) (nothing_told s) (fall_back s d) others-nil (others-fall_back s d)

pub others-for_each : {X : Type 0} (part : SessionState → X → Outcome) → ((s : SessionState) (x : X) → AreOthers (part s x).records) → (xs : List X) (s : SessionState) → AreOthers (for_each part xs s).records
others-for_each part each [] s = others-nil
others-for_each part each (x ∷ xs) s = All-append IsOther (part s x).records (for_each part xs (part s x).state).records (each s x) (others-for_each part each xs (part s x).state)

pub others-outage : (machine : Machine) (m : ℕ) (jam : Bool) (s : SessionState) → AreOthers (outage machine m jam s).records
others-outage machine m jam s =
    All-append IsOther (told_in_outage machine m jam s) _
    (All-append IsOther (told_by (fate_of_running machine m jam s) s) (told_by (fate_unless_lost machine m jam s) s) (others-told_by _ s) (others-told_by _ s))
    (others-for_each fall_back_unless_broken others-unless_broken (displaced machine m jam s) (going_out machine m jam s).state)
