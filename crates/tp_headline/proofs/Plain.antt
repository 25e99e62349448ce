-- What befalls copies, breaks, fall-backs, outages and moves tell neither a delivery nor an answer.
use Rattle.std.proofs.Common.{◌≡◌, ℕ, ◌+◌, Bool, true, false, cond, List, [], ◌∷◌, ◌++◌, map, filter, flat_map, refl, All, Option, Some, None}
use Rattle.std.proofs.lemmas.List.Concat.{flat_map-cons}
use Rattle.std.proofs.lemmas.List.Elements.{All-nil, All-cons, All-head, All-tail, All-append, All-weaker}
use Rattle.std.specs.Str.{bytes_eq}
use Rattle.tp_machine.specs.declared.machine.Machine.{Machine}
use Rattle.tp_jobs.specs.declared.parts.Job.{Job}
use Rattle.tp_jobs.specs.Backlogs.{next_copy}
use Rattle.tp_schedule.specs.Plans.{is_before, change_plan, plan_of}
use Rattle.tp_schedule.specs.declared.parts.Plan.{Plan}
use Rattle.tp_schedule.specs.declared.records.Record.{Record}
use Rattle.tp_schedule.specs.declared.records.Record.TheVariants.{Again, Purge as PurgeTold, Move, Stuck, Plan as TellsPlan, Never as TellsNever, Budget, Done}
use Rattle.tp_schedule.specs.declared.parts.Ask.{Ask}
use Rattle.tp_schedule.specs.declared.parts.Goal.{Goal}
use Rattle.tp_schedule.specs.declared.parts.Goal.TheVariants.{Tray, Purge}
use Rattle.tp_schedule.specs.declared.parts.Reply.{Reply}
use Rattle.tp_schedule.specs.declared.parts.Reply.TheVariants.{Planned, Never, Spent}
use Rattle.tp_event_rules.specs.States.{SessionState, Outcome, nothing_told, and_then, for_each}
use Rattle.tp_event_rules.specs.Lines.{is_job_broken}
use Rattle.tp_event_rules.specs.Labels.{label, module_name}
use Rattle.tp_event_rules.specs.Fates.{Fate, recalls, told_of, told_by, to_purge}
use Rattle.tp_event_rules.specs.FallBacks.{Notice, put_notice, by_copy, notices_of_waiting, notices_of_plans, job_break, Displaced, next_waits, later_fall_back, is_line_entering, fall_back, fall_back_unless_broken, fate_in_break}
use Rattle.tp_event_rules.specs.Outages.{told_in_outage, fate_of_running, fate_unless_lost, displaced, going_out, outage}
use Rattle.tp_event_rules.specs.Moments.{recalled, due_until}
use Rattle.tp_event_rules.specs.Clock.{record_of, release_of}
use Rattle.tp_event_rules.specs.AnswerRecords.{label_of_plan, told_of_move, moves}
use Rattle.tp_event_rules.specs.Loops.{stuck_module, told_releases, not_planned, after_reply}
use Rattle.tp_headline.proofs.Steps.{AreNoDeliveries, IsNoDelivery, is_done}
use Rattle.tp_headline.specs.Given.{is_answer}
use Rattle.tp_event_rules.specs.Fates as fates

-- a record that tells neither a delivery nor an answer
abbrev pub is_plain : Record → Bool
is_plain (Done copy place at) = false
is_plain (TellsPlan copy place points acts) = false
is_plain (TellsNever copy goal) = false
is_plain (Budget copy goal bound) = false
is_plain _ = true

abbrev pub IsPlain : Record → Type 0
IsPlain r = is_plain r ≡ true

abbrev pub ArePlain : List Record → Type 0
ArePlain records = All IsPlain records

pub silent-plain : (records : List Record) → ArePlain records → AreNoDeliveries records
silent-plain records all = All-weaker IsPlain IsNoDelivery go records all where
  go : (r : Record) → is_plain r ≡ true → is_done r ≡ false
  go (Done copy place at) e = absurd (cc)
  go _ e = refl

pub answer-plain : (r : Record) → is_plain r ≡ true → is_answer r ≡ false
answer-plain (TellsPlan copy place points acts) e = absurd (cc)
answer-plain (TellsNever copy goal) e = absurd (cc)
answer-plain (Budget copy goal bound) e = absurd (cc)
answer-plain _ e = refl

-- plain records tell no answer
pub none-answered : (records : List Record) → ArePlain records → filter is_answer records ≡ []
none-answered [] all = refl
none-answered (r ∷ records) all = rw (answer-plain r (All-head IsPlain r records all)) (none-answered records (All-tail IsPlain r records all))

pub plain-nil : ArePlain []
plain-nil = All-nil IsPlain

pub plain-one : (r : Record) → IsPlain r → ArePlain (r ∷ [])
plain-one r other = All-cons IsPlain r [] other (All-nil IsPlain)

pub plain-map : {X : Type 0} (f : X → Record) → ((x : X) → IsPlain (f x)) → (xs : List X) → ArePlain (map f xs)
plain-map f each [] = All-nil IsPlain
plain-map f each (x ∷ xs) = All-cons IsPlain (f x) (map f xs) (each x) (plain-map f each xs)

pub plain-flat_map : {X : Type 0} (f : X → List Record) → ((x : X) → ArePlain (f x)) → (xs : List X) → ArePlain (flat_map f xs)
plain-flat_map f each [] = All-nil IsPlain
plain-flat_map f each (x ∷ xs) = rw (flat_map-cons f x xs) (All-append IsPlain (f x) (flat_map f xs) (each x) (plain-flat_map f each xs))

-- what befalls the copies
plain-told_of : (jobs : List Job) (now : ℕ) (p : Plan) (f : Fate) → ArePlain (told_of jobs now p f)
plain-told_of jobs now p fates.stays = plain-nil
plain-told_of jobs now p fates.lost = All-cons IsPlain _ (recalls jobs now p) refl (plain-map _ (λ run. refl) (recalled now p))
plain-told_of jobs now p fates.withdrawn = All-append IsPlain (recalls jobs now p) _ (plain-map _ (λ run. refl) (recalled now p)) (plain-one _ refl)
plain-told_of jobs now p fates.cut = All-append IsPlain (recalls jobs now p) _ (plain-map _ (λ run. refl) (recalled now p)) (plain-one _ refl)
plain-told_of jobs now p fates.purged = All-append IsPlain (recalls jobs now p) _ (plain-map _ (λ run. refl) (recalled now p)) (plain-one _ refl)
plain-told_of jobs now p fates.replaced =
    All-append IsPlain (recalls jobs now p) _ (plain-map _ (λ run. refl) (recalled now p)) (All-cons IsPlain (PurgeTold (label jobs p.sheet)) (Again (label jobs (next_copy p.sheet)) ∷ []) refl (plain-one (Again (label jobs (next_copy p.sheet))) refl))
plain-told_of jobs now p fates.dropped = All-append IsPlain (recalls jobs now p) _ (plain-map _ (λ run. refl) (recalled now p)) (plain-one _ refl)

pub plain-told_by : (fate : Plan → Fate) (s : SessionState) → ArePlain (told_by fate s)
plain-told_by fate s = plain-flat_map (λ p. told_of s.jobs s.now p (fate p)) (λ p. plain-told_of s.jobs s.now p (fate p)) s.plans

-- a break
abbrev IsPlainNotice : Notice → Type 0
IsPlainNotice n = ArePlain n.records

All-put_notice : (n : Notice) (ns : List Notice) → IsPlainNotice n → All IsPlainNotice ns → All IsPlainNotice (put_notice n ns)
All-put_notice n [] one all = All-cons IsPlainNotice n [] one all
All-put_notice n (m ∷ ms) one all = go (is_before m.sheet n.sheet) (All-put_notice n ms one (All-tail IsPlainNotice m ms all)) where
  go : (b : Bool) → All IsPlainNotice (put_notice n ms) → All IsPlainNotice (cond b (m ∷ put_notice n ms) (n ∷ m ∷ ms))
  go true rest = All-cons IsPlainNotice m (put_notice n ms) (All-head IsPlainNotice m ms all) rest
  go false rest = All-cons IsPlainNotice n (m ∷ ms) one all

All-by_copy : (ns : List Notice) → All IsPlainNotice ns → All IsPlainNotice (by_copy ns)
All-by_copy [] all = all
All-by_copy (n ∷ ns) all = All-put_notice n (by_copy ns) (All-head IsPlainNotice n ns all) (All-by_copy ns (All-tail IsPlainNotice n ns all))

plain-notices : (ns : List Notice) → All IsPlainNotice ns → ArePlain (flat_map (λ n. n.records) ns)
plain-notices [] all = All-nil IsPlain
plain-notices (n ∷ ns) all =
    rw (flat_map-cons (λ (n : Notice). n.records) n ns)
    (All-append IsPlain n.records (flat_map (λ n. n.records) ns) (All-head IsPlainNotice n ns all) (plain-notices ns (All-tail IsPlainNotice n ns all)))

notices-map : {X : Type 0} (f : X → Notice) → ((x : X) → IsPlainNotice (f x)) → (xs : List X) → All IsPlainNotice (map f xs)
notices-map f each [] = All-nil IsPlainNotice
notices-map f each (x ∷ xs) = All-cons IsPlainNotice (f x) (map f xs) (each x) (notices-map f each xs)

pub plain-job_break : (job : ℕ) (s : SessionState) → ArePlain (job_break job s).records
plain-job_break job s =
    All-cons IsPlain _ _ refl (plain-notices (by_copy (notices_of_waiting s job ++ notices_of_plans s job)) (All-by_copy (notices_of_waiting s job ++ notices_of_plans s job)
    (All-append IsPlainNotice (notices_of_waiting s job) (notices_of_plans s job)
    (notices-map _ (λ w. plain-one _ refl) _)
    (notices-map _ (λ p. plain-told_of s.jobs s.now p (fate_in_break s job p)) s.plans))))

-- a fall-back, and an outage
pub plain-either : (b : Bool) (o q : Outcome) → ArePlain o.records → ArePlain q.records → ArePlain (cond b o q).records
plain-either true o q one other = one
plain-either false o q one other = other

pub plain-fall_back : (s : SessionState) (d : Displaced) → ArePlain (fall_back s d).records
plain-fall_back s d =
    plain-either (is_line_entering s d.sheet) (job_break d.sheet.job s) (and_then (next_waits d s) (later_fall_back d.sheet))
    (plain-job_break d.sheet.job s)
    (All-append IsPlain (next_waits d s).records (later_fall_back d.sheet (next_waits d s).state).records
    (plain-either d.again _ (nothing_told s) (plain-one _ refl) plain-nil)
    (plain-told_by _ (next_waits d s).state))

pub plain-unless_broken : (s : SessionState) (d : Displaced) → ArePlain (fall_back_unless_broken s d).records
plain-unless_broken s d = plain-either (is_job_broken s.jobs d.sheet.job) (nothing_told s) (fall_back s d) plain-nil (plain-fall_back s d)

pub plain-for_each : {X : Type 0} (part : SessionState → X → Outcome) → ((s : SessionState) (x : X) → ArePlain (part s x).records) → (xs : List X) (s : SessionState) → ArePlain (for_each part xs s).records
plain-for_each part each [] s = plain-nil
plain-for_each part each (x ∷ xs) s = All-append IsPlain (part s x).records (for_each part xs (part s x).state).records (each s x) (plain-for_each part each xs (part s x).state)

pub plain-outage : (machine : Machine) (m : ℕ) (jam : Bool) (s : SessionState) → ArePlain (outage machine m jam s).records
plain-outage machine m jam s =
    All-append IsPlain (told_in_outage machine m jam s) _
    (All-append IsPlain (told_by (fate_of_running machine m jam s) s) (told_by (fate_unless_lost machine m jam s) s) (plain-told_by _ s) (plain-told_by _ s))
    (plain-for_each fall_back_unless_broken plain-unless_broken (displaced machine m jam s) (going_out machine m jam s).state)

-- answers
plain-move : (p q : Plan) → ArePlain (told_of_move p q)
plain-move p q = go (bytes_eq p.points q.points) where
  go : (b : Bool) → ArePlain (cond b [] (Move (label_of_plan q) q.points ∷ []))
  go true = plain-nil
  go false = plain-one _ refl

pub plain-moves : (plans plans' : List Plan) → ArePlain (moves plans plans')
plain-moves [] plans' = plain-nil
plain-moves (p ∷ plans) [] = plain-nil
plain-moves (p ∷ plans) (p' ∷ plans') = All-append IsPlain (told_of_move p p') (moves plans plans') (plain-move p p') (plain-moves plans plans')

-- the releases behind a front
pub plain-releases : (machine : Machine) (jobs : List Job) (last : ℕ) (o : Option Plan) → ArePlain (told_releases machine jobs last o)
plain-releases machine jobs last None = plain-nil
plain-releases machine jobs last (Some p) = plain-map (λ run. record_of machine jobs (release_of machine run).tell) (λ run. refl) (due_until last p)

-- the loop
plain-not_planned : (machine : Machine) (ask : Ask) (goal : Goal) (s : SessionState) → ArePlain (not_planned machine ask goal s).records
plain-not_planned machine ask (Tray t) s =
    All-cons IsPlain (PurgeTold (label s.jobs ask.sheet)) _ refl (plain-fall_back (record s { plans = change_plan ask.sheet to_purge s.plans }) (record { sheet = ask.sheet; want = ask.want; again = true }))
plain-not_planned machine ask Purge s = All-cons IsPlain (Stuck (label s.jobs ask.sheet) (module_name machine (stuck_module machine s ask))) _ refl (plain-outage machine _ true s)

pub plain-after : (machine : Machine) (ask : Ask) (reply : Reply) (plans : List Plan) (s : SessionState) → ArePlain (after_reply machine ask reply plans s).records
plain-after machine ask Planned plans s = plain-releases machine s.jobs (s.now + machine.lead) (plan_of ask.sheet plans)
plain-after machine ask Never plans s = plain-not_planned machine ask ask.goal s
plain-after machine ask (Spent bound) plans s = plain-not_planned machine ask ask.goal s
