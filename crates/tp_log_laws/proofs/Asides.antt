-- What an outage, a break, a fall-back, a move of the clock and an answer's outcome tell are asides: no answer, and no move.
use Rattle.std.proofs.Common.{◌≡◌, ℕ, ◌+◌, Bool, true, false, cond, List, [], ◌∷◌, ◌++◌, map, flat_map, refl, All, Option, Some, None}
use Rattle.std.proofs.lemmas.List.Concat.{flat_map-cons}
use Rattle.std.proofs.lemmas.List.Elements.{All-append, All-cons, All-head, All-nil, All-tail}
use Rattle.tp_machine.specs.declared.machine.Machine.{Machine}
use Rattle.tp_jobs.specs.declared.parts.Job.{Job}
use Rattle.tp_jobs.specs.Backlogs.{next_copy}
use Rattle.tp_schedule.specs.Plans.{change_plan, is_before, plan_of}
use Rattle.tp_schedule.specs.declared.parts.Ask.{Ask}
use Rattle.tp_schedule.specs.declared.parts.Goal.{Goal}
use Rattle.tp_schedule.specs.declared.parts.Goal.TheVariants.{Tray, Purge}
use Rattle.tp_schedule.specs.declared.parts.Plan.{Plan}
use Rattle.tp_schedule.specs.declared.parts.Reply.{Reply}
use Rattle.tp_schedule.specs.declared.parts.Reply.TheVariants.{Planned, Never, Spent}
use Rattle.tp_schedule.specs.declared.records.Record.{Record}
use Rattle.tp_schedule.specs.declared.records.Record.TheVariants.{Again, Purge as PurgeTold, Stuck}
use Rattle.tp_event_rules.specs.Clock.{clock_records, clock_tells, record_of, release_of}
use Rattle.tp_event_rules.specs.FallBacks.{Displaced, Notice, by_copy, fall_back, fall_back_unless_broken, fate_in_break, is_line_entering, job_break, later_fall_back, next_waits, notices_of_plans, notices_of_waiting, put_notice}
use Rattle.tp_event_rules.specs.Fates as fates
use Rattle.tp_event_rules.specs.Fates.{Fate, recalls, told_by, told_of, to_purge}
use Rattle.tp_event_rules.specs.Labels.{label, module_name}
use Rattle.tp_event_rules.specs.Lines.{is_job_broken}
use Rattle.tp_event_rules.specs.Loops.{after_reply, not_planned, stuck_module, told_releases}
use Rattle.tp_event_rules.specs.Moments.{due_until, recalled}
use Rattle.tp_event_rules.specs.Outages.{displaced, fate_of_running, fate_unless_lost, going_out, outage, told_in_outage}
use Rattle.tp_event_rules.specs.States.{Outcome, SessionState, and_then, for_each, nothing_told}
use Rattle.tp_event_rules.specs.declared.tell.Tell.{Tell}
use Rattle.tp_event_rules.specs.declared.tell.Tell.TheVariants.{Done as TellsDone, Release as TellsRelease}
use Rattle.tp_log_planner.specs.ToldAnswers.{is_other}

abbrev pub IsOther : Record → Type 0
IsOther r = is_other r ≡ true

abbrev pub AreOther : List Record → Type 0
AreOther records = All IsOther records

none : AreOther []
none = All-nil IsOther

one : (r : Record) → IsOther r → AreOther (r ∷ [])
one r other = All-cons IsOther r [] other none

both : (first rest : List Record) → AreOther first → AreOther rest → AreOther (first ++ rest)
both first rest have has = All-append IsOther first rest have has

of-map : {X : Type 0} (f : X → Record) → ((x : X) → IsOther (f x)) → (xs : List X) → AreOther (map f xs)
of-map f each [] = none
of-map f each (x ∷ xs) = All-cons IsOther (f x) (map f xs) (each x) (of-map f each xs)

of-each : {X : Type 0} (f : X → List Record) → ((x : X) → AreOther (f x)) → (xs : List X) → AreOther (flat_map f xs)
of-each f each [] = none
of-each f each (x ∷ xs) = rw (flat_map-cons f x xs) (both (f x) (flat_map f xs) (each x) (of-each f each xs))

-- what befalls the copies
of-fate : (jobs : List Job) (now : ℕ) (p : Plan) (f : Fate) → AreOther (told_of jobs now p f)
of-fate jobs now p fates.stays = none
of-fate jobs now p fates.lost = All-cons IsOther _ (recalls jobs now p) refl (of-map _ (λ run. refl) (recalled now p))
of-fate jobs now p fates.withdrawn = both (recalls jobs now p) _ (of-map _ (λ run. refl) (recalled now p)) (one _ refl)
of-fate jobs now p fates.cut = both (recalls jobs now p) _ (of-map _ (λ run. refl) (recalled now p)) (one _ refl)
of-fate jobs now p fates.purged = both (recalls jobs now p) _ (of-map _ (λ run. refl) (recalled now p)) (one _ refl)
of-fate jobs now p fates.replaced =
    both (recalls jobs now p) _ (of-map _ (λ run. refl) (recalled now p)) (All-cons IsOther (PurgeTold (label jobs p.sheet)) (Again (label jobs (next_copy p.sheet)) ∷ []) refl (one (Again (label jobs (next_copy p.sheet))) refl))
of-fate jobs now p fates.dropped = both (recalls jobs now p) _ (of-map _ (λ run. refl) (recalled now p)) (one _ refl)

of-fates : (fate : Plan → Fate) (s : SessionState) → AreOther (told_by fate s)
of-fates fate s = of-each (λ p. told_of s.jobs s.now p (fate p)) (λ p. of-fate s.jobs s.now p (fate p)) s.plans

-- a break
abbrev IsOtherNotice : Notice → Type 0
IsOtherNotice n = AreOther n.records

put-other : (n : Notice) (ns : List Notice) → IsOtherNotice n → All IsOtherNotice ns → All IsOtherNotice (put_notice n ns)
put-other n [] first all = All-cons IsOtherNotice n [] first all
put-other n (m ∷ ms) first all = go (is_before m.sheet n.sheet) (put-other n ms first (All-tail IsOtherNotice m ms all)) where
  go : (b : Bool) → All IsOtherNotice (put_notice n ms) → All IsOtherNotice (cond b (m ∷ put_notice n ms) (n ∷ m ∷ ms))
  go true rest = All-cons IsOtherNotice m (put_notice n ms) (All-head IsOtherNotice m ms all) rest
  go false rest = All-cons IsOtherNotice n (m ∷ ms) first all

by-copy : (ns : List Notice) → All IsOtherNotice ns → All IsOtherNotice (by_copy ns)
by-copy [] all = all
by-copy (n ∷ ns) all = put-other n (by_copy ns) (All-head IsOtherNotice n ns all) (by-copy ns (All-tail IsOtherNotice n ns all))

of-notices : (ns : List Notice) → All IsOtherNotice ns → AreOther (flat_map (λ n. n.records) ns)
of-notices [] all = none
of-notices (n ∷ ns) all =
    rw (flat_map-cons (λ (n : Notice). n.records) n ns) (both n.records (flat_map (λ n. n.records) ns) (All-head IsOtherNotice n ns all) (of-notices ns (All-tail IsOtherNotice n ns all)))

notices-map : {X : Type 0} (f : X → Notice) → ((x : X) → IsOtherNotice (f x)) → (xs : List X) → All IsOtherNotice (map f xs)
notices-map f each [] = All-nil IsOtherNotice
notices-map f each (x ∷ xs) = All-cons IsOtherNotice (f x) (map f xs) (each x) (notices-map f each xs)

of-break : (job : ℕ) (s : SessionState) → AreOther (job_break job s).records
of-break job s =
    All-cons IsOther _ _ refl (of-notices (by_copy (notices_of_waiting s job ++ notices_of_plans s job)) (by-copy (notices_of_waiting s job ++ notices_of_plans s job)
    (All-append IsOtherNotice (notices_of_waiting s job) (notices_of_plans s job) (notices-map _ (λ w. one _ refl) _) (notices-map _ (λ p. of-fate s.jobs s.now p (fate_in_break s job p)) s.plans))))

-- a fall-back, and an outage
of-either : (b : Bool) (o q : Outcome) → AreOther o.records → AreOther q.records → AreOther (cond b o q).records
of-either true o q first other = first
of-either false o q first other = other

of-fall_back : (s : SessionState) (d : Displaced) → AreOther (fall_back s d).records
of-fall_back s d =
    of-either (is_line_entering s d.sheet) (job_break d.sheet.job s) (and_then (next_waits d s) (later_fall_back d.sheet)) (of-break d.sheet.job s)
    (both (next_waits d s).records (later_fall_back d.sheet (next_waits d s).state).records (of-either d.again _ (nothing_told s) (one _ refl) none) (of-fates _ (next_waits d s).state))

of-unless_broken : (s : SessionState) (d : Displaced) → AreOther (fall_back_unless_broken s d).records
of-unless_broken s d = of-either (is_job_broken s.jobs d.sheet.job) (nothing_told s) (fall_back s d) none (of-fall_back s d)

of-parts : {X : Type 0} (part : SessionState → X → Outcome) → ((s : SessionState) (x : X) → AreOther (part s x).records) → (xs : List X) (s : SessionState) → AreOther (for_each part xs s).records
of-parts part each [] s = none
of-parts part each (x ∷ xs) s = both (part s x).records (for_each part xs (part s x).state).records (each s x) (of-parts part each xs (part s x).state)

pub other-outage : (machine : Machine) (m : ℕ) (jam : Bool) (s : SessionState) → AreOther (outage machine m jam s).records
other-outage machine m jam s =
    both (told_in_outage machine m jam s) _ (both (told_by (fate_of_running machine m jam s) s) (told_by (fate_unless_lost machine m jam s) s) (of-fates _ s) (of-fates _ s))
    (of-parts fall_back_unless_broken of-unless_broken (displaced machine m jam s) (going_out machine m jam s).state)

-- what an answer leads to
of-releases : (machine : Machine) (jobs : List Job) (last : ℕ) (o : Option Plan) → AreOther (told_releases machine jobs last o)
of-releases machine jobs last None = none
of-releases machine jobs last (Some p) = of-map (λ run. record_of machine jobs (release_of machine run).tell) (λ run. refl) (due_until last p)

of-not_planned : (machine : Machine) (ask : Ask) (goal : Goal) (s : SessionState) → AreOther (not_planned machine ask goal s).records
of-not_planned machine ask (Tray t) s =
    All-cons IsOther (PurgeTold (label s.jobs ask.sheet)) _ refl (of-fall_back (record s { plans = change_plan ask.sheet to_purge s.plans }) (record { sheet = ask.sheet; want = ask.want; again = true }))
of-not_planned machine ask Purge s = All-cons IsOther (Stuck (label s.jobs ask.sheet) (module_name machine (stuck_module machine s ask))) _ refl (other-outage machine _ true s)

pub other-after : (machine : Machine) (ask : Ask) (reply : Reply) (plans : List Plan) (s : SessionState) → AreOther (after_reply machine ask reply plans s).records
other-after machine ask Planned plans s = of-releases machine s.jobs (s.now + machine.lead) (plan_of ask.sheet plans)
other-after machine ask Never plans s = of-not_planned machine ask ask.goal s
other-after machine ask (Spent bound) plans s = of-not_planned machine ask ask.goal s

-- a move of the clock
of-tell : (machine : Machine) (jobs : List Job) (t : Tell) → IsOther (record_of machine jobs t)
of-tell machine jobs (TellsDone sheet place at) = refl
of-tell machine jobs (TellsRelease sheet number act start end) = refl

pub other-clock : (machine : Machine) (s : SessionState) (to : ℕ) → AreOther (clock_records machine s to)
other-clock machine s to = of-map (record_of machine s.jobs) (of-tell machine s.jobs) (clock_tells machine s.now to s.plans)
