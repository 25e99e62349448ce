-- What a move of the clock tells is known to the machine and the jobs, and what is live after it can be asked on.
use Rattle.std.proofs.Common.{◌≡◌, ℕ, suc, ◌+◌, ◌<◌, ◌≤◌, Bool, true, false, cond, ◌||◌, not, nat_lt, List, [], ◌∷◌, ◌++◌, filter, length, ℤ, Some, None, refl, sym, ap, ◌∙◌, subst, append_assoc, arith, All, nat_le}
use Rattle.std.specs.List.{flat_map}
use Rattle.std.specs.Option.{MatchOption}
use Rattle.std.specs.Prelude.{IsTrue, is_some, position}
use Rattle.std.specs.List.{list_any, position_or_len}
use Rattle.std.proofs.lemmas.Bool.Decides.{nat_tests}
use Rattle.std.proofs.lemmas.List.Concat.{flat_map-cons}
use Rattle.std.proofs.lemmas.List.Elements.{All-append, All-cons, All-filter, All-head, All-map, All-nil, All-tail, All-weaker}
use Rattle.tp_base.proofs.SliceFacts.{found}
use Rattle.tp_machine.specs.Machines.{IsLocation, IsMachine}
use Rattle.tp_machine.specs.declared.parts.ActId.{ActId}
use Rattle.tp_machine.specs.declared.machine.Machine.{Machine}
use Rattle.tp_schedule.specs.Holders.{runs_from, runs_of}
use Rattle.tp_schedule.specs.LivePlans.{is_live}
use Rattle.tp_schedule.proofs.Membership.{All-from_contains, Contains-filter_from}
use Rattle.tp_schedule.specs.Plans.{IsTimedPlan}
use Rattle.tp_schedule.specs.declared.parts.Plan.{Plan}
use Rattle.tp_schedule.specs.declared.parts.SheetId.{SheetId}
use Rattle.tp_schedule.specs.declared.records.Record.{Record}
use Rattle.tp_schedule.specs.declared.records.Record.TheVariants.{Refused}
use Rattle.tp_jobs.specs.declared.parts.Job.{Job}
use Rattle.tp_event_rules.proofs.ListFacts.{All-both}
use Rattle.tp_event_rules.proofs.MovedClock.{lines-clock, older-clock}
use Rattle.tp_event_rules.proofs.MovedPlans.{plans-clock}
use Rattle.tp_event_rules.proofs.PlannableTurns.{accepted-clock}
use Rattle.tp_event_rules.proofs.ReadyTurns.{broken-clock, fronts-clock, numbers-clock, purges-clock}
use Rattle.tp_script.specs.declared.event.Event.TheVariants.{Clock}
use Rattle.tp_event_rules.specs.AskPhase.{Asks}
use Rattle.tp_event_rules.specs.Clock.{Told, by_moment, clock_move, clock_records, clock_tells, deliveries, delivery, is_done_between, put_told, release_of, released_until, releases}
use Rattle.tp_event_rules.specs.StateInvariants.{KeepsLines, KeepsPlans, is_of_its_job, is_planned_among, live_part, live_plans, live_refills}
use Rattle.tp_event_rules.specs.Labels.{end_location, last_of, to_in}
use Rattle.tp_event_rules.specs.Moments.{due_until, is_due, release_until}
use Rattle.tp_event_rules.specs.Planners.{PlannerSteps}
use Rattle.tp_event_rules.specs.Refusals.{clock_refusal}
use Rattle.tp_event_rules.specs.Ready.{EntersWhereBroken, HasStartedWhole, KeepsLive}
use Rattle.tp_event_rules.specs.Seen.{HasStarted, fronts_of}
use Rattle.tp_event_rules.specs.States.{SessionState}
use Rattle.tp_event_turn.proofs.LiveFacts.{lines-part, lost-part, older-part, plans-part}
use Rattle.tp_event_turn.specs.Events.{MovesClock, NotesEvent}
use Rattle.tp_event_turn.specs.Stops.{NotesEventStop, NotesStop, StopsAsks}
use Rattle.tp_event_turn.specs.Phases.{NotesAsks}
use Rattle.tp_event_turn.proofs.CanAskFacts.{of-its-job}
use Rattle.tp_event_records.proofs.NameFacts.{acts-known}
use Rattle.tp_event_records.specs.RecordNames.{IsKnown}
use Rattle.tp_event_turn.specs.ClockNames.{IsKnownTell}
use Rattle.tp_stock.specs.Stock.{begins_at, by_location, less_taken, taken_at}
use Rattle.tp_stock.proofs.StockFacts.{by-same-counts, count-cons}
use Rattle.tp_event_rules.proofs.Refilled.{lines-refilled, plans-refilled}

-- a place is found where an element passes
place-below : {X : Type 0} (t : X → Bool) (xs : List X) → nat_lt (position_or_len t xs) (length xs) ≡ list_any t xs
place-below t [] = refl
place-below {X} t (x ∷ xs) = go (t x) (place-below t xs) where
  go : (b : Bool) → nat_lt (position_or_len t xs) (length xs) ≡ list_any t xs → nat_lt (cond (not b) (1 + position_or_len t xs) 0) (suc (length xs)) ≡ (b || list_any t xs)
  go true rest = grind (arith, nat_tests)
  go false rest = later (position_or_len t xs) (length xs) ∙ rest where
    later : (m n : ℕ) → nat_lt (1 + m) (suc n) ≡ nat_lt m n
    later m n = grind (arith, nat_tests)

pub some-position : {X : Type 0} (t : X → Bool) (xs : List X) → is_some (position t xs) ≡ list_any t xs
some-position t xs = is (nat_lt (position_or_len t xs) (length xs)) ∙ place-below t xs where
  is : (b : Bool) → is_some (cond b (Some (position_or_len t xs)) None) ≡ b
  is true = refl
  is false = refl

last-known : (machine : Machine) (acts : List ActId) → 0 < length acts → All (IsKnown machine) acts → IsKnown machine (last_of acts)
last-known machine [] some all = absurd (omega (arith, some))
last-known machine (act ∷ []) some all = All-head (IsKnown machine) act [] all
last-known machine (act ∷ next ∷ acts) some all = last-known machine (next ∷ acts) (omega arith) (All-tail (IsKnown machine) act (next ∷ acts) all)

end-known : (machine : Machine) → IsMachine machine → (p : Plan) → IsTimedPlan machine p → IsLocation machine (end_location machine p)
end-known machine law p timed =
    let known = last-known machine p.acts timed.some (acts-known machine p timed) in
    let there = found machine.actions (last_of p.acts).0 known in
    subst (λ o. IsLocation machine (to_in o)) (sym there.1) (law.ways (last_of p.acts).0 there.0 there.1).to_known

runs-known : (P : ActId → Type 0) (sheet : SheetId) (n : ℕ) (acts : List ActId) (points : List ℕ) → All P acts → All (λ run. (run.sheet ≡ sheet) × P run.act) (runs_from sheet n acts points)
runs-known P sheet n [] points all = All-nil (λ run. (run.sheet ≡ sheet) × P run.act)
runs-known P sheet n (act ∷ acts) [] all = All-nil (λ run. (run.sheet ≡ sheet) × P run.act)
runs-known P sheet n (act ∷ acts) (start ∷ []) all = All-nil (λ run. (run.sheet ≡ sheet) × P run.act)
runs-known P sheet n (act ∷ acts) (start ∷ end ∷ points) all =
    All-cons (λ run. (run.sheet ≡ sheet) × P run.act) (record { sheet = sheet; number = n; act = act; start = start; end = end }) (runs_from sheet (n + 1) acts (end ∷ points)) (refl, All-head P act acts all)
    (runs-known P sheet (n + 1) acts (end ∷ points) (All-tail P act acts all))

All-flat : {X Y : Type 0} (Q : X → Type 0) (P : Y → Type 0) (f : X → List Y) → ((x : X) → Q x → All P (f x)) → (xs : List X) → All Q xs → All P (flat_map f xs)
All-flat Q P f each [] all = All-nil P
All-flat Q P f each (x ∷ xs) all =
    subst (All P) (sym (flat_map-cons f x xs)) (All-append P (f x) (flat_map f xs) (each x (All-head Q x xs all)) (All-flat Q P f each xs (All-tail Q x xs all)))

-- to stand by moment changes nothing of what holds of each
all-put : (P : Told → Type 0) (t : Told) (ts : List Told) → P t → All P ts → All P (put_told t ts)
all-put P t [] here all = All-cons P t [] here all
all-put P t (u ∷ us) here all = go (nat_le t.at u.at) (all-put P t us here (All-tail P u us all)) where
  go : (b : Bool) → All P (put_told t us) → All P (cond b (t ∷ u ∷ us) (u ∷ put_told t us))
  go true later = All-cons P t (u ∷ us) here all
  go false later = All-cons P u (put_told t us) (All-head P u us all) later

all-by_moment : (P : Told → Type 0) (ts : List Told) → All P ts → All P (by_moment ts)
all-by_moment P [] all = All-nil P
all-by_moment P (t ∷ ts) all = all-put P t (by_moment ts) (All-head P t ts all) (all-by_moment P ts (All-tail P t ts all))

module _ (machine : Machine) (law : IsMachine machine) (jobs : List Job) (now to : ℕ) where
  abbrev KnowsTell : Told → Type 0
  KnowsTell t = IsKnownTell machine jobs t.tell

  -- a plan in time, of its job
  record IsOurs (p : Plan) : Type 0 where
    timed : IsTimedPlan machine p
    job : p.sheet.job < length jobs

  known-deliveries : (p : Plan) → IsOurs p → All KnowsTell (deliveries machine now to p)
  known-deliveries p ours = go (is_done_between now to p) where
    go : (b : Bool) → All KnowsTell (cond b (delivery machine p ∷ []) [])
    go true = All-cons KnowsTell (delivery machine p) [] (ours.job, end-known machine law p ours.timed) (All-nil KnowsTell)
    go false = All-nil KnowsTell

  known-releases : (p : Plan) → IsOurs p → All KnowsTell (releases machine to p)
  known-releases p ours =
      All-map KnowsTell (release_of machine) (due_until (to + machine.lead) p)
      (All-weaker (λ run. (run.sheet ≡ p.sheet) × IsKnown machine run.act) (λ run. KnowsTell (release_of machine run))
      (λ run is. (subst (λ (copy : SheetId). copy.job < length jobs) (sym is.0) ours.job, is.1)) (due_until (to + machine.lead) p)
      (All-filter (is_due (to + machine.lead) p) (λ run. (run.sheet ≡ p.sheet) × IsKnown machine run.act) (runs_of p)
      (runs-known (IsKnown machine) p.sheet 1 p.acts p.points (acts-known machine p ours.timed))))

  pub known-tells : (plans : List Plan) → All (IsTimedPlan machine) plans → All (λ p. IsTrue (is_of_its_job jobs p)) plans → All (IsKnownTell machine jobs) (clock_tells machine now to plans)
  known-tells plans timed known =
      let all = All-both (IsTimedPlan machine) (λ p. IsTrue (is_of_its_job jobs p)) IsOurs (λ p t k. record { timed = t; job = (of-its-job jobs p k).known }) plans timed known in
      All-map (IsKnownTell machine jobs) (λ t. t.tell) (by_moment (flat_map (deliveries machine now to) plans ++ flat_map (releases machine to) plans))
      (all-by_moment KnowsTell (flat_map (deliveries machine now to) plans ++ flat_map (releases machine to) plans)
      (All-append KnowsTell (flat_map (deliveries machine now to) plans) (flat_map (releases machine to) plans)
      (All-flat IsOurs KnowsTell (deliveries machine now to) known-deliveries plans all) (All-flat IsOurs KnowsTell (releases machine to) known-releases plans all)))

-- plans that are released have taken what they had
pub taken-released : (machine : Machine) (to : ℕ) (plans : List Plan) (loc : ℕ) → taken_at machine (released_until machine to plans) loc ≡ taken_at machine plans loc
taken-released machine to [] loc = refl
taken-released machine to (p ∷ plans) loc =
    count-cons (begins_at machine loc) (release_until (to + machine.lead) p) (released_until machine to plans)
    ∙ ap (λ n. cond (begins_at machine loc p) 1 0 + n) (taken-released machine to plans loc) ∙ sym (count-cons (begins_at machine loc) p plans)

-- the clock moves, and what is not live any more is forgotten
module _ (machine : Machine) (to : ℕ) (s : SessionState) (accepted : clock_refusal s.now to ≡ None) where
  abbrev moved : SessionState
  moved = (clock_move machine to s).state

  moved-plans : KeepsPlans machine s → KeepsPlans machine moved
  moved-plans keeps = let range = accepted-clock s.now to accepted in plans-clock machine to s range.0 range.1 keeps

  -- the lost copies that are left are those of the fronts that are left
  lost-left : KeepsPlans machine s → KeepsLines s → filter (is_planned_among (live_plans machine moved)) s.lost ≡ fronts_of (live_plans machine moved)
  lost-left plans lines =
      ap (filter (is_planned_among (live_plans machine moved))) (sym (lines-clock machine to s lines).fronts) ∙ lost-part (is_live machine to) moved.plans (moved-plans plans).legal.in_order

  -- what is kept of the live part
  pub ready-moved : (copies : ℕ) → KeepsLive machine copies s → KeepsLive machine copies (live_part machine moved)
  ready-moved copies keeps =
      let range = accepted-clock s.now to accepted in
      let broken = broken-clock machine to s range.0 keeps.broken in
      let numbers = numbers-clock machine to s range.0 copies keeps.numbers in
      let lost = filter (is_planned_among (live_plans machine moved)) s.lost in
      record {
        now_at_most = range.1;
        live = All-from_contains (λ p. IsTrue (is_live machine to p)) (live_plans machine moved) (λ p in'. (Contains-filter_from (is_live machine to) moved.plans p in').1);
        jobs = keeps.jobs;
        plans = plans-refilled machine (live_refills machine moved) (record moved { plans = live_plans machine moved; lost = lost }) (plans-part machine (is_live machine to) moved lost (moved-plans keeps.plans));
        lines = lines-refilled (live_refills machine moved) (record moved { plans = live_plans machine moved; lost = lost })
            (subst (λ l. KeepsLines (record moved { plans = live_plans machine moved; lost = l })) (sym (lost-left keeps.plans keeps.lines))
            (lines-part machine (is_live machine to) moved (lines-clock machine to s keeps.lines)));
        broken = record { waiting = broken.waiting; plans = All-filter (is_live machine to) (EntersWhereBroken to s.jobs) moved.plans broken.plans };
        older = older-part machine (is_live machine to) moved lost (older-clock machine to s keeps.older);
        purges = All-filter (is_live machine to) (HasStarted to) moved.plans (purges-clock machine to s range.0 keeps.purges);
        fronts = All-filter (is_live machine to) (HasStartedWhole to) moved.plans (fronts-clock machine to s range.0 keeps.fronts);
        numbers = record { jobs = numbers.jobs; waiting = numbers.waiting; planned = All-filter (is_live machine to) (λ p. p.sheet.copy ≤ copies) moved.plans numbers.planned };
      }

  -- the live schedule and the lost copies that have a plan in it are the live part
  pub moved-seen : (plans' : List Plan) (lost' : List SheetId) (refills' : List ℤ) → plans' ≡ filter (is_live machine to) (released_until machine to s.plans) → lost' ≡ filter (is_planned_among plans') s.lost → refills' ≡ live_refills machine moved
      → record s { now = to; plans = plans'; lost = lost'; refills = refills' } ≡ live_part machine moved
  moved-seen plans' lost' refills' plans-are lost-are refills-are =
      let both : lost' ≡ filter (is_planned_among (live_plans machine moved)) s.lost = lost-are ∙ ap (λ l. filter (is_planned_among l) s.lost) plans-are in
      (λ k. record s { now = to; plans = plans-are k; lost = both k; refills = refills-are k })

  -- what is left of the refills, where what was counted before is taken off and what is counted after is not
  pub refills-moved : (before : List ℕ) (plans' : List Plan) (refills' : List ℤ) → before ≡ by_location (taken_at machine s.plans)
      → ((plans : List Plan) (stays : Plan → Bool) → before ≡ by_location (taken_at machine plans) → plans' ≡ filter stays plans → refills' ≡ less_taken machine (filter (λ p. not (stays p)) plans) s.refills)
      → plans' ≡ filter (is_live machine to) (released_until machine to s.plans) → refills' ≡ live_refills machine moved
  refills-moved before plans' refills' counted forget plans-are =
      forget (released_until machine to s.plans) (is_live machine to)
      (counted ∙ by-same-counts (taken_at machine s.plans) (taken_at machine (released_until machine to s.plans)) (λ loc. sym (taken-released machine to s.plans loc))) plans-are

-- the turn of an accepted move, and where the planner stopped in it
module _ {P : Type 0} (steps : PlannerSteps P) (machine : Machine) (to : ℕ) (s : SessionState) (p : P) (notes told notes' : List Record) (mid : SessionState) (accepted : clock_refusal s.now to ≡ None)
    (told-is : told ≡ notes ++ clock_records machine s to) (is : mid ≡ live_part machine (clock_move machine to s).state) where
  pub moved-event : (s' : SessionState) (p' : P) → NotesAsks steps machine mid p told s' p' notes' → NotesEvent steps machine (Clock to) s p notes s' p' notes'
  moved-event s' p' (rest, noted, asks) = (
    clock_records machine s to ++ rest,
    noted ∙ ap (λ l. l ++ rest) told-is ∙ append_assoc notes (clock_records machine s to) rest,
    subst (λ o. MatchOption o (MovesClock steps machine to s p (clock_records machine s to ++ rest) s' p') (λ c. (clock_records machine s to ++ rest ≡ Refused c ∷ []) × (s' ≡ s) × (p' ≡ p))) (sym accepted)
        (record { rest = rest; asks = subst (λ t. Asks steps machine t p rest s' p') is asks; told = refl }),
  )

  pub moved-stop : (p' : P) → NotesStop steps machine mid p told p' notes' → NotesEventStop steps machine (Clock to) s p notes p' notes'
  moved-stop p' (rest, noted, stops) = (
    clock_records machine s to ++ rest,
    noted ∙ ap (λ l. l ++ rest) told-is ∙ append_assoc notes (clock_records machine s to) rest,
    record { accepted = accepted; rest = rest; stops = subst (λ t. StopsAsks steps machine t p rest p') is stops; told = refl },
  )
