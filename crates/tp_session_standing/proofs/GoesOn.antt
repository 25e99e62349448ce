-- A session can go on from a sound standing.
use Rattle.std.proofs.Common.{◌≡◌, ◌≢◌, ℕ, ◌+◌, ◌<◌, ◌≤◌, ◌==◌, refl, ap, ◌∙◌, subst, inl, inr, ◌⊎◌, arith, All, Contains, Option, Some, None, pos, ◌+ℤ◌, ◌≤ℤ◌}
use Rattle.std.specs.Prelude.{neg_ℤ, option_map}
use Rattle.std.proofs.lemmas.Bool.{cases_lt, eqb-true}
use Rattle.std.proofs.lemmas.Int.{ints}
use Rattle.std.proofs.lemmas.List.Elements.{All-contains}
use Rattle.std.proofs.lemmas.Option.{same_Some}
use Rattle.std.proofs.lemmas.List.Sums.{count_by-le-length, list_all-from_AllPass}
use Rattle.tp_machine.proofs.MachineFacts.{is_machine}
use Rattle.tp_machine.specs.declared.machine.Machine.{Machine}
use Rattle.tp_machine.specs.declared.parts.Feeder.{Feeder}
use Rattle.tp_schedule.proofs.Membership.{All-from_contains}
use Rattle.tp_schedule.specs.Answers.{KeepsFloors}
use Rattle.tp_schedule.specs.LivePlans.{is_live}
use Rattle.tp_schedule.specs.PlannerAnswers.{none_exempt}
use Rattle.tp_schedule.specs.Plans.{point}
use Rattle.tp_schedule.specs.declared.parts.Plan.{Plan}
use Rattle.tp_stock.proofs.StockFacts.{at-location, at-none, feeder-known}
use Rattle.tp_stock.specs.Stock.{begins_at, free_of, refilled, taken_at}
use Rattle.tp_jobs.specs.declared.parts.WaitingCopy.{WaitingCopy}
use Rattle.tp_jobs.specs.declared.standing.Standing.{Standing}
use Rattle.tp_event_rules.proofs.ListFacts.{find-Some}
use Rattle.tp_event_rules.specs.StateInvariants.{KeepsLines, KeepsPlans}
use Rattle.tp_event_rules.specs.Ready.{KeepsLive, KeepsStock}
use Rattle.tp_event_rules.specs.States.{SessionState}
use Rattle.tp_session_standing.proofs.FeederFacts.{feeders-apart}
use Rattle.tp_session_standing.proofs.Refilled.{Refilled, free-all, map-members, refill-between, refilled-each}
use Rattle.tp_session_standing.specs.Laws.{CanGoOn}
use Rattle.tp_session_standing.specs.Sound.{IsFreeOf, IsKeptPlan, IsKeptWaiting, IsSound, last_number}
use Rattle.tp_session_standing.specs.StandingStates.{count_of, refill_at, refill_by, standing_of, standing_state}

module _ (machine : Machine) (t : Standing) (sound : IsSound machine t) where
  abbrev s : SessionState
  s = standing_state machine t

  -- what holds of each plan and of each copy that waits
  kept : (p : Plan) → Contains t.plans p → IsKeptPlan machine t p
  kept p in' = All-contains (IsKeptPlan machine t) t.plans p sound.plans in'

  each : (P : Plan → Type 0) → ((p : Plan) → IsKeptPlan machine t p → P p) → All P t.plans
  each P of = All-from_contains P t.plans (λ p in'. of p (kept p in'))

  each-waiting : (P : WaitingCopy → Type 0) → ((w : WaitingCopy) → IsKeptWaiting machine t w → P w) → All P t.waiting
  each-waiting P of = All-from_contains P t.waiting (λ w in'. of w (All-contains (IsKeptWaiting machine t) t.waiting w sound.waiting in'))

  -- what isn't released starts above now + lead
  floors : KeepsFloors machine t.now none_exempt t.plans
  floors p in' exempt i from within =
      let late : ¬ (point p i ≤ t.now + machine.lead) = λ by. (let released = ((kept p in').released i within).1 (inr by) in omega arith) in
      omega (arith, late)

  lines : KeepsLines s
  lines = record {
    in_order = sound.in_order;
    waiting_known = each-waiting _ (λ w k. k.numbered.known);
    unplanned = each-waiting _ (λ w k. k.unplanned);
    line = each-waiting _ (λ w k. k.line);
    one = sound.one;
    plans_known = each _ (λ p k. k.own);
    fronts = refl;
  }

  plans : KeepsPlans machine s
  plans = record {
    legal = sound.legal;
    floors = floors;
    horizon = sound.horizon;
    few_live = (let most = count_by-le-length (is_live machine t.now) t.plans in let few = sound.few_plans in omega (arith, most, few));
    few_open = sound.few_open;
    clear = list_all-from_AllPass _ t.plans (each _ (λ p k. k.clear));
  }

  live : KeepsLive machine last_number s
  live = record {
    now_at_most = sound.now_at_most;
    live = each _ (λ p k. k.live);
    jobs = sound.jobs;
    plans = plans;
    lines = lines;
    broken = record { waiting = each-waiting _ (λ w k. k.whole); plans = each _ (λ p k. k.broken) };
    older = sound.newest;
    purges = each _ (λ p k. k.purge);
    fronts = each _ (λ p k. k.front);
    numbers = record {
      jobs = omega (arith, sound.few_jobs);
      waiting = each-waiting _ (λ w k. k.numbered.copies.1);
      planned = each _ (λ p k. k.numbered.copies.1);
    };
  }

  abbrev taken : ℕ → ℕ
  taken loc = taken_at machine t.plans loc

  taken-few : (loc : ℕ) → taken loc ≤ 256
  taken-few loc = let most = count_by-le-length (begins_at machine loc) t.plans in let few = sound.few_plans in omega (arith, most, few)

  refills-at : (loc : ℕ) → loc < 256 → refilled s.refills loc ≡ refill_at (taken loc) loc machine.feeders t.stock
  refills-at loc within = at-location (λ l. refill_at (taken l) l machine.feeders t.stock) loc (pos 0) within

  at-feeder : (f : Feeder) → Contains machine.feeders f → Refilled (taken f.loc.0) machine.feeders t.stock f
  at-feeder f in' = refilled-each (taken f.loc.0) machine.feeders t.stock (feeders-apart machine) sound.stock f in'

  -- the stock and its refills are what is free and what was taken
  stocked : (f : Feeder) → Contains machine.feeders f → (stock : ℕ) → f.stock ≡ Some stock → (free : ℕ) × (free ≤ 1000256) × ((pos stock +ℤ refilled s.refills f.loc.0) ≡ (pos free +ℤ pos (taken f.loc.0)))
  stocked f in' stock is = go f.stock (at-feeder f in').free is (at-feeder f in').fits ((refills-at f.loc.0 (feeder-known machine f in')) ∙ (at-feeder f in').is)
    where
      go : (o free : Option ℕ) → o ≡ Some stock → IsFreeOf o free → refilled s.refills f.loc.0 ≡ refill_by (taken f.loc.0) o free
          → (n : ℕ) × (n ≤ 1000256) × ((pos stock +ℤ refilled s.refills f.loc.0) ≡ (pos n +ℤ pos (taken f.loc.0)))
      go None free is fits e = absurd cc
      go (Some st) None is fits e = absurd fits
      go (Some st) (Some n) is fits e = (n, fits, (let same : st ≡ stock = same_Some st stock is in omega (arith, ints, e)))

  keeps-stock : KeepsStock machine 2 s
  keeps-stock = record {
    drawn = λ f in' stock is. (let (free, few, e) = stocked f in' stock is in omega (arith, ints, e));
    most = λ loc f stock at is.
        (let found = find-Some (λ (g : Feeder). g.loc.0 == loc) machine.feeders f at in
        let (free, few, e) = stocked f found.0 stock is in
        let same = eqb-true f.loc.0 loc found.1 in
        let low = taken-few f.loc.0 in
        subst (λ l. (pos stock +ℤ refilled s.refills l) ≤ℤ pos 1000512) same (omega (arith, ints, e)));
    within = λ loc. within loc (cases_lt loc 256);
  } where
    within : (loc : ℕ) → (loc < 256) ⊎ (256 ≤ loc) → (neg_ℤ (pos 2000000) ≤ℤ refilled s.refills loc) × (refilled s.refills loc ≤ℤ pos 2000000)
    within loc (inl low) = rw (refills-at loc low) (refill-between (taken loc) loc machine.feeders t.stock (taken-few loc) (is_machine machine).stocks sound.stock)
    within loc (inr high) = rw (at-none (λ l. refill_at (taken l) l machine.feeders t.stock) loc (pos 0) high) (omega (arith, ints), omega (arith, ints))

  pub goes-on : CanGoOn machine t
  goes-on = record {
    can = record { kept = live; least = sound.least };
    stocked = keeps-stock;
    stands = λ k. record t { stock = free k };
  } where
    free : (standing_of machine s).stock ≡ t.stock
    free = map-members _ _ machine.feeders (λ f in'. ap (λ z. option_map count_of (free_of f.stock z (taken f.loc.0))) (refills-at f.loc.0 (feeder-known machine f in')))
        ∙ free-all taken machine.feeders t.stock (feeders-apart machine) sound.stock
