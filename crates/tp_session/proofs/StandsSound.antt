-- A live state that keeps all of this stands where it is sound to go on from.
use Rattle.std.proofs.Common.{◌≡◌, ℕ, ◌+◌, ◌<◌, ◌≤◌, ◌==◌, ◌∙◌, ◌⊎◌, inl, inr, Bool, true, false, cond, List, [], ◌∷◌, get_or, length, map, find, refl, ap, arith, All, AllPairs, Contains, IsTrue, nat_lt, Option, Some, None, pos, ◌+ℤ◌, ◌-ℤ◌, ◌≤ℤ◌}
use Rattle.std.specs.Prelude.{IsFalse, ℤ, count_by, negsuc, option_map}
use Rattle.std.proofs.lemmas.Bool.{eq-eqb, ne_eqb}
use Rattle.std.proofs.lemmas.Bool.Decides.{nat_tests}
use Rattle.std.proofs.lemmas.Int.{ints}
use Rattle.std.proofs.lemmas.List.{get_or_default}
use Rattle.std.proofs.lemmas.List.Elements.{All-contains}
use Rattle.tp_machine.proofs.MachineFacts.{is_machine}
use Rattle.tp_machine.specs.declared.machine.Machine.{Machine}
use Rattle.tp_machine.specs.declared.parts.Feeder.{Feeder}
use Rattle.tp_schedule.proofs.Membership.{All-from_contains, Contains-cons_cases, Contains-here, Contains-later}
use Rattle.tp_schedule.proofs.Pairs.{AllPairs-head, AllPairs-tail}
use Rattle.tp_schedule.specs.LivePlans.{is_live}
use Rattle.tp_schedule.specs.Plans.{IsTimedPlan, is_front, point}
use Rattle.tp_schedule.specs.declared.parts.Plan.{Plan}
use Rattle.tp_schedule.specs.declared.parts.SheetId.{SheetId}
use Rattle.tp_stock.specs.Stock.{free_of, refilled, taken_at}
use Rattle.tp_jobs.specs.declared.parts.WaitingCopy.{WaitingCopy}
use Rattle.tp_jobs.specs.declared.standing.Standing.{Standing}
use Rattle.tp_event_rules.proofs.NewJob.{known-plans}
use Rattle.tp_event_rules.proofs.StockKept.{few-plans}
use Rattle.tp_event_rules.proofs.TestFacts.{all-of}
use Rattle.tp_event_rules.specs.StateInvariants.{StandsBehind, is_clear, is_known, is_of_its_job, is_planned_among, is_to_arrive, tray_plans}
use Rattle.tp_event_rules.specs.Lines.{is_job_broken}
use Rattle.tp_event_rules.specs.Ready.{CanTakeEvents, EntersWhereBroken, HasStartedWhole, KeepsLive}
use Rattle.tp_event_rules.specs.Seen.{HasStarted}
use Rattle.tp_event_rules.specs.States.{SessionState}
use Rattle.tp_session_standing.proofs.FeederFacts.{Apart, feeders-apart}
use Rattle.tp_session_standing.specs.Sound.{AreFree, IsFreeOf, IsKeptPlan, IsKeptWaiting, IsNumbered, IsReleasedBy, IsSound}
use Rattle.tp_session_standing.specs.StandingStates.{count_of, free_sheets, standing_of}
use Rattle.tp_session.specs.Kept.{IsCounted, KeepsPlan, KeepsSound, KeepsWaiting}
use Rattle.tp_session.specs.Laws.{StandsSoundly}

-- a feeder is the one that is found at its location
found : (feeders : List Feeder) → AllPairs Apart feeders → (f : Feeder) → Contains feeders f → find (λ (g : Feeder). g.loc.0 == f.loc.0) feeders ≡ Some f
found [] apart f in' = absurd (omega (arith, in'.1))
found (g ∷ feeders) apart f in' = elim (Contains-cons_cases g feeders f in') [
  | inl same ↦ ap (λ b. cond b (Some g) (find (λ (h : Feeder). h.loc.0 == f.loc.0) feeders)) (eq-eqb g.loc.0 f.loc.0 (ap (λ (h : Feeder). h.loc.0) same)) ∙ ap Some same
  | inr later ↦
      ap (λ b. cond b (Some g) (find (λ (h : Feeder). h.loc.0 == f.loc.0) feeders)) (ne_eqb g.loc.0 f.loc.0 (All-contains (Apart g) feeders f (AllPairs-head Apart g feeders apart) later))
      ∙ found feeders (AllPairs-tail Apart g feeders apart) f later
]

count-few : (z : ℤ) → z ≤ℤ pos 1000256 → count_of z ≤ 1000256
count-few (pos n) le = omega (arith, ints)
count-few (negsuc n) le = omega arith

less : (stock taken : ℕ) (r : ℤ) → (pos stock +ℤ r) ≤ℤ pos 1000256 → ((pos stock +ℤ r) -ℤ pos taken) ≤ℤ pos 1000256
less stock taken r le = omega (arith, ints)

module _ (machine : Machine) (s : SessionState) (k : KeepsSound machine s) where
  abbrev t : Standing
  t = standing_of machine s

  -- what is free
  free-one : (f : Feeder) → Contains machine.feeders f → IsFreeOf f.stock (free_sheets machine s f)
  free-one f in' = go f.stock refl where
    go : (o : Option ℕ) → f.stock ≡ o → IsFreeOf o (option_map count_of (free_of o (refilled s.refills f.loc.0) (taken_at machine s.plans f.loc.0)))
    go None is = tt
    go (Some stock) is =
        count-few ((pos stock +ℤ refilled s.refills f.loc.0) -ℤ pos (taken_at machine s.plans f.loc.0))
        (less stock (taken_at machine s.plans f.loc.0) (refilled s.refills f.loc.0) (k.stock.few f.loc.0 f stock (found machine.feeders (feeders-apart machine) f in') is))

  free-all : (feeders : List Feeder) → ((f : Feeder) → Contains feeders f → IsFreeOf f.stock (free_sheets machine s f)) → AreFree feeders (map (free_sheets machine s) feeders)
  free-all [] each = tt
  free-all (f ∷ feeders) each = (each f (Contains-here f feeders), free-all feeders (λ g in'. each g (Contains-later f feeders g in')))

  module _ (copies : ℕ) (few : copies ≤ 4000000000) (can : CanTakeEvents machine copies s) where
    abbrev live : KeepsLive machine copies s
    live = can.kept

    numbered : (c : SheetId) → IsCounted c → is_known s.jobs c ≡ true → c.copy ≤ copies → IsNumbered t c
    numbered c counted known low = record { known = known; sheets = counted.sheets; copies = (counted.copies, omega (arith, few)) }

    -- an action counts as released where it is
    released : (p : Plan) → Contains s.plans p → KeepsPlan machine s.now p → IsReleasedBy machine s.now p
    released p in' keeps i within = (λ low. inr (keeps.due i low), back) where
      back : IsTrue (is_front p.kind) ⊎ (point p i ≤ s.now + machine.lead) → i < p.released
      back (inl front) = (let all = keeps.front front in omega arith)
      back (inr early) = go (nat_lt i p.released) refl where
        go : (b : Bool) → nat_lt i p.released ≡ b → i < p.released
        go true e = grind (arith, nat_tests)
        go false e =
            let high : p.released ≤ i = grind (arith, nat_tests) in
            let late : s.now + machine.lead < point p i = live.plans.floors p in' refl i high within in
            absurd (omega arith)

    points : (p : Plan) → IsTimedPlan machine p → KeepsPlan machine s.now p → All (λ x. x ≤ 2000000000) p.points
    points p timed keeps i d below =
        let one_more : length p.points ≡ length p.acts + 1 = timed.one_more in
        let same : get_or p.points i d ≡ point p i = get_or_default p.points i d 0 below in
        let w : point p i ≤ s.now + machine.window = keeps.within i (omega (arith, below)) in
        let now : s.now ≤ 1000000000 = live.now_at_most in
        let window = (is_machine machine).window.1 in
        omega arith

    known-plan : (p : Plan) → Contains s.plans p → is_known s.jobs p.sheet ≡ true
    known-plan p in' = All-contains (λ q. is_known s.jobs q.sheet ≡ true) s.plans p (known-plans s.jobs s.plans live.lines.plans_known) in'

    kept-plan : (p : Plan) → Contains s.plans p → IsKeptPlan machine t p
    kept-plan p in' =
        let keeps = All-contains (KeepsPlan machine s.now) s.plans p k.plans in' in
        let timed = All-contains (IsTimedPlan machine) s.plans p live.plans.legal.timed in' in
        record {
          numbered = numbered p.sheet keeps.counted (known-plan p in') (All-contains (λ q. q.sheet.copy ≤ copies) s.plans p live.numbers.planned in');
          own = All-contains (λ q. IsTrue (is_of_its_job s.jobs q)) s.plans p live.lines.plans_known in';
          points = points p timed keeps;
          released = released p in' keeps;
          live = All-contains (λ q. IsTrue (is_live machine s.now q)) s.plans p live.live in';
          front = All-contains (HasStartedWhole s.now) s.plans p live.fronts in';
          purge = All-contains (HasStarted s.now) s.plans p live.purges in';
          broken = All-contains (EntersWhereBroken s.now s.jobs) s.plans p live.broken.plans in';
          clear = All-contains (λ q. is_clear machine s q ≡ true) s.plans p (all-of (is_clear machine s) s.plans live.plans.clear) in';
        }

    kept-waiting : (w : WaitingCopy) → Contains s.waiting w → IsKeptWaiting machine t w
    kept-waiting w in' =
        let keeps = All-contains (KeepsWaiting machine) s.waiting w k.waiting in' in
        record {
          numbered = numbered w.sheet keeps.counted (All-contains (λ v. IsTrue (is_known s.jobs v.sheet)) s.waiting w live.lines.waiting_known in') (All-contains (λ v. v.sheet.copy ≤ copies) s.waiting w live.numbers.waiting in');
          media = keeps.media;
          unplanned = All-contains (λ v. IsFalse (is_planned_among s.plans v.sheet)) s.waiting w live.lines.unplanned in';
          whole = All-contains (λ v. IsFalse (is_job_broken s.jobs v.sheet.job)) s.waiting w live.broken.waiting in';
          line = All-contains (λ v. All (StandsBehind s.jobs v) (tray_plans s.plans)) s.waiting w live.lines.line in';
        }

    few-waiting : length s.waiting ≤ 4352
    few-waiting = let most : length s.waiting + count_by (is_to_arrive s.now) s.plans ≤ 4352 = live.plans.few_open in omega arith

    stands : length s.jobs ≤ 1000000 → IsSound machine t
    stands few_jobs = record {
      now_at_most = live.now_at_most;
      outs = k.outs;
      stock = free-all machine.feeders free-one;
      few_jobs = few_jobs;
      jobs = live.jobs;
      few_plans = few-plans machine copies s live;
      plans = All-from_contains (IsKeptPlan machine t) s.plans kept-plan;
      few_waiting = few-waiting;
      few_open = live.plans.few_open;
      in_order = live.lines.in_order;
      waiting = All-from_contains (IsKeptWaiting machine t) s.waiting kept-waiting;
      one = live.lines.one;
      newest = live.older;
      legal = live.plans.legal;
      horizon = live.plans.horizon;
      least = can.least;
    }

pub stands-sound : StandsSoundly
stands-sound machine events s few few_jobs k = stands machine s k.sound events few k.can few_jobs
