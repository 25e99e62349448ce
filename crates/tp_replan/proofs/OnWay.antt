-- What befalls the copies leaves a schedule over which the loop can go on.
use Rattle.std.proofs.Common.{◌≡◌, ◌⊎◌, ℕ, zero, suc, ◌+◌, ◌<◌, ◌≤◌, Bool, true, false, not, ◌&&◌, ◌||◌, List, [], ◌∷◌, ◌++◌, length, take, slice_index, IsTrue, AllPairs, Contains, refl, sym, ap, ◌∙◌, arith, subst, inl, inr}
use Rattle.std.specs.List.{list_any}
use Rattle.std.proofs.lemmas.List.{get_or-take, length-take-le}
use Rattle.std.proofs.lemmas.List.Concat.{flat_map-cons}
use Rattle.std.proofs.lemmas.List.Elements.{All-contains}
use Rattle.std.proofs.lemmas.List.Sums.{count_by-le-length}
use Rattle.tp_machine.specs.declared.parts.ActId.{ActId}
use Rattle.tp_machine.specs.declared.machine.Machine.{Machine}
use Rattle.tp_schedule.specs.Holders.{Run, runs_from, runs_of}
use Rattle.tp_schedule.specs.Legality.{EndsBefore}
use Rattle.tp_schedule.specs.LivePlans.{live_count}
use Rattle.tp_schedule.specs.PlannerAnswers.{IsKnownGoal}
use Rattle.tp_schedule.specs.Plans.{IsEarlier, IsTimedPlan, end_of_plan, goes_to, is_before, is_delivered_to, is_front, point}
use Rattle.tp_schedule.specs.declared.parts.Plan.{Plan}
use Rattle.tp_schedule.specs.declared.parts.SheetId.{SheetId}
use Rattle.tp_schedule.proofs.CopyFacts.{before-asym}
use Rattle.tp_schedule.proofs.Membership.{All-from_contains, Contains-cons_cases, Contains-here, Contains-later}
use Rattle.tp_schedule.proofs.Pairs.{AllPairs-cons, AllPairs-either, AllPairs-head, AllPairs-nil, AllPairs-tail}
use Rattle.tp_event_rules.proofs.ListFacts.{All-both}
use Rattle.tp_event_rules.specs.Fates.{Fate as Befalls, befall, is_cut_by, is_loss, left_by, left_of, to_purge}
use Rattle.tp_event_rules.specs.Lines.{is_lost}
use Rattle.tp_event_rules.specs.Moments.{front_of, is_started, is_unstarted, started_count}
use Rattle.tp_event_rules.specs.States.{SessionState}
use Rattle.tp_event_rules.proofs.CutPlans.{AreLeft-one, length-runs_from}
use Rattle.tp_event_rules.proofs.LeftPlans.{AreLeft, none, live_count-left}
use Rattle.tp_event_rules.proofs.PlanOnFacts.{fates_keep_planning}
use Rattle.tp_outage_laws.proofs.Flight.{started-are}
use Rattle.tp_replan.specs.LooseLoop.{IsOnWay, IsUnderWay, is_loose_in}
use Rattle.tp_replan.proofs.StillFall.{is_purged_by, now-lost, still-lost}
use Rattle.tp_event_rules.specs.Fates as fates

-- a run that ends after the moment, so that the plan does
Rises : ℕ → List ℕ → Type 0
Rises n points = (j : ℕ) → j < n → slice_index points j < slice_index points (suc j)

some-late : (now : ℕ) (test : Run → Bool) → ((run : Run) → test run ≡ true → run.start < run.end → now < run.end)
    → (sheet : SheetId) (m : ℕ) (acts : List ActId) (points : List ℕ) → ((j : ℕ) → j < length acts → slice_index points j < slice_index points (suc j)) → length points ≡ length acts + 1
    → list_any test (runs_from sheet m acts points) ≡ true → now < slice_index points (length acts)
some-late now test late sheet m [] points rise len e = absurd cc
some-late now test late sheet m (act ∷ acts) [] rise len e = absurd (omega arith)
some-late now test late sheet m (act ∷ acts) (start ∷ []) rise len e = absurd (omega arith)
some-late now test late sheet m (act ∷ acts) (start ∷ end ∷ points) rise len e =
    go (test (record { sheet = sheet; number = m; act = act; start = start; end = end })) refl e
    (some-late now test late sheet (m + 1) acts (end ∷ points) (λ j in'. rise (suc j) (omega arith)) (omega arith)) where
      last : (acts : List ActId) (points : List ℕ) → ((j : ℕ) → j < length acts → slice_index (end ∷ points) j < slice_index (end ∷ points) (suc j)) → end ≤ slice_index (end ∷ points) (length acts)
      last acts points rise = up (length acts) (λ j in'. rise j in') where
        up : (n : ℕ) → ((j : ℕ) → j < n → slice_index (end ∷ points) j < slice_index (end ∷ points) (suc j)) → end ≤ slice_index (end ∷ points) n
        up zero rise = omega arith
        up (suc n) rise = let rest = up n (λ j in'. rise j (omega arith)) in let one = rise n (omega arith) in omega arith

      go : (b : Bool) → test (record { sheet = sheet; number = m; act = act; start = start; end = end }) ≡ b → (b || list_any test (runs_from sheet (m + 1) acts (end ∷ points))) ≡ true
          → (list_any test (runs_from sheet (m + 1) acts (end ∷ points)) ≡ true → now < slice_index (end ∷ points) (length acts)) → now < slice_index (end ∷ points) (length acts)
      go true f e rest =
          let one : now < end = late (record { sheet = sheet; number = m; act = act; start = start; end = end }) f (rise 0 (omega arith)) in
          let more = last acts points (λ j in'. rise (suc j) (omega arith)) in
          omega arith
      go false f e rest = rest e

rising : (machine : Machine) (p : Plan) → IsTimedPlan machine p → (j : ℕ) → j < length p.acts → point p j < point p (suc j)
rising machine p timed j in' =
    let next : point p j < point p (j + 1) = timed.rise j in' in
    let same : point p (j + 1) ≡ point p (suc j) = ap (point p) (omega arith) in omega arith

pub runs-late : (machine : Machine) (now : ℕ) (test : Run → Bool) (p : Plan) → IsTimedPlan machine p → ((run : Run) → test run ≡ true → run.start < run.end → now < run.end)
    → list_any test (runs_of p) ≡ true → now < end_of_plan p
runs-late machine now test p timed late e = some-late now test late p.sheet 1 p.acts p.points (rising machine p timed) timed.one_more e

-- a plan that ends after the moment leaves a front under way
pub front-under_way : (machine : Machine) (now : ℕ) (p : Plan) → IsTimedPlan machine p → now < end_of_plan p → IsUnderWay now (front_of now p)
front-under_way machine now p timed late =
    let are = started-are now p.sheet 1 p.acts p.points (rising machine p timed) timed.one_more in
    let runs = length-runs_from p.sheet 1 p.acts p.points timed.one_more in
    let most = count_by-le-length (is_started now) (runs_of p) in
    let count : length (take (started_count now p) p.acts) ≡ started_count now p = length-take-le (started_count now p) p.acts (omega arith) in
    record {
      started = λ i low.
          let same : point (front_of now p) i ≡ point p i = get_or-take (started_count now p + 1) p.points i 0 (omega arith) in
          let is : point p i ≤ now = are.0 i (omega arith) in omega arith;
      runs =
          let at : end_of_plan (front_of now p) ≡ point (front_of now p) (started_count now p) = ap (point (front_of now p)) count in
          let same : point (front_of now p) (started_count now p) ≡ point p (started_count now p) = get_or-take (started_count now p + 1) p.points (started_count now p) 0 (omega arith) in
          let is : now < point p (started_count now p) = are.1 late in omega arith;
    }

-- where a plan that is left comes from
only : {X : Type 0} (x y : X) → Contains (x ∷ []) y → x ≡ y
only x y in' = elim (Contains-cons_cases x [] y in') [
  | inl same ↦ same
  | inr later ↦ absurd (omega (arith, later.1))
]

pub in-append : {X : Type 0} (xs ys : List X) (x : X) → Contains (xs ++ ys) x → Contains xs x ⊎ Contains ys x
in-append [] ys x in' = inr in'
in-append (y ∷ xs) ys x in' = elim (Contains-cons_cases y (xs ++ ys) x in') [
  | inl same ↦ inl (subst (Contains (y ∷ xs)) same (Contains-here y xs))
  | inr later ↦ elim (in-append xs ys x later) [
    | inl one ↦ inl (Contains-later y xs x one)
    | inr other ↦ inr other
  ]
]

pub record ComesFrom (now : ℕ) (rule : Plan → Befalls) (plans : List Plan) (q : Plan) : Type 0 where
  pub p : Plan
  pub there : Contains plans p
  pub left : Contains (left_of now p (rule p)) q

pub comes-from : (now : ℕ) (rule : Plan → Befalls) (plans : List Plan) (q : Plan) → Contains (left_by rule now plans) q → ComesFrom now rule plans q
comes-from now rule [] q in' = absurd (omega (arith, in'.1))
comes-from now rule (p ∷ plans) q in' =
    elim (in-append (left_of now p (rule p)) (left_by rule now plans) q (subst (λ l. Contains l q) (flat_map-cons (λ r. left_of now r (rule r)) p plans) in')) [
      | inl here ↦ record { p = p; there = Contains-here p plans; left = here }
      | inr later ↦ let from = comes-from now rule plans q later in record { p = from.p; there = Contains-later p plans from.p from.there; left = from.left }
    ]

-- each plan that is left is the plan, its front where it is lost or cut, or its front with a purge as goal
left-cases : (Q : Plan → Type 0) (now : ℕ) (p q : Plan) (f : Befalls) → Contains (left_of now p f) q → (f ≡ fates.stays → Q p) → (f ≡ fates.lost → Q (front_of now p)) → (f ≡ fates.cut → Q (front_of now p))
    → (is_purged_by f ≡ true → is_cut_by f ≡ true → Q (to_purge (front_of now p))) → Q q
left-cases Q now p q fates.stays in' stays lost cut purged = subst Q (only p q in') (stays refl)
left-cases Q now p q fates.lost in' stays lost cut purged = subst Q (only (front_of now p) q in') (lost refl)
left-cases Q now p q fates.withdrawn in' stays lost cut purged = absurd (omega (arith, in'.1))
left-cases Q now p q fates.cut in' stays lost cut purged = subst Q (only (front_of now p) q in') (cut refl)
left-cases Q now p q fates.purged in' stays lost cut purged = subst Q (only (to_purge (front_of now p)) q in') (purged refl refl)
left-cases Q now p q fates.replaced in' stays lost cut purged = subst Q (only (to_purge (front_of now p)) q in') (purged refl refl)
left-cases Q now p q fates.dropped in' stays lost cut purged = absurd (omega (arith, in'.1))

-- a loose copy was not lost before
loose-before : (front lost lost' : Bool) → (lost ≡ true → lost' ≡ true) → (front && not lost') ≡ true → (front && not lost) ≡ true
loose-before true true lost' still e = absurd (let h = still refl in cc)
loose-before true false lost' still e = refl
loose-before false lost lost' still e = absurd cc

not-loose : (front lost : Bool) → lost ≡ true → (front && not lost) ≡ true → ⊥
not-loose true true e f = cc
not-loose false true e f = cc
not-loose front false e f = cc

pairs-both : {X : Type 0} (R Q : X → X → Type 0) (xs : List X) → AllPairs R xs → AllPairs Q xs → AllPairs (λ x y. R x y × Q x y) xs
pairs-both R Q [] one other = AllPairs-nil (λ x y. R x y × Q x y)
pairs-both R Q (x ∷ xs) one other =
    AllPairs-cons (λ x y. R x y × Q x y) x xs (All-both (R x) (Q x) (λ y. R x y × Q x y) (λ y a b. (a, b)) xs (AllPairs-head R x xs one) (AllPairs-head Q x xs other))
    (pairs-both R Q xs (AllPairs-tail R x xs one) (AllPairs-tail Q x xs other))

-- what befalls the copies, where those that are cut end after the moment
pub record CutsRunning (s : SessionState) (rule : Plan → Befalls) (p : Plan) : Type 0 where
  pub started : is_cut_by (rule p) ≡ true → is_unstarted s.now p ≡ false
  pub late : is_cut_by (rule p) ≡ true → s.now < end_of_plan p

module _ (machine : Machine) (s : SessionState) (rule : Plan → Befalls) (on : IsOnWay machine s.now s.plans s.lost) (cuts : (p : Plan) → Contains s.plans p → CutsRunning s rule p) where
  abbrev t : SessionState
  t = befall rule s

  timed-at : (p : Plan) → Contains s.plans p → IsTimedPlan machine p
  timed-at p in' = All-contains (IsTimedPlan machine) s.plans p on.plan_on.legal.timed in'

  way-left : (q : Plan) → Contains t.plans q → IsTrue (is_loose_in t.lost q) → IsUnderWay s.now q
  way-left q in' =
      let from = comes-from s.now rule s.plans q in' in
      let p = from.p in
      left-cases (λ q. IsTrue (is_loose_in t.lost q) → IsUnderWay s.now q) s.now p q (rule p) from.left
      (λ e loose. All-contains (λ q. IsTrue (is_loose_in s.lost q) → IsUnderWay s.now q) s.plans p on.way from.there
      (loose-before (is_front p.kind) (is_lost s p) (is_lost t p) (still-lost s rule p from.there) loose))
      (λ e loose. absurd (not-loose true (is_lost t p) (now-lost s rule p from.there (ap is_loss e)) loose))
      (λ e loose. front-under_way machine s.now p (timed-at p from.there) ((cuts p from.there).late (ap is_cut_by e)))
      (λ e f loose. let way = front-under_way machine s.now p (timed-at p from.there) ((cuts p from.there).late f) in record { started = way.started; runs = way.runs })

  -- a whole plan to a tray stays as it is
  delivered-stays : (q : Plan) (tray : ℕ) → Contains t.plans q → IsTrue (is_delivered_to q tray) → Contains s.plans q
  delivered-stays q tray in' =
      let from = comes-from s.now rule s.plans q in' in
      left-cases (λ q. IsTrue (is_delivered_to q tray) → Contains s.plans q) s.now from.p q (rule from.p) from.left
      (λ e to. from.there) (λ e to. absurd cc) (λ e to. absurd cc) (λ e f to. absurd cc)

  both-ends : (p q : Plan) (tray : ℕ) → Contains s.plans p → Contains s.plans q → is_front p.kind ≡ false → IsTrue (goes_to p.goal tray) → IsTrue (is_delivered_to q tray) → IsTrue (is_before p.sheet q.sheet) → end_of_plan p < end_of_plan q
  both-ends p q tray in' in'' whole to to' before =
      elim (AllPairs-either (λ p q. IsEarlier p q × EndsBefore p q) s.plans p q (pairs-both IsEarlier EndsBefore s.plans on.plan_on.legal.in_order on.plan_on.legal.rise) in' in'' differ) [
        | inl pair ↦ pair.1 tray (rw whole to) to'
        | inr pair ↦ absurd (let asym = before-asym p.sheet q.sheet before in let is : is_before q.sheet p.sheet ≡ true = pair.0 in cc)
      ] where
        differ : p ≡ q → ⊥
        differ e = let asym = before-asym p.sheet q.sheet before in let is : is_before q.sheet p.sheet ≡ true = subst (λ (r : Plan). is_before q.sheet r.sheet ≡ true) (sym e) (subst (λ (r : Plan). is_before r.sheet q.sheet ≡ true) e before) in cc

  ahead-left : (p q : Plan) → Contains t.plans p → Contains t.plans q → IsTrue (is_loose_in t.lost p) → (tray : ℕ) → IsTrue (goes_to p.goal tray)
      → IsTrue (is_delivered_to q tray) → IsTrue (is_before p.sheet q.sheet) → s.now < end_of_plan q
  ahead-left r q in' in'' loose tray to to' before =
      let from = comes-from s.now rule s.plans r in' in
      let p = from.p in
      let there = delivered-stays q tray in'' to' in
      left-cases (λ r. IsTrue (is_loose_in t.lost r) → IsTrue (goes_to r.goal tray) → IsTrue (is_before r.sheet q.sheet) → s.now < end_of_plan q) s.now p r (rule p) from.left
      (λ e loose to before. on.ahead p q from.there there (loose-before (is_front p.kind) (is_lost s p) (is_lost t p) (still-lost s rule p from.there) loose) tray to to' before)
      (λ e loose to before. absurd (not-loose true (is_lost t p) (now-lost s rule p from.there (ap is_loss e)) loose))
      (λ e loose to before. go p from.there q there to to' before ((cuts p from.there).late (ap is_cut_by e)) loose (is_front p.kind) refl)
      (λ e f loose to before. absurd cc)
      loose to before where
        go : (p : Plan) → Contains s.plans p → (q : Plan) → Contains s.plans q → IsTrue (goes_to p.goal tray) → IsTrue (is_delivered_to q tray) → IsTrue (is_before p.sheet q.sheet) → s.now < end_of_plan p
            → not (is_lost t p) ≡ true → (b : Bool) → is_front p.kind ≡ b → s.now < end_of_plan q
        go p here q there to to' before late own true e =
            on.ahead p q here there (loose-before (is_front p.kind) (is_lost s p) (is_lost t p) (still-lost s rule p here) (rw e own)) tray to to' before
        go p here q there to to' before late own false e = let ends = both-ends p q tray here there e to to' before in omega arith

  -- names and goals
  named-left : (q : Plan) → Contains t.plans q → (p : Plan) × Contains s.plans p × (q.name ≡ p.name) × (q.sheet ≡ p.sheet)
  named-left q in' =
      let from = comes-from s.now rule s.plans q in' in
      left-cases (λ q. (p : Plan) × Contains s.plans p × (q.name ≡ p.name) × (q.sheet ≡ p.sheet)) s.now from.p q (rule from.p) from.left
      (λ e. (from.p, from.there, refl, refl)) (λ e. (from.p, from.there, refl, refl)) (λ e. (from.p, from.there, refl, refl)) (λ e f. (from.p, from.there, refl, refl))

  goals-left : (q : Plan) → Contains t.plans q → IsKnownGoal machine q.goal
  goals-left q in' =
      let from = comes-from s.now rule s.plans q in' in
      let goal = All-contains (λ (p : Plan). IsKnownGoal machine p.goal) s.plans from.p on.goals from.there in
      left-cases (λ q. IsKnownGoal machine q.goal) s.now from.p q (rule from.p) from.left (λ e. goal) (λ e. goal) (λ e. goal) (λ e f. tt)

  pub befall-on : IsOnWay machine s.now (befall rule s).plans (befall rule s).lost
  befall-on = record {
    plan_on = fates_keep_planning machine rule s (λ p in' cut. (cuts p in').started cut) on.plan_on;
    few_live =
        let less = live_count-left machine s.now s.plans t.plans (left-of s.plans (λ p in'. (cuts p in').started)) in
        let few : live_count machine s.now s.plans ≤ 256 = on.few_live in
        omega arith;
    named = λ p q in' in'' same.
        let one = named-left p in' in
        let other = named-left q in'' in
        let name : one.0.name ≡ other.0.name = sym one.2 ∙ same ∙ other.2 in
        let job = on.named one.0 other.0 one.1 other.1 name in
        ap (λ (c : SheetId). c.job) one.3 ∙ job ∙ sym (ap (λ (c : SheetId). c.job) other.3);
    goals = All-from_contains (λ p. IsKnownGoal machine p.goal) t.plans goals-left;
    way = All-from_contains (λ p. IsTrue (is_loose_in t.lost p) → IsUnderWay s.now p) t.plans way-left;
    ahead = ahead-left;
  } where
    left-of : (plans : List Plan) → ((p : Plan) → Contains plans p → is_cut_by (rule p) ≡ true → is_unstarted s.now p ≡ false) → AreLeft machine plans (left_by rule s.now plans)
    left-of plans started = all plans started where
      all : (plans : List Plan) → ((p : Plan) → Contains plans p → is_cut_by (rule p) ≡ true → is_unstarted s.now p ≡ false) → AreLeft machine plans (left_by rule s.now plans)
      all [] started = none
      all (p ∷ plans) started =
          AreLeft-one machine s.now p (rule p) plans (left_by rule s.now plans) (λ timed. started p (Contains-here p plans)) (all plans (λ q in'. started q (Contains-later p plans q in')))
