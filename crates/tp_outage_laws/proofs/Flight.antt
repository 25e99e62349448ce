-- When the actions of a timed plan run.
use Rattle.std.proofs.Common.{◌≡◌, ℕ, suc, zero, ◌+◌, ◌-◌, ◌<◌, ◌≤◌, Bool, true, false, cond, ◌&&◌, ◌||◌, not, List, [], ◌∷◌, length, refl, ap, arith, nat_lt, nat_le, slice_index}
use Rattle.std.specs.Prelude.{◌==◌, count_by}
use Rattle.std.specs.List.{list_any}
use Rattle.std.proofs.lemmas.Bool.{and_parts}
use Rattle.std.proofs.lemmas.Bool.Decides.{nat_tests}
use Rattle.std.proofs.lemmas.List.{length-take-le, get_or-take}
use Rattle.std.proofs.lemmas.List.Sums.{count_by-le-length}
use Rattle.tp_machine.specs.declared.parts.ActId.{ActId}
use Rattle.tp_machine.specs.declared.machine.Machine.{Machine}
use Rattle.tp_schedule.specs.Holders.{Run, runs_from, runs_of}
use Rattle.tp_schedule.specs.Plans.{IsTimedPlan, end_of_plan, point}
use Rattle.tp_schedule.specs.declared.parts.Plan.{Plan}
use Rattle.tp_schedule.specs.declared.parts.SheetId.{SheetId}
use Rattle.tp_event_rules.specs.Moments.{does_use, front_of, is_entering, is_in_flight, is_last, is_running, is_running_on, is_started, is_to_run_on, is_tray_plan, started_count}
use Rattle.tp_event_rules.proofs.CutPlans.{length-runs_from}
use Rattle.tp_outage_laws.proofs.Counts.{count-cons}

-- points rise
abbrev pub DoRise : List ActId → List ℕ → Type 0
DoRise acts points = (j : ℕ) → j < length acts → slice_index points j < slice_index points (suc j)

above-first : (acts : List ActId) (points : List ℕ) → DoRise acts points → (j : ℕ) → j ≤ length acts → slice_index points 0 ≤ slice_index points j
above-first acts points rise zero within = omega arith
above-first acts points rise (suc j) within = let before = above-first acts points rise j (omega arith) in let next = rise j (omega arith) in omega arith

pub rises : (machine : Machine) (p : Plan) → IsTimedPlan machine p → DoRise p.acts p.points
rises machine p timed j in' =
    let next : point p j < point p (j + 1) = timed.rise j in' in
    let same : point p (j + 1) ≡ point p (suc j) = ap (point p) (omega arith) in omega arith

-- where a run that passes stands
any-run : (test : Run → Bool) (now : ℕ) (sheet : SheetId) (n : ℕ) (acts : List ActId) (points : List ℕ) → length points ≡ length acts + 1 → list_any test (runs_from sheet n acts points) ≡ true
    → (i : ℕ) × (i < length acts) × ((run : Run) × (test run ≡ true) × (run.start ≡ slice_index points i) × (run.end ≡ slice_index points (suc i)) × (run.number ≡ n + i))
any-run test now sheet n [] points len e = absurd (cc)
any-run test now sheet n (a ∷ acts) [] len e = absurd (omega arith)
any-run test now sheet n (a ∷ acts) (start ∷ []) len e = absurd (omega arith)
any-run test now sheet n (a ∷ acts) (start ∷ end ∷ points) len e = go (test (record { sheet = sheet; number = n; act = a; start = start; end = end })) refl e (any-run test now sheet (n + 1) acts (end ∷ points) (omega arith)) where
  go : (b : Bool) → test (record { sheet = sheet; number = n; act = a; start = start; end = end }) ≡ b → (b || list_any test (runs_from sheet (n + 1) acts (end ∷ points))) ≡ true
      → (list_any test (runs_from sheet (n + 1) acts (end ∷ points)) ≡ true → (i : ℕ) × (i < length acts) × ((run : Run) × (test run ≡ true) × (run.start ≡ slice_index (end ∷ points) i) × (run.end ≡ slice_index (end ∷ points) (suc i)) × (run.number ≡ n + 1 + i)))
      → (i : ℕ) × (i < length (a ∷ acts)) × ((run : Run) × (test run ≡ true) × (run.start ≡ slice_index (start ∷ end ∷ points) i) × (run.end ≡ slice_index (start ∷ end ∷ points) (suc i)) × (run.number ≡ n + i))
  go true f g rest = (0, omega arith, (record { sheet = sheet; number = n; act = a; start = start; end = end }, f, refl, refl, omega arith))
  go false f g rest =
      let r = rest g in
      let number : r.2.0.number ≡ n + 1 + r.0 = r.2.4 in
      (suc r.0, omega (arith, r.1), (r.2.0, r.2.1, r.2.2, r.2.3, omega arith))

-- some action runs between the first start and the last end
flight : (now : ℕ) (sheet : SheetId) (n : ℕ) (acts : List ActId) (points : List ℕ) → length points ≡ length acts + 1 → slice_index points 0 ≤ now → now < slice_index points (length acts) → list_any (is_running now) (runs_from sheet n acts points) ≡ true
flight now sheet n [] points len low high = absurd (omega arith)
flight now sheet n (a ∷ acts) [] len low high = absurd (omega arith)
flight now sheet n (a ∷ acts) (start ∷ []) len low high = absurd (omega arith)
flight now sheet n (a ∷ acts) (start ∷ end ∷ points) len low high = go (nat_lt now end) refl (λ on. flight now sheet (n + 1) acts (end ∷ points) (omega arith) on high) where
  started : nat_le start now ≡ true
  started = grind (arith, nat_tests)

  go : (b : Bool) → nat_lt now end ≡ b → (end ≤ now → list_any (is_running now) (runs_from sheet (n + 1) acts (end ∷ points)) ≡ true)
      → ((nat_le start now && b) || list_any (is_running now) (runs_from sheet (n + 1) acts (end ∷ points))) ≡ true
  go true e rest = rw started refl
  go false e rest = rw (rest (grind (arith, nat_tests))) (or-true (nat_le start now && false)) where
    or-true : (b : Bool) → (b || true) ≡ true
    or-true true = refl
    or-true false = refl

-- the actions that have started are the first ones, and the last of them runs where the plan ends after the moment
none-started : (now : ℕ) (sheet : SheetId) (m : ℕ) (acts : List ActId) (points : List ℕ) → ((j : ℕ) → j < length acts → slice_index points j < slice_index points (suc j)) → length points ≡ length acts + 1
    → now < slice_index points 0 → count_by (is_started now) (runs_from sheet m acts points) ≡ 0
none-started now sheet m [] points rise len high = refl
none-started now sheet m (act ∷ acts) [] rise len high = absurd (omega arith)
none-started now sheet m (act ∷ acts) (start ∷ []) rise len high = absurd (omega arith)
none-started now sheet m (act ∷ acts) (start ∷ end ∷ points) rise len high =
    let up = rise 0 (omega arith) in
    let rest = none-started now sheet (m + 1) acts (end ∷ points) (λ j in'. rise (suc j) (omega arith)) (omega arith) (omega arith) in
    let run : Run = record { sheet = sheet; number = m; act = act; start = start; end = end } in
    let first = count-cons (is_started now) run (runs_from sheet (m + 1) acts (end ∷ points)) in
    let here : nat_le start now ≡ false = grind (arith, nat_tests) in
    let none : cond {A = ℕ} (nat_le start now) 1 0 ≡ 0 = rw here refl in
    omega arith

pub started-are : (now : ℕ) (sheet : SheetId) (m : ℕ) (acts : List ActId) (points : List ℕ) → ((j : ℕ) → j < length acts → slice_index points j < slice_index points (suc j)) → length points ≡ length acts + 1
    → ((i : ℕ) → i < count_by (is_started now) (runs_from sheet m acts points) → slice_index points i ≤ now)
    × (now < slice_index points (length acts) → now < slice_index points (count_by (is_started now) (runs_from sheet m acts points)))
started-are now sheet m [] points rise len = ((λ i low. absurd (omega arith)), λ h. h)
started-are now sheet m (act ∷ acts) [] rise len = absurd (omega arith)
started-are now sheet m (act ∷ acts) (start ∷ []) rise len = absurd (omega arith)
started-are now sheet m (act ∷ acts) (start ∷ end ∷ points) rise len =
    go (started-are now sheet (m + 1) acts (end ∷ points) (λ j in'. rise (suc j) (omega arith)) (omega arith)) (nat_le start now) refl where
      run : Run
      run = record { sheet = sheet; number = m; act = act; start = start; end = end }

      counted : count_by (is_started now) (run ∷ runs_from sheet (m + 1) acts (end ∷ points)) ≡ cond (nat_le start now) 1 0 + count_by (is_started now) (runs_from sheet (m + 1) acts (end ∷ points))
      counted = count-cons (is_started now) run (runs_from sheet (m + 1) acts (end ∷ points))

      at : (n k : ℕ) → n ≡ suc k → slice_index (start ∷ end ∷ points) n ≡ slice_index (end ∷ points) k
      at n k e = ap (slice_index (start ∷ end ∷ points)) e

      go : (((i : ℕ) → i < count_by (is_started now) (runs_from sheet (m + 1) acts (end ∷ points)) → slice_index (end ∷ points) i ≤ now)
          × (now < slice_index (end ∷ points) (length acts) → now < slice_index (end ∷ points) (count_by (is_started now) (runs_from sheet (m + 1) acts (end ∷ points)))))
          → (b : Bool) → nat_le start now ≡ b
          → ((i : ℕ) → i < count_by (is_started now) (run ∷ runs_from sheet (m + 1) acts (end ∷ points)) → slice_index (start ∷ end ∷ points) i ≤ now)
          × (now < slice_index (end ∷ points) (length acts) → now < slice_index (start ∷ end ∷ points) (count_by (is_started now) (run ∷ runs_from sheet (m + 1) acts (end ∷ points))))
      go rest true f =
          let one : count_by (is_started now) (run ∷ runs_from sheet (m + 1) acts (end ∷ points)) ≡ suc (count_by (is_started now) (runs_from sheet (m + 1) acts (end ∷ points))) =
          let here = ap (λ b. cond {A = ℕ} b 1 0) f in let sum = counted in omega arith in
          ((λ i low. each i (omega arith)), λ h. let more = rest.1 h in let same = at _ _ one in omega arith) where
            each : (i : ℕ) → i < suc (count_by (is_started now) (runs_from sheet (m + 1) acts (end ∷ points))) → slice_index (start ∷ end ∷ points) i ≤ now
            each zero low = grind (arith, nat_tests)
            each (suc i) low = rest.0 i (omega arith)
      go rest false f =
          let up = rise 0 (omega arith) in
          let high : now < start = grind (arith, nat_tests) in
          let none = none-started now sheet (m + 1) acts (end ∷ points) (λ j in'. rise (suc j) (omega arith)) (omega arith) (omega arith) in
          let zero' : count_by (is_started now) (run ∷ runs_from sheet (m + 1) acts (end ∷ points)) ≡ 0 =
          let here = ap (λ b. cond {A = ℕ} b 1 0) f in let sum = counted in omega arith in
          ((λ i low. absurd (omega arith)), λ h. let same = ap (slice_index (start ∷ end ∷ points)) zero' in omega arith)

module _ (machine : Machine) (now : ℕ) (p : Plan) (timed : IsTimedPlan machine p) where
  one-more : length p.points ≡ length p.acts + 1
  one-more = timed.one_more

  pub up-to : (i : ℕ) → i ≤ length p.acts → point p 0 ≤ point p i
  up-to i within = above-first p.acts p.points (rises machine p timed) i within

  pub between : (i j : ℕ) → i ≤ j → j ≤ length p.acts → point p i ≤ point p j
  between i zero low within = ap-le where
    ap-le : point p i ≤ point p 0
    ap-le = let is : i ≡ 0 = omega arith in let same : point p i ≡ point p 0 = ap (point p) is in omega arith
  between i (suc j) low within = go (nat_le i j) refl (between i j) where
    go : (b : Bool) → nat_le i j ≡ b → (i ≤ j → j ≤ length p.acts → point p i ≤ point p j) → point p i ≤ point p (suc j)
    go true e rest = let before = rest (grind (arith, nat_tests)) (omega arith) in let next = rises machine p timed j (omega arith) in omega arith
    go false e rest = let high : j < i = grind (arith, nat_tests) in let is : i ≡ suc j = omega arith in let same : point p i ≡ point p (suc j) = ap (point p) is in omega arith

  pub in-flight : point p 0 ≤ now → now < end_of_plan p → is_in_flight now p ≡ true
  in-flight low high = flight now p.sheet 1 p.acts p.points one-more low high

  pub running-range : (test : Run → Bool) → ((run : Run) → test run ≡ true → (run.start ≤ now) × (now < run.end)) → list_any test (runs_of p) ≡ true → (point p 0 ≤ now) × (now < end_of_plan p)
  running-range test each e =
      let r = any-run test now p.sheet 1 p.acts p.points one-more e in
      let range = each r.2.0 r.2.1 in
      let start : r.2.0.start ≡ point p r.0 = r.2.2 in
      let end : r.2.0.end ≡ point p (suc r.0) = r.2.3 in
      let low : r.2.0.start ≤ now = range.0 in
      let high : now < r.2.0.end = range.1 in
      let up = up-to r.0 (omega (arith, r.1)) in
      let last = between (suc r.0) (length p.acts) (omega (arith, r.1)) (omega arith) in
      (omega arith, omega arith)

  pub flight-range : is_in_flight now p ≡ true → (point p 0 ≤ now) × (now < end_of_plan p)
  flight-range e = running-range (is_running now) (λ run f. let parts = and_parts (nat_le run.start now) (nat_lt now run.end) f in let a = parts.0 in let b = parts.1 in (grind (arith, nat_tests), grind (arith, nat_tests))) e

  pub running-on-range : (m : ℕ) → is_running_on machine now m p ≡ true → (point p 0 ≤ now) × (now < end_of_plan p)
  running-on-range m e = running-range (λ run. is_running now run && does_use machine m run.act) (λ run f.
      let parts = and_parts (nat_le run.start now) (nat_lt now run.end) (and_parts (is_running now run) (does_use machine m run.act) f).0 in let a = parts.0 in let b = parts.1 in (grind (arith, nat_tests), grind (arith, nat_tests))) e

  pub to-run-above : (m : ℕ) → is_to_run_on machine now m p ≡ true → now < point p (length p.acts - 1)
  to-run-above m e =
      let r = any-run (λ run. not (is_started now run) && does_use machine m run.act) now p.sheet 1 p.acts p.points one-more e in
      let start : r.2.0.start ≡ point p r.0 = r.2.2 in
      let later : now < r.2.0.start = unstarted r.2.0 (and_parts (not (is_started now r.2.0)) (does_use machine m r.2.0.act) r.2.1).0 in
      let last = between r.0 (length p.acts - 1) (omega (arith, r.1)) (omega arith) in
      omega arith where
        unstarted : (run : Run) → not (nat_le run.start now) ≡ true → now < run.start
        unstarted run f = grind (arith, nat_tests)

  pub last-end : point p (length p.acts - 1) < end_of_plan p
  last-end =
      let some : 0 < length p.acts = timed.some in
      let next = rises machine p timed (length p.acts - 1) (omega arith) in
      let same : point p (suc (length p.acts - 1)) ≡ point p (length p.acts) = ap (point p) (omega arith) in
      omega arith

  -- what is left of a plan is its started actions
  within : started_count now p ≤ length p.acts
  within =
      let runs = length-runs_from p.sheet 1 p.acts p.points one-more in
      let most = count_by-le-length (is_started now) (runs_of p) in omega arith

  pub front-acts : length (front_of now p).acts ≡ started_count now p
  front-acts = length-take-le (started_count now p) p.acts within

  pub front-points : length (front_of now p).points ≡ length (front_of now p).acts + 1
  front-points = let acts = front-acts in let few = within in let more = one-more in let points : length (front_of now p).points ≡ started_count now p + 1 = length-take-le (started_count now p + 1) p.points (omega arith) in omega arith

  front-point : (i : ℕ) → i ≤ started_count now p → point (front_of now p) i ≡ point p i
  front-point i low = get_or-take (started_count now p + 1) p.points i 0 (omega arith)

  -- all of them have started
  pub front-started : (i : ℕ) → i < length (front_of now p).acts → point (front_of now p) i ≤ now
  front-started i low =
      let acts = front-acts in
      let same = front-point i (omega arith) in
      let started : point p i ≤ now = (started-are now p.sheet 1 p.acts p.points (rises machine p timed) one-more).0 i (omega arith) in
      omega arith

  -- and what is left of a plan in flight ends above the moment
  pub front-end : now < end_of_plan p → now < end_of_plan (front_of now p)
  front-end high =
      let above : now < point p (started_count now p) = (started-are now p.sheet 1 p.acts p.points (rises machine p timed) one-more).1 high in
      let same = front-point (started_count now p) (omega arith) in
      let end : end_of_plan (front_of now p) ≡ point (front_of now p) (started_count now p) = ap (point (front_of now p)) front-acts in
      omega arith

  -- the last action of an entering copy has started
  pub enters-last : is_entering now p ≡ true → (is_tray_plan p ≡ true) × (point p (length p.acts - 1) ≤ now)
  enters-last e =
      let parts = and_parts (is_tray_plan p) (list_any (λ run. is_running now run && is_last p run) (runs_of p)) e in
      let r = any-run (λ run. is_running now run && is_last p run) now p.sheet 1 p.acts p.points one-more parts.1 in
      let both = and_parts (is_running now r.2.0) (is_last p r.2.0) r.2.1 in
      let started = started-at r.2.0 both.0 in
      let number : r.2.0.number ≡ length p.acts = last-at r.2.0 both.1 in
      let start : r.2.0.start ≡ point p r.0 = r.2.2 in
      let at : r.2.0.number ≡ 1 + r.0 = r.2.4 in
      let is : r.0 ≡ length p.acts - 1 = omega arith in
      let same : point p r.0 ≡ point p (length p.acts - 1) = ap (point p) is in
      (parts.0, omega arith) where
        started-at : (run : Run) → is_running now run ≡ true → run.start ≤ now
        started-at run g = let a = (and_parts (nat_le run.start now) (nat_lt now run.end) g).0 in grind (arith, nat_tests)

        last-at : (run : Run) → (run.number == length p.acts) ≡ true → run.number ≡ length p.acts
        last-at run g = grind (arith, nat_tests)
