-- What a plan does at a moment where it is past, and where it ends ahead.
use Rattle.std.proofs.Common.{◌≡◌, ℕ, suc, ◌+◌, ◌<◌, ◌≤◌, Bool, true, false, cond, ◌&&◌, ◌||◌, not, List, [], ◌∷◌, length, filter, refl, ap, ◌∙◌, arith, nat_le, slice_index}
use Rattle.std.specs.List.{list_any}
use Rattle.std.proofs.lemmas.Bool.Decides.{nat_tests}
use Rattle.std.proofs.lemmas.List.{get_or-take, length-take-le}
use Rattle.std.proofs.lemmas.List.Sums.{length-filter}
use Rattle.tp_machine.specs.declared.parts.ActId.{ActId}
use Rattle.tp_machine.specs.declared.machine.Machine.{Machine}
use Rattle.tp_choices.proofs.PastFacts.{past_points}
use Rattle.tp_schedule.specs.Holders.{Run, runs_from, runs_of}
use Rattle.tp_schedule.specs.LivePlans.{is_live}
use Rattle.tp_schedule.specs.Plans.{IsTimedPlan, end_of_plan, point}
use Rattle.tp_schedule.specs.declared.parts.Plan.{Plan}
use Rattle.tp_schedule.specs.declared.parts.SheetId.{SheetId}
use Rattle.tp_event_rules.proofs.CutPlans.{started_range}
use Rattle.tp_event_rules.specs.Moments.{front_of, is_in_flight, is_entering, is_last, is_running, is_running_on, is_started, is_to_run_on, is_tray_plan, is_unstarted, does_use, started_count}

-- a plan that is not live has no action that runs or has not started
dead-runs : (now : ℕ) (test : Run → Bool) → ((run : Run) → run.start ≤ now → run.end ≤ now → test run ≡ false) → (sheet : SheetId) (n : ℕ) (acts : List ActId) (points : List ℕ)
    → ((i : ℕ) → slice_index points i ≤ now) → list_any test (runs_from sheet n acts points) ≡ false
dead-runs now test each sheet n [] points low = refl
dead-runs now test each sheet n (act ∷ acts) [] low = refl
dead-runs now test each sheet n (act ∷ acts) (start ∷ []) low = refl
dead-runs now test each sheet n (act ∷ acts) (start ∷ end ∷ points) low =
    let first = each (record { sheet = sheet; number = n; act = act; start = start; end = end }) (low 0) (low 1) in
    rw first (dead-runs now test each sheet (n + 1) acts (end ∷ points) (λ i. low (suc i)))

module _ (machine : Machine) (now : ℕ) (p : Plan) (past : is_live machine now p ≡ false) where
  not-running : (run : Run) → run.end ≤ now → is_running now run ≡ false
  not-running run low = grind (arith, nat_tests)

  started : (run : Run) → run.start ≤ now → not (is_started now run) ≡ false
  started run low = grind (arith, nat_tests)

  none : (test : Run → Bool) → ((run : Run) → run.start ≤ now → run.end ≤ now → test run ≡ false) → list_any test (runs_of p) ≡ false
  none test each = dead-runs now test each p.sheet 1 p.acts p.points (past_points machine now p past)

  pub dead-flight : is_in_flight now p ≡ false
  dead-flight = none (is_running now) (λ run low high. not-running run high)

  pub dead-running : (m : ℕ) → is_running_on machine now m p ≡ false
  dead-running m = none (λ run. is_running now run && does_use machine m run.act) (λ run low high. ap (λ b. b && does_use machine m run.act) (not-running run high))

  pub dead-to_run : (m : ℕ) → is_to_run_on machine now m p ≡ false
  dead-to_run m = none (λ run. not (is_started now run) && does_use machine m run.act) (λ run low high. ap (λ b. b && does_use machine m run.act) (started run low))

  pub dead-entering : is_entering now p ≡ false
  dead-entering = go (is_tray_plan p) (none (λ run. is_running now run && is_last p run) (λ run low high. ap (λ b. b && is_last p run) (not-running run high))) where
    go : (b : Bool) {c : Bool} → c ≡ false → (b && c) ≡ false
    go true e = e
    go false e = refl

  pub dead-started : is_unstarted now p ≡ false
  dead-started = let low = past_points machine now p past 0 in grind (arith, nat_tests)

-- a plan with an action that runs, or has not started, ends ahead
run-ahead : (now : ℕ) (test : Run → Bool) → ((run : Run) → run.start < run.end → test run ≡ true → now < run.end) → (sheet : SheetId) (n : ℕ) (acts : List ActId) (points : List ℕ)
    → ((j : ℕ) → j < length acts → slice_index points j < slice_index points (suc j)) → list_any test (runs_from sheet n acts points) ≡ true → now < slice_index points (length acts)
run-ahead now test each sheet n [] points rise e = absurd (cc)
run-ahead now test each sheet n (act ∷ acts) [] rise e = absurd (cc)
run-ahead now test each sheet n (act ∷ acts) (start ∷ []) rise e = absurd (cc)
run-ahead now test each sheet n (act ∷ acts) (start ∷ end ∷ points) rise e =
    let later : (j : ℕ) → j < length acts → slice_index (end ∷ points) j < slice_index (end ∷ points) (suc j) = λ j in'. rise (suc j) (omega arith) in
    let first : start < end = rise 0 (omega arith) in
    go (test (record { sheet = sheet; number = n; act = act; start = start; end = end })) refl e (run-ahead now test each sheet (n + 1) acts (end ∷ points) later) (ends acts (end ∷ points) later) where
      ends : (acts : List ActId) (points : List ℕ) → ((j : ℕ) → j < length acts → slice_index points j < slice_index points (suc j)) → slice_index points 0 ≤ slice_index points (length acts)
      ends [] points rise = omega arith
      ends (act ∷ acts) [] rise = absurd (let no = rise 0 (omega arith) in omega arith)
      ends (act ∷ acts) (start ∷ []) rise = absurd (let no = rise 0 (omega arith) in omega arith)
      ends (act ∷ acts) (start ∷ end ∷ points) rise =
          let low = ends acts (end ∷ points) (λ j in'. rise (suc j) (omega arith)) in
          let first : start < end = rise 0 (omega arith) in omega arith

      go : (b : Bool) → test (record { sheet = sheet; number = n; act = act; start = start; end = end }) ≡ b → (b || list_any test (runs_from sheet (n + 1) acts (end ∷ points))) ≡ true
          → (list_any test (runs_from sheet (n + 1) acts (end ∷ points)) ≡ true → now < slice_index (end ∷ points) (length acts)) → end ≤ slice_index (end ∷ points) (length acts)
          → now < slice_index (end ∷ points) (length acts)
      go true f e rest low =
          let first : start < end = rise 0 (omega arith) in
          let high : now < end = each (record { sheet = sheet; number = n; act = act; start = start; end = end }) first f in omega arith
      go false f e rest low = rest e

rising : (machine : Machine) (p : Plan) → IsTimedPlan machine p → (j : ℕ) → j < length p.acts → point p j < point p (suc j)
rising machine p timed j in' =
    let next : point p j < point p (j + 1) = timed.rise j in' in
    let same : point p (j + 1) ≡ point p (suc j) = ap (point p) (omega arith) in
    omega arith

module _ (machine : Machine) (now : ℕ) (p : Plan) (timed : IsTimedPlan machine p) where
  ahead : (test : Run → Bool) → ((run : Run) → run.start < run.end → test run ≡ true → now < run.end) → list_any test (runs_of p) ≡ true → now < end_of_plan p
  ahead test each e = run-ahead now test each p.sheet 1 p.acts p.points (rising machine p timed) e

  left-true : (a b : Bool) → (a && b) ≡ true → a ≡ true
  left-true true b e = refl
  left-true false b e = absurd (cc)

  running-end : (run : Run) → is_running now run ≡ true → now < run.end
  running-end run e = grind (arith, nat_tests)

  pub flight-ahead : is_in_flight now p ≡ true → now < end_of_plan p
  flight-ahead e = ahead (is_running now) (λ run less f. running-end run f) e

  pub running-ahead : (m : ℕ) → is_running_on machine now m p ≡ true → now < end_of_plan p
  running-ahead m e = ahead (λ run. is_running now run && does_use machine m run.act) (λ run less f. running-end run (left-true (is_running now run) _ f)) e

  unstarted-end : (run : Run) → run.start < run.end → not (is_started now run) ≡ true → now < run.end
  unstarted-end run less e = grind (arith, nat_tests)

  pub to_run-ahead : (m : ℕ) → is_to_run_on machine now m p ≡ true → now < end_of_plan p
  to_run-ahead m e = ahead (λ run. not (is_started now run) && does_use machine m run.act) (λ run less f. unstarted-end run less (left-true (not (is_started now run)) _ f)) e

-- the front of a plan that ends ahead ends ahead
none-later : (now : ℕ) (sheet : SheetId) (n : ℕ) (acts : List ActId) (points : List ℕ) → ((j : ℕ) → j < length acts → slice_index points j < slice_index points (suc j))
    → now < slice_index points 0 → length (filter (is_started now) (runs_from sheet n acts points)) ≡ 0
none-later now sheet n [] points rise high = refl
none-later now sheet n (act ∷ acts) [] rise high = refl
none-later now sheet n (act ∷ acts) (start ∷ []) rise high = refl
none-later now sheet n (act ∷ acts) (start ∷ end ∷ points) rise high =
    let first : start < end = rise 0 (omega arith) in
    let test : nat_le start now ≡ false = grind (arith, nat_tests) in
    rw test (none-later now sheet (n + 1) acts (end ∷ points) (λ j in'. rise (suc j) (omega arith)) (omega arith))

front-end : (now : ℕ) (sheet : SheetId) (n : ℕ) (acts : List ActId) (points : List ℕ) → ((j : ℕ) → j < length acts → slice_index points j < slice_index points (suc j))
    → now < slice_index points (length acts) → now < slice_index points (length (filter (is_started now) (runs_from sheet n acts points)))
front-end now sheet n [] points rise high = high
front-end now sheet n (act ∷ acts) [] rise high = absurd (let no = rise 0 (omega arith) in omega arith)
front-end now sheet n (act ∷ acts) (start ∷ []) rise high = absurd (let no = rise 0 (omega arith) in omega arith)
front-end now sheet n (act ∷ acts) (start ∷ end ∷ points) rise high =
    let later : (j : ℕ) → j < length acts → slice_index (end ∷ points) j < slice_index (end ∷ points) (suc j) = λ j in'. rise (suc j) (omega arith) in
    let first : start < end = rise 0 (omega arith) in
    go (nat_le start now) refl (front-end now sheet (n + 1) acts (end ∷ points) later high) (λ above. none-later now sheet (n + 1) acts (end ∷ points) later above) first where
      go : (b : Bool) → nat_le start now ≡ b → now < slice_index (end ∷ points) (length (filter (is_started now) (runs_from sheet (n + 1) acts (end ∷ points))))
          → (now < end → length (filter (is_started now) (runs_from sheet (n + 1) acts (end ∷ points))) ≡ 0) → start < end
          → now < slice_index (start ∷ end ∷ points) (length (cond b (record { sheet = sheet; number = n; act = act; start = start; end = end } ∷ filter (is_started now) (runs_from sheet (n + 1) acts (end ∷ points)))
          (filter (is_started now) (runs_from sheet (n + 1) acts (end ∷ points)))))
      go true e rest zero' less = rest
      go false e rest zero' less =
          let above : now < start = grind (arith, nat_tests) in
          rw (zero' (omega arith)) above

-- the front ends ahead, and all of it is released
module _ (machine : Machine) (now : ℕ) (p : Plan) (timed : IsTimedPlan machine p) (low : point p 0 ≤ now) (high : now < end_of_plan p) where
  range : (1 ≤ started_count now p) × (started_count now p ≤ length p.acts)
  range = started_range machine now p low timed

  pub front-acts : length (front_of now p).acts ≡ started_count now p
  front-acts = length-take-le (started_count now p) p.acts range.1

  pub front-ahead : now < end_of_plan (front_of now p)
  front-ahead =
      let above = front-end now p.sheet 1 p.acts p.points (rising machine p timed) high in
      let count = length-filter (is_started now) (runs_of p) in
      let stands : point p (length (filter (is_started now) (runs_of p))) ≡ point p (started_count now p) = ap (point p) count in
      let same : end_of_plan (front_of now p) ≡ point p (started_count now p) = ap (point (front_of now p)) front-acts ∙ get_or-take (started_count now p + 1) p.points (started_count now p) 0 (omega arith) in
      omega arith
