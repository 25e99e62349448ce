-- The front of a plan is what is left of it, and what befalls the copies leaves less of a schedule.
use Rattle.std.proofs.Common.{◌≡◌, ℕ, zero, suc, ◌+◌, ◌<◌, ◌≤◌, Bool, true, false, cond, List, [], ◌∷◌, ◌++◌, length, take, filter, refl, arith, inl, inr, subst, Contains, Option, Some, None, option_and_then, slice_get, slice_index, nat_le, ◌||◌, nat_lt}
use Rattle.std.specs.List.{list_any}
use Rattle.std.proofs.lemmas.Bool.Decides.{nat_tests}
use Rattle.std.proofs.lemmas.List.{get_or-take, length-take-le, length-take}
use Rattle.std.proofs.lemmas.List.Sums.{count_by-le-length, length-filter}
use Rattle.tp_base.proofs.SliceFacts.{slice_get_take}
use Rattle.tp_machine.specs.declared.parts.ActId.{ActId}
use Rattle.tp_machine.specs.declared.parts.Sheet.{Sheet}
use Rattle.tp_machine.specs.declared.parts.State.{State}
use Rattle.tp_machine.specs.declared.machine.Machine.{Machine}
use Rattle.tp_schedule.specs.Holders.{Run, runs_of, runs_from, holds_at}
use Rattle.tp_schedule.specs.LivePlans.{is_live, is_held_after}
use Rattle.tp_schedule.specs.Plans.{IsTimedPlan, point}
use Rattle.tp_schedule.specs.Routes.{walk, step_by}
use Rattle.tp_schedule.specs.declared.parts.Goal.{Goal}
use Rattle.tp_schedule.specs.declared.parts.Kind.TheVariants.{Front}
use Rattle.tp_schedule.specs.declared.parts.Plan.{Plan}
use Rattle.tp_schedule.specs.declared.parts.SheetId.{SheetId}
use Rattle.tp_event_rules.specs.Fates as fates
use Rattle.tp_event_rules.specs.Fates.{Fate, left_of, left_by, is_cut_by}
use Rattle.tp_event_rules.specs.Moments.{is_started, is_unstarted, started_count, front_of}
use Rattle.tp_schedule.proofs.Membership.{Contains-cons_cases, Contains-here, Contains-later}
use Rattle.tp_event_rules.proofs.LeftPlans.{IsLeft, IsLeft-refl, AreLeft, none, gone, more}
use Rattle.tp_machine.specs.ModuleUse.{action_at}
use Rattle.tp_stock.specs.Stock.{is_from}

-- the first actions of a walk lead somewhere
walk-take : (machine : Machine) (sheet : Sheet) (n : ℕ) (acts : List ActId) (s end : State) → walk machine sheet acts s ≡ Some end → (mid : State) × (walk machine sheet (take n acts) s ≡ Some mid)
walk-take machine sheet zero acts s end e = (s, refl)
walk-take machine sheet (suc n) [] s end e = (s, refl)
walk-take machine sheet (suc n) (act ∷ acts) s end e = go (step_by machine sheet act s) e (λ mid. walk-take machine sheet n acts mid end) where
  go : (o : Option State) → option_and_then (walk machine sheet acts) o ≡ Some end
      → ((mid : State) → walk machine sheet acts mid ≡ Some end → (last : State) × (walk machine sheet (take n acts) mid ≡ Some last))
      → (last : State) × (option_and_then (walk machine sheet (take n acts)) o ≡ Some last)
  go None e later = absurd (cc)
  go (Some mid) e later = later mid e

-- the first actions and points have fewer runs
pub runs-take : (test : Run → Bool) (sheet : SheetId) (m n k : ℕ) (acts : List ActId) (points : List ℕ)
    → length (filter test (runs_from sheet m (take n acts) (take k points))) ≤ length (filter test (runs_from sheet m acts points))
runs-take test sheet m zero k acts points = omega arith
runs-take test sheet m (suc n) k [] points = omega arith
runs-take test sheet m (suc n) zero (act ∷ acts) points = omega arith
runs-take test sheet m (suc n) (suc k) (act ∷ acts) [] = omega arith
runs-take test sheet m (suc n) (suc k) (act ∷ acts) (start ∷ []) = fewer k where
  fewer : (k : ℕ) → length (filter test (runs_from sheet m (act ∷ take n acts) (start ∷ take k []))) ≤ 0
  fewer zero = omega arith
  fewer (suc k) = omega arith
runs-take test sheet m (suc n) (suc zero) (act ∷ acts) (start ∷ end ∷ points) = omega arith
runs-take test sheet m (suc n) (suc (suc k)) (act ∷ acts) (start ∷ end ∷ points) =
    go (test (record { sheet = sheet; number = m; act = act; start = start; end = end }))
    (runs-take test sheet (m + 1) n (suc k) acts (end ∷ points)) where
      go : (b : Bool) → length (filter test (runs_from sheet (m + 1) (take n acts) (end ∷ take k points))) ≤ length (filter test (runs_from sheet (m + 1) acts (end ∷ points)))
          → length (cond b (record { sheet = sheet; number = m; act = act; start = start; end = end } ∷ filter test (runs_from sheet (m + 1) (take n acts) (end ∷ take k points))) (filter test (runs_from sheet (m + 1) (take n acts) (end ∷ take k points))))
          ≤ length (cond b (record { sheet = sheet; number = m; act = act; start = start; end = end } ∷ filter test (runs_from sheet (m + 1) acts (end ∷ points))) (filter test (runs_from sheet (m + 1) acts (end ∷ points))))
      go true fewer = omega arith
      go false fewer = fewer

runs-within : (sheet : SheetId) (m n k : ℕ) (acts : List ActId) (points : List ℕ) (run : Run) → Contains (runs_from sheet m (take n acts) (take k points)) run → Contains (runs_from sheet m acts points) run
runs-within sheet m zero k acts points run in' = absurd (omega (arith, in'.1))
runs-within sheet m (suc n) k [] points run in' = absurd (omega (arith, in'.1))
runs-within sheet m (suc n) zero (act ∷ acts) points run in' = absurd (omega (arith, in'.1))
runs-within sheet m (suc n) (suc k) (act ∷ acts) [] run in' = absurd (omega (arith, in'.1))
runs-within sheet m (suc n) (suc zero) (act ∷ acts) (start ∷ []) run in' = absurd (omega (arith, in'.1))
runs-within sheet m (suc n) (suc (suc k)) (act ∷ acts) (start ∷ []) run in' = absurd (omega (arith, in'.1))
runs-within sheet m (suc n) (suc zero) (act ∷ acts) (start ∷ end ∷ points) run in' = absurd (omega (arith, in'.1))
runs-within sheet m (suc n) (suc (suc k)) (act ∷ acts) (start ∷ end ∷ points) run in' =
    let first : Run = record { sheet = sheet; number = m; act = act; start = start; end = end } in
    elim (Contains-cons_cases first (runs_from sheet (m + 1) (take n acts) (end ∷ take k points)) run in') [
      | inl same ↦ subst (Contains (first ∷ runs_from sheet (m + 1) acts (end ∷ points))) same (Contains-here first (runs_from sheet (m + 1) acts (end ∷ points)))
      | inr later ↦ Contains-later first (runs_from sheet (m + 1) acts (end ∷ points)) run (runs-within sheet (m + 1) n (suc k) acts (end ∷ points) run later)
    ]

pub length-runs_from : (sheet : SheetId) (m : ℕ) (acts : List ActId) (points : List ℕ) → length points ≡ length acts + 1 → length (runs_from sheet m acts points) ≡ length acts
length-runs_from sheet m [] points e = refl
length-runs_from sheet m (act ∷ acts) [] e = absurd (omega arith)
length-runs_from sheet m (act ∷ acts) (start ∷ []) e = absurd (omega arith)
length-runs_from sheet m (act ∷ acts) (start ∷ end ∷ points) e =
    let rest = length-runs_from sheet (m + 1) acts (end ∷ points) (omega arith) in omega arith

-- a plan that is cut after so many actions, with this goal
abbrev pub cut_after : ℕ → Goal → Plan → Plan
cut_after n goal p = record p { goal = goal; kind = Front; acts = take n p.acts; points = take (n + 1) p.points; released = n }

IsTimedPlan-cut_after : (machine : Machine) (n : ℕ) (goal : Goal) (p : Plan) → 1 ≤ n → n ≤ length p.acts → IsTimedPlan machine p → IsTimedPlan machine (cut_after n goal p)
IsTimedPlan-cut_after machine n goal p some within timed =
    let walked = walk-take machine p.want n p.acts timed.start timed.end timed.leads in
    let one_more : length p.points ≡ length p.acts + 1 = timed.one_more in
    let at_most : length p.acts ≤ 64 = timed.at_most in
    let count : length (take n p.acts) ≡ n = length-take-le n p.acts within in
    let points : length (take (n + 1) p.points) ≡ n + 1 = length-take-le (n + 1) p.points (omega arith) in
    let same : (i : ℕ) → i ≤ n → point (cut_after n goal p) i ≡ point p i = λ i low. get_or-take (n + 1) p.points i 0 (omega arith) in
    record {
      some = omega arith;
      at_most = omega arith;
      one_more = omega arith;
      released = omega arith;
      start = timed.start;
      starts = timed.starts;
      end = walked.0;
      leads = walked.1;
      rise = λ i low. let r : point p i < point p (i + 1) = timed.rise i (omega arith) in rw (same i (omega arith), same (i + 1) (omega arith)) r;
      lasts = λ i act e.
          let at = slice_get_take n p.acts i act e in
          rw (same i (omega (arith, at.0)), same (i + 1) (omega (arith, at.0))) (timed.lasts i act at.1);
      ends = tt;
    }

-- a front is live only where the plan was
any-take : (test : ℕ → Bool) (k : ℕ) (xs : List ℕ) → list_any test (take k xs) ≡ true → list_any test xs ≡ true
any-take test zero xs e = absurd (cc)
any-take test (suc k) [] e = e
any-take test (suc k) (x ∷ xs) e = go (test x) e (any-take test k xs) where
  go : (b : Bool) → (b || list_any test (take k xs)) ≡ true → (list_any test (take k xs) ≡ true → list_any test xs ≡ true) → (b || list_any test xs) ≡ true
  go true e rest = refl
  go false e rest = rest e

any-runs : (test : Run → Bool) (runs runs' : List Run) → length (filter test runs') ≤ length (filter test runs) → list_any test runs' ≡ true → list_any test runs ≡ true
any-runs test runs runs' few e =
    let some = some-pass runs' e in none-pass runs (omega arith) where
      some-pass : (runs : List Run) → list_any test runs ≡ true → 1 ≤ length (filter test runs)
      some-pass [] e = absurd (cc)
      some-pass (r ∷ runs) e = go (test r) e (some-pass runs) where
        go : (b : Bool) → (b || list_any test runs) ≡ true → (list_any test runs ≡ true → 1 ≤ length (filter test runs)) → 1 ≤ length (cond b (r ∷ filter test runs) (filter test runs))
        go true e rest = omega arith
        go false e rest = rest e

      none-pass : (runs : List Run) → 1 ≤ length (filter test runs) → list_any test runs ≡ true
      none-pass [] some = absurd (omega arith)
      none-pass (r ∷ runs) some = go (test r) some (none-pass runs) where
        go : (b : Bool) → 1 ≤ length (cond b (r ∷ filter test runs) (filter test runs)) → (1 ≤ length (filter test runs) → list_any test runs ≡ true) → (b || list_any test runs) ≡ true
        go true some rest = refl
        go false some rest = rest some

live-cut : (machine : Machine) (now n : ℕ) (goal : Goal) (p : Plan) → is_live machine now (cut_after n goal p) ≡ true → is_live machine now p ≡ true
live-cut machine now n goal p e = go (list_any (nat_lt now) (take (n + 1) p.points)) refl (list_any (nat_lt now) p.points) refl e where
  go : (b : Bool) → list_any (nat_lt now) (take (n + 1) p.points) ≡ b → (c : Bool) → list_any (nat_lt now) p.points ≡ c
      → (b || list_any (is_held_after machine now) (runs_from p.sheet 1 (take n p.acts) (take (n + 1) p.points))) ≡ true → (c || list_any (is_held_after machine now) (runs_of p)) ≡ true
  go b f true g e = refl
  go true f false g e = absurd (let h = any-take (nat_lt now) (n + 1) p.points f in cc)
  go false f false g e = any-runs (is_held_after machine now) (runs_of p) (runs_from p.sheet 1 (take n p.acts) (take (n + 1) p.points)) (runs-take (is_held_after machine now) p.sheet 1 n (n + 1) p.acts p.points) e

begins-take : (machine : Machine) (loc n : ℕ) (acts : List ActId) → is_from loc (option_and_then (λ act. action_at machine act.0) (slice_get (take n acts) 0)) ≡ true
    → is_from loc (option_and_then (λ act. action_at machine act.0) (slice_get acts 0)) ≡ true
begins-take machine loc zero acts e = absurd (cc)
begins-take machine loc (suc n) [] e = absurd (cc)
begins-take machine loc (suc n) (act ∷ acts) e = e

pub IsLeft-cut_after : (machine : Machine) (n : ℕ) (goal : Goal) (p : Plan) → (IsTimedPlan machine p → (1 ≤ n) × (n ≤ length p.acts)) → IsLeft machine p (cut_after n goal p)
IsLeft-cut_after machine n goal p range = record {
  sheet = refl;
  timed = λ timed. IsTimedPlan-cut_after machine n goal p (range timed).0 (range timed).1 timed;
  holds = λ resource tick. runs-take (holds_at machine resource tick) p.sheet 1 n (n + 1) p.acts p.points;
  runs = λ run in'. runs-within p.sheet 1 n (n + 1) p.acts p.points run in';
  delivered = λ tray to. absurd (cc);
  live = λ now e. live-cut machine now n goal p e;
  begins = λ loc e. begins-take machine loc n p.acts e;
  unreleased = λ i released within. absurd (let count = length-take n p.acts in omega arith);
  unfixed = λ i within not_fixed. absurd (cc);
}

-- a started copy has a started action, and no more than all
first_started : (now : ℕ) (sheet : SheetId) (m : ℕ) (acts : List ActId) (points : List ℕ) → 0 < length acts → length points ≡ length acts + 1 → slice_index points 0 ≤ now
    → 1 ≤ length (filter (is_started now) (runs_from sheet m acts points))
first_started now sheet m [] points some e low = absurd (omega arith)
first_started now sheet m (act ∷ acts) [] some e low = absurd (omega arith)
first_started now sheet m (act ∷ acts) (start ∷ []) some e low = absurd (omega arith)
first_started now sheet m (act ∷ acts) (start ∷ end ∷ points) some e low =
    let test : nat_le start now ≡ true = grind (arith, nat_tests) in rw test (omega arith)

pub started_range : (machine : Machine) (now : ℕ) (p : Plan) → point p 0 ≤ now → IsTimedPlan machine p → (1 ≤ started_count now p) × (started_count now p ≤ length p.acts)
started_range machine now p low timed =
    let one_more : length p.points ≡ length p.acts + 1 = timed.one_more in
    let runs = length-runs_from p.sheet 1 p.acts p.points one_more in
    let at_most = count_by-le-length (is_started now) (runs_of p) in
    let counted = length-filter (is_started now) (runs_of p) in
    let first = first_started now p.sheet 1 p.acts p.points timed.some one_more low in
    (omega arith, omega arith)

pub started-low : (now : ℕ) (p : Plan) → is_unstarted now p ≡ false → point p 0 ≤ now
started-low now p e = grind (arith, nat_tests)

pub AreLeft-one : (machine : Machine) (now : ℕ) (p : Plan) (f : Fate) (plans plans' : List Plan) → (IsTimedPlan machine p → is_cut_by f ≡ true → is_unstarted now p ≡ false)
    → AreLeft machine plans plans' → AreLeft machine (p ∷ plans) (left_of now p f ++ plans')
AreLeft-one machine now p fates.stays plans plans' started rest = more p p plans plans' (IsLeft-refl machine p) rest
AreLeft-one machine now p fates.lost plans plans' started rest =
    more p (front_of now p) plans plans' (IsLeft-cut_after machine (started_count now p) p.goal p (λ t. started_range machine now p (started-low now p (started t refl)) t)) rest
AreLeft-one machine now p fates.withdrawn plans plans' started rest = gone p plans plans' rest
AreLeft-one machine now p fates.cut plans plans' started rest =
    more p (front_of now p) plans plans' (IsLeft-cut_after machine (started_count now p) p.goal p (λ t. started_range machine now p (started-low now p (started t refl)) t)) rest
AreLeft-one machine now p fates.purged plans plans' started rest = more p _ plans plans' (IsLeft-cut_after machine (started_count now p) _ p (λ t. started_range machine now p (started-low now p (started t refl)) t)) rest
AreLeft-one machine now p fates.replaced plans plans' started rest = more p _ plans plans' (IsLeft-cut_after machine (started_count now p) _ p (λ t. started_range machine now p (started-low now p (started t refl)) t)) rest
AreLeft-one machine now p fates.dropped plans plans' started rest = gone p plans plans' rest

pub AreLeft-left_by : (machine : Machine) (now : ℕ) (fate : Plan → Fate) (plans : List Plan)
    → ((p : Plan) → IsTimedPlan machine p → is_cut_by (fate p) ≡ true → is_unstarted now p ≡ false)
    → AreLeft machine plans (left_by fate now plans)
AreLeft-left_by machine now fate [] started = none
AreLeft-left_by machine now fate (p ∷ plans) started =
    AreLeft-one machine now p (fate p) plans (left_by fate now plans) (started p) (AreLeft-left_by machine now fate plans started)
