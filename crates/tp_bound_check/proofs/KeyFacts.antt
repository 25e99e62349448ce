-- Places of keys, and what stands there.
use Rattle.std.proofs.Common.{◌≡◌, ℕ, suc, ◌+◌, ◌<◌, Bool, true, false, cond, ◌&&◌, ◌==◌, List, [], ◌∷◌, length, map, find, get_or, refl, sym, ◌∙◌, ap, arith, Option, Some, None, option_map, subst}
use Rattle.std.specs.List.{position_from}
use Rattle.tp_constraints.specs.Numbers.{is_same_spot}
use Rattle.tp_schedule.specs.Spots.{Slot, Spot}
use Rattle.tp_bound_check.specs.Founds.{found_in, next_found}
use Rattle.tp_bound_check.specs.declared.found.Found.{Found}
use Rattle.tp_bound_check.specs.declared.index.SheetKey.{SheetKey}
use Rattle.tp_bound_check.specs.declared.index.StartKey.{StartKey}
use Rattle.std.proofs.lemmas.Bool.Decides.{nat_tests}
use Rattle.std.specs.Str.{bytes_eq}
use Rattle.tp_schedule.specs.Plans.{is_same_copy, plan_of}
use Rattle.tp_schedule.specs.Spots.Spot.{kept, own}
use Rattle.tp_schedule.specs.declared.parts.Plan.{Plan}
use Rattle.tp_schedule.specs.declared.parts.SheetId.{SheetId}
use Rattle.tp_schedule.specs.declared.records.SheetName.{SheetName}
use Rattle.tp_bound_laws.specs.Chains.{is_plan_of, plan_named}
use Rattle.tp_bound_check.specs.Keys.{AreByCopy, AreByName, AreByStart, copy_key, plan_key, sheet_key, start_key}
use Rattle.tp_bound_check.specs.contracts.index.StartKeyPartialEq.TheImpl.{eq-value as eq-start}
use Rattle.tp_bound_check.specs.contracts.index.SheetKeyPartialEq.TheImpl.{eq-value as eq-sheet}

pub position-map : {X Y : Type 0} (p : Y → Bool) (f : X → Y) (i : ℕ) (xs : List X) → position_from p i (map f xs) ≡ position_from (λ x. p (f x)) i xs
position-map p f i [] = refl
position-map p f i (x ∷ xs) = ap (cond (p (f x)) (Some i)) (position-map p f (i + 1) xs)

pub position-same : {X : Type 0} (p q : X → Bool) (i : ℕ) (xs : List X) → ((x : X) → p x ≡ q x) → position_from p i xs ≡ position_from q i xs
position-same p q i [] same = refl
position-same p q i (x ∷ xs) same = ap (λ b. cond b (Some i) (position_from p (i + 1) xs)) (same x) ∙ ap (cond (q x) (Some i)) (position-same p q (i + 1) xs same)

-- a list that starts one further on
position-next : {X : Type 0} (p : X → Bool) (i : ℕ) (xs : List X) → position_from p (i + 1) xs ≡ option_map suc (position_from p i xs)
position-next p i [] = refl
position-next p i (x ∷ xs) = go (p x) (position-next p (i + 1) xs) where
  up : i + 1 ≡ suc i
  up = omega arith

  go : (b : Bool) → position_from p (i + 1 + 1) xs ≡ option_map suc (position_from p (i + 1) xs) → cond b (Some (i + 1)) (position_from p (i + 1 + 1) xs) ≡ option_map suc (cond b (Some i) (position_from p (i + 1) xs))
  go true e = ap (λ n. Some n) up
  go false e = e

-- nothing was found, or what stands at the place
abbrev pub IsAt : {X : Type 0} → List X → Option X → Option ℕ → Type 0
IsAt xs o None = o ≡ None
IsAt xs o (Some at) = (at < length xs) × ((d : _) → o ≡ Some (get_or xs at d))

pub find-at : {X : Type 0} (p : X → Bool) (xs : List X) → IsAt xs (find p xs) (position_from p 0 xs)
find-at p [] = refl
find-at {X} p (x ∷ xs) = subst (IsAt (x ∷ xs) (find p (x ∷ xs))) (ap (cond (p x) (Some 0)) (sym (position-next p 0 xs))) (go (p x) (position_from p 0 xs) (find-at p xs)) where
  go : (b : Bool) (o : Option ℕ) → IsAt xs (find p xs) o → IsAt (x ∷ xs) (cond b (Some x) (find p xs)) (cond b (Some 0) (option_map suc o))
  go true o at = (omega arith, λ d. refl)
  go false None at = at
  go false (Some i) at = (let lt = at.0 in omega arith, at.1)

abbrev pub IsFoundAt : List Slot → Option Found → Option ℕ → Type 0
IsFoundAt xs o None = o ≡ None
IsFoundAt xs o (Some at) = (at < length xs) × ((d : Slot) → o ≡ Some (record { at = at; slot = get_or xs at d }))

pub found-at : (start : Spot) (xs : List Slot) → IsFoundAt xs (found_in start xs) (position_from (λ s. is_same_spot s.from start) 0 xs)
found-at start [] = refl
found-at start (x ∷ xs) =
    subst (IsFoundAt (x ∷ xs) (found_in start (x ∷ xs))) (ap (cond (is_same_spot x.from start) (Some 0)) (sym (position-next (λ s. is_same_spot s.from start) 0 xs)))
    (go (is_same_spot x.from start) (position_from (λ s. is_same_spot s.from start) 0 xs) (found-at start xs)) where
      go : (b : Bool) (o : Option ℕ) → IsFoundAt xs (found_in start xs) o → IsFoundAt (x ∷ xs) (cond b (Some (record { at = 0; slot = x })) (option_map next_found (found_in start xs))) (cond b (Some 0) (option_map suc o))
      go true o at = (omega arith, λ d. refl)
      go false None at = ap (option_map next_found) at
      go false (Some i) at = (let lt = at.0 in omega arith, λ d. ap (option_map next_found) (at.1 d))

-- ---- keys are the same where points and copies are
nest-three : (a b c : Bool) → (a && (b && c)) ≡ ((a && b) && c)
nest-three true b c = refl
nest-three false b c = refl

nest-four : (a b c d : Bool) → (a && (b && (c && d))) ≡ (((a && b) && c) && d)
nest-four true b c d = nest-three b c d
nest-four false b c d = refl

start-same : (p q : Spot) → eq-start.it (start_key p) (start_key q) ≡ is_same_spot p q
start-same (kept c i) (kept d j) = nest-four (c.job == d.job) (c.number == d.number) (c.copy == d.copy) (i == j)
start-same (kept c i) (own n) = refl
start-same (own m) (kept d j) = refl
start-same (own m) (own n) = refl

copy-same : (c d : SheetId) → eq-start.it (copy_key c) (copy_key d) ≡ is_same_copy c d
copy-same c d = start-same (kept c 0) (kept d 0) ∙ and-true (is_same_copy c d) where
  and-true : (b : Bool) → (b && true) ≡ b
  and-true true = refl
  and-true false = refl

same-number : (m n : ℕ) → (m == n) ≡ (n == m)
same-number m n = grind (arith, nat_tests)

same-bytes : (xs ys : List ℕ) → bytes_eq xs ys ≡ bytes_eq ys xs
same-bytes [] [] = refl
same-bytes [] (y ∷ ys) = refl
same-bytes (x ∷ xs) [] = refl
same-bytes (x ∷ xs) (y ∷ ys) = ap (λ b. b && bytes_eq xs ys) (same-number x y) ∙ ap (λ b. (y == x) && b) (same-bytes xs ys)

name-same : (p : Plan) (name : SheetName) → eq-sheet.it (plan_key p) (sheet_key name) ≡ is_plan_of name p
name-same p name =
    nest-three (bytes_eq p.name name.job) (p.sheet.number == name.number) (p.sheet.copy == name.copy)
    ∙ ap (λ b. (b && (p.sheet.number == name.number)) && (p.sheet.copy == name.copy)) (same-bytes p.name name.job)

-- ---- where the places of keys are known, so are those of what they are the keys of
pub by-start : (place : StartKey → Option ℕ) (keys : List StartKey) (slots : List Slot) → keys ≡ map (λ s. start_key s.from) slots → ((key : StartKey) → place key ≡ position_from (λ k. eq-start.it k key) 0 keys) → AreByStart place slots
by-start place keys slots is are = λ start.
    are (start_key start) ∙ ap (position_from (λ k. eq-start.it k (start_key start)) 0) is
    ∙ position-map (λ k. eq-start.it k (start_key start)) (λ (s : Slot). start_key s.from) 0 slots
    ∙ position-same (λ s. eq-start.it (start_key s.from) (start_key start)) (λ s. is_same_spot s.from start) 0 slots (λ s. start-same s.from start)

pub by-copy : (place : StartKey → Option ℕ) (keys : List StartKey) (plans : List Plan) → keys ≡ map (λ p. copy_key p.sheet) plans → ((key : StartKey) → place key ≡ position_from (λ k. eq-start.it k key) 0 keys) → AreByCopy place plans
by-copy place keys plans is are = λ copy.
    are (copy_key copy) ∙ ap (position_from (λ k. eq-start.it k (copy_key copy)) 0) is
    ∙ position-map (λ k. eq-start.it k (copy_key copy)) (λ (p : Plan). copy_key p.sheet) 0 plans
    ∙ position-same (λ p. eq-start.it (copy_key p.sheet) (copy_key copy)) (λ p. is_same_copy p.sheet copy) 0 plans (λ p. copy-same p.sheet copy)

pub by-name : (place : SheetKey → Option ℕ) (keys : List SheetKey) (plans : List Plan) → keys ≡ map plan_key plans → ((key : SheetKey) → place key ≡ position_from (λ k. eq-sheet.it k key) 0 keys) → AreByName place plans
by-name place keys plans is are = λ name.
    are (sheet_key name) ∙ ap (position_from (λ k. eq-sheet.it k (sheet_key name)) 0) is
    ∙ position-map (λ k. eq-sheet.it k (sheet_key name)) plan_key 0 plans
    ∙ position-same (λ p. eq-sheet.it (plan_key p) (sheet_key name)) (is_plan_of name) 0 plans (λ p. name-same p name)

-- what a place that was looked up says
pub found-by : (place : StartKey → Option ℕ) (slots : List Slot) (start : Spot) (key : StartKey) (o : Option ℕ) → AreByStart place slots → key ≡ start_key start → o ≡ place key → IsFoundAt slots (found_in start slots) o
found-by place slots start key o are is at = subst (IsFoundAt slots (found_in start slots)) (sym (at ∙ ap place is ∙ are start)) (found-at start slots)

pub copy-by : (place : StartKey → Option ℕ) (plans : List Plan) (copy : SheetId) (key : StartKey) (o : Option ℕ) → AreByCopy place plans → key ≡ copy_key copy → o ≡ place key → IsAt plans (plan_of copy plans) o
copy-by place plans copy key o are is at = subst (IsAt plans (plan_of copy plans)) (sym (at ∙ ap place is ∙ are copy)) (find-at (λ p. is_same_copy p.sheet copy) plans)

pub name-by : (place : SheetKey → Option ℕ) (plans : List Plan) (name : SheetName) (key : SheetKey) (o : Option ℕ) → AreByName place plans → key ≡ sheet_key name → o ≡ place key → IsAt plans (plan_named name plans) o
name-by place plans name key o are is at = subst (IsAt plans (plan_named name plans)) (sym (at ∙ ap place is ∙ are name)) (find-at (is_plan_of name) plans)
