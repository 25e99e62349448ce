-- What is released by a tick starts by it.
use Rattle.std.proofs.Common.{◌≡◌, ℕ, zero, suc, ◌+◌, ◌<◌, ◌≤◌, ◌⊎◌, inl, inr, Bool, true, false, cond, ◌&&◌, List, [], ◌∷◌, length, refl, arith, slice_index, nat_le, nat_lt}
use Rattle.std.proofs.lemmas.Bool.Decides.{nat_tests}
use Rattle.tp_machine.specs.declared.parts.ActId.{ActId}
use Rattle.tp_schedule.specs.Plans.{point}
use Rattle.tp_schedule.specs.declared.parts.Plan.{Plan}
use Rattle.tp_schedule.specs.declared.parts.SheetId.{SheetId}
use Rattle.tp_event_rules.specs.Moments.{due_until, release_until}
use Rattle.tp_event_rules.proofs.ReleasedPlans.{due_from, release-within}
use Rattle.tp_outage_laws.proofs.Flight.{DoRise}

-- where the first start is later, none is due
none_due : (released last : ℕ) (sheet : SheetId) (n : ℕ) (acts : List ActId) (points : List ℕ) → DoRise acts points → length points ≡ length acts + 1 → last < slice_index points 0
    → length (due_from released last sheet n acts points) ≡ 0
none_due released last sheet n [] points rise len late = refl
none_due released last sheet n (act ∷ acts) [] rise len late = absurd (omega arith)
none_due released last sheet n (act ∷ acts) (start ∷ []) rise len late = refl
none_due released last sheet n (act ∷ acts) (start ∷ end ∷ points) rise len late =
    let up = rise 0 (omega arith) in
    let rest = none_due released last sheet (n + 1) acts (end ∷ points) (λ j in'. rise (suc j) (omega arith)) (omega arith) (omega arith) in
    let none : nat_le start last ≡ false = grind (arith, nat_tests) in
    go (nat_lt released n) (nat_le start last) none rest where
      go : (b c : Bool) → c ≡ false → length (due_from released last sheet (n + 1) acts (end ∷ points)) ≡ 0
          → length (cond (b && c) (record { sheet = sheet; number = n; act = act; start = start; end = end } ∷ due_from released last sheet (n + 1) acts (end ∷ points)) (due_from released last sheet (n + 1) acts (end ∷ points))) ≡ 0
      go true true e rest = absurd (cc)
      go true false e rest = rest
      go false c e rest = rest

-- no action is due from the first late start on
few_early : (released last : ℕ) (sheet : SheetId) (m n i : ℕ) (acts : List ActId) (points : List ℕ) → n ≡ m + 1 → DoRise acts points → length points ≡ length acts + 1 → i < length acts → last < slice_index points i
    → (released ≤ m → length (due_from released last sheet n acts points) ≤ i)
    × (m ≤ released → released ≤ m + i → released + length (due_from released last sheet n acts points) ≤ m + i)
few_early released last sheet m n i [] points e rise len within late = absurd (omega arith)
few_early released last sheet m n i (act ∷ acts) [] e rise len within late = absurd (omega arith)
few_early released last sheet m n i (act ∷ acts) (start ∷ []) e rise len within late = absurd (omega arith)
few_early released last sheet m n zero (act ∷ acts) (start ∷ end ∷ points) e rise len within late =
    let none = none_due released last sheet n (act ∷ acts) (start ∷ end ∷ points) rise len late in
    (λ low. omega arith, λ from to. omega arith)
few_early released last sheet m n (suc i) (act ∷ acts) (start ∷ end ∷ points) e rise len within late =
    go (nat_lt released n) refl (nat_le start last) (few_early released last sheet (m + 1) (n + 1) i acts (end ∷ points) (omega arith) (λ j in'. rise (suc j) (omega arith)) (omega arith) (omega arith) late) where
      go : (b : Bool) → nat_lt released n ≡ b → (c : Bool)
          → (released ≤ m + 1 → length (due_from released last sheet (n + 1) acts (end ∷ points)) ≤ i)
          × (m + 1 ≤ released → released ≤ m + 1 + i → released + length (due_from released last sheet (n + 1) acts (end ∷ points)) ≤ m + 1 + i)
          → (released ≤ m → length (cond (b && c) (record { sheet = sheet; number = n; act = act; start = start; end = end } ∷ due_from released last sheet (n + 1) acts (end ∷ points)) (due_from released last sheet (n + 1) acts (end ∷ points))) ≤ suc i)
          × (m ≤ released → released ≤ m + suc i → released + length (cond (b && c) (record { sheet = sheet; number = n; act = act; start = start; end = end } ∷ due_from released last sheet (n + 1) acts (end ∷ points)) (due_from released last sheet (n + 1) acts (end ∷ points))) ≤ m + suc i)
      go true f true (few, rest) = let low : released < n = grind (arith, nat_tests) in let later = few (omega arith) in (λ to. omega arith, λ from to. omega arith)
      go true f false (few, rest) = let low : released < n = grind (arith, nat_tests) in let later = few (omega arith) in (λ to. omega arith, λ from to. omega arith)
      go false f c (few, rest) = let high : n ≤ released = grind (arith, nat_tests) in (λ to. absurd (omega arith), λ from to. let later = rest (omega arith) (omega arith) in omega arith)

-- what is released after it was released before, or starts by the tick
pub release-low : (last : ℕ) (p : Plan) (i : ℕ) → length p.points ≡ length p.acts + 1 → DoRise p.acts p.points → p.released ≤ length p.acts → i < (release_until last p).released
    → (i < p.released) ⊎ (point p i ≤ last)
release-low last p i one_more rise most low = go (nat_lt i p.released) refl (nat_lt last (point p i)) refl where
  go : (b : Bool) → nat_lt i p.released ≡ b → (c : Bool) → nat_lt last (point p i) ≡ c → (i < p.released) ⊎ (point p i ≤ last)
  go true e c f = inl (grind (arith, nat_tests))
  go false e false f = inr (grind (arith, nat_tests))
  go false e true f =
      let high : p.released ≤ i = grind (arith, nat_tests) in
      let late : last < point p i = grind (arith, nat_tests) in
      let within : p.released + length (due_until last p) ≤ length p.acts = release-within last p most in
      let few = (few_early p.released last p.sheet 0 1 i p.acts p.points refl rise one_more (omega arith) late).1 (omega arith) (omega arith) in
      absurd (omega arith)
