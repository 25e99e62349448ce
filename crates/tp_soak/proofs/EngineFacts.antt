-- The engines of a case are two, three or four, with least durations from 4 to 11.
use Rattle.std.proofs.Common.{zero, suc, ◌≡◌, ◌≢◌, ℕ, ◌+◌, ◌<◌, true, List, [], ◌∷◌, length, take, fold, codes, refl, subst, sym, arith, lit<}
use Rattle.std.specs.Fmt.{digits}
use Rattle.std.specs.Prelude.{nat_le}
use Rattle.std.proofs.lemmas.Bool.Decides.{nat_tests}
use Rattle.tp_words.specs.Parts.{words_in}
use Rattle.tp_soak.specs.Draws.{next, drawn}
use Rattle.tp_soak.specs.Engines.{Drawing, draw_engines, with_engine}
use Rattle.tp_soak.specs.Kept.{AreEngines, IsDrawn}
use Rattle.tp_soak.specs.Machines.{modules}
use Rattle.tp_soak.specs.declared.made_engine.MadeEngine.{MadeEngine}

pub drawn_below : (n x : ℕ) → 0 < n → drawn n x < n
unfolding drawn
drawn_below n x some = omega arith

-- an engine with its number and what was drawn for it
abbrev pub drawn_engine : ℕ → ℕ → MadeEngine
drawn_engine number d = record { number = number; least = 4 + d }

abbrev pub two_of : ℕ → ℕ → List MadeEngine
two_of a b = drawn_engine 1 a ∷ drawn_engine 2 b ∷ []

abbrev pub three_of : ℕ → ℕ → ℕ → List MadeEngine
three_of a b c = drawn_engine 1 a ∷ drawn_engine 2 b ∷ drawn_engine 3 c ∷ []

abbrev pub four_of : ℕ → ℕ → ℕ → ℕ → List MadeEngine
four_of a b c d = drawn_engine 1 a ∷ drawn_engine 2 b ∷ drawn_engine 3 c ∷ drawn_engine 4 d ∷ []

-- what holds of so many engines, whatever was drawn, holds of those of a case
pub record HoldsOfEach (P : List MadeEngine → Type 0) : Type 0 where
  pub two : (a b : ℕ) → a < 8 → b < 8 → P (two_of a b)
  pub three : (a b c : ℕ) → a < 8 → b < 8 → c < 8 → P (three_of a b c)
  pub four : (a b c d : ℕ) → a < 8 → b < 8 → c < 8 → d < 8 → P (four_of a b c d)

pub holds : (P : List MadeEngine → Type 0) → HoldsOfEach P → (x : ℕ) → P (draw_engines x).engines
holds P each x = go (drawn 3 (next x)) (drawn_below 3 (next x) (lit< tt))
  where
    start : Drawing
    start = record { state = next x; engines = [] }

    eight : (y : ℕ) → drawn 8 y < 8
    eight y = drawn_below 8 y (lit< tt)

    go : (d : ℕ) → d < 3 → P (fold with_engine (record { state = next x; engines = [] }) (take (2 + d) (1 ∷ 2 ∷ 3 ∷ 4 ∷ []))).engines
    go zero few = each.two _ _ (eight (next (next x))) (eight (next (next (next x))))
    go (suc zero) few = each.three _ _ _ (eight (next (next x))) (eight (next (next (next x)))) (eight (next (next (next (next x)))))
    go (suc (suc zero)) few = each.four _ _ _ _ (eight (next (next x))) (eight (next (next (next x)))) (eight (next (next (next (next x))))) (eight (next (next (next (next (next x))))))
    go (suc (suc (suc d))) few = absurd (omega (arith, few))

pub holds_of : (P : List MadeEngine → Type 0) → HoldsOfEach P → (engines : List MadeEngine) → AreEngines engines → P engines
holds_of P each engines (x, are) = subst P (sym are) (holds P each x)

-- ---- their numbers and durations

at_least : (a : ℕ) → nat_le 4 (4 + a) ≡ true
at_least a = grind (arith, nat_tests)

at_most : (a : ℕ) → a < 8 → nat_le (4 + a) 11 ≡ true
at_most a few = grind (arith, nat_tests)

pub are_drawn : (engines : List MadeEngine) → AreEngines engines → IsDrawn engines
unfolding digits
are_drawn = holds_of IsDrawn (record {
  two = λ a b f g. rw (at_least a, at_most a f, at_least b, at_most b g) refl;
  three = λ a b c f g h. rw (at_least a, at_most a f, at_least b, at_most b g, at_least c, at_most c h) refl;
  four = λ a b c d f g h i. rw (at_least a, at_most a f, at_least b, at_most b g, at_least c, at_most c h, at_least d, at_most d i) refl;
})

pub few_engines : (engines : List MadeEngine) → AreEngines engines → length engines < 5
few_engines = holds_of (λ engines. length engines < 5) (record {
  two = λ a b f g. lit< tt;
  three = λ a b c f g h. lit< tt;
  four = λ a b c d f g h i. lit< tt;
})

-- ---- their modules

abbrev pub HasTwo : List MadeEngine → Type 0
HasTwo engines = length engines ≡ 2 → words_in (codes "FEED OUT DUMP ENG1 ENG2") ≡ modules engines

abbrev pub HasThree : List MadeEngine → Type 0
HasThree engines = length engines ≡ 3 → words_in (codes "FEED OUT DUMP ENG1 ENG2 ENG3") ≡ modules engines

abbrev pub HasFour : List MadeEngine → Type 0
HasFour engines = length engines ≢ 2 → length engines ≢ 3 → words_in (codes "FEED OUT DUMP ENG1 ENG2 ENG3 ENG4") ≡ modules engines

pub two_modules : (engines : List MadeEngine) → AreEngines engines → HasTwo engines
unfolding digits
two_modules = holds_of HasTwo (record {
  two = λ a b f g count. refl;
  three = λ a b c f g h count. absurd (omega (arith, count));
  four = λ a b c d f g h i count. absurd (omega (arith, count));
})

pub three_modules : (engines : List MadeEngine) → AreEngines engines → HasThree engines
unfolding digits
three_modules = holds_of HasThree (record {
  two = λ a b f g count. absurd (omega (arith, count));
  three = λ a b c f g h count. refl;
  four = λ a b c d f g h i count. absurd (omega (arith, count));
})

pub four_modules : (engines : List MadeEngine) → AreEngines engines → HasFour engines
unfolding digits
four_modules = holds_of HasFour (record {
  two = λ a b f g other more. absurd (other refl);
  three = λ a b c f g h other more. absurd (more refl);
  four = λ a b c d f g h i other more. refl;
})
