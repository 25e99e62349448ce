-- Lists of words that one reader reads.
use Rattle.std.proofs.Common.{◌≡◌, ℕ, Bool, false, List, [], ◌∷◌, map, Option, Some, refl, subst}
use Rattle.std.specs.Prelude.{option_map}
use Rattle.std.specs.List.{AllByRecursion}
use Rattle.std.proofs.lemmas.Option.{same_Some}
use Rattle.tp_words.specs.Each.{each_read}
use Rattle.tp_words.proofs.Steps.{and_then_some, map_some}
use Rattle.tp_words.proofs.PartFacts.{AllLack, lacks_from}
use Rattle.tp_words.proofs.SpelledWords.{Spells}

same_cons : (a b : List ℕ) (s t : List (List ℕ)) → a ≡ b → s ≡ t → a ∷ s ≡ b ∷ t
same_cons a b s t h k = cc

pub list_takes : {X : Type 0} {r : List ℕ → Option X} {t : X → List ℕ} {F : X → Type 0} {p : ℕ → Bool} (s : Spells r t F p) (words : List (List ℕ)) (xs : List X) → each_read r words ≡ Some xs → (words ≡ map t xs) × AllByRecursion F xs
unfolding each_read
list_takes {X} {t = t} {F} s [] xs e = subst (λ (ys : List X). ([] ≡ map t ys) × AllByRecursion F ys) (same_Some [] xs e) (refl, tt)
list_takes {X} {r} {t} {F} s (word ∷ words) xs e =
    let a = and_then_some (r word) (λ x. option_map (λ ys. x ∷ ys) (each_read r words)) xs e in
    let b = map_some (λ ys. a.0 ∷ ys) (each_read r words) xs a.2 in
    let k = s.takes word a.0 a.1 in
    let l = list_takes s words b.0 b.1 in
    subst (λ (ys : List X). (word ∷ words ≡ map t ys) × AllByRecursion F ys) b.2 (same_cons word (t a.0) words (map t b.0) k.0 l.0, (k.1, l.1))

pub list_again : {X : Type 0} {r : List ℕ → Option X} {t : X → List ℕ} {F : X → Type 0} {p : ℕ → Bool} (s : Spells r t F p) (xs : List X) → AllByRecursion F xs → each_read r (map t xs) ≡ Some xs
unfolding each_read
list_again s [] h = refl
list_again s (x ∷ xs) h = rw (s.again x h.0, list_again s xs h.1) refl

pub list_lacks : {X : Type 0} {r : List ℕ → Option X} {t : X → List ℕ} {F : X → Type 0} {p : ℕ → Bool} (s : Spells r t F p) (c : ℕ) → p c ≡ false → (xs : List X) → AllByRecursion F xs → AllLack c (map t xs)
list_lacks s c outside [] h = tt
list_lacks {t = t} {p = p} s c outside (x ∷ xs) h = (lacks_from p c (t x) outside (s.bytes x h.0), list_lacks s c outside xs h.1)
