-- Hops that are named, one edge after another.
use Rattle.std.proofs.Common.{◌≡◌, ℕ, zero, suc, ◌+◌, ◌<◌, ◌≤◌, ◌-◌, get_or, length-drop, List, [], ◌∷◌, ◌++◌, length, drop, take, refl, sym, ◌∙◌, ap, subst, arith, All, Option, Some, None}
use Rattle.std.specs.Prelude.{slice_get}
use Rattle.std.proofs.lemmas.List.{length-take-le}
use Rattle.std.proofs.lemmas.List.Elements.{All-nil, All-cons, All-append}
use Rattle.tp_base.specs.declared.edges.Edge.{Edge}
use Rattle.tp_bounds.specs.declared.hops.Hop.{Hop as TreeHop}
use Rattle.tp_bound_make.specs.TellableReasons.{IsTold, told_then, told_until}

pub drop-one : {X : Type 0} (xs : List X) (n : ℕ) (x : X) → slice_get xs n ≡ Some x → drop n xs ≡ x ∷ drop (n + 1) xs
drop-one [] n x e = absurd cc
drop-one (y ∷ xs) zero x e = let same : y ≡ x = cc in ap (λ z. z ∷ xs) same
drop-one {X} (y ∷ xs) (suc n) x e = let i : suc n + 1 ≡ suc (n + 1) = omega arith in let P : ℕ → Type 0 = λ m. drop n xs ≡ x ∷ drop m (y ∷ xs) in subst P (sym i) (drop-one xs n x e)

pub take-one : {X : Type 0} (xs : List X) (n : ℕ) (x : X) → slice_get xs n ≡ Some x → take (n + 1) xs ≡ take n xs ++ x ∷ []
take-one [] n x e = absurd cc
take-one (y ∷ xs) zero x e = let same : y ≡ x = cc in ap (λ z. z ∷ []) same
take-one {X} (y ∷ xs) (suc n) x e = let i : suc n + 1 ≡ suc (n + 1) = omega arith in let P : ℕ → Type 0 = λ m. take m (y ∷ xs) ≡ y ∷ (take n xs ++ x ∷ []) in subst P (sym i) (ap (λ z. y ∷ z) (take-one xs n x e))

module _ (f : Edge → Option TreeHop) (all : List Edge) (at : ℕ) (e : Edge) (there : slice_get all at ≡ Some e) where
  -- the next has no name
  pub put-none : (old hops : List TreeHop) → None ≡ f e → hops ++ told_until f (drop at all) ≡ old → hops ++ [] ≡ old
  put-none old hops t so =
      let rest = drop (at + 1) all in
      let split : told_until f (drop at all) ≡ [] = ap (told_until f) (drop-one all at e there) ∙ ap (λ o. told_then o (told_until f rest)) (sym t) in
      ap (λ xs. hops ++ xs) (sym split) ∙ so

  pub told-one : (h : TreeHop) → f e ≡ Some h → All (IsTold f) (take at all) → All (IsTold f) (take (at + 1) all)
  told-one h t so = subst (All (IsTold f)) (sym (take-one all at e there)) (All-append (IsTold f) (take at all) (e ∷ []) so (All-cons (IsTold f) e [] (h, t) (All-nil (IsTold f))))

pub get-at : (xs : List Edge) (i : ℕ) (d : Edge) → i < length xs → slice_get xs i ≡ Some (get_or xs i d)
get-at [] i d below = absurd (omega (arith, below))
get-at (x ∷ xs) zero d below = refl
get-at (x ∷ xs) (suc i) d below = get-at xs i d (omega (arith, below))

-- no more are named than there are edges
pub told-few : (f : Edge → Option TreeHop) (es : List Edge) → length (told_until f es) ≤ length es
told-few f [] = omega arith
told-few f (e ∷ es) = go (f e) (told-few f es) where
  go : (o : Option TreeHop) → length (told_until f es) ≤ length es → length (told_then o (told_until f es)) ≤ suc (length es)
  go None h = omega arith
  go (Some k) h = omega (arith, h)

pub take_all : {X : Type 0} (n : ℕ) (xs : List X) → n ≡ length xs → take n xs ≡ xs
take_all zero [] e = refl
take_all zero (x ∷ xs) e = absurd (omega (arith, e))
take_all (suc n) [] e = absurd (omega (arith, e))
take_all (suc n) (x ∷ xs) e = ap (λ ys. x ∷ ys) (take_all n xs (omega (arith, e)))

-- the hops round a circle from the edge behind a place to the one before it
module _ (f : Edge → Option TreeHop) (es : List Edge) (at : ℕ) (within : at < length es) (none one two : List TreeHop) (empty : none ≡ [])
    (first : one ≡ none ++ told_until f (take (length es - (at + 1)) (drop (at + 1) es))) where
  from-rest : one ≡ told_until f (drop (at + 1) es)
  from-rest =
      let n = length-drop (at + 1) es in
      first ∙ ap (λ xs. xs ++ told_until f (take (length es - (at + 1)) (drop (at + 1) es))) empty ∙ ap (told_until f) (take_all (length es - (at + 1)) (drop (at + 1) es) (sym n))

  pub cut-hops : two ≡ one ++ told_until f (take at es) → two ≡ told_until f (drop (at + 1) es) ++ told_until f (take at es)
  cut-hops e = e ∙ ap (λ xs. xs ++ told_until f (take at es)) from-rest

  pub cut-few : (most : ℕ) → length es < most → length one + length (take at es) < most
  cut-few most all =
      let few = told-few f (drop (at + 1) es) in
      let same = ap length from-rest in
      let rest = length-drop (at + 1) es in
      let front = length-take-le at es (omega (arith, within)) in
      omega (arith, within, few, same, rest, front, all)

pub edge-is : (x y : Edge) → Some x ≡ Some y → x ≡ y
edge-is x y e = cc

pub get-within : {X : Type 0} (xs : List X) (i : ℕ) (x : X) → slice_get xs i ≡ Some x → i < length xs
get-within [] i x e = absurd cc
get-within (y ∷ xs) zero x e = omega arith
get-within (y ∷ xs) (suc i) x e = let h = get-within xs i x e in omega (arith, h)
