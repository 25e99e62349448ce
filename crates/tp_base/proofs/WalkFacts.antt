-- Where the points of a path of causes stand in it.
use Rattle.std.proofs.Common.{◌≡◌, ◌≢◌, ℕ, ◌+◌, ◌-◌, ◌<◌, ◌≤◌, List, [], ◌∷◌, ◌++◌, length, slice_index, get_or, set, Some, sym, ap, ◌∙◌, arith, inl, inr}
use Rattle.std.proofs.lemmas.Bool.{cases_eq}
use Rattle.std.proofs.lemmas.Option.{slice_get_within}
use Rattle.std.proofs.lemmas.List.{length-set, get_or-set_same, get_or-set_other, get_or_read}
use Rattle.std.proofs.lemmas.List.Elements.{All-push}
use Rattle.std.specs.List.{All, slice_get}
use Rattle.tp_base.specs.declared.edges.Edge.{Edge}
use Rattle.tp_base.proofs.SliceFacts.{slice_get_left, slice_get_last}

-- each place tells the edge of the path that ends at its point, counted from 1, or says by 0 that there is none
pub record AreMarked (count : ℕ) (places : List ℕ) (path : List Edge) : Type 0 where
  pub len : length places ≡ count
  pub free : (v : ℕ) → v < count → slice_index places v ≡ 0 → All (λ e. e.to.0 ≢ v) path
  pub held : (v k : ℕ) → v < count → slice_index places v ≡ k + 1 → (e : Edge) × (slice_get path k ≡ Some e) × (e.to.0 ≡ v)

pub AreMarked-push : (count : ℕ) (places : List ℕ) (path : List Edge) (at : ℕ) (e : Edge) → AreMarked count places path → at < count → e.to.0 ≡ at → AreMarked count (set places at (length path + 1)) (path ++ e ∷ [])
AreMarked-push count places path at e m known to =
    let l = m.len in
    let same : get_or (set places at (length path + 1)) at 0 ≡ length path + 1 = get_or-set_same places at (length path + 1) 0 (omega arith) in
    record {
      len = length-set places at (length path + 1) ∙ m.len;
      free = λ v h z. elim (cases_eq v at) [
        | inl p ↦ absurd (let q = ap (λ i. get_or (set places at (length path + 1)) i 0) p in omega arith)
        | inr p ↦ All-push (λ e. e.to.0 ≢ v) path e (m.free v h (sym (get_or-set_other places at v (length path + 1) 0 p) ∙ z)) (λ q. p (sym q ∙ to))
      ];
      held = λ v k h s. elim (cases_eq v at) [
        | inl p ↦ (let q = ap (λ i. get_or (set places at (length path + 1)) i 0) p in
            let n : k ≡ length path = omega arith in (e, rw n (slice_get_last path e), to ∙ sym p))
        | inr p ↦ (let w = m.held v k h (sym (get_or-set_other places at v (length path + 1) 0 p) ∙ s) in
            (w.0, slice_get_left path (e ∷ []) k (slice_get_within path k w.0 w.1) ∙ w.1, w.2))
      ];
    }

-- what a place that was read says
module _ (count : ℕ) (places : List ℕ) (path : List Edge) (at place : ℕ) (m : AreMarked count places path) (known : at < count) (read : place ≡ get_or places at place) where
  is_place : place ≡ slice_index places at
  is_place = get_or_read places at place (omega (arith, m.len)) read 0

  pub free_at : place ≤ 0 → All (λ e. e.to.0 ≢ at) path
  free_at none = m.free at known (omega (arith, is_place))

  pub held_at : 0 < place → (e : Edge) × (slice_get path (place - 1) ≡ Some e) × (e.to.0 ≡ at)
  held_at some = m.held at (place - 1) known (omega (arith, is_place))

  pub place_within : 0 < place → place ≤ length path
  place_within some = let w = held_at some in omega (arith, slice_get_within path (place - 1) w.0 w.1)
