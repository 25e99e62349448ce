-- Marks stand on no less than the marks before them.
use Rattle.std.proofs.Common.{◌≡◌, ℕ, ◌*◌, ◌<◌, ◌≤◌, List, [], ◌∷◌, ◌++◌, length, take, Some, ap, arith, inl, inr}
use Rattle.std.proofs.lemmas.Option.{slice_get_within}
use Rattle.std.proofs.lemmas.List.{length-append}
use Rattle.std.specs.List.{slice_get}
use Rattle.tp_base.proofs.SliceFacts.{slice_get_end, slice_get_take}
use Rattle.tp_stn_undo.specs.declared.marks.LiveMark.{LiveMark}
use Rattle.tp_stn_undo.specs.Marks.{AreStacked}

-- there is more than there was
pub stacked_grown : (marks : List LiveMark) (p p' e e' s s' capacity : ℕ) → p ≤ p' → e ≤ e' → s ≤ s' → AreStacked marks p e s capacity → AreStacked marks p' e' s' capacity
stacked_grown marks p p' e e' s s' capacity hp he hs a = record {
  points_below = λ i m g. (let b = a.points_below i m g in omega arith);
  edges_below = λ i m g. (let b = a.edges_below i m g in omega arith);
  saved_below = λ i m g. (let b = a.saved_below i m g in omega arith);
  in_capacity = a.in_capacity;
  points_rise = a.points_rise;
  edges_rise = a.edges_rise;
  saved_rise = a.saved_rise;
}

-- one more mark, on all that there is
module _ (marks : List LiveMark) (points edges saved capacity : ℕ) (m : LiveMark) (mp : m.points ≡ points) (me : m.edges ≡ edges) (ms : m.saved ≡ saved)
    (s : AreStacked marks points edges saved capacity) (fits : saved ≤ length marks * capacity) where
  later : (j k : ℕ) (n o : LiveMark) → j < k → slice_get (marks ++ m ∷ []) k ≡ Some o → j ≡ length marks → ⊥
  later j k n o h g e =
      let a = slice_get_within (marks ++ m ∷ []) k o g in
      let b = length-append marks (m ∷ []) in
      omega arith

  pub stacked_marked : AreStacked (marks ++ m ∷ []) points edges saved capacity
  stacked_marked = record {
    points_below = λ k n g. elim (slice_get_end marks m k n g) [ inl p ↦ s.points_below k n p | inr p ↦ (let e = ap (λ (x : LiveMark). x.points) p.1 in omega arith) ];
    edges_below = λ k n g. elim (slice_get_end marks m k n g) [ inl p ↦ s.edges_below k n p | inr p ↦ (let e = ap (λ (x : LiveMark). x.edges) p.1 in omega arith) ];
    saved_below = λ k n g. elim (slice_get_end marks m k n g) [ inl p ↦ s.saved_below k n p | inr p ↦ (let e = ap (λ (x : LiveMark). x.saved) p.1 in omega arith) ];
    in_capacity = λ k n g. elim (slice_get_end marks m k n g) [ inl p ↦ s.in_capacity k n p | inr p ↦ (let f = ap (λ (x : LiveMark). x.saved) p.1 in let q : k * capacity ≡ length marks * capacity = ap (λ i. i * capacity) p.0 in omega arith) ];
    points_rise = λ j k n o h g i. elim (slice_get_end marks m j n g) [
      | inl p ↦ elim (slice_get_end marks m k o i) [ inl q ↦ s.points_rise j k n o h p q | inr q ↦ (let a = s.points_below j n p in let e = ap (λ (x : LiveMark). x.points) q.1 in omega arith) ]
      | inr p ↦ absurd (later j k n o h i p.0)
    ];
    edges_rise = λ j k n o h g i. elim (slice_get_end marks m j n g) [
      | inl p ↦ elim (slice_get_end marks m k o i) [ inl q ↦ s.edges_rise j k n o h p q | inr q ↦ (let a = s.edges_below j n p in let e = ap (λ (x : LiveMark). x.edges) q.1 in omega arith) ]
      | inr p ↦ absurd (later j k n o h i p.0)
    ];
    saved_rise = λ j k n o h g i. elim (slice_get_end marks m j n g) [
      | inl p ↦ elim (slice_get_end marks m k o i) [ inl q ↦ s.saved_rise j k n o h p q | inr q ↦ (let a = s.saved_below j n p in let e = ap (λ (x : LiveMark). x.saved) q.1 in omega arith) ]
      | inr p ↦ absurd (later j k n o h i p.0)
    ];
  }

-- back to a mark
pub stacked_undone : (marks : List LiveMark) (points edges saved capacity k : ℕ) (m : LiveMark) → slice_get marks k ≡ Some m → AreStacked marks points edges saved capacity → AreStacked (take k marks) m.points m.edges m.saved capacity
stacked_undone marks points edges saved capacity k m at s = record {
  points_below = λ j n g. (let t = slice_get_take k marks j n g in s.points_rise j k n m t.0 t.1 at);
  edges_below = λ j n g. (let t = slice_get_take k marks j n g in s.edges_rise j k n m t.0 t.1 at);
  saved_below = λ j n g. (let t = slice_get_take k marks j n g in s.saved_rise j k n m t.0 t.1 at);
  in_capacity = λ j n g. s.in_capacity j n (slice_get_take k marks j n g).1;
  points_rise = λ i j n o h g f. s.points_rise i j n o h (slice_get_take k marks i n g).1 (slice_get_take k marks j o f).1;
  edges_rise = λ i j n o h g f. s.edges_rise i j n o h (slice_get_take k marks i n g).1 (slice_get_take k marks j o f).1;
  saved_rise = λ i j n o h g f. s.saved_rise i j n o h (slice_get_take k marks i n g).1 (slice_get_take k marks j o f).1;
}
