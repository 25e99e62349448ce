-- Marks that stand at inserts.
use Rattle.std.proofs.Common.{◌≡◌, ℕ, ◌≤◌, List, ◌++◌, length, map, take, drop, Some, sym, ap, ◌∙◌, arith}
use Rattle.std.proofs.lemmas.List.{drop-append-le, length-take-le, take-append-drop, take-map}
use Rattle.std.specs.List.{slice_get}
use Rattle.tp_base.proofs.SliceFacts.{map_same, slice_get_take}
use Rattle.tp_timelines.specs.declared.inserts.Insert.{Insert}
use Rattle.tp_timelines.specs.Inserts.{taken_back}
use Rattle.tp_timelines.specs.Inside.{AreMarks}
use Rattle.tp_timelines.proofs.InsertFacts.{taken_back-append}

pub marks_undone : (marks : List ℕ) (inserts k n : ℕ) → slice_get marks k ≡ Some n → AreMarks marks inserts → AreMarks (take k marks) n
marks_undone marks inserts k n at a = record {
  below = λ j m g. (let t = slice_get_take k marks j m g in a.rise j k m n t.0 t.1 at);
  rise = λ i j m o h f g. a.rise i j m o h (slice_get_take k marks i m f).1 (slice_get_take k marks j o g).1;
}

pub marks_grown : (marks : List ℕ) (inserts more : ℕ) → inserts ≤ more → AreMarks marks inserts → AreMarks marks more
marks_grown marks inserts more h a = record {
  below = λ k n g. (let b = a.below k n g in omega arith);
  rise = a.rise;
}

taken_back-parts : (orders : List (List ℕ)) (inserted : List Insert) (m n : ℕ) → m ≤ n → n ≤ length inserted → taken_back (drop m (take n inserted)) (taken_back (drop n inserted) orders) ≡ taken_back (drop m inserted) orders
taken_back-parts orders inserted m n h k =
    let parts : drop m inserted ≡ drop m (take n inserted) ++ drop n inserted =
    ap (drop m) (sym (take-append-drop n inserted)) ∙ drop-append-le m (take n inserted) (drop n inserted) (omega (arith, length-take-le n inserted k)) in
    sym (taken_back-append (drop m (take n inserted)) (drop n inserted) orders) ∙ ap (λ is. taken_back is orders) (sym parts)

-- the orders at the marks that are left
pub past_undone : (marks : List ℕ) (orders : List (List ℕ)) (inserted : List Insert) (k n : ℕ) → slice_get marks k ≡ Some n → AreMarks marks (length inserted)
    → map (λ m. taken_back (drop m (take n inserted)) (taken_back (drop n inserted) orders)) (take k marks) ≡ take k (map (λ m. taken_back (drop m inserted) orders) marks)
past_undone marks orders inserted k n at a =
    map_same (λ m. taken_back (drop m (take n inserted)) (taken_back (drop n inserted) orders)) (λ m. taken_back (drop m inserted) orders) (take k marks) (λ j m g.
    let t = slice_get_take k marks j m g in
    taken_back-parts orders inserted m n (a.rise j k m n t.0 t.1 at) (a.below k n at))
    ∙ sym (take-map (λ m. taken_back (drop m inserted) orders) k marks)

-- an insert leaves what stands at the marks
module _ (marks : List ℕ) (orders after : List (List ℕ)) (inserted more : List Insert) (a : AreMarks marks (length inserted)) where
  pub past_same : ((n : ℕ) → n ≤ length inserted → taken_back (drop n more) after ≡ taken_back (drop n inserted) orders) → map (λ n. taken_back (drop n more) after) marks ≡ map (λ n. taken_back (drop n inserted) orders) marks
  past_same h = map_same (λ n. taken_back (drop n more) after) (λ n. taken_back (drop n inserted) orders) marks (λ k n g. h n (a.below k n g))
