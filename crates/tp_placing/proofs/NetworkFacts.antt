-- What is read of a network that changes, and that is marked and taken back.
use Rattle.std.proofs.Common.{◌≡◌, ◌∙◌, ◌<◌, ℕ, List, arith, length, refl, sym}
use Rattle.tp_base.specs.Readings.{IsKeptByMarks, IsSameSize, Reading}

module _ {N C : Type 0} {reading : Reading N} {content : N → C} {past : N → List C} {max_marks : N → ℕ} (kept : IsKeptByMarks reading content past max_marks) where
  pub same-marks : (n n' : N) → max_marks n' ≡ max_marks n → reading.max_marks n' ≡ reading.max_marks n
  same-marks n n' e = kept.capacity n' ∙ e ∙ sym (kept.capacity n)

  pub can-mark : (n : N) → length (reading.past n) < reading.max_marks n → length (past n) < max_marks n
  can-mark n less =
      let a = kept.count n in
      let b = kept.capacity n in
      omega arith

  pub can-undo : (n : N) (k : ℕ) → k < length (reading.past n) → k < length (past n)
  can-undo n k less = let a = kept.count n in omega arith

pub same-size-itself : {N : Type 0} (reading : Reading N) (n : N) → IsSameSize reading n n
same-size-itself reading n = record { marks = refl; points = refl; edges = refl }

pub same-size-then : {N : Type 0} {reading : Reading N} {a b c : N} → IsSameSize reading a b → IsSameSize reading b c → IsSameSize reading a c
same-size-then first second = record {
  marks = second.marks ∙ first.marks;
  points = second.points ∙ first.points;
  edges = second.edges ∙ first.edges;
}
