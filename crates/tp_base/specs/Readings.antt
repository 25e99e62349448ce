-- How a network is read, whatever it keeps.
use Rattle.std.specs.Prelude.{◌≡◌, ℕ, List, [], ◌∷◌, ◌++◌, length, slice_get, take, Some}
use Rattle.tp_base.specs.Net.{Net}

-- its points and edges, those at each mark in force, the oldest first, and how many marks, points and edges there can be
pub record Reading (N : Type 0) : Type 0 where
  pub net : N → Net
  pub past : N → List Net
  pub max_marks : N → ℕ
  pub max_points : N → ℕ
  pub max_edges : N → ℕ

-- both have room for as many marks, points and edges
pub record IsSameSize {N : Type 0} (reading : Reading N) (n n' : N) : Type 0 where
  pub marks : reading.max_marks n' ≡ reading.max_marks n
  pub points : reading.max_points n' ≡ reading.max_points n
  pub edges : reading.max_edges n' ≡ reading.max_edges n

-- what its marks keep is its points and edges, and no more
pub record IsKeptByMarks {N C : Type 0} (reading : Reading N) (content : N → C) (past : N → List C) (max_marks : N → ℕ) : Type 0 where
  pub capacity : (n : N) → reading.max_marks n ≡ max_marks n
  pub count : (n : N) → length (reading.past n) ≡ length (past n)
  pub same : (n n' : N) → content n' ≡ content n → reading.net n' ≡ reading.net n
  pub same_net : (n n' : N) → reading.net n' ≡ reading.net n → content n' ≡ content n
  pub same_past : (n n' : N) → past n' ≡ past n → reading.past n' ≡ reading.past n
  pub same_nets : (n n' : N) → reading.past n' ≡ reading.past n → past n' ≡ past n
  pub marked : (n n' : N) → past n' ≡ past n ++ content n ∷ [] → reading.past n' ≡ reading.past n ++ reading.net n ∷ []
  pub back : (n n' : N) (k : ℕ) → slice_get (past n) k ≡ Some (content n') → slice_get (reading.past n) k ≡ Some (reading.net n')
  pub fewer : (n n' : N) (k : ℕ) → past n' ≡ take k (past n) → reading.past n' ≡ take k (reading.past n)
