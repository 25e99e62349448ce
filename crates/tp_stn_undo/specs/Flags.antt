-- Points with a flag each, and lists that hold the flagged ones.
use Rattle.std.specs.Prelude.{◌≡◌, ℕ, ◌+◌, ◌<◌, ◌≤◌, Bool, true, false, List, [], ◌∷◌, length, slice_index_or, if◌then◌else◌, map}
use Rattle.std.specs.List.{All, Contains}
use Rattle.tp_stn_undo.specs.declared.point_state.SavedState.{SavedState}

abbrev pub flag : List Bool → ℕ → Bool
flag flags v = slice_index_or flags v false

-- how many are flagged
abbrev pub flagged : List Bool → ℕ
flagged [] = 0
flagged (b ∷ bs) = (if b then 1 else 0) + flagged bs

-- each flagged number is in the list, and no more are there than are flagged
pub record AreHeld (flags : List Bool) (ps : List ℕ) : Type 0 where
  pub held : (v : ℕ) → flag flags v ≡ true → Contains ps v
  pub short : length ps ≤ flagged flags
  pub known : All (λ p. p < length flags) ps

abbrev pub points_in : List SavedState → List ℕ
points_in entries = map (λ (s : SavedState). s.point.0) entries

-- what can be seen of points that wait: which wait, and the list of them
pub record Waits : Type 0 where
  pub flags : List Bool
  pub points : List ℕ

-- what can be seen of a line: the points in it, and how many there can be
pub record QueueValue : Type 0 where
  pub points : List ℕ
  pub capacity : ℕ

abbrev pub AreBelow : ℕ → List ℕ → Type 0
AreBelow count ps = All (λ p. p < count) ps

-- what can be seen of the points of a change: what was saved before it, what they were, how many points there can be, and how
-- many can be saved in all
pub record Noted : Type 0 where
  pub older : List SavedState
  pub entries : List SavedState
  pub capacity : ℕ
  pub most : ℕ

-- only what is noted of the change is new
pub record IsSameSave (old new : Noted) : Type 0 where
  pub older : new.older ≡ old.older
  pub capacity : new.capacity ≡ old.capacity
  pub most : new.most ≡ old.most

abbrev pub AreIdle : List Bool → Type 0
AreIdle flags = (v : ℕ) → flag flags v ≡ false

abbrev pub AreKnown : ℕ → List SavedState → Type 0
AreKnown count entries = All (λ (s : SavedState). s.point.0 < count) entries
