-- Words of fixed parts, and lines of fixed fields.
use Rattle.std.specs.Prelude.{◌≡◌, ℕ, Bool, true, ◌==◌, slice_index, List, [], ◌∷◌, Option, Some, None, option_and_then, if◌then◌else◌}
use Rattle.tp_base.specs.NameText.{is_name_text}
use Rattle.tp_words.specs.Parts.{cut_at}

infixl 10 ◌>>=◌
abbrev pub ◌>>=◌ : {A B : Type 0} → Option A → (A → Option B) → Option B
o >>= f = option_and_then f o

abbrev pub IsName : List ℕ → Type 0
IsName text = is_name_text text ≡ true

unfoldable pub name_of : List ℕ → Option (List ℕ)
name_of word = if is_name_text word then Some word else None

-- two parts with the byte c between
unfoldable pub pair_of : {A B X : Type 0} → ℕ → (List ℕ → Option A) → (List ℕ → Option B) → (A → B → X) → List ℕ → Option X
pair_of c a_of b_of make word = do
  sides ← cut_at c word
  a ← a_of sides.0
  b ← b_of sides.1
  Some (make a b)

-- two fields
unfoldable pub two_of : {A B X : Type 0} → (List ℕ → Option A) → (List ℕ → Option B) → (A → B → X) → List (List ℕ) → Option X
two_of a_of b_of make (a ∷ b ∷ []) = do
  x ← a_of a
  y ← b_of b
  Some (make x y)
two_of a_of b_of make _ = None

-- five fields
unfoldable pub five_of : {A B C D E X : Type 0} → (List ℕ → Option A) → (List ℕ → Option B) → (List ℕ → Option C) → (List ℕ → Option D) → (List ℕ → Option E) → (A → B → C → D → E → X) → List (List ℕ) → Option X
five_of a_of b_of c_of d_of e_of make (a ∷ b ∷ c ∷ d ∷ e ∷ []) = do
  v ← a_of a
  w ← b_of b
  x ← c_of c
  y ← d_of d
  z ← e_of e
  Some (make v w x y z)
five_of a_of b_of c_of d_of e_of make _ = None

-- what stands behind the byte c
unfoldable pub after_of : {X : Type 0} → ℕ → (List ℕ → Option X) → List ℕ → Option X
after_of c x_of [] = None
after_of c x_of (b ∷ word) = if b == c then x_of word else None

abbrev pub begins_with : ℕ → List ℕ → Bool
begins_with c word = slice_index word 0 == c
