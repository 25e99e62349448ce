-- The list of a farm's machines: names on the shelf, one on a line.
use Rattle.std.specs.Prelude.{◌≡◌, ℕ, ◌+◌, ◌-◌, ◌≤◌, ◌==◌, Bool, ◌&&◌, nat_le, List, [], length, slice_get, slice_index_or, take, All, Option, Some, None, IsUtf8, if◌then◌else◌}
use Rattle.tp_words.specs.Parts.{parts_at}
use Rattle.tp_farm.specs.declared.machine_list.ListFault.{ListFault}
use Rattle.tp_farm.specs.declared.machine_list.ListFault.TheVariants.{Memory, Lines, Name}

-- cut at its LFs the list has 2 to 9 parts, of which the last is empty: so it is 1 to 8 lines, each ended by a LF
abbrev pub is_list : List (List ℕ) → Bool
is_list parts = nat_le 2 (length parts) && nat_le (length parts) 9 && (length (slice_index_or parts (length parts - 1) []) == 0)

abbrev pub names_in : List (List ℕ) → Option (List (List ℕ))
names_in parts = if is_list parts then Some (take (length parts - 1) parts) else None

-- the names of a list, one on a line
abbrev pub names_of : List ℕ → Option (List (List ℕ))
names_of list = names_in (parts_at 10 list)

abbrev pub IsNoList : List ℕ → Type 0
IsNoList list = names_of list ≡ None

-- the most bytes of a file name
abbrev pub most_name : ℕ
most_name = 255

-- 1 to 255 bytes of UTF-8
pub record IsFileName (name : List ℕ) : Type 0 where
  pub some : 1 ≤ length name
  pub short : length name ≤ most_name
  pub text : IsUtf8 name

-- the name at the place is the first that is none
pub record IsFirstBad (names : List (List ℕ)) (place : ℕ) : Type 0 where
  pub name : List ℕ
  pub there : slice_get names place ≡ Some name
  pub bad : ¬ IsFileName name
  pub before : All IsFileName (take place names)

-- the name of this number, counted from 1, is the first that is none
pub record IsBadAt (names : List (List ℕ)) (number : ℕ) : Type 0 where
  pub place : ℕ
  pub counted : number ≡ place + 1
  pub first : IsFirstBad names place

pub record IsBadName (number : ℕ) (list : List ℕ) : Type 0 where
  pub names : List (List ℕ)
  pub listed : names_of list ≡ Some names
  pub bad : IsBadAt names number

abbrev pub IfBadName : List (List ℕ) → ListFault → Type 0
IfBadName names Memory = Unit {0}
IfBadName names Lines = ⊥
IfBadName names (Name number) = IsBadAt names number

-- why a list has no names
abbrev pub NoNames : List ℕ → ListFault → Type 0
NoNames list Memory = Unit {0}
NoNames list Lines = IsNoList list
NoNames list (Name number) = IsBadName number list
