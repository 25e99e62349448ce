-- What a value of JSON is read as, where it is something of that kind.
use Rattle.std.specs.Prelude.{ℕ, suc, zero, Bool, false, ◌==◌, nat_le, if◌then◌else◌, List, [], ◌∷◌, length, Option, Some, None, option_and_then}
use Rattle.serde_json.specs.Data.{Data, object, Items, no_items, item, Members, no_members, member}
use Rattle.serde_json.specs.Find.{as_array, as_number, as_str, as_u64, get}
use Rattle.tp_words.specs.Each.{each_read}
use Rattle.tp_words.specs.Fields.{name_of}

abbrev pub values_of : Items → List Data
values_of no_items = []
values_of (item d ds) = d ∷ values_of ds

abbrev pub count_of : Members → ℕ
count_of no_members = zero
count_of (member key d ms) = suc (count_of ms)

-- an object of so many members
abbrev pub has_members : ℕ → Data → Bool
has_members n (object ms) = count_of ms == n
has_members n _ = false

-- the value at a key, where it is read
abbrev pub field_of : {X : Type 0} → List ℕ → (Data → Option X) → Data → Option X
field_of key read d = option_and_then read (get key d)

-- the values of an array
abbrev pub list_of : Data → Option (List Data)
list_of d = option_and_then (λ ds. Some (values_of ds)) (as_array d)

-- the values, where they are at most so many and all are read
abbrev pub few_read : {X : Type 0} → ℕ → (Data → Option X) → List Data → Option (List X)
few_read most read ds = if nat_le (length ds) most then each_read read ds else None

-- the same of the array at a key
abbrev pub each_of : {X : Type 0} → ℕ → List ℕ → (Data → Option X) → Data → Option (List X)
each_of most key read d = option_and_then (few_read most read) (field_of key list_of d)

abbrev pub at_most : ℕ → ℕ → Option ℕ
at_most most n = if nat_le n most then Some n else None

-- a whole number of at most so much
abbrev pub whole_of : ℕ → Data → Option ℕ
whole_of most d = option_and_then (at_most most) (option_and_then as_u64 (as_number d))

-- a text that is a name
abbrev pub name_in : Data → Option (List ℕ)
name_in d = option_and_then name_of (as_str d)
