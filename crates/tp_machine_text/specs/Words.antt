-- What the rules look at: the values of arrays and tables as lists, and what a value is.
use Rattle.std.specs.Prelude.{ℕ, ℤ, pos, is_some, Bool, true, false, not, ◌&&◌, nat_le, int_le, List, [], ◌∷◌, map, length, Option, Some, None}
use Rattle.std.specs.List.{list_all, list_any}
use Rattle.std.specs.Str.{bytes_eq}
use Rattle.tp_base.specs.NameText.{is_name_text}
use Rattle.toml.specs.Data.{Data, string, integer, array, Items, no_items, item, Members, no_members, member, get_member, get, as_array, as_table, as_bool}

abbrev pub values_of : Items → List Data
values_of no_items = []
values_of (item d ds) = d ∷ values_of ds

-- the values of an array; another value has none
abbrev pub elements : Data → List Data
elements (array ds) = values_of ds
elements _ = []

-- the keys of a table, and the value at each, both in the byte order of the keys
abbrev pub keys_of : Members → List (List ℕ)
keys_of no_members = []
keys_of (member k d ms) = k ∷ keys_of ms

abbrev pub data_of : Members → List Data
data_of no_members = []
data_of (member k d ms) = d ∷ data_of ms

-- the same of a value that may be absent
abbrev pub elements_in : Option Data → List Data
elements_in None = []
elements_in (Some d) = elements d

abbrev pub table_in : Option Data → Option Members
table_in None = None
table_in (Some d) = as_table d

-- the members of a table; where there is none, there are none
abbrev pub members_of : Option Members → Members
members_of None = no_members
members_of (Some ms) = ms

-- the values of the array at a key, and the members of the table at a key
abbrev pub elements_at : List ℕ → Members → List Data
elements_at key t = elements_in (get_member key t)

abbrev pub members_at : List ℕ → Members → Members
members_at key t = members_of (table_in (get_member key t))

-- the text that a value is; another value counts as the empty text, which is no name
abbrev pub text_of : Data → List ℕ
text_of (string text) = text
text_of _ = []

abbrev pub text_in : Option Data → List ℕ
text_in None = []
text_in (Some d) = text_of d

-- the text at a key of a table
abbrev pub text_at : List ℕ → Data → List ℕ
text_at key d = text_in (get key d)

-- the whole number that a value is; another value counts as 0
abbrev pub whole_of : Data → ℤ
whole_of (integer z) = z
whole_of _ = pos 0

abbrev pub whole_in : Option Data → ℤ
whole_in None = pos 0
whole_in (Some d) = whole_of d

abbrev pub whole_at : List ℕ → Data → ℤ
whole_at key d = whole_in (get key d)

-- the value is there and passes; the value passes where it is there
abbrev pub is_there : (Data → Bool) → Option Data → Bool
is_there test None = false
is_there test (Some d) = test d

abbrev pub is_fit : (Data → Bool) → Option Data → Bool
is_fit test None = true
is_fit test (Some d) = test d

abbrev pub is_array : Data → Bool
is_array d = is_some (as_array d)

abbrev pub is_table : Data → Bool
is_table d = is_some (as_table d)

abbrev pub is_truth_value : Data → Bool
is_truth_value d = is_some (as_bool d)

-- a whole number from low to high
abbrev pub is_whole : ℤ → ℤ → Data → Bool
is_whole low high (integer z) = int_le low z && int_le z high
is_whole low high _ = false

-- a text that is a name
abbrev pub is_name : Data → Bool
is_name (string text) = is_name_text text
is_name _ = false

abbrev pub is_among : List (List ℕ) → List ℕ → Bool
is_among texts text = list_any (bytes_eq text) texts

-- a text that is one of these
abbrev pub is_one_of : List (List ℕ) → Data → Bool
is_one_of texts (string text) = is_among texts text
is_one_of texts _ = false

abbrev pub is_apart : List (List ℕ) → Data → Bool
is_apart texts d = not (is_one_of texts d)

-- no text stands twice
abbrev pub are_different : List (List ℕ) → Bool
are_different [] = true
are_different (text ∷ texts) = not (is_among texts text) && are_different texts

abbrev pub is_count : ℕ → ℕ → ℕ → Bool
is_count least most n = nat_le least n && nat_le n most

-- 1 to so many different names
abbrev pub are_names : ℕ → List Data → Bool
are_names most ds = is_count 1 most (length ds) && list_all is_name ds && are_different (map text_of ds)

-- different texts among these
abbrev pub are_from : List (List ℕ) → List Data → Bool
are_from texts ds = list_all (is_one_of texts) ds && are_different (map text_of ds)
