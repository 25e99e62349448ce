-- Amounts that are printed are found at their keys.
use Rattle.std.proofs.Common.{◌≡◌, ℕ, pos, Bool, true, false, Ordering, Less, Equal, Greater, List, [], ◌∷◌, map, Option, Some, None, option_map, refl, ap, ◌∙◌, arith}
use Rattle.std.specs.Prelude.{nat_le}
use Rattle.std.specs.List.{list_all, AllByRecursion}
use Rattle.std.specs.Ordering.{is_eq, nat_cmp, match_ordering}
use Rattle.std.specs.Str.{bytes_eq}
use Rattle.std.specs.Cmp.Lexicographic.{slice_cmp, nat_list_eq_equiv}
use Rattle.std.proofs.lemmas.Bool.{and_parts}
use Rattle.std.proofs.lemmas.Bool.Decides.{nat_tests}
use Rattle.std.proofs.lemmas.Int.{ints}
use Rattle.std.proofs.lemmas.Map.Text.{is_eq-slice_cmp}
use Rattle.toml.specs.Data.{Data, integer, Members, member, get_member}
use Rattle.tp_machine_text.specs.Words.{keys_of, data_of, whole_of, is_whole, is_among, are_different}
use Rattle.tp_machine_text.specs.HoldRules.{number_of}
use Rattle.tp_machine_text.specs.TheMachine.{amount_at}
use Rattle.tp_machine_text.specs.AmountRules.{are_amounts}
use Rattle.tp_machine_text.specs.Printed.{amount_first, amount_members}

abbrev pub amount_keys : List (List ℕ × Option ℕ) → List (List ℕ)
amount_keys amounts = map (λ a. a.0) amounts

-- a look-up passes over another key
passed : (key k : List ℕ) (d : Data) (ms : Members) → bytes_eq key k ≡ false → get_member key (member k d ms) ≡ get_member key ms
passed key k d ms other = go (slice_cmp nat_cmp key k) (is_eq-slice_cmp key k ∙ other) where
  go : (o : Ordering) → is_eq o ≡ false → match_ordering o (get_member key ms) (Some d) (get_member key ms) ≡ get_member key ms
  go Less e = refl
  go Equal e = cc
  go Greater e = refl

-- and stops at its own
here : (key : List ℕ) (d : Data) (ms : Members) → get_member key (member key d ms) ≡ Some d
here key d ms = go (slice_cmp nat_cmp key key) (is_eq-slice_cmp key key ∙ nat_list_eq_equiv.refl key) where
  go : (o : Ordering) → is_eq o ≡ true → match_ordering o (get_member key ms) (Some d) (get_member key ms) ≡ Some d
  go Less e = cc
  go Equal e = refl
  go Greater e = cc

not_there : (key : List ℕ) (amounts : List (List ℕ × Option ℕ)) → is_among (amount_keys amounts) key ≡ false → get_member key (amount_members amounts) ≡ None
not_there key [] none = refl
not_there key ((k, None) ∷ amounts) none = not_there key amounts (grind arith)
not_there key ((k, Some n) ∷ amounts) none =
    let other : bytes_eq key k ≡ false = grind arith in
    let rest : is_among (amount_keys amounts) key ≡ false = grind arith in
    passed key k (integer (pos n)) (amount_members amounts) other ∙ not_there key amounts rest

abbrev pub HasAmount : Members → List ℕ × Option ℕ → Type 0
HasAmount ms a = amount_at a.0 ms ≡ a.1

past : (key k : List ℕ) (d : Data) (ms : Members) → bytes_eq key k ≡ false → amount_at key (member k d ms) ≡ amount_at key ms
unfolding amount_at
past key k d ms other = ap (option_map (λ e. number_of (whole_of e))) (passed key k d ms other)

-- one more amount, of another key, leaves the others where they are
grown : (k : List ℕ) (o : Option ℕ) (ms : Members) (amounts : List (List ℕ × Option ℕ)) → is_among (amount_keys amounts) k ≡ false → AllByRecursion (HasAmount ms) amounts → AllByRecursion (HasAmount (amount_first k o ms)) amounts
grown k None ms amounts none all = all
grown k (Some n) ms [] none all = tt
grown k (Some n) ms (a ∷ amounts) none all =
    let other : bytes_eq k a.0 ≡ false = grind arith in
    let rest : is_among (amount_keys amounts) k ≡ false = grind arith in
    (past a.0 k (integer (pos n)) ms (nat_list_eq_equiv.symm a.0 k ∙ other) ∙ all.0, grown k (Some n) ms amounts rest all.1)

first : (k : List ℕ) (o : Option ℕ) (amounts : List (List ℕ × Option ℕ)) → is_among (amount_keys amounts) k ≡ false → amount_at k (amount_first k o (amount_members amounts)) ≡ o
unfolding amount_at
first k None amounts none = ap (option_map (λ e. number_of (whole_of e))) (not_there k amounts none)
first k (Some n) amounts none = ap (option_map (λ e. number_of (whole_of e))) (here k (integer (pos n)) (amount_members amounts))

pub amounts_found : (amounts : List (List ℕ × Option ℕ)) → are_different (amount_keys amounts) ≡ true → AllByRecursion (HasAmount (amount_members amounts)) amounts
amounts_found [] differ = tt
amounts_found ((k, o) ∷ amounts) differ =
    let none : is_among (amount_keys amounts) k ≡ false = grind arith in
    let rest : are_different (amount_keys amounts) ≡ true = grind arith in
    (first k o amounts none, grown k o (amount_members amounts) amounts none (amounts_found amounts rest))

-- ---- the rules on them
abbrev pub is_small : ℕ → Option ℕ → Bool
is_small most None = true
is_small most (Some n) = nat_le n most

whole_printed : (most n : ℕ) → nat_le n most ≡ true → is_whole (pos 0) (pos most) (integer (pos n)) ≡ true
whole_printed most n small = grind (arith, ints, nat_tests)

keys_printed : (names : List (List ℕ)) (amounts : List (List ℕ × Option ℕ)) → list_all (is_among names) (amount_keys amounts) ≡ true → list_all (is_among names) (keys_of (amount_members amounts)) ≡ true
keys_printed names [] known = refl
keys_printed names ((k, None) ∷ amounts) known = keys_printed names amounts (and_parts (is_among names k) (list_all (is_among names) (amount_keys amounts)) known).1
keys_printed names ((k, Some n) ∷ amounts) known =
    let (known_here, rest) = and_parts (is_among names k) (list_all (is_among names) (amount_keys amounts)) known in
    rw (known_here, keys_printed names amounts rest)

data_printed : (most : ℕ) (amounts : List (List ℕ × Option ℕ)) → list_all (λ a. is_small most a.1) amounts ≡ true → list_all (is_whole (pos 0) (pos most)) (data_of (amount_members amounts)) ≡ true
data_printed most [] small = refl
data_printed most ((k, None) ∷ amounts) small = data_printed most amounts small
data_printed most ((k, Some n) ∷ amounts) small =
    let (small_here, rest) = and_parts (nat_le n most) (list_all (λ a. is_small most a.1) amounts) small in
    rw (whole_printed most n small_here, data_printed most amounts rest)

pub amounts_printed : (names : List (List ℕ)) (most : ℕ) (amounts : List (List ℕ × Option ℕ)) → list_all (is_among names) (amount_keys amounts) ≡ true → list_all (λ a. is_small most a.1) amounts ≡ true
    → are_amounts names (pos most) (amount_members amounts) ≡ true
amounts_printed names most amounts known small = rw (keys_printed names amounts known, data_printed most amounts small)

pub all_among : (names : List (List ℕ)) → list_all (is_among names) names ≡ true
all_among names = go names (λ q known. known) where
  go : (xs : List (List ℕ)) → ((q : List ℕ) → is_among xs q ≡ true → is_among names q ≡ true) → list_all (is_among names) xs ≡ true
  go [] each = refl
  go (x ∷ xs) each =
      let first' : is_among names x ≡ true = each x (rw (nat_list_eq_equiv.refl x) refl) in
      rw (first', go xs (λ q known. each q (grind (arith, known))))
