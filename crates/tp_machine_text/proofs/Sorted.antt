-- The keys of a table stand in order. So they differ, and there are no more of them than of the names that they are among.
use Rattle.std.proofs.Common.{◌≡◌, ℕ, suc, ◌+◌, zero-add, ◌≤◌, true, false, List, [], ◌∷◌, length, map, String, Global, Less, string_bytes, refl, ap, sym, ◌∙◌, arith}
use Rattle.std.specs.List.{list_all, list_any, AllByRecursion, IsDistinct}
use Rattle.std.specs.List.Sorted.{IsStrictlySortedBy}
use Rattle.std.specs.Map.{keys_of as map_keys}
use Rattle.std.specs.Ordering.{is_eq, is_lt}
use Rattle.std.specs.Str.{bytes_eq}
use Rattle.std.specs.String.{string_cmp}
use Rattle.std.specs.Cmp.Lexicographic.{nat_list_eq_equiv}
use Rattle.std.proofs.lemmas.Map.Text.{is_eq-slice_cmp}
use Rattle.std.proofs.lemmas.Map.Steps.{length-le_from_keys}
use Rattle.std.proofs.lemmas.Map.Made.{is_some-lookup}
use Rattle.std.proofs.lemmas.List.{length-map}
use Rattle.toml.specs.View.{members_view}
use Rattle.toml.specs.declared.value.Value.{Value}
use Rattle.tp_machine.specs.Rules.{do_names_rise, is_below}
use Rattle.tp_machine_text.specs.Words.{is_among, are_different, keys_of}
use Rattle.tp_machine_text.specs.TheMachine.{place_in}
use Rattle.tp_machine_text.proofs.Seen.{keys_seen}

-- ---- different names among others are no more than those

all_apart : (x : List ℕ) (xs : List (List ℕ)) → list_any (bytes_eq x) xs ≡ false → AllByRecursion (λ y. bytes_eq x y ≡ false) xs
all_apart x [] none = tt
all_apart x (y ∷ ys) none = (grind arith, all_apart x ys (grind arith))

distinct : (xs : List (List ℕ)) → are_different xs ≡ true → IsDistinct bytes_eq xs
unfolding IsDistinct
distinct [] differ = tt
distinct (x ∷ xs) differ =
    let none : list_any (bytes_eq x) xs ≡ false = grind arith in
    (all_apart x xs none, distinct xs (grind arith))

named_twice : List (List ℕ) → List (List ℕ × ℕ)
named_twice = map (λ n. (n, 0))

keys_named : (names : List (List ℕ)) → map_keys (named_twice names) ≡ names
unfolding named_twice
keys_named [] = refl
keys_named (n ∷ names) = ap (λ t. n ∷ t) (keys_named names)

same_any : (names : List (List ℕ)) (q x : List ℕ) → bytes_eq q x ≡ true → is_among names x ≡ true → is_among names q ≡ true
same_any [] q x same known = known
same_any (n ∷ names) q x same known =
    let e : bytes_eq q n ≡ bytes_eq x n = nat_list_eq_equiv.congr q x n same in
    let rest = same_any names q x same in
    grind (arith, rest)

known_any : (names xs : List (List ℕ)) (q : List ℕ) → list_all (is_among names) xs ≡ true → list_any (bytes_eq q) xs ≡ true → is_among names q ≡ true
known_any names [] q known some = cc
known_any names (x ∷ xs) q known some =
    let here : is_among names x ≡ true = grind arith in
    let same = λ (e : bytes_eq q x ≡ true). same_any names q x e here in
    let rest = λ (e : list_any (bytes_eq q) xs ≡ true). known_any names xs q (grind arith) e in
    grind (arith, same, rest)

pub few_among : (names xs : List (List ℕ)) → are_different xs ≡ true → list_all (is_among names) xs ≡ true → length xs ≤ length names
unfolding named_twice
few_among names xs differ known =
    let fits = length-le_from_keys nat_list_eq_equiv xs (named_twice names) (distinct xs differ)
    (λ q some. is_some-lookup (bytes_eq q) (named_twice names) ∙ ap (list_any (bytes_eq q)) (keys_named names) ∙ known_any names xs q known some) in
    let e : length (named_twice names) ≡ length names = length-map names (λ n. (n, 0)) in
    grind arith

-- ---- the keys of a table

none_same : (k : String Global) (ks : List (String Global)) → AllByRecursion (λ y. string_cmp k y ≡ Less) ks → is_among (map string_bytes ks) (string_bytes k) ≡ false
none_same k [] above = refl
none_same k (y ∷ ys) above =
    let e : bytes_eq (string_bytes k) (string_bytes y) ≡ false = sym (is_eq-slice_cmp (string_bytes k) (string_bytes y)) ∙ ap is_eq above.0 in
    rw e (none_same k ys above.1)

sorted_differ : (ks : List (String Global)) → IsStrictlySortedBy string_cmp ks → are_different (map string_bytes ks) ≡ true
unfolding IsStrictlySortedBy
sorted_differ [] sorted = refl
sorted_differ (k ∷ ks) sorted = rw (none_same k ks sorted.0) (sorted_differ ks sorted.1)

sorted_rise : (ks : List (String Global)) → IsStrictlySortedBy string_cmp ks → do_names_rise (map string_bytes ks) ≡ true
unfolding IsStrictlySortedBy
sorted_rise [] sorted = refl
sorted_rise (k ∷ []) sorted = refl
sorted_rise (k ∷ y ∷ ks) sorted =
    let e : is_below (string_bytes k) (string_bytes y) ≡ true = ap is_lt sorted.0.0 in
    rw e (sorted_rise (y ∷ ks) sorted.1)

pub length_keys : (es : List (String Global × Value)) → length (keys_of (members_view es)) ≡ length es
length_keys [] = refl
length_keys (e ∷ es) = ap suc (length_keys es)

pub keys_rise : (es : List (String Global × Value)) → IsStrictlySortedBy string_cmp (map_keys es) → do_names_rise (keys_of (members_view es)) ≡ true
keys_rise es sorted = rw (keys_seen es) (sorted_rise (map_keys es) sorted)

pub few_keys : (names : List (List ℕ)) (es : List (String Global × Value)) → IsStrictlySortedBy string_cmp (map_keys es) → list_all (is_among names) (keys_of (members_view es)) ≡ true → length (keys_of (members_view es)) ≤ length names
few_keys names es sorted known = few_among names (keys_of (members_view es)) (ap are_different (keys_seen es) ∙ sorted_differ (map_keys es) sorted) known

-- a walk over the keys at its start
pub keys_counted : (es : List (String Global × Value)) (ks : List (String Global)) → ks ≡ map_keys es → 0 + length ks ≡ length (keys_of (members_view es))
keys_counted es ks same = rw (keys_seen es, same) (zero-add _ ∙ sym (length-map (map_keys es) string_bytes))

pub keys_placed : (es : List (String Global × Value)) (ks : List (String Global)) (text : List ℕ) → ks ≡ map_keys es → 0 + place_in (map string_bytes ks) text ≡ place_in (keys_of (members_view es)) text
keys_placed es ks text same = rw (keys_seen es, same) (zero-add _)
