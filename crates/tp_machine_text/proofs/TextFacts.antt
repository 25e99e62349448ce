-- What the tests of values say of their texts.
use Rattle.std.proofs.Common.{◌≡◌, ℕ, true, not, List, [], ◌∷◌, map, refl, arith}
use Rattle.std.specs.List.{list_all}
use Rattle.toml.specs.Data.{Data, string, integer, float, boolean, datetime, array, table}
use Rattle.tp_machine_text.specs.Words.{text_of, is_among, is_one_of, is_apart}

pub one_of : (names : List (List ℕ)) (d : Data) → is_one_of names d ≡ true → is_among names (text_of d) ≡ true
one_of names (string s) known = known
one_of names (integer z) known = cc
one_of names (float x) known = cc
one_of names (boolean b) known = cc
one_of names (datetime t) known = cc
one_of names (array ds) known = cc
one_of names (table ms) known = cc

pub all_one_of : (names : List (List ℕ)) (ds : List Data) → list_all (is_one_of names) ds ≡ true → list_all (is_among names) (map text_of ds) ≡ true
all_one_of names [] known = refl
all_one_of names (d ∷ ds) known =
    let here : is_one_of names d ≡ true = grind arith in
    rw (one_of names d here, all_one_of names ds (grind arith))

-- a text that is one of some, and none of others
apart : (names others : List (List ℕ)) (d : Data) → is_one_of names d ≡ true → is_apart others d ≡ true → not (is_among others (text_of d)) ≡ true
apart names others (string s) known other = other
apart names others (integer z) known other = cc
apart names others (float x) known other = cc
apart names others (boolean b) known other = cc
apart names others (datetime t) known other = cc
apart names others (array ds) known other = cc
apart names others (table ms) known other = cc

pub all_apart : (names others : List (List ℕ)) (ds : List Data) → list_all (is_one_of names) ds ≡ true → list_all (is_apart others) ds ≡ true → list_all (λ s. not (is_among others s)) (map text_of ds) ≡ true
all_apart names others [] known other = refl
all_apart names others (d ∷ ds) known other =
    let here : is_one_of names d ≡ true = grind arith in
    let none : is_apart others d ≡ true = grind arith in
    rw (apart names others d here none, all_apart names others ds (grind arith) (grind arith))
