-- When the looks at values find no slip.
use Rattle.std.proofs.Common.{◌≡◌, ℕ, ◌+◌, arith, suc, Bool, true, false, not, ◌&&◌, ◌||◌, cond, is_some, nat_lt, List, [], ◌∷◌, length, map, position, refl, ap, ap₂, sym, ◌∙◌, Option, Some, None, option_map}
use Rattle.std.proofs.lemmas.Bool.Decides.{nat_tests}
use Rattle.std.specs.List.{list_all, prefix_len}
use Rattle.toml.specs.Data.{Data, string, integer, float, boolean, datetime, array, table, Members}
use Rattle.tp_base.specs.NameText.{is_name_text}
use Rattle.tp_machine_text.specs.Words.{data_of, is_among, is_apart, is_fit, is_name, is_one_of, is_there, are_different, keys_of, text_of}
use Rattle.tp_machine_text.specs.Order.{first_from, or_else}
use Rattle.tp_machine_text.specs.Slips.{unless, or_slip, first_in, first_of}
use Rattle.tp_machine_text.specs.Wants.{is_noun, is_text, meets}
use Rattle.tp_machine_text.specs.MachineSlips.{amounts, entries, item, optional, own_keys, required, single_item, single_items}
use Rattle.tp_machine_text.specs.declared.slip.Key.{Key}
use Rattle.tp_machine_text.specs.declared.slip.Noun.{Noun}
use Rattle.tp_machine_text.specs.declared.slip.Slip.{Slip}
use Rattle.tp_machine_text.specs.declared.slip.Want.{Want}

pub and_assoc : (a b c : Bool) → ((a && b) && c) ≡ (a && (b && c))
and_assoc true b c = refl
and_assoc false b c = refl

pub and_false : (a : Bool) → (a && false) ≡ false
and_false true = refl
and_false false = refl

-- (a and b) and (c and d) is (a and c) and (b and d)
pub and_swap : (a b c d : Bool) → ((a && b) && (c && d)) ≡ ((a && c) && (b && d))
and_swap true true c d = refl
and_swap true false true d = refl
and_swap true false false d = refl
and_swap false b c d = refl

pub and_last : (a b c : Bool) → ((a && b) && c) ≡ ((a && c) && b)
and_last true true true = refl
and_last true true false = refl
and_last true false true = refl
and_last true false false = refl
and_last false b c = refl

-- ---- slips

abbrev pub is_clear : Option Slip → Bool
is_clear None = true
is_clear (Some s) = false

pub clear_or : (a b : Option Slip) → is_clear (or_slip a b) ≡ (is_clear a && is_clear b)
clear_or None b = refl
clear_or (Some s) b = refl

pub clear_unless : (test : Bool) (s : Slip) → is_clear (unless test s) ≡ test
clear_unless true s = refl
clear_unless false s = refl

pub clear_map : (f : Slip → Slip) (a : Option Slip) → is_clear (option_map f a) ≡ is_clear a
clear_map f None = refl
clear_map f (Some s) = refl

-- each value passes, looked at with those behind it
abbrev pub all_with : (Data → List Data → Bool) → List Data → Bool
all_with p [] = true
all_with p (d ∷ ds) = p d ds && all_with p ds

pub clear_first_in : (look : ℕ → Data → List Data → Option Slip) (p : Data → List Data → Bool) → ((n : ℕ) (d : Data) (later : List Data) → is_clear (look n d later) ≡ p d later) → (n : ℕ) (ds : List Data) → is_clear (first_in look n ds) ≡ all_with p ds
clear_first_in look p same n [] = refl
clear_first_in look p same n (d ∷ ds) = clear_or (look n d ds) (first_in look (suc n) ds) ∙ ap₂ (λ a b. a && b) (same n d ds) (clear_first_in look p same (suc n) ds)

pub with_all : (p : Data → Bool) (ds : List Data) → all_with (λ d _. p d) ds ≡ list_all p ds
with_all p [] = refl
with_all p (d ∷ ds) = ap (λ b. p d && b) (with_all p ds)

-- each passes, and the texts differ
pub with_different : (p : Data → Bool) (text : Data → List ℕ) (ds : List Data) → all_with (λ d later. p d && not (is_among (map text later) (text d))) ds ≡ (list_all p ds && are_different (map text ds))
with_different p text [] = refl
with_different p text (d ∷ ds) =
    ap (λ b. (p d && not (is_among (map text ds) (text d))) && b) (with_different p text ds)
    ∙ and_swap (p d) (not (is_among (map text ds) (text d))) (list_all p ds) (are_different (map text ds))

pub with_and : (p : Data → List Data → Bool) (q : Data → Bool) (ds : List Data) → all_with (λ d later. p d later && q d) ds ≡ (all_with p ds && list_all q ds)
with_and p q [] = refl
with_and p q (d ∷ ds) = ap (λ b. (p d ds && q d) && b) (with_and p q ds) ∙ and_swap (p d ds) (q d) (all_with p ds) (list_all q ds)

pub all_same : {X : Type 0} (p q : X → Bool) → ((x : X) → p x ≡ q x) → (xs : List X) → list_all p xs ≡ list_all q xs
all_same p q same [] = refl
all_same p q same (x ∷ xs) = ap₂ (λ a b. a && b) (same x) (all_same p q same xs)

pub all_and : {X : Type 0} (p q : X → Bool) (xs : List X) → list_all (λ x. p x && q x) xs ≡ (list_all p xs && list_all q xs)
all_and p q [] = refl
all_and p q (x ∷ xs) = ap (λ b. (p x && q x) && b) (all_and p q xs) ∙ and_swap (p x) (q x) (list_all p xs) (list_all q xs)

all_true : {X : Type 0} (xs : List X) → list_all (λ _. true) xs ≡ true
all_true [] = refl
all_true (x ∷ xs) = all_true xs

pub all_or : {X : Type 0} (b : Bool) (p : X → Bool) (xs : List X) → list_all (λ x. b || p x) xs ≡ (b || list_all p xs)
all_or true p xs = all_true xs
all_or false p xs = refl

-- ---- keys

pub iff : (a b : Bool) → (a ≡ true → b ≡ true) → (b ≡ true → a ≡ true) → a ≡ b
iff true b f g = sym (f refl)
iff false true f g = g refl
iff false false f g = refl

lt_up : (n m : ℕ) → nat_lt n m ≡ true → nat_lt (1 + n) (suc m) ≡ true
lt_up n m h = grind (arith, nat_tests)

lt_down : (n m : ℕ) → nat_lt (1 + n) (suc m) ≡ true → nat_lt n m ≡ true
lt_down n m h = grind (arith, nat_tests)

lt_first : (m : ℕ) → nat_lt 0 (suc m) ≡ true
lt_first m = grind (arith, nat_tests)

pass_step : (b rest : Bool) (n m : ℕ) → nat_lt n m ≡ not rest → nat_lt (cond b (1 + n) 0) (suc m) ≡ not (b && rest)
pass_step true rest n m e = iff (nat_lt (1 + n) (suc m)) (nat_lt n m) (lt_down n m) (lt_up n m) ∙ e
pass_step false rest n m e = lt_first m

pass_length : {X : Type 0} (p : X → Bool) (xs : List X) → nat_lt (prefix_len p xs) (length xs) ≡ not (list_all p xs)
pass_length p [] = refl
pass_length p (x ∷ xs) = pass_step (p x) (list_all p xs) (prefix_len p xs) (length xs) (pass_length p xs)

none_found : (f : ℕ → Slip) (b : Bool) (n : ℕ) → is_clear (option_map f (cond (not b) (Some n) None)) ≡ b
none_found f true n = refl
none_found f false n = refl

not_not : (b : Bool) → not (not b) ≡ b
not_not true = refl
not_not false = refl

clear_position : (f : ℕ → Slip) (p : List ℕ → Bool) (keys : List (List ℕ)) → is_clear (option_map f (position (λ k. not (p k)) keys)) ≡ list_all p keys
clear_position f p keys =
    ap (λ b. is_clear (option_map f (cond b (Some (prefix_len (λ k. not (not (p k))) keys)) None))) (pass_length (λ k. not (not (p k))) keys)
    ∙ none_found f (list_all (λ k. not (not (p k))) keys) (prefix_len (λ k. not (not (p k))) keys)
    ∙ all_same (λ k. not (not (p k))) p (λ k. not_not (p k)) keys

pub clear_keys : (t : Members) (n : Noun) (ms : Members) → is_clear (own_keys t n ms) ≡ list_all (is_noun t n) (keys_of ms)
clear_keys t n ms = clear_position _ (is_noun t n) (keys_of ms)

pub clear_entries : (t : Members) (k : Key) (n : Noun) (ms : Members) → is_clear (entries t k n ms) ≡ list_all (is_noun t n) (keys_of ms)
clear_entries t k n ms = clear_position _ (is_noun t n) (keys_of ms)

-- ---- values

pub clear_required : (t : Members) (k : Key) (w : Want) (o : Option Data) → is_clear (required t k w o) ≡ meets t w o
clear_required t k w o = clear_unless (meets t w o) _

pub clear_optional : (t : Members) (k : Key) (w : Want) (o : Option Data) → is_clear (optional t k w o) ≡ (not (is_some o) || meets t w o)
clear_optional t k w o = clear_unless (not (is_some o) || meets t w o) _

pub fit : (test : Data → Bool) (o : Option Data) → (not (is_some o) || is_there test o) ≡ is_fit test o
fit test None = refl
fit test (Some d) = refl

pub clear_amounts : (t : Members) (k : Key) (w : Want) (ms : Members) → is_clear (amounts t k w ms) ≡ list_all (λ d. meets t w (Some d)) (data_of ms)
clear_amounts t k w ms = clear_first_in _ _ (λ n d later. clear_unless (meets t w (Some d)) _) 0 (data_of ms) ∙ with_all (λ d. meets t w (Some d)) (data_of ms)

pub clear_items : (t : Members) (k : Key) (w : Want) (ds : List Data) → is_clear (first_in (item t k w) 0 ds) ≡ list_all (λ d. meets t w (Some d)) ds
clear_items t k w ds = clear_first_in _ _ (λ n d later. clear_unless (meets t w (Some d)) _) 0 ds ∙ with_all (λ d. meets t w (Some d)) ds

clear_single : (t : Members) (k : Key) (w : Want) (n : ℕ) (d : Data) (later : List Data) → is_clear (single_item t k w n d later) ≡ (meets t w (Some d) && not (is_among (map text_of later) (text_of d)))
unfolding single_item
clear_single t k w n d later =
    clear_or (item t k w n d later) _ ∙ ap₂ (λ a b. a && b) (clear_unless (meets t w (Some d)) _) (clear_unless (not (is_among (map text_of later) (text_of d))) _)

pub clear_single_items : (t : Members) (k : Key) (w : Want) (ds : List Data) → is_clear (single_items t k w ds) ≡ (list_all (λ d. meets t w (Some d)) ds && are_different (map text_of ds))
clear_single_items t k w ds = clear_first_in _ _ (clear_single t k w) 0 ds ∙ with_different (λ d. meets t w (Some d)) text_of ds

-- ---- texts

pub name_is : (d : Data) → is_text is_name_text (Some d) ≡ is_name d
name_is (string text) = refl
name_is (integer z) = refl
name_is (float x) = refl
name_is (boolean b) = refl
name_is (datetime x) = refl
name_is (array ds) = refl
name_is (table ms) = refl

pub one_is : (texts : List (List ℕ)) (d : Data) → is_text (is_among texts) (Some d) ≡ is_one_of texts d
one_is texts (string text) = refl
one_is texts (integer z) = refl
one_is texts (float x) = refl
one_is texts (boolean b) = refl
one_is texts (datetime x) = refl
one_is texts (array ds) = refl
one_is texts (table ms) = refl

pub apart_is : (texts others : List (List ℕ)) (d : Data) → is_text (λ text. is_among texts text && not (is_among others text)) (Some d) ≡ (is_one_of texts d && is_apart others d)
apart_is texts others (string text) = refl
apart_is texts others (integer z) = refl
apart_is texts others (float x) = refl
apart_is texts others (boolean b) = refl
apart_is texts others (datetime x) = refl
apart_is texts others (array ds) = refl
apart_is texts others (table ms) = refl

pub name_there : (o : Option Data) → is_text is_name_text o ≡ is_there is_name o
name_there None = refl
name_there (Some d) = name_is d

pub one_there : (texts : List (List ℕ)) (o : Option Data) → is_text (is_among texts) o ≡ is_there (is_one_of texts) o
one_there texts None = refl
one_there texts (Some d) = one_is texts d

-- ---- rules

abbrev pub rule_of : Option Slip → Option ℕ
rule_of s = option_map (λ s. s.rule) s

pub first_rule : (n : ℕ) (slips : List (Option Slip)) → rule_of (first_of n slips) ≡ first_from n (map is_clear slips)
first_rule n [] = refl
first_rule n (None ∷ slips) = first_rule (suc n) slips
first_rule n (Some s ∷ slips) = refl

pub or_rule : (a b : Option Slip) → rule_of (or_slip a b) ≡ or_else (rule_of a) (rule_of b)
or_rule None b = refl
or_rule (Some s) b = refl
