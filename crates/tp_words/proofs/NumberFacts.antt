-- What digits write, and back.
use Rattle.std.proofs.Common.{inl, inr, Some, None, cond, leb, decimal, ltb, ◌≡◌, ℕ, ◌+◌, ◌-◌, ◌*◌, ◌^◌, ◌<◌, ◌≤◌, Bool, true, false, List, length, get_or, take, IsTrue, refl, sym, ap, subst, ◌∙◌, rules, arith}
use Rattle.std.specs.List.{list_all}
use Rattle.std.specs.Char.{is_ascii_digit}
use Rattle.std.specs.Int.{IsInRange}
use Rattle.std.specs.Str.Parse.{digits_value}
use Rattle.std.proofs.lemmas.Str.Parse.{IsNumeralModel, IsDigitsTest, numerals_by_value, digit_at, digits_value_short, digits_value-take-le}
use Rattle.std.proofs.lemmas.Int.Digits.{digits_value_more}
use Rattle.std.proofs.lemmas.Bool.{le-leb, and_parts, ltb-true, lt-ltb, leb-true, cases_lt}
use Rattle.std.proofs.lemmas.Fmt.{decimal_nonempty, length-decimal-le, digits_decimal, digits_value-decimal, first_decimal, decimal-digits_value, decimal_digit}
use Rattle.tp_words.specs.Numbers.{is_digits, has_leading_zero, digits_of, number_of}
use Rattle.std.proofs.lemmas.Bool.Decides.{nat_tests}
use Rattle.std.proofs.lemmas.Option.{cond_some}
use Rattle.tp_words.proofs.Steps.{unless_some, and_then_some}
use Rattle.std.specs.Prelude.{option_and_then}
use Rattle.std.proofs.lemmas.Str.{digit_value_digit}

tells : IsDigitsTest (λ ds. list_all is_ascii_digit ds ≡ true)
tells = search rules

pub own : IsNumeralModel (λ ds. list_all is_ascii_digit ds ≡ true) (digits_value 10)
own = numerals_by_value (λ ds. list_all is_ascii_digit ds ≡ true) tells

pub digit_in : (text : List ℕ) (i : ℕ) → list_all is_ascii_digit text ≡ true → i < length text → IsInRange 48 57 (get_or text i 0)
digit_in text i digits lt = digit_at text i (own.to text digits) lt

pub value-more : (text : List ℕ) (i : ℕ) → list_all is_ascii_digit text ≡ true → i < length text → digits_value 10 (take (i + 1) text) ≡ digits_value 10 (take i text) * 10 + (get_or text i 0 - 48)
value-more text i digits lt =
    let r = digit_in text i digits lt in
    omega (arith, digits_value_more 10 text i lt, digit_value_digit (get_or text i 0) r)

pub value_below : (text : List ℕ) (i : ℕ) → list_all is_ascii_digit text ≡ true → length text ≤ 10 → digits_value 10 (take i text) < 10 ^ 10
value_below text i digits short =
    let whole : digits_value 10 text < 10 ^ 10 = digits_value_short own text 10 digits short in
    omega (arith, digits_value-take-le 10 text i (omega arith))

pub is_true : {b : Bool} → IsTrue b → b ≡ true
is_true h = search rules

pub digits_take : (most : ℕ) (text : List ℕ) (n : ℕ) → digits_of most text ≡ Some n → (is_digits most text ≡ true) × (digits_value 10 text ≡ n)
unfolding digits_of
digits_take most text n e = cond_some (is_digits most text) (digits_value 10 text) n e

pub digits_again : (most n : ℕ) → 0 < most → n < 10 ^ most → n < 2 ^ 64 → digits_of most (decimal n) ≡ Some n
unfolding digits_of
digits_again most n pos lt small =
    let long : leb 1 (length (decimal n)) ≡ true = le-leb _ _ (decimal_nonempty n small) in
    let short : leb (length (decimal n)) most ≡ true = le-leb _ _ (length-decimal-le most n pos lt small) in
    rw (long, short, digits_decimal own n small, digits_value-decimal own n small) refl

pub number_takes : (text : List ℕ) (n : ℕ) → number_of text ≡ Some n → (text ≡ decimal n) × (n < 2 ^ 32)
unfolding number_of
number_takes text n e =
    let a = unless_some (has_leading_zero text) (option_and_then (λ n. cond (ltb n (2 ^ 32)) (Some n) None) (digits_of 10 text)) n e in
    let b = and_then_some (digits_of 10 text) (λ n. cond (ltb n (2 ^ 32)) (Some n) None) n a.1 in
    let d = digits_take 10 text b.0 b.1 in
    let g = cond_some (ltb b.0 (2 ^ 32)) b.0 n b.2 in
    let small : b.0 < 2 ^ 32 = ltb-true _ _ g.0 in
    let long = and_parts (leb 1 (length text)) (leb (length text) 10) (and_parts _ _ d.0).0 in
    let plain : get_or text 0 0 ≡ 48 → length text ≡ 1 = λ z. grind (arith, nat_tests) in
    let is : decimal (digits_value 10 text) ≡ text = decimal-digits_value own text (and_parts _ _ d.0).1 (leb-true _ _ long.0) plain (omega (arith, d.1)) in
    (sym is ∙ ap decimal (d.1 ∙ g.1), (let below : n < 2 ^ 32 = subst (λ k. k < 2 ^ 32) g.1 small in below))

decimal_plain : (n : ℕ) → n < 2 ^ 32 → has_leading_zero (decimal n) ≡ false
decimal_plain n lt =
    elim (cases_lt n 10) [
      | inl small ↦ rw (decimal_digit n small) refl
      | inr big ↦ (let first = first_decimal n (omega arith) (omega arith) in grind (arith, nat_tests))
    ]

pub number_again : (n : ℕ) → n < 2 ^ 32 → number_of (decimal n) ≡ Some n
unfolding number_of
number_again n lt =
    let plain : has_leading_zero (decimal n) ≡ false = decimal_plain n lt in
    rw (plain, digits_again 10 n (omega arith) (omega arith) (omega arith), lt-ltb n (2 ^ 32) lt) refl
