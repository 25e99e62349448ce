-- Lines with numbers before them.
use Rattle.std.proofs.Common.{◌≡◌, inl, inr, ℕ, ◌+◌, ◌<◌, Bool, true, false, not, ◌&&◌, cond, eqb, List, [], ◌∷◌, ◌++◌, length, refl, sym, ap, ap₂, ◌∙◌, append_assoc, arith}
use Rattle.std.specs.List.{AllByRecursion, flat_map}
use Rattle.std.proofs.lemmas.Bool.{cases_Bool, and_from, eq-eqb, eqb-true, ne_eqb}
use Rattle.std.proofs.lemmas.List.Concat.{flat_map-cons}
use Rattle.tp_words.specs.Parts.{lacks}
use Rattle.tp_words.specs.Texts.{lines_of, onto_line}
use Rattle.tp_words.proofs.Texts.{lines_at}
use Rattle.tp_stream.specs.Takes.{ends_whole}
use Rattle.tp_stream.proofs.Lines.{some_line}
use Rattle.tp_farm.specs.Numbered.{digit_of, numbered, told_by, without_digit}

-- the first line with its number, and then the others
pub numbered-first : (number : ℕ) (text line more : List ℕ) → lines_of text ≡ line ∷ lines_of more → numbered number text ≡ (digit_of number ++ line) ++ numbered number more
numbered-first number text line more e = ap (flat_map (λ l. digit_of number ++ l)) e ∙ flat_map-cons (λ l. digit_of number ++ l) line (lines_of more)

pub put-first : (number : ℕ) (out out' text line more all : List ℕ) → lines_of text ≡ line ∷ lines_of more → out' ≡ ((out ++ (48 + number) ∷ []) ++ 32 ∷ []) ++ line → out ++ numbered number text ≡ all
    → out' ++ numbered number more ≡ all
put-first number out out' text line more all e put whole =
    let regroup : (((out ++ (48 + number) ∷ []) ++ 32 ∷ []) ++ line) ++ numbered number more ≡ out ++ ((digit_of number ++ line) ++ numbered number more) = simp append_assoc in
    ap (λ t. t ++ numbered number more) put ∙ regroup ∙ ap (λ t. out ++ t) (sym (numbered-first number text line more e)) ∙ whole

-- ---- whole lines

record IsLine (line : List ℕ) : Type 0 where
  body : List ℕ
  ends : line ≡ body ++ 10 ∷ []
  one : lacks 10 body ≡ true

onto-lines : (b : ℕ) (lines : List (List ℕ)) → 0 < length lines → eqb b 10 ≡ false → AllByRecursion IsLine lines → AllByRecursion IsLine (onto_line b lines)
onto-lines b [] some e h = absurd (omega (arith, some))
onto-lines b (line ∷ lines) some e (h, hs) =
    (record { body = b ∷ h.body; ends = ap (λ t. b ∷ t) h.ends; one = and_from (not (eqb b 10)) (lacks 10 h.body) (ap not e) h.one }, hs)

whole-lines : (text : List ℕ) → ends_whole text ≡ true → AllByRecursion IsLine (lines_of text)
whole-lines [] h = tt
whole-lines (b ∷ []) h = rw h (record { body = []; ends = refl; one = refl }, tt)
whole-lines (b ∷ c ∷ text) h = go (eqb b 10) refl (whole-lines (c ∷ text) h)
  where
    go : (x : Bool) → eqb b 10 ≡ x → AllByRecursion IsLine (lines_of (c ∷ text)) → AllByRecursion IsLine (cond x ((10 ∷ []) ∷ lines_of (c ∷ text)) (onto_line b (lines_of (c ∷ text))))
    go true e ih = (record { body = []; ends = refl; one = refl }, ih)
    go false e ih = onto-lines b (lines_of (c ∷ text)) (some_line c text) e ih

onto-join : (b : ℕ) (lines : List (List ℕ)) → flat_map (λ l. l) (onto_line b lines) ≡ b ∷ flat_map (λ l. l) lines
onto-join b [] = refl
onto-join b (line ∷ lines) = refl

lines-join : (text : List ℕ) → flat_map (λ l. l) (lines_of text) ≡ text
lines-join [] = refl
lines-join (b ∷ text) = go (eqb b 10) refl (lines-join text)
  where
    go : (x : Bool) → eqb b 10 ≡ x → flat_map (λ l. l) (lines_of text) ≡ text → flat_map (λ l. l) (cond x ((10 ∷ []) ∷ lines_of text) (onto_line b (lines_of text))) ≡ b ∷ text
    go true e ih = ap₂ (λ a t. a ∷ t) (sym (eqb-true b 10 e)) ih
    go false e ih = onto-join b (lines_of text) ∙ ap (λ t. b ∷ t) ih

-- ---- the lines of one machine among those of others

digit-line : (number : ℕ) (body rest : List ℕ) → lacks 10 body ≡ true
    → lines_of ((digit_of number ++ body) ++ 10 ∷ rest) ≡ ((digit_of number ++ body) ++ 10 ∷ []) ∷ lines_of rest
digit-line number body rest h =
    let digit : eqb (48 + number) 10 ≡ false = ne_eqb (48 + number) 10 (λ e. omega (arith, e)) in
    lines_at (digit_of number ++ body) rest (and_from (not (eqb (48 + number) 10)) (lacks 10 (32 ∷ body)) (ap not digit) h)

same-digit : (number other : ℕ) → eqb (48 + other) (48 + number) ≡ eqb other number
same-digit number other =
    elim (cases_Bool (eqb other number)) [
      | inl e ↦ eq-eqb (48 + other) (48 + number) (ap (λ n. 48 + n) (eqb-true other number e)) ∙ sym e
      | inr e ↦ ne_eqb (48 + other) (48 + number) (λ same. (let is : other ≡ number = omega (arith, same) in no_both (eq-eqb other number is) e)) ∙ sym e
    ]
  where
    no_both : {b : Bool} → b ≡ true → b ≡ false → ⊥
    no_both is is_not = absurd cc

own-line : (number other : ℕ) (line : List ℕ) → without_digit number (digit_of other ++ line) ≡ cond (eqb other number) line []
own-line number other line = rw (same-digit number other) (go (eqb other number))
  where
    go : (b : Bool) → cond (b && eqb 32 32) line [] ≡ cond b line []
    go true = refl
    go false = refl

told-lines : (number other : ℕ) (lines : List (List ℕ)) (rest : List ℕ) → AllByRecursion IsLine lines
    → told_by number (flat_map (λ l. digit_of other ++ l) lines ++ rest) ≡ cond (eqb other number) (flat_map (λ l. l) lines) [] ++ told_by number rest
told-lines number other [] rest h = none (eqb other number)
  where
    none : (b : Bool) → told_by number rest ≡ cond b [] [] ++ told_by number rest
    none true = refl
    none false = refl
told-lines number other (line ∷ lines) rest (h, hs) =
    let more = flat_map (λ l. digit_of other ++ l) lines ++ rest in
    let first : (flat_map (λ l. digit_of other ++ l) (line ∷ lines)) ++ rest ≡ (digit_of other ++ h.body) ++ 10 ∷ more =
    ap (λ l. ((digit_of other ++ l) ++ flat_map (λ l. digit_of other ++ l) lines) ++ rest) h.ends ∙ regroup (digit_of other) h.body (flat_map (λ l. digit_of other ++ l) lines) rest in
    let parted : lines_of ((digit_of other ++ h.body) ++ 10 ∷ more) ≡ (digit_of other ++ line) ∷ lines_of more =
    digit-line other h.body more h.one ∙ ap (λ l. l ∷ lines_of more) (append_assoc (digit_of other) h.body (10 ∷ []) ∙ ap (λ l. digit_of other ++ l) (sym h.ends)) in
    ap (told_by number) first ∙ ap (flat_map (without_digit number)) parted
    ∙ ap₂ (λ a b. a ++ b) (own-line number other line) (told-lines number other lines rest hs)
    ∙ join (eqb other number) line (flat_map (λ l. l) lines) (told_by number rest)
  where
    regroup : (a b c d : List ℕ) → ((a ++ (b ++ 10 ∷ [])) ++ c) ++ d ≡ (a ++ b) ++ 10 ∷ (c ++ d)
    regroup a b c d = simp append_assoc

    join : (x : Bool) (a b c : List ℕ) → cond x a [] ++ (cond x b [] ++ c) ≡ cond x (a ++ b) [] ++ c
    join true a b c = sym (append_assoc a b c)
    join false a b c = refl

-- what a machine told is found again, and nothing of another's
pub told-own : (number : ℕ) (text rest : List ℕ) → ends_whole text ≡ true → told_by number (numbered number text ++ rest) ≡ text ++ told_by number rest
told-own number text rest whole =
    let found = told-lines number number (lines_of text) rest (whole-lines text whole) in
    let same = eq-eqb number number refl in
    found ∙ rw same (ap (λ t. t ++ told_by number rest) (lines-join text))

pub told-other : (number other : ℕ) (text rest : List ℕ) → ends_whole text ≡ true → (other ≡ number → ⊥) → told_by number (numbered other text ++ rest) ≡ told_by number rest
told-other number other text rest whole apart =
    let found = told-lines number other (lines_of text) rest (whole-lines text whole) in
    let differ = ne_eqb other number apart in
    found ∙ rw differ refl
