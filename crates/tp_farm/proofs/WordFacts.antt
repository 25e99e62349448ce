-- The words of a line, cut at its first space.
use Rattle.std.proofs.Common.{◌≡◌, ℕ, zero, suc, ◌+◌, ◌-◌, ◌<◌, ◌≤◌, Bool, true, false, not, cond, eqb, ltb, List, [], ◌∷◌, ◌++◌, length, take, Some, None, refl, ap, ◌∙◌, inl, inr, arith}
use Rattle.std.specs.Prelude.{filter}
use Rattle.std.specs.List.{position_or_len}
use Rattle.std.proofs.lemmas.List.{length-append}
use Rattle.std.proofs.lemmas.Bool.{cases_Bool, and_from, and_parts, ltb-false, not-true}
use Rattle.tp_script.specs.Script.{bare, ends_with_byte, without_last, without_return, words_of_line}
use Rattle.tp_words.specs.Parts.{cut_at, is_word, lacks, parts_at}
use Rattle.tp_words.proofs.PartFacts.{cut_takes}

-- ---- what stands at the end of a text that goes on

ends-later : (c a x : ℕ) (xs : List ℕ) → ends_with_byte c (a ∷ x ∷ xs) ≡ ends_with_byte c (x ∷ xs)
ends-later c a x xs =
    let two : suc (suc (length xs)) - 1 ≡ suc (length xs) = omega arith in
    let one : suc (length xs) - 1 ≡ length xs = omega arith in
    rw (two, one) refl

last-later : (a x : ℕ) (xs : List ℕ) → without_last (a ∷ x ∷ xs) ≡ a ∷ without_last (x ∷ xs)
last-later a x xs =
    let two : suc (suc (length xs)) - 1 ≡ suc (length xs) = omega arith in
    let one : suc (length xs) - 1 ≡ length xs = omega arith in
    rw (two, one) refl

ends-behind : (c : ℕ) (front : List ℕ) (x : ℕ) (rest : List ℕ) → ends_with_byte c (front ++ x ∷ rest) ≡ ends_with_byte c (x ∷ rest)
ends-behind c [] x rest = refl
ends-behind c (a ∷ []) x rest = ends-later c a x rest
ends-behind c (a ∷ b ∷ front) x rest = ends-later c a b (front ++ x ∷ rest) ∙ ends-behind c (b ∷ front) x rest

last-behind : (front : List ℕ) (x : ℕ) (rest : List ℕ) → without_last (front ++ x ∷ rest) ≡ front ++ without_last (x ∷ rest)
last-behind [] x rest = refl
last-behind (a ∷ []) x rest = last-later a x rest
last-behind (a ∷ b ∷ front) x rest = last-later a b (front ++ x ∷ rest) ∙ ap (λ t. a ∷ t) (last-behind (b ∷ front) x rest)

-- a byte at the end, other than a space, is taken off behind a space as it is taken off there
module _ (c : ℕ) (other : eqb 32 c ≡ false) where
  ends-space : (front : List ℕ) → ends_with_byte c (front ++ 32 ∷ []) ≡ false
  ends-space front = ends-behind c front 32 [] ∙ other

  ends-after : (front : List ℕ) (x : ℕ) (rest : List ℕ) → ends_with_byte c (front ++ 32 ∷ x ∷ rest) ≡ ends_with_byte c (x ∷ rest)
  ends-after front x rest = ends-behind c front 32 (x ∷ rest) ∙ ends-later c 32 x rest

last-after : (front : List ℕ) (x : ℕ) (rest : List ℕ) → without_last (front ++ 32 ∷ x ∷ rest) ≡ front ++ 32 ∷ without_last (x ∷ rest)
last-after front x rest = last-behind front 32 (x ∷ rest) ∙ ap (λ t. front ++ t) (last-later 32 x rest)

return-behind : (front rest : List ℕ) → without_return (front ++ 32 ∷ rest) ≡ front ++ 32 ∷ without_return rest
return-behind front [] = rw (ends-space 13 refl front) refl
return-behind front (x ∷ rest) = go (ends_with_byte 13 (x ∷ rest)) (ends-after 13 refl front x rest)
  where
    go : (b : Bool) → ends_with_byte 13 (front ++ 32 ∷ x ∷ rest) ≡ b
        → cond (ends_with_byte 13 (front ++ 32 ∷ x ∷ rest)) (without_last (front ++ 32 ∷ x ∷ rest)) (front ++ 32 ∷ x ∷ rest) ≡ front ++ 32 ∷ cond b (without_last (x ∷ rest)) (x ∷ rest)
    go true e = rw e (last-after front x rest)
    go false e = rw e refl

bare-behind : (front rest : List ℕ) → bare (front ++ 32 ∷ rest) ≡ front ++ 32 ∷ bare rest
unfolding bare
bare-behind front [] = rw (ends-space 10 refl front) refl
bare-behind front (x ∷ rest) = go (ends_with_byte 10 (x ∷ rest)) (ends-after 10 refl front x rest)
  where
    go : (b : Bool) → ends_with_byte 10 (front ++ 32 ∷ x ∷ rest) ≡ b
        → cond (ends_with_byte 10 (front ++ 32 ∷ x ∷ rest)) (without_return (without_last (front ++ 32 ∷ x ∷ rest))) (front ++ 32 ∷ x ∷ rest) ≡ front ++ 32 ∷ cond b (without_return (without_last (x ∷ rest))) (x ∷ rest)
    go true e = rw e (ap without_return (last-after front x rest) ∙ return-behind front (without_last (x ∷ rest)))
    go false e = rw e refl

-- ---- the words

parts-behind : (front rest : List ℕ) → lacks 32 front ≡ true → parts_at 32 (front ++ 32 ∷ rest) ≡ front ∷ parts_at 32 rest
parts-behind [] rest h = refl
parts-behind (b ∷ front) rest h =
    let parts = and_parts (not (eqb b 32)) (lacks 32 front) h in
    rw (not-true (eqb b 32) parts.0, parts-behind front rest parts.1) refl

words-behind : (front rest : List ℕ) → lacks 32 front ≡ true → words_of_line (front ++ 32 ∷ rest) ≡ cond (is_word front) (front ∷ words_of_line rest) (words_of_line rest)
words-behind front rest h = ap (λ t. filter is_word (parts_at 32 t)) (bare-behind front rest) ∙ ap (filter is_word) (parts-behind front (bare rest) h)

pub words-cut : (line front rest : List ℕ) → cut_at 32 line ≡ Some (front, rest) → words_of_line line ≡ cond (is_word front) (front ∷ words_of_line rest) (words_of_line rest)
words-cut line front rest e = (let parts = cut_takes 32 line front rest e in ap words_of_line parts.0 ∙ words-behind front rest parts.1)

-- ---- a line without a space

lacks_all : (text : List ℕ) → length text ≤ position_or_len (λ b. eqb b 32) text → lacks 32 text ≡ true
lacks_all [] h = refl
lacks_all (b ∷ text) h =
    elim (cases_Bool (eqb b 32)) [
      | inl e ↦ (let k : length (b ∷ text) ≤ 0 = rw e at h in absurd (omega (arith, k)))
      | inr e ↦ (let k : length (b ∷ text) ≤ 1 + position_or_len (λ b. eqb b 32) text = rw e at h in and_from (not (eqb b 32)) (lacks 32 text) (ap not e) (lacks_all text (omega (arith, k))))
    ]

no_cut : (text : List ℕ) → cut_at 32 text ≡ None → lacks 32 text ≡ true
no_cut text e =
    let p = position_or_len (λ b. eqb b 32) text in
    elim (cases_Bool (ltb p (length text))) [
      | inl inside ↦ (let k = rw inside at e in absurd cc)
      | inr past ↦ lacks_all text (ltb-false p (length text) past)
    ]

lacks-take : (n : ℕ) (text : List ℕ) → lacks 32 text ≡ true → lacks 32 (take n text) ≡ true
lacks-take zero text h = refl
lacks-take (suc n) [] h = refl
lacks-take (suc n) (b ∷ text) h =
    let parts = and_parts (not (eqb b 32)) (lacks 32 text) h in
    and_from (not (eqb b 32)) (lacks 32 (take n text)) parts.0 (lacks-take n text parts.1)

lacks-return : (text : List ℕ) → lacks 32 text ≡ true → lacks 32 (without_return text) ≡ true
lacks-return text h = go (ends_with_byte 13 text)
  where
    go : (b : Bool) → lacks 32 (cond b (without_last text) text) ≡ true
    go true = lacks-take (length text - 1) text h
    go false = h

lacks-bare : (text : List ℕ) → lacks 32 text ≡ true → lacks 32 (bare text) ≡ true
unfolding bare
lacks-bare text h = go (ends_with_byte 10 text)
  where
    go : (b : Bool) → lacks 32 (cond b (without_return (without_last text)) text) ≡ true
    go true = lacks-return (without_last text) (lacks-take (length text - 1) text h)
    go false = h

parts-one : (text : List ℕ) → lacks 32 text ≡ true → parts_at 32 text ≡ text ∷ []
parts-one [] h = refl
parts-one (b ∷ text) h =
    let parts = and_parts (not (eqb b 32)) (lacks 32 text) h in
    rw (not-true (eqb b 32) parts.0, parts-one text parts.1) refl

pub words-last : (line : List ℕ) → cut_at 32 line ≡ None → length (words_of_line line) ≤ 1
words-last line e = rw (parts-one (bare line) (lacks-bare line (no_cut line e))) (one (bare line) (is_word (bare line)))
  where
    one : (word : List ℕ) (b : Bool) → length (cond b (word ∷ []) []) ≤ 1
    one word true = omega arith
    one word false = omega arith

-- ---- a cut, by whether a word stands before it
module _ (line front rest : List ℕ) (e : cut_at 32 line ≡ Some (front, rest)) where
  pub words-found : eqb (length front) 0 ≡ false → words_of_line line ≡ front ∷ words_of_line rest
  words-found some = words-cut line front rest e ∙ ap (λ b. cond (not b) (front ∷ words_of_line rest) (words_of_line rest)) some

  pub words-skip : eqb (length front) 0 ≡ true → words_of_line line ≡ words_of_line rest
  words-skip none = words-cut line front rest e ∙ ap (λ b. cond (not b) (front ∷ words_of_line rest) (words_of_line rest)) none

  pub cut-shorter : length rest < length line
  cut-shorter = (let parts = cut_takes 32 line front rest e in let whole = ap length parts.0 in omega (arith, whole, length-append front (32 ∷ rest)))
