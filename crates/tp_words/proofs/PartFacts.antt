-- A text is its parts, and its parts are it.
use Rattle.std.proofs.Common.{inl, inr, ◌≡◌, ℕ, suc, ◌+◌, ◌≤◌, Bool, true, false, not, eqb, ltb, List, [], ◌∷◌, ◌++◌, length, get_or, take, drop, Some, None, refl, ap, subst, ◌∙◌, arith}
use Rattle.std.specs.Prelude.{filter}
use Rattle.std.specs.List.{list_all, join_with_byte, position_or_len, before_first, after_first, AllByRecursion}
use Rattle.std.proofs.lemmas.Bool.{cases_Bool, and_parts, and_from, eqb-true, eq-eqb, ltb-true, lt-ltb, le-ltb, ne_eqb, not-true}
use Rattle.std.proofs.lemmas.List.{take_at, drop_at, length-append, drop-drop}
use Rattle.std.proofs.lemmas.Option.{cond_some}
use Rattle.std.proofs.lemmas.List.Splits.{join_with_byte-slice_split, length-slice_split}
use Rattle.std.proofs.lemmas.List.Sums.{split_at_first, passes_at_first, length-filter, count_by-le-length}
use Rattle.tp_words.specs.Parts.{parts_at, words_in, is_word, cut_at, lacks}

-- the bytes that a test lets through lack one that it doesn't
pub lacks_from : (p : ℕ → Bool) (c : ℕ) (text : List ℕ) → p c ≡ false → list_all p text ≡ true → lacks c text ≡ true
lacks_from p c [] not_c all = refl
lacks_from p c (b ∷ text) not_c all =
    let parts = and_parts (p b) (list_all p text) all in
    let other : eqb b c ≡ false = ne_eqb b c (λ e. (let both : p c ≡ true = subst (λ x. p x ≡ true) e parts.0 in cc)) in
    and_from (not (eqb b c)) (lacks c text) (ap not other) (lacks_from p c text not_c parts.1)

pub lacks-append : (c : ℕ) (xs ys : List ℕ) → lacks c xs ≡ true → lacks c ys ≡ true → lacks c (xs ++ ys) ≡ true
lacks-append c [] ys h k = k
lacks-append c (x ∷ xs) ys h k =
    let parts = and_parts (not (eqb x c)) (lacks c xs) h in
    and_from (not (eqb x c)) (lacks c (xs ++ ys)) parts.0 (lacks-append c xs ys parts.1 k)

slice_split-lacks : (c : ℕ) (text : List ℕ) → lacks c text ≡ true → parts_at c text ≡ text ∷ []
slice_split-lacks c [] h = refl
slice_split-lacks c (b ∷ text) h =
    let parts = and_parts (not (eqb b c)) (lacks c text) h in
    rw (not-true (eqb b c) parts.0, slice_split-lacks c text parts.1) refl

slice_split-before : (c : ℕ) (text rest : List ℕ) → lacks c text ≡ true → parts_at c (text ++ c ∷ rest) ≡ text ∷ parts_at c rest
slice_split-before c [] rest h = rw (eq-eqb c c refl) refl
slice_split-before c (b ∷ text) rest h =
    let parts = and_parts (not (eqb b c)) (lacks c text) h in
    rw (not-true (eqb b c) parts.0, slice_split-before c text rest parts.1) refl

-- each lacks c
abbrev pub AllLack : ℕ → List (List ℕ) → Type 0
AllLack c texts = AllByRecursion (λ text. lacks c text ≡ true) texts

pub join-parts : (c : ℕ) (text : List ℕ) → join_with_byte c (parts_at c text) ≡ text
join-parts c text = join_with_byte-slice_split c text

-- one word or more, each without c: joined by c and parted again they are the same
pub parts-join : (c : ℕ) (first : List ℕ) (others : List (List ℕ)) → lacks c first ≡ true → AllLack c others → parts_at c (join_with_byte c (first ∷ others)) ≡ first ∷ others
parts-join c first [] h k = slice_split-lacks c first h
parts-join c first (second ∷ others) h k =
    slice_split-before c first (join_with_byte c (second ∷ others)) h ∙ ap (λ x. first ∷ x) (parts-join c second others k.0 k.1)

-- a word: not empty, without a space
pub record IsWord (text : List ℕ) : Type 0 where
  pub filled : is_word text ≡ true
  pub spaceless : lacks 32 text ≡ true

abbrev pub AllWords : List (List ℕ) → Type 0
AllWords texts = AllByRecursion IsWord texts

AllLack-words : (texts : List (List ℕ)) → AllWords texts → AllLack 32 texts
AllLack-words [] h = tt
AllLack-words (x ∷ xs) h = (h.0.spaceless, AllLack-words xs h.1)

filter-words : (texts : List (List ℕ)) → AllWords texts → filter is_word texts ≡ texts
filter-words [] h = refl
filter-words (x ∷ xs) h = rw (h.0.filled, filter-words xs h.1) refl

pub words-join : (texts : List (List ℕ)) → AllWords texts → words_in (join_with_byte 32 texts) ≡ texts
words-join [] h = refl
words-join (x ∷ xs) h = ap (filter is_word) (parts-join 32 x xs h.0.spaceless (AllLack-words xs h.1)) ∙ filter-words (x ∷ xs) h

-- cut at the first c
position-at : (c : ℕ) (text rest : List ℕ) → lacks c text ≡ true → position_or_len (λ b. eqb b c) (text ++ c ∷ rest) ≡ length text
position-at c [] rest h = rw (eq-eqb c c refl) refl
position-at c (b ∷ text) rest h =
    let parts = and_parts (not (eqb b c)) (lacks c text) h in
    rw (not-true (eqb b c) parts.0, position-at c text rest parts.1) (omega arith)

pub cut_again : (c : ℕ) (text rest : List ℕ) → lacks c text ≡ true → cut_at c (text ++ c ∷ rest) ≡ Some (text, rest)
cut_again c text rest h =
    let at = position-at c text rest h in
    let inside : ltb (length text) (length (text ++ c ∷ rest)) ≡ true = lt-ltb _ _ (omega (arith, length-append text (c ∷ rest))) in
    let front : take (length text) (text ++ c ∷ rest) ≡ text = take_at text (c ∷ rest) (length text) refl in
    let after : drop (length text + 1) (text ++ c ∷ rest) ≡ rest = rw (← drop-drop 1 (length text) (text ++ c ∷ rest)) (ap (λ x. drop 1 x) (drop_at text (c ∷ rest) (length text) refl)) in
    rw (at, inside, front, after) refl

before_lacks : (c : ℕ) (text : List ℕ) → lacks c (take (position_or_len (λ b. eqb b c) text) text) ≡ true
before_lacks c [] = refl
before_lacks c (b ∷ text) =
    elim (cases_Bool (eqb b c)) [
      | inl e ↦ rw e refl
      | inr e ↦
          let one : 1 + position_or_len (λ b. eqb b c) text ≡ suc (position_or_len (λ b. eqb b c) text) = omega arith in
          rw (e, one, e) (before_lacks c text)
    ]

-- what the two sides of the first c are
pub cut_takes : (c : ℕ) (text front rest : List ℕ) → cut_at c text ≡ Some (front, rest) → (text ≡ front ++ c ∷ rest) × (lacks c front ≡ true)
cut_takes c text front rest e =
    let p = position_or_len (λ b. eqb b c) text in
    let g = cond_some (ltb p (length text)) (before_first (λ b. eqb b c) text, after_first (λ b. eqb b c) text) (front, rest) e in
    let inside = ltb-true p (length text) g.0 in
    let found : get_or text p 0 ≡ c = eqb-true _ _ (passes_at_first (λ b. eqb b c) text 0 inside) in
    let whole = split_at_first (λ b. eqb b c) text 0 inside in
    let front-is : before_first (λ b. eqb b c) text ≡ front = ap (λ (x : List ℕ × List ℕ). x.0) g.1 in
    let rest-is : after_first (λ b. eqb b c) text ≡ rest = ap (λ (x : List ℕ × List ℕ). x.1) g.1 in
    (whole ∙ rw (found, front-is, rest-is) refl, rw (← front-is) (before_lacks c text))

position-none : (c : ℕ) (text : List ℕ) → lacks c text ≡ true → position_or_len (λ b. eqb b c) text ≡ length text
position-none c [] h = refl
position-none c (b ∷ text) h =
    let parts = and_parts (not (eqb b c)) (lacks c text) h in
    rw (not-true (eqb b c) parts.0, position-none c text parts.1) (omega arith)

pub cut_none : (c : ℕ) (text : List ℕ) → lacks c text ≡ true → cut_at c text ≡ None
cut_none c text h = rw (position-none c text h, le-ltb (length text) (length text) (omega arith)) refl

-- a text has at most one word more than bytes
pub length-words_in : (text : List ℕ) → length (words_in text) ≤ length text + 1
length-words_in text =
    omega (arith, length-filter is_word (parts_at 32 text), count_by-le-length is_word (parts_at 32 text), length-slice_split (λ b. eqb b 32) text, count_by-le-length (λ b. eqb b 32) text)
