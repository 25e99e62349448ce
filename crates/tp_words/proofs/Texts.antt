-- The lines of a text, and the words of a line.
use Rattle.std.proofs.Common.{◌≡◌, inl, inr, ℕ, zero, suc, ◌+◌, ◌<◌, ◌≤◌, ◌^◌, Bool, true, false, not, ◌&&◌, eqb, ltb, List, [], ◌∷◌, ◌++◌, length, take, drop, Option, Some, None, refl, sym, ap, subst, ◌∙◌, append_assoc, arith, decimal}
use Rattle.std.specs.List.{All, AllByRecursion, join_with_byte, list_all, position_or_len}
use Rattle.std.proofs.lemmas.Bool.{cases_Bool, and_parts, and_from, not-true, ltb-false, eqb-true, ne_eqb}
use Rattle.std.proofs.lemmas.List.{append-nil, length-append, take_at, drop_at, drop_all, take_all}
use Rattle.std.proofs.lemmas.List.Elements.{All-nil}
use Rattle.std.proofs.lemmas.List.Splits.{length-slice_split}
use Rattle.std.proofs.lemmas.List.Sums.{count_by-le-length}
use Rattle.tp_words.specs.Fields.{IsName}
use Rattle.tp_words.specs.Numbers.{IsNumber}
use Rattle.tp_words.specs.Parts.{cut_at, lacks, parts_at}
use Rattle.tp_words.proofs.PartFacts.{AllLack, cut_takes, join-parts, lacks_from, lacks-append, parts-join}
use Rattle.tp_words.proofs.SpelledWords.{Spells, name_spells, number_spells, weaker}
use Rattle.tp_words.specs.Texts.{lines_of, onto_line, spaced}

-- ---- words have neither a space nor a line end in them
abbrev pub is_visible : ℕ → Bool
is_visible b = not (eqb b 10) && not (eqb b 32)

abbrev pub IsVisible : List ℕ → Type 0
IsVisible text = list_all is_visible text ≡ true

abbrev pub AllVisible : List (List ℕ) → Type 0
AllVisible words = AllByRecursion IsVisible words

other_byte : (p : ℕ → Bool) (b c : ℕ) → p c ≡ false → p b ≡ true → not (eqb b c) ≡ true
other_byte p b c outside h = ap not (ne_eqb b c (λ e. (let both : p c ≡ true = subst (λ x. p x ≡ true) e h in cc)))

pub visible : {X : Type 0} {read : List ℕ → Option X} {text : X → List ℕ} {Fits : X → Type 0} {byte : ℕ → Bool} → Spells read text Fits byte → byte 10 ≡ false → byte 32 ≡ false → (x : X) → Fits x → IsVisible (text x)
visible {text = text} {byte = byte} s no_end no_space x fits = weaker byte is_visible (λ b h. and_from (not (eqb b 10)) (not (eqb b 32)) (other_byte byte b 10 no_end h) (other_byte byte b 32 no_space h)) (text x) (s.bytes x fits)

pub name_visible : (name : List ℕ) → IsName name → IsVisible name
name_visible = visible name_spells refl refl

pub number_visible : (n : ℕ) → IsNumber n → IsVisible (decimal n)
number_visible = visible number_spells refl refl

all_lack : (c : ℕ) → is_visible c ≡ false → (words : List (List ℕ)) → AllVisible words → AllLack c words
all_lack c outside [] h = tt
all_lack c outside (w ∷ ws) h = (lacks_from is_visible c w outside h.0, all_lack c outside ws h.1)

pub visible-append : (words more : List (List ℕ)) → AllVisible words → AllVisible more → AllVisible (words ++ more)
visible-append [] more h k = k
visible-append (w ∷ ws) more h k = (h.0, visible-append ws more h.1 k)

-- ---- the words of a line
pub spaced-join : (texts : List (List ℕ)) → spaced texts ≡ join_with_byte 32 texts
spaced-join [] = refl
spaced-join (x ∷ []) = append-nil x
spaced-join (x ∷ y ∷ ys) = ap (λ t. x ++ 32 ∷ t) (spaced-join (y ∷ ys))

pub parts-spaced : (words : List (List ℕ)) → 0 < length words → AllVisible words → parts_at 32 (spaced words) ≡ words
parts-spaced [] some h = absurd (omega arith)
parts-spaced (w ∷ ws) some h = ap (parts_at 32) (spaced-join (w ∷ ws)) ∙ parts-join 32 w ws (lacks_from is_visible 32 w refl h.0) (all_lack 32 refl ws h.1)

pub spaced-parts : (text : List ℕ) → spaced (parts_at 32 text) ≡ text
spaced-parts text = spaced-join (parts_at 32 text) ∙ join-parts 32 text

join_lacks : (words : List (List ℕ)) → AllLack 10 words → lacks 10 (join_with_byte 32 words) ≡ true
join_lacks [] h = refl
join_lacks (x ∷ []) h = h.0
join_lacks (x ∷ y ∷ ys) h = lacks-append 10 x (32 ∷ join_with_byte 32 (y ∷ ys)) h.0 (join_lacks (y ∷ ys) h.1)

pub spaced_lacks : (words : List (List ℕ)) → AllVisible words → lacks 10 (spaced words) ≡ true
spaced_lacks words h = rw (spaced-join words) (join_lacks words (all_lack 10 refl words h))

-- a text has at most one part more than bytes
pub length-parts : (text : List ℕ) → length (parts_at 32 text) ≤ length text + 1
length-parts text = omega (arith, length-slice_split (λ b. eqb b 32) text, count_by-le-length (λ b. eqb b 32) text)

-- ---- the lines of a text, one after the other
pub lines_at : (line rest : List ℕ) → lacks 10 line ≡ true → lines_of (line ++ 10 ∷ rest) ≡ (line ++ 10 ∷ []) ∷ lines_of rest
lines_at [] rest h = refl
lines_at (b ∷ line) rest h =
    let parts = and_parts (not (eqb b 10)) (lacks 10 line) h in
    rw (not-true (eqb b 10) parts.0, lines_at line rest parts.1) refl

lines_last : (text : List ℕ) → 0 < length text → lacks 10 text ≡ true → lines_of text ≡ text ∷ []
lines_last [] some h = absurd (omega arith)
lines_last (b ∷ []) some h = (let parts = and_parts (not (eqb b 10)) true h in rw (not-true (eqb b 10) parts.0) refl)
lines_last (b ∷ c ∷ text) some h =
    let parts = and_parts (not (eqb b 10)) (lacks 10 (c ∷ text)) h in
    rw (not-true (eqb b 10) parts.0, lines_last (c ∷ text) (omega arith) parts.1) refl

pub lines_cut : (text line rest : List ℕ) → cut_at 10 text ≡ Some (line, rest) → lines_of text ≡ take (length line + 1) text ∷ lines_of (drop (length line + 1) text)
lines_cut text line rest e =
    let k = cut_takes 10 text line rest e in
    let grouped : text ≡ (line ++ 10 ∷ []) ++ rest = k.0 ∙ sym (append_assoc line (10 ∷ []) rest) in
    let long : length line + 1 ≡ length (line ++ 10 ∷ []) = omega (arith, length-append line (10 ∷ [])) in
    let first : take (length line + 1) text ≡ line ++ 10 ∷ [] = ap (λ n. take n text) long ∙ ap (take (length (line ++ 10 ∷ []))) grouped ∙ take_at (line ++ 10 ∷ []) rest (length (line ++ 10 ∷ [])) refl in
    let others : drop (length line + 1) text ≡ rest = ap (λ n. drop n text) long ∙ ap (drop (length (line ++ 10 ∷ []))) grouped ∙ drop_at (line ++ 10 ∷ []) rest (length (line ++ 10 ∷ [])) refl in
    ap lines_of k.0 ∙ lines_at line rest k.1 ∙ ap (λ l. l ∷ lines_of rest) (sym first) ∙ ap (λ r. take (length line + 1) text ∷ lines_of r) (sym others)

lacks_all : (c : ℕ) (text : List ℕ) → length text ≤ position_or_len (λ b. eqb b c) text → lacks c text ≡ true
lacks_all c [] h = refl
lacks_all c (b ∷ text) h =
    elim (cases_Bool (eqb b c)) [
      | inl e ↦ (let k : length (b ∷ text) ≤ 0 = rw e at h in absurd (omega (arith, k)))
      | inr e ↦ (let k : length (b ∷ text) ≤ 1 + position_or_len (λ b. eqb b c) text = rw e at h in and_from (not (eqb b c)) (lacks c text) (ap not e) (lacks_all c text (omega (arith, k))))
    ]

no_cut : (text : List ℕ) → cut_at 10 text ≡ None → lacks 10 text ≡ true
no_cut text e =
    let p = position_or_len (λ b. eqb b 10) text in
    elim (cases_Bool (ltb p (length text))) [
      | inl inside ↦ (let k = rw inside at e in no_some k)
      | inr past ↦ lacks_all 10 text (ltb-false p (length text) past)
    ]
  where
    no_some : {X : Type 0} {x : X} {P : Type 0} → Some x ≡ None → P
    no_some e = absurd cc

pub lines_uncut : (text : List ℕ) → 0 < length text → cut_at 10 text ≡ None → lines_of text ≡ take (length text) text ∷ lines_of (drop (length text) text)
lines_uncut text some e = rw (take_all (length text) text (omega arith), drop_all (length text) text (omega arith)) (lines_last text some (no_cut text e))

-- a text of which nothing is left
pub nothing_left : (text told rest : List ℕ) → text ≡ told ++ rest → eqb (length rest) 0 ≡ true → text ≡ told
nothing_left text told [] whole none = whole ∙ append-nil told
nothing_left text told (b ∷ rest) whole none = absurd (let k = eqb-true (length (b ∷ rest)) 0 none in omega (arith, k))

-- ---- no line is longer than the text
onto_le : (b : ℕ) (lines : List (List ℕ)) (n : ℕ) → All (λ line. length line ≤ n) lines → All (λ line. length line ≤ n + 1) (onto_line b lines)
onto_le b [] n h zero d lt = omega arith
onto_le b [] n h (suc k) d lt = absurd (omega (arith, lt))
onto_le b (line ∷ lines) n h zero d lt = (let first = h 0 d (omega arith) in omega (arith, first))
onto_le b (line ∷ lines) n h (suc k) d lt = (let later = h (suc k) d lt in omega (arith, later))

lines_le : (text : List ℕ) → All (λ line. length line ≤ length text) (lines_of text)
lines_le [] = All-nil (λ line. length line ≤ 0)
lines_le (b ∷ text) =
    elim (cases_Bool (eqb b 10)) [
      | inl e ↦ rw e (ended text (lines_le text))
      | inr e ↦ (let longer = onto_le b (lines_of text) (length text) (lines_le text) in rw e (λ k d lt. (let h = longer k d lt in omega (arith, h))))
    ]
  where
    ended : (text : List ℕ) → All (λ line. length line ≤ length text) (lines_of text) → All (λ line. length line ≤ length (10 ∷ text)) ((10 ∷ []) ∷ lines_of text)
    ended text h zero d lt = omega arith
    ended text h (suc k) d lt = (let later = h k d (omega (arith, lt)) in omega (arith, later))

-- the lines of a text that is not too long are not too long
pub short_lines : (text : List ℕ) → length text + 1 < 2 ^ 32 → All (λ line. length line + 1 < 2 ^ 32) (lines_of text)
short_lines text h k d lt = (let le = lines_le text k d lt in omega (arith, le, h))
