-- A printed event is in the grammar, and its line has just its words.
use Rattle.std.proofs.Common.{◌≡◌, inl, inr, ℕ, ◌-◌, ◌<◌, ◌≤◌, ◌^◌, Bool, true, false, not, ◌&&◌, ◌||◌, eqb, leb, List, [], ◌∷◌, ◌++◌, length, get_or, take, map, refl, ap, ◌∙◌, arith, decimal}
use Rattle.std.specs.List.{AllZip, AllByRecursion, list_all, flat_map}
use Rattle.std.specs.Char.{is_ascii_digit}
use Rattle.std.proofs.lemmas.Bool.{and_parts, and_from, cases_Bool, ne_eqb, leb-true}
use Rattle.std.proofs.lemmas.Bool.Decides.{nat_tests}
use Rattle.std.proofs.lemmas.List.{length-map, take_at, get_or_at, length-append}
use Rattle.std.proofs.lemmas.List.Folds.{list_all-append, list_all_at}
use Rattle.std.proofs.lemmas.Fmt.{digits_decimal, decimal_nonempty}
use Rattle.tp_base.specs.NameText.{is_name_byte}
use Rattle.tp_words.specs.Fields.{IsName}
use Rattle.tp_words.specs.Parts.{words_in, is_word, lacks}
use Rattle.tp_words.specs.Texts.{spaced}
use Rattle.tp_words.proofs.PartFacts.{IsWord, AllWords, words-join, lacks_from}
use Rattle.tp_words.proofs.NumberFacts.{own, digits_take, digits_again}
use Rattle.tp_words.proofs.SpelledWords.{weaker}
use Rattle.tp_words.proofs.Texts.{spaced-join}
use Rattle.tp_machine.specs.declared.parts.Want.{Want}
use Rattle.tp_machine.specs.declared.parts.Want.TheVariants.{Blank, Mono, Colour}
use Rattle.tp_machine.specs.declared.parts.Face.{Face}
use Rattle.tp_machine.specs.declared.parts.Face.TheVariants.{Front, Back}
use Rattle.tp_script.specs.declared.event.Event.{Event}
use Rattle.tp_script.specs.declared.event.Event.TheVariants.{Bad, Job, Clock, Jam, Off, On, Refill}
use Rattle.tp_script.specs.Form.{GroupForm}
use Rattle.tp_script.specs.Script.{IsGroup, IsEvent, Writes, want_byte, face_byte, spec_text, group_text, event_words, event_text, bare, words_of_line, ends_with_byte}
use Rattle.tp_script.specs.Printed.{IsCounted, IsWhole}
use Rattle.tp_script.proofs.Groups.{group_printed}

groups_printed : (gs : List GroupForm) → AllByRecursion IsCounted gs → AllZip IsGroup (map group_text gs) gs
groups_printed [] h = tt
groups_printed (g ∷ gs) h = (group_printed g h.0.0 h.0.1, groups_printed gs h.1)

number_written : (n : ℕ) → n < 2 ^ 32 → Writes 10 (decimal n) n
number_written n h = digits_take 10 (decimal n) n (digits_again 10 n (omega arith) (omega arith) (omega arith))

pub event_printed : (e : Event) → IsWhole e → IsEvent (event_words e) e
event_printed Bad h = absurd h
event_printed (Job n t m gs) (name, tray, media, some, counted) = (map group_text gs, refl, name, tray, media, omega (arith, length-map gs group_text), groups_printed gs counted)
event_printed (Clock to) h = (decimal to, refl, number_written to h, h)
event_printed (Jam n) h = (refl, h)
event_printed (Off n) h = (refl, h)
event_printed (On n) h = (refl, h)
event_printed (Refill n count) (name, below) = (decimal count, refl, name, number_written count below, below)

-- ---- the bytes of words

-- the bytes that words are printed with
abbrev is_plain : ℕ → Bool
is_plain b = is_name_byte b || (eqb b 42) || (eqb b 58)

plain_name_byte : (b : ℕ) → is_name_byte b ≡ true → is_plain b ≡ true
plain_name_byte b h = rw h refl

plain_digit : (b : ℕ) → is_ascii_digit b ≡ true → is_plain b ≡ true
plain_digit b h = grind (arith, nat_tests)

record IsPlainWord (text : List ℕ) : Type 0 where
  filled : is_word text ≡ true
  plain : list_all is_plain text ≡ true

word_of_plain : (text : List ℕ) → IsPlainWord text → IsWord text
word_of_plain text h = record { filled = h.filled; spaceless = lacks_from is_plain 32 text refl h.plain }

filled_from : (text : List ℕ) → 0 < length text → is_word text ≡ true
filled_from text h = ap not (ne_eqb (length text) 0 (λ e. omega arith))

name_plain : (text : List ℕ) → IsName text → IsPlainWord text
name_plain text h =
    let both = and_parts (leb 1 (length text) && leb (length text) 32) (list_all is_name_byte text) h in
    let long : 1 ≤ length text = leb-true _ _ (and_parts _ _ both.0).0 in
    record { filled = filled_from text long; plain = weaker is_name_byte is_plain plain_name_byte text both.1 }

decimal_plain : (n : ℕ) → n < 2 ^ 32 → IsPlainWord (decimal n)
decimal_plain n h =
    let some = decimal_nonempty n (omega arith) in
    record { filled = filled_from (decimal n) some; plain = weaker is_ascii_digit is_plain plain_digit (decimal n) (digits_decimal own n (omega arith)) }

want_plain : (w : Want) → is_plain (want_byte w) ≡ true
want_plain Blank = refl
want_plain Mono = refl
want_plain Colour = refl

face_plain : (f : Face) → is_plain (face_byte f) ≡ true
face_plain Front = refl
face_plain Back = refl

spec_plain : (g : GroupForm) → list_all is_plain (spec_text g) ≡ true
spec_plain g = rw (want_plain g.front, want_plain g.back, face_plain g.face) refl

starred_plain : (n : ℕ) (g : GroupForm) → n < 2 ^ 32 → IsPlainWord (decimal n ++ 42 ∷ spec_text g)
starred_plain n g h = record {
  filled = filled_from (decimal n ++ 42 ∷ spec_text g) (omega (arith, length-append (decimal n) (42 ∷ spec_text g)));
  plain = list_all-append is_plain (decimal n) (42 ∷ spec_text g) ∙ and_from (list_all is_plain (decimal n)) (list_all is_plain (42 ∷ spec_text g)) (decimal_plain n h).plain (spec_plain g);
}

group_plain : (g : GroupForm) → IsCounted g → IsPlainWord (group_text g)
group_plain g h =
    elim (cases_Bool (eqb g.count 1)) [
      | inl one ↦ rw one (record { filled = refl; plain = spec_plain g })
      | inr more ↦ rw more (starred_plain g.count g (omega (arith, h.1)))
    ]

abbrev AllPlain : List (List ℕ) → Type 0
AllPlain texts = AllByRecursion IsPlainWord texts

groups_plain : (gs : List GroupForm) → AllByRecursion IsCounted gs → AllPlain (map group_text gs)
groups_plain [] h = tt
groups_plain (g ∷ gs) h = (group_plain g h.0, groups_plain gs h.1)

literal : (text : List ℕ) → is_word text ≡ true → list_all is_plain text ≡ true → IsPlainWord text
literal text h k = record { filled = h; plain = k }

event_plain : (e : Event) → IsWhole e → AllPlain (event_words e)
event_plain Bad h = absurd h
event_plain (Job n t m gs) (name, tray, media, some, counted) = (literal _ refl refl, (name_plain n name, (name_plain t tray, (name_plain m media, groups_plain gs counted))))
event_plain (Clock to) h = (literal _ refl refl, (decimal_plain to h, tt))
event_plain (Jam n) h = (literal _ refl refl, (name_plain n h, tt))
event_plain (Off n) h = (literal _ refl refl, (name_plain n h, tt))
event_plain (On n) h = (literal _ refl refl, (name_plain n h, tt))
event_plain (Refill n count) (name, below) = (literal _ refl refl, (name_plain n name, (decimal_plain count below, tt)))

AllWords-plain : (texts : List (List ℕ)) → AllPlain texts → AllWords texts
AllWords-plain [] h = tt
AllWords-plain (x ∷ xs) h = (word_of_plain x h.0, AllWords-plain xs h.1)

-- ---- the line

abbrev is_line_byte : ℕ → Bool
is_line_byte b = is_plain b || eqb b 32

line_byte : (b : ℕ) → is_plain b ≡ true → is_line_byte b ≡ true
line_byte b h = rw h refl

others_line : (texts : List (List ℕ)) → AllPlain texts → list_all is_line_byte (flat_map (λ word. 32 ∷ word) texts) ≡ true
others_line [] h = refl
others_line (x ∷ xs) h = list_all-append is_line_byte x (flat_map (λ word. 32 ∷ word) xs) ∙ and_from (list_all is_line_byte x) (list_all is_line_byte (flat_map (λ word. 32 ∷ word) xs)) (weaker is_plain is_line_byte line_byte x h.0.plain) (others_line xs h.1)

spaced_line : (texts : List (List ℕ)) → AllPlain texts → list_all is_line_byte (spaced texts) ≡ true
spaced_line [] h = refl
spaced_line (x ∷ xs) h = list_all-append is_line_byte x (flat_map (λ word. 32 ∷ word) xs) ∙ and_from (list_all is_line_byte x) (list_all is_line_byte (flat_map (λ word. 32 ∷ word) xs)) (weaker is_plain is_line_byte line_byte x h.0.plain) (others_line xs h.1)

-- a text that lacks the byte doesn't end with it
ends-lacks : (c : ℕ) (text : List ℕ) → eqb 0 c ≡ false → lacks c text ≡ true → ends_with_byte c text ≡ false
ends-lacks c [] zero_is_not h = zero_is_not
ends-lacks c (b ∷ text) zero_is_not h =
    elim (cases_Bool (ends_with_byte c (b ∷ text))) [
      | inr no_end ↦ no_end
      | inl end ↦ (let k : lacks c (b ∷ text) ≡ false = list_all_at (λ x. not (eqb x c)) (b ∷ text) (length (b ∷ text) - 1) 0 (omega arith) (ap not end) in absurd cc)
    ]

pub bare-newline : (text : List ℕ) → lacks 13 text ≡ true → bare (text ++ 10 ∷ []) ≡ text
unfolding bare
bare-newline text h =
    let n : length (text ++ 10 ∷ []) - 1 ≡ length text = omega (arith, length-append text (10 ∷ [])) in
    let end : get_or (text ++ 10 ∷ []) (length text) 0 ≡ 10 = get_or_at text 10 [] 0 (length text) refl in
    let front : take (length text) (text ++ 10 ∷ []) ≡ text = take_at text (10 ∷ []) (length text) refl in
    rw (n, end, front, ends-lacks 13 text refl h) refl

pub words-printed : (e : Event) → IsWhole e → words_of_line (event_text e ++ 10 ∷ []) ≡ event_words e
words-printed e h =
    let plain = event_plain e h in
    ap words_in (bare-newline (event_text e) (lacks_from is_line_byte 13 (event_text e) refl (spaced_line (event_words e) plain)))
    ∙ ap words_in (spaced-join (event_words e)) ∙ words-join (event_words e) (AllWords-plain (event_words e) plain)

pub printed_reads : (e : Event) → IsWhole e → IsEvent (words_of_line (event_text e ++ 10 ∷ [])) e
printed_reads e h = rw (words-printed e h) (event_printed e h)

-- the same without its LF
pub bare-none : (text : List ℕ) → lacks 10 text ≡ true → bare text ≡ text
unfolding bare
bare-none text h = rw (ends-lacks 10 text refl h) refl

pub words-bare : (e : Event) → IsWhole e → words_of_line (event_text e) ≡ event_words e
words-bare e h =
    let plain = event_plain e h in
    ap words_in (bare-none (event_text e) (lacks_from is_line_byte 10 (event_text e) refl (spaced_line (event_words e) plain)))
    ∙ ap words_in (spaced-join (event_words e)) ∙ words-join (event_words e) (AllWords-plain (event_words e) plain)
