-- An event of a short line has few groups.
use Rattle.std.proofs.Common.{◌≡◌, ℕ, ◌+◌, ◌≤◌, Bool, true, false, cond, List, [], ◌∷◌, length, take, Option, Some, None, refl, sym, ap, subst, arith}
use Rattle.std.specs.Prelude.{◌==◌, ◌-◌, unwrap_or}
use Rattle.std.specs.List.{All, filter_map}
use Rattle.std.proofs.lemmas.List.{length-take-le}
use Rattle.std.proofs.lemmas.List.Elements.{All-cons, All-head, All-nil, All-tail}
use Rattle.tp_script.specs.EventReaders.{event_of}
use Rattle.tp_script.specs.Lines.{line_event}
use Rattle.tp_script.specs.Script.{bare, ends_with_byte, is_passed, without_last, without_return, words_of_line}
use Rattle.tp_script.specs.declared.event.Event.{Event}
use Rattle.tp_script.specs.declared.event.Event.TheVariants.{Bad, Job, Clock, Jam, Off, On, Refill}
use Rattle.tp_script.proofs.Echoed.{all_counted}
use Rattle.tp_script.proofs.Events.{event_takes}
use Rattle.tp_stream.specs.Scripts.{line_bytes}
use Rattle.tp_stream.specs.Takes.{FitsIn, body_of}
use Rattle.tp_words.specs.Parts.{words_in}
use Rattle.tp_words.specs.Texts.{lines_of, onto_line}
use Rattle.tp_words.proofs.PartFacts.{length-words_in}
use Rattle.tp_run_laws.proofs.ShortWords.{groups_in}

-- no more than words
of-words : (words : List (List ℕ)) (event : Event) → event_of words ≡ Some event → groups_in event ≤ length words
of-words words Bad is = omega arith
of-words words (Job name tray media groups) is =
    let (texts, are, n, t, m, some, zip) = event_takes words (Job name tray media groups) is in
    omega (arith, (all_counted texts groups zip).1, ap length are)
of-words words (Clock to) is = omega arith
of-words words (Jam name) is = omega arith
of-words words (Off name) is = omega arith
of-words words (On name) is = omega arith
of-words words (Refill name count) is = omega arith

-- the text without its last byte is no longer
shorter : (text : List ℕ) → length (without_last text) ≤ length text
shorter text = omega (arith, length-take-le (length text - 1) text (omega arith))

no-longer : (text : List ℕ) → length (without_return text) ≤ length text
no-longer text = go (ends_with_byte 13 text)
  where
    go : (b : Bool) → length (cond b (without_last text) text) ≤ length text
    go true = shorter text
    go false = omega arith

bare-shorter : (line : List ℕ) → length (bare line) ≤ length line
unfolding bare
bare-shorter line = go (ends_with_byte 10 line)
  where
    go : (b : Bool) → length (cond b (without_return (without_last line)) line) ≤ length line
    go true = omega (arith, no-longer (without_last line), shorter line)
    go false = omega arith

of-line : (line : List ℕ) (event : Event) → line_event line ≡ Some event → groups_in event ≤ length line + 1
of-line line event is = go (is_passed (words_of_line line)) is
  where
    read : (o : Option Event) → event_of (words_of_line line) ≡ o → unwrap_or o Bad ≡ event → groups_in event ≤ length line + 1
    read None e same = subst (λ x. groups_in x ≤ length line + 1) same (omega arith)
    read (Some x) e same =
        subst (λ y. groups_in y ≤ length line + 1) same (omega (arith, of-words (words_of_line line) x e, length-words_in (bare line), bare-shorter line))

    go : (b : Bool) → cond b None (Some (unwrap_or (event_of (words_of_line line)) Bad)) ≡ Some event → groups_in event ≤ length line + 1
    go true e = absurd cc
    go false e = read (event_of (words_of_line line)) refl cc

-- ---- lines of a text

-- a line is no longer than its body and the LF behind it
abbrev IsOneLine : List ℕ → Type 0
IsOneLine line = length line ≤ length (body_of line) + 1

one-more : (byte : ℕ) (text : List ℕ) → (byte == 10) ≡ false → IsOneLine text → IsOneLine (byte ∷ text)
one-more byte text e is = subst (λ b. length (byte ∷ text) ≤ length (cond b [] (byte ∷ body_of text)) + 1) (sym e) (omega (arith, is))

onto-lines : (byte : ℕ) (lines : List (List ℕ)) → (byte == 10) ≡ false → All IsOneLine lines → All IsOneLine (onto_line byte lines)
onto-lines byte [] e all = All-cons IsOneLine (byte ∷ []) [] (one-more byte [] e (omega arith)) (All-nil IsOneLine)
onto-lines byte (line ∷ lines) e all = All-cons IsOneLine (byte ∷ line) lines (one-more byte line e (All-head IsOneLine line lines all)) (All-tail IsOneLine line lines all)

lines-one : (text : List ℕ) → All IsOneLine (lines_of text)
lines-one [] = All-nil IsOneLine
lines-one (byte ∷ text) = go (byte == 10) refl (lines-one text)
  where
    go : (b : Bool) → (byte == 10) ≡ b → All IsOneLine (lines_of text) → All IsOneLine (cond b ((10 ∷ []) ∷ lines_of text) (onto_line byte (lines_of text)))
    go true e rest = All-cons IsOneLine (10 ∷ []) (lines_of text) (omega arith) rest
    go false e rest = onto-lines byte (lines_of text) e rest

abbrev pub HasFewGroups : Event → Type 0
HasFewGroups event = groups_in event ≤ 4098

of-lines : (lines : List (List ℕ)) → All (FitsIn line_bytes) lines → All IsOneLine lines → All HasFewGroups (filter_map line_event lines)
of-lines [] fit one = All-nil HasFewGroups
of-lines (line ∷ lines) fit one = go (line_event line) refl (of-lines lines (All-tail (FitsIn line_bytes) line lines fit) (All-tail IsOneLine line lines one))
  where
    go : (o : Option Event) → line_event line ≡ o → All HasFewGroups (filter_map line_event lines) → All HasFewGroups (filter_map line_event (line ∷ lines))
    go None e rest = rw e rest
    go (Some event) e rest = rw e
        (All-cons HasFewGroups event (filter_map line_event lines) (omega (arith, of-line line event e, All-head (FitsIn line_bytes) line lines fit, All-head IsOneLine line lines one)) rest)

pub few-groups : (script : List ℕ) → All (FitsIn line_bytes) (lines_of script) → All HasFewGroups (filter_map line_event (lines_of script))
few-groups script fit = of-lines (lines_of script) fit (lines-one script)
