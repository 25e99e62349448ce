-- A line: what is read is spelled so, and what is spelled so is read.
use Rattle.std.proofs.Common.{◌≡◌, ◌≢◌, ℕ, ◌<◌, IsTrue, List, [], ◌∷◌, ◌++◌, length, Some, None, Err, refl, sym, ap, ◌∙◌, arith}
use Rattle.std.proofs.lemmas.List.{append_cancel_right}
use Rattle.tp_words.specs.Parts.{parts_at}
use Rattle.tp_schedule.specs.declared.records.Record.{Record}
use Rattle.tp_script.specs.declared.fault.LineFault.{LineFault}
use Rattle.tp_script.specs.declared.fault.LineFault.TheVariants.{Memory, Syntax}
use Rattle.tp_script.specs.Printed.{Echoes}
use Rattle.tp_script.specs.EventReaders.{Gives}
use Rattle.tp_words.specs.Texts.{spaced}
use Rattle.tp_script.specs.Script.{event_text}
use Rattle.tp_words.proofs.Texts.{parts-spaced, spaced-parts}
use Rattle.tp_log.specs.declared.log_line.LogLine.{LogLine}
use Rattle.tp_log.specs.declared.log_line.LogLine.TheVariants.{Event, Note, Room, Node}
use Rattle.tp_log.specs.Records.{record_words, record_text}
use Rattle.tp_log.specs.Grammar.{IsRecord}
use Rattle.tp_log.specs.LogLines.{IsLogLine, ReadsPlain, is_plain, log_line_text}
use Rattle.tp_log.specs.RecordReaders.{record_of}
use Rattle.tp_log.proofs.RecordFacts.{record_takes, record_again, record_visible}

some_words : (words : List (List ℕ)) (r : Record) → record_of words ≡ Some r → 0 < length words
unfolding record_of
some_words [] r e = absurd cc
some_words (w ∷ ws) r e = omega arith

text_takes : (text : List ℕ) (r : Record) → record_of (parts_at 32 text) ≡ Some r → IsRecord r × (text ≡ spaced (record_words r))
text_takes text r e =
    let t = record_takes (parts_at 32 text) r e in
    (t.1, sym (spaced-parts text) ∙ ap spaced t.0)

pub text_again : (r : Record) → IsRecord r → record_of (parts_at 32 (spaced (record_words r))) ≡ Some r
text_again r h =
    let again = record_again r h in
    ap record_of (parts-spaced (record_words r) (some_words (record_words r) r again) (record_visible r h)) ∙ again

-- no record begins as an echo does
no_echo : (event : List ℕ) → record_of (parts_at 32 (62 ∷ 32 ∷ event)) ≡ None
unfolding record_of
no_echo event = refl

pub not_told : (event : List ℕ) (told : Record) → IsRecord told → 62 ∷ 32 ∷ event ≢ spaced (record_words told)
not_told event told good same =
    let again = text_again told good in
    let none : record_of (parts_at 32 (spaced (record_words told))) ≡ None = ap (λ t. record_of (parts_at 32 t)) (sym same) ∙ no_echo event in
    cc

-- ---- what a reader answers
same_front : (a b : List ℕ) → a ++ 10 ∷ [] ≡ b ++ 10 ∷ [] → a ≡ b
same_front a b e = append_cancel_right a b (10 ∷ []) e

pub note_read : (line text : List ℕ) (r : Record) → line ≡ text ++ 10 ∷ [] → record_of (parts_at 32 text) ≡ Some r → IsRecord r × (line ≡ record_text r)
note_read line text r is e = (let t = text_takes text r e in (t.0, is ∙ ap (λ x. x ++ 10 ∷ []) t.1))

pub no_newline : (line : List ℕ) → ((text : List ℕ) → line ≢ text ++ 10 ∷ []) → (told : LogLine) → IsTrue (is_plain told) → IsLogLine told → line ≢ log_line_text told
no_newline line h (Event event) plain is same = h (62 ∷ 32 ∷ event_text event) same
no_newline line h (Note told) plain is same = h (spaced (record_words told)) same
no_newline line h (Room row) plain is same = absurd cc
no_newline line h (Node node) plain is same = absurd cc

pub note_fault : (line text : List ℕ) (fault : LineFault) → line ≡ text ++ 10 ∷ [] → ((event : List ℕ) → text ≢ 62 ∷ 32 ∷ event) → Gives (Err fault) (record_of (parts_at 32 text)) → ReadsPlain line (Err fault)
note_fault line text Memory is other h = tt
note_fault line text Syntax is other h = off
  where
    off : (told : LogLine) → IsTrue (is_plain told) → IsLogLine told → line ≢ log_line_text told
    off (Event event) plain echoed same = other (event_text event) (same_front text (62 ∷ 32 ∷ event_text event) (sym is ∙ same))
    off (Note told) plain good same =
        let front : text ≡ spaced (record_words told) = same_front text (spaced (record_words told)) (sym is ∙ same) in
        let again : record_of (parts_at 32 text) ≡ Some told = ap (λ t. record_of (parts_at 32 t)) front ∙ text_again told good in
        cc
    off (Room row) plain is same = absurd cc
    off (Node node) plain is same = absurd cc

pub echo_fault : (line text event : List ℕ) (fault : LineFault) → line ≡ text ++ 10 ∷ [] → text ≡ 62 ∷ 32 ∷ event → Echoes event (Err fault) → ReadsPlain line (Err fault)
echo_fault line text event Memory is front h = tt
echo_fault line text event Syntax is front h = off
  where
    behind : (a b : List ℕ) → 62 ∷ 32 ∷ a ≡ 62 ∷ 32 ∷ b → a ≡ b
    behind a b e = cc

    off : (told : LogLine) → IsTrue (is_plain told) → IsLogLine told → line ≢ log_line_text told
    off (Event event') plain echoed same = h event' echoed (behind event (event_text event') (sym front ∙ same_front text (62 ∷ 32 ∷ event_text event') (sym is ∙ same)))
    off (Note told) plain good same = not_told event told good (sym front ∙ same_front text (spaced (record_words told)) (sym is ∙ same))
    off (Room row) plain is same = absurd cc
    off (Node node) plain is same = absurd cc
