-- No line is that of two: the lines of bound trees are none of an event or a record, and those of events none of a record.
use Rattle.std.proofs.Common.{◌≡◌, ◌≢◌, ℕ, IsTrue, List, [], ◌∷◌, ◌++◌, Option, Result, Some, None, Ok, Err, refl, sym, ap, ◌∙◌}
use Rattle.std.proofs.lemmas.List.{append_cancel_right}
use Rattle.std.proofs.lemmas.Option.{same_Some}
use Rattle.tp_words.specs.Parts.{parts_at}
use Rattle.tp_words.specs.Texts.{spaced}
use Rattle.tp_schedule.specs.declared.records.Record.{Record}
use Rattle.tp_script.specs.Printed.{IsEchoed}
use Rattle.tp_script.specs.Script.{event_text}
use Rattle.tp_script.specs.declared.event.Event.{Event as AnEvent}
use Rattle.tp_script.specs.declared.fault.LineFault.{LineFault}
use Rattle.tp_script.specs.declared.fault.LineFault.TheVariants.{Memory, Syntax}
use Rattle.tp_bounds.specs.declared.line.BoundLine.{BoundLine}
use Rattle.tp_bounds.specs.declared.line.BoundLine.TheVariants.{Room as ARoom, Node as ANode}
use Rattle.tp_bounds.specs.Lines.{ReadsBound, bound_text, bound_words}
use Rattle.tp_bounds.proofs.LineFacts.{bound-front, bound_begins}
use Rattle.tp_bounds.proofs.TreeFacts.{one_bound}
use Rattle.tp_script.proofs.Echoed.{same_event}
use Rattle.tp_log.specs.declared.log_line.LogLine.{LogLine}
use Rattle.tp_log.specs.declared.log_line.LogLine.TheVariants.{Event, Note, Room, Node}
use Rattle.tp_log.specs.Grammar.{IsRecord, echo_text}
use Rattle.tp_log.specs.LogLines.{IsLogLine, ReadsLogLine, ReadsPlain, is_plain, log_line_text}
use Rattle.tp_log.specs.RecordReaders.{record_of}
use Rattle.tp_log.specs.Records.{record_text, record_words}
use Rattle.tp_log.proofs.LineFacts.{not_told, text_again}

-- a line that is neither of a tree nor of an event or a record
neither : (line : List ℕ) (fault : LineFault) → ReadsBound line (Ok None) → ReadsPlain line (Err fault) → ReadsLogLine line (Err fault)
neither line Memory none h = tt
neither line Syntax none h = off
  where
    off : (told : LogLine) → IsLogLine told → line ≢ log_line_text told
    off (Event event) is = h (Event event) refl is
    off (Note told) is = h (Note told) refl is
    off (Room row) is = none (ARoom row) is
    off (Node node) is = none (ANode node) is

pub plain_read : (line : List ℕ) (result : Result LogLine LineFault) → ReadsBound line (Ok None) → ReadsPlain line result → ReadsLogLine line result
plain_read line (Ok told) none h = h
plain_read line (Err fault) none h = neither line fault none h

-- no record begins as a line of a tree does
no_record : (rest : List ℕ) → record_of (parts_at 32 (98 ∷ 32 ∷ rest)) ≡ None
unfolding record_of
no_record rest = refl

both : {o : Option Record} {r : Record} → o ≡ Some r → o ≡ None → ⊥
both h k = cc

record_apart : (r : Record) (text rest : List ℕ) → IsRecord r → text ≡ spaced (record_words r) → text ≡ 98 ∷ 32 ∷ rest → ⊥
record_apart r text rest good is begins =
    both (ap (λ t. record_of (parts_at 32 t)) is ∙ text_again r good) (ap (λ t. record_of (parts_at 32 t)) begins ∙ no_record rest)

echo_apart : (text event rest : List ℕ) → text ≡ 62 ∷ 32 ∷ event → text ≡ 98 ∷ 32 ∷ rest → ⊥
echo_apart text event rest h k = cc

same_front : (front : List ℕ) (b : BoundLine) → front ++ 10 ∷ [] ≡ bound_text b → spaced (bound_words b) ≡ front
same_front front b same = append_cancel_right (spaced (bound_words b)) front (10 ∷ []) (sym (bound-front b) ∙ sym same)

apart : (told : LogLine) (b : BoundLine) → IsTrue (is_plain told) → IsLogLine told → log_line_text told ≢ bound_text b
apart (Event e) b plain good same = (let begins = bound_begins b in echo_apart (spaced (bound_words b)) (event_text e) begins.0 (same_front (62 ∷ 32 ∷ event_text e) b same) begins.1)
apart (Note r) b plain good same = (let begins = bound_begins b in record_apart r (spaced (bound_words b)) begins.0 good (same_front (spaced (record_words r)) b same) begins.1)
apart (Room row) b plain good same = absurd cc
apart (Node node) b plain good same = absurd cc

-- ---- no line is that of two
cut : (front other : List ℕ) → front ++ 10 ∷ [] ≡ other ++ 10 ∷ [] → front ≡ other
cut front other same = append_cancel_right front other (10 ∷ []) same

one_event : (e f : AnEvent) → IsEchoed e → IsEchoed f → echo_text e ≡ echo_text f → e ≡ f
one_event e f h k same = same_event e f h k (behind (event_text e) (event_text f) (cut (62 ∷ 32 ∷ event_text e) (62 ∷ 32 ∷ event_text f) same))
  where
    behind : (a b : List ℕ) → 62 ∷ 32 ∷ a ≡ 62 ∷ 32 ∷ b → a ≡ b
    behind a b e = cc

one_record : (q r : Record) → IsRecord q → IsRecord r → record_text q ≡ record_text r → q ≡ r
one_record q r h k same =
    same_Some q r (sym (text_again q h) ∙ ap (λ t. record_of (parts_at 32 t)) (cut (spaced (record_words q)) (spaced (record_words r)) same) ∙ text_again r k)

no_both : (e : AnEvent) (r : Record) → IsRecord r → echo_text e ≡ record_text r → ⊥
no_both e r h same = not_told (event_text e) r h (cut (62 ∷ 32 ∷ event_text e) (spaced (record_words r)) same)

abbrev of_bound : BoundLine → LogLine
of_bound (ARoom row) = Room row
of_bound (ANode node) = Node node

pub one_log_line : (told other : LogLine) → IsLogLine told → IsLogLine other → log_line_text told ≡ log_line_text other → told ≡ other
one_log_line (Event e) (Event f) h k same = ap (λ x. Event x) (one_event e f h k same)
one_log_line (Event e) (Note r) h k same = absurd (no_both e r k same)
one_log_line (Note q) (Event f) h k same = absurd (no_both f q h (sym same))
one_log_line (Note q) (Note r) h k same = ap (λ x. Note x) (one_record q r h k same)
one_log_line (Room r) (Room s) h k same = ap of_bound (one_bound (ARoom r) (ARoom s) h k same)
one_log_line (Room r) (Node n) h k same = ap of_bound (one_bound (ARoom r) (ANode n) h k same)
one_log_line (Node m) (Room s) h k same = ap of_bound (one_bound (ANode m) (ARoom s) h k same)
one_log_line (Node m) (Node n) h k same = ap of_bound (one_bound (ANode m) (ANode n) h k same)
one_log_line (Event e) (Room s) h k same = absurd (apart (Event e) (ARoom s) refl h same)
one_log_line (Event e) (Node n) h k same = absurd (apart (Event e) (ANode n) refl h same)
one_log_line (Note q) (Room s) h k same = absurd (apart (Note q) (ARoom s) refl h same)
one_log_line (Note q) (Node n) h k same = absurd (apart (Note q) (ANode n) refl h same)
one_log_line (Room r) (Event f) h k same = absurd (apart (Event f) (ARoom r) refl k (sym same))
one_log_line (Room r) (Note p) h k same = absurd (apart (Note p) (ARoom r) refl k (sym same))
one_log_line (Node m) (Event f) h k same = absurd (apart (Event f) (ANode m) refl k (sym same))
one_log_line (Node m) (Note p) h k same = absurd (apart (Note p) (ANode m) refl k (sym same))
