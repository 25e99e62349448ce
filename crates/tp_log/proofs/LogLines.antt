-- The lines of a log's text are those that it was written by, and no two lines are written alike.
use Rattle.std.proofs.Common.{◌≡◌, ℕ, true, List, [], ◌∷◌, ◌++◌, map, refl, sym, ap, ◌∙◌, append_assoc}
use Rattle.std.specs.List.{All, AllByRecursion, flat_map}
use Rattle.std.proofs.lemmas.List.{append-nil}
use Rattle.std.proofs.lemmas.List.Elements.{recursion_from_All}
use Rattle.tp_words.specs.Parts.{lacks}
use Rattle.tp_words.specs.Texts.{lines_of, spaced}
use Rattle.tp_words.proofs.Texts.{lines_at, spaced_lacks}
use Rattle.tp_script.specs.Script.{event_words, event_text}
use Rattle.tp_bounds.specs.declared.line.BoundLine.TheVariants as bound
use Rattle.tp_bounds.specs.Lines.{node_words, row_words}
use Rattle.tp_bounds.proofs.LineFacts.{bound_visible}
use Rattle.tp_log.specs.declared.log_line.LogLine.{LogLine}
use Rattle.tp_log.specs.declared.log_line.LogLine.TheVariants.{Event, Note, Room, Node}
use Rattle.tp_log.specs.Records.{record_words}
use Rattle.tp_log.specs.LogLines.{IsLogLine, log_line_text}
use Rattle.tp_log.proofs.BoundLines.{one_log_line}
use Rattle.tp_log.proofs.EventWords.{event_visible}
use Rattle.tp_log.proofs.RecordFacts.{record_visible}

abbrev pub text_of : List LogLine → List ℕ
text_of lines = flat_map log_line_text lines

-- ---- a line ends with its only LF
abbrev front : LogLine → List ℕ
front (Event event) = 62 ∷ 32 ∷ event_text event
front (Note told) = spaced (record_words told)
front (Room row) = spaced (row_words row)
front (Node node) = spaced (node_words node)

text-front : (told : LogLine) → log_line_text told ≡ front told ++ 10 ∷ []
text-front (Event event) = refl
text-front (Note told) = refl
text-front (Room row) = refl
text-front (Node node) = refl

front_lacks : (told : LogLine) → IsLogLine told → lacks 10 (front told) ≡ true
front_lacks (Event event) h = spaced_lacks (event_words event) (event_visible event h)
front_lacks (Note told) h = spaced_lacks (record_words told) (record_visible told h)
front_lacks (Room row) h = spaced_lacks (row_words row) (bound_visible (bound.Room row) h)
front_lacks (Node node) h = spaced_lacks (node_words node) (bound_visible (bound.Node node) h)

regroup : (a x y : List ℕ) → ((a ++ 10 ∷ []) ++ x) ++ y ≡ a ++ 10 ∷ (x ++ y)
regroup a x y = simp append_assoc

-- the lines of a text of lines, and of what stands behind it
lines_go : (lines : List LogLine) (rest : List ℕ) → AllByRecursion IsLogLine lines → lines_of (text_of lines ++ rest) ≡ map log_line_text lines ++ lines_of rest
lines_go [] rest h = refl
lines_go (told ∷ lines) rest h =
    let whole : text_of (told ∷ lines) ++ rest ≡ front told ++ 10 ∷ (text_of lines ++ rest) = ap (λ t. (t ++ text_of lines) ++ rest) (text-front told) ∙ regroup (front told) (text_of lines) rest in
    ap lines_of whole ∙ lines_at (front told) (text_of lines ++ rest) (front_lacks told h.0) ∙ ap (λ t. t ∷ lines_of (text_of lines ++ rest)) (sym (text-front told)) ∙ ap (λ ls. log_line_text told ∷ ls) (lines_go lines rest h.1)

pub lines_log : (lines : List LogLine) (rest : List ℕ) → All IsLogLine lines → lines_of (text_of lines ++ rest) ≡ map log_line_text lines ++ lines_of rest
lines_log lines rest h = lines_go lines rest (recursion_from_All IsLogLine lines h)

pub lines_whole : (lines : List LogLine) → All IsLogLine lines → lines_of (text_of lines) ≡ map log_line_text lines
lines_whole lines h = ap lines_of (sym (append-nil (text_of lines))) ∙ lines_log lines [] h ∙ append-nil (map log_line_text lines)

-- ---- no two lists of lines are written alike
both_parts : (a b : List ℕ) (xs ys : List (List ℕ)) → a ∷ xs ≡ b ∷ ys → (a ≡ b) × (xs ≡ ys)
both_parts a b xs ys e = (cc, cc)

same_go : (lines others : List LogLine) → AllByRecursion IsLogLine lines → AllByRecursion IsLogLine others → map log_line_text lines ≡ map log_line_text others → lines ≡ others
same_go [] [] h k same = refl
same_go [] (o ∷ os) h k same = absurd cc
same_go (l ∷ ls) [] h k same = absurd cc
same_go (l ∷ ls) (o ∷ os) h k same =
    let parts = both_parts (log_line_text l) (log_line_text o) (map log_line_text ls) (map log_line_text os) same in
    ap (λ x. x ∷ ls) (one_log_line l o h.0 k.0 parts.0) ∙ ap (λ xs. o ∷ xs) (same_go ls os h.1 k.1 parts.1)

pub same_lines : (lines others : List LogLine) → All IsLogLine lines → All IsLogLine others → map log_line_text lines ≡ map log_line_text others → lines ≡ others
same_lines lines others h k same = same_go lines others (recursion_from_All IsLogLine lines h) (recursion_from_All IsLogLine others k) same

pub same_texts : (lines others : List LogLine) → All IsLogLine lines → All IsLogLine others → text_of lines ≡ text_of others → lines ≡ others
same_texts lines others h k same = same_lines lines others h k (sym (lines_whole lines h) ∙ ap lines_of same ∙ lines_whole others k)
