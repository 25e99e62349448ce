-- Lines joined, lines counted, and which of them begin an event.
use Rattle.std.proofs.Common.{◌≡◌, inl, inr, ℕ, ◌+◌, ◌≤◌, true, eqb, eqb-true, List, [], ◌∷◌, ◌++◌, length, map, refl, sym, ap, ◌∙◌, arith}
use Rattle.std.specs.List.{flat_map}
use Rattle.std.proofs.lemmas.Bool.{cases_Bool}
use Rattle.tp_log.specs.LogLines.{is_event, log_line_text}
use Rattle.tp_log.specs.declared.log_line.LogLine.{LogLine}
use Rattle.tp_log.specs.declared.log_line.LogLine.TheVariants.{Event, Note, Room, Node}
use Rattle.tp_schedule.specs.declared.records.Record.TheVariants.{Plan, Move, Never, Budget, FullUp, Release, Done, Lost, Recall, Withdraw, Cut, Purge, Again, Stuck, Broken, Drop, Refused}
use Rattle.tp_bounds.specs.Lines.{node_words, row_words}
use Rattle.tp_log.specs.Records.{record_words}
use Rattle.tp_script.specs.Script.{event_text}
use Rattle.tp_stream.specs.Takes.{ends_whole}
use Rattle.tp_stream.proofs.Lines.{ends_append, ends_line}
use Rattle.tp_words.specs.Texts.{lines_of, onto_line, spaced}
use Rattle.tp_log_check.specs.Sizes.{begins_event}

abbrev pub joined : List (List ℕ) → List ℕ
joined lines = flat_map (λ line. line) lines

onto_joined : (b : ℕ) (lines : List (List ℕ)) → joined (onto_line b lines) ≡ b ∷ joined lines
onto_joined b [] = refl
onto_joined b (line ∷ lines) = refl

-- the lines of a text, one after another, are the text
pub joined_lines : (text : List ℕ) → joined (lines_of text) ≡ text
joined_lines [] = refl
joined_lines (b ∷ text) =
    elim (cases_Bool (eqb b 10)) [
      | inl e ↦ (let is : b ≡ 10 = eqb-true b 10 e in rw e (ap (λ t. 10 ∷ t) (joined_lines text) ∙ ap (λ x. x ∷ text) (sym is)))
      | inr e ↦ rw e (onto_joined b (lines_of text) ∙ ap (λ t. b ∷ t) (joined_lines text))
    ]

pub joined_told : (told : List LogLine) → joined (map log_line_text told) ≡ flat_map log_line_text told
joined_told [] = refl
joined_told (line ∷ told) = ap (λ t. log_line_text line ++ t) (joined_told told)

onto_few : (b : ℕ) (lines : List (List ℕ)) → length (onto_line b lines) ≤ length lines + 1
onto_few b [] = omega arith
onto_few b (line ∷ lines) = omega arith

-- each line has a byte
pub few_lines : (text : List ℕ) → length (lines_of text) ≤ length text
few_lines [] = omega arith
few_lines (b ∷ text) =
    elim (cases_Bool (eqb b 10)) [
      | inl e ↦ rw e (omega (arith, few_lines text))
      | inr e ↦ rw e (omega (arith, few_lines text, onto_few b (lines_of text)))
    ]

-- just an event's line begins with `> `
pub begins : (told : LogLine) → begins_event (log_line_text told) ≡ is_event told
begins (Event event) = refl
begins (Note (Plan sheet place points acts)) = refl
begins (Note (Move sheet points)) = refl
begins (Note (Never sheet goal)) = refl
begins (Note (Budget sheet goal bound)) = refl
begins (Note (FullUp sheet)) = refl
begins (Note (Release sheet act name start end)) = refl
begins (Note (Done sheet place at)) = refl
begins (Note (Lost sheet)) = refl
begins (Note (Recall sheet act)) = refl
begins (Note (Withdraw sheet)) = refl
begins (Note (Cut sheet)) = refl
begins (Note (Purge sheet)) = refl
begins (Note (Again sheet)) = refl
begins (Note (Stuck sheet name)) = refl
begins (Note (Broken job)) = refl
begins (Note (Drop sheet)) = refl
begins (Note (Refused cause)) = refl
begins (Room row) = refl
begins (Node node) = refl

-- what a line begins with, more bytes begin with
pub begins-more : (line more : List ℕ) → begins_event line ≡ true → begins_event (line ++ more) ≡ true
begins-more [] more h = absurd cc
begins-more (a ∷ []) more h = absurd cc
begins-more (a ∷ b ∷ line) more h = h

-- ---- the lines of a log are whole

ends-line : (told : LogLine) → ends_whole (log_line_text told) ≡ true
ends-line (Event event) = ends_line (62 ∷ 32 ∷ event_text event)
ends-line (Note told) = ends_line (spaced (record_words told))
ends-line (Room row) = ends_line (spaced (row_words row))
ends-line (Node node) = ends_line (spaced (node_words node))

pub ends-text : (told : List LogLine) → ends_whole (flat_map log_line_text told) ≡ true
ends-text [] = refl
ends-text (line ∷ told) = ends_append (log_line_text line) (flat_map log_line_text told) (ends-line line) (ends-text told)
