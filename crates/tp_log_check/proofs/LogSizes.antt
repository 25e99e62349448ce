-- A log that keeps its sizes has not too many bytes, and not too many lines of events.
use Rattle.std.proofs.Common.{◌≡◌, inl, inr, ℕ, ◌+◌, ◌<◌, ◌≤◌, Bool, cond, true, false, eqb, eqb-true, List, [], ◌∷◌, ◌++◌, length, Option, refl, sym, ap, subst, ◌∙◌, arith, append_assoc, length-append}
use Rattle.std.specs.List.{count_by}
use Rattle.std.proofs.lemmas.Bool.{and_parts}
use Rattle.std.proofs.lemmas.List.Sums.{sum_by-append, sum_by-cons}
use Rattle.tp_machine.specs.declared.machine.Machine.{Machine}
use Rattle.tp_stream.specs.Takes.{ends_whole}
use Rattle.tp_stream.proofs.Lines.{lines_after}
use Rattle.tp_words.specs.Texts.{lines_of, onto_line}
use Rattle.tp_log_check.specs.Ends.{IsTooLongWith}
use Rattle.tp_log_check.specs.Sizes.{KeepsSizes, begins_event, event_lines, events_in}
use Rattle.tp_log_check.proofs.FedLines.{begins-more}

first-line : (lines : List (List ℕ)) → 0 < count_by begins_event (onto_line 62 (onto_line 32 lines))
first-line [] = omega (arith, sum_by-cons events_in (62 ∷ 32 ∷ []) [])
first-line (line ∷ lines) = omega (arith, sum_by-cons events_in (62 ∷ 32 ∷ line) lines)

-- a text that begins with `> ` has a line of an event
first-event : (text : List ℕ) → begins_event text ≡ true → 0 < event_lines text
first-event [] h = absurd cc
first-event (a ∷ []) h = absurd cc
first-event (a ∷ b ∷ text) h =
    let both = and_parts (eqb a 62) (eqb b 32) h in
    let first : a ≡ 62 = eqb-true a 62 both.0 in
    let second : b ≡ 32 = eqb-true b 32 both.1 in
    subst (λ x. 0 < event_lines (x ∷ b ∷ text)) (sym first) (subst (λ x. 0 < event_lines (62 ∷ x ∷ text)) (sym second) (first-line (lines_of text)))

-- a line of an event has one, also with what stands behind it
some-event : (line more : List ℕ) → events_in line ≤ event_lines (line ++ more)
some-event line more = go (begins_event line) refl
  where
    go : (b : Bool) → begins_event line ≡ b → cond b 1 0 ≤ event_lines (line ++ more)
    go true e = first-event (line ++ more) (begins-more line more e)
    go false e = omega arith

pub not-too-long : (machine : Machine) (left left' : Option (List ℕ)) (log read done rest after : List ℕ) → KeepsSizes log → log ≡ read ++ after → read ≡ done ++ rest → ends_whole done ≡ true
    → ¬ IsTooLongWith machine left left' done rest
not-too-long machine left left' log read done rest after sizes whole parts ends too_long =
    let line = too_long.next.line in
    let more = too_long.next.more in
    let log_is : log ≡ done ++ (line ++ (more ++ after)) =
    whole ∙ ap (λ r. r ++ after) (parts ∙ ap (λ r. done ++ r) too_long.next.next) ∙ append_assoc done (line ++ more) after ∙ ap (λ r. done ++ r) (append_assoc line more after) in
    let bytes = sizes.bytes in
    let few = sizes.events in
    elim too_long.past [
      | inl long ↦
          (let a = ap length log_is in
          omega (arith, long, bytes, a, length-append done (line ++ (more ++ after)), length-append line (more ++ after)))
      | inr full ↦
          (let lines : lines_of log ≡ lines_of done ++ lines_of (line ++ (more ++ after)) = ap lines_of log_is ∙ lines_after done (line ++ (more ++ after)) ends in
          let counted = ap (count_by begins_event) lines ∙ sum_by-append events_in (lines_of done) (lines_of (line ++ (more ++ after))) in
          omega (arith, counted, some-event line (more ++ after), few, full))
    ]
