use Rattle.std.proofs.Common.{◌≡◌, length, ap, sym, subst, ◌∙◌, false, Err, arith}
use Rattle.std.proofs.lemmas.List.{length-map}
use Rattle.tp_words.proofs.PartFacts.{length-words_in}
use Rattle.tp_words.specs.Parts.{shown, words_in}
use Rattle.tp_script.specs.Script.{is_passed, words_of_line, Reads}
use Rattle.tp_script.proofs.Events.{event_takes, reads_fault}
use Rattle.tp_script.proofs.event_reader.read_line.Goals as goal

pub returns-in-Ok : goal.returns-in-Ok
returns-in-Ok c =
    let words-are : shown c.deref-2.result.now ≡ words_of_line c.args.line.now = ap shown c.deref-2.ensures.value ∙ c.in_ok-words.ensures ∙ ap words_in c.bare_line.ensures.bare in
    rw (← words-are) (event_takes (shown c.deref-2.result.now) c.in-Ok.event c.in-Ok.ensures)

pub returns : goal.returns
returns c =
    let words-are : shown c.deref-2.result.now ≡ words_of_line c.args.line.now = ap shown c.deref-2.ensures.value ∙ c.in_ok-words.ensures ∙ ap words_in c.bare_line.ensures.bare in
    let not_passed : is_passed (shown c.deref-2.result.now) ≡ false = ap (λ x. is_passed (shown x)) (c.deref-2.ensures.value ∙ sym c.deref.ensures.value) ∙ sym c.passes.ensures ∙ c.if-passes.false in
    subst (λ ws. Reads ws (Err c.in-Err.fault)) words-are (reads_fault (shown c.deref-2.result.now) c.in-Err.fault not_passed c.in-Err.ensures)

-- a line has at most one word more than bytes
pub read_event-requires : goal.read_event-requires
read_event-requires c =
    let words-are : shown c.deref-2.result.now ≡ words_in c.bare_line.result.now = ap shown c.deref-2.ensures.value ∙ c.in_ok-words.ensures in
    let many : length (shown c.deref-2.result.now) ≡ length (words_in c.bare_line.result.now) = ap length words-are in
    omega (arith, length-map c.deref-2.result.now (λ text. text.now), length-words_in c.bare_line.result.now, c.bare_line.ensures.shorter, many)
