use Rattle.std.proofs.Common.{◌≡◌, inr, ap, sym, ◌∙◌, ◌++◌}
use Rattle.tp_script.specs.Script.{event_text, words_of_line}
use Rattle.tp_script.proofs.Echoed.{whole_from, not_blank, not_same, echo_fault, other_text, differs_from, same_from}
use Rattle.tp_script.proofs.echo.read_printed.Goals as goal

pub returns-in-Err : goal.returns-in-Err
returns-in-Err c = echo_fault c.args.text.now c.in-Err.fault (other_text c.args.text.now _ c.eq.result c.eq.ensures c.if-eq.false c.as_slice.ensures) c.in-Err.ensures

pub returns-in-Ok-None : goal.returns-in-Ok-None
returns-in-Ok-None c =
    let read = rw c.in-Ok-None.field-0-is at c.in-Ok-None.ensures in
    not_blank c.args.text.now (other_text c.args.text.now _ c.eq.result c.eq.ensures c.if-eq.false c.as_slice.ensures) read

pub returns-then-eq-2 : goal.returns-then-eq-2
returns-then-eq-2 c =
    let read = rw c.in-Ok-Some.field-0-is at c.in-Ok-Some.ensures in
    let out : c.print_event.new.out.items ≡ event_text c.in-Ok-Some.event = c.in-Ok.ensures.printed ∙ ap (λ x. x ++ event_text c.in-Ok-Some.event) c.new-out.ensures.items in
    let same = same_from c.args.text.now _ c.eq-in-Ok.result c.eq-in-Ok.ensures c.if-eq-2.true in
    (inr (whole_from (words_of_line c.args.text.now) c.in-Ok-Some.event read), sym same ∙ c.as_slice-in-Ok.ensures.value ∙ out)

pub returns-else-eq-2 : goal.returns-else-eq-2
returns-else-eq-2 c =
    let read = rw c.in-Ok-Some.field-0-is at c.in-Ok-Some.ensures in
    let out : c.print_event.new.out.items ≡ event_text c.in-Ok-Some.event = c.in-Ok.ensures.printed ∙ ap (λ x. x ++ event_text c.in-Ok-Some.event) c.new-out.ensures.items in
    let differs = differs_from c.args.text.now _ c.eq-in-Ok.result c.eq-in-Ok.ensures c.if-eq-2.false in
    not_same c.args.text.now (other_text c.args.text.now _ c.eq.result c.eq.ensures c.if-eq.false c.as_slice.ensures) c.in-Ok-Some.event read (λ e. differs (c.as_slice-in-Ok.ensures.value ∙ out ∙ e))
