use Rattle.std.proofs.Common.{◌∙◌, ap, sym}
use Rattle.tp_command.specs.App.{asked_in}
use Rattle.tp_command.proofs.Whole.{form_refused, form_taken}
use Rattle.tp_command.proofs.request_reader.read_request.Goals as goal

pub returns-in-Err-clause-usage : goal.returns-in-Err-clause-usage
returns-in-Err-clause-usage c = λ e. form_refused c.args.words.now (c.in-Err.ensures.usage e)

pub returns-in-Some-clause-ok : goal.returns-in-Some-clause-ok
returns-in-Some-clause-ok c =
    form_taken c.args.words.now c.in-Ok.ensures.taken ∙ ap asked_in (sym c.in-Ok.ensures.rows) ∙ sym c.in-Some.ensures

pub returns-clause-usage : goal.returns-clause-usage
returns-clause-usage c = λ e.
    form_taken c.args.words.now c.in-Ok.ensures.taken ∙ ap asked_in (sym c.in-Ok.ensures.rows) ∙ sym c.in-None.ensures
