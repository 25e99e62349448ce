use Rattle.std.proofs.Common.{rules, ap₂, ◌≡◌, ◌∙◌}
use Rattle.std.proofs.lemmas.Result.{IfOk-weaker}
use Rattle.clap.specs.Words.{app_of, rule_of, with_rule}
use Rattle.tp_chart.specs.Words.{words_rule, with_at, with_from, with_html, with_sheets, with_words}
use Rattle.tp_chart.proofs.words.command.Goals as goal

pub returns : goal.returns
returns c =
    let words_is : rule_of c.action.result ≡ words_rule = search rules in
    let one : app_of c.in_ok-arg.field-0 ≡ with_words = c.in_ok-arg.ensures.shape (search rules) ∙ ap₂ with_rule c.bare.ensures words_is in
    let two : app_of c.in_ok-arg-2.field-0 ≡ with_sheets = c.in_ok-arg-2.ensures.shape (search rules) ∙ ap₂ with_rule one c.flag.ensures.rule in
    let three : app_of c.in_ok-arg-3.field-0 ≡ with_html = c.in_ok-arg-3.ensures.shape (search rules) ∙ ap₂ with_rule two c.flag-2.ensures.rule in
    let four : app_of c.in_ok-arg-4.field-0 ≡ with_from = c.in_ok-arg-4.ensures.shape (search rules) ∙ ap₂ with_rule three c.option.ensures.rule in
    let five : app_of c.in_ok-arg-5.field-0 ≡ with_at = c.in_ok-arg-5.ensures.shape (search rules) ∙ ap₂ with_rule four c.option-2.ensures.rule in
    IfOk-weaker c.arg-6.result _ _ (λ r h. h.shape (search rules) ∙ ap₂ with_rule five c.option-3.ensures.rule) c.arg-6.ensures
