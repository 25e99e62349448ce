-- The log is accepted, or its first lines were taken.
use Rattle.std.proofs.Common.{◌≡◌, ◌∙◌, ap, Err}
use Rattle.std.proofs.lemmas.Result.{IfErr-weaker, IfOk-weaker}
use Rattle.tp_log_check.specs.declared.rejection.Rejection.TheVariants.{Source}
use Rattle.tp_log_check.proofs.LogEnds.{accepted-text, refused-end}
use Rattle.tp_log_check.proofs.log_source.check_log.Goals as goal

pub returns-in-Ok-feed_all-clause-accepted : goal.returns-in-Ok-feed_all-clause-accepted
returns-in-Ok-feed_all-clause-accepted g c =
    let (text, read, sizes, is, taken) = c.in-Ok-feed_all.ensures.taken in
    IfOk-weaker c.end.result _ _
    (λ counts lawful. (text, read, accepted-text c.args.machine c.feed_all.new.checked.checker text (is ∙ c.in-Ok.ensures.machine) taken sizes counts (lawful taken.told taken.read)))
    c.end.ensures.accepted

pub returns-in-Ok-feed_all-clause-stops : goal.returns-in-Ok-feed_all-clause-stops
returns-in-Ok-feed_all-clause-stops g c =
    let (text, read, sizes, is, taken) = c.in-Ok-feed_all.ensures.taken in
    IfErr-weaker c.end.result _ _
    (λ cause ends. refused-end c.args.machine c.feed_all.new.checked.checker text (is ∙ c.in-Ok.ensures.machine) taken sizes _ _ cause read c.in-Ok-feed_all.ensures.end ends)
    c.end.ensures.ends

pub returns-in-Err-clause-source : goal.returns-in-Err-clause-source
returns-in-Err-clause-source g c = λ is. c.in-Err.ensures.source (let same : c.in-Err.cause ≡ Source = cc in ap Err same)
