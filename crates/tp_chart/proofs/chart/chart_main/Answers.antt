-- The picture on the machine of the text that the words name.
use Rattle.std.proofs.Common.{IfSome, Option, subst, sym}
use Rattle.std.specs.Option.{IsSomeAnd}
use Rattle.tp_log.specs.Logs.{IsFirstOff}
use Rattle.tp_chart.specs.Lines.{log_in}
use Rattle.tp_chart.specs.Words.{Asked, seen}
use Rattle.tp_chart.proofs.chart.chart_main.Goals as goal

pub returns-in-Ok-find_start-clause-line : goal.returns-in-Ok-find_start-clause-line
returns-in-Ok-find_start-clause-line g c =
    λ n e. subst (λ (o : Option Asked). IsSomeAnd o (λ asked. IfSome (g.S.Source.left c.args.source.now) (λ bytes. IsFirstOff n (log_in asked.number bytes)))) (sym c.in-Ok.ensures.ok) (c.show.ensures.line n e)

pub returns-in-Ok-find_start-clause-done : goal.returns-in-Ok-find_start-clause-done
returns-in-Ok-find_start-clause-done g c = λ e. record {
  asked = seen c.in-Ok.request;
  named = c.in-Ok.ensures.ok;
  machine = c.in-Ok-find_start.start.machine;
  start = c.in-Ok-find_start.start.scene;
  text = c.in-Ok-find_start.ensures.found;
  shows = c.show.ensures.done e;
}
