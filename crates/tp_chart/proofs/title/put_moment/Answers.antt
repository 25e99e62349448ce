-- The first tick stands behind the moment.
use Rattle.std.proofs.Common.{ℕ, List, ◌++◌, ◌∙◌, ap, append_assoc}
use Rattle.std.proofs.lemmas.Result.{on_ok_weaker}
use Rattle.std.specs.Prelude.{codes, decimal}
use Rattle.tp_chart.specs.Titles.{from_text, moment_text}
use Rattle.tp_chart.proofs.title.put_moment.Goals as goal

pub returns : goal.returns
unfolding moment_text
returns c =
    on_ok_weaker c.put_from.result
    (λ e. e ∙ ap (λ (os : List ℕ). os ++ from_text c.args.first) c.in_ok-put_count.ensures ∙ append_assoc c.args.out.now.items (codes "The schedule at " ++ decimal c.args.moment) (from_text c.args.first))
    c.put_from.ensures
