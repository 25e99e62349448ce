use Rattle.tp_headline.proofs.LawfulAnswers.{budgets-spent}
use Rattle.tp_headline.specs.Headline.{claims_of}
use Rattle.tp_headline.proofs.laws.lawful_budgets_are_spent.Goals as goal

pub returns : goal.returns
returns g c = budgets-spent (claims_of g.T.Trees.none_before g.T.Trees.never) g.T.Trees.spent
