use Rattle.tp_headline.proofs.LawfulAnswers.{plans-earliest}
use Rattle.tp_headline.specs.Headline.{claims_of}
use Rattle.tp_headline.proofs.laws.lawful_plans_are_earliest.Goals as goal

pub returns : goal.returns
returns g c = plans-earliest (claims_of g.T.Trees.none_before g.T.Trees.never) g.T.Trees.spent
