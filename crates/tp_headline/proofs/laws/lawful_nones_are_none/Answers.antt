use Rattle.tp_headline.proofs.LawfulAnswers.{nones-none}
use Rattle.tp_headline.specs.Headline.{claims_of}
use Rattle.tp_headline.proofs.laws.lawful_nones_are_none.Goals as goal

pub returns : goal.returns
returns g c = nones-none (claims_of g.T.Trees.none_before g.T.Trees.never) g.T.Trees.spent
