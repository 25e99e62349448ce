use Rattle.tp_headline.proofs.LawfulLines.{lawful-headline}
use Rattle.tp_headline.specs.Headline.{claims_of}
use Rattle.tp_headline.proofs.laws.lawful_logs_receive_in_order.Goals as goal

pub returns : goal.returns
returns g c machine shown events log lawful = (lawful-headline (claims_of g.T.Trees.none_before g.T.Trees.never) g.T.Trees.spent machine shown events log lawful).lines
