use Rattle.tp_snapshot.proofs.OneTold.{one-told}
use Rattle.tp_snapshot.proofs.ToldBack.{written-is-told}
use Rattle.tp_snapshot.proofs.laws.standings_are_read_back.Goals as goal

pub returns : goal.returns
returns c = record { told = written-is-told; one = one-told }
