use Rattle.tp_snapshot.proofs.ReadBack.{written-is-read}
use Rattle.tp_snapshot.proofs.Soundness.{is-sound}
use Rattle.tp_snapshot.proofs.Verdicts.{one-read, one-verdict}
use Rattle.tp_snapshot.proofs.laws.snapshots_are_read_back.Goals as goal

pub returns : goal.returns
returns c = record {
  read = written-is-read;
  sound = λ bytes machine t is. is-sound machine is.0 t is.2.kept;
  one = one-read;
  verdict = one-verdict;
}
