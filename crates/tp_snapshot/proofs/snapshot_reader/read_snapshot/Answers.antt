use Rattle.serde_json.specs.View.{view}
use Rattle.tp_snapshot.proofs.PassedFacts.{sound-read}
use Rattle.tp_snapshot.proofs.snapshot_reader.read_snapshot.Goals as goal

pub returns-in-Ok-clause-sound : goal.returns-in-Ok-clause-sound
returns-in-Ok-clause-sound c = sound-read (view c.in-Ok.value) c.opened_in.result c.opened_in.ensures.ok
