-- What the parts keep is what the lines keep.
use Rattle.tp_jobs.proofs.KeptFacts.{kept-backlog}
use Rattle.tp_jobs.proofs.lines.Lines.kept.Goals as goal

pub returns : goal.returns
returns c = kept-backlog c.self.inside.names.keys c.args.self.now (rw (← c.self.view_is) c.self.invariant.now)
