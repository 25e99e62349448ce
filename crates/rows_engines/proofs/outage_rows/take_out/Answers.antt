-- Nothing is planned and no job came.
use Rattle.std.proofs.Common.{[], subst, sym}
use Rattle.tp_event_rules.specs.Seen.{state_seen}
use Rattle.tp_replan.specs.LooseLoop.{CanBeginLoop}
use Rattle.rows_engines.proofs.OutFacts.{empty-goes_out}
use Rattle.rows_engines.proofs.outage_rows.take_out.Goals as goal

pub handle_out-requires-clause-can : goal.handle_out-requires-clause-can
handle_out-requires-clause-can g c =
    subst (λ ps. CanBeginLoop c.args.machine.now (state_seen 0 ps c.args.lines.now (record { 0 = 0 }))) (sym c.requires.plans)
    (subst (λ l. CanBeginLoop c.args.machine.now (state_seen 0 [] l (record { 0 = 0 }))) (sym c.requires.lines) (empty-goes_out c.args.machine.now))
