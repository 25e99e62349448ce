-- The events of a case are those that its list has.
use Rattle.std.proofs.Common.{subst}
use Rattle.std.specs.Prelude.{IfOk, unwrap_or}
use Rattle.tp_soak.specs.Summaries.{IsCountedRun}
use Rattle.tp_soak.proofs.case_run.count_case.Goals as goal

pub returns : goal.returns
returns c =
    subst (λ events. IfOk c.count_run.result (IsCountedRun c.args.case.machine (unwrap_or c.args.budget c.args.case.machine.budget) events)) c.deref.ensures.value c.count_run.ensures
