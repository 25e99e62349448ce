-- There is no machine, or the run on it.
use Rattle.std.proofs.Common.{inl, inr, refl}
use Rattle.std.specs.Prelude.{true, unwrap_or}
use Rattle.tp_command.specs.App.{seen}
use Rattle.tp_run_laws.proofs.Lawful.{whole-empty}
use Rattle.tp_event_rules.specs.States.{empty_state}
use Rattle.tp_program.proofs.PromisedFacts.{promised}
use Rattle.tp_program.proofs.run_mode.run.Goals as goal

pub returns-in-Ok-clause-ends : goal.returns-in-Ok-clause-ends
returns-in-Ok-clause-ends g c = inr (record {
  machine = c.in-Ok.machine;
  text = c.in-Ok.ensures.found;
  did =
      let m = c.in-Ok.machine in
      let asked = seen c.args.request.now in
      let budget = unwrap_or asked.budget m.budget in
      promised m budget asked.bounds _ _ _ _ (c.runs_keep_promises.ensures.answered m budget asked.bounds) (c.runs_keep_promises.ensures.stopped m budget asked.bounds) _ (c.run_on.ensures.ends empty_state (whole-empty m 0 true));
})

pub returns-in-Err-clause-ends : goal.returns-in-Err-clause-ends
returns-in-Err-clause-ends g c = inl (c.in-Err.ensures.none, refl, refl)
