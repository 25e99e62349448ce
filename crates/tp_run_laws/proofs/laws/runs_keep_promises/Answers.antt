use Rattle.tp_run_laws.proofs.Promises.{first-runs-keep, keeps-promises}
use Rattle.tp_run_laws.proofs.laws.runs_keep_promises.Goals as goal

pub returns-clause-lawful : goal.returns-clause-lawful
returns-clause-lawful c machine nodes bounds events log run = keeps-promises machine nodes bounds events log run

pub returns-clause-answered : goal.returns-clause-answered
returns-clause-answered c machine nodes bounds script taken taken' answered = first-runs-keep machine nodes bounds _ answered.run.log answered.run.last answered.run.run

pub returns-clause-stopped : goal.returns-clause-stopped
returns-clause-stopped c machine nodes bounds stop script left left' taken taken' answered = first-runs-keep machine nodes bounds _ answered.run.log answered.run.last answered.run.run
