use Rattle.tp_soak.proofs.case_run.count_run.Goals as goal

pub count_log-counts-requires-clause-begins : goal.count_log-counts-requires-clause-begins
count_log-counts-requires-clause-begins c = (c.args.machine, (c.args.budget, c.in-Ok.ensures.standing))
