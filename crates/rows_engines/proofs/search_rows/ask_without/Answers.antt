use Rattle.rows_engines.proofs.search_rows.ask_without.Goals as goal

pub returns-clause-goal : goal.returns-clause-goal
returns-clause-goal c = rw c.ask_for-ask.ensures.goal (c.in_ok-goal.ensures (record c.ask_for-ask.result { outs = c.args.outs }))
