use Rattle.rows_engines.proofs.engine_rows.first_tray_ask.Goals as goal

pub returns-clause-goal : goal.returns-clause-goal
returns-clause-goal c =
    let ask = c.ask_for-ask.result in
    rw c.ask_for-ask.ensures.goal (c.in_ok-goal.ensures (record ask { want = record ask.want { front = c.args.prints.0; back = c.args.prints.1 } }))
