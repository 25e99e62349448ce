use Rattle.rows_engines.proofs.board_rows.open.Goals as goal

pub end_bound-requires-clause-stands : goal.end_bound-requires-clause-stands
end_bound-requires-clause-stands g c = (c.args.machine.now, c.open_goal.ensures.stands c.args.machine.now c.requires.new.stands)
