use Rattle.rows_engines.proofs.flying_rows.bound_behind_front.Goals as goal

pub end_bound-requires-clause-stands : goal.end_bound-requires-clause-stands
end_bound-requires-clause-stands g c = (c.args.machine.now, c.stop.ensures.stands c.args.machine.now c.in_ok-first.ensures.laid.stands)
