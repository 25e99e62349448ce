use Rattle.tp_program.proofs.JoinedLogFacts.{resumed-join}
use Rattle.tp_program.proofs.joined_logs.resumed_logs_join.Goals as goal

pub returns : goal.returns
returns c =
    resumed-join c.snapshots_are_read_back.ensures.one
    (λ machine budget bounds. c.answered_events_go_on.ensures.join machine budget bounds)
    (λ machine budget bounds. c.answered_events_go_on.ensures.lawful machine budget bounds)
