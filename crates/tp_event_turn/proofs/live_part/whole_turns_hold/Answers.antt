use Rattle.tp_event_rules.specs.Planners.{right_steps}
use Rattle.tp_event_turn.proofs.WholeEvents.{whole-clock_holds, whole-turns_hold}
use Rattle.tp_event_turn.proofs.live_part.whole_turns_hold.Goals as goal

pub returns-clause-turns : goal.returns-clause-turns
returns-clause-turns g c machine = whole-turns_hold (right_steps g.P.Planner.rules machine) machine (λ p. g.P.Planner.rules.spent p)
    (record { right = λ p p' plans whole ask reply does. does.0; settles_right = λ p p' plans whole now does. does.0 })

pub returns-clause-clock : goal.returns-clause-clock
returns-clause-clock g c machine = whole-clock_holds (right_steps g.P.Planner.rules machine) machine (λ p. g.P.Planner.rules.spent p)
    (record { right = λ p p' plans whole ask reply does. does.0; settles_right = λ p p' plans whole now does. does.0 })
