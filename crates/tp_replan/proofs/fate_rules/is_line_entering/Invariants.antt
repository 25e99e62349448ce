use Rattle.std.proofs.Common.{◌≡◌, ◌&&◌, false, take}
use Rattle.std.specs.List.{list_any}
use Rattle.tp_event_rules.specs.FallBacks.{is_later}
use Rattle.tp_event_rules.specs.LiveStates.{seen}
use Rattle.tp_event_rules.specs.Moments.{is_entering}
use Rattle.tp_replan.proofs.fate_rules.is_line_entering.Given as goal

abbrev pub invariant-loop-at : goal.invariant-loop-at
invariant-loop-at l =
    list_any (λ p. is_later (seen l.state) l.copy p && is_entering l.state.moment p) (take l.at l.state.schedule.plans) ≡ false
