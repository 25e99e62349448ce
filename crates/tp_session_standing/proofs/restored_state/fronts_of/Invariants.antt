use Rattle.std.proofs.Common.{◌≡◌, take}
use Rattle.tp_event_rules.specs.Seen.{fronts_of}
use Rattle.tp_session_standing.proofs.restored_state.fronts_of.Given as goal

abbrev pub invariant-loop-plan : goal.invariant-loop-plan
invariant-loop-plan l = l.fronts.items ≡ fronts_of (take l.plan-index l.fn.plans)
