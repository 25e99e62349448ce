use Rattle.std.proofs.Common.{◌≢◌, ◌<◌}
use Rattle.tp_machine.specs.declared.parts.ActId.{ActId}
use Rattle.tp_event_rules.specs.Labels.{action_name}
use Rattle.tp_log_planner.proofs.action_names.act_named.Given as goal

abbrev pub invariant-acts : goal.invariant-acts
invariant-acts l = (act : ActId) → act.0 < l.at → action_name l.machine act ≢ l.name
