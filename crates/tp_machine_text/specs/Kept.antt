-- The rules of a table, each by its name.
use Rattle.std.specs.Prelude.{IsTrue}
use Rattle.toml.specs.Data.{Members}
use Rattle.tp_machine_text.specs.TopRules.{has_known_keys, has_format, has_lead, has_window, has_budget, has_locations, has_modules, has_trays, has_purges}
use Rattle.tp_machine_text.specs.SupplyRules.{has_feeders, has_media, has_resources, has_resource_modules}
use Rattle.tp_machine_text.specs.ActionRules.{has_actions, has_known_action_keys, has_action_names, has_action_modules, has_action_ends, has_ways, has_action_durations, has_action_prints}
use Rattle.tp_machine_text.specs.HoldRules.{has_action_holds, has_hold_begins, has_hold_lengths}
use Rattle.tp_machine_text.specs.AmountRules.{has_gaps, has_stock}

pub record KeepsRules (t : Members) : Type 0 where
  pub known_keys : IsTrue (has_known_keys t)
  pub format : IsTrue (has_format t)
  pub lead : IsTrue (has_lead t)
  pub window : IsTrue (has_window t)
  pub budget : IsTrue (has_budget t)
  pub locations : IsTrue (has_locations t)
  pub modules : IsTrue (has_modules t)
  pub trays : IsTrue (has_trays t)
  pub purges : IsTrue (has_purges t)
  pub feeders : IsTrue (has_feeders t)
  pub media : IsTrue (has_media t)
  pub resources : IsTrue (has_resources t)
  pub resource_modules : IsTrue (has_resource_modules t)
  pub actions : IsTrue (has_actions t)
  pub action_keys : IsTrue (has_known_action_keys t)
  pub action_names : IsTrue (has_action_names t)
  pub action_modules : IsTrue (has_action_modules t)
  pub action_ends : IsTrue (has_action_ends t)
  pub ways : IsTrue (has_ways t)
  pub durations : IsTrue (has_action_durations t)
  pub prints : IsTrue (has_action_prints t)
  pub holds : IsTrue (has_action_holds t)
  pub begins : IsTrue (has_hold_begins t)
  pub lengths : IsTrue (has_hold_lengths t)
  pub gaps : IsTrue (has_gaps t)
  pub stock : IsTrue (has_stock t)
