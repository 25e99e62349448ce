use Rattle.std.proofs.Common.{◌≡◌, ◌++◌, ◌+◌, true, length, map, option_map}
use Rattle.std.specs.List.{list_all}
use Rattle.toml.specs.View.{view, table_view}
use Rattle.tp_machine_text.specs.Words.{keys_of, members_of}
use Rattle.tp_machine_text.specs.HoldRules.{is_hold}
use Rattle.tp_machine_text.specs.TheMachine.{hold_of}
use Rattle.tp_machine_text.proofs.action_values.holds_in.Given as goal

abbrev pub invariant-holds : goal.invariant-holds
invariant-holds l = record {
  counted : length l.made + length l.rest ≡ length l.fn.holds;
  kept : list_all (is_hold (keys_of (members_of (option_map (λ m. table_view m.now) l.resources)))) (map view l.rest) ≡ true;
  whole : l.made ++ map (hold_of (keys_of (members_of (option_map (λ m. table_view m.now) l.resources)))) (map view l.rest) ≡ map (hold_of (keys_of (members_of (option_map (λ m. table_view m.now) l.resources)))) (map view l.fn.holds);
}

abbrev pub decreases-holds : goal.decreases-holds
decreases-holds l = length l.rest
