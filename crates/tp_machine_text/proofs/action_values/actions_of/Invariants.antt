use Rattle.std.proofs.Common.{◌≡◌, ◌++◌, ◌+◌, true, length, map, option_map}
use Rattle.std.specs.List.{list_all}
use Rattle.toml.specs.View.{view, table_view}
use Rattle.tp_machine_text.specs.Words.{text_of, keys_of, members_of}
use Rattle.tp_machine_text.specs.ActionRules.{is_named, has_durations}
use Rattle.tp_machine_text.specs.HoldRules.{has_holds}
use Rattle.tp_machine_text.specs.TheMachine.{action_of}
use Rattle.tp_machine_text.proofs.action_values.actions_of.Given as goal

abbrev pub invariant-actions : goal.invariant-actions
invariant-actions l = record {
  counted : length l.made + length l.rest ≡ length l.fn.actions;
  named : list_all is_named (map view l.rest) ≡ true;
  lasting : list_all has_durations (map view l.rest) ≡ true;
  held : list_all (has_holds (keys_of (members_of (option_map (λ m. table_view m.now) l.resources)))) (map view l.rest) ≡ true;
  whole : l.made ++ map (action_of (map text_of (map view l.locations)) (map text_of (map view l.modules)) (keys_of (members_of (option_map (λ m. table_view m.now) l.resources)))) (map view l.rest)
      ≡ map (action_of (map text_of (map view l.locations)) (map text_of (map view l.modules)) (keys_of (members_of (option_map (λ m. table_view m.now) l.resources)))) (map view l.fn.actions);
}

abbrev pub decreases-actions : goal.decreases-actions
decreases-actions l = length l.rest
