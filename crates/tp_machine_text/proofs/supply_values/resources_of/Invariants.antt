use Rattle.std.proofs.Common.{◌≡◌, ◌++◌, ◌+◌, true, length, map, option_map}
use Rattle.std.specs.List.{list_all}
use Rattle.toml.specs.View.{view, members_view, table_view}
use Rattle.tp_base.specs.NameText.{is_name_text}
use Rattle.tp_machine_text.specs.Words.{text_of, keys_of, members_of}
use Rattle.tp_machine_text.specs.TheMachine.{resources_of}
use Rattle.tp_machine_text.proofs.supply_values.resources_of.Given as goal

abbrev pub invariant-entries : goal.invariant-entries
invariant-entries l = record {
  counted : length l.resources + length l.key-iterator ≡ length (keys_of (table_view l.table));
  named : list_all is_name_text (keys_of (members_view l.key-iterator)) ≡ true;
  whole : l.resources ++ resources_of (map text_of (map view l.modules)) (members_of (option_map (λ m. table_view m.now) l.gaps)) (members_view l.key-iterator)
      ≡ resources_of (map text_of (map view l.modules)) (members_of (option_map (λ m. table_view m.now) l.gaps)) (table_view l.table);
}
