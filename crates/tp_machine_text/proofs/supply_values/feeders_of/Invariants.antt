use Rattle.std.proofs.Common.{◌≡◌, ◌++◌, ◌+◌, true, length, map, option_map}
use Rattle.std.specs.List.{list_all}
use Rattle.toml.specs.View.{view, members_view, table_view}
use Rattle.tp_machine_text.specs.Words.{text_of, data_of, members_of, is_name}
use Rattle.tp_machine_text.specs.TheMachine.{feeders_of}
use Rattle.tp_machine_text.proofs.supply_values.feeders_of.Given as goal

abbrev pub invariant-entries : goal.invariant-entries
invariant-entries l = record {
  counted : length l.feeders + length l.key-iterator ≡ length l.table.entries;
  named : list_all is_name (data_of (members_view l.key-iterator)) ≡ true;
  whole : l.feeders ++ feeders_of (map text_of (map view l.locations)) (members_of (option_map (λ m. table_view m.now) l.stocks)) (members_view l.key-iterator)
      ≡ feeders_of (map text_of (map view l.locations)) (members_of (option_map (λ m. table_view m.now) l.stocks)) (table_view l.table);
}
