use Rattle.std.proofs.Common.{◌≡◌, option_map}
use Rattle.std.specs.List.{flat_map}
use Rattle.toml.specs.View.{members_view, table_view}
use Rattle.tp_machine_text.specs.Words.{members_of}
use Rattle.tp_compose.specs.Racks.{part_ends, typed, put_all}
use Rattle.tp_compose.proofs.end_rules.put_parts.Given as goal

abbrev pub invariant-entries : goal.invariant-entries
invariant-entries l =
    put_all (flat_map part_ends (typed (members_of (option_map (λ m. table_view m.now) l.types)) (members_view l.part-iterator))) (table_view l.own)
    ≡ put_all (flat_map part_ends (typed (members_of (option_map (λ m. table_view m.now) l.types)) (table_view l.parts))) (table_view l.fn.own)
