use Rattle.std.proofs.Common.{◌≡◌, length, map}
use Rattle.toml.specs.Data.{string}
use Rattle.toml.specs.View.{view, table_view}
use Rattle.tp_machine_text.specs.Words.{text_of}
use Rattle.tp_compose.specs.Racks.{hyphened, put_all}
use Rattle.tp_compose.proofs.flat_table.put_resources.Given as goal

abbrev pub invariant-names : goal.invariant-names
invariant-names l =
    put_all (map (λ s. (hyphened l.part s, string l.part)) (map text_of (map view l.rest))) (table_view l.resources)
    ≡ put_all (map (λ s. (hyphened l.part s, string l.part)) (map text_of (map view l.names))) (table_view l.fn.resources)

abbrev pub decreases-names : goal.decreases-names
decreases-names l = length l.rest
