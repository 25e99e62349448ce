use Rattle.std.proofs.Common.{◌≡◌, length, map}
use Rattle.toml.specs.Data.{string}
use Rattle.toml.specs.View.{view, table_view}
use Rattle.tp_machine_text.specs.Words.{text_of}
use Rattle.tp_compose.specs.Racks.{dotted, hyphened, put_all}
use Rattle.tp_compose.proofs.end_rules.put_ports.Given as goal

abbrev pub invariant-ports : goal.invariant-ports
invariant-ports l =
    put_all (map (λ q. (dotted l.part q, string (hyphened l.part q))) (map text_of (map view l.rest))) (table_view l.own)
    ≡ put_all (map (λ q. (dotted l.part q, string (hyphened l.part q))) (map text_of (map view l.ports))) (table_view l.fn.own)

abbrev pub decreases-ports : goal.decreases-ports
decreases-ports l = length l.rest
