-- The table of a machine breaks no rule and holds no date.
use Rattle.std.proofs.Common.{Err, ap}
use Rattle.toml.specs.View.{table_view}
use Rattle.tp_machine_text.proofs.Dateless.{no_date}
use Rattle.tp_machine_text.proofs.PrintedText.{printed, reads-back}
use Rattle.tp_machine_text.proofs.machine_printer.print_machine.Goals as goal

pub returns-in-Ok-clause-reads : goal.returns-in-Ok-clause-reads
returns-in-Ok-clause-reads c =
    reads-back c.args.machine.now (table_view c.in_ok-table.table) _ c.bytes_of.result.items c.in_ok-table.ensures c.bytes_of.ensures.utf8 c.in-Ok.ensures.reads_back c.bytes_of.ensures.bytes

pub returns-in-Ok-clause-printed : goal.returns-in-Ok-clause-printed
returns-in-Ok-clause-printed c =
    printed c.args.machine.now (table_view c.in_ok-table.table) _ c.bytes_of.result.items c.in_ok-table.ensures c.bytes_of.ensures.utf8 c.in-Ok.ensures.reads_back c.in-Ok.ensures.text c.bytes_of.ensures.bytes

pub unreachable-requires : goal.unreachable-requires
unreachable-requires c = no_date c.args.machine.now (table_view c.in_ok-table.table) c.in_ok-table.ensures (c.in-Err-DateInvalid.ensures.dates.0 (ap Err c.in-Err-DateInvalid.field-0-is))
