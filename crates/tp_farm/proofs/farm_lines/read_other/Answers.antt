-- The address of a line that doesn't begin with at.
use Rattle.std.proofs.Common.{ap, ◌∙◌}
use Rattle.std.proofs.Common.{Some}
use Rattle.tp_farm.proofs.AddressFacts.{echoed_of, plain_bad, plain_none, plain_some}
use Rattle.tp_farm.proofs.farm_lines.read_other.Goals as goal

pub without_number-requires : goal.without_number-requires
without_number-requires c = echoed_of _ c.in-Ok-Some.event (rw c.in-Ok-Some.field-0-is at c.in-Ok-Some.ensures)

pub returns-in-Ok-Some-clause-address : goal.returns-in-Ok-Some-clause-address
returns-in-Ok-Some-clause-address c =
    ap (λ a. Some a) c.without_number.ensures.address ∙ plain_some c.args.line.now c.in-Ok-Some.event (rw c.in-Ok-Some.field-0-is at c.in-Ok-Some.ensures)

pub returns-in-Ok-None-clause-address : goal.returns-in-Ok-None-clause-address
returns-in-Ok-None-clause-address c = plain_none c.args.line.now (rw c.in-Ok-None.field-0-is at c.in-Ok-None.ensures)

pub returns-in-Err-Syntax-clause-address : goal.returns-in-Err-Syntax-clause-address
returns-in-Err-Syntax-clause-address c =
    ap (λ a. Some a) c.bad_line.ensures ∙ plain_bad c.args.line.now (rw c.in-Err-Syntax.field-0-is at c.in-Err-Syntax.ensures)
