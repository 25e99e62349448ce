use Rattle.std.proofs.Common.{ℕ, Vec, Global}
use Rattle.std.proofs.lemmas.Result.{IfOk-weaker}
use Rattle.toml.specs.View.{table_view}
use Rattle.tp_machine.specs.declared.machine.Machine.{Machine}
use Rattle.tp_compose.specs.Texts.{IsMachineOfRack, IsComposed, IsSoundRack, IsTextOf}
use Rattle.tp_compose.proofs.OneRack.{sound_rack}
use Rattle.tp_compose.proofs.rack_machine.compose.Goals as goal

pub returns-in-Ok-clause-ok : goal.returns-in-Ok-clause-ok
returns-in-Ok-clause-ok c =
    let r = table_view c.in-Ok.table in
    IfOk-weaker c.compose_table.result (λ (bytes : Vec ℕ Global). (machine : Machine) × IsMachineOfRack r machine × IsTextOf bytes.items machine) (λ (bytes : Vec ℕ Global). IsComposed c.args.text.now bytes.items)
    (λ bytes made. (r, made.0, record { utf8 = c.in-Ok.ensures.ok.0; parses = c.in-Ok.ensures.ok.1 }, made.1, made.2)) c.compose_table.ensures.ok

pub returns-in-Ok-clause-sound : goal.returns-in-Ok-clause-sound
returns-in-Ok-clause-sound c =
    let r = table_view c.in-Ok.table in
    IfOk-weaker c.compose_table.result (λ (bytes : Vec ℕ Global). (machine : Machine) × IsMachineOfRack r machine × IsTextOf bytes.items machine) (λ (bytes : Vec ℕ Global). IsSoundRack c.args.text.now)
    (λ bytes made. sound_rack c.args.text.now r (record { utf8 = c.in-Ok.ensures.ok.0; parses = c.in-Ok.ensures.ok.1 }) made.1.kept made.1.flat_kept) c.compose_table.ensures.ok
