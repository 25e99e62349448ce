use Rattle.std.proofs.Common.{◌≡◌, None}
use Rattle.std.proofs.lemmas.Result.{IfOk-weaker}
use Rattle.toml.specs.View.{table_view}
use Rattle.tp_machine_text.specs.Broken.{first_broken}
use Rattle.tp_machine_text.specs.Texts.{IsSound}
use Rattle.tp_machine_text.proofs.OneTable.{sound}
use Rattle.tp_machine_text.proofs.machine_reader.read_machine.Goals as goal

pub returns-in-Ok-clause-sound : goal.returns-in-Ok-clause-sound
returns-in-Ok-clause-sound c =
    let t = table_view c.in-Ok.table in
    IfOk-weaker c.read_table.result (λ m. first_broken t ≡ None) (λ m. IsSound c.args.text.now)
    (λ m none. sound c.args.text.now t (record { utf8 = c.in-Ok.ensures.ok.0; parses = c.in-Ok.ensures.ok.1 }) none) c.read_table.ensures.kept
