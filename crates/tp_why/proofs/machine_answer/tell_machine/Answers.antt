use Rattle.std.proofs.Common.{refl, string_bytes}
use Rattle.std.proofs.lemmas.Result.{IfOk-weaker}
use Rattle.toml.specs.View.{table_view}
use Rattle.tp_why.specs.Answers.{TellsMachine}
use Rattle.tp_machine_text.specs.MachineSlips.{first_slip}
use Rattle.tp_why.proofs.Told.{tells}
use Rattle.tp_why.proofs.machine_answer.tell_machine.Goals as goal

pub returns-in-Ok : goal.returns-in-Ok
returns-in-Ok c =
    let t = table_view c.in-Ok.table in
    IfOk-weaker c.tell_table.result _ (λ a. TellsMachine c.args.text.now (string_bytes a))
    (λ a same. tells c.args.text.now (string_bytes a) t (record { utf8 = c.in-Ok.ensures.ok.0; parses = c.in-Ok.ensures.ok.1 }) (first_slip t) refl same) c.tell_table.ensures
