-- Where no other plan moved, that is all that is reported.
use Rattle.std.proofs.Common.{◌≡◌, ◌∙◌, ◌++◌, OnOk, ap}
use Rattle.std.proofs.lemmas.Result.{on_ok_weaker}
use Rattle.tp_event_records.specs.RecordNames.{told_alone}
use Rattle.tp_event_records.proofs.AloneFacts.{alone-is}
use Rattle.tp_event_records.proofs.answer_records.tell_alone.Goals as goal

pub returns-in-Planned-clause-all : goal.returns-in-Planned-clause-all
returns-in-Planned-clause-all c =
    let machine = c.args.machine.now in
    let ask = c.args.ask.now in
    let before = c.args.notes.now.items in
    let after = c.tell_planned.new.notes.items in
    let plans' = c.args.after.now.plans in
    let alone : OnOk c.tell_planned.result (after ≡ before ++ told_alone machine ask c.args.reply plans') = rw c.in-Planned.is c.tell_planned.ensures in
    on_ok_weaker c.tell_planned.result (λ told plans same. told ∙ ap (λ rs. before ++ rs) (alone-is machine plans plans' ask c.args.reply same)) alone
