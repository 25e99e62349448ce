-- What the session told is the log of a run.
use Rattle.std.proofs.Common.{true}
use Rattle.tp_soak.proofs.Counted.{counted_run, is_log_text}
use Rattle.tp_soak.proofs.case_run.count_log.Goals as goal

pub count_text-requires : goal.count_text-requires
count_text-requires c =
    let machine = c.requires.begins.0 in
    let budget = c.requires.begins.1.0 in
    is_log_text machine budget c.args.events.now c.answer_all.new.session.text c.text.result.now c.text.ensures c.args.session.now.standing c.answer_all.new.session.standing
    (c.sessions_are_lawful.ensures.told machine budget true) c.requires.begins.1.1 c.in_ok-answer_all.ensures

pub returns : goal.returns
returns c = λ machine budget begins.
    counted_run machine budget c.args.events.now c.answer_all.new.session.text c.text.result.now c.text.ensures c.args.session.now.standing c.answer_all.new.session.standing
    (c.sessions_are_lawful.ensures.told machine budget true) begins c.in_ok-answer_all.ensures c.count_text.result c.count_text.ensures
