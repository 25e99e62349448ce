use Rattle.tp_snapshot.proofs.PassedFacts.{no-text}
use Rattle.tp_snapshot.proofs.snapshot_reader.machine_of.Goals as goal

pub returns-in-Err-NotToml-clause-none : goal.returns-in-Err-NotToml-clause-none
returns-in-Err-NotToml-clause-none c = λ e machine is. c.in-Err-NotToml.ensures.not_toml c.in-Err-NotToml.field-0-is is.0 is.1

pub returns-in-Err-Rule-clause-none : goal.returns-in-Err-Rule-clause-none
returns-in-Err-Rule-clause-none c = λ e machine is. no-text _ c.args.text.now machine (c.in-Err-Rule.ensures.rule _ c.in-Err-Rule.field-0-is) is
