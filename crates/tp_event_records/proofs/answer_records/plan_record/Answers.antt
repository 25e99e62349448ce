-- The actions of a plan in time are the machine's.
use Rattle.tp_event_records.proofs.NameFacts.{acts-known}
use Rattle.tp_event_records.proofs.answer_records.plan_record.Goals as goal

pub names_from-requires : goal.names_from-requires
names_from-requires c = acts-known c.args.machine.now c.args.plan.now c.requires
