-- A board that was loaded afresh holds the live plans.
use Rattle.tp_search.proofs.HeldFacts.{live-held}
use Rattle.tp_search.proofs.ask_answer.answer.Goals as goal

pub answer_loaded-requires-clause-held : goal.answer_loaded-requires-clause-held
answer_loaded-requires-clause-held g c = live-held c.args.machine.now c.args.schedule.now.plans c.args.ask.now c.load.new.self.plans c.requires.can c.load.ensures.plans
