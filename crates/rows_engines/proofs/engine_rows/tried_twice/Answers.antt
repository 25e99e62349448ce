-- The board was loaded afresh, and a trial that is abandoned leaves it ready.
use Rattle.tp_search.proofs.HeldFacts.{live-held}
use Rattle.rows_engines.specs.ReadyBoard.{IsReady}
use Rattle.rows_engines.proofs.engine_rows.tried_twice.Goals as goal
use Rattle.rows_engines.proofs.engine_rows.tried_twice.Goals.{After-load}

begun : (g : _) (c : After-load g) → IsReady g.N.Network.reading c.load.new.self c.args.machine.now c.args.schedule.now.plans c.args.ask.now
begun g c = record {
  held = live-held c.args.machine.now c.args.schedule.now.plans c.args.ask.now c.load.new.self.plans c.requires.can_ask c.load.ensures.plans;
  stands = c.load.ensures.stands;
  asked = c.load.ensures.asked;
  closed = c.load.ensures.closed;
  unmarked = c.load.ensures.past;
}

pub tried_end-requires-clause-ready : goal.tried_end-requires-clause-ready
tried_end-requires-clause-ready g c = (c.args.schedule.now.plans, begun g (goal.at.tried_end-requires-clause-ready g c).After-load)

pub commit_plan-requires-clause-ready : goal.commit_plan-requires-clause-ready
commit_plan-requires-clause-ready g c = c.in_ok-end.ensures.ready c.args.schedule.now.plans (begun g (goal.at.commit_plan-requires-clause-ready g c).After-load)
