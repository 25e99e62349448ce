use Rattle.std.proofs.Common.{arith}
use Rattle.rows_engines.proofs.AskFacts.{can_go_on, can_place}
use Rattle.rows_engines.proofs.board_rows.choose.Goals as goal

pub open_action-requires-clause-ready : goal.open_action-requires-clause-ready
open_action-requires-clause-ready g c = can_go_on _ _ c.requires.new.new c.requires.open.0 (let few = c.requires.few in let points = c.requires.open.1 in omega arith)

pub end_bound-opened-requires-clause-stands : goal.end_bound-opened-requires-clause-stands
end_bound-opened-requires-clause-stands g c = (c.args.machine.now, c.open_action.ensures.stands)

pub end_bound-placed-requires-clause-stands : goal.end_bound-placed-requires-clause-stands
end_bound-placed-requires-clause-stands g c = (c.args.machine.now, c.place.ensures.stands)

pub place-requires-clause-next : goal.place-requires-clause-next
place-requires-clause-next g c =
    can_place c.args.machine.now c.open_action.new.self.plans c.args.act c.args.room _ _ c.get.result.now c.get-2.result.now c.in-Ok.ensures.suffix c.get.ensures c.get-2.ensures
