use Rattle.std.proofs.Common.{ap, sym, ◌∙◌}
use Rattle.std.specs.List.{slice_get}
use Rattle.tp_constraints.specs.Numbers.{table_of}
use Rattle.tp_schedule.specs.Spots.Spot.{kept}
use Rattle.tp_placing.specs.Boards.{suffix_after}
use Rattle.tp_placing.specs.LoadedBoard.{own_points}
use Rattle.tp_placing.proofs.ReadFacts.{known-point, least-tick}
use Rattle.tp_placing.proofs.StandFacts.{and-some}
use Rattle.tp_placing.proofs.TableFacts.{table-left}
use Rattle.tp_placing.proofs.board.Board.time_of.Goals as goal

pub earliest-requires : goal.earliest-requires
earliest-requires g c =
    let a = c.self.inside in
    let st = rw (← c.self.view_is) at c.requires.stands in
    let at = ap (λ ps. slice_get (table_of ps) c.point_of-number.result.0) (sym c.deref.ensures.value) ∙ c.point_of-number.ensures in
    known-point st.0 a.plans.items st.1.0 (suffix_after a.steps.items) a.steps.items (g.N.Network.reading.net a.net) a.timelines.orders a.held.items st.1.1.now c.point_of-number.result.0 (kept c.args.sheet c.args.point)
    (table-left a.plans.items (own_points (suffix_after a.steps.items)) c.point_of-number.result.0 (kept c.args.sheet c.args.point) at)

pub returns : goal.returns
returns g c m st' =
    let a = c.self.inside in
    let st = rw (← c.self.view_is) at st' in
    let at = ap (λ ps. slice_get (table_of ps) c.point_of-number.result.0) (sym c.deref.ensures.value) ∙ c.point_of-number.ensures in
    rw (← c.self.view_is) (and-some a.ask st.0 _ st.1.asked
    (least-tick m a.plans.items st.0 (suffix_after a.steps.items) a.steps.items (g.N.Network.reading.net a.net) a.timelines.orders a.held.items st.1.now c.point_of-number.result.0 (kept c.args.sheet c.args.point)
    (table-left a.plans.items (own_points (suffix_after a.steps.items)) c.point_of-number.result.0 (kept c.args.sheet c.args.point) at) c.earliest.result c.earliest.ensures))
