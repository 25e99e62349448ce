use Rattle.tp_schedule.specs.Spots.Spot.{own}
use Rattle.tp_placing.specs.Boards.{suffix_after}
use Rattle.tp_placing.proofs.ReadFacts.{end-point, known-point, least-tick}
use Rattle.tp_placing.proofs.StandFacts.{and-some}
use Rattle.tp_placing.proofs.board.Board.end_bound.Goals as goal

pub earliest-requires : goal.earliest-requires
earliest-requires g c =
    let a = c.self.inside in
    let st = rw (← c.self.view_is) at c.requires.stands in
    let is_open = rw (← c.self.view_is) at c.requires.open in
    known-point st.0 a.plans.items st.1.0 (suffix_after a.steps.items) a.steps.items (g.N.Network.reading.net a.net) a.timelines.orders a.held.items st.1.1.now a.last.0 (own 0) (end-point a.plans.items (suffix_after a.steps.items) is_open a.last.0 st.1.1.last)

pub returns : goal.returns
returns g c m st' =
    let a = c.self.inside in
    let st = rw (← c.self.view_is) at st' in
    let is_open = rw (← c.self.view_is) at c.requires.open in
    rw (← c.self.view_is) (and-some a.ask st.0 _ st.1.asked
    (least-tick m a.plans.items st.0 (suffix_after a.steps.items) a.steps.items (g.N.Network.reading.net a.net) a.timelines.orders a.held.items st.1.now a.last.0 (own 0) (end-point a.plans.items (suffix_after a.steps.items) is_open a.last.0 st.1.last) c.earliest.result c.earliest.ensures))
