-- The board was made ready for the ask, and holds what it held then.
use Rattle.std.proofs.Common.{◌∙◌, ap, subst, sym}
use Rattle.tp_placing.proofs.StandFacts.{and-some}
use Rattle.tp_placing.specs.Calls.{IsSameLoad}
use Rattle.tp_placing.specs.KeptBoard.{HoldsOthers}
use Rattle.tp_routes.specs.Tables.{KeepsRooms}
use Rattle.tp_search.proofs.EngineFacts.{holds-others}
use Rattle.tp_search.proofs.engine.Engine.answer.Goals as goal

pub answer_ready-requires-clause-exact : goal.answer_ready-requires-clause-exact
answer_ready-requires-clause-exact g c is = c.ready.ensures.exact (sym c.ready.ensures.same.bounds ∙ is)

pub returns-clause-follows : goal.returns-clause-follows
returns-clause-follows g c still =
    let machine = c.args.machine.now in
    let ask = c.args.ask.now in
    let new = c.answer_ready.new.schedule.plans in
    let board = c.self-2.inside.board in
    let same : IsSameLoad c.ready.new.self.board board = subst (IsSameLoad c.ready.new.self.board) (sym (ap (λ e. e.board) c.self-2.view_is)) c.answer_ready.ensures.loaded in
    let holds = holds-others machine c.make_spare.new.schedule.plans new ask c.ready.new.self.board.plans c.ready.ensures.held (c.in_ok-answered.ensures.unmoved still) in (
      and-some board.ask ask (λ a. HoldsOthers machine a new board.plans) (same.ask ∙ c.ready.ensures.asked) (subst (HoldsOthers machine ask new) (sym same.plans) holds),
      subst (λ e. KeepsRooms e.work.rooms machine) (sym c.self-2.view_is) c.answer_ready.ensures.keeps,
    )
