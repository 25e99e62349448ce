use Rattle.std.proofs.Common.{None, sym, subst, ◌∙◌}
use Rattle.tp_search.specs.Outcomes.{CanLay}
use Rattle.tp_search.proofs.HoldFacts.{over-plans, since-more}
use Rattle.tp_search.proofs.held_list.lay_anew.Goals as goal

pub mark_anew-base-requires : goal.mark_anew-base-requires
mark_anew-base-requires g c = record { over = (c.requires.over.0, c.args.problem.machine.now, c.args.problem.ask.now, c.requires.over.2, c.requires.over.3) }

pub lay_list-laid-requires-clause-ready : goal.lay_list-laid-requires-clause-ready
lay_list-laid-requires-clause-ready g c = c.mark_anew-base.ensures.ready c.requires.over.0 c.args.problem.machine.now c.args.problem.ask.now c.requires.over.1 c.requires.over.3

pub lay_list-laid-requires-clause-can : goal.lay_list-laid-requires-clause-can
lay_list-laid-requires-clause-can g c =
    let same = (c.mark_anew-base.ensures.since c.requires.over.0 c.args.problem.machine.now c.args.problem.ask.now c.requires.over.1 c.requires.over.3).loaded.plans ∙ sym (over-plans g.N.Network.reading c.requires.over.0 c.args.board.now c.args.problem.machine.now c.args.problem.ask.now c.args.held c.requires.over.3) in
    subst (λ ps. CanLay c.args.problem.machine.now ps c.args.problem.ask.now c.args.store.now c.args.next.now) (sym same) c.requires.can

pub returns-clause-since : goal.returns-clause-since
returns-clause-since g c b ready over =
    since-more g.N.Network.reading b c.mark_anew-base.new.board c.args.problem.machine.now c.args.problem.ask.now c.mark_anew-base.result.0 None (c.mark_anew-base.ensures.since b c.args.problem.machine.now c.args.problem.ask.now ready over) c.lay_list-laid.new.board c.lay_list-laid.ensures.same c.lay_list-laid.ensures.laid.stands
