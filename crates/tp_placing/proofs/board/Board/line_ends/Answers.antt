use Rattle.std.proofs.Common.{IfSome, sym, subst, ◌∙◌}
use Rattle.tp_placing.specs.Edges.{first_end, is_ahead, is_behind, last_end}
use Rattle.tp_placing.specs.ReadOrders.{IsEndIn}
use Rattle.tp_placing.proofs.LineFacts.{first-end-in, last-end-in}
use Rattle.tp_placing.proofs.board.Board.line_ends.Goals as goal

pub returns-clause-ahead : goal.returns-clause-ahead
returns-clause-ahead g c =
    let a = c.self.inside in
    let st = rw (← c.self.view_is) at c.requires.stands in
    let wanted = is_ahead c.args.ask.now in
    let plans = c.deref.ensures.value in
    let firsts = c.deref-2.ensures.value in
    rw (← c.self.view_is) (subst (λ o. IfSome o (IsEndIn wanted a.plans.items)) (sym (c.ends_beside.ensures.ahead ∙ (λ i. last_end wanted (plans i) (firsts i))))
    (last-end-in wanted a.plans.items a.firsts.items st.1.1.firsts))

pub returns-clause-behind : goal.returns-clause-behind
returns-clause-behind g c =
    let a = c.self.inside in
    let st = rw (← c.self.view_is) at c.requires.stands in
    let wanted = is_behind c.args.ask.now in
    let plans = c.deref.ensures.value in
    let firsts = c.deref-2.ensures.value in
    rw (← c.self.view_is) (subst (λ o. IfSome o (IsEndIn wanted a.plans.items)) (sym (c.ends_beside.ensures.behind ∙ (λ i. first_end wanted (plans i) (firsts i))))
    (first-end-in wanted a.plans.items a.firsts.items st.1.1.firsts))
