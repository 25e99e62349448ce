-- Each answer leads on, and less of the work is left.
use Rattle.std.proofs.Common.{rules, ◌+◌, arith, sym, ◌∙◌, subst}
use Rattle.tp_event_rules.specs.LiveStates.{seen}
use Rattle.tp_event_rules.specs.Loops.{due_by}
use Rattle.tp_event_rules.specs.Planners.{right_steps}
use Rattle.tp_replan.specs.LooseLoop.{copies_left}
use Rattle.tp_replan.proofs.InLoop.{answered-can, goes-on, less-left, stops}
use Rattle.tp_replan.proofs.loose_loop.run_loop.Goals as goal

pub loose-smaller : goal.loose-smaller
loose-smaller g c =
    let m = c.args.machine.now in
    less-left (right_steps g.P.Planner.rules m) m g.P.Planner.rules.spent
    (λ p plans deed plans' p' does. does.0) (copies_left (seen c.args.state.now) + 1) (seen c.loose.state) c.loose.planner
    c.loose.notes.items (seen c.answer_loose.new.state) c.answer_loose.new.planner c.answer_loose.new.notes.items
    c.loose.invariant.under_way.can (omega (arith, c.loose.invariant.few)) c.in_ok-answer_loose.ensures.answered

pub loose-preserved : goal.loose-preserved
loose-preserved g c =
    let m = c.args.machine.now in
    let s = seen c.loose.state in
    let t = seen c.answer_loose.new.state in
    let steps = right_steps g.P.Planner.rules m in
    let notes = c.loose.notes.items in
    let last = c.answer_loose.new.notes.items in
    let planner = c.answer_loose.new.planner in
    let inv = c.loose.invariant in
    let answered = c.in_ok-answer_loose.ensures.answered in
    let less = (answered-can steps m g.P.Planner.rules.spent (λ p plans deed plans' p' does. does.0) s c.loose.planner notes t planner last
    inv.under_way.can answered).1 in
    record {
      under_way = goes-on steps m g.P.Planner.rules.spent (λ p plans deed plans' p' does. does.0) (seen c.args.state.now) c.args.planner.now
          c.args.notes.now.items s c.loose.planner notes t planner last inv.under_way answered;
      few = omega (arith, inv.few, less.copies);
      counted = omega (arith, inv.counted, c.in_ok-answer_loose.ensures.keeps.counted);
      serves = c.in_ok-answer_loose.ensures.keeps.still_serves;
      marked = c.in_ok-answer_loose.ensures.marked ∙ inv.marked;
      lasts = c.in_ok-answer_loose.ensures.keeps.lasts ∙ inv.lasts;
    }

pub returns-in_err-answer_loose-clause-stopped : goal.returns-in_err-answer_loose-clause-stopped
returns-in_err-answer_loose-clause-stopped g c = λ e.
    let m = c.args.machine.now in
    let s = seen c.loose.state in
    let steps = right_steps g.P.Planner.rules m in
    let is_due = sym c.next_ask.ensures ∙ c.in-Some.is in
    let stays = c.in_err-answer_loose.ensures.stopped (search rules) in
    let all = stops steps m g.P.Planner.rules.spent (λ p plans deed plans' p' does. does.0) (seen c.args.state.now) c.args.planner.now
    c.args.notes.now.items s c.loose.planner c.loose.notes.items c.answer_loose.new.planner c.loose.invariant.under_way
    (subst (λ o. g.P.Planner.rules.stop_steps c.loose.planner m s.plans (due_by s.now o) c.answer_loose.new.planner) (sym is_due) stays.holds) in
    (all.0, stays.same ∙ all.1, all.2)
