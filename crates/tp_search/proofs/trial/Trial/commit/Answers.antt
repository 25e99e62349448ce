use Rattle.std.proofs.Common.{subst, IsSomeAnd}
use Rattle.tp_schedule.specs.Answers.{IsAlternative}
use Rattle.tp_schedule.specs.Plans.{end_of_plan}
use Rattle.tp_schedule.specs.Spots.Spot.{own}
use Rattle.tp_placing.specs.Ticks.{HasLeastTick}
use Rattle.tp_placing.specs.Commits.{IsHeldFrom}
use Rattle.tp_placing.proofs.StandFacts.{and-some}
use Rattle.tp_search.specs.Trials.{IsEarliestTo}
use Rattle.tp_search.proofs.HeldFacts.{none_before-from}
use Rattle.tp_search.proofs.TrialFacts.{earliest-to, same-end, trial-back}
use Rattle.tp_search.proofs.trial.Trial.commit.Goals as goal

pub returns-clause-earliest : goal.returns-clause-earliest
returns-clause-earliest g c =
    let b = c.args.self.board.now in
    let t = c.requires.trial.1 in
    let from = subst (λ o. IsSomeAnd o (λ ask. IsHeldFrom c.args.machine.now c.args.schedule.now.plans ask b.plans)) t.asked c.requires.held in
    let done = subst (λ o. IsSomeAnd o (λ ask. (a : IsAlternative c.args.machine.now c.args.schedule.now.plans ask c.commit-moved.new.schedule.plans) × HasLeastTick c.args.machine.now b (own 0) (end_of_plan a.plan))) t.asked c.commit-moved.ensures.alternative in
    and-some b.ask t.ask (λ ask. IsEarliestTo c.args.machine.now c.args.schedule.now.plans ask c.args.self.end c.commit-moved.new.schedule.plans) t.asked
    (earliest-to c.args.machine.now c.args.schedule.now.plans t.ask c.args.self.end (none_before-from c.args.machine.now c.args.schedule.now.plans t.ask b.plans from c.args.self.end t.none_before)
    c.commit-moved.new.schedule.plans done.0 (same-end c.args.machine.now b t.ask t.asked (end_of_plan done.0.plan) c.args.self.end done.1 t.ends))

pub returns-clause-back : goal.returns-clause-back
returns-clause-back g c b m trial =
    let u = c.undo_to.ensures in
    trial-back g.N.Network.reading b m c.args.self g.N.Undo.untouched c.marks_keep_boards.ensures.back c.undo_to.new.self trial
    (record { content_then = u.content; past_less = u.past; untouched_same = u.untouched; room_same = u.capacity })
