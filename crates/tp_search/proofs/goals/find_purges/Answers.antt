use Rattle.std.proofs.Common.{◌≡◌, ◌+◌, ◌*◌, ◌/◌, ap, ◌≤◌, ◌∷◌, ◌++◌, [], length, vec_capacity, sym, subst, ◌∙◌, arith}
use Rattle.tp_machine.specs.declared.parts.State.{State}
use Rattle.tp_schedule.specs.Choices.{IsBound, IsOpen, going}
use Rattle.tp_search.specs.SearchProgress.{list_of_goal}
use Rattle.tp_search.proofs.BoardSteps.{back-trans, ready-back}
use Rattle.tp_search.proofs.GoalFacts.{AreGoalsBelow, goals-all, goals-push, goals-skip}
use Rattle.tp_search.proofs.goals.find_purges.Goals as goal
use Rattle.tp_search.proofs.goals.find_purges.Goals.{in-Some, in_default}

pub try_goal-requires-clause-known : goal.try_goal-requires-clause-known
try_goal-requires-clause-known g c =
    let at : c.state_at.result.loc.0 ≡ c.numbers.number / 8 = ap (λ (s : State). s.loc.0) c.state_at.ensures in
    omega (arith, at)

pub try_goal-requires-clause-ready : goal.try_goal-requires-clause-ready
try_goal-requires-clause-ready g c = ready-back g.N.Network.reading c.args.board.now c.numbers.board c.args.problem.machine.now c.args.problem.ask.now c.numbers.invariant.back c.requires.ready

pub numbers-preserved : goal.numbers-preserved
numbers-preserved g c =
    let i = c.numbers.invariant in
    let found : AreGoalsBelow c.args.problem.machine.now c.args.board.now.plans c.args.problem.ask.now (c.numbers.number + 1) c.match-try_goal.goals.items = elim c.match-try_goal.branch [
      | in-Some w ↦ (let more : c.match-try_goal.goals.items ≡ c.numbers.goals.items ++ w.in-Some.goal ∷ [] = cc w.push_reserved.ensures.items in
          subst (AreGoalsBelow c.args.problem.machine.now c.args.board.now.plans c.args.problem.ask.now (c.numbers.number + 1)) (sym more)
          (goals-push c.args.problem.machine.now c.args.board.now.plans c.args.problem.ask.now c.numbers.number c.numbers.goals.items w.in-Some.goal i.goals (w.in-Some.ensures.state ∙ c.state_at.ensures)
          (subst (λ ps. IsBound c.args.problem.machine.now ps c.args.problem.ask.now (list_of_goal w.in-Some.goal) w.in-Some.goal.bound) i.back.loaded.plans w.in-Some.ensures.bound)))
      | in_default w ↦ (let same : c.match-try_goal.goals.items ≡ c.numbers.goals.items = cc in
          subst (AreGoalsBelow c.args.problem.machine.now c.args.board.now.plans c.args.problem.ask.now (c.numbers.number + 1)) (sym same)
          (goals-skip c.args.problem.machine.now c.args.board.now.plans c.args.problem.ask.now c.numbers.number c.numbers.goals.items i.goals
          (subst (λ s. ¬ IsOpen c.args.problem.machine.now c.args.board.now.plans c.args.problem.ask.now (going s [])) c.state_at.ensures (subst (λ ps. ¬ IsOpen c.args.problem.machine.now ps c.args.problem.ask.now (going c.state_at.result [])) i.back.loaded.plans w.in_default.ensures.none))))
    ] in
    let space : vec_capacity c.args.goals.now ≤ vec_capacity c.match-try_goal.goals = elim c.match-try_goal.branch [
      | in-Some w ↦ (let same : vec_capacity c.match-try_goal.goals ≡ vec_capacity w.push_reserved.new.self = cc in omega (arith, w.push_reserved.ensures.capacity, i.space))
      | in_default w ↦ (let same : vec_capacity c.match-try_goal.goals ≡ vec_capacity c.numbers.goals = cc in omega (arith, i.space))
    ] in
    record {
      goals = found;
      back = back-trans g.N.Network.reading c.args.board.now c.numbers.board c.try_goal.new.board c.args.problem.machine.now i.back c.try_goal.ensures.back;
      space = space;
    }

pub returns-clause-goals : goal.returns-clause-goals
returns-clause-goals g c =
    let last : c.numbers.number ≡ 8 * length c.args.problem.machine.now.locations = omega arith in
    goals-all c.args.problem.machine.now c.args.board.now.plans c.args.problem.ask.now c.numbers.goals.items c.requires.posed.origin
    (subst (λ n. AreGoalsBelow c.args.problem.machine.now c.args.board.now.plans c.args.problem.ask.now n c.numbers.goals.items) last c.numbers.invariant.goals)
