-- The state before an allowed action, if it has room.
use Rattle.tp_search.proofs.StateFacts.{step_within, only_before, none_before}
use Rattle.tp_search.proofs.states.state_before.Goals as goal

pub room_of-requires-clause-known : goal.room_of-requires-clause-known
room_of-requires-clause-known c =
    step_within c.args.problem.machine.now c.args.act c.get.result.now c.args.problem.ask.now.want c.in_ok-before.before c.args.state c.get.ensures c.in_ok-before.ensures.steps

pub returns-in_err-room-clause-none : goal.returns-in_err-room-clause-none
returns-in_err-room-clause-none c =
    rw c.from_residual-in_err-room.ensures
    (none_before c.args.problem.machine.now c.args.problem.ask.now c.args.act c.get.result.now c.in_ok-before.before c.args.state c.get.ensures c.in_ok-before.ensures.only c.in_err-room.ensures.none)

pub returns-clause-only : goal.returns-clause-only
returns-clause-only c =
    only_before c.args.problem.machine.now c.args.act c.get.result.now c.args.problem.ask.now.want c.in_ok-before.before c.args.state c.get.ensures c.in_ok-before.ensures.only

pub returns-clause-within : goal.returns-clause-within
returns-clause-within c =
    step_within c.args.problem.machine.now c.args.act c.get.result.now c.args.problem.ask.now.want c.in_ok-before.before c.args.state c.get.ensures c.in_ok-before.ensures.steps
