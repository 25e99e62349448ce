-- Each action starts from a location of the machine and leads to one.
use Rattle.std.proofs.Common.{arith}
use Rattle.tp_machine.proofs.MachineFacts.{is_machine}
use Rattle.tp_routes.proofs.index.location_of.Goals as goal

pub returns-in-From-clause-within : goal.returns-in-From-clause-within
returns-in-From-clause-within c = (let h = ((is_machine c.args.machine.now).ways c.args.at c.get-action.result.now c.get-action.ensures).from_known in omega (arith, h, c.from.ensures))

pub returns-in-To-clause-within : goal.returns-in-To-clause-within
returns-in-To-clause-within c = (let h = ((is_machine c.args.machine.now).ways c.args.at c.get-action.result.now c.get-action.ensures).to_known in omega (arith, h, c.from-in-To.ensures))
