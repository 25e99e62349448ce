-- The front of a copy in flight, or the feeders.
use Rattle.std.proofs.Common.{length}
use Rattle.tp_routes.proofs.StartFacts.{filling-empty, spread-empty}
use Rattle.tp_routes.proofs.start_states.start.Goals as goal

pub offer-requires-clause-filling : goal.offer-requires-clause-filling
offer-requires-clause-filling c = filling-empty c.args.machine.now c.args.ask.now c.args.sums.now c.args.waiting.now.items (length c.args.sums.now) c.requires.empty c.requires.none c.requires.states

pub start_fresh-requires-clause-filling : goal.start_fresh-requires-clause-filling
start_fresh-requires-clause-filling c = filling-empty c.args.machine.now c.args.ask.now c.args.sums.now c.args.waiting.now.items (length c.args.sums.now) c.requires.empty c.requires.none c.requires.states

pub returns-in-Front-clause-spread : goal.returns-in-Front-clause-spread
returns-in-Front-clause-spread c busy = c.offer.ensures.spread busy (length c.args.machine.now.actions) (spread-empty c.args.machine.now c.args.ask.now c.args.sums.now c.args.waiting.now.items (length c.args.sums.now) c.requires.empty busy (length c.args.machine.now.actions))
