-- A copy that waits stands right before the first one behind it.
use Rattle.std.proofs.Common.{◌≡◌, ◌-◌, arith}
use Rattle.tp_jobs.proofs.PlaceFacts.{stands}
use Rattle.tp_jobs.proofs.waiting_queue.place_of.Goals as goal

pub overflow_sub-result : goal.overflow_sub-result
overflow_sub-result c =
    let at = stands c.args.copy c.args.waiting.now.items c.requires.in_order c.requires.waits in
    omega (arith, c.place_behind.ensures.place, at.1.before)

pub returns-clause-place : goal.returns-clause-place
returns-clause-place c =
    let at = stands c.args.copy c.args.waiting.now.items c.requires.in_order c.requires.waits in
    let is : c.place_behind.result - 1 ≡ at.0 = omega (arith, c.place_behind.ensures.place, at.1.before) in
    rw is at.1.here

pub returns-clause-within : goal.returns-clause-within
returns-clause-within c =
    let at = stands c.args.copy c.args.waiting.now.items c.requires.in_order c.requires.waits in
    omega (arith, c.place_behind.ensures.place, at.1.before, at.1.within)

pub returns-clause-without : goal.returns-clause-without
returns-clause-without c =
    let at = stands c.args.copy c.args.waiting.now.items c.requires.in_order c.requires.waits in
    let is : c.place_behind.result - 1 ≡ at.0 = omega (arith, c.place_behind.ensures.place, at.1.before) in
    rw is at.1.removed
