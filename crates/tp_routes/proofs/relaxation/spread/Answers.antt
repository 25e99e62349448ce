-- Each turn puts the steps of the next action from the busy state's location into the table.
use Rattle.std.proofs.Common.{◌+◌, ◌/◌, ◌<◌, length, arith, subst, sym, ap}
use Rattle.tp_routes.proofs.SpreadFacts.{Lowers-refl, Lowers-then}
use Rattle.tp_routes.proofs.AlongFacts.{along-here, along-end, next-there, ahead-smaller}
use Rattle.tp_routes.proofs.SpreadFacts.{none_there}
use Rattle.tp_routes.specs.Index.{IsNextAt, number_at}
use Rattle.tp_routes.specs.declared.index.ActEnd.TheVariants.{From}
use Rattle.tp_routes.proofs.relaxation.spread.Goals as goal

pub actions-init : goal.actions-init
actions-init c =
    let location : c.args.from.number / 8 < length c.args.index.now.firsts.items = (let small = c.requires.filling.states in let known = c.requires.known in omega (arith, c.requires.index.locations)) in
    record {
      filling = c.requires.filling;
      along = record { low = 0; next = subst (IsNextAt From c.args.machine.now.actions (c.args.from.number / 8) 0) (ap (λ fs. number_at fs (c.args.from.number / 8)) (sym c.as_slice-firsts.ensures.value)) (c.requires.index.indexed.first (c.args.from.number / 8) location); spread = c.requires.spread };
      stands = c.requires.busy;
      lowers = Lowers-refl c.args.sums.now;
      room = c.requires.room;
      nearer = omega arith;
    }

pub step_on-requires-clause-act : goal.step_on-requires-clause-act
step_on-requires-clause-act c = (along-here c.args.machine.now c.args.ask.now c.actions.sums c.actions.waiting.items c.args.from.number c.in-Some.at c.actions.cursor c.in-Some.is c.actions.invariant.along).1

pub step_on-requires-clause-spread : goal.step_on-requires-clause-spread
step_on-requires-clause-spread c = (along-here c.args.machine.now c.args.ask.now c.actions.sums c.actions.waiting.items c.args.from.number c.in-Some.at c.actions.cursor c.in-Some.is c.actions.invariant.along).0

pub actions-smaller : goal.actions-smaller
actions-smaller c =
    let here = along-here c.args.machine.now c.args.ask.now c.actions.sums c.actions.waiting.items c.args.from.number c.in-Some.at c.actions.cursor c.in-Some.is c.actions.invariant.along in
    let next = next-there From c.args.machine.now.actions c.args.index.now.firsts.items c.args.index.now.nexts.items (c.args.from.number / 8) c.in-Some.at c.requires.index.indexed here.1 here.2 in
    rw (c.in-Some.is, c.as_slice-nexts.ensures.value) (ahead-smaller From c.args.machine.now.actions (c.args.from.number / 8) c.in-Some.at (number_at c.args.index.now.nexts.items c.in-Some.at) here.1 next)

pub actions-preserved : goal.actions-preserved
actions-preserved c =
    let before = c.actions.invariant in
    let here = along-here c.args.machine.now c.args.ask.now c.actions.sums c.actions.waiting.items c.args.from.number c.in-Some.at c.actions.cursor c.in-Some.is before.along in
    record {
      filling = c.step_on.ensures.filling;
      along = record { low = c.in-Some.at + 1; next = subst (IsNextAt From c.args.machine.now.actions (c.args.from.number / 8) (c.in-Some.at + 1)) (ap (λ ns. number_at ns c.in-Some.at) (sym c.as_slice-nexts.ensures.value)) (next-there From c.args.machine.now.actions c.args.index.now.firsts.items c.args.index.now.nexts.items (c.args.from.number / 8) c.in-Some.at c.requires.index.indexed here.1 here.2); spread = c.step_on.ensures.spread };
      stands = c.step_on.ensures.busy;
      lowers = Lowers-then c.args.sums.now c.actions.sums c.step_on.new.sums before.lowers c.step_on.ensures.lowers;
      room = c.step_on.ensures.room;
      nearer = omega (arith, c.step_on.ensures.nearer, before.nearer);
    }

pub returns-clause-spread : goal.returns-clause-spread
returns-clause-spread c = along-end c.args.machine.now c.args.ask.now c.actions.sums c.actions.waiting.items c.args.from.number c.actions.cursor (none_there c.actions.cursor c.in_default.not-Some) c.actions.invariant.along
