-- The last number that waits is taken, and its steps are put into the table.
use Rattle.std.proofs.Common.{◌≡◌, ℕ, [], ◌∷◌, ◌++◌, length, arith, ◌∙◌, subst, append-nil}
use Rattle.tp_routes.specs.FilledRooms.{IsFilling, IsSpreadTo, IsQueue}
use Rattle.tp_routes.proofs.SpreadFacts.{Lowers-refl, Lowers-then, filling-popped, spread-popped, spread-popped_none, spread-all, last_waits, none_there}
use Rattle.tp_routes.specs.Tables.{sum_at}
use Rattle.tp_routes.proofs.relaxation.settle.Goals as goal

pub states-init : goal.states-init
states-init c = record { filling = c.requires.filling; spread = c.requires.spread; lowers = Lowers-refl c.args.sums.now; room = c.requires.room }

pub bounds : goal.bounds
bounds c =
    let queue : IsQueue (c.pop.new.self.items ++ c.in-Some.number ∷ []) (length c.states.sums) = subst (λ ws. IsQueue ws (length c.states.sums)) c.in-Some.ensures.items c.states.invariant.filling.queue in
    queue.known c.in-Some.number (last_waits c.pop.new.self.items c.in-Some.number)

pub spread-requires-clause-filling : goal.spread-requires-clause-filling
spread-requires-clause-filling c =
    filling-popped c.args.machine.now c.args.ask.now c.states.sums c.pop.new.self.items c.in-Some.number (subst (IsFilling c.args.machine.now c.args.ask.now c.states.sums) c.in-Some.ensures.items c.states.invariant.filling)

pub spread-requires-clause-spread : goal.spread-requires-clause-spread
spread-requires-clause-spread c =
    spread-popped c.args.machine.now c.args.ask.now c.states.sums c.pop.new.self.items c.in-Some.number
    (subst (λ ws. (busy : ℕ) → IsSpreadTo c.args.machine.now c.args.ask.now c.states.sums ws busy (length c.args.machine.now.actions)) c.in-Some.ensures.items c.states.invariant.spread)

pub spread-requires-clause-room : goal.spread-requires-clause-room
spread-requires-clause-room c = (let capacity = c.pop.ensures.capacity in let room = c.states.invariant.room in omega arith)

pub states-preserved-in-Some-sums : goal.states-preserved-in-Some-sums
states-preserved-in-Some-sums c = record {
  filling = c.spread.ensures.filling;
  spread = spread-all c.args.machine.now c.args.ask.now c.spread.new.sums c.spread.new.waiting.items c.in-Some.number c.spread.ensures.spread;
  lowers = Lowers-then c.args.sums.now c.states.sums c.spread.new.sums c.states.invariant.lowers c.spread.ensures.lowers;
  room = c.spread.ensures.room;
}

pub states-preserved : goal.states-preserved
states-preserved c = record {
  filling = filling-popped c.args.machine.now c.args.ask.now c.states.sums c.pop.new.self.items c.in-Some.number (subst (IsFilling c.args.machine.now c.args.ask.now c.states.sums) c.in-Some.ensures.items c.states.invariant.filling);
  spread = spread-popped_none c.args.machine.now c.args.ask.now c.states.sums c.pop.new.self.items c.in-Some.number (none_there (sum_at c.states.sums c.in-Some.number) c.in_default-sums.not-Some)
      (subst (λ ws. (busy : ℕ) → IsSpreadTo c.args.machine.now c.args.ask.now c.states.sums ws busy (length c.args.machine.now.actions)) c.in-Some.ensures.items c.states.invariant.spread);
  lowers = c.states.invariant.lowers;
  room = (let capacity = c.pop.ensures.capacity in let room = c.states.invariant.room in omega arith);
}

pub returns-clause-spread : goal.returns-clause-spread
returns-clause-spread c =
    let items : c.states.waiting.items ≡ c.pop.new.self.items = c.in_default.ensures.items ∙ append-nil c.pop.new.self.items in
    subst (λ ws. (busy : ℕ) → IsSpreadTo c.args.machine.now c.args.ask.now c.states.sums ws busy (length c.args.machine.now.actions)) items c.states.invariant.spread
