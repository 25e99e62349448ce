use Rattle.std.proofs.Common.{◌≡◌, List, length, refl, sym, subst, rules}
use Rattle.tp_windows.proofs.FrontFacts.{noted-grows, noted-keys, noted-waits}
use Rattle.tp_windows.specs.WaitingLabels.{Waits}
use Rattle.tp_windows.specs.declared.front.Arrival.{Arrival}
use Rattle.tp_windows.proofs.front.Front.note.Goals as goal

pub returns-clause-waits : goal.returns-clause-waits
returns-clause-waits c = λ done tick from till.
    let number : c.len-number.result ≡ length c.args.self.now.arrivals.items = search rules in
    subst (λ (xs : List Arrival). Waits xs c.put.new.heap.items c.args.arrival.state tick) (sym c.push_reserved.ensures.items)
    (noted-waits c.args.self.now.arrivals.items c.args.self.now.waiting.items c.put.new.heap.items c.args.arrival _ number (c.put.ensures.more c.if-not-put.false) tick from till)

pub returns-clause-grows : goal.returns-clause-grows
returns-clause-grows c = noted-grows c.args.self.now _ c.args.arrival _ c.push_reserved.ensures.items refl (c.put.ensures.more c.if-not-put.false)

pub returns-clause-keyed : goal.returns-clause-keyed
returns-clause-keyed c = λ rests rest.
    let number : c.len-number.result ≡ length c.args.self.now.arrivals.items = search rules in
    noted-keys rests c.args.self.now.arrivals.items _ c.args.self.now.waiting.items _ c.args.arrival _ c.push_reserved.ensures.items number rest c.key_of.ensures (c.put.ensures.more c.if-not-put.false)
