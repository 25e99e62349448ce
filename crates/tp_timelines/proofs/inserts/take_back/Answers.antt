use Rattle.std.proofs.Common.{◌<◌, ◌≤◌, length, drop, ap, sym, subst, ◌∙◌, arith}
use Rattle.std.proofs.lemmas.List.{length_push}
use Rattle.tp_base.proofs.SliceFacts.{take_popped}
use Rattle.tp_timelines.specs.Orders.{numbers_of, total}
use Rattle.tp_timelines.specs.Inserts.{taken_back, StandAt}
use Rattle.tp_timelines.proofs.InsertFacts.{last_known, last_there, taken_back-last, StandAt-last, total-without}
use Rattle.tp_timelines.proofs.VectorFacts.{length-numbers, order_at, numbers-remove, HaveCapacity-set}
use Rattle.tp_timelines.proofs.inserts.take_back.Goals as goal
use Rattle.tp_timelines.proofs.inserts.take_back.Goals.{In-Some}

known : (c : In-Some) → c.in-Some.last.resource.0 < length c.back.orders.items
known c =
    let k = last_known (numbers_of c.back.orders.items) c.pop.new.self.items c.back.inserted.items c.in-Some.last c.in-Some.ensures.items c.back.invariant.stand in
    omega (arith, length-numbers c.back.orders.items)

pub index_mut-requires : goal.index_mut-requires
index_mut-requires k = let c = (goal.at.index_mut-requires k).In-Some in omega (arith, known c, k.back.orders.ok.0)

pub remove-number-requires : goal.remove-number-requires
remove-number-requires k =
    let c = (goal.at.remove-number-requires k).In-Some in
    let vs = k.back.orders.items in
    let i = k.in-Some.last in
    let there = last_there (numbers_of vs) k.pop.new.self.items k.back.inserted.items i k.in-Some.ensures.items k.back.invariant.stand in
    let order = order_at vs i.resource.0 k.index_mut.result.now (known c) k.index_mut.ensures.value in
    omega (arith, ap length order, k.index_mut.result.now.ok.0)

pub back-preserved : goal.back-preserved
back-preserved k =
    let c = (goal.at.back-preserved k).In-Some in
    let vs = k.back.orders.items in
    let i = k.in-Some.last in
    let os = numbers_of vs in
    let before = k.pop.new.self.items in
    let all = k.back.inserted.items in
    let is = k.in-Some.ensures.items in
    let stand = k.back.invariant.stand in
    let l = ap length is ∙ length_push before i in
    let to : k.args.to ≤ length before = omega (arith, k.back-test.true, k.len.ensures, k.back.inserted.ok.0) in
    let now = numbers-remove vs i k.index_mut.result.now k.remove-number.new.self (known c) k.index_mut.ensures.value k.remove-number.ensures.items in
    record {
      inserted = take_popped k.args.inserted.now.items before all i is k.back.invariant.inserted;
      to = to;
      back = ap (taken_back (drop k.args.to before)) now ∙ sym (taken_back-last os before all i is stand k.args.to to) ∙ k.back.invariant.back;
      stand = subst (λ ns. StandAt ns before) (sym now) (StandAt-last os before all i is stand);
      all = λ h. (
          let n = k.back.invariant.all h in
          let t = total-without i os (last_known os before all i is stand) (last_there os before all i is stand) in
          let e = ap total now in
          omega arith);
      spacious = λ holds h. HaveCapacity-set vs i.resource.0 k.index_mut.result.now (known c) k.index_mut.ensures.value k.remove-number.new.self holds (omega (arith, k.remove-number.ensures.capacity)) (k.back.invariant.spacious holds h);
      capacity = k.in-Some.ensures.capacity ∙ k.back.invariant.capacity;
    }
