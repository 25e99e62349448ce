use Rattle.std.proofs.Common.{◌<◌, [], length, replicate, set, ap, ◌∙◌, arith, add-one}
use Rattle.std.proofs.lemmas.List.{length-set, map-set}
use Rattle.tp_timelines.specs.Orders.{numbers_of}
use Rattle.tp_timelines.proofs.OrderFacts.{emptied-next, emptied-all}
use Rattle.tp_timelines.proofs.VectorFacts.{HaveCapacity-set, length-numbers}
use Rattle.tp_timelines.proofs.inserts.empty_all.Goals as goal

pub orders-preserved : goal.orders-preserved
orders-preserved c =
    let old = c.args.orders.now.items in
    let vs = c.orders.orders.items in
    let k : c.orders.at < length vs = omega (arith, c.orders-test.true, c.len-at-end.ensures, c.args.orders.now.ok.0, c.orders.invariant.len) in
    record {
      numbers = rw add-one (map-set (λ v. v.items) vs c.orders.at c.clear.new.self ∙ ap (set (numbers_of vs) c.orders.at) c.clear.ensures.items ∙ ap (λ xs. set xs c.orders.at []) c.orders.invariant.numbers ∙ emptied-next c.orders.at (numbers_of old));
      capacity = λ holds h. HaveCapacity-set vs c.orders.at c.index_mut.result.now k c.index_mut.ensures.value c.clear.new.self holds (omega (arith, c.clear.ensures.capacity)) (c.orders.invariant.capacity holds h);
      len = length-set vs c.orders.at c.clear.new.self ∙ c.orders.invariant.len;
    }

pub returns-clause-numbers : goal.returns-clause-numbers
returns-clause-numbers c =
    let old = c.args.orders.now.items in
    let l = length-numbers old in
    c.orders.invariant.numbers ∙ emptied-all c.orders.at (numbers_of old) (omega (arith, c.orders-test.false, c.len-at-end.ensures, c.args.orders.now.ok.0)) ∙ ap (λ n. replicate n []) l
