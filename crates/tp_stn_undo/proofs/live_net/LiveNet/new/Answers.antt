use Rattle.std.proofs.Common.{arith, ◌≡◌, ◌+◌, ◌*◌, ap}
use Rattle.std.proofs.Math.Nat.{mul_comm}
use Rattle.tp_stn_undo.proofs.LiveFacts.{live_empty}
use Rattle.tp_stn_undo.proofs.live_net.LiveNet.new.Goals as goal

pub invariant_of-result : goal.invariant_of-result
invariant_of-result c =
    let fits = c.ranges.points in
    let n = c.in_ok-new.ensures.noted in
    let m = c.in_ok-new.ensures.most in
    let more : (c.args.marks + 1) * c.in_ok-new.field-0.changes.capacity ≡ (c.args.marks + 1) * c.args.points = ap (λ i. (c.args.marks + 1) * i) n in
    let k1 = c.in_ok-with_capacity.ensures.capacity in
    let k2 = c.in_ok-with_capacity-2.ensures.capacity in
    let k4 = c.in_ok-with_capacity-4.ensures.capacity in
    let k5 = c.in_ok-with_capacity-5.ensures.capacity in
    let t2 = mul_comm (c.args.marks + 1) c.args.points in
    live_empty _ c.in_ok-with_capacity.ensures.items c.in_ok-with_capacity-2.ensures.items c.in_ok-with_capacity-3.ensures.items c.in_ok-with_capacity-4.ensures.items c.in_ok-new.ensures.older c.in_ok-with_capacity-5.ensures.items
    (record {
      states = omega arith;
      caps = omega arith;
      links = c.in_ok-with_capacity-3.ensures.capacity;
      heads = omega arith;
      working = c.in_ok-new.ensures.capacity;
      saved = omega arith;
      marks = k5;
      narrow = omega arith;
    })
    c.in_ok-new.ensures.rest
