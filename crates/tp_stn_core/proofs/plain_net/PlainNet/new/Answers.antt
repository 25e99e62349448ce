use Rattle.tp_stn_core.proofs.PlainFacts.{plain_empty}
use Rattle.tp_stn_core.proofs.plain_net.PlainNet.new.Goals as goal

pub invariant_of-result : goal.invariant_of-result
invariant_of-result c =
    plain_empty _ c.in_ok-with_capacity.ensures.items c.in_ok-with_capacity-2.ensures.items c.in_ok-with_capacity-3.ensures.items c.in_ok-with_capacity-4.ensures.items c.in_ok-with_capacity-6.ensures.items c.in_ok-with_capacity-7.ensures.items c.in_ok-with_capacity-8.ensures.items
    (record {
      lows = c.in_ok-with_capacity.ensures.capacity;
      caps = c.in_ok-with_capacity-2.ensures.capacity;
      edges = c.in_ok-with_capacity-3.ensures.capacity;
      times = c.in_ok-with_capacity-4.ensures.capacity;
      working = c.in_ok-new.ensures;
      path = c.in_ok-with_capacity-5.ensures.capacity;
      saved = c.in_ok-with_capacity-6.ensures.capacity;
      newest = c.in_ok-with_capacity-7.ensures.capacity;
      marks = c.in_ok-with_capacity-8.ensures.capacity;
    })
