use Rattle.std.proofs.Common.{arith}
use Rattle.tp_placing.proofs.LoadCauses.{get-pushed}
use Rattle.tp_placing.proofs.causes.Causes.new.Goals as goal

pub slots-preserved : goal.slots-preserved
slots-preserved c =
    let v = c.slots.invariant in
    let test = c.slots-test.true in
    let count = c.len.ensures in
    let len = c.slots.kept.ok.0 in
    let more = c.in_ok-push-6.ensures.len in
    let items = c.in_ok-push-6.ensures.items in
    let wider = c.in_ok-push-6.ensures.capacity in
    let space = v.space in
    record {
      forward = get-pushed _ _ _ 0 _ items v.forward;
      back = get-pushed _ _ _ 1 _ items v.back;
      line = get-pushed _ _ _ 2 _ items v.line;
      stop = get-pushed _ _ _ 3 _ items v.stop;
      limit = get-pushed _ _ _ 4 _ items v.limit;
      few = let new = c.push-in-slots.new.self.ok.0 in omega arith;
      space = omega arith;
    }
