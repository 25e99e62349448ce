use Rattle.std.proofs.Common.{ap, sym, ◌∙◌, ◌<◌, arith, rules, subst, All, length, Some}
use Rattle.std.specs.Prelude.{◌≡◌, slice_get, pos}
use Rattle.tp_windows.specs.declared.gaps.KeptHold.{KeptHold}
use Rattle.std.proofs.lemmas.List.{length_push}
use Rattle.std.proofs.lemmas.List.Elements.{All-push}
use Rattle.tp_schedule.specs.Spots.{slot_order}
use Rattle.tp_constraints.specs.Numbers.{table_of}
use Rattle.tp_constraints.proofs.Lists.{get-there}
use Rattle.tp_placing.specs.Boards.{suffix_of}
use Rattle.tp_placing.specs.LoadedBoard.{board_table, order_after}
use Rattle.tp_placing.specs.ReadOrders.{IsHoldOf}
use Rattle.tp_windows.specs.Rows.{IsNear}
use Rattle.tp_windows.proofs.RowSlots.{add_slot}
use Rattle.tp_windows.proofs.kept_rows.add_row.Goals as goal

pub places-preserved : goal.places-preserved
places-preserved g c =
    let machine = c.args.machine.now in
    let plans = c.args.board.now.plans in
    let resource = c.args.resource.0 in
    let closed = c.requires.closed in
    let order = slot_order machine plans resource in
    let order-is : order_after machine plans (suffix_of c.args.board.now) resource ≡ order = ap (λ x. order_after machine plans x resource) closed in
    let test = c.places-test.true in
    let count = c.places-place-end.ensures machine c.requires.stands in
    let less : c.places.place < length order = let same = ap length order-is in omega (arith, test, count, same) in
    let there = get-there order c.places.place less in
    let at : slice_get (order_after machine plans (suffix_of c.args.board.now) resource) c.places.place ≡ Some there.0 = ap (λ o. slice_get o c.places.place) order-is ∙ there.1 in
    let read = subst (λ x. IsHoldOf (board_table plans x) c.hold_at-held.result there.0) closed (c.hold_at-held.ensures machine c.requires.stands there.0 at) in
    let pushed = c.push_reserved.ensures.items in
    let held = c.hold_at-held.result in
    let k : KeptHold = record { rule = held.rule; end = pos 0; begin = pos 0; soonest = pos 0; from = held.start; to = held.end } in
    let near : IsNear k = search rules in
    record {
      row = add_slot (table_of plans) c.args.holds.now.items c.places.holds.items c.push_reserved.new.self.items order c.places.place k there.0 c.places.invariant.row there.1 (record { rule = read.rule; from = read.start; to = read.end }) pushed;
      near = subst (All IsNear) (sym pushed) (All-push IsNear c.places.holds.items k c.places.invariant.near near);
      more = let a = c.places.invariant.more in let long = length_push c.places.holds.items k in let same = ap length pushed in omega (arith, a, long, same);
    }
