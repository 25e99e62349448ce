use Rattle.std.proofs.Common.{◌≡◌, ◌*◌, length, ap, arith, subst, sym, ◌∙◌}
use Rattle.tp_bound_make.specs.RoomRows.{HasRooms, rows_below}
use Rattle.tp_bound_laws.specs.Rows.{AreRoomRows}
use Rattle.tp_bound_make.proofs.RoomTables.{are-rows, has-rooms}
use Rattle.tp_bound_make.proofs.rows.rows_of.Goals as goal
use Rattle.tp_bound_make.proofs.rows.rows_of.Goals.{After-numbers}

whole : (c : After-numbers) → c.numbers.rows ≡ rows_below c.args.machine.now c.args.rooms.now.sums (length c.args.machine.now.locations * 8)
whole c =
    let all : c.numbers.number ≡ length c.args.machine.now.locations * 8 = omega (arith, c.numbers-test.false, c.numbers.auto.number-end, c.len-number-end.ensures) in
    c.numbers.invariant ∙ ap (rows_below c.args.machine.now c.args.rooms.now.sums) all

pub returns-clause-rows : goal.returns-clause-rows
returns-clause-rows c = subst (HasRooms c.args.machine.now c.args.rooms.now.sums) (sym (whole c)) (has-rooms c.args.machine.now c.args.rooms.now.sums)

pub returns-clause-are : goal.returns-clause-are
returns-clause-are c = λ ask origin are. subst (AreRoomRows c.args.machine.now ask) (sym (whole c)) (are-rows c.args.machine.now c.args.rooms.now.sums ask origin are)

pub returns-clause-order : goal.returns-clause-order
returns-clause-order c = whole c
