-- The number is taken out and put in again.
use Rattle.std.proofs.Common.{◌≡◌, length, arith, insert, ◌∙◌, ap, Some, length-set}
use Rattle.tp_routes.specs.FilledRooms.{without_number}
use Rattle.tp_routes.proofs.QueueFacts.{put_again, waits_again, waits_now, has_room, shorter}
use Rattle.tp_routes.proofs.state_queue.lower.Goals as goal

pub unreachable-requires : goal.unreachable-requires
unreachable-requires c =
    let room = has_room c.args.number (length c.args.sums.now) c.args.waiting.now.items c.requires.queue c.requires.known in
    let many : length c.take_out.new.waiting.items ≡ length (without_number c.args.number c.args.waiting.now.items) = ap length c.take_out.ensures.kept in
    let full = c.in_default.ensures.full in
    let capacity = c.take_out.ensures.capacity in
    let roomy = c.requires.room in
    omega arith

pub returns-clause-queue : goal.returns-clause-queue
returns-clause-queue c =
    let items = c.in-Ok.ensures.items ∙ ap (λ xs. insert xs c.place_for-at.result c.args.number) c.take_out.ensures.kept in
    rw (items, length-set c.args.sums.now c.args.number (Some c.args.sum)) (put_again c.args.number c.place_for-at.result (length c.args.sums.now) c.args.waiting.now.items c.requires.queue c.requires.known)

pub returns-clause-kept : goal.returns-clause-kept
returns-clause-kept c n waits =
    let items = c.in-Ok.ensures.items ∙ ap (λ xs. insert xs c.place_for-at.result c.args.number) c.take_out.ensures.kept in
    rw items (waits_again c.args.number n c.place_for-at.result c.args.waiting.now.items waits)

pub returns-clause-waits : goal.returns-clause-waits
returns-clause-waits c lower =
    let items = c.in-Ok.ensures.items ∙ ap (λ xs. insert xs c.place_for-at.result c.args.number) c.take_out.ensures.kept in
    rw items (waits_now c.args.number c.place_for-at.result c.args.waiting.now.items)

pub returns-clause-longer : goal.returns-clause-longer
returns-clause-longer c =
    let many : length c.take_out.new.waiting.items ≡ length (without_number c.args.number c.args.waiting.now.items) = ap length c.take_out.ensures.kept in
    let fewer = shorter c.args.number c.args.waiting.now.items in
    let len = c.in-Ok.ensures.len in
    omega arith
