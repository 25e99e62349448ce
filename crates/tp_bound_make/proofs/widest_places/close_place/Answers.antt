use Rattle.std.proofs.Common.{◌≡◌, ◌≤◌, length, sym, subst, Some}
use Rattle.std.specs.Prelude.{pos}
use Rattle.tp_bounds.specs.declared.tree.Close.{Close}
use Rattle.tp_constraints.specs.Suffixes.{Suffix, order_in, with_place}
use Rattle.tp_placing.specs.Boards.{suffix_of}
use Rattle.tp_schedule.specs.Plans.{AreNamed}
use Rattle.tp_bound_make.specs.Closes.{Closes}
use Rattle.tp_bound_make.proofs.CarryFacts.{own-suffix}
use Rattle.tp_bound_make.proofs.MarkSteps.{IsMarked, mark-known, taken-back}
use Rattle.tp_bound_make.proofs.RangeFacts.{IsAtMark, at-mark, ok-some}
use Rattle.tp_bound_make.proofs.widest_places.close_place.Goals as goal
use Rattle.tp_bound_make.proofs.widest_places.close_place.Goals.{After-mark-mark}

marked : (g : _) (c : After-mark-mark g) → IsMarked g.N.Network.reading g.N.Undo.untouched c.args.board.now c.mark-mark.new.self c.mark-mark.result.0
marked g c = let m = c.mark-mark.ensures in record { number = m.number; past_more = m.past; content_same = m.content; untouched_same = m.untouched; room_same = m.capacity }

here : (g : _) (c : After-mark-mark g) → IsAtMark g.N.Network.reading g.N.Undo.untouched c.args.scene.machine.now c.args.scene.ask.now c.args.board.now c.mark-mark.new.self c.args.branch c.requires.carries.0
here g c =
    let r = c.requires in
    at-mark g.N.Network.reading g.N.Undo.untouched c.args.scene.machine.now c.args.scene.ask.now c.marks_keep_boards.ensures.mark c.args.board.now c.mark-mark.new.self c.args.branch r.carries.0 c.mark-mark.result.0 (marked g c) r.set r.carries.1

pub refuse_place-close-requires-clause-set : goal.refuse_place-close-requires-clause-set
refuse_place-close-requires-clause-set g c = (here g (goal.at.refuse_place-close-requires-clause-set g c).After-mark-mark).set

pub refuse_place-close-requires-clause-named : goal.refuse_place-close-requires-clause-named
refuse_place-close-requires-clause-named g c = subst AreNamed (sym (here g (goal.at.refuse_place-close-requires-clause-named g c).After-mark-mark).plans) c.requires.named

pub refuse_place-close-requires-clause-carries : goal.refuse_place-close-requires-clause-carries
refuse_place-close-requires-clause-carries g c = (c.requires.carries.0, (here g (goal.at.refuse_place-close-requires-clause-carries g c).After-mark-mark).carries)

pub refuse_place-close-requires-clause-within : goal.refuse_place-close-requires-clause-within
refuse_place-close-requires-clause-within g c =
    let at = here g (goal.at.refuse_place-close-requires-clause-within g c).After-mark-mark in
    let x0 = c.requires.carries.0 in
    let machine = c.args.scene.machine.now in
    own-suffix (suffix_of c.mark-mark.new.self) x0 at.carries.carried (λ x. c.args.place ≤ length (order_in machine c.mark-mark.new.self.plans x c.args.places.rule.resource.0))
    (subst (λ ps. c.args.place ≤ length (order_in machine ps x0 c.args.places.rule.resource.0)) (sym at.plans) (c.requires.within x0 c.requires.carries.1.carried))

pub undo_to-requires : goal.undo_to-requires
undo_to-requires g c =
    let m = marked g (goal.at.undo_to-requires g c).After-mark-mark in
    mark-known g.N.Network.reading g.N.Undo.untouched c.args.board.now c.mark-mark.new.self c.refuse_place-close.new.board c.mark-mark.result.0 m c.refuse_place-close.ensures.since.past_same

pub returns-clause-closes : goal.returns-clause-closes
returns-clause-closes g c =
    let at = here g (goal.at.returns-clause-closes g c).After-mark-mark in
    let machine = c.args.scene.machine.now in
    let ask = c.args.scene.ask.now in
    let limit = c.args.scene.limit in
    let x0 = c.requires.carries.0 in
    let b1 = c.mark-mark.new.self in
    ok-some (λ (close : Close). (z : Suffix) → suffix_of b1 ≡ Some z → Closes machine b1.plans ask (pos limit) (with_place c.args.place z) close)
    (λ close. (x : Suffix) → suffix_of c.args.board.now ≡ Some x → Closes machine c.args.board.now.plans ask (pos limit) (with_place c.args.place x) close) c.refuse_place-close.result
    (λ close h. own-suffix (suffix_of c.args.board.now) x0 c.requires.carries.1.carried (λ x. Closes machine c.args.board.now.plans ask (pos limit) (with_place c.args.place x) close)
    (subst (λ ps. Closes machine ps ask (pos limit) (with_place c.args.place x0) close) at.plans (h x0 at.carries.carried)))
    c.refuse_place-close.ensures.closes

pub returns-clause-back : goal.returns-clause-back
returns-clause-back g c =
    let keeps = c.marks_keep_boards.ensures in
    let u = c.undo_to.ensures in
    let m = marked g (goal.at.returns-clause-back g c).After-mark-mark in
    taken-back g.N.Network.reading g.N.Undo.untouched keeps.mark keeps.back c.args.board.now c.mark-mark.new.self c.refuse_place-close.new.board c.undo_to.new.self c.args.scene.machine.now c.mark-mark.result.0 m
    c.refuse_place-close.ensures.since (record { content_then = u.content; past_less = u.past; untouched_same = u.untouched; room_same = u.capacity })
