use Rattle.std.proofs.Common.{◌≡◌, refl, sym, subst, ◌∙◌, Some}
use Rattle.std.specs.Prelude.{pos}
use Rattle.tp_bounds.specs.declared.tree.Close.{Close}
use Rattle.tp_constraints.specs.Suffixes.{Suffix, with_place}
use Rattle.tp_placing.specs.Boards.{suffix_of}
use Rattle.tp_placing.specs.Calls.{CanPlace}
use Rattle.tp_placing.proofs.StandFacts.{and-some}
use Rattle.tp_schedule.specs.Plans.{AreNamed}
use Rattle.tp_bound_make.specs.Closes.{Closes}
use Rattle.tp_bound_make.proofs.CarryFacts.{carries-place, may-place, own-suffix, place-refused}
use Rattle.tp_bound_make.proofs.EnterFacts.{placed_below}
use Rattle.tp_bound_make.proofs.RangeFacts.{ok-some}
use Rattle.tp_bound_make.proofs.widest_places.refuse_place.Goals as goal

pub place-requires-clause-next : goal.place-requires-clause-next
place-requires-clause-next g c =
    let x = c.requires.carries.0 in
    let k = c.requires.carries.1 in
    and-some (suffix_of c.args.board.now) x (λ y. CanPlace c.args.scene.machine.now c.args.board.now.plans y c.args.branch.places c.args.place) k.carried
    (may-place g.N.Network.reading g.N.Network.refutes c.args.scene.machine.now c.args.scene.ask.now c.args.board.now c.args.branch x c.args.places.rule c.args.place k c.requires.next (c.requires.within x k.carried))

pub late_end-requires-clause-named : goal.late_end-requires-clause-named
late_end-requires-clause-named g c = subst AreNamed (sym c.place.ensures.loaded.plans) c.requires.named

pub late_end-requires-clause-carries : goal.late_end-requires-clause-carries
late_end-requires-clause-carries g c =
    let x = c.requires.carries.0 in
    let k = carries-place g.N.Network.reading g.N.Network.refutes c.args.scene.machine.now c.args.scene.ask.now c.args.board.now c.place.new.self c.args.branch (placed_below c.args.branch) x c.args.places.rule c.args.place
    c.requires.carries.1 c.requires.next (c.requires.within x c.requires.carries.1.carried) c.place.ensures.loaded c.in-Ok.ensures.suffix refl in
    (with_place c.args.place x, k.0)

pub close_late-requires-clause-named : goal.close_late-requires-clause-named
close_late-requires-clause-named g c = subst AreNamed (sym c.place.ensures.loaded.plans) c.requires.named

pub close_late-requires-clause-refused : goal.close_late-requires-clause-refused
close_late-requires-clause-refused g c =
    let x = c.requires.carries.0 in
    (with_place c.args.place x, place-refused g.N.Network.reading g.N.Network.refutes c.args.scene.machine.now c.args.scene.ask.now c.args.board.now c.place.new.self c.args.branch x c.args.place c.requires.carries.1 c.in-Err.ensures.shown)

pub returns-in-Ok-clause-closes : goal.returns-in-Ok-clause-closes
returns-in-Ok-clause-closes g c =
    let machine = c.args.scene.machine.now in
    let ask = c.args.scene.ask.now in
    let limit = c.args.scene.limit in
    let x0 = c.requires.carries.0 in
    let k = c.requires.carries.1 in
    let b1 = c.place.new.self in
    let y = with_place c.args.place x0 in
    let carried = carries-place g.N.Network.reading g.N.Network.refutes machine ask c.args.board.now b1 c.args.branch (placed_below c.args.branch) x0 c.args.places.rule c.args.place k c.requires.next
    (c.requires.within x0 k.carried) c.place.ensures.loaded c.in-Ok.ensures.suffix refl in
    ok-some (λ (close : Close). (z : Suffix) → suffix_of b1 ≡ Some z → Closes machine b1.plans ask (pos limit) z close)
    (λ close. (x : Suffix) → suffix_of c.args.board.now ≡ Some x → Closes machine c.args.board.now.plans ask (pos limit) (with_place c.args.place x) close) c.late_end.result
    (λ close h. own-suffix (suffix_of c.args.board.now) x0 k.carried (λ x. Closes machine c.args.board.now.plans ask (pos limit) (with_place c.args.place x) close)
    (subst (λ ps. Closes machine ps ask (pos limit) y close) c.place.ensures.loaded.plans (h y carried.0.carried)))
    c.late_end.ensures.closes

pub returns-in-Ok-close_late-clause-closes : goal.returns-in-Ok-close_late-clause-closes
returns-in-Ok-close_late-clause-closes g c =
    let machine = c.args.scene.machine.now in
    let ask = c.args.scene.ask.now in
    let limit = c.args.scene.limit in
    let x0 = c.requires.carries.0 in
    let k = c.requires.carries.1 in
    let load = c.place.ensures.loaded in
    let y = with_place c.args.place x0 in
    let close = c.in-Ok-close_late.close in
    let refused = place-refused g.N.Network.reading g.N.Network.refutes machine ask c.args.board.now c.place.new.self c.args.branch x0 c.args.place k c.in-Err.ensures.shown in
    own-suffix (suffix_of c.args.board.now) x0 k.carried (λ x. Closes machine c.args.board.now.plans ask (pos limit) (with_place c.args.place x) close)
    (subst (λ ps. Closes machine ps ask (pos limit) y close) load.plans (c.in-Ok-close_late.ensures ask y (pos limit) (load.ask ∙ c.requires.set.asked) refused c.requires.limit))
