use Rattle.std.proofs.Common.{sym, subst, ◌∙◌}
use Rattle.std.specs.Prelude.{pos}
use Rattle.tp_placing.specs.Boards.{suffix_of}
use Rattle.tp_schedule.specs.Plans.{AreNamed}
use Rattle.tp_bound_make.specs.Closes.{Closes, IsEndRefused}
use Rattle.tp_bound_make.proofs.CarryFacts.{end-refused, own-suffix}
use Rattle.tp_bound_make.proofs.widest_places.late_end.Goals as goal
use Rattle.tp_bound_make.proofs.widest_places.late_end.Goals.{After-refuse_end}

pub refuse_end-requires-clause-below : goal.refuse_end-requires-clause-below
refuse_end-requires-clause-below g c =
    let machine = c.args.scene.machine.now in
    let stands = c.requires.set.stands in
    (machine, c.end_bound.result, stands, c.end_bound.ensures machine stands, c.if-end_bound-scene.false)

refused : (g : _) (c : After-refuse_end g) → IsEndRefused g.N.Network.refutes c.args.scene.machine.now c.refuse_end.new.self c.requires.carries.0 c.args.scene.limit
refused g c =
    let e = c.refuse_end.ensures in
    end-refused g.N.Network.reading g.N.Network.refutes c.args.scene.machine.now c.args.scene.ask.now c.args.board.now c.refuse_end.new.self c.args.child c.requires.carries.0 c.args.scene.limit c.requires.carries.1 e.same
    (e.shown c.args.scene.machine.now c.requires.set.stands)

pub close_end-requires-clause-named : goal.close_end-requires-clause-named
close_end-requires-clause-named g c = subst AreNamed (sym c.refuse_end.ensures.loaded.plans) c.requires.named

pub close_end-requires-clause-refused : goal.close_end-requires-clause-refused
close_end-requires-clause-refused g c = (c.requires.carries.0, refused g (goal.at.close_end-requires-clause-refused g c).After-refuse_end)

pub returns-in-Ok-clause-closes : goal.returns-in-Ok-clause-closes
returns-in-Ok-clause-closes g c =
    let machine = c.args.scene.machine.now in
    let ask = c.args.scene.ask.now in
    let limit = c.args.scene.limit in
    let x0 = c.requires.carries.0 in
    let load = c.refuse_end.ensures.loaded in
    own-suffix (suffix_of c.args.board.now) x0 c.requires.carries.1.carried (λ x. Closes machine c.args.board.now.plans ask (pos limit) x c.in-Ok.close)
    (subst (λ ps. Closes machine ps ask (pos limit) x0 c.in-Ok.close) load.plans
    (c.in-Ok.ensures ask x0 (load.ask ∙ c.requires.set.asked) (refused g (goal.at.returns-in-Ok-clause-closes g c).After-refuse_end) c.requires.limit))
