-- Each hold can be placed, and none is late.
use Rattle.std.proofs.Common.{◌≡◌, ℕ, length, sym, subst, take, Some, Option, IsSomeAnd, ◌∙◌, arith, ap}
use Rattle.tp_machine.specs.ModuleUse.{action_at}
use Rattle.tp_machine.specs.declared.parts.Action.{Action}
use Rattle.tp_schedule.specs.Holders.{holds_of_act}
use Rattle.tp_placing.specs.Boards.{suffix_of}
use Rattle.tp_search.specs.StoredLists.{with_places}
use Rattle.tp_search.proofs.FollowPlaces.{place-next, place-not-late}
use Rattle.tp_search.proofs.stored_list.place_all.Goals as goal

holds-of : (o : Option Action) (a : Action) (count : ℕ) → o ≡ Some a → count ≡ length a.holds → length (holds_of_act o) ≡ count
holds-of o a count is counts = ap (λ p. length (holds_of_act p)) is ∙ sym counts

pub place-requires-clause-next : goal.place-requires-clause-next
place-requires-clause-next g c =
    let count = holds-of (action_at c.args.machine.now c.args.act.0) c.get.result.now c.len-hold-end.result c.get.ensures c.len-hold-end.ensures.len in
    place-next c.args.machine.now c.args.board.now c.holds.board c.args.act c.args.places.now c.requires.waits c.holds.hold c.holds.invariant.suffix c.holds.invariant.same.loaded (omega arith)

pub unreachable-requires : goal.unreachable-requires
unreachable-requires g c =
    let count = holds-of (action_at c.args.machine.now c.args.act.0) c.get.result.now c.len-hold-end.result c.get.ensures c.len-hold-end.ensures.len in
    place-not-late c.args.machine.now c.args.board.now c.holds.board c.args.act c.args.places.now c.requires.waits c.holds.hold c.holds.invariant.suffix c.holds.invariant.same.loaded (omega arith)
    c.in-Err.ensures.late

pub returns-clause-suffix : goal.returns-clause-suffix
returns-clause-suffix g c =
    let count = holds-of (action_at c.args.machine.now c.args.act.0) c.get.result.now c.len-hold-end.result c.get.ensures c.len-hold-end.ensures.len in
    let end : c.holds.hold ≡ length (holds_of_act (action_at c.args.machine.now c.args.act.0)) = omega arith in
    subst (λ n. IsSomeAnd (suffix_of c.args.board.now) (λ x. suffix_of c.holds.board ≡ Some (with_places (take n c.args.places.now) x))) end c.holds.invariant.suffix
