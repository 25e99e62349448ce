-- The list is laid without its stop, and then stopped where the asked copy is in flight.
use Rattle.std.proofs.Common.{◌≡◌, refl, ap, sym, ◌∙◌, subst, Some, IsSomeAnd}
use Rattle.tp_schedule.specs.Spots.{Ticks}
use Rattle.tp_constraints.specs.Suffixes.{Suffix, SuffixTimes, with_stop}
use Rattle.tp_placing.specs.Boards.{suffix_of}
use Rattle.tp_placing.specs.Calls.{HasNoTimes}
use Rattle.tp_placing.proofs.StandFacts.{and-some, some-and}
use Rattle.tp_search.specs.Again.{CanCarryIf, CanLayAgain, suffix_by}
use Rattle.tp_search.proofs.AgainFacts.{again-going, carried-going, going_of}
use Rattle.tp_search.proofs.AgainSteps.{feeder-whole, front-whole}
use Rattle.tp_search.proofs.FollowGoal.{refused-late}
use Rattle.tp_search.proofs.replay.lay_again.Goals as goal
use Rattle.tp_search.proofs.replay.lay_again.Goals.{After-changes_again}

-- the whole suffix, of which the stop is missing at first
whole : (g : _) (c : After-changes_again g) → (x : Suffix) × (suffix_by c.args.changes.now ≡ Some x) × CanLayAgain c.args.machine.now c.args.board.now.plans c.args.ask.now x
whole g c = some-and (suffix_by c.args.changes.now) _ c.requires.can

so-far : (g : _) (c : After-changes_again g) → suffix_of c.changes_again.new.board ≡ Some (going_of (whole g c).0)
so-far g c = c.changes_again.ensures.suffix ∙ again-going c.args.changes.now (whole g c).0 (whole g c).1

pub changes_again-requires-clause-can : goal.changes_again-requires-clause-can
changes_again-requires-clause-can g c =
    let x = some-and (suffix_by c.args.changes.now) _ c.requires.can in
    subst (CanCarryIf c.args.machine.now c.args.board.now.plans c.args.ask.now) (sym (again-going c.args.changes.now x.0 x.1)) (carried-going c.args.machine.now c.args.board.now.plans c.args.ask.now x.0 x.2)

pub stop-requires-clause-going : goal.stop-requires-clause-going
stop-requires-clause-going g c =
    let k = (goal.at.stop-requires-clause-going g c).After-changes_again in
    and-some (suffix_of c.changes_again.new.board) (going_of (whole g k).0) _ (so-far g k) refl

pub unreachable-requires : goal.unreachable-requires
unreachable-requires g c =
    let k = (goal.at.unreachable-requires g c).After-changes_again in
    let x = whole g k in
    let machine = c.args.machine.now in
    let ask = c.args.ask.now in
    let b = c.changes_again.new.board in
    let load = c.changes_again.ensures.same.loaded in
    let none = subst (λ o. IsSomeAnd o (λ y. HasNoTimes machine b (with_stop y))) (so-far g k) (c.in-Err.ensures.late machine c.changes_again.ensures.stands) in
    let here = subst (HasNoTimes machine b) (front-whole machine c.args.board.now.plans ask x.0 x.2 c.in-Front.state c.in-Front.end c.in-Front.kept c.in-Front.is) none in
    let late = refused-late machine b ask x.0 (load.ask ∙ c.requires.ready.asked) here in
    subst (λ ps. (t : Ticks) → SuffixTimes machine ps ask x.0 t → ⊥) load.plans late x.2.ticks x.2.are_times

pub returns-in-Feeder-clause-suffix : goal.returns-in-Feeder-clause-suffix
returns-in-Feeder-clause-suffix g c =
    let k = (goal.at.returns-in-Feeder-clause-suffix g c).After-changes_again in
    let x = whole g k in
    so-far g k ∙ ap Some (feeder-whole c.args.machine.now c.args.board.now.plans c.args.ask.now x.0 x.2 c.in-Feeder.is) ∙ sym x.1

pub returns-in-Ok-clause-suffix : goal.returns-in-Ok-clause-suffix
returns-in-Ok-clause-suffix g c =
    let k = (goal.at.returns-in-Ok-clause-suffix g c).After-changes_again in
    let x = whole g k in
    let put = subst (λ o. IsSomeAnd o (λ y. suffix_of c.stop.new.self ≡ Some (with_stop y))) (so-far g k) c.in-Ok.ensures.suffix in
    put ∙ ap Some (front-whole c.args.machine.now c.args.board.now.plans c.args.ask.now x.0 x.2 c.in-Front.state c.in-Front.end c.in-Front.kept c.in-Front.is) ∙ sym x.1
