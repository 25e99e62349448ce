use Rattle.std.proofs.Common.{ℕ, arith, ap, sym, ◌∙◌, subst, ◌≡◌, ◌-◌, ◌<◌, length, refl, Some, IsSomeAnd}
use Rattle.std.specs.List.{slice_get}
use Rattle.std.proofs.lemmas.Option.{slice_get_read, slice_get_within, same_Some}
use Rattle.tp_machine.specs.declared.parts.ActId.{ActId}
use Rattle.tp_schedule.specs.Holders.{holds_of_act}
use Rattle.tp_schedule.specs.Answers.{kept_of}
use Rattle.tp_placing.specs.Boards.{BoardValue, suffix_after}
use Rattle.tp_placing.specs.Calls.{CanPlace}
use Rattle.tp_placing.specs.Causes.{step_tag}
use Rattle.tp_placing.specs.Inside.{board_of}
use Rattle.tp_placing.specs.LoadedBoard.{Stands}
use Rattle.tp_placing.proofs.BoardFacts.{steps-room}
use Rattle.tp_placing.proofs.NewestFacts.{HasNewest, act-known, has-newest, hold-known, newest-act}
use Rattle.tp_placing.proofs.StandFacts.{and-some, some-and, some-at}
use Rattle.tp_placing.proofs.StepFacts.{some-steps}
use Rattle.tp_placing.proofs.board.Board.next_hold.Goals as goal
use Rattle.tp_placing.proofs.board.Board.next_hold.Goals.{After-index-newest}

-- the board as its fields show it
abbrev board : (g : _) → After-index-newest g → BoardValue g.row.N.Denot
board g c =
    let a = c.self.inside in
    board_of a.net a.timelines a.held.items a.plans.items a.firsts.items a.last a.floor a.horizon a.ask a.steps.items a.marks.items a.made_for a.causes a.limit a.settled

-- the board on the machine, with the ask that it keeps
standing : (g : _) (c : After-index-newest g) → Stands g.N.Network.reading (board g c) c.args.machine.now
standing g c = rw (← c.self.view_is) at c.requires.stands

-- a place where the hold can be put
somewhere : (g : _) (c : After-index-newest g) → (place : ℕ) × IsSomeAnd (suffix_after c.self.inside.steps.items) (λ x. CanPlace c.args.machine.now c.self.inside.plans.items x c.args.hold place)
somewhere g c =
    some-at (suffix_after c.self.inside.steps.items) (λ x place. CanPlace c.args.machine.now c.self.inside.plans.items x c.args.hold place) (rw (← c.self.view_is) at c.requires.next)

abbrev place : (g : _) → After-index-newest g → ℕ
place g c = (somewhere g c).0

next : (g : _) (c : After-index-newest g) → IsSomeAnd (suffix_after c.self.inside.steps.items) (λ x. CanPlace c.args.machine.now c.self.inside.plans.items x c.args.hold (place g c))
next g c = (somewhere g c).1

last : (g : _) (c : After-index-newest g) → slice_get c.self.inside.steps.items (length c.self.inside.steps.items - 1) ≡ Some c.index-newest.result.now
last g c =
    let steps = c.self.inside.steps in
    let y = some-and (suffix_after steps.items) (λ x. CanPlace c.args.machine.now c.self.inside.plans.items x c.args.hold (place g c)) (next g c) in
    let some = some-steps steps.items y.0 y.1 in
    let count : c.len.result ≡ length steps.items = c.len.ensures ∙ steps.ok.0 in
    let k : c.len.result - 1 ≡ length steps.items - 1 = ap (λ n. n - 1) count in
    let at = slice_get_read steps.items (length steps.items) (c.len.result - 1) c.index-newest.result.now refl (omega arith) c.index-newest.ensures in
    ap (slice_get steps.items) (sym k) ∙ at

newest-here : (g : _) (c : After-index-newest g) → HasNewest g.N.Network.reading.net (board g c) c.args.machine.now (standing g c).0 c.index-newest.result.now c.args.hold (place g c)
newest-here g c = has-newest g.N.Network.reading (board g c) c.args.machine.now (standing g c).0 c.index-newest.result.now c.args.hold (place g c) (standing g c).1 (next g c) (last g c)

act-here : (g : _) (c : After-index-newest g) → c.index-newest.result.now.newest ≡ Some (newest-here g c).can.choice.act
act-here g c = newest-act g.N.Network.reading.net (board g c) c.args.machine.now (standing g c).0 c.index-newest.result.now c.args.hold (place g c) (newest-here g c)

pub unreachable-requires : goal.unreachable-requires
unreachable-requires g k = k.in_default.not-Some _ (act-here g (goal.at.unreachable-requires g k).After-index-newest)

pub get-requires : goal.get-requires
get-requires g k =
    let c = (goal.at.get-requires g k).After-index-newest in
    let h = newest-here g c in
    let same : h.can.choice.act ≡ k.in-Some.act = same_Some h.can.choice.act k.in-Some.act (sym (act-here g c) ∙ k.in-Some.is) in
    subst (λ (a : ActId). a.0 < length c.args.machine.now.actions) same (act-known g.N.Network.reading.net (board g c) c.args.machine.now (standing g c).0 c.index-newest.result.now c.args.hold (place g c) h)

pub get-requires-2 : goal.get-requires-2
get-requires-2 g k =
    let c = (goal.at.get-requires-2 g k).After-index-newest in
    slice_get_within k.get.result.now.holds c.args.hold _ (hold-known g.N.Network.reading.net (board g c) c.args.machine.now (standing g c).0 c.index-newest.result.now c.args.hold (place g c) (newest-here g c) k.in-Some.act k.get.result.now k.in-Some.is k.get.ensures)

pub overflow_sub-hold : goal.overflow_sub-hold
overflow_sub-hold g k =
    let h = newest-here g (goal.at.overflow_sub-hold g k).After-index-newest in
    let f = h.hand.1 in
    let l = ap length h.can.newest in
    omega arith

pub returns-clause-is : goal.returns-clause-is
returns-clause-is g k =
    let c = (goal.at.returns-clause-is g k).After-index-newest in
    rw (← c.self.view_is) (record {
      newest = last g c;
      rule = and-some c.index-newest.result.now.newest k.in-Some.act _ k.in-Some.is (ap (λ o. slice_get (holds_of_act o) c.args.hold) k.get.ensures ∙ k.get-2.ensures);
      start = refl;
      end = refl;
      gap = k.gap_at.ensures.gap;
      tag = k.step_tag.ensures ∙ ap step_tag (k.len-2.ensures ∙ c.self.inside.steps.ok.0);
    })

pub returns-clause-within : goal.returns-clause-within
returns-clause-within g k =
    let c = (goal.at.returns-clause-within g k).After-index-newest in
    let few = steps-room (kept_of (standing g c).0) (length c.self.inside.steps.items) (newest-here g c).x (newest-here g c).at.few_steps in
    let tag = k.step_tag.ensures in
    let l = k.len-2.ensures ∙ c.self.inside.steps.ok.0 in
    omega arith
