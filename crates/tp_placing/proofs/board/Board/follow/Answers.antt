use Rattle.std.proofs.Common.{◌≡◌, ◌∙◌, ℕ, Option, Some, ap, arith, refl, sym, subst}
use Rattle.std.proofs.lemmas.Option.{same_Some}
use Rattle.tp_schedule.specs.declared.parts.Ask.{Ask}
use Rattle.tp_placing.proofs.FollowFacts.{IsStill, still}
use Rattle.tp_placing.proofs.board.Board.follow.Goals as goal
use Rattle.tp_placing.proofs.board.Board.follow.Goals.{After-copy_asked, After-move_to-arg-1}

-- an ask that is there is of its moment
moment : (o : Option Ask) (before : Ask) → o ≡ Some before → (now : ℕ) → before.now ≡ now → (other : Ask) → o ≡ Some other → other.now ≡ now
moment o before is now same other e = subst (λ (a : Ask). a.now ≡ now) (same_Some before other (sym is ∙ e)) same

-- the board as it was, at the moment of the ask and at the one before
now-still : (g : _) (c : After-copy_asked g) → IsStill c.args.machine.now c.args.now c.args.self.now.plans (g.N.Network.reading.net c.args.self.now.net) c.args.self.now.orders.orders c.args.self.now.held c.args.self.now.firsts c.args.self.now.last.0 c.args.self.now.causes
now-still g c =
    let is : c.args.self.now.ask ≡ Some c.in-Some.before = sym (ap (λ b. b.ask) c.self.view_is) ∙ c.in-Some.is in
    still g.N.Network.reading c.args.self.now c.args.machine.now c.args.now c.requires.stands c.requires.closed (moment c.args.self.now.ask c.in-Some.before is c.args.now c.if-before-now.true) c.requires.can.now_at_most

then-still : (g : _) (c : After-move_to-arg-1 g) → IsStill c.args.machine.now c.in-Some.before.now c.args.self.now.plans (g.N.Network.reading.net c.args.self.now.net) c.args.self.now.orders.orders c.args.self.now.held c.args.self.now.firsts c.args.self.now.last.0 c.args.self.now.causes
then-still g c =
    let is : c.args.self.now.ask ≡ Some c.in-Some.before = sym (ap (λ b. b.ask) c.self.view_is) ∙ c.in-Some.is in
    still g.N.Network.reading c.args.self.now c.args.machine.now c.in-Some.before.now c.requires.stands c.requires.closed (moment c.args.self.now.ask c.in-Some.before is c.in-Some.before.now refl)
    (omega (arith, c.if-now-before.false, c.requires.can.now_at_most))

pub follow_from-requires-clause-can : goal.follow_from-requires-clause-can
follow_from-requires-clause-can g c = (now-still g c).can

pub follow_from-requires-clause-loaded : goal.follow_from-requires-clause-loaded
follow_from-requires-clause-loaded g c = (now-still g c).loaded

pub follow_from-requires-clause-last : goal.follow_from-requires-clause-last
follow_from-requires-clause-last g c = (now-still g c).last_point

pub move_to-requires-clause-can : goal.move_to-requires-clause-can
move_to-requires-clause-can g c = (then-still g c).can

pub move_to-requires-clause-loaded : goal.move_to-requires-clause-loaded
move_to-requires-clause-loaded g c = (then-still g c).loaded

pub follow_from-requires-2-clause-last : goal.follow_from-requires-2-clause-last
follow_from-requires-2-clause-last g c =
    let was = (then-still g (goal.at.follow_from-requires-2-clause-last g c).After-move_to-arg-1).last_point in
    ap (λ p. p.0) c.move_to.ensures.last ∙ was ∙ sym (c.move_to.ensures.points c.if-not-move_to.false)
