use Rattle.std.proofs.Common.{◌≡◌, ◌∙◌, [], true, ap, sym, subst}
use Rattle.tp_bound_laws.specs.Places.Due.{places}
use Rattle.tp_bound_check.specs.Frames.{IsOn}
use Rattle.tp_bound_check.specs.Looks.{IsSoundFrame, dues_of}
use Rattle.tp_bound_check.specs.declared.dues.Frame.{Frame}
use Rattle.tp_bound_check.specs.declared.dues.Frame.TheVariants.{Held}
use Rattle.tp_bound_check.proofs.FrameFacts.{deeper-on}
use Rattle.tp_bound_check.proofs.NodeFacts.{behind-dues, behind-on, behind-sound, passed-is, places-first}
use Rattle.tp_bound_laws.specs.Places.{stand_of}
use Rattle.tp_bound_check.specs.Frames.{has_due}
use Rattle.tp_bound_check.specs.Ranks.{IsRanked, IsSoundStand, next_number, number_of}
use Rattle.tp_bound_check.proofs.WayFacts.{behind-number, behind-ranked, passing-below, stands}
use Rattle.tp_bound_check.proofs.orders.CheckScene.pass_place.Goals as goal

pub returns-in-Ok-clause-passing : goal.returns-in-Ok-clause-passing
returns-in-Ok-clause-passing c = λ goals.
    let s = c.args.self.now in let m = s.rows.machine.now in let b = c.args.branch in let d = places b c.args.rule c.args.lo in
    let first = places-first m s.plans.now s.rows.ask.now s.rows.rows.now s.limit b c.args.rule c.args.lo c.order_length.result c.order_length.ensures c.if-lo-order_length.false in
    let after = ap (dues_of m s.plans.now s.rows.ask.now s.rows.rows.now s.limit goals) c.places_behind-left.ensures ∙ behind-dues m s.plans.now s.rows.ask.now s.rows.rows.now s.limit goals b c.args.rule c.args.lo c.args.node.now.head in
    passed-is m s.plans.now s.rows.ask.now s.rows.rows.now s.limit goals (Held b c.args.rule c.args.lo) c.places_behind-left.result c.in-Ok.below c.args.node.now d [] first (c.in-Ok.ensures.ok goals d c.place_stand-stand.ensures.stand) after

pub returns-in-Err-clause-passing : goal.returns-in-Err-clause-passing
returns-in-Err-clause-passing c = λ goals.
    let s = c.args.self.now in let m = s.rows.machine.now in let b = c.args.branch in let d = places b c.args.rule c.args.lo in
    let first = places-first m s.plans.now s.rows.ask.now s.rows.rows.now s.limit b c.args.rule c.args.lo c.order_length.result c.order_length.ensures c.if-lo-order_length.false in
    (d, [], first, c.in-Err.ensures.fault d c.place_stand-stand.ensures.stand)

pub returns-in-Ok-clause-sound : goal.returns-in-Ok-clause-sound
returns-in-Ok-clause-sound c =
    let m = c.args.self.now.rows.machine.now in let b = c.args.branch in let head = c.args.node.now.head in
    let left = subst (IsSoundFrame m) (sym c.places_behind-left.ensures) (behind-sound m b c.args.rule head c.requires.shallow c.requires.next) in (
      left,
      c.in-Ok.ensures.sound,
      λ n on. (
        subst (λ (f : Frame). IsOn f n) (sym c.places_behind-left.ensures) (behind-on b c.args.rule head n on),
        c.in-Ok.ensures.depth n (deeper-on c.place_stand-stand.result b.depth n c.place_stand-stand.ensures.deeper on),
      ),
    )

pub look-requires-clause-sound : goal.look-requires-clause-sound
look-requires-clause-sound c =
    let s = c.args.self.now in let m = s.rows.machine.now in
    stands (λ x. IsSoundStand m s.plans.now x c.rank_node.new.ranks) (stand_of m s.plans.now s.rows.ask.now s.rows.rows.now (places c.args.branch c.args.rule c.args.lo) c.args.node.now.head) c.place_stand-stand.result c.args.node.now.depth
    c.place_stand-stand.ensures.stand (c.rank_node.ensures.sound c.args.lo)

pub returns-in-Ok-clause-ranked : goal.returns-in-Ok-clause-ranked
returns-in-Ok-clause-ranked c =
    let s = c.args.self.now in let m = s.rows.machine.now in let b = c.args.branch in let ranks = c.rank_node.new.ranks in let head = c.args.node.now.head in
    let sound = stands (λ x. IsSoundStand m s.plans.now x ranks) (stand_of m s.plans.now s.rows.ask.now s.rows.rows.now (places b c.args.rule c.args.lo) head) c.place_stand-stand.result c.args.node.now.depth
    c.place_stand-stand.ensures.stand (c.rank_node.ensures.sound c.args.lo) in
    let below = passing-below m s.plans.now c.place_stand-stand.result c.in-Ok.below ranks (next_number b.x.choices) sound c.place_stand-stand.ensures.grows c.in-Ok.ensures.below in
    let left = sym c.places_behind-left.ensures in (
      subst (IsRanked m s.plans.now ranks.before) left (behind-ranked m s.plans.now b c.args.rule head ranks.before c.rank_node.ensures.ranked),
      below.0,
      subst (λ (f : Frame). has_due f ≡ true → number_of f ≡ next_number b.x.choices) left (behind-number b c.args.rule head),
      below.1,
    )
