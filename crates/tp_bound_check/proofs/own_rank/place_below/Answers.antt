use Rattle.std.proofs.Common.{◌≡◌, ◌∙◌, ◌-◌, ap, sym, refl, arith, take, pos}
use Rattle.tp_machine.specs.declared.parts.Anchor.TheVariants.{Start}
use Rattle.tp_machine.specs.declared.parts.HoldRule.{HoldRule}
use Rattle.tp_schedule.specs.Choices.{put_places}
use Rattle.tp_bound_check.specs.Ranks.{rank_at}
use Rattle.tp_constraints.proofs.Steps.{put_places-none}
use Rattle.tp_bound_check.proofs.KeptRanks.{rank-one}
use Rattle.tp_bound_check.proofs.TrackFacts.{places-few}
use Rattle.tp_bound_check.proofs.own_rank.place_below.Goals as goal

-- what an index reads beyond the end
abbrev nothing : HoldRule
nothing = record { resource = record { 0 = 0 }; begin = Start; begin_off = pos 0; end = Start; end_off = pos 0; mode = 0 }

pub places-init : goal.places-init
places-init c =
    let m = c.min-at.ensures in
    record {
      rules = omega (arith, m);
      places = omega (arith, m);
      same = λ from to order bare. ap (rank_at c.args.place) (sym (places-few c.args.resource from to c.args.rules.now c.args.places.now c.min-at.result order (omega (arith, m))));
    }

pub places-preserved : goal.places-preserved
places-preserved c =
    let t = c.places-test.true in let r = c.places.invariant.rules in let p = c.places.invariant.places in
    record {
      rules = omega (arith, t, r);
      places = omega (arith, t, p);
      same = λ from to order bare. c.places.invariant.same from to order bare ∙ rank-one c.args.resource from to c.args.rules.now c.args.places.now c.places.at (c.places.at - 1) _ _ order c.places.left c.place_without-left.result nothing bare (omega (arith, t)) (omega (arith, t, r)) (omega (arith, t, p)) refl refl c.place_without-left.ensures;
    }

pub returns : goal.returns
returns c = λ from to order bare.
    let t = c.places-test.false in let z : c.places.at ≡ 0 = omega (arith, t) in
    c.places.invariant.same from to order bare
    ∙ ap (λ k. rank_at c.places.left (put_places c.args.resource from to c.args.rules.now (take k c.args.places.now) order)) z
    ∙ ap (rank_at c.places.left) (put_places-none c.args.resource from to c.args.rules.now order)
