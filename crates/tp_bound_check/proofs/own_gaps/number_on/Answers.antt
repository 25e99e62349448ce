use Rattle.std.proofs.Common.{◌∙◌, ap, sym, refl, arith, cond, insert, get_or, take, pos}
use Rattle.tp_machine.specs.declared.parts.Anchor.TheVariants.{Start}
use Rattle.tp_machine.specs.declared.parts.HoldRule.{HoldRule}
use Rattle.tp_schedule.specs.Choices.{put_places}
use Rattle.tp_constraints.proofs.Steps.{put_places-none}
use Rattle.tp_bound_check.proofs.SeamFacts.{off-it}
use Rattle.tp_bound_check.proofs.TrackFacts.{places-few, places-one}
use Rattle.tp_bound_check.proofs.own_gaps.number_on.Goals as goal

-- what an index reads beyond the end
abbrev nothing : HoldRule
nothing = record { resource = record { 0 = 0 }; begin = Start; begin_off = pos 0; end = Start; end_off = pos 0; mode = 0 }

pub rules-init : goal.rules-init
rules-init c = λ from to order. put_places-none c.args.resource from to c.args.rules.now order

pub rules-preserved : goal.rules-preserved
rules-preserved c = λ from to order.
    let r = c.args.resource in let rules = c.args.rules.now in let places = c.args.places.now in let n = c.rules.number in
    let m = c.min-count.ensures in let t = c.rules-test.true in
    let xs = put_places r from to rules (take n places) order in
    let rule = get_or rules n nothing in let place = get_or places n 0 in
    places-one r from to rules places n rule place order nothing (omega (arith, m, t)) (omega (arith, m, t)) refl refl
    ∙ ap (λ b. cond b (insert xs place (record { rule = rule; from = from; to = to })) xs) (off-it rule.resource.0 r c.if-rules-number.false) ∙ c.rules.invariant from to order

pub returns-clause-none : goal.returns-clause-none
returns-clause-none c = λ from to order.
    let m = c.min-count.ensures in let t = c.rules-test.false in
    sym (places-few c.args.resource from to c.args.rules.now c.args.places.now c.rules.number order (omega (arith, m, t))) ∙ c.rules.invariant from to order
