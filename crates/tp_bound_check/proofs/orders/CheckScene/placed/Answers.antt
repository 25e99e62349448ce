use Rattle.std.proofs.Common.{◌≡◌, ◌∙◌, ◌-◌, ap, sym, refl, arith, reverse, pos, [], Some, None}
use Rattle.std.proofs.lemmas.List.{length-reverse}
use Rattle.tp_machine.specs.declared.parts.ActId.{ActId}
use Rattle.tp_machine.specs.declared.parts.Anchor.TheVariants.{Start}
use Rattle.tp_machine.specs.declared.parts.HoldRule.{HoldRule}
use Rattle.tp_schedule.specs.Choices.{Choice}
use Rattle.tp_bound_laws.specs.Chains.{choice_act}
use Rattle.tp_bound_check.proofs.ChoiceFacts.{slice-is}
use Rattle.tp_bound_check.proofs.PlacedFacts.{beyond-gap, placed-gap, unplaced-gap}
use Rattle.tp_bound_check.proofs.orders.CheckScene.placed.Goals.{then-start-eq0-via-then-start-eq0, then-start-eq0-via-else-start-eq0+then-start-count}
use Rattle.tp_bound_check.proofs.orders.CheckScene.placed.Goals as goal

-- what an index reads beyond the end
abbrev nothing : HoldRule
nothing = record { resource = record { 0 = 0 }; begin = Start; begin_off = pos 0; end = Start; end_off = pos 0; mode = 0 }

abbrev no-choice : Choice
no-choice = record { act = record { 0 = 0 }; places = [] }

gone : (x : ActId) → None ≡ Some x → ⊥
gone x e = cc

pub returns-then-start-eq0 : goal.returns-then-start-eq0
returns-then-start-eq0 c =
    let s = c.args.self.now in
    elim c.then-start-eq0.branch [
      | then-start-eq0-via-then-start-eq0 w ↦ (let z = w.if-start-eq0.true in record { gap = beyond-gap s.rows.machine.now s.plans.now c.args.branch.now c.args.resource c.args.start (λ k lt e. absurd (omega (arith, z, e))) })
      | then-start-eq0-via-else-start-eq0+then-start-count w ↦ (let z = w.if-start-count.true in let n = w.count.ensures.count in record { gap = beyond-gap s.rows.machine.now s.plans.now c.args.branch.now c.args.resource c.args.start (λ k lt e. absurd (omega (arith, z, n, lt, e))) })
    ]

pub unreachable-requires : goal.unreachable-requires
unreachable-requires c =
    let cs = reverse c.args.branch.now.x.choices in let at = c.args.start - 1 in
    let l = length-reverse c.args.branch.now.x.choices in let z = c.if-start-eq0.false in let w = c.if-start-count.false in let n = c.count.ensures.count in
    let e = slice-is cs at no-choice (omega (arith, l, z, w, n)) in
    gone _ (sym c.in_default.is ∙ c.act.ensures ∙ ap choice_act e)

pub returns-in-Some-number_on : goal.returns-in-Some-number_on
returns-in-Some-number_on c =
    let s = c.args.self.now in let z = c.if-start-eq0.false in let w = c.if-start-count.false in let n = c.count.ensures.count in
    let found = c.in-Some-number_on.ensures.some in
    record {
      gap = placed-gap s.rows.machine.now s.plans.now c.args.branch.now c.args.resource c.args.start (c.args.start - 1) c.in-Some-number_on.number c.before-rank.result c.in-Some.act c.holds_of-rules.result.now c.places.result.now c.args.ranks.now.before
          _ nothing c.own.result c.own-in-Some-number_on.result (omega (arith, z)) (omega (arith, w, n)) refl c.in-Some.ensures c.holds_of-rules.ensures.holds c.places.ensures found.0 found.1 refl (found.2 nothing) c.own.ensures c.own-in-Some-number_on.ensures c.before-rank.ensures c.requires.ranked;
    }

pub returns-in-None : goal.returns-in-None
returns-in-None c =
    let s = c.args.self.now in let z = c.if-start-eq0.false in let w = c.if-start-count.false in let n = c.count.ensures.count in
    record {
      gap = unplaced-gap s.rows.machine.now s.plans.now c.args.branch.now c.args.resource c.args.start (c.args.start - 1) c.in-Some.act c.holds_of-rules.result.now c.places.result.now (omega (arith, z)) (omega (arith, w, n)) refl
          c.in-Some.ensures c.holds_of-rules.ensures.holds c.places.ensures c.in-None.ensures.none;
    }
