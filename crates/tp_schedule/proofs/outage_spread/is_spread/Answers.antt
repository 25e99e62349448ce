-- No other mode is found around the tick exactly where the modes are spread there.
use Rattle.std.proofs.Common.{◌≡◌, ap, Bool, not, ◌∙◌, ◌+◌, ◌-◌, ◌↔◌, ℕ, Option, Some, None, IsTrue, true, false, refl, sym, arith}
use Rattle.std.specs.Option.{is_some}
use Rattle.tp_machine.specs.Modes.{gap_at}
use Rattle.tp_schedule.specs.Legality.{IsSpreadAt}
use Rattle.tp_schedule.specs.OutageSpread.{first_of, mode_of_plan}
use Rattle.tp_schedule.specs.declared.outage_spread.Stretch.{Stretch}
use Rattle.tp_schedule.proofs.SpreadFacts.{here, around, spread_unheld, spread_alone, not_spread}
use Rattle.tp_schedule.proofs.outage_spread.is_spread.Goals as goal

pub returns-in-None : goal.returns-in-None
returns-in-None c = (λ t. spread_unheld c.args.machine.now c.args.plans.now c.args.resource c.args.at (sym c.in-None.ensures), λ s. refl)

pub returns-in-Some : goal.returns-in-Some
returns-in-Some c = go c.mode_of_plans-in-Some.result c.is_none.result (sym c.mode_of_plans-in-Some.ensures) c.is_none.ensures where
  from : c.saturating_sub-first.result ≡ c.args.at - gap_at c.args.machine.now c.args.resource.0
  from = c.saturating_sub-first.ensures ∙ ap (λ g. c.args.at - g) c.gap_at-gap.ensures.gap

  more : ℕ
  more = c.args.at - c.saturating_sub-first.result + c.gap_at-gap.result

  until : c.saturating_sub-first.result + more ≡ c.args.at + gap_at c.args.machine.now c.args.resource.0
  until = let e = c.gap_at-gap.ensures.gap in omega (arith, from)

  found : first_of (mode_of_plan c.args.machine.now (here c.args.machine.now c.args.plans.now c.args.resource c.args.at)) c.args.plans.now ≡ Some c.in-Some.mode
  found = sym c.mode_of_plans.ensures ∙ c.in-Some.is

  there : Stretch
  there = around c.args.machine.now c.args.plans.now c.args.resource c.args.at c.saturating_sub-first.result more c.in-Some.mode

  go : (o : Option ℕ) (b : Bool) → first_of (mode_of_plan c.args.machine.now there) c.args.plans.now ≡ o → is_some o ≡ not b → IsTrue b ↔ IsSpreadAt c.args.machine.now c.args.plans.now c.args.resource.0 c.args.at
  go None true e is = (λ t. spread_alone c.args.machine.now c.args.plans.now c.args.resource c.args.at _ more _ from until found e, λ s. refl)
  go None false e is = cc
  go (Some n) true e is = cc
  go (Some n) false e is = (λ t. cc, λ s. absurd (not_spread c.args.machine.now c.args.plans.now c.args.resource c.args.at _ more _ from until found n e s))
