use Rattle.std.proofs.Common.{refl, subst, sym, arith}
use Rattle.tp_machine.specs.declared.parts.Feeder.{Feeder}
use Rattle.tp_schedule.specs.Routes.{fresh}
use Rattle.tp_schedule_check.specs.Asked.{LeadsFrom}
use Rattle.tp_schedule_check.proofs.ListFacts.{any-at, none-any, none-more}
use Rattle.tp_schedule_check.proofs.asked.does_lead_from_feeder.Goals as goal

pub feeders-preserved : goal.feeders-preserved
feeders-preserved c =
    let leads = LeadsFrom c.args.machine.now c.args.ask.now c.args.acts.now in
    none-more (λ (f : Feeder). leads (fresh f.loc)) c.args.machine.now.feeders c.feeders.at c.get.result.now c.get.ensures
    (λ led. let told = c.does_lead_from.ensures.1 (subst leads (sym c.new_sheet-start.ensures) led) in let not = c.if-does_lead_from.false in absurd cc) c.feeders.invariant

pub returns-then-does_lead_from : goal.returns-then-does_lead_from
returns-then-does_lead_from c =
    let leads = LeadsFrom c.args.machine.now c.args.ask.now c.args.acts.now in
    (λ t. any-at (λ (f : Feeder). leads (fresh f.loc)) c.args.machine.now.feeders c.feeders.at c.get.result.now c.get.ensures (subst leads c.new_sheet-start.ensures (c.does_lead_from.ensures.0 c.if-does_lead_from.true)), λ any. refl)

pub returns : goal.returns
returns c =
    let leads = LeadsFrom c.args.machine.now c.args.ask.now c.args.acts.now in (
      λ t. absurd cc,
      λ any. absurd (none-any (λ (f : Feeder). leads (fresh f.loc)) c.args.machine.now.feeders c.feeders.at c.feeders.invariant (omega arith) any),
    )
