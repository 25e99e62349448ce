use Rattle.std.proofs.Common.{◌∙◌, ap, sym, ℕ, Option, Some}
use Rattle.tp_bound_laws.specs.Chains.{resource_gap}
use Rattle.tp_bound_laws.specs.Places.{Span, Stand}
use Rattle.tp_bound_check.proofs.orders.CheckScene.gap_to_kept.Goals as goal

pub returns-then-start-count : goal.returns-then-start-count
returns-then-start-count c =
    let s = c.args.self.now in let m = s.rows.machine.now in let ask = s.rows.ask.now in
    let b = c.args.ends.now.before in let a = c.args.ends.now.after in let branch = c.stand.inside.branch in
    let on = sym (ap (λ (x : Span). x.rule.resource.0) c.span.view_is) ∙ c.if-span-resource.false in
    c.span_gap_to_kept.ensures ask s.limit ∙ ap (λ (r : ℕ). resource_gap m s.plans.now ask s.limit (record { branch = branch; span = Some c.in-Some.span }) r b a) on
    ∙ ap (λ (x : Stand). resource_gap m s.plans.now ask s.limit x c.args.resource b a) (ap (λ (o : Option Span). record { branch = branch; span = o }) (sym c.in-Some.is) ∙ c.stand.view_is)
