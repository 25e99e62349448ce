use Rattle.std.proofs.Common.{◌≡◌, ◌∙◌, ap, sym, cond, Bool, List, ◌++◌, ◌∷◌, [], refl, true, false, ◌||◌, arith}
use Rattle.std.proofs.lemmas.Grind.{common_steps}
use Rattle.std.proofs.lemmas.List.{append-nil}
use Rattle.tp_schedule.specs.declared.parts.Plan.{Plan}
use Rattle.tp_schedule.specs.LivePlans.{is_live}
use Rattle.tp_schedule.specs.Plans.{is_same_copy}
use Rattle.tp_bound_check.proofs.TakeFacts.{live-more}
use Rattle.tp_bound_check.proofs.kept.keep_all.Goals as goal

kept-or : (b : Bool) (xs : List Plan) (p : Plan) → cond b (xs ++ p ∷ []) xs ≡ xs ++ cond b (p ∷ []) []
kept-or true xs p = refl
kept-or false xs p = sym (append-nil xs)

pub plans-preserved : goal.plans-preserved
plans-preserved c =
    let m = c.args.machine.now in let a = c.args.ask.now in let ps = c.args.schedule.now.plans in
    let p = c.plan_at.result.now in
    let b = is_live m a.now p || is_same_copy p.sheet a.sheet in
    c.in_ok-keep.ensures ∙ kept-or b c.plans.kept.items p ∙ ap (λ xs. xs ++ cond b (p ∷ []) []) c.plans.invariant ∙ sym (live-more m a ps c.plans.at p c.plan_at.ensures.plan)

pub returns : goal.returns
returns c = grind (arith, common_steps)
