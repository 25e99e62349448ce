-- A plan that breaks durations is no timed one, and one that breaks floors or horizon is out of bounds.
use Rattle.std.proofs.Common.{ℤ, inr, List, [], ◌∷◌, subst}
use Rattle.std.specs.Prelude.{IfSome}
use Rattle.tp_schedule.specs.Answers.{KeepsFloors, KeepsHorizon}
use Rattle.tp_schedule.specs.declared.parts.Plan.{Plan}
use Rattle.tp_schedule_check.specs.Early.{is_exempt}
use Rattle.tp_log_planner.specs.Breaches.{IsOffByItself, IsOutOfBounds}
use Rattle.tp_log_planner.specs.ToldMoves.{IsKeptPlan}
use Rattle.tp_log_planner.specs.Reasons.{IsOff}
use Rattle.tp_log_planner.proofs.AloneFacts.{any-some, misfit-breaks, some-by}
use Rattle.tp_log_planner.proofs.ReasonFacts.{off-some}
use Rattle.tp_log_planner.proofs.alone.find_in_plan.Goals as goal

pub returns-in-Some-clause-breaks : goal.returns-in-Some-clause-breaks
returns-in-Some-clause-breaks c =
    let machine = c.args.machine.now in
    let p = c.args.plan.now in
    any-some c.illegal.result (IsKeptPlan machine c.args.now c.args.exempt p → ⊥) (λ kept. misfit-breaks machine p c.in-Some.misfit c.in-Some.ensures kept.timed)

pub returns-clause-breaks : goal.returns-clause-breaks
returns-clause-breaks c =
    let machine = c.args.machine.now in
    let p = c.args.plan.now in
    let Breaks : List Plan → Type 0 = λ ps. KeepsFloors machine c.args.now (is_exempt c.args.exempt) ps → KeepsHorizon machine c.args.now ps → ⊥ in
    let T : List Plan → Type 0 = λ ps. IfSome c.find_out_of_bounds.result (λ reason. Breaks ps) in
    some-by c.find_out_of_bounds.result (Breaks (p ∷ [])) (IsKeptPlan machine c.args.now c.args.exempt p → ⊥) (λ breaks kept. breaks kept.floors kept.horizon)
    (subst T c.in_ok-alone.ensures c.find_out_of_bounds.ensures.breaks)

pub returns-clause-why : goal.returns-clause-why
returns-clause-why c =
    let machine = c.args.machine.now in
    let p = c.args.plan.now in
    let Off : List Plan → ℤ → ℤ → Type 0 = IsOutOfBounds machine c.args.now c.args.exempt in
    off-some ⊥ ⊥ (Off (p ∷ [])) (IsOffByItself machine c.args.now c.args.exempt p) (λ none. none) (λ a b. inr) c.find_out_of_bounds.result
    (subst (λ ps. IfSome c.find_out_of_bounds.result (IsOff ⊥ (Off ps))) c.in_ok-alone.ensures c.find_out_of_bounds.ensures.why)
