use Rattle.std.proofs.lemmas.Grind.{common_steps}
-- What is taken from the first item that is no aside on is taken of the items to come.
use Rattle.std.proofs.Common.{◌≡◌, ℕ, ◌+◌, ◌-◌, ◌∙◌, List, drop, length, take, ap, subst, sym, arith}
use Rattle.tp_log.specs.declared.item.Item.{Item}
use Rattle.tp_log_planner.specs.TakenAnswers.{DoTellSettled, TakesSettled}
use Rattle.tp_schedule.specs.declared.parts.Halt.TheVariants.{Stopped}
use Rattle.tp_log_planner.specs.ToldAnswers.{HasStopped, behind_asides}
use Rattle.tp_log_planner.proofs.MoveSteps.{rest-is}
use Rattle.tp_log_planner.specs.Reasons.{IsSettlingReason}
use Rattle.tp_log_planner.specs.declared.failure.Reason.{Reason}
use Rattle.tp_log_planner.proofs.ReasonFacts.{KeepsWhy, kept-reason}
use Rattle.tp_log_planner.proofs.ToldFacts.{first, halted, settles-on, stops-settled}
use Rattle.tp_log_planner.proofs.told.ToldPlanner.settle.Goals as goal

pub take_settled-requires-clause-first : goal.take_settled-requires-clause-first
take_settled-requires-clause-first c =
    let next = c.next-next.result in
    let path : take (length c.deref.result.now - next) (drop next c.deref.result.now) ≡ drop next c.args.self.now.items =
    rest-is c.deref.result.now next ∙ ap (drop next) (c.deref.ensures.value ∙ (λ k. (c.self.view_is k).items)) in
    subst (λ xs. behind_asides xs ≡ xs) (sym path) (first c.args.machine.now c.args.schedule.now.plans c.args.self.now next c.next-next.ensures.items c.next-next.ensures.further)

pub returns-in-Ok-clause-step : goal.returns-in-Ok-clause-step
returns-in-Ok-clause-step c =
    let m = c.args.machine.now in
    let plans = c.args.schedule.now.plans in
    let next = c.next-next.result in
    let path : take (length c.deref.result.now - next) (drop next c.deref.result.now) ≡ drop next c.args.self.now.items =
    rest-is c.deref.result.now next ∙ ap (drop next) (c.deref.ensures.value ∙ (λ k. (c.self.view_is k).items)) in
    let takes = subst (λ xs. TakesSettled m plans c.args.now xs c.take_settled.new.schedule.plans c.in-Ok.taken) path c.in-Ok.ensures.told in
    settles-on m plans c.args.self.now next c.next-next.ensures.items c.next-next.ensures.further c.args.now c.take_settled.new.schedule.plans c.in-Ok.taken _ takes
    (λ k. record (c.self.view_is k) { at = next + c.in-Ok.taken })

pub returns-in-Err-clause-stopped : goal.returns-in-Err-clause-stopped
returns-in-Err-clause-stopped c = λ e. (
    let m = c.args.machine.now in
    let plans = c.args.schedule.now.plans in
    let next = c.next-next.result in
    let path : take (length c.deref.result.now - next) (drop next c.deref.result.now) ≡ drop next c.args.self.now.items =
    rest-is c.deref.result.now next ∙ ap (drop next) (c.deref.ensures.value ∙ (λ k. (c.self.view_is k).items)) in
    let P : List Item → Type 0 = λ xs. DoTellSettled m plans c.args.now xs in
    let halts : c.halt.result ≡ Stopped = cc in
    let both = halted (P (take (length c.deref.result.now - next) (drop next c.deref.result.now))) c.in-Err.failure c.args.self.now c.halt.result c.halt.new.self c.halt.ensures.halts halts c.in-Err.ensures.refused in
    let R : List Item → ℕ → Reason → Type 0 = λ xs n r. IsSettlingReason m plans c.args.now xs n r in
    let why = kept-reason (R (take (length c.deref.result.now - next) (drop next c.deref.result.now))) c.in-Err.failure c.halt.new.self.stop c.args.self.now c.halt.result c.halt.new.self (length c.args.self.now.items) c.halt.ensures.halts halts c.halt.ensures.kept c.in-Err.ensures.why in
    let stopped : HasStopped c.args.self.now c.halt.result c.halt.new.self = both.1 in
    stops-settled m plans c.args.self.now next c.next-next.ensures.items c.next-next.ensures.further c.args.now c.halt.result c.halt.new.self (subst (λ xs. P xs → ⊥) path both.0) (subst (λ xs. KeepsWhy (R xs) c.halt.new.self.stop (length c.args.self.now.items)) path why) stopped)

pub returns-in-Err-clause-stops_only : goal.returns-in-Err-clause-stops_only
returns-in-Err-clause-stops_only c = grind (arith, common_steps)

pub returns-in-Err-clause-counted : goal.returns-in-Err-clause-counted
returns-in-Err-clause-counted c = grind (arith, common_steps)

pub returns-in-Err-clause-lasts : goal.returns-in-Err-clause-lasts
returns-in-Err-clause-lasts c = grind (arith, common_steps)

pub returns-in-Err-clause-memory : goal.returns-in-Err-clause-memory
returns-in-Err-clause-memory c = grind (arith, common_steps)
