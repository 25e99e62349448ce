-- A plan is placed among the moved ones, and looked at.
use Rattle.std.proofs.Common.{◌≡◌, ◌∙◌, ℕ, ◌-◌, List, ◌∷◌, None, drop, length, slice_index, take, ap, subst, sym}
use Rattle.std.proofs.lemmas.Option.{get_or_from_slice_get}
use Rattle.tp_log.specs.declared.item.Item.{Item}
use Rattle.tp_log.specs.declared.item.Item.TheVariants.{Note}
use Rattle.tp_schedule.specs.Answers.{NoneBefore}
use Rattle.tp_schedule.specs.Plans.{end_of_plan, plan_of}
use Rattle.tp_bound_laws.specs.declared.claim.Claim.TheVariants.{Earliest}
use Rattle.tp_schedule_check.specs.Faults.{IsRight}
use Rattle.tp_log_planner.specs.TakenAnswers.{DoTellPlan}
use Rattle.tp_log_planner.specs.Breaches.{HasOffMove}
use Rattle.tp_log_planner.specs.ToldMoves.{DoTellMoves, IsMoveOver}
use Rattle.tp_log_planner.specs.DueTrees.{BeginsWithTree}
use Rattle.tp_log_planner.proofs.MoveSteps.{rest-is}
use Rattle.tp_log_planner.proofs.PlaceFacts.{few-left, placed, right-too, tells-moves-too, tree-too}
use Rattle.tp_log_planner.proofs.TreeFacts.{denies-from, denies-like}
use Rattle.std.specs.Prelude.{Some}
use Rattle.std.proofs.Common.{ℤ, inl, inr, refl}
use Rattle.tp_schedule_check.specs.Faults.{IsAnswerFault, exempt_of}
use Rattle.tp_log_planner.specs.Reasons.{AreBehindPlan, BeginsWithPlan, IsAskedReason, IsBreach, IsFrom, IsTimesReason, IsTreeReason}
use Rattle.tp_log_planner.proofs.ReasonFacts.{asked-breach, asked-reason, same-stop, stop-from, tree-reason}
use Rattle.tp_log_planner.proofs.told_answer.place_plan.Goals as goal

pub returns-in-Err-clause-refused : goal.returns-in-Err-clause-refused
returns-in-Err-clause-refused c = λ told only first. (
    let m = c.args.machine.now in
    let plans = c.args.schedule.now.plans in
    let ask = c.args.ask.now in
    let P = DoTellPlan m plans ask (Note told ∷ c.args.later.now) in
    denies-from (DoTellMoves m ask.now (Some ask.sheet) plans c.args.later.now) P c.in-Err.failure (tells-moves-too m plans ask c.requires.can told c.args.later.now first c.args.plan only) c.in-Err.ensures.refused)

pub put_plan-requires-clause-few : goal.put_plan-requires-clause-few
put_plan-requires-clause-few c = λ none. (
    let mid = c.take_all_moves.new.after.plans in
    few-left c.args.machine.now c.args.schedule.now.plans mid c.args.ask.now c.requires.can c.in-Ok-take_all_moves.ensures.moved.sheets
    (subst (λ copy. plan_of copy mid ≡ None) c.requires.sheet none))

pub returns-in-Err-check_answer-clause-refused : goal.returns-in-Err-check_answer-clause-refused
returns-in-Err-check_answer-clause-refused c = λ told only first. (
    let m = c.args.machine.now in
    let plans = c.args.schedule.now.plans in
    let ask = c.args.ask.now in
    let after = c.put_plan.new.schedule.plans in
    let P = DoTellPlan m plans ask (Note told ∷ c.args.later.now) in
    denies-like P c.in-Err-check_answer.failure c.ahead_of.result c.ahead_of.ensures.stops
    (denies-from (IsRight m plans ask after) P c.in-Err-check_answer.failure
    (right-too m plans ask c.requires.can told c.args.later.now first c.args.plan only c.take_all_moves.new.after.plans c.in-Ok-take_all_moves.taken c.in-Ok-take_all_moves.ensures.moved after c.in-Ok-put_plan.ensures)
    c.in-Err-check_answer.ensures.refused))

pub returns-in-Err-take_tree-clause-refused : goal.returns-in-Err-take_tree-clause-refused
returns-in-Err-take_tree-clause-refused c = λ told only first. (
    let m = c.args.machine.now in
    let plans = c.args.schedule.now.plans in
    let ask = c.args.ask.now in
    let plan = c.args.plan in
    let later = c.args.later.now in
    let taken = c.in-Ok-take_all_moves.taken in
    let end : end_of_plan plan ≡ c.get.result = ap (slice_index c.args.plan.points) (sym c.len.ensures.len) ∙ get_or_from_slice_get plan.points c.len.result c.get.result 0 c.get.ensures in
    let T : ℕ → List Item → Type 0 = λ e items. BeginsWithTree m plans ask (Earliest e) items in
    let P = DoTellPlan m plans ask (Note told ∷ later) in
    let too = tree-too m plans ask c.requires.can told later first plan only c.take_all_moves.new.after.plans taken c.in-Ok-take_all_moves.ensures.moved c.put_plan.new.schedule.plans c.in-Ok-put_plan.ensures in
    denies-from (T c.get.result (take (length later - taken) (drop taken later))) P c.in-Err-take_tree.failure
    (λ it. subst (T c.get.result) (sym (rest-is later taken)) (subst (λ e. T e (drop taken later)) end (too it))) c.in-Err-take_tree.ensures.refused)

pub returns-clause-told : goal.returns-clause-told
returns-clause-told c = λ told only first. (
    let m = c.args.machine.now in
    let plans = c.args.schedule.now.plans in
    let ask = c.args.ask.now in
    let plan = c.args.plan in
    let later = c.args.later.now in
    let taken = c.in-Ok-take_all_moves.taken in
    let end : end_of_plan plan ≡ c.get.result = ap (slice_index c.args.plan.points) (sym c.len.ensures.len) ∙ get_or_from_slice_get plan.points c.len.result c.get.result 0 c.get.ensures in
    let T : ℕ → List Item → Type 0 = λ e items. BeginsWithTree m plans ask (Earliest e) items in
    let begins = subst (λ e. T e (drop taken later)) (sym end) (subst (T c.get.result) (rest-is later taken) c.in-Ok-take_tree.ensures.shown) in
    let before : NoneBefore m plans ask (end_of_plan plan) = subst (NoneBefore m plans ask) (sym end) (c.in-Ok-take_tree.ensures.told c.requires.can.plan_on.legal c.requires.can.asked) in
    placed m plans ask c.requires.can told later first plan only c.take_all_moves.new.after.plans taken c.in-Ok-take_all_moves.ensures.moved c.put_plan.new.schedule.plans c.in-Ok-put_plan.ensures
    c.in-Ok-check_answer.ensures.right begins before)

pub returns-in-Err-clause-why : goal.returns-in-Err-clause-why
returns-in-Err-clause-why c = λ told only. (
    let m = c.args.machine.now in
    let plans = c.args.schedule.now.plans in
    let ask = c.args.ask.now in
    let later = c.args.later.now in
    let items = Note told ∷ later in
    let P : ℕ → ℤ → ℤ → Type 0 = HasOffMove m ask.now (Some ask.sheet) plans later in
    let begins : BeginsWithPlan m plans ask items c.args.plan = record { told = told; later = later; is = refl; only = only } in
    stop-from (λ n. IsBreach (IsMoveOver (Some ask.sheet) plans later n) (P n)) (IsAskedReason m plans ask items) c.in-Err.failure
    (λ n. asked-breach (IsMoveOver (Some ask.sheet) plans later n) (P n) m plans ask items n
    (λ over. inr (inl (record { plan = c.args.plan; told = begins; over = over })))
    (λ a b off. inr (inl (record { plan = c.args.plan; told = begins; off = off })))) c.in-Err.ensures.why)

pub returns-in-Err-check_answer-clause-why : goal.returns-in-Err-check_answer-clause-why
returns-in-Err-check_answer-clause-why c = λ told only. (
    let m = c.args.machine.now in
    let plans = c.args.schedule.now.plans in
    let ask = c.args.ask.now in
    let items = Note told ∷ c.args.later.now in
    let after = c.put_plan.new.schedule.plans in
    let T = IsTimesReason (IsAnswerFault m plans ask after) m ask.now (exempt_of ask) after in
    stop-from (λ n. T) (IsAskedReason m plans ask items) c.ahead_of.result
    (asked-reason m plans ask items after (record {
      plan = c.args.plan;
      first = record { told = told; later = c.args.later.now; is = refl; only = only };
      mid = c.take_all_moves.new.after.plans;
      taken = c.in-Ok-take_all_moves.taken;
      moved = c.in-Ok-take_all_moves.ensures.moved;
      placed = c.in-Ok-put_plan.ensures;
    })) (same-stop T c.in-Err-check_answer.failure c.ahead_of.result c.ahead_of.ensures.reason c.in-Err-check_answer.ensures.why))

pub returns-in-Err-take_tree-clause-why : goal.returns-in-Err-take_tree-clause-why
returns-in-Err-take_tree-clause-why c = λ told only. (
    let m = c.args.machine.now in
    let plans = c.args.schedule.now.plans in
    let ask = c.args.ask.now in
    let plan = c.args.plan in
    let later = c.args.later.now in
    let items = Note told ∷ later in
    let taken = c.in-Ok-take_all_moves.taken in
    let end : end_of_plan plan ≡ c.get.result = ap (slice_index c.args.plan.points) (sym c.len.ensures.len) ∙ get_or_from_slice_get plan.points c.len.result c.get.result 0 c.get.ensures in
    let behind = take (length later - taken) (drop taken later) in
    let moved = c.in-Ok-take_all_moves.ensures.moved in
    let due : AreBehindPlan m plans ask items c.get.result behind = record {
      plans' = c.put_plan.new.schedule.plans;
      told = record { plan = plan; first = record { told = told; later = later; is = refl; only = only }; mid = c.take_all_moves.new.after.plans; taken = taken; moved = moved; placed = c.in-Ok-put_plan.ensures };
      right = c.in-Ok-check_answer.ensures.right;
      ends = sym end;
      is = rest-is later taken ∙ moved.left;
    } in
    stop-from (IsFrom (length behind) (IsTreeReason m plans ask (Earliest c.get.result) behind)) (IsAskedReason m plans ask items) c.in-Err-take_tree.failure
    (λ n r h. tree-reason m plans ask (Earliest c.get.result) items behind due n h.0 r h.1) c.in-Err-take_tree.ensures.why)
