-- One answer more at the end of the loop's list.
use Rattle.std.proofs.Common.{◌≡◌, List, [], ◌∷◌, ◌++◌, refl, sym, ap, subst, ◌∙◌, append_assoc, append-nil}
use Rattle.tp_machine.specs.declared.machine.Machine.{Machine}
use Rattle.tp_schedule.specs.PlannerAnswers.Deed.{replied}
use Rattle.tp_event_rules.specs.States.{SessionState}
use Rattle.tp_event_rules.specs.AnswerRecords.{Answer}
use Rattle.tp_event_rules.specs.Laws.{LoopGoesOn, LoopStateGoesOn}
use Rattle.tp_event_rules.specs.Loops.{after_one, after_answers}
use Rattle.tp_event_rules.specs.Planners.{PlannerSteps}

pub state-after_one_more : LoopStateGoesOn
state-after_one_more machine [] a s = refl
state-after_one_more machine (b ∷ answers) a s = state-after_one_more machine answers a (after_one machine s b).state

pub told-after_one_more : (machine : Machine) (answers : List Answer) (a : Answer) (s : SessionState)
    → (after_answers machine (answers ++ a ∷ []) s).records
    ≡ (after_answers machine answers s).records ++ (after_one machine (after_answers machine answers s).state a).records
told-after_one_more machine [] a s = append-nil (after_one machine s a).records
told-after_one_more machine (b ∷ answers) a s =
    ap (λ l. (after_one machine s b).records ++ l) (told-after_one_more machine answers a (after_one machine s b).state)
    ∙ sym (append_assoc (after_one machine s b).records (after_answers machine answers (after_one machine s b).state).records
    (after_one machine (after_answers machine answers (after_one machine s b).state).state a).records)

pub in_turn-one_more : {P : Type 0} (steps : PlannerSteps P) (machine : Machine) → LoopGoesOn steps machine
in_turn-one_more steps machine [] a ask s planner mid planner' same is_due answered =
    (ask, is_due, (planner', subst (λ p. steps.does p s.plans (replied ask a.reply) a.plans planner') same answered, refl))
in_turn-one_more steps machine (b ∷ answers) a ask s planner mid planner' (first, is_first, (next, first_answered, rest)) is_due answered =
    (first, is_first, (next, first_answered, in_turn-one_more steps machine answers a ask (after_one machine s b).state next mid planner' rest is_due answered))
