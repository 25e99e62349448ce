-- What is reported of one answer of a loop, and what stands behind it: asides, and then no move where it was the last one and planned a copy.
use Rattle.std.proofs.Common.{◌≡◌, ℕ, Bool, true, false, List, [], ◌∷◌, ◌++◌, refl, sym, ap, subst, ◌∙◌, Some, None, append_assoc}
use Rattle.tp_machine.specs.declared.machine.Machine.{Machine}
use Rattle.tp_schedule.specs.PlannerAnswers.{Deed, IsAnswer}
use Rattle.tp_schedule.specs.PlannerAnswers.Deed.{replied, settled}
use Rattle.tp_schedule.specs.declared.parts.Ask.{Ask}
use Rattle.tp_schedule.specs.declared.parts.Plan.{Plan}
use Rattle.tp_schedule.specs.declared.parts.Reply.{Reply}
use Rattle.tp_schedule.specs.declared.parts.Reply.TheVariants.{Planned, Never, Spent}
use Rattle.tp_schedule.specs.declared.records.Record.{Record}
use Rattle.tp_event_rules.specs.AnswerRecords.{Answer, moves, told_of_reply}
use Rattle.tp_event_rules.specs.Laws.{IsPlannable}
use Rattle.tp_event_rules.specs.Logs.{spent_on_trust}
use Rattle.tp_event_rules.specs.Loops.{after_answers, after_asked, after_one, after_reply, next_ask}
use Rattle.tp_event_rules.specs.Planners.{AnswersInTurn, IsRight, PlannerSteps}
use Rattle.tp_event_rules.specs.States.{SessionState}
use Rattle.tp_event_rules.proofs.SameMoment.{now-answers}
use Rattle.tp_outage_laws.proofs.AnswerFalls.{falls-one}
use Rattle.tp_outage_laws.proofs.Falls.{Falls, none_breaks}
use Rattle.tp_outage_laws.proofs.LooseAsks.{asked-of}
use Rattle.tp_outage_laws.proofs.OutagesKeep.{any_outset}
use Rattle.tp_log_laws.proofs.Asides.{other-after}
use Rattle.tp_log_laws.proofs.Places.{IsOver, IsParted, is_plan_reply, none-of_plan, of_plan, over-behind}
use Rattle.tp_log_laws.proofs.Still.{StaysSettled, planned-stays}

-- a planner whose deeds are right, its budgets on trust, and whose answers begin with no move
pub record AnswersFirst {P : Type 0} (steps : PlannerSteps P) (machine : Machine) : Type 0 where
  pub right : (p : P) (plans : List Plan) (deed : Deed) (plans' : List Plan) (p' : P) → steps.does p plans deed plans' p' → IsRight spent_on_trust machine plans deed plans'
  pub over : (p p' : P) (plans : List Plan) (ask : Ask) (reply : Reply) (plans' : List Plan) → steps.does p plans (replied ask reply) plans' p' → (records : List Record) → IsOver (told_of_reply machine plans ask reply plans' ++ records)

-- behind a plan no other move comes
parted-reply : (reply : Reply) (records : List Record) → (is_plan_reply reply ≡ true → IsOver records) → IsParted reply records
parted-reply Planned records over = (over refl).first
parted-reply Never records over = tt
parted-reply (Spent bound) records over = tt

module _ {P : Type 0} (steps : PlannerSteps P) (machine : Machine) (answers-first : AnswersFirst steps machine) (start : SessionState) (rest : List Record) (over : IsOver rest) (p' : P) (now : ℕ) (plans : List Plan) where
  abbrev pub InMidst : SessionState → Type 0
  InMidst s = Falls machine (any_outset start) none_breaks s []

  -- the records of the loop from here on, and those behind it
  abbrev pub told_from : SessionState → List Answer → List Record
  told_from s answers = (after_answers machine answers s).records ++ (moves (after_answers machine answers s).state.plans plans ++ rest)

  abbrev pub Ends : SessionState → List Answer → P → Type 0
  Ends s answers mid = (next_ask machine (after_answers machine answers s).state ≡ None) × steps.does mid (after_answers machine answers s).state.plans (settled now) plans p'

  abbrev pub asides : SessionState → Ask → Answer → List Record
  asides s ask a = (after_reply machine ask a.reply a.plans s).records

  after-is : (s : SessionState) (ask : Ask) (a : Answer) → next_ask machine s ≡ Some ask → (after_one machine s a).state ≡ (after_reply machine ask a.reply a.plans s).state
  after-is s ask a e = ap (λ o. (after_asked machine s o a).state) e

  -- the answer is reported, and then asides
  pub whole-told : (s : SessionState) (ask : Ask) (a : Answer) (answers : List Answer) → next_ask machine s ≡ Some ask
      → told_from s (a ∷ answers) ≡ told_of_reply machine s.plans ask a.reply a.plans ++ (asides s ask a ++ told_from (after_one machine s a).state answers)
  whole-told s ask a answers e =
      let after = (after_one machine s a).state in
      append_assoc (after_one machine s a).records (after_answers machine answers after).records (moves (after_answers machine answers after).state.plans plans ++ rest)
      ∙ ap (λ o. (after_asked machine s o a).records ++ told_from after answers) e
      ∙ append_assoc (told_of_reply machine s.plans ask a.reply a.plans) (asides s ask a) (told_from after answers)

  -- what stands behind answers begins with no move
  later : (answers : List Answer) (s : SessionState) (p mid : P) → AnswersInTurn steps machine s answers p mid → Ends s answers mid → now ≡ s.now → StaysSettled machine s → IsOver (told_from s answers)
  later [] s p mid in_turn ends here stays =
      let none : moves s.plans plans ≡ [] = stays plans (subst (λ n. IsRight spent_on_trust machine s.plans (settled n) plans) here (answers-first.right mid s.plans (settled now) plans p' ends.1)) in
      subst (λ ms. IsOver (ms ++ rest)) (sym none) over
  later (a ∷ answers) s p mid (ask, e, (next, does, in_turn)) ends here stays =
      subst IsOver (sym (whole-told s ask a answers e)) (answers-first.over p next s.plans ask a.reply a.plans does (asides s ask a ++ told_from (after_one machine s a).state answers))

  module _ (s : SessionState) (here : now ≡ s.now) (mids : InMidst s) (a : Answer) (p next : P) (ask : Ask) (e : next_ask machine s ≡ Some ask) (does : steps.does p s.plans (replied ask a.reply) a.plans next) where
    abbrev after : SessionState
    after = (after_one machine s a).state

    pub mids-after : InMidst after
    mids-after = falls-one steps machine (λ p. spent_on_trust) answers-first.right (any_outset start) s a ask p next e does mids

    pub here-after : now ≡ after.now
    here-after = here ∙ sym (now-answers machine (a ∷ []) s)

    -- where it plans, settling moves nothing
    stays-reply : (reply : Reply) (ps : List Plan) → IsAnswer spent_on_trust machine s.plans ask reply ps → IsPlannable machine (after_reply machine ask reply ps s).state → is_plan_reply reply ≡ true
        → StaysSettled machine (after_reply machine ask reply ps s).state
    stays-reply Planned ps answer can planned = planned-stays machine s ask (asked-of machine s ask e) ps answer.0.alternative answer.1 can
    stays-reply Never ps answer can planned = absurd (cc)
    stays-reply (Spent bound) ps answer can planned = absurd (cc)

    stays-after : is_plan_reply a.reply ≡ true → StaysSettled machine after
    stays-after planned =
        subst (StaysSettled machine) (sym (after-is s ask a e))
        (stays-reply a.reply a.plans (answers-first.right p s.plans (replied ask a.reply) a.plans next does) (subst (IsPlannable machine) (after-is s ask a e) mids-after.mid.plans) planned)

    pub stays-behind : (c : Bool) → is_plan_reply a.reply ≡ c → of_plan c (asides s ask a) ≡ true → StaysSettled machine after
    stays-behind true planned f = stays-after planned
    stays-behind false planned f = absurd (let none = none-of_plan (asides s ask a) (other-after machine ask a.reply a.plans s) in let no : true ≡ false = sym f ∙ none in cc)

    -- no other move stands behind a plan and its moves
    pub parted : (answers : List Answer) (mid : P) → AnswersInTurn steps machine after answers next mid → Ends after answers mid → IsParted a.reply (asides s ask a ++ told_from after answers)
    parted answers mid in_turn ends =
        parted-reply a.reply (asides s ask a ++ told_from after answers) (λ planned.
        over-behind (asides s ask a) (told_from after answers) (other-after machine ask a.reply a.plans s) (later answers after next mid in_turn ends here-after (stays-after planned)))
