-- What an answer of the loop needs and gives, as calls see it.
use Rattle.std.proofs.Common.{◌≡◌, ◌⊎◌, ℕ, ◌<◌, List, ◌++◌, length, Some, IsSomeAnd, sym, ap, ◌∙◌, append_assoc, subst, inl, inr}
use Rattle.std.proofs.lemmas.List.Elements.{All-contains}
use Rattle.tp_machine.specs.declared.machine.Machine.{Machine}
use Rattle.tp_schedule.specs.Answers.{IsAlternative}
use Rattle.tp_schedule.specs.PlannerAnswers.{IsAnswer}
use Rattle.tp_schedule.specs.PlannerAnswers.Deed.{replied}
use Rattle.tp_schedule.specs.Plans.{IsTimedPlan, is_same_copy, plan_of}
use Rattle.tp_schedule.specs.declared.parts.Ask.{Ask}
use Rattle.tp_schedule.specs.declared.parts.Plan.{Plan}
use Rattle.tp_schedule.specs.declared.parts.Reply.{Reply}
use Rattle.tp_schedule.specs.declared.parts.Reply.TheVariants.{Never, Spent}
use Rattle.tp_schedule.specs.declared.records.Record.{Record}
use Rattle.tp_schedule.proofs.CopyFacts.{plan_of-itself}
use Rattle.tp_event_rules.specs.AnswerRecords.{told_of_reply}
use Rattle.tp_event_rules.specs.Loops.{after_asked, after_reply, next_ask, not_planned}
use Rattle.tp_event_rules.specs.Planners.{PlannerSteps}
use Rattle.tp_event_rules.specs.Seen.{HasNextCopy}
use Rattle.tp_event_rules.specs.States.{SessionState}
use Rattle.tp_event_rules.proofs.ListFacts.{find-Some}
use Rattle.tp_replan.specs.Answered.{IsAnswered}
use Rattle.tp_replan.specs.LooseLoop.{CanLoop}
use Rattle.tp_replan.specs.Meanings.{IsKnown, Leads}
use Rattle.tp_replan.proofs.GivenUp.{first-loose}

pub planned-timed : (machine : Machine) (plans : List Plan) (ask : Ask) (plans' : List Plan) → IsAlternative machine plans ask plans' → IsSomeAnd (plan_of ask.sheet plans') (IsTimedPlan machine)
planned-timed machine plans ask plans' a =
    subst (λ o. IsSomeAnd o (IsTimedPlan machine)) (sym a.planned)
    (All-contains (IsTimedPlan machine) plans' a.plan a.legal.timed (find-Some (λ q. is_same_copy q.sheet ask.sheet) plans' a.plan a.planned).0)

pub asked-known : (machine : Machine) (s : SessionState) (ask : Ask) → CanLoop machine s → next_ask machine s ≡ Some ask → ask.sheet.job < length s.jobs
asked-known machine s ask can e =
    let of = first-loose machine s ask e in
    subst (λ (a : Ask). a.sheet.job < length s.jobs) of.is (All-contains (IsKnown s.jobs) s.plans of.p can.fall.known of.there)

pub asked-next : (machine : Machine) (s : SessionState) (ask : Ask) → CanLoop machine s → next_ask machine s ≡ Some ask → HasNextCopy ask.sheet
asked-next machine s ask can e =
    let of = first-loose machine s ask e in
    subst (λ (a : Ask). HasNextCopy a.sheet) of.is (All-contains (λ (p : Plan). HasNextCopy p.sheet) s.plans of.p can.fall.next of.there)

pub asked-timed : (machine : Machine) (s : SessionState) (ask : Ask) → CanLoop machine s → next_ask machine s ≡ Some ask → IsSomeAnd (plan_of ask.sheet s.plans) (IsTimedPlan machine)
asked-timed machine s ask can e =
    let of = first-loose machine s ask e in
    subst (λ (a : Ask). IsSomeAnd (plan_of a.sheet s.plans) (IsTimedPlan machine)) of.is
    (subst (λ o. IsSomeAnd o (IsTimedPlan machine)) (sym (plan_of-itself s.plans of.p can.on_way.plan_on.legal.in_order of.there))
    (All-contains (IsTimedPlan machine) s.plans of.p can.on_way.plan_on.legal.timed of.there))

-- where it is not planned the schedule stays
pub refused-stays : (spent : Machine → List Plan → Ask → ℕ → Type 0) (machine : Machine) (plans : List Plan) (ask : Ask) (reply : Reply) (plans' : List Plan) → IsAnswer spent machine plans ask reply plans'
    → (reply ≡ Never) ⊎ ((bound : ℕ) × (reply ≡ Spent bound)) → plans' ≡ plans
refused-stays spent machine plans ask reply plans' answer is = elim is [
  | inl never ↦ (subst (λ r. IsAnswer spent machine plans ask r plans') never answer).0
  | inr out ↦ (subst (λ r. IsAnswer spent machine plans ask r plans') out.1 answer).0
]

pub refused-leads : (machine : Machine) (s : SessionState) (ask : Ask) (reply : Reply) (plans : List Plan) (notes notes' : List Record) (s' : SessionState) → (reply ≡ Never) ⊎ ((bound : ℕ) × (reply ≡ Spent bound))
    → Leads (not_planned machine ask ask.goal s) notes notes' s' → Leads (after_reply machine ask reply plans s) notes notes' s'
refused-leads machine s ask reply plans notes notes' s' is leads = elim is [
  | inl never ↦ subst (λ r. Leads (after_reply machine ask r plans s) notes notes' s') (sym never) leads
  | inr out ↦ subst (λ r. Leads (after_reply machine ask r plans s) notes notes' s') (sym out.1) leads
]

pub answered-with : {P : Type 0} (steps : PlannerSteps P) (machine : Machine) (s : SessionState) (planner : P) (notes : List Record) (ask : Ask) (reply : Reply) (plans : List Plan) (planner' : P) (mid notes' : List Record) (s' : SessionState)
    → next_ask machine s ≡ Some ask → steps.does planner s.plans (replied ask reply) plans planner' → mid ≡ notes ++ told_of_reply machine s.plans ask reply plans
    → Leads (after_reply machine ask reply plans s) mid notes' s' → IsAnswered steps machine s planner notes s' planner' notes'
answered-with steps machine s planner notes ask reply plans planner' mid notes' s' e does told leads = record {
  ask = ask;
  is_due = e;
  answer = record { reply = reply; plans = plans };
  does = does;
  told = leads.told ∙ ap (λ ns. ns ++ (after_reply machine ask reply plans s).records) told
      ∙ append_assoc notes (told_of_reply machine s.plans ask reply plans) (after_reply machine ask reply plans s).records
      ∙ ap (λ o. notes ++ (after_asked machine s o (record { reply = reply; plans = plans })).records) (sym e);
  state = leads.state ∙ ap (λ o. (after_asked machine s o (record { reply = reply; plans = plans })).state) (sym e);
}
