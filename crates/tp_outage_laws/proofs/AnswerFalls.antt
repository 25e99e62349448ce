-- The answers of the loop keep what holds in the midst of an outage.
use Rattle.std.proofs.Common.{◌≡◌, ℕ, Bool, true, false, ◌&&◌, not, List, [], ◌∷◌, refl, sym, ap, ◌∙◌, Contains, subst, Option, Some, None, option_map, find}
use Rattle.tp_machine.specs.declared.machine.Machine.{Machine}
use Rattle.tp_schedule.specs.PlannerAnswers.{Deed, IsAnswer}
use Rattle.tp_schedule.specs.PlannerAnswers.Deed.{replied}
use Rattle.tp_schedule.specs.declared.parts.Ask.{Ask}
use Rattle.tp_schedule.specs.declared.parts.Goal.{Goal}
use Rattle.tp_schedule.specs.declared.parts.Goal.TheVariants.{Tray, Purge}
use Rattle.tp_schedule.specs.declared.parts.Plan.{Plan}
use Rattle.tp_schedule.specs.declared.parts.Reply.{Reply}
use Rattle.tp_schedule.specs.declared.parts.Reply.TheVariants.{Planned, Never, Spent}
use Rattle.tp_event_rules.specs.AnswerRecords.{Answer}
use Rattle.tp_event_rules.specs.Laws.{IsPlannable}
use Rattle.tp_event_rules.specs.Loops.{after_answers, after_asked, after_one, after_reply, ask_in_flight, is_loose, next_ask, not_planned, stuck_module}
use Rattle.tp_event_rules.specs.Moments.{is_to_tray}
use Rattle.tp_event_rules.specs.Planners.{AnswersInTurn, IsRight, PlannerSteps}
use Rattle.tp_event_rules.specs.States.{SessionState}
use Rattle.tp_event_rules.proofs.PlannableTurns.{plannable-answers}
use Rattle.tp_outage_laws.proofs.Members.{find-none}
use Rattle.tp_outage_laws.proofs.Falls.{Outset, Falls, none_breaks}
use Rattle.tp_outage_laws.proofs.GivesUp.{asked-whole, falls-given, given}
use Rattle.tp_outage_laws.proofs.LooseAsks.{IsAskOf, asked-of, purge_state}
use Rattle.tp_outage_laws.proofs.OutageFalls.{falls-back, falls-outage}
use Rattle.tp_outage_laws.proofs.PlannedFalls.{falls-planned}

-- where no ask is due, none is loose
pub none-loose : (machine : Machine) (s : SessionState) → next_ask machine s ≡ None → (p : Plan) → Contains s.plans p → is_loose s p ≡ false
none-loose machine s e = go (find (is_loose s) s.plans) refl e where
  go : (o : Option Plan) → find (is_loose s) s.plans ≡ o → option_map (ask_in_flight machine s) o ≡ None → (p : Plan) → Contains s.plans p → is_loose s p ≡ false
  go None f e = find-none (is_loose s) s.plans f
  go (Some p) f e = absurd (cc)

lost-then : (a b : Bool) → (a && not b) ≡ false → a ≡ true → b ≡ true
lost-then true true e f = refl
lost-then true false e f = absurd (cc)
lost-then false b e f = absurd (cc)

-- what an answer leads to
module _ (machine : Machine) (base : Outset) (s : SessionState) (f : Falls machine base none_breaks s []) (ask : Ask) (of : IsAskOf machine s ask) where
  falls-not_planned : (goal : Goal) → ask.goal ≡ goal → Falls machine base none_breaks (not_planned machine ask goal s).state []
  falls-not_planned (Tray t) e =
      let tray : is_to_tray of.p.goal ≡ true = ap (λ (x : Ask). is_to_tray x.goal) of.is ∙ ap is_to_tray e in
      falls-back machine base (purge_state machine s ask f.mid of) (given machine base s f ask of tray) [] (falls-given machine base s f ask of tray) (asked-whole machine base s f ask of tray)
  falls-not_planned Purge e = falls-outage machine base (stuck_module machine s ask).0 true s f

  falls-reply : (spent : Machine → List Plan → Ask → ℕ → Type 0) (reply : Reply) (plans : List Plan) → IsAnswer spent machine s.plans ask reply plans → IsPlannable machine (after_reply machine ask reply plans s).state
      → Falls machine base none_breaks (after_reply machine ask reply plans s).state []
  falls-reply spent Planned plans answer can = falls-planned machine base s f ask of plans answer.0.alternative (ap (λ (x : Ask). x.now) (sym of.is)) can
  falls-reply spent Never plans answer can = falls-not_planned ask.goal refl
  falls-reply spent (Spent bound) plans answer can = falls-not_planned ask.goal refl

module _ {P : Type 0} (steps : PlannerSteps P) (machine : Machine) (spent : P → Machine → List Plan → Ask → ℕ → Type 0)
    (right : (p : P) (plans : List Plan) (deed : Deed) (plans' : List Plan) (p' : P) → steps.does p plans deed plans' p' → IsRight (spent p) machine plans deed plans') where
  pub falls-one : (base : Outset) (s : SessionState) (a : Answer) (ask : Ask) (p p' : P) → next_ask machine s ≡ Some ask → steps.does p s.plans (replied ask a.reply) a.plans p' → Falls machine base none_breaks s []
      → Falls machine base none_breaks (after_one machine s a).state []
  falls-one base s a ask p p' e does f =
      let can : IsPlannable machine (after_one machine s a).state = plannable-answers steps machine spent right s (a ∷ []) p p' (ask, e, (p', does, refl)) f.mid.plans in
      subst (λ o. Falls machine base none_breaks (after_asked machine s o a).state []) (sym e)
      (falls-reply machine base s f ask (asked-of machine s ask e) (spent p) a.reply a.plans (right p s.plans (replied ask a.reply) a.plans p' does)
      (subst (λ o. IsPlannable machine (after_asked machine s o a).state) e can))

  -- what each answer keeps in the midst of an outage, all answers keep
  pub answers-keep : (base : Outset) (Keeps : SessionState → Type 0)
      → ((s : SessionState) (a : Answer) (ask : Ask) (p p' : P) → next_ask machine s ≡ Some ask → steps.does p s.plans (replied ask a.reply) a.plans p' → Falls machine base none_breaks s [] → Keeps s
      → Keeps (after_one machine s a).state)
      → (s : SessionState) (answers : List Answer) (p p' : P) → AnswersInTurn steps machine s answers p p' → Falls machine base none_breaks s [] → Keeps s
      → Falls machine base none_breaks (after_answers machine answers s).state [] × Keeps (after_answers machine answers s).state
  answers-keep base Keeps each s [] p p' in_turn f k = (f, k)
  answers-keep base Keeps each s (a ∷ answers) p p' (ask, e, (between, does, rest)) f k =
      answers-keep base Keeps each (after_one machine s a).state answers between p' rest (falls-one base s a ask p between e does f) (each s a ask p between e does f k)
