-- Answers and settlings leave the plans that have ended as they are, and end none.
use Rattle.std.proofs.Common.{◌≡◌, ◌<◌, ◌≤◌, inl, inr, Bool, true, false, ◌&&◌, List, length, refl, sym, ◌∙◌, arith, subst}
use Rattle.std.proofs.lemmas.List.Elements.{All-contains}
use Rattle.tp_machine.specs.declared.machine.Machine.{Machine}
use Rattle.tp_jobs.specs.declared.parts.WaitingCopy.{WaitingCopy}
use Rattle.tp_schedule.specs.Plans.{IsTimedPlan, end_of_plan, is_same_copy}
use Rattle.tp_schedule.specs.declared.parts.Plan.{Plan}
use Rattle.tp_schedule.specs.declared.parts.SheetId.{SheetId}
use Rattle.tp_event_rules.specs.AskPhase.{ask_waiting}
use Rattle.tp_event_rules.specs.Laws.{IsPlannable}
use Rattle.tp_event_rules.specs.States.{SessionState}
use Rattle.tp_event_rules.proofs.AnsweredPlans.{other-to, plan-cases, unmoved-sheet, unmoved-tray_plan}
use Rattle.tp_event_rules.proofs.AskedFacts.{IsAskedFirst, none-before, mine-there}
use Rattle.tp_outage_laws.proofs.KeptPoints.{kept-asked, above-lead, all-out, ends-back, ends-on}
use Rattle.tp_headline.proofs.Delivered.{IsDelivered}

and-false : (b : Bool) → (b && false) ≡ false
and-false true = refl
and-false false = refl

-- A copy that waits is planned.
module _ (machine : Machine) (s : SessionState) (w : WaitingCopy) (plans' : List Plan) (f : IsAskedFirst machine s w plans') (can : IsPlannable machine s) where
  -- the new plan ends above the moment
  new-above : end_of_plan f.a.plan ≤ s.now → ⊥
  new-above low =
      let in' = mine-there machine s w plans' f in
      let timed = All-contains (IsTimedPlan machine) plans' f.a.plan f.a.legal.timed in' in
      let none : f.a.plan.released ≡ 0 = f.a.answers.released in
      let some : 0 < length f.a.plan.acts = timed.some in
      let out = all-out machine s.now f.a.plan timed (above-lead machine s.now plans' _ f.a.plan f.a.floors in' (and-false (is_same_copy f.a.plan.sheet w.sheet))) low in
      omega arith

  pub delivered-asked : (c : SheetId) → IsDelivered s.now s.plans c → IsDelivered s.now plans' c
  delivered-asked c d =
      let to = other-to machine s.plans (ask_waiting machine s w) plans' f.a d.p d.there (none-before machine s w plans' f d.p d.there) in
      record {
        p = to.0;
        there = to.1;
        of = unmoved-sheet to.0 d.p to.2 ∙ d.of;
        to_tray = unmoved-tray_plan to.0 d.p to.2 ∙ d.to_tray;
        past = ends-on machine s.now d.p to.0 (kept-asked machine s w plans' f can d.p to.0 d.there to.1 to.2) d.past;
      }

  pub asked-delivered : (c : SheetId) → IsDelivered s.now plans' c → IsDelivered s.now s.plans c
  asked-delivered c d = elim (plan-cases machine s.plans (ask_waiting machine s w) plans' f.a d.p d.there) [
    | inl e ↦ absurd (new-above (subst (λ (x : Plan). end_of_plan x ≤ s.now) e d.past))
    | inr other ↦ record {
      p = other.0;
      there = other.1;
      of = sym (unmoved-sheet d.p other.0 other.2) ∙ d.of;
      to_tray = sym (unmoved-tray_plan d.p other.0 other.2) ∙ d.to_tray;
      past = ends-back machine s.now other.0 d.p (kept-asked machine s w plans' f can other.0 d.p other.1 d.there other.2) d.past;
    }
  ]
