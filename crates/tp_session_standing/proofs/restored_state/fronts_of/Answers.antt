-- The next plan's copy is a front's, or not.
use Rattle.std.proofs.Common.{◌≡◌, ◌∙◌, ◌+◌, ◌++◌, ◌∷◌, [], List, Vec, Global, cond, ap, sym, take}
use Rattle.tp_schedule.specs.Plans.{is_front}
use Rattle.tp_schedule.specs.declared.parts.Plan.{Plan}
use Rattle.tp_schedule.specs.declared.parts.SheetId.{SheetId}
use Rattle.tp_event_rules.specs.Seen.{fronts_of}
use Rattle.tp_session_standing.proofs.PlanLists.{fronts-next}
use Rattle.tp_session_standing.proofs.restored_state.fronts_of.Goals as goal
use Rattle.tp_session_standing.proofs.restored_state.fronts_of.Goals.{in-Front+in_ok-push-in-Front, in-Whole}

pub loop-plan-preserved : goal.loop-plan-preserved
loop-plan-preserved c =
    let plans = c.args.plans.now in
    let i = c.loop-plan.plan-index in
    let p : Plan = c.plan-item.result in
    let so-far = fronts_of (take i plans) in
    let next : fronts_of (take (i + 1) plans) ≡ cond (is_front p.kind) (so-far ++ p.sheet ∷ []) so-far =
    fronts-next plans i p c.loop-plan-test.true ∙ ap (λ (q : Plan). cond (is_front q.kind) (so-far ++ q.sheet ∷ []) so-far) (sym c.plan-item.is) in
    elim c.match-plan.branch [
      | in-Front+in_ok-push-in-Front w ↦
          ap (λ (v : Vec SheetId Global). v.items) w.fronts-is
          ∙ w.in_ok-push-in-Front.ensures.items
          ∙ ap (λ (xs : List SheetId). xs ++ p.sheet ∷ []) c.loop-plan.invariant
          ∙ sym (next ∙ ap (λ k. cond (is_front k) (so-far ++ p.sheet ∷ []) so-far) w.in-Front.is)
      | in-Whole w ↦
          ap (λ (v : Vec SheetId Global). v.items) w.fronts-is
          ∙ c.loop-plan.invariant
          ∙ sym (next ∙ ap (λ k. cond (is_front k) (so-far ++ p.sheet ∷ []) so-far) w.in-Whole.is)
    ]
