-- A lawful run with bounds is a log that is lawful with bounds, its budgets on trust.
use Rattle.std.proofs.Common.{◌≡◌, ℕ, true, List, [], ◌∷◌, refl, sym, subst}
use Rattle.tp_bounds.specs.declared.tree.BoundTree.{BoundTree}
use Rattle.tp_machine.specs.declared.machine.Machine.{Machine}
use Rattle.tp_schedule.specs.PlannerAnswers.{Deed}
use Rattle.tp_schedule.specs.PlannerAnswers.Deed.{replied, settled}
use Rattle.tp_schedule.specs.declared.parts.Plan.{Plan}
use Rattle.tp_schedule.specs.declared.parts.Reply.TheVariants.{Planned, Never, Spent}
use Rattle.tp_event_rules.specs.Logs.{Entry, Run, TakesTrees, right_answers, spent_on_trust}
use Rattle.tp_event_rules.specs.Planners.{IsRight, PlannerSteps}
use Rattle.tp_event_rules.specs.States.{SessionState}
use Rattle.tp_event_rules.specs.Turns.{Turn}
use Rattle.tp_run_laws.specs.CarriedTurns.{DeedsCarry}
use Rattle.tp_run_laws.specs.Runs.{spent_by, tree_claims}
use Rattle.tp_run_laws.proofs.Carry.{turn}
use Rattle.tp_log_laws.specs.AcceptedEntries.{BoundRunsAccepted, bound_claims}

module _ (machine : Machine) (nodes : ℕ) where
  abbrev short_steps : PlannerSteps (List BoundTree)
  short_steps = right_answers tree_claims true (spent_by nodes) machine

  abbrev trusted_steps : PlannerSteps (List BoundTree)
  trusted_steps = right_answers bound_claims true spent_on_trust machine

  on-trust : (plans plans' : List Plan) (deed : Deed) → IsRight (spent_by nodes) machine plans deed plans' → IsRight spent_on_trust machine plans deed plans'
  on-trust plans plans' (replied ask Planned) h = h
  on-trust plans plans' (replied ask Never) h = h
  on-trust plans plans' (replied ask (Spent bound)) h = (h.0, tt)
  on-trust plans plans' (settled now) h = h

  -- a tree of few hops is a tree
  any-tree : (plans plans' : List Plan) (deed : Deed) (trees trees' : List BoundTree) → TakesTrees tree_claims machine true trees plans deed plans' trees'
      → TakesTrees bound_claims machine true trees plans deed plans' trees'
  any-tree plans plans' (replied ask Planned) trees trees' (tree, (p, is, claim, are)) = (tree, (p, is, claim.0, are))
  any-tree plans plans' (replied ask Never) trees trees' (tree, claim, are) = (tree, claim.0, are)
  any-tree plans plans' (replied ask (Spent bound)) trees trees' h = h
  any-tree plans plans' (settled now) trees trees' h = h

  carry : DeedsCarry short_steps trusted_steps (λ x. Unit {0}) (λ x q. x ≡ q)
  carry x x' plans plans' deed of_turn fit (right, takes) = (
    tt,
    λ q' same. (x, (on-trust plans plans' deed right, subst (λ q. TakesTrees bound_claims machine true x plans deed plans' q) same (any-tree plans plans' deed x x' takes)), refl),
  )

  runs : (s : SessionState) (log : List (Entry BoundTree)) (s' : SessionState) → Run tree_claims true (spent_by nodes) machine s log s' → Run bound_claims true spent_on_trust machine s log s'
  runs s [] s' h = h
  runs s (entry ∷ log) s' (mid, one, rest) =
      let (fit, back) = turn short_steps trusted_steps (λ x. Unit {0}) (λ x q. x ≡ q) machine carry entry.event s mid entry.records entry.trees [] tt one in
      let (q, told, same) = back [] refl in
      (mid, subst (λ q. Turn trusted_steps machine entry.event s q entry.records mid []) (sym same) told, runs mid log s' rest)

pub bound-runs-accepted : (machine : Machine) → BoundRunsAccepted machine
bound-runs-accepted machine nodes events log h = record { answers = h.answers; last = h.last; run = runs machine nodes _ log h.last h.run }
