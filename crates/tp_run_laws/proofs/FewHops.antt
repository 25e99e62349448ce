-- Each tree of a run with bounds has few hops.
use Rattle.std.proofs.Common.{◌≡◌, ℕ, true, List, [], ◌∷◌, All, refl, sym, subst}
use Rattle.std.proofs.lemmas.List.Elements.{All-cons, All-nil}
use Rattle.tp_bounds.specs.declared.tree.BoundTree.{BoundTree}
use Rattle.tp_machine.specs.declared.machine.Machine.{Machine}
use Rattle.tp_schedule.specs.PlannerAnswers.{Deed}
use Rattle.tp_schedule.specs.PlannerAnswers.Deed.{replied, settled}
use Rattle.tp_schedule.specs.declared.parts.Plan.{Plan}
use Rattle.tp_schedule.specs.declared.parts.Reply.TheVariants.{Planned, Never, Spent}
use Rattle.tp_bound_laws.specs.Short.{HasFewHops}
use Rattle.tp_event_rules.specs.Logs.{Entry, Run, TakesTrees, right_answers}
use Rattle.tp_event_rules.specs.Planners.{PlannerSteps}
use Rattle.tp_event_rules.specs.States.{SessionState}
use Rattle.tp_run_laws.specs.CarriedTurns.{DeedsCarry}
use Rattle.tp_run_laws.specs.Runs.{spent_by, tree_claims}
use Rattle.tp_run_laws.proofs.Carry.{turn}

abbrev AreFew : List BoundTree → Type 0
AreFew trees = All HasFewHops trees

module _ (machine : Machine) (nodes : ℕ) where
  abbrev shown : PlannerSteps (List BoundTree)
  shown = right_answers tree_claims true (spent_by nodes) machine

  -- a planner of whom nothing is known
  abbrev anyone : PlannerSteps (List BoundTree)
  anyone = record { does = λ trees plans deed plans' trees'. Unit {0}; stops = λ trees plans what trees'. ⊥ }

  taken : (plans plans' : List Plan) (deed : Deed) (trees trees' : List BoundTree) → TakesTrees tree_claims machine true trees plans deed plans' trees' → AreFew trees' → AreFew trees
  taken plans plans' (replied ask Planned) trees trees' (tree, (p, is, claim, are)) few = subst AreFew (sym are) (All-cons HasFewHops tree trees' claim.1 few)
  taken plans plans' (replied ask Never) trees trees' (tree, claim, are) few = subst AreFew (sym are) (All-cons HasFewHops tree trees' claim.1 few)
  taken plans plans' (replied ask (Spent bound)) trees trees' same few = subst AreFew same few
  taken plans plans' (settled now) trees trees' same few = subst AreFew same few

  carry : DeedsCarry shown anyone (λ trees. Unit {0}) (λ trees q. AreFew trees)
  carry trees trees' plans plans' deed of_turn fit (right, takes) = (tt, λ q' few. (q', tt, taken plans plans' deed trees trees' takes few))

  pub few-hops : (s : SessionState) (log : List (Entry BoundTree)) (s' : SessionState) → Run tree_claims true (spent_by nodes) machine s log s' → All (λ e. AreFew e.trees) log
  few-hops s [] s' run = All-nil (λ (e : Entry BoundTree). AreFew e.trees)
  few-hops s (entry ∷ log) s' (mid, one, rest) =
      let (fit, back) = turn shown anyone (λ trees. Unit {0}) (λ trees q. AreFew trees) machine carry entry.event s mid entry.records entry.trees [] tt one in
      let (q, told, few) = back [] (All-nil HasFewHops) in
      All-cons (λ (e : Entry BoundTree). AreFew e.trees) entry log few (few-hops mid log s' rest)
