-- The schedule of a lawful log is legal, past included.
use Rattle.std.proofs.Common.{ℕ, Bool, List, [], ◌∷◌, sym, subst, arith}
use Rattle.std.proofs.lemmas.List.Elements.{All-nil}
use Rattle.tp_machine.specs.declared.machine.Machine.{Machine}
use Rattle.tp_script.specs.declared.event.Event.{Event}
use Rattle.tp_schedule.specs.Legality.{IsLegal, EndsBefore}
use Rattle.tp_schedule.specs.Plans.{IsTimedPlan, IsEarlier}
use Rattle.tp_schedule.specs.declared.parts.Ask.{Ask}
use Rattle.tp_schedule.specs.declared.parts.Plan.{Plan}
use Rattle.tp_schedule.proofs.Pairs.{AllPairs-nil}
use Rattle.tp_event_rules.specs.Logs.{Entry, TreeClaims, right_answers, Run, IsLawful}
use Rattle.tp_event_rules.specs.States.{SessionState, empty_state}
use Rattle.tp_event_rules.specs.Laws.{IsPlannable, IsStocked}
use Rattle.tp_event_rules.proofs.PlannableTurns.{plannable-turn}
use Rattle.tp_event_rules.proofs.StockKept.{stock-empty}
use Rattle.tp_event_rules.proofs.StockTurns.{stocked-turn}

pub plannable-empty : (machine : Machine) → IsPlannable machine empty_state
plannable-empty machine = record {
  now_at_most = omega arith;
  legal = record {
    in_order = AllPairs-nil IsEarlier;
    timed = All-nil (IsTimedPlan machine);
    single = λ resource tick. omega arith;
    spread = λ resource tick other m n h. absurd (omega (arith, h.planned.1));
    rise = AllPairs-nil EndsBefore;
  };
  floors = λ p in' not_exempt i released within. absurd (omega (arith, in'.1));
  horizon = λ p in' i within not_fixed. absurd (omega (arith, in'.1));
}

module _ {T : Type 0} (claims : TreeClaims T) (shown : Bool) (spent : Machine → List Plan → Ask → ℕ → Type 0) (machine : Machine) where
  pub plannable-run : (s : SessionState) (log : List (Entry T)) (s' : SessionState) → Run claims shown spent machine s log s' → IsPlannable machine s → IsPlannable machine s'
  plannable-run s [] s' is can = subst (IsPlannable machine) (sym is) can
  plannable-run s (entry ∷ log) s' (mid, turn, rest) can =
      plannable-run mid log s' rest
      (plannable-turn (right_answers claims shown spent machine) machine (λ trees. spent) (λ trees plans deed plans' trees' does. does.0) entry.event s entry.trees entry.records mid [] tt turn can)

  pub lawful-legal : (events : List Event) (log : List (Entry T)) (lawful : IsLawful claims shown spent machine events log) → IsLegal machine lawful.last.plans
  lawful-legal events log lawful = (plannable-run empty_state log lawful.last lawful.run (plannable-empty machine)).legal

  -- no stock is overdrawn, past included
  stocked-run : (s : SessionState) (log : List (Entry T)) (s' : SessionState) → Run claims shown spent machine s log s' → IsStocked machine s → IsStocked machine s'
  stocked-run s [] s' is drawn = subst (IsStocked machine) (sym is) drawn
  stocked-run s (entry ∷ log) s' (mid, turn, rest) drawn =
      stocked-run mid log s' rest
      (stocked-turn (right_answers claims shown spent machine) machine (λ trees. spent) (λ trees plans deed plans' trees' does. does.0) entry.event s entry.trees entry.records mid [] tt turn drawn)

  pub lawful-stocked : (events : List Event) (log : List (Entry T)) (lawful : IsLawful claims shown spent machine events log) → IsStocked machine lawful.last
  lawful-stocked events log lawful = stocked-run empty_state log lawful.last lawful.run (stock-empty machine).drawn
