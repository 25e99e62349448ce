-- Entries that are accepted one after another are a lawful log.
use Rattle.std.proofs.Common.{true, List, [], ◌∷◌, refl, subst}
use Rattle.tp_bounds.specs.declared.tree.BoundTree.{BoundTree}
use Rattle.tp_machine.specs.declared.machine.Machine.{Machine}
use Rattle.tp_event_rules.specs.Logs.{Entry, Run, spent_on_trust}
use Rattle.tp_event_rules.specs.States.{SessionState, empty_state}
use Rattle.tp_run_laws.proofs.Lawful.{whole-empty}
use Rattle.tp_run_laws.specs.Wholes.{IsWhole}
use Rattle.tp_log_laws.specs.AcceptedEntries.{AcceptedLogsLawful, AreAccepted, IsAccepted, OneMoreAccepted, bound_claims}

module _ (machine : Machine) where
  abbrev Runs : SessionState → List (Entry BoundTree) → SessionState → Type 0
  Runs = Run bound_claims true spent_on_trust machine

  run_over : (log : List (Entry BoundTree)) (s s' whole : SessionState) → IsWhole machine whole s → AreAccepted machine s log s' → (whole' : SessionState) × Runs whole log whole'
  run_over [] s s' whole behind h = (whole, refl)
  run_over (e ∷ log) s s' whole behind (mid, one, others) =
      let (next, turn, behind') = one whole behind in
      let (last, run) = run_over log mid s' next behind' others in
      (last, (next, turn, run))

pub logs_lawful : (machine : Machine) → AcceptedLogsLawful machine
logs_lawful machine log s accepted =
    let (last, run) = run_over machine log empty_state s empty_state (whole-empty machine 0 true) accepted in
    record { answers = refl; last = last; run = run }

pub one_more : (machine : Machine) → OneMoreAccepted machine
one_more machine [] e s mid s' h is = (s', subst (λ x. IsAccepted machine x e s') h is, refl)
one_more machine (first ∷ log) e s mid s' (next, one, others) is = (next, one, one_more machine log e next mid s' others is)
