-- The records of a run.
use Rattle.std.proofs.Common.{ℕ, Bool, List, [], ◌∷◌, All}
use Rattle.std.proofs.lemmas.List.Elements.{All-cons, All-nil}
use Rattle.tp_bounds.specs.declared.tree.BoundTree.{BoundTree}
use Rattle.tp_machine.specs.declared.machine.Machine.{Machine}
use Rattle.tp_event_rules.specs.Logs.{Entry, Run, right_answers}
use Rattle.tp_event_rules.specs.States.{SessionState}
use Rattle.tp_run_laws.specs.Runs.{spent_by, tree_claims}
use Rattle.tp_run_laws.proofs.ToldRecords.{IsTold}
use Rattle.tp_run_laws.proofs.TurnLines.{lines-told}

pub runs-tell : (machine : Machine) (nodes : ℕ) (bounds : Bool) (start : SessionState) (log : List (Entry BoundTree)) (last : SessionState)
    → Run tree_claims bounds (spent_by nodes) machine start log last → All (λ e. All IsTold e.records) log
runs-tell machine nodes bounds start [] last run = All-nil (λ (e : Entry BoundTree). All IsTold e.records)
runs-tell machine nodes bounds start (e ∷ log) last (mid, turn, run) =
    All-cons (λ (e : Entry BoundTree). All IsTold e.records) e log
    (lines-told (right_answers tree_claims bounds (spent_by nodes) machine) machine (λ trees. spent_by nodes) (λ trees plans deed plans' trees' does. does.0) e.event start e.trees e.records mid [] turn)
    (runs-tell machine nodes bounds mid log last run)
