-- Every lawful run keeps the promises.
use Rattle.std.proofs.Common.{ℕ, Bool, List}
use Rattle.tp_bounds.specs.declared.tree.BoundTree.{BoundTree}
use Rattle.tp_machine.specs.declared.machine.Machine.{Machine}
use Rattle.tp_script.specs.declared.event.Event.{Event}
use Rattle.tp_event_rules.specs.Logs.{Entry}
use Rattle.tp_event_rules.specs.States.{SessionState, empty_state}
use Rattle.tp_headline.proofs.LawfulAnswers.{budgets-spent, nones-none, plans-earliest}
use Rattle.tp_headline.proofs.LawfulLines.{lawful-headline}
use Rattle.tp_run_laws.specs.Promised.{KeepsPromises}
use Rattle.tp_run_laws.specs.Runs.{IsLawfulRun, IsRunFrom, spent_by, tree_claims}
use Rattle.tp_run_laws.proofs.Proved.{are-proved}
use Rattle.tp_event_rules.proofs.LawfulLogs.{lawful-stocked}

pub keeps-promises : (machine : Machine) (nodes : ℕ) (bounds : Bool) (events : List Event) (log : List (Entry BoundTree))
    (run : IsLawfulRun machine nodes bounds events log) → KeepsPromises machine nodes bounds log run.lawful.last
keeps-promises machine nodes bounds events log run =
    let lawful = run.lawful in
    let headline = lawful-headline tree_claims (spent_by nodes) machine bounds events log lawful in
    record {
      legal = headline.legal;
      held_once = headline.legal.single;
      stocked = lawful-stocked tree_claims bounds (spent_by nodes) machine events log lawful;
      received = headline.lines;
      earliest = plans-earliest tree_claims (spent_by nodes) machine bounds events log lawful;
      none = nones-none tree_claims (spent_by nodes) machine bounds events log lawful;
      spent = budgets-spent tree_claims (spent_by nodes) machine bounds events log lawful;
      proved = are-proved machine nodes bounds events log lawful run.has_text.1;
    }

-- and so does every run from the empty state
pub first-runs-keep : (machine : Machine) (nodes : ℕ) (bounds : Bool) (events : List Event) (log : List (Entry BoundTree)) (last : SessionState)
    → IsRunFrom machine nodes bounds empty_state events log last → KeepsPromises machine nodes bounds log last
first-runs-keep machine nodes bounds events log last r =
    keeps-promises machine nodes bounds events log (record { lawful = record { answers = r.answers; last = last; run = r.run }; has_text = r.has_text })
