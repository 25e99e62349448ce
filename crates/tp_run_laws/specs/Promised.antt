-- The headline of a run: what its log promises, past included.
use Rattle.std.specs.Prelude.{◌≡◌, ℕ, ◌≤◌, Bool, List, ◌∷◌, ◌++◌, length, Option, IsTrue}
use Rattle.tp_bounds.specs.declared.tree.BoundTree.{BoundTree}
use Rattle.tp_machine.specs.declared.machine.Machine.{Machine}
use Rattle.tp_jobs.specs.JobRefusals.{is_tray_name}
use Rattle.tp_schedule.specs.Holders.{held}
use Rattle.tp_schedule.specs.Legality.{IsLegal}
use Rattle.tp_schedule.specs.declared.records.Record.{Record}
use Rattle.tp_schedule.specs.declared.records.Record.TheVariants.{Plan, Never, Budget}
use Rattle.tp_schedule.specs.declared.records.SheetName.{SheetName}
use Rattle.tp_script.specs.declared.event.Event.{Event}
use Rattle.tp_stream.specs.declared.stop.Stop.{Stop}
use Rattle.tp_event_rules.specs.Logs.{Entry}
use Rattle.tp_event_rules.specs.Deliveries.{ReceivesInOrder, records_of}
use Rattle.tp_event_rules.specs.States.{SessionState, empty_state}
use Rattle.tp_headline.specs.Given.{IsEarliestThere, IsNoneThere, IsSpentThere}
use Rattle.tp_run_laws.specs.Ends.{IsAnswered, IsAnsweredTo}
use Rattle.tp_run_laws.specs.Proved.{AreProved}
use Rattle.tp_run_laws.specs.Runs.{IsLawfulRun, spent_by}
use Rattle.tp_event_rules.specs.Laws.{IsStocked}

module _ (machine : Machine) (nodes : ℕ) (bounds : Bool) where
  pub record KeepsPromises (log : List (Entry BoundTree)) (last : SessionState) : Type 0 where
    -- the last schedule is legal, and no resource has two holders at any tick
    pub legal : IsLegal machine last.plans
    pub held_once : (resource tick : ℕ) → length (held machine last.plans resource tick) ≤ 1
    -- no stock is overdrawn: the plans that begin at a feeder, past included, are at most its stock and its accepted refills
    pub stocked : IsStocked machine last
    -- each tray of the machine receives its line in order, no sheet twice, and only sheets of broken jobs are skipped
    pub received : (tray : List ℕ) → IsTrue (is_tray_name machine tray) → ReceivesInOrder log tray
    -- each plan ends its copy first among all alternatives, and is least
    pub earliest : (before after : List Record) (copy : SheetName) (place points : List ℕ) (acts : List (List ℕ))
        → records_of log ≡ before ++ Plan copy place points acts ∷ after
        → IsEarliestThere (spent_by nodes) machine log last before (Plan copy place points acts)
    -- each none means that there is no alternative by the horizon
    pub none : (before after : List Record) (copy : SheetName) (goal : Option (List ℕ))
        → records_of log ≡ before ++ Never copy goal ∷ after
        → IsNoneThere (spent_by nodes) machine log last before (Never copy goal)
    -- each budget means that as many different lists with choices as the budget were open, and one more
    pub spent : (before after : List Record) (copy : SheetName) (goal : Option (List ℕ)) (bound : ℕ)
        → records_of log ≡ before ++ Budget copy goal bound ∷ after
        → IsSpentThere (spent_by nodes) machine log last before (Budget copy goal bound)
    -- with bounds, behind each plan and its moves, and behind each none, stands a tree that proves it
    pub proved : IsTrue bounds → AreProved machine nodes log last

  -- of every lawful run, of every script that was answered, and of the first lines of one where the run stopped
  abbrev pub LawfulRunsKeepPromises : Type 0
  LawfulRunsKeepPromises = (events : List Event) (log : List (Entry BoundTree)) (run : IsLawfulRun machine nodes bounds events log)
      → KeepsPromises log run.lawful.last

  abbrev pub AnswersKeepPromises : Type 0
  AnswersKeepPromises = (script : List ℕ) (taken taken' : Option (List ℕ)) (answered : IsAnswered machine nodes bounds empty_state script taken taken')
      → KeepsPromises answered.run.log answered.run.last

  abbrev pub StopsKeepPromises : Type 0
  StopsKeepPromises = (stop : Stop) (script : List ℕ) (left left' taken taken' : Option (List ℕ)) (answered : IsAnsweredTo machine nodes bounds empty_state stop script left left' taken taken')
      → KeepsPromises answered.run.log answered.run.last
