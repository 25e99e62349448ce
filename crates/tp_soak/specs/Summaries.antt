-- The line of a number: what the log of its case tells.
use Rattle.std.specs.Prelude.{◌≡◌, ℕ, true, List, Option, unwrap_or}
use Rattle.tp_bounds.specs.declared.tree.BoundTree.{BoundTree}
use Rattle.tp_soak.specs.Cases.{IsMachineFor, events_for}
use Rattle.tp_log.specs.Logs.{IsLog, log_text}
use Rattle.tp_log.specs.declared.item.Item.{Item}
use Rattle.tp_machine.specs.declared.machine.Machine.{Machine}
use Rattle.tp_run_laws.specs.Runs.{IsLawfulRun, items_in}
use Rattle.tp_script.specs.declared.event.Event.{Event}
use Rattle.tp_session.specs.Sessions.{Standing, start_of}
use Rattle.tp_event_rules.specs.Logs.{Entry}
use Rattle.tp_soak.specs.SoakCounts.{counts_of, summary_text}
use Rattle.tp_soak.specs.declared.record_counts.RecordCounts.{RecordCounts}

-- the text is a log's
abbrev pub IsLogText : List ℕ → Type 0
IsLogText text = (items : List Item) × IsLog items × (text ≡ log_text items)

-- these are the counts of a log that answers the events on the machine by a lawful run with bounds
pub record IsCountedRun (machine : Machine) (budget : ℕ) (events : List Event) (counts : RecordCounts) : Type 0 where
  pub log : List (Entry BoundTree)
  pub lawful : IsLawfulRun machine budget true events log
  pub counted : counts ≡ counts_of (items_in log)

-- a session with bounds stands at its start
abbrev pub IsAtStart : Standing → Type 0
IsAtStart standing = (machine : Machine) × ((budget : Option ℕ) × (standing ≡ start_of machine budget true))

-- the line tells the counts of such a log for the machine and the events of the number. It has 27 events
pub record IsSummary (arg : ℕ) (budget : Option ℕ) (line : List ℕ) : Type 0 where
  pub machine : Machine
  pub is_machine : IsMachineFor arg machine
  pub counts : RecordCounts
  pub run : IsCountedRun machine (unwrap_or budget machine.budget) (events_for arg) counts
  pub of_27 : counts.events ≡ 27
  pub is_line : line ≡ summary_text arg counts
