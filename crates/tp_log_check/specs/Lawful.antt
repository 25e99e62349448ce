-- Which lines are those of a lawful log, and which turns the items of an event leave open.
use Rattle.std.specs.Prelude.{◌≡◌, true, false, List, [], ◌∷◌, map, IsTrue}
use Rattle.tp_bounds.specs.declared.tree.BoundTree.{BoundTree}
use Rattle.tp_log.specs.GatheredItems.{log_lines}
use Rattle.tp_log.specs.LogLines.{is_event}
use Rattle.tp_log.specs.Logs.{IsLog}
use Rattle.tp_log.specs.declared.item.Item.{Item}
use Rattle.tp_log.specs.declared.item.Item.TheVariants.{Event}
use Rattle.tp_log.specs.declared.log_line.LogLine.{LogLine}
use Rattle.tp_log_laws.specs.AcceptedEntries.{AcceptedTurn, bound_claims}
use Rattle.tp_machine.specs.declared.machine.Machine.{Machine}
use Rattle.tp_run_laws.specs.Proved.{records_in}
use Rattle.tp_run_laws.specs.Runs.{items_in, items_of, items_with}
use Rattle.tp_run_laws.specs.Wholes.{IsWhole}
use Rattle.tp_script.specs.declared.event.Event.{Event as AnEvent}
use Rattle.tp_event_rules.specs.StateInvariants.{live_part}
use Rattle.tp_event_rules.specs.Logs.{Entry, IsLawful, spent_on_trust}
use Rattle.tp_event_rules.specs.States.{SessionState}
use Rattle.tp_log_check.specs.EventEntry.{trees_in}

-- the lines are those of a log that is lawful with bounds, but for the causes of its budgets, each tree in its place
pub record IsLawfulLog (machine : Machine) (told : List LogLine) : Type 0 where
  pub log : List (Entry BoundTree)
  pub is_log : IsLog (items_in log)
  pub lines : told ≡ log_lines (items_in log)
  pub lawful : IsLawful bound_claims true spent_on_trust machine (map (λ e. e.event) log) log

-- the trees among an event's items stand in their places: directly behind a plan and its moves, or behind a none
abbrev pub AreInPlaces : List Item → Type 0
AreInPlaces items = items ≡ items_with false (records_in items) (trees_in items)

-- lines with which an event ends: there are none, or the first one is the next event's
abbrev pub EndEvent : List LogLine → Type 0
EndEvent [] = Unit {0}
EndEvent (line ∷ lines) = IsTrue (is_event line)

-- the event has a turn of right answers on the whole state, its budgets on trust, of which these items tell
pub record HasTurn (machine : Machine) (event : AnEvent) (items : List Item) (whole whole' : SessionState) : Type 0 where
  pub entry : Entry BoundTree
  pub are : items_of entry ≡ Event event ∷ items
  pub turn : AcceptedTurn machine entry.event whole entry.trees entry.records whole' []

module _ (machine : Machine) (s : SessionState) (event : AnEvent) (items : List Item) where
  -- each such turn on a whole state behind the live one leaves one behind this live state
  abbrev pub LeadsTo : SessionState → Type 0
  LeadsTo s' = (whole whole' : SessionState) → IsWhole machine whole s → HasTurn machine event items whole whole' → live_part machine whole' ≡ s'

  -- there is no such turn
  abbrev pub HasNoTurn : Type 0
  HasNoTurn = (whole whole' : SessionState) → IsWhole machine whole s → HasTurn machine event items whole whole' → ⊥
