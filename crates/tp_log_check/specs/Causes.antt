-- Why a flaw is reported of the event that is under way, and on which line.
use Rattle.std.specs.Prelude.{◌≡◌, ℕ, ◌+◌, ◌≤◌, min, nat_lt, ◌⊎◌, List, [], ◌∷◌, length, take, drop, Option, Some, None, if◌then◌else◌}
use Rattle.tp_bounds.specs.declared.tree.BoundTree.{BoundTree}
use Rattle.tp_log_check.specs.Heights.{heights}
use Rattle.tp_log.specs.GatheredItems.{closed}
use Rattle.tp_log.specs.declared.item.Item.{Item}
use Rattle.tp_log.specs.declared.item.Item.TheVariants.{Event, Tree as TreeItem}
use Rattle.tp_log_laws.specs.AcceptedEntries.{IsAccepted}
use Rattle.tp_log_laws.specs.EntryTurns.{told_steps}
use Rattle.tp_machine.specs.declared.machine.Machine.{Machine}
use Rattle.tp_run_laws.specs.Proved.{records_in}
use Rattle.tp_schedule.specs.declared.records.Record.{Record}
use Rattle.tp_script.specs.declared.event.Event.{Event as AnEvent}
use Rattle.tp_log_planner.specs.ToldAnswers.{ToldValue}
use Rattle.tp_log_planner.specs.declared.failure.Reason.{Reason}
use Rattle.tp_log_planner.specs.declared.failure.Reason.TheVariants as reason
use Rattle.tp_log_planner.specs.declared.failure.WrongItem.{WrongItem}
use Rattle.tp_bound_laws.specs.declared.claim.TreeFlaw.{TreeFlaw}
use Rattle.tp_bound_laws.specs.declared.claim.TreeFlaw.TheVariants as tree
use Rattle.tp_event_rules.specs.States.{SessionState}
use Rattle.tp_event_turn.specs.Events.{LiveTurn}
use Rattle.tp_event_turn.specs.Stops.{LiveStop}
use Rattle.tp_log_check.specs.CheckerState.{CheckerValue, Underway}
use Rattle.tp_log_check.specs.EventEntry.{entry}
use Rattle.tp_log_check.specs.FirstDifference.{IsOffAt, PartsAt, items_before}
use Rattle.tp_log_check.specs.declared.flaw.Flaw.{Flaw}
use Rattle.tp_log_check.specs.declared.flaw.Flaw.TheVariants.{Memory, Text, Due, Illegal, NotLeast, Tree}

-- ---- the line

-- how far behind its first line a tree has the flaw: at the row or the node, or behind its last line
abbrev pub tree_line : BoundTree → TreeFlaw → ℕ
tree_line t tree.Memory = 0
tree_line t (tree.RoomRow row) = if nat_lt row (length t.rows) then row else (length t.rows + length t.nodes)
tree_line t (tree.Uncovered node) = length t.rows + min node (length t.nodes)
tree_line t (tree.NoSuchHop node hop) = length t.rows + min node (length t.nodes)
tree_line t (tree.Weak node reach cap) = length t.rows + min node (length t.nodes)
tree_line t (tree.NotDead node) = length t.rows + min node (length t.nodes)

abbrev pub lines_into : List Item → TreeFlaw → ℕ
lines_into [] flaw = 0
lines_into (TreeItem t ∷ items) flaw = tree_line t flaw
lines_into _ flaw = 0

abbrev pub lines_to : List Item → Reason → ℕ
lines_to items (reason.Tree flaw) = lines_into items flaw
lines_to items _ = 0

-- the flaw on this line, or that of a tree on the other one
abbrev pub flaw_on : ℕ → ℕ → Reason → Flaw
flaw_on line place reason.Due = Due line
flaw_on line place (reason.Illegal first second) = Illegal line first second
flaw_on line place (reason.NotLeast given least) = NotLeast line given least
flaw_on line place (reason.Tree flaw) = Tree place flaw

abbrev pub flaw_by : ℕ → List Item → Reason → Flaw
flaw_by line items reason = flaw_on line (line + lines_to items reason) reason

-- the flaw, on the line of the item, where the event stands on this line and these items behind it
abbrev pub flaw_at : ℕ → List Item → WrongItem → Flaw
flaw_at line items stop = flaw_by (line + 1 + heights (take stop.item items)) (drop stop.item items) stop.reason

-- ---- the event's turn

-- it is done where the items tell the answers, and this item is the first that is off
pub record EndsOff (machine : Machine) (s : SessionState) (event : AnEvent) (items : List Item) (item : ℕ) : Type 0 where
  pub planner : ToldValue
  pub items_are : planner.items ≡ items
  pub begins : planner.at ≡ 0
  pub notes : List Record
  pub after : SessionState
  pub last : ToldValue
  pub turn : LiveTurn (told_steps machine) machine event s planner notes after last
  pub off : IsOffAt notes items last.at item

-- it stops, and this item is off, which stands before those that tell no answer
pub record StopsOff (machine : Machine) (s : SessionState) (event : AnEvent) (items : List Item) (item : ℕ) : Type 0 where
  pub planner : ToldValue
  pub items_are : planner.items ≡ items
  pub begins : planner.at ≡ 0
  pub notes : List Record
  pub last : ToldValue
  pub stops : LiveStop (told_steps machine) machine event s planner notes last
  pub off : PartsAt notes (items_before last) item

-- it stops behind items that tell its records, and this is why: it holds of the step at which the turn stops
pub record StopsFor (machine : Machine) (s : SessionState) (event : AnEvent) (items : List Item) (stop : WrongItem) : Type 0 where
  pub planner : ToldValue
  pub items_are : planner.items ≡ items
  pub begins : planner.at ≡ 0
  pub notes : List Record
  pub last : ToldValue
  pub stops : LiveStop (told_steps machine) machine event s planner notes last
  pub so_far : notes ≡ records_in (items_before last)
  pub kept : last.stop ≡ Some stop

-- another item is due than this one
abbrev pub IsDueFor : Machine → SessionState → AnEvent → List Item → ℕ → Type 0
IsDueFor machine s event items item = EndsOff machine s event items item ⊎ StopsOff machine s event items item

-- or the turn stops for this
abbrev pub IsDueOrStops : Machine → SessionState → AnEvent → List Item → WrongItem → Type 0
IsDueOrStops machine s event items stop = ((stop.reason ≡ reason.Due) × IsDueFor machine s event items stop.item) ⊎ StopsFor machine s event items stop

-- ---- flaws

-- the items that are reported of the event, with the tree to which lines came last, or without it
abbrev pub AreItemsOf : Underway → List Item → Type 0
AreItemsOf u items = (items ≡ u.items) ⊎ (Event u.event ∷ items ≡ closed (Event u.event ∷ u.items) u.tree)

-- for this its turn stops or is off, and the flaw tells it on the line of the item
pub record HasReason (machine : Machine) (s : SessionState) (u : Underway) (flaw : Flaw) : Type 0 where
  pub items : List Item
  pub are : AreItemsOf u items
  pub stop : WrongItem
  pub why : IsDueOrStops machine s u.event items stop
  pub told : flaw ≡ flaw_at u.line items stop

abbrev pub HasReasonUnder : Machine → SessionState → Option Underway → Flaw → Type 0
HasReasonUnder machine s None flaw = ⊥
HasReasonUnder machine s (Some u) flaw = HasReason machine s u flaw

-- ---- no flaw so far

-- the items tell a whole turn of the event, as a log that is lawful with bounds may, but for the causes of its budgets
abbrev pub TellWholeTurn : Machine → SessionState → AnEvent → List Item → Type 0
TellWholeTurn machine s event items = (after : SessionState) × IsAccepted machine s (entry event items) after

-- this is wrong with them only behind the last of them
abbrev pub IsBehind : List Item → WrongItem → Type 0
IsBehind items stop = length items ≤ stop.item

-- nothing is wrong with the items that are reported so far: they tell a whole turn, or what is wrong stands behind them
abbrev pub AreRightSoFar : Machine → SessionState → AnEvent → List Item → Type 0
AreRightSoFar machine s event items = TellWholeTurn machine s event items ⊎ ((stop : WrongItem) × IsDueOrStops machine s event items stop × IsBehind items stop)

-- of the event that is under way, if there is one, nothing is wrong with the items that are reported so far
abbrev pub IsRightUnder : Machine → SessionState → Option Underway → Type 0
IsRightUnder machine s None = Unit {0}
IsRightUnder machine s (Some u) = AreRightSoFar machine s u.event u.items

-- that a line is off the grammar is reported only if nothing is wrong before it; any other flaw, only for a reason of the event that is under way
abbrev pub HasCause : CheckerValue → Flaw → Type 0
HasCause c Memory = Unit {0}
HasCause c (Text line) = IsRightUnder c.machine c.state c.under
HasCause c flaw = HasReasonUnder c.machine c.state c.under flaw
