-- An event that is under way, as lines of a log.
use Rattle.std.specs.Prelude.{◌≡◌, All, IsFalse, List, ◌∷◌}
use Rattle.tp_log.specs.GatheredItems.{AreGathered, lines_with, next_of}
use Rattle.tp_log.specs.Logs.{is_echo}
use Rattle.tp_log.specs.declared.item.Item.{Item}
use Rattle.tp_log.specs.declared.item.Item.TheVariants as item
use Rattle.tp_log.specs.declared.log_line.LogLine.{LogLine}
use Rattle.tp_log_check.specs.declared.pending.Pending.{Pending}

-- the event and what is reported of it so far
abbrev pub items_of : Pending → List Item
items_of p = item.Event p.event ∷ p.items.items

-- its lines so far
abbrev pub lines_of : Pending → List LogLine
lines_of p = lines_with (items_of p) p.tree

-- no event is among the items
abbrev pub ArePlain : List Item → Type 0
ArePlain items = All (λ item. IsFalse (is_echo item)) items

-- its lines are those of a log with one event, and it is known which may stand behind them
pub record IsPending (p : Pending) : Type 0 where
  pub plain : ArePlain p.items.items
  pub gathered : AreGathered (items_of p) p.tree (next_of (lines_of p))
  pub row : p.next.row ≡ (next_of (lines_of p)).row
  pub node : p.next.node ≡ (next_of (lines_of p)).node

-- nothing of it has changed
pub record IsSame (p p' : Pending) : Type 0 where
  pub event : p'.event ≡ p.event
  pub line : p'.line ≡ p.line
  pub items : p'.items.items ≡ p.items.items
  pub tree : p'.tree ≡ p.tree
  pub next : p'.next ≡ p.next
