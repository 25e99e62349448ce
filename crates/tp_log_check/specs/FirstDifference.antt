-- Which item of an event is the first that is off: it tells another record than the turn, or a tree that the turn doesn't take.
use Rattle.std.specs.Prelude.{◌≡◌, ◌≢◌, ℕ, ◌-◌, ◌≤◌, ◌⊎◌, List, [], ◌∷◌, ◌++◌, length, take, drop, slice_get, Some}
use Rattle.tp_bounds.specs.declared.tree.BoundTree.{BoundTree}
use Rattle.tp_log.specs.declared.item.Item.{Item}
use Rattle.tp_log.specs.declared.item.Item.TheVariants.{Tree}
use Rattle.tp_run_laws.specs.Proved.{records_in}
use Rattle.tp_schedule.specs.declared.records.Record.{Record}
use Rattle.tp_log_planner.specs.ToldAnswers.{ToldValue, ahead, behind_asides}
use Rattle.tp_log_check.specs.EventEntry.{trees_in}

-- the next item tells another record than the next that is due, or one too many; or a record is due behind all items
abbrev pub IsOther : List Record → List Item → Type 0
IsOther due [] = due ≢ []
IsOther due (item ∷ items) = (left : List Record) → due ≡ records_in (item ∷ []) ++ left → ⊥

-- the items before this one tell the first of the records, and this one is off
pub record PartsAt (notes : List Record) (items : List Item) (at : ℕ) : Type 0 where
  pub within : at ≤ length items
  pub due : List Record
  pub so_far : notes ≡ records_in (take at items) ++ due
  pub other : IsOther due (drop at items)

-- from one item on this is the first that is a tree
pub record IsFirstTree (from : ℕ) (items : List Item) (at : ℕ) : Type 0 where
  pub further : from ≤ at
  pub tree : BoundTree
  pub is : slice_get items at ≡ Some (Tree tree)
  pub first : trees_in (drop from (take at items)) ≡ []

-- the first item that is off where the turn is done: it took the trees before the item `taken`
abbrev pub IsOffAt : List Record → List Item → ℕ → ℕ → Type 0
IsOffAt notes items taken at =
    (PartsAt notes items at × (trees_in (drop taken (take at items)) ≡ []))
    ⊎ (IsFirstTree taken items at × ((due : List Record) × (notes ≡ records_in (take at items) ++ due)))

-- the items before the first at which the planner looks for an answer
abbrev pub items_before : ToldValue → List Item
items_before p = take (length p.items - length (behind_asides (ahead p))) p.items
