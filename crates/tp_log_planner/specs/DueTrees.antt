-- The tree that is due.
use Rattle.std.specs.Prelude.{◌≡◌, List, ◌∷◌}
use Rattle.tp_bounds.specs.declared.tree.BoundTree.{BoundTree}
use Rattle.tp_log.specs.declared.item.Item.{Item}
use Rattle.tp_log.specs.declared.item.Item.TheVariants.{Tree}
use Rattle.tp_machine.specs.declared.machine.Machine.{Machine}
use Rattle.tp_schedule.specs.declared.parts.Ask.{Ask}
use Rattle.tp_schedule.specs.declared.parts.Plan.{Plan}
use Rattle.tp_bound_laws.specs.Claims.{IsTreeFor}
use Rattle.tp_bound_laws.specs.declared.claim.Claim.{Claim}

-- the item is a tree that shows the claim
pub record IsTreeItem (machine : Machine) (plans : List Plan) (ask : Ask) (claim : Claim) (item : Item) : Type 0 where
  pub tree : BoundTree
  pub is : item ≡ Tree tree
  pub shows : IsTreeFor machine plans ask claim tree

-- the first item is a tree that shows the claim
pub record BeginsWithTree (machine : Machine) (plans : List Plan) (ask : Ask) (claim : Claim) (items : List Item) : Type 0 where
  pub tree : BoundTree
  pub later : List Item
  pub is : items ≡ Tree tree ∷ later
  pub shows : IsTreeFor machine plans ask claim tree
