-- The lines of items, one after another.
use Rattle.std.proofs.Common.{◌≡◌, ◌+◌, List, ◌∷◌, length-append}
use Rattle.tp_log.specs.GatheredItems.{item_lines, log_lines}
use Rattle.tp_log.specs.declared.item.Item.{Item}
use Rattle.tp_log_check.specs.Heights.{height, heights}

pub heights_cons : (item : Item) (items : List Item) → heights (item ∷ items) ≡ height item + heights items
heights_cons item items = length-append (item_lines item) (log_lines items)
