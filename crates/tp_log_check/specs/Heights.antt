-- How many lines items have.
use Rattle.std.specs.Prelude.{ℕ, List, length}
use Rattle.tp_log.specs.GatheredItems.{item_lines, log_lines}
use Rattle.tp_log.specs.declared.item.Item.{Item}

-- a tree has a line for each row and each node, all else has one
abbrev pub height : Item → ℕ
height item = length (item_lines item)

abbrev pub heights : List Item → ℕ
heights items = length (log_lines items)
