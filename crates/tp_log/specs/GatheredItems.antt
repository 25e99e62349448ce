-- The items of the lines that were read so far.
use Rattle.std.specs.Prelude.{◌≡◌, ◌⊎◌, ℕ, ◌+◌, Bool, true, false, nat_lt, List, [], ◌∷◌, ◌++◌, length, map, IsTrue, if◌then◌else◌}
use Rattle.std.specs.List.{All, flat_map}
use Rattle.tp_bounds.specs.declared.tree.BoundTree.{BoundTree}
use Rattle.tp_bounds.specs.Trees.{HasLines}
use Rattle.tp_log.specs.declared.gathered.Gathered.{Gathered}
use Rattle.tp_log.specs.declared.gathered.NextLine.{NextLine}
use Rattle.tp_log.specs.declared.item.Item.{Item}
use Rattle.tp_log.specs.declared.item.Item.TheVariants.{Event, Note, Tree}
use Rattle.tp_log.specs.declared.log_line.LogLine.{LogLine}
use Rattle.tp_log.specs.declared.log_line.LogLine.TheVariants as line
use Rattle.tp_log.specs.LogLines.{AreInOrder, IsLogLine, takes_node, takes_row}
use Rattle.tp_log.specs.Logs.{IsLog, is_open}

-- the lines of an item
abbrev pub item_lines : Item → List LogLine
item_lines (Event event) = line.Event event ∷ []
item_lines (Note told) = line.Note told ∷ []
item_lines (Tree tree) = map (λ r. line.Room r) tree.rows ++ map (λ n. line.Node n) tree.nodes

abbrev pub log_lines : List Item → List LogLine
log_lines items = flat_map item_lines items

-- the lines of the items and of the tree behind them
abbrev pub lines_with : List Item → BoundTree → List LogLine
lines_with items tree = log_lines items ++ item_lines (Tree tree)

abbrev pub lines_so_far : Gathered → List LogLine
lines_so_far g = lines_with g.items.items g.tree

abbrev pub has_lines : BoundTree → Bool
has_lines tree = nat_lt 0 (length tree.rows + length tree.nodes)

-- the items with the tree as the last one, if it has lines
abbrev pub closed : List Item → BoundTree → List Item
closed items tree = if has_lines tree then items ++ Tree tree ∷ [] else items

-- ---- what may stand behind lines

abbrev pub allows : NextLine → LogLine → Bool
allows next (line.Event event) = true
allows next (line.Note told) = next.«record»
allows next (line.Room row) = next.row
allows next (line.Node node) = next.node

abbrev pub behind : LogLine → NextLine
behind told = record { «record» = true; row = takes_row told; node = takes_node told }

abbrev pub last_from : LogLine → List LogLine → LogLine
last_from before [] = before
last_from before (told ∷ lines) = last_from told lines

abbrev pub next_of : List LogLine → NextLine
next_of [] = record { «record» = false; row = false; node = false }
next_of (first ∷ lines) = behind (last_from first lines)

-- ---- what is gathered

abbrev pub is_tree : Item → Bool
is_tree (Tree tree) = true
is_tree _ = false

-- the last item is no tree, and one behind which a tree may stand, if there is one with lines
pub record EndsWith (items : List Item) (tree : BoundTree) : Type 0 where
  pub before : List Item
  pub last : Item
  pub are : items ≡ before ++ last ∷ []
  pub plain : is_tree last ≡ false
  pub takes : has_lines tree ≡ true → IsTrue (is_open last)

pub record AreGathered (items : List Item) (tree : BoundTree) (next : NextLine) : Type 0 where
  pub log : IsLog items
  pub has : HasLines tree
  pub ends : ((items ≡ []) × (has_lines tree ≡ false)) ⊎ EndsWith items tree
  pub known : All IsLogLine (lines_with items tree)
  pub order : AreInOrder (lines_with items tree)
  pub is_next : next ≡ next_of (lines_with items tree)

abbrev pub IsGathered : Gathered → Type 0
IsGathered g = AreGathered g.items.items g.tree g.next
