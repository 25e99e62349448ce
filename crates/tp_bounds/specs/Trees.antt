-- Whole trees: their text, and the first line that is off the grammar.
use Rattle.std.specs.Prelude.{◌≡◌, ◌⊎◌, ◌≢◌, ℕ, ◌+◌, ◌-◌, ◌<◌, ◌≤◌, List, [], ◌++◌, length, map, take, All, flat_map, Result, Ok, Err}
use Rattle.tp_bounds.specs.declared.fault.TreeFault.{TreeFault}
use Rattle.tp_bounds.specs.declared.fault.TreeFault.TheVariants.{Memory, Bad}
use Rattle.tp_bounds.specs.declared.line.BoundLine.{BoundLine}
use Rattle.tp_bounds.specs.declared.line.BoundLine.TheVariants.{Room, Node as ANode}
use Rattle.tp_bounds.specs.declared.tree.BoundTree.{BoundTree}
use Rattle.tp_bounds.specs.declared.tree.Close.{Close}
use Rattle.tp_bounds.specs.declared.tree.Close.TheVariants.{Loop}
use Rattle.tp_bounds.specs.declared.tree.Node.{Node}
use Rattle.tp_bounds.specs.Lines.{IsRow, IsNode, row_text, node_text, bound_text}
use Rattle.tp_words.specs.Texts.{lines_of}

-- its rows, and then its nodes
abbrev pub tree_text : BoundTree → List ℕ
tree_text tree = flat_map row_text tree.rows ++ flat_map node_text tree.nodes

abbrev pub tree_lines : BoundTree → List (List ℕ)
tree_lines tree = map row_text tree.rows ++ map node_text tree.nodes

-- what has a text: at least one line, and no loop without hops
abbrev pub HasALine : BoundTree → Type 0
HasALine tree = 0 < length tree.rows + length tree.nodes

abbrev pub HasHops : Close → Type 0
HasHops (Loop first hops) = 0 < length hops
HasHops _ = Unit {0}

abbrev pub IsPrintable : BoundTree → Type 0
IsPrintable tree = HasALine tree × All (λ (node : Node). HasHops node.close) tree.nodes

-- a tree that a text may tell, but for the number of its lines
abbrev pub HasLines : BoundTree → Type 0
HasLines tree = All IsRow tree.rows × All IsNode tree.nodes

abbrev pub IsTree : BoundTree → Type 0
IsTree tree = HasALine tree × HasLines tree

-- ---- faults

-- the lines are those of a tree, or none
abbrev pub BeginTree : List (List ℕ) → Type 0
BeginTree lines = (tree : BoundTree) × HasLines tree × (lines ≡ tree_lines tree)

abbrev pub AreTree : List (List ℕ) → Type 0
AreTree lines = (tree : BoundTree) × IsTree tree × (lines ≡ tree_lines tree)

-- line n, counted from 1, is the first that is off the grammar: the lines before it begin a tree, and with it they are
-- none. A text without lines lacks its first
pub record IsFirstOff (n : ℕ) (text : List ℕ) : Type 0 where
  pub counted : 1 ≤ n
  pub there : (n ≤ length (lines_of text)) ⊎ ((n ≡ 1) × (text ≡ []))
  pub before : BeginTree (take (n - 1) (lines_of text))
  pub off : AreTree (take n (lines_of text)) → ⊥

-- what holds of the line that a fault tells
abbrev pub IfBad : TreeFault → (ℕ → Type 0) → Type 0
IfBad (Bad n) P = P n
IfBad Memory P = Unit {0}

-- ---- one line of a tree

-- behind so many nodes the line may stand
abbrev pub StandsBehind : ℕ → BoundLine → Type 0
StandsBehind nodes (Room row) = IsRow row × (nodes ≡ 0)
StandsBehind nodes (ANode node) = IsNode node

-- what reading line n, behind so many nodes, answers
abbrev pub ReadsNth : ℕ → ℕ → List ℕ → Result BoundLine TreeFault → Type 0
ReadsNth nodes n line (Ok told) = StandsBehind nodes told × (line ≡ bound_text told)
ReadsNth nodes n line (Err (Bad m)) = (m ≡ n) × ((told : BoundLine) → StandsBehind nodes told → line ≢ bound_text told)
ReadsNth nodes n line (Err Memory) = Unit {0}
