-- Items and their lines: the same text, lines in order, and no two logs of the same lines.
use Rattle.std.proofs.Common.{◌≡◌, ℕ, ◌+◌, ◌<◌, false, IsTrue, List, [], ◌∷◌, ◌++◌, length, map, refl, sym, ap, ◌∙◌, append_assoc, arith}
use Rattle.std.specs.List.{All, AllByRecursion, flat_map}
use Rattle.std.proofs.lemmas.List.{append-nil}
use Rattle.std.proofs.lemmas.List.Concat.{flat_map-append}
use Rattle.std.proofs.lemmas.List.Elements.{All-append, All-from_recursion, All-map, recursion_from_All}
use Rattle.tp_bounds.specs.Lines.{node_text, row_text}
use Rattle.tp_bounds.specs.Trees.{HasLines}
use Rattle.tp_bounds.specs.declared.tree.BoundTree.{BoundTree}
use Rattle.tp_bounds.specs.declared.tree.Node.{Node as ANode}
use Rattle.tp_bounds.specs.declared.tree.TreeRow.{TreeRow}
use Rattle.tp_log.specs.declared.item.Item.{Item}
use Rattle.tp_log.specs.declared.item.Item.TheVariants.{Event, Note, Tree}
use Rattle.tp_log.specs.declared.log_line.LogLine.{LogLine}
use Rattle.tp_log.specs.declared.log_line.LogLine.TheVariants as line
use Rattle.tp_log.specs.GatheredItems.{is_tree, item_lines, log_lines}
use Rattle.tp_log.specs.LogLines.{AreInOrder, FollowEach, IsLogLine, log_line_text, takes_node, takes_row}
use Rattle.tp_log.specs.Logs.{AreInPlace, IsItem, IsLog, StandEach, is_open, item_text, log_text}
use Rattle.tp_log.proofs.LogLines.{text_of}

never : {P : Type 0} → IsTrue false → P
never h = absurd cc

abbrev pub tree_of : List TreeRow → List ANode → BoundTree
tree_of rows nodes = record { rows = rows; nodes = nodes }

abbrev pub row_lines : List TreeRow → List LogLine
row_lines rows = map (λ r. line.Room r) rows

abbrev pub node_lines : List ANode → List LogLine
node_lines nodes = map (λ n. line.Node n) nodes

-- ---- text
text_of-append : (xs ys : List LogLine) → text_of (xs ++ ys) ≡ text_of xs ++ text_of ys
text_of-append xs ys = flat_map-append log_line_text xs ys

text_of-rows : (rows : List TreeRow) → text_of (row_lines rows) ≡ flat_map row_text rows
text_of-rows [] = refl
text_of-rows (r ∷ rows) = ap (λ t. row_text r ++ t) (text_of-rows rows)

text_of-nodes : (nodes : List ANode) → text_of (node_lines nodes) ≡ flat_map node_text nodes
text_of-nodes [] = refl
text_of-nodes (n ∷ nodes) = ap (λ t. node_text n ++ t) (text_of-nodes nodes)

text_of-item : (item : Item) → text_of (item_lines item) ≡ item_text item
text_of-item (Event e) = append-nil (item_text (Event e))
text_of-item (Note r) = append-nil (item_text (Note r))
text_of-item (Tree t) =
    text_of-append (row_lines t.rows) (node_lines t.nodes) ∙ ap (λ x. x ++ text_of (node_lines t.nodes)) (text_of-rows t.rows) ∙ ap (λ x. flat_map row_text t.rows ++ x) (text_of-nodes t.nodes)

pub text_of-log : (items : List Item) → text_of (log_lines items) ≡ log_text items
text_of-log [] = refl
text_of-log (i ∷ is) =
    text_of-append (item_lines i) (log_lines is) ∙ ap (λ t. t ++ text_of (log_lines is)) (text_of-item i) ∙ ap (λ t. item_text i ++ t) (text_of-log is)

-- ---- lines
pub tree_known : (tree : BoundTree) → HasLines tree → All IsLogLine (item_lines (Tree tree))
tree_known tree h =
    All-append IsLogLine (row_lines tree.rows) (node_lines tree.nodes) (All-map IsLogLine (λ r. line.Room r) tree.rows h.0) (All-map IsLogLine (λ n. line.Node n) tree.nodes h.1)

item_known : (item : Item) → IsItem item → All IsLogLine (item_lines item)
item_known (Event e) h = All-from_recursion IsLogLine (line.Event e ∷ []) (h, tt)
item_known (Note r) h = All-from_recursion IsLogLine (line.Note r ∷ []) (h, tt)
item_known (Tree t) h = tree_known t h.1

items_known : (items : List Item) → AllByRecursion IsItem items → All IsLogLine (log_lines items)
items_known [] h = All-from_recursion IsLogLine [] tt
items_known (i ∷ is) h = All-append IsLogLine (item_lines i) (log_lines is) (item_known i h.0) (items_known is h.1)

pub log_known : (items : List Item) → All IsItem items → All IsLogLine (log_lines items)
log_known items h = items_known items (recursion_from_All IsItem items h)

-- ---- the lines of a log are in order
nodes_follow : (before : LogLine) (nodes : List ANode) (rest : List LogLine) → IsTrue (takes_node before) → ((last : LogLine) → FollowEach last rest) → FollowEach before (node_lines nodes ++ rest)
nodes_follow before [] rest takes then = then before
nodes_follow before (n ∷ ns) rest takes then = (takes, nodes_follow (line.Node n) ns rest refl then)

rows_follow : (before : LogLine) (rows : List TreeRow) (nodes : List ANode) (rest : List LogLine) → IsTrue (takes_row before) → IsTrue (takes_node before) → ((last : LogLine) → FollowEach last rest) → FollowEach before (row_lines rows ++ (node_lines nodes ++ rest))
rows_follow before [] nodes rest row node then = nodes_follow before nodes rest node then
rows_follow before (r ∷ rs) nodes rest row node then = (row, rows_follow (line.Room r) rs nodes rest refl refl then)

-- where a tree may stand behind an item, a row and a node may stand behind its last line
abbrev Opens : Item → LogLine → Type 0
Opens before last = IsTrue (is_open before) → IsTrue (takes_row last) × IsTrue (takes_node last)

each_follow : (before : Item) (last : LogLine) (items : List Item) → Opens before last → StandEach before items → FollowEach last (log_lines items)
each_follow before last [] opens h = tt
each_follow before last (Event e ∷ items) opens h = (refl, each_follow (Event e) (line.Event e) items (λ takes. never takes) h.1)
each_follow before last (Note r ∷ items) opens h = (refl, each_follow (Note r) (line.Note r) items (λ takes. (takes, takes)) h.1)
each_follow before last (Tree t ∷ items) opens h =
    let may = opens h.0 in
    rw (append_assoc (row_lines t.rows) (node_lines t.nodes) (log_lines items)) (rows_follow last t.rows t.nodes (log_lines items) may.0 may.1 (λ end. each_follow (Tree t) end items (λ takes. never takes) h.1))

pub in_order : (items : List Item) → AreInPlace items → AreInOrder (log_lines items)
in_order [] h = tt
in_order (Event e ∷ items) h = (refl, each_follow (Event e) (line.Event e) items (λ takes. never takes) h.1)
in_order (Note r ∷ items) h = never h.0
in_order (Tree t ∷ items) h = never h.0

-- ---- no two logs have the same lines
abbrev with_row : TreeRow → List Item → List Item
with_row r [] = Tree (tree_of (r ∷ []) []) ∷ []
with_row r (Tree t ∷ items) = Tree (tree_of (r ∷ t.rows) t.nodes) ∷ items
with_row r (Event e ∷ items) = Tree (tree_of (r ∷ []) []) ∷ Event e ∷ items
with_row r (Note n ∷ items) = Tree (tree_of (r ∷ []) []) ∷ Note n ∷ items

abbrev with_node : ANode → List Item → List Item
with_node n [] = Tree (tree_of [] (n ∷ [])) ∷ []
with_node n (Tree t ∷ items) = Tree (tree_of t.rows (n ∷ t.nodes)) ∷ items
with_node n (Event e ∷ items) = Tree (tree_of [] (n ∷ [])) ∷ Event e ∷ items
with_node n (Note r ∷ items) = Tree (tree_of [] (n ∷ [])) ∷ Note r ∷ items

-- lines gathered again
abbrev gather : List LogLine → List Item
gather [] = []
gather (line.Event e ∷ lines) = Event e ∷ gather lines
gather (line.Note r ∷ lines) = Note r ∷ gather lines
gather (line.Room r ∷ lines) = with_row r (gather lines)
gather (line.Node n ∷ lines) = with_node n (gather lines)

-- no tree stands first
abbrev BeginsPlain : List Item → Type 0
BeginsPlain [] = Unit {0}
BeginsPlain (item ∷ items) = is_tree item ≡ false

first-node : (n : ANode) (items : List Item) → BeginsPlain items → with_node n items ≡ Tree (tree_of [] (n ∷ [])) ∷ items
first-node n [] h = refl
first-node n (Event e ∷ items) h = refl
first-node n (Note r ∷ items) h = refl
first-node n (Tree t ∷ items) h = absurd cc

first-row : (r : TreeRow) (items : List Item) → BeginsPlain items → with_row r items ≡ Tree (tree_of (r ∷ []) []) ∷ items
first-row r [] h = refl
first-row r (Event e ∷ items) h = refl
first-row r (Note n ∷ items) h = refl
first-row r (Tree t ∷ items) h = absurd cc

gather-nodes : (n : ANode) (nodes : List ANode) (rest : List LogLine) (items : List Item) → gather rest ≡ items → BeginsPlain items → gather (node_lines (n ∷ nodes) ++ rest) ≡ Tree (tree_of [] (n ∷ nodes)) ∷ items
gather-nodes n [] rest items e h = ap (with_node n) e ∙ first-node n items h
gather-nodes n (m ∷ ms) rest items e h = ap (with_node n) (gather-nodes m ms rest items e h)

gather-rows : (r : TreeRow) (rows : List TreeRow) (nodes : List ANode) (rest : List LogLine) (items : List Item) → gather rest ≡ items → BeginsPlain items → gather (row_lines (r ∷ rows) ++ (node_lines nodes ++ rest)) ≡ Tree (tree_of (r ∷ rows) nodes) ∷ items
gather-rows r [] [] rest items e h = ap (with_row r) e ∙ first-row r items h
gather-rows r [] (n ∷ ns) rest items e h = ap (with_row r) (gather-nodes n ns rest items e h)
gather-rows r (q ∷ qs) nodes rest items e h = ap (with_row r) (gather-rows q qs nodes rest items e h)

gather-tree : (rows : List TreeRow) (nodes : List ANode) (rest : List LogLine) (items : List Item) → 0 < length rows + length nodes → gather rest ≡ items → BeginsPlain items → gather (row_lines rows ++ (node_lines nodes ++ rest)) ≡ Tree (tree_of rows nodes) ∷ items
gather-tree [] [] rest items some e h = absurd (omega (arith, some))
gather-tree [] (n ∷ ns) rest items some e h = gather-nodes n ns rest items e h
gather-tree (r ∷ rs) nodes rest items some e h = gather-rows r rs nodes rest items e h

behind_tree : (t : BoundTree) (items : List Item) → StandEach (Tree t) items → BeginsPlain items
behind_tree t [] h = tt
behind_tree t (Event e ∷ items) h = refl
behind_tree t (Note r ∷ items) h = refl
behind_tree t (Tree u ∷ items) h = never h.0

gather-each : (before : Item) (items : List Item) → StandEach before items → AllByRecursion IsItem items → gather (log_lines items) ≡ items
gather-each before [] h is = refl
gather-each before (Event e ∷ items) h is = ap (λ rest. Event e ∷ rest) (gather-each (Event e) items h.1 is.1)
gather-each before (Note r ∷ items) h is = ap (λ rest. Note r ∷ rest) (gather-each (Note r) items h.1 is.1)
gather-each before (Tree t ∷ items) h is =
    ap gather (append_assoc (row_lines t.rows) (node_lines t.nodes) (log_lines items)) ∙ gather-tree t.rows t.nodes (log_lines items) items is.0.0 (gather-each (Tree t) items h.1 is.1) (behind_tree t items h.1)

gather-log : (items : List Item) → AreInPlace items → AllByRecursion IsItem items → gather (log_lines items) ≡ items
gather-log [] h is = refl
gather-log (Event e ∷ items) h is = ap (λ rest. Event e ∷ rest) (gather-each (Event e) items h.1 is.1)
gather-log (Note r ∷ items) h is = never h.0
gather-log (Tree t ∷ items) h is = never h.0

pub same_items : (items others : List Item) → IsLog items → IsLog others → log_lines items ≡ log_lines others → items ≡ others
same_items items others h k same =
    sym (gather-log items h.0 (recursion_from_All IsItem items h.1)) ∙ ap gather same ∙ gather-log others k.0 (recursion_from_All IsItem others k.1)
