-- Trees: their lines are those of their text, and no text is that of two.
use Rattle.std.proofs.Common.{◌≡◌, ◌≢◌, inl, inr, ℕ, zero, suc, ◌+◌, ◌-◌, ◌<◌, ◌≤◌, true, List, [], ◌∷◌, ◌++◌, length, map, take, Err, refl, sym, ap, subst, ◌∙◌, append_assoc, arith}
use Rattle.std.specs.List.{All, AllByRecursion, flat_map}
use Rattle.std.proofs.lemmas.List.{append-nil, append_cancel_right, length-append, length-map, take-map, take_at}
use Rattle.std.proofs.lemmas.List.Concat.{flat_map-append}
use Rattle.std.proofs.lemmas.List.Elements.{All-append, All-from_recursion, All-take, recursion_from_All}
use Rattle.std.proofs.lemmas.Option.{same_Some}
use Rattle.tp_bounds.specs.declared.fault.TreeFault.{TreeFault}
use Rattle.tp_bounds.specs.declared.fault.TreeFault.TheVariants.{Bad, Memory as OutOfMemory}
use Rattle.tp_bounds.specs.declared.line.BoundLine.{BoundLine}
use Rattle.tp_bounds.specs.declared.line.BoundLine.TheVariants.{Room, Node as ANode}
use Rattle.tp_bounds.specs.declared.tree.BoundTree.{BoundTree}
use Rattle.tp_bounds.specs.declared.tree.Close.{Close}
use Rattle.tp_bounds.specs.declared.tree.Close.TheVariants.{Split, Dead, Chain, Loop}
use Rattle.tp_bounds.specs.declared.tree.Node.{Node}
use Rattle.tp_bounds.specs.declared.tree.TreeRow.{TreeRow}
use Rattle.tp_words.specs.Parts.{lacks, parts_at}
use Rattle.tp_bounds.specs.Lines.{IsBound, IsClose, IsNode, IsRow, bound_of, bound_text, bound_words, node_text, node_words, row_text, row_words}
use Rattle.tp_words.specs.Texts.{lines_of}
use Rattle.tp_words.specs.Texts.{spaced}
use Rattle.tp_bounds.specs.Trees.{HasALine, HasHops, HasLines, IfBad, IsFirstOff, IsPrintable, IsTree, ReadsNth, StandsBehind, tree_lines, tree_text}
use Rattle.tp_bounds.proofs.LineFacts.{bound-front, bound_visible, text_again}
use Rattle.tp_words.proofs.Texts.{lines_at, spaced_lacks}

abbrev pub tree_of : List TreeRow → List Node → BoundTree
tree_of rows nodes = record { rows = rows; nodes = nodes }

-- ---- no line is that of two
pub one_bound : (b other : BoundLine) → IsBound b → IsBound other → bound_text b ≡ bound_text other → b ≡ other
one_bound b other h k same =
    let front : spaced (bound_words b) ≡ spaced (bound_words other) = append_cancel_right (spaced (bound_words b)) (spaced (bound_words other)) (10 ∷ []) (sym (bound-front b) ∙ same ∙ bound-front other) in
    same_Some b other (sym (text_again b h) ∙ ap (λ t. bound_of (parts_at 32 t)) front ∙ text_again other k)

no_row : {P : Type 0} (row : TreeRow) (node : Node) → IsRow row → IsNode node → row_text row ≡ node_text node → P
no_row row node h k same = (let e = one_bound (Room row) (ANode node) h k same in absurd (clash row node e))
  where
    clash : (row : TreeRow) (node : Node) → Room row ≡ ANode node → ⊥
    clash row node e = cc

one_row : (row other : TreeRow) → IsRow row → IsRow other → row_text row ≡ row_text other → row ≡ other
one_row row other h k same = (let e = one_bound (Room row) (Room other) h k same in cc)

one_node : (node other : Node) → IsNode node → IsNode other → node_text node ≡ node_text other → node ≡ other
one_node node other h k same = (let e = one_bound (ANode node) (ANode other) h k same in cc)

-- no row stands behind a node
pub row_behind : (nodes : ℕ) (line : List ℕ) (row : TreeRow) → 0 < nodes → IsRow row → line ≡ row_text row → (told : BoundLine) → StandsBehind nodes told → line ≢ bound_text told
row_behind nodes line row some h is (Room other) stands same = (let none = stands.1 in omega (arith, some, none))
row_behind nodes line row some h is (ANode node) stands same = no_row row node h stands (sym is ∙ same)

-- ---- the lines of a text of lines
abbrev IsLine : List ℕ → Type 0
IsLine line = (front : List ℕ) × (line ≡ front ++ 10 ∷ []) × (lacks 10 front ≡ true)

abbrev together : List (List ℕ) → List ℕ
together lines = flat_map (λ line. line) lines

regroup : (a x y : List ℕ) → ((a ++ 10 ∷ []) ++ x) ++ y ≡ a ++ 10 ∷ (x ++ y)
regroup a x y = simp append_assoc

lines_together : (lines : List (List ℕ)) (rest : List ℕ) → AllByRecursion IsLine lines → lines_of (together lines ++ rest) ≡ lines ++ lines_of rest
lines_together [] rest h = refl
lines_together (line ∷ lines) rest ((front, is, lack), more) =
    let whole : together (line ∷ lines) ++ rest ≡ front ++ 10 ∷ (together lines ++ rest) = ap (λ t. (t ++ together lines) ++ rest) is ∙ regroup front (together lines) rest in
    ap lines_of whole ∙ lines_at front (together lines ++ rest) lack ∙ ap (λ t. t ∷ lines_of (together lines ++ rest)) (sym is) ∙ ap (λ ls. line ∷ ls) (lines_together lines rest more)

each_line : {X : Type 0} (text : X → List ℕ) (P : X → Type 0) → ((x : X) → P x → IsLine (text x)) → (xs : List X) → AllByRecursion P xs → AllByRecursion IsLine (map text xs)
each_line text P is [] h = tt
each_line text P is (x ∷ xs) h = (is x h.0, each_line text P is xs h.1)

both_lines : (xs ys : List (List ℕ)) → AllByRecursion IsLine xs → AllByRecursion IsLine ys → AllByRecursion IsLine (xs ++ ys)
both_lines [] ys h k = k
both_lines (x ∷ xs) ys h k = (h.0, both_lines xs ys h.1 k)

row_line : (row : TreeRow) → IsRow row → IsLine (row_text row)
row_line row h = (spaced (row_words row), refl, spaced_lacks (row_words row) (bound_visible (Room row) h))

node_line : (node : Node) → IsNode node → IsLine (node_text node)
node_line node h = (spaced (node_words node), refl, spaced_lacks (node_words node) (bound_visible (ANode node) h))

tree_are_lines : (tree : BoundTree) → HasLines tree → AllByRecursion IsLine (tree_lines tree)
tree_are_lines tree h =
    both_lines (map row_text tree.rows) (map node_text tree.nodes)
    (each_line row_text IsRow row_line tree.rows (recursion_from_All IsRow tree.rows h.0))
    (each_line node_text IsNode node_line tree.nodes (recursion_from_All IsNode tree.nodes h.1))

by_lines : {X : Type 0} (text : X → List ℕ) (xs : List X) → flat_map text xs ≡ together (map text xs)
by_lines text [] = refl
by_lines text (x ∷ xs) = ap (λ t. text x ++ t) (by_lines text xs)

same_sides : (a b c d : List ℕ) → a ≡ c → b ≡ d → a ++ b ≡ c ++ d
same_sides a b c d h k = ap (λ x. x ++ b) h ∙ ap (λ y. c ++ y) k

tree-together : (tree : BoundTree) → tree_text tree ≡ together (tree_lines tree)
tree-together tree =
    same_sides (flat_map row_text tree.rows) (flat_map node_text tree.nodes) (together (map row_text tree.rows)) (together (map node_text tree.nodes)) (by_lines row_text tree.rows) (by_lines node_text tree.nodes)
    ∙ sym (flat_map-append (λ line. line) (map row_text tree.rows) (map node_text tree.nodes))

-- the lines of a tree, and of what stands behind it
pub lines_tree : (tree : BoundTree) (rest : List ℕ) → HasLines tree → lines_of (tree_text tree ++ rest) ≡ tree_lines tree ++ lines_of rest
lines_tree tree rest h = ap (λ t. lines_of (t ++ rest)) (tree-together tree) ∙ lines_together (tree_lines tree) rest (tree_are_lines tree h)

lines_whole : (tree : BoundTree) → HasLines tree → lines_of (tree_text tree) ≡ tree_lines tree
lines_whole tree h = ap lines_of (sym (append-nil (tree_text tree))) ∙ lines_tree tree [] h ∙ append-nil (tree_lines tree)

-- ---- no text is that of two trees
both_parts : (a b : List ℕ) (xs ys : List (List ℕ)) → a ∷ xs ≡ b ∷ ys → (a ≡ b) × (xs ≡ ys)
both_parts a b xs ys e = (cc, cc)

same_nodes : (nodes others : List Node) → AllByRecursion IsNode nodes → AllByRecursion IsNode others → map node_text nodes ≡ map node_text others → nodes ≡ others
same_nodes [] [] h k same = refl
same_nodes [] (o ∷ os) h k same = absurd cc
same_nodes (n ∷ ns) [] h k same = absurd cc
same_nodes (n ∷ ns) (o ∷ os) h k same =
    let parts = both_parts (node_text n) (node_text o) (map node_text ns) (map node_text os) same in
    ap (λ x. x ∷ ns) (one_node n o h.0 k.0 parts.0) ∙ ap (λ xs. o ∷ xs) (same_nodes ns os h.1 k.1 parts.1)

same_trees : (rows others : List TreeRow) (nodes more : List Node) → AllByRecursion IsRow rows → AllByRecursion IsRow others → AllByRecursion IsNode nodes → AllByRecursion IsNode more
    → map row_text rows ++ map node_text nodes ≡ map row_text others ++ map node_text more → (rows ≡ others) × (nodes ≡ more)
same_trees [] [] nodes more h k i j same = (refl, same_nodes nodes more i j same)
same_trees [] (o ∷ os) [] more h k i j same = absurd cc
same_trees [] (o ∷ os) (n ∷ ns) more h k i j same = no_row o n k.0 i.0 (sym (both_parts (node_text n) (row_text o) (map node_text ns) (map row_text os ++ map node_text more) same).0)
same_trees (r ∷ rs) [] nodes [] h k i j same = absurd cc
same_trees (r ∷ rs) [] nodes (m ∷ ms) h k i j same = no_row r m h.0 j.0 (both_parts (row_text r) (node_text m) (map row_text rs ++ map node_text nodes) (map node_text ms) same).0
same_trees (r ∷ rs) (o ∷ os) nodes more h k i j same =
    let parts = both_parts (row_text r) (row_text o) (map row_text rs ++ map node_text nodes) (map row_text os ++ map node_text more) same in
    let rest = same_trees rs os nodes more h.1 k.1 i j parts.1 in
    (ap (λ x. x ∷ rs) (one_row r o h.0 k.0 parts.0) ∙ ap (λ xs. o ∷ xs) rest.0, rest.1)

same_lines : (tree other : BoundTree) → HasLines tree → HasLines other → tree_lines tree ≡ tree_lines other → tree ≡ other
same_lines tree other h k same =
    let both = same_trees tree.rows other.rows tree.nodes other.nodes (recursion_from_All IsRow tree.rows h.0) (recursion_from_All IsRow other.rows k.0) (recursion_from_All IsNode tree.nodes h.1) (recursion_from_All IsNode other.nodes k.1) same in
    ap (λ rows. tree_of rows tree.nodes) both.0 ∙ ap (λ nodes. tree_of other.rows nodes) both.1

pub one_tree : (tree other : BoundTree) → HasLines tree → HasLines other → tree_text tree ≡ tree_text other → tree ≡ other
one_tree tree other h k same = same_lines tree other h k (sym (lines_whole tree h) ∙ ap lines_of same ∙ lines_whole other k)

-- ---- no line of a printed tree is off the grammar
take-both : {X : Type 0} (n : ℕ) (xs ys : List X) → take n (xs ++ ys) ≡ take n xs ++ take (n - length xs) ys
take-both zero [] ys = refl
take-both (suc n) [] ys =
    let e : suc n ≡ suc n - 0 = omega arith in
    ap (λ k. take k ys) e
take-both zero (x ∷ xs) ys =
    let e : 0 ≡ 0 - length (x ∷ xs) = omega arith in
    ap (λ k. take k ys) e
take-both (suc n) (x ∷ xs) ys =
    let e : suc n - length (x ∷ xs) ≡ n - length xs = omega arith in
    ap (λ zs. x ∷ zs) (take-both n xs ys) ∙ ap (λ k. x ∷ (take n xs ++ take k ys)) (sym e)

abbrev begun : ℕ → BoundTree → BoundTree
begun n tree = tree_of (take n tree.rows) (take (n - length tree.rows) tree.nodes)

begun-lines : (n : ℕ) (tree : BoundTree) → take n (tree_lines tree) ≡ tree_lines (begun n tree)
begun-lines n tree =
    take-both n (map row_text tree.rows) (map node_text tree.nodes)
    ∙ ap (λ k. take n (map row_text tree.rows) ++ take (n - k) (map node_text tree.nodes)) (length-map tree.rows row_text)
    ∙ ap (λ xs. xs ++ take (n - length tree.rows) (map node_text tree.nodes)) (take-map row_text n tree.rows)
    ∙ ap (λ ys. map row_text (take n tree.rows) ++ ys) (take-map node_text (n - length tree.rows) tree.nodes)

length-lines : (tree : BoundTree) → length (tree_lines tree) ≡ length tree.rows + length tree.nodes
length-lines tree = omega (arith, length-append (map row_text tree.rows) (map node_text tree.nodes), length-map tree.rows row_text, length-map tree.nodes node_text)

some_taken : {X : Type 0} (n : ℕ) (xs : List X) → 1 ≤ n → 0 < length xs → 0 < length (take n xs)
some_taken zero xs h k = absurd (omega (arith, h))
some_taken (suc n) [] h k = absurd (omega (arith, k))
some_taken (suc n) (x ∷ xs) h k = omega arith

tree_take : (n : ℕ) (tree : BoundTree) → 1 ≤ n → IsTree tree → IsTree (begun n tree)
tree_take n tree one h =
    let all = length-lines tree in
    let some = some_taken n (tree_lines tree) one (omega (arith, all, h.0)) in
    let taken = ap length (begun-lines n tree) in
    let left = length-lines (begun n tree) in
    (omega (arith, some, taken, left), (All-take IsRow n tree.rows h.1.0, All-take IsNode (n - length tree.rows) tree.nodes h.1.1))

none_off : (n : ℕ) (tree : BoundTree) → IsTree tree → IsFirstOff n (tree_text tree) → ⊥
none_off n tree h off = off.off (begun n tree, tree_take n tree off.counted h, ap (take n) (lines_whole tree h.1) ∙ begun-lines n tree)

pub fault_printed : (text : List ℕ) (fault : TreeFault) → IfBad fault (λ n. IsFirstOff n text) → (tree : BoundTree) → IsTree tree → text ≡ tree_text tree → fault ≡ OutOfMemory
fault_printed text OutOfMemory h tree is same = refl
fault_printed text (Bad n) h tree is same = absurd (none_off n tree is (subst (λ t. IsFirstOff n t) same h))

-- ---- an empty text
no_line : (tree : BoundTree) → HasALine tree → [] ≡ tree_lines tree → ⊥
no_line tree h same = (let all = length-lines tree in let none = ap length same in omega (arith, all, none, h))

pub empty_off : (text : List ℕ) → text ≡ [] → IsFirstOff 1 text
empty_off text none = rw none (record {
  counted = omega arith;
  there = inr (refl, refl);
  before = (tree_of [] [], (All-from_recursion IsRow [] tt, All-from_recursion IsNode [] tt), refl);
  off = λ (tree, is, same). no_line tree is.0 same;
})

-- ---- a tree and one line more: it is a tree again, or this line is the first off the grammar
node_text_more : (rows : List TreeRow) (nodes : List Node) (node : Node) (text rest line more : List ℕ) → text ≡ tree_text (tree_of rows nodes) ++ rest → rest ≡ line ++ more → line ≡ node_text node → text ≡ tree_text (tree_of rows (nodes ++ node ∷ [])) ++ more
node_text_more rows nodes node text rest line more whole parted is =
    let r = flat_map row_text rows in
    let n = flat_map node_text nodes in
    let grown : flat_map node_text (nodes ++ node ∷ []) ≡ n ++ node_text node = flat_map-append node_text nodes (node ∷ []) ∙ ap (λ t. n ++ t) (append-nil (node_text node)) in
    whole ∙ ap (λ t. (r ++ n) ++ t) (parted ∙ ap (λ t. t ++ more) is) ∙ move r n (node_text node) more ∙ ap (λ t. (r ++ t) ++ more) (sym grown)
  where
    move : (r n x y : List ℕ) → (r ++ n) ++ (x ++ y) ≡ (r ++ (n ++ x)) ++ y
    move r n x y = simp append_assoc

row_text_more : (rows : List TreeRow) (row : TreeRow) (text rest line more : List ℕ) → text ≡ tree_text (tree_of rows []) ++ rest → rest ≡ line ++ more → line ≡ row_text row → text ≡ tree_text (tree_of (rows ++ row ∷ []) []) ++ more
row_text_more rows row text rest line more whole parted is =
    let r = flat_map row_text rows in
    let grown : flat_map row_text (rows ++ row ∷ []) ≡ r ++ row_text row = flat_map-append row_text rows (row ∷ []) ∙ ap (λ t. r ++ t) (append-nil (row_text row)) in
    whole ∙ ap (λ t. (r ++ []) ++ t) (parted ∙ ap (λ t. t ++ more) is) ∙ move r (row_text row) more ∙ ap (λ t. (t ++ []) ++ more) (sym grown)
  where
    move : (r x y : List ℕ) → (r ++ []) ++ (x ++ y) ≡ ((r ++ x) ++ []) ++ y
    move r x y = simp (append_assoc, append-nil)

pub more_node : (rows : List TreeRow) (nodes : List Node) (node : Node) (text rest line more : List ℕ) → text ≡ tree_text (tree_of rows nodes) ++ rest → rest ≡ line ++ more → line ≡ node_text node → text ≡ tree_text (tree_of rows (nodes ++ node ∷ [])) ++ more
more_node = node_text_more

pub more_row : (rows : List TreeRow) (nodes : List Node) (row : TreeRow) (text rest line more : List ℕ) → length nodes ≡ 0 → text ≡ tree_text (tree_of rows nodes) ++ rest → rest ≡ line ++ more → line ≡ row_text row → text ≡ tree_text (tree_of (rows ++ row ∷ []) nodes) ++ more
more_row rows [] row text rest line more none whole parted is = row_text_more rows row text rest line more whole parted is
more_row rows (n ∷ ns) row text rest line more none whole parted is = absurd (omega (arith, none))

pub All-last : {X : Type 0} (P : X → Type 0) (xs : List X) (x : X) → All P xs → P x → All P (xs ++ x ∷ [])
All-last P xs x h p = All-append P xs (x ∷ []) h (All-from_recursion P (x ∷ []) (p, tt))

-- the last line of a tree stands behind the nodes before it
abbrev Last : ℕ → List ℕ → Type 0
Last nodes line = (told : BoundLine) × StandsBehind nodes told × (line ≡ bound_text told)

last_node : (many : ℕ) (nodes others : List Node) (line : List ℕ) → AllByRecursion IsNode others → map node_text nodes ++ line ∷ [] ≡ map node_text others → Last many line
last_node many nodes [] line h same = absurd (let e = ap length same in omega (arith, e, length-append (map node_text nodes) (line ∷ [])))
last_node many [] (o ∷ os) line h same = (ANode o, h.0, (both_parts line (node_text o) [] (map node_text os) same).0)
last_node many (n ∷ ns) (o ∷ os) line h same = last_node many ns os line h.1 (both_parts (node_text n) (node_text o) (map node_text ns ++ line ∷ []) (map node_text os) same).1

last_line : (rows others : List TreeRow) (nodes more : List Node) (line : List ℕ) → AllByRecursion IsRow rows → AllByRecursion IsRow others → AllByRecursion IsNode nodes → AllByRecursion IsNode more
    → (map row_text rows ++ map node_text nodes) ++ line ∷ [] ≡ map row_text others ++ map node_text more → Last (length nodes) line
last_line [] [] nodes more line h k i j same = last_node (length nodes) nodes more line j same
last_line [] (o ∷ os) [] more line h k i j same = (Room o, (k.0, refl), (both_parts line (row_text o) [] (map row_text os ++ map node_text more) same).0)
last_line [] (o ∷ os) (n ∷ ns) more line h k i j same = no_row o n k.0 i.0 (sym (both_parts (node_text n) (row_text o) (map node_text ns ++ line ∷ []) (map row_text os ++ map node_text more) same).0)
last_line (r ∷ rs) [] nodes [] line h k i j same = absurd cc
last_line (r ∷ rs) [] nodes (m ∷ ms) line h k i j same = no_row r m h.0 j.0 (both_parts (row_text r) (node_text m) ((map row_text rs ++ map node_text nodes) ++ line ∷ []) (map node_text ms) same).0
last_line (r ∷ rs) (o ∷ os) nodes more line h k i j same =
    last_line rs os nodes more line h.1 k.1 i j (both_parts (row_text r) (row_text o) ((map row_text rs ++ map node_text nodes) ++ line ∷ []) (map row_text os ++ map node_text more) same).1

first_off : (tree : BoundTree) (text rest line more : List ℕ) (n : ℕ) → n ≡ length tree.rows + length tree.nodes + 1 → HasLines tree → text ≡ tree_text tree ++ rest → lines_of rest ≡ line ∷ lines_of more → ((told : BoundLine) → StandsBehind (length tree.nodes) told → line ≢ bound_text told) → IsFirstOff n text
first_off tree text rest line more n counted has whole split off =
    let told = tree_lines tree in
    let lines : lines_of text ≡ told ++ line ∷ lines_of more = ap lines_of whole ∙ lines_tree tree rest has ∙ ap (λ ls. told ++ ls) split in
    let many = length-lines tree in
    let one_less : n - 1 ≡ length told = omega (arith, many, counted) in
    let before : take (n - 1) (lines_of text) ≡ told = ap (λ k. take k (lines_of text)) one_less ∙ ap (take (length told)) lines ∙ take_at told (line ∷ lines_of more) (length told) refl in
    let regrouped : told ++ line ∷ lines_of more ≡ (told ++ line ∷ []) ++ lines_of more = sym (append_assoc told (line ∷ []) (lines_of more)) in
    let with_line : n ≡ length (told ++ line ∷ []) = omega (arith, many, counted, length-append told (line ∷ [])) in
    let upto : take n (lines_of text) ≡ told ++ line ∷ [] = ap (λ k. take k (lines_of text)) with_line ∙ ap (take (length (told ++ line ∷ []))) (lines ∙ regrouped) ∙ take_at (told ++ line ∷ []) (lines_of more) (length (told ++ line ∷ [])) refl in
    record {
      counted = omega (arith, counted);
      there = inl (let all = ap length lines in omega (arith, all, many, counted, length-append told (line ∷ lines_of more)));
      before = (tree, has, before);
      off = λ (other, is, same). (let k = last_line tree.rows other.rows tree.nodes other.nodes line (recursion_from_All IsRow tree.rows has.0) (recursion_from_All IsRow other.rows is.1.0) (recursion_from_All IsNode tree.nodes has.1) (recursion_from_All IsNode other.nodes is.1.1) (sym upto ∙ same) in off k.0 k.1 k.2);
    }

pub fault_bad : (tree : BoundTree) (text rest line more : List ℕ) (n nodes : ℕ) (fault : TreeFault) → n ≡ length tree.rows + length tree.nodes + 1 → nodes ≡ length tree.nodes → HasLines tree → text ≡ tree_text tree ++ rest → lines_of rest ≡ line ∷ lines_of more → ReadsNth nodes n line (Err fault) → IfBad fault (λ m. IsFirstOff m text)
fault_bad tree text rest line more n nodes OutOfMemory counted many has whole split h = tt
fault_bad tree text rest line more n nodes (Bad m) counted many has whole split h =
    let off = first_off tree text rest line more n counted has whole split (subst (λ k. (told : BoundLine) → StandsBehind k told → line ≢ bound_text told) many h.1) in
    rw (h.0) off

-- what is left when the text is read
pub has_a_line : (tree : BoundTree) (text : List ℕ) → 0 < length text → text ≡ tree_text tree → HasALine tree
has_a_line tree text some is = go tree.rows tree.nodes (let e = ap length is in omega (arith, e, some))
  where
    go : (rows : List TreeRow) (nodes : List Node) → 0 < length (flat_map row_text rows ++ flat_map node_text nodes) → 0 < length rows + length nodes
    go [] [] h = absurd (omega (arith, h))
    go [] (n ∷ ns) h = omega arith
    go (r ∷ rs) nodes h = omega arith

-- what was read can be printed
pub tree_printable : (tree : BoundTree) → IsTree tree → IsPrintable tree
tree_printable tree h = (h.0, λ k d lt. (let node = h.1.1 k d lt in has_hops _ node.close))
  where
    has_hops : (close : Close) → IsClose close → HasHops close
    has_hops Split h = tt
    has_hops Dead h = tt
    has_hops (Chain first hops) h = tt
    has_hops (Loop first hops) h = h.1.1
