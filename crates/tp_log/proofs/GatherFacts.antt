-- What is gathered, with one line more, and with its last tree closed.
use Rattle.std.proofs.Common.{◌≡◌, inl, inr, ℕ, ◌+◌, ◌<◌, true, false, IsTrue, List, [], ◌∷◌, ◌++◌, length, refl, sym, ap, subst, ◌∙◌, append_assoc, arith}
use Rattle.std.specs.List.{All}
use Rattle.std.proofs.lemmas.Bool.{cases_Bool}
use Rattle.std.proofs.lemmas.Bool.Decides.{nat_tests}
use Rattle.std.proofs.lemmas.List.{append-nil}
use Rattle.std.proofs.lemmas.List.Concat.{flat_map-append}
use Rattle.std.proofs.lemmas.List.Elements.{All-append, All-from_recursion, All-nil}
use Rattle.tp_bounds.specs.Lines.{IsNode, IsRow}
use Rattle.tp_bounds.specs.Trees.{HasALine, HasLines}
use Rattle.tp_bounds.specs.declared.tree.BoundTree.{BoundTree}
use Rattle.tp_bounds.specs.declared.tree.Node.{Node as ANode}
use Rattle.tp_bounds.specs.declared.tree.TreeRow.{TreeRow}
use Rattle.tp_schedule.specs.declared.records.Record.{Record}
use Rattle.tp_script.specs.declared.event.Event.{Event as AnEvent}
use Rattle.tp_log.specs.declared.gathered.NextLine.{NextLine}
use Rattle.tp_log.specs.declared.item.Item.{Item}
use Rattle.tp_log.specs.declared.item.Item.TheVariants.{Event, Note, Tree}
use Rattle.tp_log.specs.declared.log_line.LogLine.{LogLine}
use Rattle.tp_log.specs.declared.log_line.LogLine.TheVariants as line
use Rattle.tp_log.specs.GatheredItems.{AreGathered, EndsWith, allows, behind, closed, has_lines, is_tree, item_lines, lines_with, log_lines, next_of}
use Rattle.tp_log.specs.LogLines.{AreInOrder, IsLogLine, takes_tree}
use Rattle.tp_log.specs.Logs.{AreInPlace, IsItem, IsLog, StandEach, StandsBehind, is_open, log_text}
use Rattle.tp_log.proofs.Items.{node_lines, row_lines, text_of-log, tree_of}
use Rattle.tp_log.proofs.LogLines.{text_of}
use Rattle.tp_log.proofs.Order.{next_of-more, order_last, order_more, row_behind_nodes}

abbrev pub empty_tree : BoundTree
empty_tree = tree_of [] []

All-last : {X : Type 0} (P : X → Type 0) (xs : List X) (x : X) → All P xs → P x → All P (xs ++ x ∷ [])
All-last P xs x h p = All-append P xs (x ∷ []) h (All-from_recursion P (x ∷ []) (p, tt))

empty_has_lines : HasLines empty_tree
empty_has_lines = (All-nil IsRow, All-nil IsNode)

-- ---- items with one more
stand_plain : (before : Item) (items : List Item) (item : Item) → ((last : Item) → StandsBehind last item) → StandEach before items → StandEach before (items ++ item ∷ [])
stand_plain before [] item stands h = (stands before, tt)
stand_plain before (i ∷ is) item stands h = (h.0, stand_plain i is item stands h.1)

stand_open : (before : Item) (items : List Item) (last : Item) (tree : BoundTree) → IsTrue (is_open last) → StandEach before (items ++ last ∷ []) → StandEach before ((items ++ last ∷ []) ++ Tree tree ∷ [])
stand_open before [] last tree takes h = (h.0, (takes, tt))
stand_open before (i ∷ is) last tree takes h = (h.0, stand_open i is last tree takes h.1)

place_open : (items : List Item) (last : Item) (tree : BoundTree) → IsTrue (is_open last) → AreInPlace (items ++ last ∷ []) → AreInPlace ((items ++ last ∷ []) ++ Tree tree ∷ [])
place_open [] last tree takes h = (h.0, (takes, tt))
place_open (i ∷ is) last tree takes h = (h.0, stand_open i is last tree takes h.1)

-- ---- the last tree
has_a_line : (rows : List TreeRow) (nodes : List ANode) → has_lines (tree_of rows nodes) ≡ true → HasALine (tree_of rows nodes)
has_a_line [] [] h = absurd cc
has_a_line [] (n ∷ ns) h = omega arith
has_a_line (r ∷ rs) nodes h = omega arith

has_some : (rows : List TreeRow) (nodes : List ANode) → 0 < length rows + length nodes → has_lines (tree_of rows nodes) ≡ true
has_some rows nodes some = grind (arith, nat_tests)

no_lines : (rows : List TreeRow) (nodes : List ANode) → has_lines (tree_of rows nodes) ≡ false → tree_of rows nodes ≡ empty_tree
no_lines [] [] h = refl
no_lines [] (n ∷ ns) h = absurd (let has = has_some [] (n ∷ ns) (omega arith) in cc)
no_lines (r ∷ rs) nodes h = absurd (let has = has_some (r ∷ rs) nodes (omega arith) in cc)

closed-some : (items : List Item) (tree : BoundTree) → has_lines tree ≡ true → closed items tree ≡ items ++ Tree tree ∷ []
closed-some items tree has = rw has refl

closed-none : (items : List Item) (tree : BoundTree) → has_lines tree ≡ false → closed items tree ≡ items
closed-none items tree bare = rw bare refl

pub closed-lines : (items : List Item) (tree : BoundTree) → log_lines (closed items tree) ≡ lines_with items tree
closed-lines items tree = elim (cases_Bool (has_lines tree)) [
  | inl has ↦ ap log_lines (closed-some items tree has) ∙ flat_map-append item_lines items (Tree tree ∷ []) ∙ ap (λ ls. log_lines items ++ ls) (append-nil (item_lines (Tree tree)))
  | inr bare ↦ ap log_lines (closed-none items tree bare) ∙ sym (append-nil (log_lines items)) ∙ ap (lines_with items) (sym (no_lines tree.rows tree.nodes bare))
]

pub closed-text : (items : List Item) (tree : BoundTree) → log_text (closed items tree) ≡ text_of (lines_with items tree)
closed-text items tree = sym (text_of-log (closed items tree)) ∙ ap text_of (closed-lines items tree)

module _ (items : List Item) (tree : BoundTree) (next : NextLine) (g : AreGathered items tree next) where
  with_tree : has_lines tree ≡ true → IsLog (items ++ Tree tree ∷ [])
  with_tree has = elim g.ends [
    | inl (none, bare) ↦ absurd cc
    | inr e ↦ (let place = place_open e.before e.last tree (e.takes has) (subst AreInPlace e.are g.log.0) in
        (subst (λ is. AreInPlace (is ++ Tree tree ∷ [])) (sym e.are) place, All-last IsItem items (Tree tree) g.log.1 (has_a_line tree.rows tree.nodes has, g.has)))
  ]

  pub closed_log : IsLog (closed items tree)
  closed_log = elim (cases_Bool (has_lines tree)) [
    | inl has ↦ subst IsLog (sym (closed-some items tree has)) (with_tree has)
    | inr bare ↦ subst IsLog (sym (closed-none items tree bare)) g.log
  ]

  -- with one line more, of whichever items and tree
  grown : (items' : List Item) (tree' : BoundTree) (told : LogLine) → IsLogLine told → allows next told ≡ true → lines_with items' tree' ≡ lines_with items tree ++ told ∷ [] → IsLog items' → HasLines tree' → EndsWith items' tree' → AreGathered items' tree' (behind told)
  grown items' tree' told is may lines log has ends = record {
    log = log;
    has = has;
    ends = inr ends;
    known = subst (All IsLogLine) (sym lines) (All-last IsLogLine (lines_with items tree) told g.known is);
    order = subst AreInOrder (sym lines) (order_more (lines_with items tree) told g.order (ap (λ n. allows n told) (sym g.is_next) ∙ may));
    is_next = sym (ap next_of lines ∙ next_of-more (lines_with items tree) told);
  }

  -- ---- an event or a record
  plain-lines : (item : Item) → lines_with (closed items tree ++ item ∷ []) empty_tree ≡ lines_with items tree ++ item_lines item
  plain-lines item =
      append-nil (log_lines (closed items tree ++ item ∷ [])) ∙ flat_map-append item_lines (closed items tree) (item ∷ []) ∙ ap (λ ls. log_lines (closed items tree) ++ ls) (append-nil (item_lines item)) ∙ ap (λ ls. ls ++ item_lines item) (closed-lines items tree)

  ends_plain : (item : Item) → is_tree item ≡ false → EndsWith (closed items tree ++ item ∷ []) empty_tree
  ends_plain item plain = record { before = closed items tree; last = item; are = refl; plain = plain; takes = λ has. absurd cc }

  -- where something may stand that isn't an event, there is an item
  some_item : (told : LogLine) → allows (next_of []) told ≡ false → allows next told ≡ true → EndsWith items tree
  some_item told never may = elim g.ends [
    | inl (none, bare) ↦ (let lines = go tree.rows tree.nodes none bare in
        let e = ap (λ n. allows n told) (g.is_next ∙ ap next_of lines) in absurd cc)
    | inr e ↦ e
  ]
    where
      go : (rows : List TreeRow) (nodes : List ANode) → items ≡ [] → has_lines (tree_of rows nodes) ≡ false → lines_with items (tree_of rows nodes) ≡ []
      go rows nodes none bare = ap (λ is. lines_with is (tree_of rows nodes)) none ∙ ap (lines_with []) (no_lines rows nodes bare)

  place_plain : (xs : List Item) (item : Item) → ((last : Item) → StandsBehind last item) → AreInPlace xs → (xs ≡ [] → ⊥) → AreInPlace (xs ++ item ∷ [])
  place_plain [] item stands h some = absurd (some refl)
  place_plain (x ∷ xs) item stands h some = (h.0, stand_plain x xs item stands h.1)

  event_or_record : (item : Item) (told : LogLine) → item_lines item ≡ told ∷ [] → is_tree item ≡ false → IsItem item → IsLogLine told → allows next told ≡ true → AreInPlace (closed items tree ++ item ∷ []) → AreGathered (closed items tree ++ item ∷ []) empty_tree (behind told)
  event_or_record item told lines plain is line may place =
      grown (closed items tree ++ item ∷ []) empty_tree told line may (plain-lines item ∙ ap (λ ls. lines_with items tree ++ ls) lines) (place, All-last IsItem (closed items tree) item closed_log.1 is) empty_has_lines (ends_plain item plain)

  closed_some : EndsWith items tree → closed items tree ≡ [] → ⊥
  closed_some e none = elim (cases_Bool (has_lines tree)) [
    | inl has ↦ two items (Tree tree) (sym (closed-some items tree has) ∙ none)
    | inr bare ↦ two e.before e.last (sym e.are ∙ sym (closed-none items tree bare) ∙ none)
  ]
    where
      two : (xs : List Item) (x : Item) → xs ++ x ∷ [] ≡ [] → ⊥
      two [] x h = cc
      two (y ∷ ys) x h = cc

  -- ---- a line of a tree: behind an item that takes one, or behind the lines of its tree
  no_node_before : (row : TreeRow) → allows next (line.Room row) ≡ true → tree.nodes ≡ []
  no_node_before row may = go tree.nodes (ap (λ n. allows n (line.Room row)) (sym g.is_next) ∙ may)
    where
      go : (nodes : List ANode) → allows (next_of (lines_with items (tree_of tree.rows nodes))) (line.Room row) ≡ true → nodes ≡ []
      go [] h = refl
      go (n ∷ ns) h = absurd (let moved = ap (λ ls. allows (next_of ls) (line.Room row)) (append_assoc (log_lines items) (row_lines tree.rows) (node_lines (n ∷ ns))) in
          let none = row_behind_nodes (log_lines items ++ row_lines tree.rows) row ns n in let e = sym moved ∙ none in cc)

  -- a record that takes a row or a node takes a tree
  abbrev IsOfTree : LogLine → Type 0
  IsOfTree told = ((e : AnEvent) → allows (behind (line.Event e)) told ≡ false) × ((r : Record) → allows (behind (line.Note r)) told ≡ takes_tree r)

  last_takes : (told : LogLine) → IsOfTree told → (e : EndsWith items tree) → has_lines tree ≡ false → allows next told ≡ true → IsTrue (is_open e.last)
  last_takes told of_tree e bare may =
      let lines : lines_with items tree ≡ log_lines (e.before ++ e.last ∷ []) = ap (lines_with items) (no_lines tree.rows tree.nodes bare) ∙ append-nil (log_lines items) ∙ ap log_lines e.are in
      go e.before e.last e.plain (ap (λ n. allows n told) (sym (g.is_next ∙ ap next_of lines)) ∙ may)
    where
      one_more : (before : List Item) (last : Item) → log_lines (before ++ last ∷ []) ≡ log_lines before ++ item_lines last
      one_more before last = flat_map-append item_lines before (last ∷ []) ∙ ap (λ ls. log_lines before ++ ls) (append-nil (item_lines last))

      behind_it : (before : List Item) (last : Item) (l : LogLine) → item_lines last ≡ l ∷ [] → allows (next_of (log_lines (before ++ last ∷ []))) told ≡ allows (behind l) told
      behind_it before last l is = ap (λ ls. allows (next_of ls) told) (one_more before last ∙ ap (λ ls. log_lines before ++ ls) is) ∙ ap (λ n. allows n told) (next_of-more (log_lines before) l)

      go : (before : List Item) (last : Item) → is_tree last ≡ false → allows (next_of (log_lines (before ++ last ∷ []))) told ≡ true → IsTrue (is_open last)
      go before (Event e) plain may = absurd (let h = sym (behind_it before (Event e) (line.Event e) refl) ∙ may in let k = of_tree.0 e in cc)
      go before (Note r) plain may = sym (of_tree.1 r) ∙ sym (behind_it before (Note r) (line.Note r) refl) ∙ may
      go before (Tree t) plain may = absurd cc

  ends_open : (told : LogLine) → IsOfTree told → allows (next_of []) told ≡ false → allows next told ≡ true → (tree' : BoundTree) → EndsWith items tree'
  ends_open told of_tree never may tree' =
      let e = some_item told never may in
      let takes : IsTrue (is_open e.last) = elim (cases_Bool (has_lines tree)) [
        | inl has ↦ e.takes has
        | inr bare ↦ last_takes told of_tree e bare may
      ] in
      record { before = e.before; last = e.last; are = e.are; plain = e.plain; takes = λ has. takes }

-- ---- with one line more
module _ (items : List Item) (tree : BoundTree) (next : NextLine) (g : AreGathered items tree next) (told : LogLine) (is : IsLogLine told) (may : allows next told ≡ true) where
  pub with_event : (event : AnEvent) → told ≡ line.Event event → (items' mid : List Item) (tree' : BoundTree) (next' : NextLine) → items' ≡ mid ++ Event event ∷ [] → mid ≡ closed items tree → tree' ≡ empty_tree → next' ≡ behind told → AreGathered items' tree' next'
  with_event event same items' mid tree' next' more mid-is tree-is next-is =
      let place = place_event (closed items tree) (closed_log items tree next g).0 in
      let new = event_or_record items tree next g (Event event) told (ap (λ t. t ∷ []) (sym same)) refl (subst IsLogLine same is) is may place in
      rw (more, mid-is, tree-is, next-is) new
    where
      place_event : (xs : List Item) → AreInPlace xs → AreInPlace (xs ++ Event event ∷ [])
      place_event [] h = (refl, tt)
      place_event (x ∷ xs) h = (h.0, stand_plain x xs (Event event) (λ last. tt) h.1)

  pub with_record : (rec : Record) → told ≡ line.Note rec → (items' mid : List Item) (tree' : BoundTree) (next' : NextLine) → items' ≡ mid ++ Note rec ∷ [] → mid ≡ closed items tree → tree' ≡ empty_tree → next' ≡ behind told → AreGathered items' tree' next'
  with_record rec same items' mid tree' next' more mid-is tree-is next-is =
      let some = some_item items tree next g told (ap (allows (next_of [])) same) may in
      let place = place_plain items tree next g (closed items tree) (Note rec) (λ last. tt) (closed_log items tree next g).0 (closed_some items tree next g some) in
      let new = event_or_record items tree next g (Note rec) told (ap (λ t. t ∷ []) (sym same)) refl (subst IsLogLine same is) is may place in
      rw (more, mid-is, tree-is, next-is) new

  row-lines : (rows : List TreeRow) (row : TreeRow) (nodes : List ANode) → nodes ≡ [] → lines_with items (tree_of (rows ++ row ∷ []) nodes) ≡ lines_with items (tree_of rows nodes) ++ line.Room row ∷ []
  row-lines rows row nodes none = rw none (go rows)
    where
      grow : (rows : List TreeRow) → row_lines (rows ++ row ∷ []) ++ [] ≡ (row_lines rows ++ []) ++ line.Room row ∷ []
      grow [] = refl
      grow (r ∷ rs) = ap (λ ls. line.Room r ∷ ls) (grow rs)

      go : (rows : List TreeRow) → log_lines items ++ (row_lines (rows ++ row ∷ []) ++ []) ≡ (log_lines items ++ (row_lines rows ++ [])) ++ line.Room row ∷ []
      go rows = ap (λ ls. log_lines items ++ ls) (grow rows) ∙ sym (append_assoc (log_lines items) (row_lines rows ++ []) (line.Room row ∷ []))

  node-lines : (rows : List TreeRow) (nodes : List ANode) (node : ANode) → lines_with items (tree_of rows (nodes ++ node ∷ [])) ≡ lines_with items (tree_of rows nodes) ++ line.Node node ∷ []
  node-lines rows nodes node =
      ap (λ ls. log_lines items ++ (row_lines rows ++ ls)) (grow nodes) ∙ move (log_lines items) (row_lines rows) (node_lines nodes) (line.Node node ∷ [])
    where
      grow : (nodes : List ANode) → node_lines (nodes ++ node ∷ []) ≡ node_lines nodes ++ line.Node node ∷ []
      grow [] = refl
      grow (n ∷ ns) = ap (λ ls. line.Node n ∷ ls) (grow ns)

      move : (a b c d : List LogLine) → a ++ (b ++ (c ++ d)) ≡ (a ++ (b ++ c)) ++ d
      move a b c d = simp append_assoc

  pub lines_with_row : (row : TreeRow) → told ≡ line.Room row → (rows' : List TreeRow) → rows' ≡ tree.rows ++ row ∷ [] → lines_with items (tree_of rows' tree.nodes) ≡ lines_with items tree ++ told ∷ []
  lines_with_row row same rows' more =
      let none = no_node_before items tree next g row (ap (allows next) (sym same) ∙ may) in
      ap (λ rows. lines_with items (tree_of rows tree.nodes)) more ∙ row-lines tree.rows row tree.nodes none ∙ ap (λ t. lines_with items tree ++ t ∷ []) (sym same)

  pub with_row : (row : TreeRow) → told ≡ line.Room row → (rows' : List TreeRow) (next' : NextLine) → rows' ≡ tree.rows ++ row ∷ [] → next' ≡ behind told → AreGathered items (tree_of rows' tree.nodes) next'
  with_row row same rows' next' more next-is =
      let of_tree : IsOfTree items tree next g told = subst (IsOfTree items tree next g) (sym same) ((λ e. refl), (λ r. refl)) in
      let ends = ends_open items tree next g told of_tree (ap (allows (next_of [])) same) may (tree_of rows' tree.nodes) in
      let known : All IsRow rows' = subst (All IsRow) (sym more) (All-last IsRow tree.rows row g.has.0 (subst IsLogLine same is)) in
      rw next-is (grown items tree next g items (tree_of rows' tree.nodes) told is may (lines_with_row row same rows' more) g.log (known, g.has.1) ends)

  pub with_node : (node : ANode) → told ≡ line.Node node → (nodes' : List ANode) (next' : NextLine) → nodes' ≡ tree.nodes ++ node ∷ [] → next' ≡ behind told → AreGathered items (tree_of tree.rows nodes') next'
  with_node node same nodes' next' more next-is =
      let of_tree : IsOfTree items tree next g told = subst (IsOfTree items tree next g) (sym same) ((λ e. refl), (λ r. refl)) in
      let ends = ends_open items tree next g told of_tree (ap (allows (next_of [])) same) may (tree_of tree.rows nodes') in
      let known : All IsNode nodes' = subst (All IsNode) (sym more) (All-last IsNode tree.nodes node g.has.1 (subst IsLogLine same is)) in
      let lines = ap (λ nodes. lines_with items (tree_of tree.rows nodes)) more ∙ node-lines tree.rows tree.nodes node ∙ ap (λ t. lines_with items tree ++ t ∷ []) (sym same) in
      rw next-is (grown items tree next g items (tree_of tree.rows nodes') told is may lines g.log (g.has.0, known) ends)

-- where a line isn't allowed, it isn't in order
pub not_in_order : (items : List Item) (tree : BoundTree) (next : NextLine) (told : LogLine) → AreGathered items tree next → allows next told ≡ false → AreInOrder (lines_with items tree ++ told ∷ []) → ⊥
not_in_order items tree next told g bare order = (let may = ap (λ n. allows n told) g.is_next ∙ order_last (lines_with items tree) told order in cc)
