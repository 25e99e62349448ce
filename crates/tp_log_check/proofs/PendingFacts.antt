-- An event that is under way, with one line more.
use Rattle.std.proofs.Common.{◌≡◌, Bool, true, false, List, [], ◌∷◌, ◌++◌, refl, sym, subst, ◌∙◌}
use Rattle.std.specs.Prelude.{IsFalse, if◌then◌else◌}
use Rattle.std.proofs.lemmas.List.Elements.{All-append, All-cons, All-nil}
use Rattle.tp_bounds.specs.Lines.{IsNode, IsRow}
use Rattle.tp_bounds.specs.declared.tree.BoundTree.{BoundTree}
use Rattle.tp_bounds.specs.declared.tree.Node.{Node as ANode}
use Rattle.tp_bounds.specs.declared.tree.TreeRow.{TreeRow}
use Rattle.tp_log.specs.GatheredItems.{AreGathered, behind, closed, has_lines, lines_with, next_of}
use Rattle.tp_log.specs.Logs.{is_echo}
use Rattle.tp_log.specs.Grammar.{IsRecord}
use Rattle.tp_log.specs.LogLines.{AreInOrder, takes_node, takes_row}
use Rattle.tp_log.specs.declared.item.Item.{Item}
use Rattle.tp_log.specs.declared.item.Item.TheVariants.{Event, Note, Tree}
use Rattle.tp_log.specs.declared.log_line.LogLine.{LogLine}
use Rattle.tp_log.specs.declared.log_line.LogLine.TheVariants as line
use Rattle.tp_log.proofs.GatherFacts.{empty_tree, lines_with_row, not_in_order, with_node, with_record, with_row}
use Rattle.tp_log.proofs.Items.{tree_of}
use Rattle.tp_schedule.specs.declared.records.Record.{Record}
use Rattle.tp_script.specs.declared.event.Event.{Event as AnEvent}
use Rattle.tp_log_check.specs.Gathered.{ArePlain, IsPending, IsSame, items_of, lines_of}
use Rattle.tp_log_check.specs.declared.next_entry.NextEntry.{NextEntry}
use Rattle.tp_log_check.specs.declared.pending.Pending.{Pending}

-- what may stand behind a line
abbrev pub next_behind : LogLine → NextEntry
next_behind told = record { row = takes_row told; node = takes_node told }

pub pending_of : (p : Pending) (told : LogLine) → ArePlain p.items.items → AreGathered (items_of p) p.tree (behind told) → p.next ≡ next_behind told → IsPending p
pending_of p told plain g same = record {
  plain = plain;
  gathered = subst (AreGathered (items_of p) p.tree) g.is_next g;
  row = (λ i. (same i).row) ∙ (λ i. (g.is_next i).row);
  node = (λ i. (same i).node) ∙ (λ i. (g.is_next i).node);
}

-- ---- no event is among the items

abbrev IsPlain : Item → Type 0
IsPlain item = IsFalse (is_echo item)

-- nor behind a tree that is ended
pub plain_closed : (event event' : AnEvent) (items items' : List Item) (tree : BoundTree) → Event event' ∷ items' ≡ closed (Event event ∷ items) tree → ArePlain items → ArePlain items'
plain_closed event event' items items' tree same plain = go (has_lines tree) same where
  go : (b : Bool) → Event event' ∷ items' ≡ (if b then (Event event ∷ items) ++ Tree tree ∷ [] else (Event event ∷ items)) → ArePlain items'
  go true e =
      let later : items ++ Tree tree ∷ [] ≡ items' = cc in
      subst ArePlain later (All-append IsPlain items (Tree tree ∷ []) plain (All-cons IsPlain (Tree tree) [] refl (All-nil IsPlain)))
  go false e = let later : items ≡ items' = cc in subst ArePlain later plain

-- nor behind a record more
pub plain_record : (items items' : List Item) (told : Record) → items' ≡ items ++ Note told ∷ [] → ArePlain items → ArePlain items'
plain_record items items' told more plain = subst ArePlain (sym more) (All-append IsPlain items (Note told ∷ []) plain (All-cons IsPlain (Note told) [] refl (All-nil IsPlain)))

module _ (p : Pending) (is : IsPending p) where
  -- with a record
  pub record_gathered : (q : Pending) → IsSame p q → (rec : Record) → IsRecord rec → (mid items' : List Item) (tree' : BoundTree)
      → mid ≡ closed (items_of q) q.tree → items' ≡ mid ++ Note rec ∷ [] → tree' ≡ empty_tree → AreGathered items' tree' (behind (line.Note rec))
  record_gathered q same rec is_rec mid items' tree' mid-is more tree-is =
      let before : closed (items_of q) q.tree ≡ closed (items_of p) p.tree = λ i. closed (Event (same.event i) ∷ same.items i) (same.tree i) in
      with_record (items_of p) p.tree (next_of (lines_of p)) is.gathered (line.Note rec) is_rec refl rec refl items' mid tree' (behind (line.Note rec)) more (mid-is ∙ before) tree-is refl

  -- with a row
  pub row_gathered : (row : TreeRow) → IsRow row → p.next.row ≡ true → (rows' : List TreeRow) → rows' ≡ p.tree.rows ++ row ∷ [] → AreGathered (items_of p) (tree_of rows' p.tree.nodes) (behind (line.Room row))
  row_gathered row is_row may rows' more =
      with_row (items_of p) p.tree (next_of (lines_of p)) is.gathered (line.Room row) is_row (sym is.row ∙ may) row refl rows' (behind (line.Room row)) more refl

  pub row_lines : (row : TreeRow) → IsRow row → p.next.row ≡ true → (rows' : List TreeRow) → rows' ≡ p.tree.rows ++ row ∷ [] → lines_with (items_of p) (tree_of rows' p.tree.nodes) ≡ lines_of p ++ line.Room row ∷ []
  row_lines row is_row may rows' more =
      lines_with_row (items_of p) p.tree (next_of (lines_of p)) is.gathered (line.Room row) is_row (sym is.row ∙ may) row refl rows' more

  pub row_off : (row : TreeRow) → p.next.row ≡ false → AreInOrder (lines_of p ++ line.Room row ∷ []) → ⊥
  row_off row bare = not_in_order (items_of p) p.tree (next_of (lines_of p)) (line.Room row) is.gathered (sym is.row ∙ bare)

  -- with a node
  pub node_gathered : (node : ANode) → IsNode node → p.next.node ≡ true → (nodes' : List ANode) → nodes' ≡ p.tree.nodes ++ node ∷ [] → AreGathered (items_of p) (tree_of p.tree.rows nodes') (behind (line.Node node))
  node_gathered node is_node may nodes' more =
      with_node (items_of p) p.tree (next_of (lines_of p)) is.gathered (line.Node node) is_node (sym is.node ∙ may) node refl nodes' (behind (line.Node node)) more refl

  pub node_off : (node : ANode) → p.next.node ≡ false → AreInOrder (lines_of p ++ line.Node node ∷ []) → ⊥
  node_off node bare = not_in_order (items_of p) p.tree (next_of (lines_of p)) (line.Node node) is.gathered (sym is.node ∙ bare)
