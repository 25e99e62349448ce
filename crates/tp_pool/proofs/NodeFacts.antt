-- What one node more makes of the entries.
use Rattle.std.proofs.Common.{◌≡◌, ℕ, suc, ◌+◌, ◌-◌, ◌<◌, ◌≤◌, List, [], ◌∷◌, ◌++◌, length, slice_get, Option, Some, None, refl, sym, ap, subst, ◌∙◌, arith, inl, inr}
use Rattle.std.proofs.lemmas.List.{length-append, get_or_append_left}
use Rattle.std.proofs.lemmas.Option.{slice_get_within}
use Rattle.std.proofs.Math.Seq.{get_or-append_seam}
use Rattle.tp_base.proofs.SliceFacts.{slice_get_end}
use Rattle.tp_pool.specs.declared.choice.Choice.{Choice}
use Rattle.tp_pool.specs.declared.choice.ListNode.{ListNode}
use Rattle.tp_pool.specs.Entries.{Entry, entry_at, choices_before, choice_made, IsParentOf}
use Rattle.tp_pool.specs.Nodes.{entry_for, entries_after, entries_of, IsNode, AreNodes}

entries-more : (built : List Entry) (nodes : List ListNode) (node : ListNode) → entries_after built (nodes ++ node ∷ []) ≡ entries_after built nodes ++ entry_for (entries_after built nodes) node ∷ []
entries-more built [] node = refl
entries-more built (n ∷ nodes) node = entries-more (built ++ entry_for built n ∷ []) nodes node

length-after : (built : List Entry) (nodes : List ListNode) → length (entries_after built nodes) ≡ length built + length nodes
length-after built [] = omega arith
length-after built (n ∷ nodes) = omega (arith, length-after (built ++ entry_for built n ∷ []) nodes, length-append built (entry_for built n ∷ []))

-- as many entries as nodes
pub length_entries : (nodes : List ListNode) → length (entries_of nodes) ≡ length nodes
length_entries nodes = omega (arith, length-after [] nodes)

pub entries-push : (nodes : List ListNode) (node : ListNode) → entries_of (nodes ++ node ∷ []) ≡ entries_of nodes ++ entry_for (entries_of nodes) node ∷ []
entries-push nodes node = entries-more [] nodes node

entry-kept : (entries : List Entry) (e : Entry) (k : ℕ) → k < length entries → entry_at (entries ++ e ∷ []) k ≡ entry_at entries k
entry-kept entries e k below = get_or_append_left entries (e ∷ []) (record { choices = []; bound = 0 }) k below

before-kept : (entries : List Entry) (e : Entry) (at : ℕ) (parent : Option ℕ) → IsParentOf at parent → at ≤ length entries → choices_before (entries ++ e ∷ []) parent ≡ choices_before entries parent
before-kept entries e at None is within = refl
before-kept entries e at (Some p) is within = ap (λ (x : Entry). x.choices) (entry-kept entries e p (omega arith))

node-kept : (entries : List Entry) (e : Entry) (at : ℕ) (node : ListNode) → at < length entries → IsNode entries at node → IsNode (entries ++ e ∷ []) at node
node-kept entries e at node below is =
    let same = entry-kept entries e at below in
    let before = before-kept entries e at node.parent is.parent (omega arith) in
    record {
      parent = is.parent;
      entry = same ∙ is.entry ∙ ap {B = Entry} (λ cs. record { choices = node.choice ∷ cs; bound = node.bound }) (sym before);
      depth = is.depth ∙ ap (λ (x : Entry). length x.choices) (sym same);
      within = is.within;
    }

node-new : (entries : List Entry) (node : ListNode) → IsParentOf (length entries) node.parent → node.depth ≡ suc (length (choices_before entries node.parent)) → node.depth ≤ length entries + 1
    → IsNode (entries ++ entry_for entries node ∷ []) (length entries) node
node-new entries node parent depth within =
    let e = entry_for entries node in
    let there : entry_at (entries ++ e ∷ []) (length entries) ≡ e = get_or-append_seam entries e [] (record { choices = []; bound = 0 }) in
    let before = before-kept entries e (length entries) node.parent parent (omega arith) in
    record {
      parent = parent;
      entry = there ∙ ap {B = Entry} (λ cs. record { choices = node.choice ∷ cs; bound = node.bound }) (sym before);
      depth = depth ∙ ap (λ (x : Entry). length x.choices) (sym there);
      within = within;
    }

-- one node more
pub nodes-push : (nodes : List ListNode) (node : ListNode) → AreNodes nodes → IsParentOf (length nodes) node.parent → node.depth ≡ suc (length (choices_before (entries_of nodes) node.parent))
    → node.depth ≤ length nodes + 1 → AreNodes (nodes ++ node ∷ [])
nodes-push nodes node are parent depth within at n there =
    subst (λ es. IsNode es at n) (sym (entries-push nodes node)) (elim (slice_get_end nodes node at n there) [
      | inl old ↦
          let below : at < length (entries_of nodes) = omega (arith, slice_get_within nodes at n old, length_entries nodes) in
          node-kept (entries_of nodes) (entry_for (entries_of nodes) node) at n below (are at n old)
      | inr new ↦
          let many = length_entries nodes in
          let own = node-new (entries_of nodes) node (subst (λ k. IsParentOf k node.parent) (sym many) parent) depth (omega arith) in
          let place : length (entries_of nodes) ≡ at = omega (arith, new.0) in
          subst (λ (m : ListNode). IsNode (entries_of nodes ++ entry_for (entries_of nodes) node ∷ []) at m) new.1 (subst (λ k. IsNode (entries_of nodes ++ entry_for (entries_of nodes) node ∷ []) k node) place own)
    ])

-- the choices up to a depth are those of the parent
pub made_by_parent : (choice : Choice) (choices : List Choice) (depth : ℕ) → depth ≤ length choices → choice_made (choice ∷ choices) depth ≡ choice_made choices depth
made_by_parent choice choices depth within = (let e : suc (length choices) - depth ≡ suc (length choices - depth) = omega arith in ap (slice_get (choice ∷ choices)) e)

-- a list's newest choice is at its depth
pub made_last : (choice : Choice) (choices : List Choice) → choice_made (choice ∷ choices) (suc (length choices)) ≡ Some choice
made_last choice choices = (let e : suc (length choices) - suc (length choices) ≡ 0 = omega arith in ap (slice_get (choice ∷ choices)) e)
