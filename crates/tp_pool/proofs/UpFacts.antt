-- Going up from a node to its parents.
use Rattle.std.proofs.Common.{◌≡◌, ◌≢◌, ℕ, suc, ◌<◌, ◌≤◌, List, ◌∷◌, length, Option, Some, None, refl, sym, ap, subst, ◌∙◌, arith}
use Rattle.std.proofs.lemmas.Option.{slice_get-get_or}
use Rattle.std.specs.Prelude.{slice_index_or}
use Rattle.tp_pool.specs.declared.choice.ListNode.{ListNode}
use Rattle.tp_pool.specs.Entries.{Entry, choices_of, choices_before, choice_made, IsParentOf}
use Rattle.tp_pool.specs.Nodes.{entries_of, IsNode, AreNodes}
use Rattle.tp_pool.proofs.NodeFacts.{made_by_parent, made_last}

is_node : (nodes : List ListNode) (at : ℕ) (d : ListNode) → AreNodes nodes → at < length nodes → IsNode (entries_of nodes) at (slice_index_or nodes at d)
is_node nodes at d are below = are at (slice_index_or nodes at d) (slice_get-get_or nodes at d below)

-- the choices of a node
its_choices : (entries : List Entry) (at : ℕ) (node : ListNode) (parent : Option ℕ) → IsNode entries at node → node.parent ≡ parent → choices_of entries at ≡ node.choice ∷ choices_before entries parent
its_choices entries at node parent is known = ap (λ (e : Entry). e.choices) is.entry ∙ ap (λ p. node.choice ∷ choices_before entries p) known

-- a parent is below its node, and has the same choices up to a lesser depth
pub record IsUp (entries : List Entry) (at parent depth : ℕ) : Type 0 where
  pub below : parent < at
  pub above : depth ≤ length (choices_of entries parent)
  pub same : choice_made (choices_of entries parent) depth ≡ choice_made (choices_of entries at) depth

pub goes_up : (nodes : List ListNode) (at depth parent : ℕ) (d : ListNode) → AreNodes nodes → at < length nodes → (slice_index_or nodes at d).parent ≡ Some parent → depth < (slice_index_or nodes at d).depth → IsUp (entries_of nodes) at parent depth
goes_up nodes at depth parent d are below known less =
    let node = slice_index_or nodes at d in
    let entries = entries_of nodes in
    let is = is_node nodes at d are below in
    let choices = its_choices entries at node (Some parent) is known in
    let many : node.depth ≡ suc (length (choices_of entries parent)) = is.depth ∙ ap length choices in
    let above : depth ≤ length (choices_of entries parent) = omega arith in
    record {
      below = subst (IsParentOf at) known is.parent;
      above = above;
      same = sym (ap (λ cs. choice_made cs depth) choices ∙ made_by_parent node.choice (choices_of entries parent) depth above);
    }

-- a node of this depth has its own choice there
pub stops_up : (nodes : List ListNode) (at depth : ℕ) (d : ListNode) → AreNodes nodes → at < length nodes → depth ≤ length (choices_of (entries_of nodes) at) → (slice_index_or nodes at d).depth ≤ depth
    → choice_made (choices_of (entries_of nodes) at) depth ≡ Some (slice_index_or nodes at d).choice
stops_up nodes at depth d are below above least =
    let node = slice_index_or nodes at d in
    let entries = entries_of nodes in
    let is = is_node nodes at d are below in
    let choices = its_choices entries at node node.parent is refl in
    let many : node.depth ≡ suc (length (choices_before entries node.parent)) = is.depth ∙ ap length choices in
    let here : depth ≡ suc (length (choices_before entries node.parent)) = omega (arith, is.depth) in
    ap (λ cs. choice_made cs depth) choices ∙ ap (choice_made (node.choice ∷ choices_before entries node.parent)) here ∙ made_last node.choice (choices_before entries node.parent)

-- only a node of depth 1 has no parent
pub has_parent : (nodes : List ListNode) (at depth : ℕ) (d : ListNode) → AreNodes nodes → at < length nodes → 1 ≤ depth → depth < (slice_index_or nodes at d).depth → ((parent : ℕ) → (slice_index_or nodes at d).parent ≢ Some parent) → ⊥
has_parent nodes at depth d are below first less none = go (slice_index_or nodes at d).parent refl
  where
    go : (parent : Option ℕ) → (slice_index_or nodes at d).parent ≡ parent → ⊥
    go (Some parent) known = none parent known
    go None known =
        let is = is_node nodes at d are below in
        let many : (slice_index_or nodes at d).depth ≡ 1 = is.depth ∙ ap length (its_choices (entries_of nodes) at (slice_index_or nodes at d) None is known) in
        omega arith
