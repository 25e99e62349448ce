-- The entries of nodes, one built after another, each from those before it.
use Rattle.std.specs.Prelude.{◌≡◌, ℕ, ◌+◌, ◌≤◌, List, [], ◌∷◌, ◌++◌, length, slice_get, Some}
use Rattle.tp_pool.specs.declared.choice.ListNode.{ListNode}
use Rattle.tp_pool.specs.Entries.{Entry, entry_at, choices_of, choices_before, IsParentOf}

-- the list of a node: its parent's, of those that are built, with its own choice
abbrev pub entry_for : List Entry → ListNode → Entry
entry_for built node = record { choices = node.choice ∷ choices_before built node.parent; bound = node.bound }

abbrev pub entries_after : List Entry → List ListNode → List Entry
entries_after built [] = built
entries_after built (node ∷ nodes) = entries_after (built ++ entry_for built node ∷ []) nodes

abbrev pub entries_of : List ListNode → List Entry
entries_of nodes = entries_after [] nodes

-- the node of this number among these entries
pub record IsNode (entries : List Entry) (at : ℕ) (node : ListNode) : Type 0 where
  pub parent : IsParentOf at node.parent
  pub entry : entry_at entries at ≡ entry_for entries node
  pub depth : node.depth ≡ length (choices_of entries at)
  pub within : node.depth ≤ at + 1

abbrev pub AreNodes : List ListNode → Type 0
AreNodes nodes = (at : ℕ) (node : ListNode) → slice_get nodes at ≡ Some node → IsNode (entries_of nodes) at node
