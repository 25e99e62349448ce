-- A pool's nodes, by what clauses see of it.
use Rattle.std.proofs.Common.{◌≡◌, ℕ, ◌+◌, ◌<◌, ◌≤◌, ◌^◌, Fits, w32, List, length, Option, Some, sym, ap, subst, ◌∙◌, arith}
use Rattle.std.proofs.lemmas.Option.{slice_get-get_or}
use Rattle.std.specs.Prelude.{slice_index_or}
use Rattle.tp_pool.specs.declared.choice.ListNode.{ListNode}
use Rattle.tp_pool.specs.declared.pool.Pool.TheInside.{Inside}
use Rattle.tp_pool.specs.Entries.{Entry, Entries, choices_of, bound_of, choices_before, IsParentOf}
use Rattle.tp_pool.specs.Nodes.{entries_of, IsNode, AreNodes}
use Rattle.tp_pool.specs.Inside.{entries_in}
use Rattle.tp_pool.proofs.NodeFacts.{length_entries}

pub same_entries : (a : Inside) (v : Entries) → entries_in a ≡ v → entries_of a.nodes.items ≡ v.entries
same_entries a v is = ap (λ (e : Entries). e.entries) is

pub as_many : (a : Inside) (v : Entries) → entries_in a ≡ v → length v.entries ≡ length a.nodes.items
as_many a v is = sym (ap length (same_entries a v is)) ∙ length_entries a.nodes.items

pub bound_there : (nodes : List ListNode) (at : ℕ) (d : ListNode) → AreNodes nodes → at < length nodes → (slice_index_or nodes at d).bound ≡ bound_of (entries_of nodes) at
bound_there nodes at d are below = (let is : IsNode (entries_of nodes) at (slice_index_or nodes at d) = are at (slice_index_or nodes at d) (slice_get-get_or nodes at d below) in sym (ap (λ (e : Entry). e.bound) is.entry))

pub depth_there : (nodes : List ListNode) (at : ℕ) (d : ListNode) → AreNodes nodes → at < length nodes → (slice_index_or nodes at d).depth ≡ length (choices_of (entries_of nodes) at)
depth_there nodes at d are below = (let is : IsNode (entries_of nodes) at (slice_index_or nodes at d) = are at (slice_index_or nodes at d) (slice_get-get_or nodes at d below) in is.depth)

pub depth_within : (nodes : List ListNode) (at : ℕ) (d : ListNode) → AreNodes nodes → at < length nodes → (slice_index_or nodes at d).depth ≤ at + 1
depth_within nodes at d are below = (let is : IsNode (entries_of nodes) at (slice_index_or nodes at d) = are at (slice_index_or nodes at d) (slice_get-get_or nodes at d below) in is.within)

-- a list behind a known parent
pub behind_depth : (nodes : List ListNode) (parent : Option ℕ) (at : ℕ) (d : ListNode) → AreNodes nodes → IsParentOf (length nodes) parent → parent ≡ Some at
    → (slice_index_or nodes at d).depth + 1 ≡ length (choices_before (entries_of nodes) parent) + 1
behind_depth nodes parent at d are known is =
    let below : at < length nodes = subst (IsParentOf (length nodes)) is known in
    ap (λ n. n + 1) (depth_there nodes at d are below ∙ ap (λ p. length (choices_before (entries_of nodes) p)) (sym is))

pub behind_within : (nodes : List ListNode) (parent : Option ℕ) (at : ℕ) (d : ListNode) → AreNodes nodes → IsParentOf (length nodes) parent → parent ≡ Some at → (slice_index_or nodes at d).depth + 1 ≤ length nodes + 1
behind_within nodes parent at d are known is =
    let below : at < length nodes = subst (IsParentOf (length nodes)) is known in
    let within = depth_within nodes at d are below in
    omega arith

pub behind_fits : (nodes : List ListNode) (parent : Option ℕ) (at : ℕ) (d : ListNode) → AreNodes nodes → IsParentOf (length nodes) parent → parent ≡ Some at → length nodes + 1 < 2 ^ 32 → Fits w32 ((slice_index_or nodes at d).depth + 1)
behind_fits nodes parent at d are known is fits = (let within = behind_within nodes parent at d are known is in omega arith)
