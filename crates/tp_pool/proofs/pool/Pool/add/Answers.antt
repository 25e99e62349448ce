use Rattle.std.proofs.Common.{◌≡◌, ◌+◌, ◌≤◌, suc, refl, add-one, [], ◌∷◌, ◌++◌, length, sym, subst, ap, ◌∙◌, arith}
use Rattle.std.proofs.lemmas.List.{length_push}
use Rattle.std.proofs.lemmas.Bool.{false≢true}
use Rattle.tp_pool.specs.declared.choice.ListNode.{ListNode}
use Rattle.tp_pool.specs.Entries.{Entries, choices_before, IsParentOf}
use Rattle.tp_pool.specs.Nodes.{entry_for, entries_of, AreNodes}
use Rattle.tp_pool.proofs.NodeFacts.{entries-push, nodes-push}
use Rattle.tp_pool.proofs.ViewFacts.{as_many}
use Rattle.tp_pool.proofs.pool.Pool.add.Goals as goal
use Rattle.tp_pool.proofs.pool.Pool.add.Goals.{After-push_reserved}

-- the node that was pushed
abbrev node_of : After-push_reserved → ListNode
node_of c = record { parent = c.args.parent; depth = c.depth_behind-depth.result; choice = c.args.choice; bound = c.args.bound }

pub returns-then-node-self-clause-full : goal.returns-then-node-self-clause-full
returns-then-node-self-clause-full c =
    let many = as_many c.self.inside c.args.self.now c.self.view_is in
    let capacity = ap (λ (e : Entries). e.capacity) c.self.view_is in
    (λ _. omega (arith, c.self.inside.nodes.ok.0, c.len-node.ensures, c.if-node-self.true), λ _. refl)

pub depth_behind-depth-requires-clause-nodes : goal.depth_behind-depth-requires-clause-nodes
depth_behind-depth-requires-clause-nodes c = subst AreNodes (sym c.deref.ensures.value) c.self.invariant.nodes

pub depth_behind-depth-requires-clause-parent : goal.depth_behind-depth-requires-clause-parent
depth_behind-depth-requires-clause-parent c =
    let many = as_many c.self.inside c.args.self.now c.self.view_is in
    subst (λ n. IsParentOf n c.args.parent) (many ∙ ap length (sym c.deref.ensures.value)) c.requires.parent

pub invariant_of-self : goal.invariant_of-self
invariant_of-self c =
    let nodes = c.self.inside.nodes.items in
    let slice = c.deref.ensures.value in
    let pushed = c.push_reserved.ensures.items in
    let many = as_many c.self.inside c.args.self.now c.self.view_is in
    let parent : IsParentOf (length nodes) c.args.parent = subst (λ n. IsParentOf n c.args.parent) many c.requires.parent in
    let depth : c.depth_behind-depth.result ≡ suc (length (choices_before (entries_of nodes) c.args.parent)) = c.depth_behind-depth.ensures.depth ∙ ap (λ ns. length (choices_before (entries_of ns) c.args.parent) + 1) slice ∙ add-one (length (choices_before (entries_of nodes) c.args.parent)) in
    let within : c.depth_behind-depth.result ≤ length nodes + 1 = omega (arith, c.depth_behind-depth.ensures.within, ap length slice) in
    let longer : length c.push_reserved.new.self.items ≡ length nodes + 1 = ap length pushed ∙ length_push nodes (node_of c) in
    record {
      nodes = subst AreNodes (sym pushed) (nodes-push nodes (node_of c) c.self.invariant.nodes parent depth within);
      within = omega (arith, c.self.invariant.within, c.len-node.ensures, c.if-node-self.false, c.self.inside.nodes.ok.0);
      fits = c.self.invariant.fits;
      space = omega (arith, c.self.invariant.space, c.push_reserved.ensures.capacity);
    }

pub returns-clause-full : goal.returns-clause-full
returns-clause-full c =
    let many = as_many c.self.inside c.args.self.now c.self.view_is in
    let capacity = ap (λ (e : Entries). e.capacity) c.self.view_is in
    ((λ no. absurd (false≢true no)), (λ is. absurd (c.if-node-self.false (omega (arith, c.self.inside.nodes.ok.0, c.len-node.ensures)))))

pub returns-clause-ok : goal.returns-clause-ok
returns-clause-ok c =
    let nodes = c.self.inside.nodes.items in
    let grown : entries_of c.push_reserved.new.self.items ≡ entries_of nodes ++ entry_for (entries_of nodes) (node_of c) ∷ [] = ap entries_of c.push_reserved.ensures.items ∙ entries-push nodes (node_of c) in
    ap {B = Entries} (λ es. record { capacity = c.self.inside.capacity; entries = es }) grown
    ∙ ap {B = Entries} (λ (v : Entries). record { capacity = v.capacity; entries = v.entries ++ entry_for v.entries (node_of c) ∷ [] }) c.self.view_is

pub returns-clause-number : goal.returns-clause-number
returns-clause-number c = (let many = as_many c.self.inside c.args.self.now c.self.view_is in omega (arith, c.self.inside.nodes.ok.0, c.len-node.ensures))
