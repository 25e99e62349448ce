-- Nodes one after another, each in the place of what was due first.
use Rattle.std.proofs.Common.{◌≡◌, ℕ, ◌≤◌, true, ◌==◌, List, [], ◌∷◌, ◌++◌, sym, ◌∙◌, ap, subst, append_assoc, Some, None}
use Rattle.std.specs.Prelude.{ℤ, pos}
use Rattle.std.proofs.lemmas.List.Elements.{All-cons}
use Rattle.tp_bounds.specs.declared.tree.Close.{Close}
use Rattle.tp_bounds.specs.declared.tree.Head.{Head}
use Rattle.tp_bounds.specs.declared.tree.Node.{Node}
use Rattle.tp_bounds.specs.declared.tree.TreeRow.{TreeRow}
use Rattle.tp_machine.specs.declared.machine.Machine.{Machine}
use Rattle.tp_schedule.specs.declared.parts.Ask.{Ask}
use Rattle.tp_schedule.specs.declared.parts.Plan.{Plan}
use Rattle.tp_bound_laws.specs.Once.{PassOnce, PassesOnce}
use Rattle.tp_bound_laws.specs.Places.{Branch, Due, Stand, due_behind, stand_of}
use Rattle.tp_bound_laws.specs.Short.{IsOfFewHops, hops_in, most_hops}
use Rattle.tp_bound_laws.specs.Trees.{close_look, look, stand_look, with_behind}
use Rattle.tp_bound_laws.specs.Trees.Look.{due}
use Rattle.tp_bound_laws.proofs.Lists.{number-same}
use Rattle.tp_bound_make.specs.TreeProgress.{Adds, CoversBriefly, LeadsTo, PutsNode}

due-is : (xs ys : List Due) → due xs ≡ due ys → xs ≡ ys
due-is xs ys e = cc

stand-is : (s t : Stand) → Some s ≡ Some t → s ≡ t
stand-is s t e = cc

module _ (machine : Machine) (plans : List Plan) (ask : Ask) (rows : List TreeRow) (limit : ℤ) where
  pub adds-node : (d : Due) (n : Node) (old new : List Node) (more : List Due) → look machine plans ask rows limit d n ≡ due more → new ≡ old ++ n ∷ [] → IsOfFewHops n
      → ((s : Stand) → stand_of machine plans ask rows d n.head ≡ Some s → PassesOnce machine plans ask limit s n.close) → Adds machine plans ask rows limit (d ∷ []) old new more
  unfolding CoversBriefly
  adds-node d n old new more looks put few once start rest lead tail covers =
      subst (CoversBriefly machine plans ask rows limit start) (sym (ap (λ ns. ns ++ tail) put ∙ append_assoc old (n ∷ []) tail)) (lead (n ∷ tail) ((more, looks, covers.0), All-cons IsOfFewHops n tail few covers.1, (once, λ other is. subst (λ ds. PassOnce machine plans ask rows limit (ds ++ rest) tail) (due-is more other (sym looks ∙ is)) covers.2)))

  pub adds-trans : (a b c : List Due) (one two three : List Node) → Adds machine plans ask rows limit a one two b → Adds machine plans ask rows limit b two three c → Adds machine plans ask rows limit a one three c
  adds-trans a b c one two three f g start rest lead = g start rest (f start rest lead)

  pub adds-behind : (ds more behind : List Due) (old new : List Node) → Adds machine plans ask rows limit ds old new more → Adds machine plans ask rows limit (ds ++ behind) old new (more ++ behind)
  adds-behind ds more behind old new f start rest lead =
      subst (LeadsTo machine plans ask rows limit start new) (sym (append_assoc more behind rest)) (f start (behind ++ rest) (subst (LeadsTo machine plans ask rows limit start old) (append_assoc ds behind rest) lead))

  -- a node that stands where it is due
  pub node-look : (d : Due) (n : Node) (b : Branch) (more : List Due) → stand_of machine plans ask rows d n.head ≡ Some (record { branch = b; span = None }) → n.depth ≡ b.depth
      → close_look machine plans ask rows limit (record { branch = b; span = None }) n.head n.close ≡ due more → look machine plans ask rows limit d n ≡ due (more ++ due_behind machine plans ask rows d n.head)
  node-look d n b more stands depth closes =
      let t : (n.depth == b.depth) ≡ true = ap (λ k. n.depth == k) (sym depth) ∙ number-same n.depth in
      ap (stand_look machine plans ask rows limit d n) stands ∙ rw t (ap (with_behind machine plans ask rows limit (due_behind machine plans ask rows d n.head)) closes)

-- such a node is put
pub puts : (machine : Machine) (plans : List Plan) (ask : Ask) (limit depth : ℕ) (old new : List Node) (b : Branch) (head : Head) (close : Close) (more : List TreeRow → List Due) → new ≡ old ++ record { depth = depth; head = head; close = close } ∷ [] → b.depth ≡ depth
    → hops_in close ≤ most_hops → PassesOnce machine plans ask (pos limit) (record { branch = b; span = None }) close → ((rows : List TreeRow) → close_look machine plans ask rows (pos limit) (record { branch = b; span = None }) head close ≡ due (more rows)) → PutsNode machine plans ask limit old new b head more
puts machine plans ask limit depth old new b head close more put same few once closes rows d stands =
    let n : Node = record { depth = depth; head = head; close = close } in
    adds-node machine plans ask rows (pos limit) d n old new (more rows ++ due_behind machine plans ask rows d head) (node-look machine plans ask rows (pos limit) d n b (more rows) stands (sym same) (closes rows)) put few
    (λ s is. subst (λ t. PassesOnce machine plans ask (pos limit) t close) (stand-is (record { branch = b; span = None }) s (sym stands ∙ is)) once)
