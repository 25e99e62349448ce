-- Nodes that are taken one by one for what is due are those of the trees there.
use Rattle.std.proofs.Common.{◌≡◌, inl, inr, ◌⊎◌, ℕ, zero, suc, ◌+◌, ◌≤◌, Bool, true, false, cond, List, [], ◌∷◌, ◌++◌, length, refl, sym, ◌∙◌, ap, subst, arith, Option, Some, None}
use Rattle.std.specs.Prelude.{ℤ, pos, ◌<ℤ◌, int_lt, ◌==◌, ◌-◌}
use Rattle.std.proofs.lemmas.Bool.Decides.{nat_tests}
use Rattle.std.proofs.lemmas.Int.{ints}
use Rattle.std.proofs.lemmas.List.{append_assoc, length-append}
use Rattle.tp_bounds.specs.declared.hops.Hop.{Hop}
use Rattle.tp_bounds.specs.declared.hops.TreePoint.{TreePoint}
use Rattle.tp_bounds.specs.declared.tree.Close.{Close}
use Rattle.tp_bounds.specs.declared.tree.Close.TheVariants.{Split, Dead, Chain, Loop}
use Rattle.tp_bounds.specs.declared.tree.Head.{Head}
use Rattle.tp_bounds.specs.declared.tree.Node.{Node}
use Rattle.tp_bounds.specs.declared.tree.TreeRow.{TreeRow}
use Rattle.tp_machine.specs.declared.machine.Machine.{Machine}
use Rattle.tp_schedule.specs.Spots.{Spot}
use Rattle.tp_schedule.specs.declared.parts.Ask.{Ask}
use Rattle.tp_schedule.specs.declared.parts.Plan.{Plan}
use Rattle.tp_constraints.specs.Numbers.{is_same_spot}
use Rattle.tp_bound_laws.specs.Chains.{Led, cap, follow, low, spot_of}
use Rattle.tp_bound_laws.specs.Chains.Led.{led, lost}
use Rattle.tp_bound_laws.specs.Closed.{AreTrees, IsAt, IsChain, IsClosed, IsLoop, TreesAreCovers}
use Rattle.tp_bound_laws.specs.Closed.AreTrees.{closed, none, split}
use Rattle.tp_bound_laws.specs.Places.{Due, Stand, children, due_behind, stand_of}
use Rattle.tp_bound_laws.specs.Rows.{row_of}
use Rattle.tp_bound_laws.specs.Trees.{Covers, Look, chain_end, chain_look, close_look, dead_look, look, loop_end, loop_look, may_be_dead, reach_look, split_look, stand_look, with_behind}
use Rattle.tp_bound_laws.specs.Trees.Look.{due, wrong}
use Rattle.tp_bound_laws.specs.Trees.Wrong.{no_such_hop, uncovered, weak}

-- ---- numbers

same-number : (m n : ℕ) → (m == n) ≡ true → m ≡ n
same-number m n e = grind (arith, nat_tests)

number-same : (m n : ℕ) → m ≡ n → (m == n) ≡ true
number-same m n e = grind (arith, nat_tests)

below-is : (m n : ℤ) → int_lt m n ≡ true → m <ℤ n
below-is m n h = grind (arith, ints)

is-below : (m n : ℤ) → m <ℤ n → int_lt m n ≡ true
is-below m n h = grind (arith, ints)

-- a sum that closes a node is above its cap, and nothing is due
reached : (sum top : ℤ) (more : List Due) → reach_look sum top ≡ due more → (top <ℤ sum) × (more ≡ [])
reached sum top more e = go (int_lt top sum) refl e where
  go : (b : Bool) → int_lt top sum ≡ b → cond b (due []) (wrong (weak sum top)) ≡ due more → (top <ℤ sum) × (more ≡ [])
  go true u h = (below-is top sum u, cc)
  go false u h = absurd cc

reaches : (sum top : ℤ) → top <ℤ sum → reach_look sum top ≡ due []
reaches sum top e = let t = is-below top sum e in rw t refl

module _ (machine : Machine) (plans : List Plan) (ask : Ask) (rows : List TreeRow) (limit : ℤ) where
  -- ---- trees cover

  covers-append : (xs ys : List Due) (ns ms : List Node) → Covers machine plans ask rows limit xs ns → Covers machine plans ask rows limit ys ms → Covers machine plans ask rows limit (xs ++ ys) (ns ++ ms)
  covers-append [] ys [] ms c e = e
  covers-append [] ys (n ∷ ns) ms c e = absurd c
  covers-append (d ∷ ds) ys [] ms c e = absurd c
  covers-append (d ∷ ds) ys (n ∷ ns) ms (more, u, rest) e =
      (more, u, subst (λ z. Covers machine plans ask rows limit z (ns ++ ms)) (append_assoc more ds ys) (covers-append (more ++ ds) ys ns ms rest e))

  looks-at : (d : Due) (n : Node) (s : Stand) → IsAt machine plans ask rows limit d n s
      → look machine plans ask rows limit d n ≡ with_behind machine plans ask rows limit (due_behind machine plans ask rows d n.head) (close_look machine plans ask rows limit s n.head n.close)
  looks-at d n s at = let e = at.stand in let t = number-same n.depth s.branch.depth at.depth in rw (e, t) refl

  closed-look : (s : Stand) (head : Head) (close : Close) → IsClosed machine plans ask rows limit s head close → close_look machine plans ask rows limit s head close ≡ due []
  closed-look s head Split is = absurd is
  closed-look s head Dead is = let h = is.may_be in let r = is.row in rw (h, r) refl
  closed-look s head (Chain first hops) is =
      let f = is.begins in let h = is.leads in rw (f, h) (reaches is.sum (cap machine plans ask limit s is.to) is.late)
  closed-look s head (Loop first hops) is =
      let f = is.begins in let h = is.leads in let b = is.back in rw (f, h, b) (reaches is.sum (pos 0) is.long)

  trees-cover : (ds : List Due) (nodes : List Node) → AreTrees machine plans ask rows limit ds nodes → Covers machine plans ask rows limit ds nodes
  trees-cover _ _ none = tt
  trees-cover _ _ (closed d n s ds nodes at is rest) =
      let u = closed-look s n.head n.close is in
      (due_behind machine plans ask rows d n.head, looks-at d n s at ∙ ap (with_behind machine plans ask rows limit (due_behind machine plans ask rows d n.head)) u, trees-cover (due_behind machine plans ask rows d n.head ++ ds) nodes rest)
  trees-cover _ _ (split d n s ds kids below behind at is some down rest) =
      let here : close_look machine plans ask rows limit s n.head n.close ≡ due kids =
      ap (close_look machine plans ask rows limit s n.head) is ∙ ap split_look some in
      let all = covers-append kids (due_behind machine plans ask rows d n.head ++ ds) below behind (trees-cover kids below down) (trees-cover (due_behind machine plans ask rows d n.head ++ ds) behind rest) in (
        kids ++ due_behind machine plans ask rows d n.head,
        looks-at d n s at ∙ ap (with_behind machine plans ask rows limit (due_behind machine plans ask rows d n.head)) here,
        subst (λ z. Covers machine plans ask rows limit z (below ++ behind)) (sym (append_assoc kids (due_behind machine plans ask rows d n.head) ds)) all,
      )

  -- ---- what covers are trees

  pub record Parted (xs ys : List Due) (nodes : List Node) : Type 0 where
    below : List Node
    behind : List Node
    joined : nodes ≡ below ++ behind
    first : Covers machine plans ask rows limit xs below
    others : Covers machine plans ask rows limit ys behind

  parted : (xs ys : List Due) (nodes : List Node) → Covers machine plans ask rows limit (xs ++ ys) nodes → Parted xs ys nodes
  parted [] ys nodes c = record { below = []; behind = nodes; joined = refl; first = tt; others = c }
  parted (d ∷ ds) ys [] c = absurd c
  parted (d ∷ ds) ys (n ∷ nodes) (more, e, rest) =
      let p = parted (more ++ ds) ys nodes (subst (λ z. Covers machine plans ask rows limit z nodes) (sym (append_assoc more ds ys)) rest) in
      record { below = n ∷ p.below; behind = p.behind; joined = ap (λ z. n ∷ z) p.joined; first = (more, e, p.first); others = p.others }

  -- a node that stands here is closed, and nothing is due, or is split, and its children are
  abbrev Closes : Stand → Head → Close → List Due → Type 0
  Closes s head close more = (IsClosed machine plans ask rows limit s head close × (more ≡ [])) ⊎ ((close ≡ Split) × (children machine plans ask rows s ≡ Some more))

  chain-is : (s : Stand) (first : TreePoint) (hops : List Hop) (more : List Due) → chain_look machine plans ask rows limit s (spot_of plans (length s.branch.x.choices) first) hops ≡ due more
      → IsChain machine plans ask rows limit s first hops × (more ≡ [])
  chain-is s first hops more e = go (spot_of plans (length s.branch.x.choices) first) refl e where
    ends : (from : Spot) → spot_of plans (length s.branch.x.choices) first ≡ Some from → (l : Led) → follow machine plans ask limit s 0 from (pos (low machine plans ask limit s from)) hops ≡ l
        → chain_end machine plans ask rows limit s (pos (low machine plans ask limit s from)) l ≡ due more → IsChain machine plans ask rows limit s first hops × (more ≡ [])
    ends from u (lost k) v h = absurd cc
    ends from u (led to sum) v h =
        let r = reached sum (cap machine plans ask limit s to) more h in
        (record { from = from; to = to; sum = sum; begins = u; leads = v; late = r.0 }, r.1)

    go : (o : Option Spot) → spot_of plans (length s.branch.x.choices) first ≡ o → chain_look machine plans ask rows limit s o hops ≡ due more → IsChain machine plans ask rows limit s first hops × (more ≡ [])
    go None u h = absurd cc
    go (Some from) u h = ends from u (follow machine plans ask limit s 0 from (pos (low machine plans ask limit s from)) hops) refl h

  loop-is : (s : Stand) (first : TreePoint) (hops : List Hop) (more : List Due) → loop_look machine plans ask rows limit s (spot_of plans (length s.branch.x.choices) first) hops ≡ due more
      → IsLoop machine plans ask rows limit s first hops × (more ≡ [])
  loop-is s first hops more e = go (spot_of plans (length s.branch.x.choices) first) refl e where
    back : (from : Spot) → spot_of plans (length s.branch.x.choices) first ≡ Some from → (to : Spot) (sum : ℤ) → follow machine plans ask limit s 0 from (pos 0) hops ≡ led to sum
        → (b : Bool) → is_same_spot to from ≡ b → cond b (reach_look sum (pos 0)) (wrong (no_such_hop (length hops - 1))) ≡ due more → IsLoop machine plans ask rows limit s first hops × (more ≡ [])
    back from u to sum v true t h =
        let r = reached sum (pos 0) more h in
        (record { from = from; to = to; sum = sum; begins = u; leads = v; back = t; long = r.0 }, r.1)
    back from u to sum v false t h = absurd cc

    ends : (from : Spot) → spot_of plans (length s.branch.x.choices) first ≡ Some from → (l : Led) → follow machine plans ask limit s 0 from (pos 0) hops ≡ l
        → loop_end machine plans ask rows limit from (length hops - 1) l ≡ due more → IsLoop machine plans ask rows limit s first hops × (more ≡ [])
    ends from u (lost k) v h = absurd cc
    ends from u (led to sum) v h = back from u to sum v (is_same_spot to from) refl h

    go : (o : Option Spot) → spot_of plans (length s.branch.x.choices) first ≡ o → loop_look machine plans ask rows limit s o hops ≡ due more → IsLoop machine plans ask rows limit s first hops × (more ≡ [])
    go None u h = absurd cc
    go (Some from) u h = ends from u (follow machine plans ask limit s 0 from (pos 0) hops) refl h

  closes : (s : Stand) (head : Head) (close : Close) (more : List Due) → close_look machine plans ask rows limit s head close ≡ due more → Closes s head close more
  closes s head Split more e = go (children machine plans ask rows s) refl e where
    go : (o : Option (List Due)) → children machine plans ask rows s ≡ o → split_look o ≡ due more → Closes s head Split more
    go None u h = absurd cc
    go (Some kids) u h = let same : kids ≡ more = cc in inr (refl, subst (λ k. children machine plans ask rows s ≡ Some k) same u)
  closes s head Dead more e = go (may_be_dead head) refl (row_of machine rows s.branch.first) refl e where
    go : (b : Bool) → may_be_dead head ≡ b → (o : Option ℕ) → row_of machine rows s.branch.first ≡ o → dead_look b o ≡ due more → Closes s head Dead more
    go true t None u h = let same : more ≡ [] = cc in inl (record { may_be = t; row = u }, same)
    go true t (Some room) u h = absurd cc
    go false t o u h = absurd cc
  closes s head (Chain first hops) more e = inl (chain-is s first hops more e)
  closes s head (Loop first hops) more e = inl (loop-is s first hops more e)

  -- the stand of a node that is looked at, and what closes it
  pub record Looked (d : Due) (n : Node) (more : List Due) : Type 0 where
    s : Stand
    at : IsAt machine plans ask rows limit d n s
    kids : List Due
    closes : Closes s n.head n.close kids
    due : kids ++ due_behind machine plans ask rows d n.head ≡ more

  looked : (d : Due) (n : Node) (more : List Due) → look machine plans ask rows limit d n ≡ due more → Looked d n more
  looked d n more e = go (stand_of machine plans ask rows d n.head) refl e where
    joined : (s : Stand) → stand_of machine plans ask rows d n.head ≡ Some s → n.depth ≡ s.branch.depth → (l : Look) → close_look machine plans ask rows limit s n.head n.close ≡ l
        → with_behind machine plans ask rows limit (due_behind machine plans ask rows d n.head) l ≡ due more → Looked d n more
    joined s u same (wrong flaw) v h = absurd cc
    joined s u same (due kids) v h = record { s = s; at = record { stand = u; depth = same }; kids = kids; closes = closes s n.head n.close kids v; due = cc }

    test : (s : Stand) → stand_of machine plans ask rows d n.head ≡ Some s → (c : Bool) → (n.depth == s.branch.depth) ≡ c
        → cond c (with_behind machine plans ask rows limit (due_behind machine plans ask rows d n.head) (close_look machine plans ask rows limit s n.head n.close)) (wrong uncovered) ≡ due more → Looked d n more
    test s u false t h = absurd cc
    test s u true t h = joined s u (same-number n.depth s.branch.depth t) (close_look machine plans ask rows limit s n.head n.close) refl h

    go : (o : Option Stand) → stand_of machine plans ask rows d n.head ≡ o → stand_look machine plans ask rows limit d n o ≡ due more → Looked d n more
    go None u h = absurd cc
    go (Some s) u h = test s u (n.depth == s.branch.depth) refl h

  -- at most so many nodes
  cover-trees : (most : ℕ) (ds : List Due) (nodes : List Node) → length nodes ≤ most → Covers machine plans ask rows limit ds nodes → AreTrees machine plans ask rows limit ds nodes
  cover-trees most [] [] few c = none
  cover-trees most [] (n ∷ nodes) few c = absurd c
  cover-trees most (d ∷ ds) [] few c = absurd c
  cover-trees zero (d ∷ ds) (n ∷ nodes) few c = absurd (omega (arith, few))
  cover-trees (suc most) (d ∷ ds) (n ∷ nodes) few (more, e, rest) =
      let l = looked d n more e in
      let all : Covers machine plans ask rows limit ((l.kids ++ due_behind machine plans ask rows d n.head) ++ ds) nodes = subst (λ z. Covers machine plans ask rows limit (z ++ ds) nodes) (sym l.due) rest in
      elim l.closes [
        | inl is ↦
            let left : Covers machine plans ask rows limit (due_behind machine plans ask rows d n.head ++ ds) nodes =
            subst (λ z. Covers machine plans ask rows limit ((z ++ due_behind machine plans ask rows d n.head) ++ ds) nodes) is.1 all in
            closed d n l.s ds nodes l.at is.0 (cover-trees most (due_behind machine plans ask rows d n.head ++ ds) nodes (omega (arith, few)) left)
        | inr is ↦
            let p = parted l.kids (due_behind machine plans ask rows d n.head ++ ds) nodes (subst (λ z. Covers machine plans ask rows limit z nodes) (append_assoc l.kids (due_behind machine plans ask rows d n.head) ds) all) in
            let many : length nodes ≡ length p.below + length p.behind = ap length p.joined ∙ length-append p.below p.behind in
            subst (λ z. AreTrees machine plans ask rows limit (d ∷ ds) (n ∷ z)) (sym p.joined)
            (split d n l.s ds l.kids p.below p.behind l.at is.0 is.1 (cover-trees most l.kids p.below (omega (arith, few, many)) p.first)
            (cover-trees most (due_behind machine plans ask rows d n.head ++ ds) p.behind (omega (arith, few, many)) p.others))
      ]

pub trees_are_covers : TreesAreCovers
trees_are_covers machine plans ask rows limit ds nodes =
    (trees-cover machine plans ask rows limit ds nodes, cover-trees machine plans ask rows limit (length nodes) ds nodes (omega arith))
