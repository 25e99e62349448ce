-- A late chain or a late closed walk leaves no solution: a solution would gain the weights along it.
use Rattle.std.proofs.Common.{◌≡◌, ℕ, List, [], ◌∷◌, pos, ◌+ℤ◌, ◌≤ℤ◌, ap, arith}
use Rattle.std.proofs.lemmas.Int.{ints}
use Rattle.std.proofs.lemmas.List.Elements.{All-head, All-tail, All-contains, All-weaker, Contains-append_left}
use Rattle.std.specs.List.{All, Contains}
use Rattle.tp_base.specs.declared.edges.Edge.{Edge}
use Rattle.tp_base.specs.Net.{Net, Keeps, HasNoSolution, with_edges}
use Rattle.tp_base.specs.Refute.{Leads, total_weight, IsLateChain, IsLateCircle}
use Rattle.tp_base.specs.Kept.{KeptRefutes}
use Rattle.tp_base.specs.declared.kept.Kept.{Kept}
use Rattle.tp_base.specs.declared.kept.Kept.TheVariants.{Nothing, Chain, Circle}

-- times that keep the edges gain at least the weights along a walk
pub walk_gain : (edges : List Edge) (x : ℕ → ℕ) → All (Keeps x) edges → (es : List Edge) (a b : ℕ) → Leads a es b → All (Contains edges) es → (pos (x a) +ℤ total_weight es) ≤ℤ pos (x b)
walk_gain edges x keeps [] a b leads all = let e = ap x leads in omega (arith, ints)
walk_gain edges x keeps (e ∷ es) a b leads all =
    let rest = walk_gain edges x keeps es e.to.0 b leads.1 (All-tail (Contains edges) e es all) in
    let kept = All-contains (Keeps x) edges e keeps (All-head (Contains edges) e es all) in
    let from : x e.from.0 ≡ x a = ap x leads.0 in
    omega (arith, ints, kept, rest)

pub chain_refutes : (net : Net) (first : ℕ) (es : List Edge) → IsLateChain net first es → HasNoSolution net
chain_refutes net first es c x sol =
    let gain = walk_gain net.edges x sol.keeps es first c.last c.leads c.in_net in
    let low = sol.above_low first c.known in
    let cap = sol.below_cap c.last c.last_known in
    let passes = c.passes in
    omega (arith, ints)

pub circle_refutes : (net : Net) (es : List Edge) → IsLateCircle net es → HasNoSolution net
circle_refutes net es c x sol =
    let gain = walk_gain net.edges x sol.keeps es c.first c.first c.leads c.in_net in
    let positive = c.positive in
    omega (arith, ints)

-- what refutes a net refutes it with more edges
pub more_edges_refute : (net : Net) (kept : Kept) (path more : List Edge) → KeptRefutes net kept path → KeptRefutes (with_edges net more) kept path
more_edges_refute net Nothing path more none = none
more_edges_refute net (Chain first) path more c = record {
  last = c.last;
  leads = c.leads;
  in_net = All-weaker (Contains net.edges) _ (Contains-append_left net.edges more) path c.in_net;
  known = c.known;
  last_known = c.last_known;
  passes = c.passes;
  apart = c.apart;
}
more_edges_refute net Circle path more c = record {
  first = c.first;
  leads = c.leads;
  in_net = All-weaker (Contains net.edges) _ (Contains-append_left net.edges more) path c.in_net;
  positive = c.positive;
  apart = c.apart;
}
