-- What refutes a part of a network refutes the network.
use Rattle.std.proofs.Common.{ℕ, zero, suc, ◌≤◌, List, [], ◌∷◌, ◌++◌, take, refl, arith, All, Contains}
use Rattle.std.specs.Prelude.{slice_index}
use Rattle.std.proofs.lemmas.Int.{ints}
use Rattle.std.proofs.lemmas.List.{length-append}
use Rattle.std.proofs.lemmas.List.Elements.{All-append, All-take, All-contains_itself, Contains-append_left, Contains-append_right}
use Rattle.tp_base.specs.declared.edges.Edge.{Edge}
use Rattle.tp_base.specs.declared.edges.Proof.{Proof}
use Rattle.tp_base.specs.declared.edges.Proof.TheVariants.{Chain, Circle}
use Rattle.tp_base.specs.Net.{Net, with_point, with_edges}
use Rattle.tp_base.specs.Refute.{Refutes}
use Rattle.tp_constraints.proofs.Lists.{all-by}
use Rattle.tp_placing.specs.Reasons.{IsPart, IsShown}
use Rattle.tp_placing.specs.RefusedPlace.{IsRefused}

pub part-refutes : (part whole : Net) → IsPart part whole → (p : Proof) → Refutes part p → Refutes whole p
part-refutes part whole is (Chain first edges) late =
    let k = late.known in
    let l = late.last_known in
    let n = is.points in
    let low = is.lows first.0 k in
    let passes = rw is.caps at late.passes in
    record {
      last = late.last;
      leads = late.leads;
      in_net = all-by (Contains whole.edges) edges.now part.edges late.in_net is.edges;
      known = omega arith;
      last_known = omega arith;
      passes = omega (arith, ints);
      apart = late.apart;
    }
part-refutes part whole is (Circle edges) late = record {
  first = late.first;
  leads = late.leads;
  in_net = all-by (Contains whole.edges) edges.now part.edges late.in_net is.edges;
  positive = late.positive;
  apart = late.apart;
}

pub whole-is-part : (net : Net) → IsPart net net
whole-is-part net = record { points = refl; lows = λ i w. omega arith; caps = refl; edges = All-contains_itself net.edges }

-- what is kept of a refusal shows all of the net
pub shown-whole : {N : Type 0} (refutes : N → Net → Type 0) (n : N) (net : Net) → refutes n net → IsShown refutes n net
shown-whole refutes n net shown = record { late = net; shown = shown; part = whole-is-part net }

-- the first few of the edges that are added
fewer-edges : (edges es : List Edge) (n : ℕ) → All (Contains (edges ++ es)) (edges ++ take n es)
fewer-edges edges es n = All-append (Contains (edges ++ es)) edges (take n es)
    (λ k d w. Contains-append_left edges es _ (All-contains_itself edges k d w))
    (All-take (Contains (edges ++ es)) n es (λ k d w. Contains-append_right edges es _ (All-contains_itself es k d w)))

pub shown-edges : {N : Type 0} (refutes : N → Net → Type 0) (n : N) (net : Net) (es : List Edge) → IsRefused refutes n net es → IsShown refutes n (with_edges net es)
shown-edges refutes n net es r = record {
  late = with_edges net (take r.count es);
  shown = r.shown;
  part = record { points = refl; lows = λ i w. omega arith; caps = refl; edges = fewer-edges net.edges es r.count };
}

last-later : (lows : List ℕ) (low sum i : ℕ) → low ≤ sum → slice_index (lows ++ low ∷ []) i ≤ slice_index (lows ++ sum ∷ []) i
last-later [] low sum zero h = h
last-later [] low sum (suc i) h = omega arith
last-later (x ∷ lows) low sum zero h = omega arith
last-later (x ∷ lows) low sum (suc i) h = last-later lows low sum i h

-- a point that is refused with a low is refused with a later one
pub shown-point : {N : Type 0} (refutes : N → Net → Type 0) (n : N) (net : Net) (low sum cap : ℕ) (es : List Edge) → low ≤ sum → refutes n (with_edges (with_point net low cap) es)
    → IsShown refutes n (with_edges (with_point net sum cap) es)
shown-point refutes n net low sum cap es later shown =
    let a = length-append net.lows (low ∷ []) in
    let b = length-append net.lows (sum ∷ []) in
    record {
      late = with_edges (with_point net low cap) es;
      shown = shown;
      part = record { points = omega arith; lows = λ i w. last-later net.lows low sum i later; caps = refl; edges = All-contains_itself (net.edges ++ es) };
    }
