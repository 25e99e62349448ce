-- Some of several edges, and all of them.
use Rattle.std.proofs.Common.{◌≡◌, ℕ, List, ◌++◌, take, ap}
use Rattle.std.proofs.lemmas.List.{append_assoc}
use Rattle.std.proofs.lemmas.List.Elements.{All-append, All-take}
use Rattle.tp_base.specs.declared.edges.Edge.{Edge}
use Rattle.tp_base.specs.Net.{Net, IsSolution, HasLeast, HasNoSolution, Keeps, with_edges}
use Rattle.tp_constraints.proofs.Lists.{All-split}

solution-fewer : (net : Net) (es : List Edge) (n : ℕ) (x : ℕ → ℕ) → IsSolution (with_edges net es) x → IsSolution (with_edges net (take n es)) x
solution-fewer net es n x s =
    let split = All-split (Keeps x) net.edges es s.keeps in
    record {
      above_low = s.above_low;
      below_cap = s.below_cap;
      keeps = All-append (Keeps x) net.edges (take n es) split.0 (All-take (Keeps x) n es split.1);
    }

pub late-fewer : (net : Net) (es : List Edge) (n : ℕ) → HasNoSolution (with_edges net (take n es)) → HasNoSolution (with_edges net es)
late-fewer net es n none x s = none x (solution-fewer net es n x s)

pub not-late : (net : Net) → HasNoSolution net → HasLeast net → ⊥
not-late net none least = none least.0 least.1.solution

-- some edges more, and then others
pub edges-twice : (net : Net) (es others : List Edge) → with_edges (with_edges net es) others ≡ with_edges net (es ++ others)
edges-twice net es others = ap (λ all. record { lows = net.lows; caps = net.caps; edges = all }) (append_assoc net.edges es others)
