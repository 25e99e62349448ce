-- Points whose lower bound passes their upper one.
use Rattle.std.proofs.Common.{◌≡◌, ℕ, ◌<◌, List, [], ◌∷◌, ◌++◌, length, get_or, ap, refl, ◌∙◌, arith}
use Rattle.std.proofs.lemmas.Int.{ints}
use Rattle.std.proofs.lemmas.List.{length-append}
use Rattle.std.proofs.Math.Seq.{get_or-append_seam}
use Rattle.tp_base.specs.declared.edges.Edge.{Edge}
use Rattle.tp_base.specs.Net.{Net, with_point, with_edges}
use Rattle.tp_base.specs.Refute.{IsLateChain}

-- the last of a longer list
at_end : (xs : List ℕ) (x n : ℕ) → n ≡ length xs → get_or (xs ++ x ∷ []) n 0 ≡ x
at_end xs x n e = ap (λ i. get_or (xs ++ x ∷ []) i 0) e ∙ get_or-append_seam xs x [] 0

-- a new point whose lower bound passes its upper one
pub late_point : (net : Net) (low cap : ℕ) (edges : List Edge) (n : ℕ) → length net.caps ≡ length net.lows → n ≡ length net.lows → cap < low → IsLateChain (with_edges (with_point net low cap) edges) n []
late_point net low cap edges n same is passes =
    let l = length-append net.lows (low ∷ []) in
    let low_is = at_end net.lows low n is in
    let cap_is = at_end net.caps cap n (omega arith) in
    record {
      last = n;
      leads = refl;
      in_net = λ k d i. absurd (omega arith);
      known = omega arith;
      last_known = omega arith;
      passes = omega (arith, ints);
      apart = λ i j a b q. absurd (omega arith);
    }
