-- One step of a round, and what an answer says.
use Rattle.std.proofs.Common.{◌≡◌, ℕ, ◌<◌, List, length, get_or, Option, Some, None, refl, arith}
use Rattle.std.specs.Prelude.{IsSome, IfNone, is_some, false}
use Rattle.std.proofs.lemmas.Bool.{true≢false}
use Rattle.std.specs.List.{All}
use Rattle.tp_base.specs.declared.edges.Edge.{Edge}
use Rattle.tp_base.specs.Grows.{IsKnown}

-- one more step of a round, of which a point rose or none
pub still_less : {P : Type 0} (last : Option P) (a b c : ℕ) → (IsSome last → b < c) → (last ≡ None → b ≡ c) → a < b → a < c
still_less None a b c h k l = let e = k refl in omega arith
still_less (Some p) a b c h k l = let e = h refl in omega arith

-- an edge's end is a known point
pub end_known : (count n : ℕ) (edges : List Edge) (k : ℕ) (d : Edge) → All (IsKnown count) edges → k < length edges → n ≡ count → (get_or edges k d).to.0 < n
end_known count n edges k d all h e = let f = (all k d h).to in omega arith

pub none_of : {X : Type 0} (o : Option X) (P : Type 0) → IfNone o P → is_some o ≡ false → P
none_of None P h e = h
none_of (Some x) P h e = absurd (true≢false e)
