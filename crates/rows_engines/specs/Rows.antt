-- The network of the rows.
use Rattle.std.specs.Prelude.{ℕ, [], ◌∷◌, ℤ, pos}
use Rattle.tp_base.specs.declared.edges.Edge.{Edge}
use Rattle.tp_base.specs.Net.{Net}

abbrev pub edge_of : ℕ → ℕ → ℤ → Edge
edge_of from to weight = record { from = record { 0 = from }; to = record { 0 = to }; weight = weight; tag = 0 }

-- A, B and C, where B is 5 after A at least, and C is 2 after B
abbrev pub three_points : Net
three_points = record { lows = 0 ∷ 3 ∷ 0 ∷ []; caps = 20 ∷ 20 ∷ 20 ∷ []; edges = edge_of 0 1 (pos 5) ∷ edge_of 1 2 (pos 2) ∷ [] }
