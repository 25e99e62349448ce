-- Lists that grow with use, as they are at their full length.
use Rattle.std.specs.Prelude.{ℕ, zero, suc, List, [], ◌∷◌, replicate}

-- the items, with fillers behind them up to this length
abbrev pub padded : {T : Type 0} → T → ℕ → List T → List T
padded filler most [] = replicate most filler
padded filler zero (item ∷ items) = item ∷ items
padded filler (suc most) (item ∷ items) = item ∷ padded filler most items
