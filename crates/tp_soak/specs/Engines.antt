-- The engines of a case.
use Rattle.std.specs.Prelude.{ℕ, ◌+◌, List, [], ◌∷◌, ◌++◌, fold, take}
use Rattle.tp_soak.specs.Draws.{next, drawn}
use Rattle.tp_soak.specs.declared.made_engine.MadeEngine.{MadeEngine}

-- the state of the draws, and the engines so far
pub record Drawing : Type 0 where
  pub state : ℕ
  pub engines : List MadeEngine

-- one engine more: its least duration is 4 and a draw of 8
abbrev pub with_engine : Drawing → ℕ → Drawing
with_engine d number = record {
  state = next d.state;
  engines = d.engines ++ record { number = number; least = 4 + drawn 8 (next d.state) } ∷ [];
}

-- there are 2 engines and a draw of 3 more, numbered from 1
abbrev pub numbers : ℕ → List ℕ
numbers x = take (2 + drawn 3 x) (1 ∷ 2 ∷ 3 ∷ 4 ∷ [])

-- the engines that are drawn from a state
abbrev pub draw_engines : ℕ → Drawing
draw_engines x = fold with_engine (record { state = next x; engines = [] }) (numbers (next x))
