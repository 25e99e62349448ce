-- What holds of a net at each moment.
use Rattle.std.specs.Prelude.{◌≡◌, length}
use Rattle.std.specs.List.{All}
use Rattle.tp_base.specs.Net.{Net, HasLeast}
use Rattle.tp_base.specs.Grows.{IsKnown, AreWithin}

-- a low below each cap, edges between points, and a solution
pub record IsSound (net : Net) : Type 0 where
  pub caps : length net.caps ≡ length net.lows
  pub within : AreWithin net.caps net.lows
  pub known : All (IsKnown (length net.lows)) net.edges
  pub solved : HasLeast net
