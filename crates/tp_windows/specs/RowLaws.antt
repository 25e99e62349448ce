-- Kept holds that are read from the orders of a board and from windows.
use Rattle.std.specs.Prelude.{◌≡◌, List, [], ◌∷◌, ◌≤ℤ◌}
use Rattle.tp_schedule.specs.Spots.{Slot, begin_at, end_at}
use Rattle.tp_windows.specs.Windows.{Windows}
use Rattle.tp_windows.specs.declared.gaps.KeptHold.{KeptHold}

-- the kept hold is that of the slot, which ends no sooner in the windows, and begins no later
pub record IsKeptOf (w : Windows) (k : KeptHold) (s : Slot) : Type 0 where
  pub rule : k.rule ≡ s.rule
  pub end : k.end ≤ℤ end_at w.lo s
  pub begin : begin_at w.hi s ≤ℤ k.begin

abbrev pub AreKeptOf : Windows → List KeptHold → List Slot → Type 0
AreKeptOf w [] [] = Unit {0}
AreKeptOf w [] (s ∷ slots) = ⊥
AreKeptOf w (k ∷ ks) [] = ⊥
AreKeptOf w (k ∷ ks) (s ∷ slots) = IsKeptOf w k s × AreKeptOf w ks slots
