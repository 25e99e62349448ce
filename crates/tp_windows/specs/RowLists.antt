-- The rows of kept holds, cut from one list.
use Rattle.std.specs.Prelude.{ℕ, zero, suc, ◌≤◌, List, [], ◌∷◌, length, slice_index, slice_range, All}
use Rattle.tp_machine.specs.ModuleUse.{begin_of, end_of}
use Rattle.tp_windows.specs.Rows.{IsNear}
use Rattle.tp_windows.specs.declared.gaps.KeptHold.{KeptHold}

-- what clauses see of kept rows
pub record KeptRowsValue : Type 0 where
  pub rows : List (List KeptHold)

-- the rows that end at these places, the first one from a place on
abbrev pub rows_from : List KeptHold → ℕ → List ℕ → List (List KeptHold)
rows_from holds from [] = []
rows_from holds from (e ∷ ends) = slice_range holds from e ∷ rows_from holds e ends

-- where a row begins
abbrev pub start_of : ℕ → List ℕ → ℕ → ℕ
start_of from ends zero = from
start_of from ends (suc at) = slice_index ends at

-- these places rise from one to another
abbrev pub AreRising : ℕ → List ℕ → ℕ → Type 0
AreRising from [] last = from ≤ last
AreRising from (e ∷ ends) last = (from ≤ e) × AreRising e ends last

pub record AreCut (holds : List KeptHold) (ends : List ℕ) : Type 0 where
  pub near : All IsNear holds
  pub rising : AreRising 0 ends (length holds)

-- the hold with its times by the least and the greatest times of points
abbrev pub timed : List ℕ → List ℕ → KeptHold → KeptHold
timed lows highs k = record {
  rule = k.rule;
  end = end_of k.rule (slice_index lows k.from.0) (slice_index lows k.to.0);
  begin = begin_of k.rule (slice_index highs k.from.0) (slice_index highs k.to.0);
  soonest = begin_of k.rule (slice_index lows k.from.0) (slice_index lows k.to.0);
  from = k.from;
  to = k.to;
}
