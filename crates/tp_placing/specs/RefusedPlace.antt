-- Where a hold that is tried at a place has no times, what shows it, and what stands until it is taken back.
use Rattle.std.specs.Prelude.{◌≡◌, ℕ, suc, ◌<◌, ◌≤◌, List, length, take, slice_get, Some, None, All, IsSomeAnd}
use Rattle.tp_base.specs.Readings.{Reading}
use Rattle.tp_base.specs.Net.{Net, with_edges}
use Rattle.tp_base.specs.declared.edges.Edge.{Edge}
use Rattle.tp_machine.specs.declared.machine.Machine.{Machine}
use Rattle.tp_schedule.specs.Spots.{Ticks}
use Rattle.tp_schedule.specs.Spots.Spot.{own}
use Rattle.tp_schedule.specs.declared.parts.Ask.{Ask}
use Rattle.tp_constraints.specs.Nets.{IsBoardNet}
use Rattle.tp_constraints.specs.Suffixes.{Suffix, SuffixTimes, with_place}
use Rattle.tp_placing.specs.Boards.{BoardValue, untouched_of, content_of, past_of}
use Rattle.tp_placing.specs.Causes.{IsNamedHop}
use Rattle.tp_placing.specs.Reasons.{IsPart}
use Rattle.tp_placing.specs.LoadedBoard.{Stands, table_with}

-- what is kept of a refusal shows that the net has no solution with the first few of the edges
pub record IsRefused {N : Type 0} (refutes : N → Net → Type 0) (n : N) (net : Net) (es : List Edge) : Type 0 where
  pub count : ℕ
  pub within : count ≤ length es
  pub shown : refutes n (with_edges net (take count es))

-- taken back to a mark, the board stands on the machine
abbrev pub StandsBack : {N A : Type 0} → Reading N → (N → A) → BoardValue N → Machine → Type 0
StandsBack {N} reading untouched b machine =
    (back : BoardValue N) (k : ℕ) → slice_get (past_of reading b) k ≡ Some (content_of reading back) → untouched_of untouched back ≡ untouched_of untouched b → past_of reading back ≡ take k (past_of reading b) → Stands reading back machine

-- the next hold has no times at a place, nor at any before
abbrev pub HasNoTimesUpTo : {N : Type 0} → Machine → BoardValue N → ℕ → Suffix → Type 0
HasNoTimesUpTo machine b place x = IsSomeAnd b.ask (λ ask. (earlier : ℕ) → earlier ≤ place → (t : Ticks) → ¬ SuffixTimes machine b.plans ask (with_place earlier x) t)

-- with the next hold at a place, or at any before, the asked copy ends after the limit
abbrev pub EndsAfterUpTo : {N : Type 0} → Machine → BoardValue N → ℕ → ℕ → Suffix → Type 0
EndsAfterUpTo machine b place limit x = IsSomeAnd b.ask (λ ask. (earlier : ℕ) → earlier ≤ place → (t : Ticks) → SuffixTimes machine b.plans ask (with_place earlier x) t → limit < t (own 0))

-- what is kept of the last refusal is of a part of a network of the plans and the suffix, and each edge of the part is a hop
-- with its cause. So one refusal serves for several places
pub record IsPartReason {N : Type 0} (refutes : N → Net → Type 0) (b : BoardValue N) (machine : Machine) (ask : Ask) (x : Suffix) : Type 0 where
  pub net : Net
  pub is_net : IsBoardNet machine b.plans ask x (table_with b.plans (suc (length x.choices))) net
  pub late : Net
  pub part : IsPart late net
  pub hops : All (IsNamedHop machine b.plans ask x b.causes) late.edges
  pub no_limit : b.limit ≡ None
  pub shown : refutes b.net late

-- it shows that the next hold has no times at a place, nor at any before
abbrev pub HasReasonUpTo : {N : Type 0} → (N → Net → Type 0) → Machine → BoardValue N → ℕ → Suffix → Type 0
HasReasonUpTo refutes machine b place x = IsSomeAnd b.ask (λ ask. (earlier : ℕ) → earlier ≤ place → IsPartReason refutes b machine ask (with_place earlier x))
