-- What a refusal shows: of which network it is, and that each of its edges may be cited.
use Rattle.std.specs.Prelude.{◌≡◌, ℕ, suc, ◌<◌, ◌≤◌, length, slice_get, slice_index, pos, All, Contains, Some, None, IsSomeAnd}
use Rattle.tp_base.specs.Net.{Net, with_edge, with_point}
use Rattle.tp_base.specs.declared.edges.PointId.{PointId}
use Rattle.tp_machine.specs.declared.machine.Machine.{Machine}
use Rattle.tp_schedule.specs.Spots.Spot.{own}
use Rattle.tp_schedule.specs.declared.parts.Ask.{Ask}
use Rattle.tp_constraints.specs.Nets.{IsBoardNet}
use Rattle.tp_constraints.specs.Suffixes.{Suffix}
use Rattle.tp_placing.specs.Boards.{BoardValue}
use Rattle.tp_placing.specs.Causes.{IsNamedHop, limit_tag}
use Rattle.tp_placing.specs.declared.causes.EdgeCause.TheVariants.{Limit}
use Rattle.tp_placing.specs.Edges.{edge_of}
use Rattle.tp_placing.specs.LoadedBoard.{table_with}

-- a network with the same points, whose least times are no later, and with some of the edges
pub record IsPart (part whole : Net) : Type 0 where
  pub points : length part.lows ≡ length whole.lows
  pub lows : (i : ℕ) → i < length part.lows → slice_index part.lows i ≤ slice_index whole.lows i
  pub caps : part.caps ≡ whole.caps
  pub edges : All (Contains whole.edges) part.edges

-- what is kept of the last refusal is of a part of the net
pub record IsShown {N : Type 0} (refutes : N → Net → Type 0) (n : N) (net : Net) : Type 0 where
  pub late : Net
  pub shown : refutes n late
  pub part : IsPart late net

-- what is kept of the last refusal is of the network of the plans and the suffix, and each of its edges is a hop with its
-- cause
pub record IsReason {N : Type 0} (refutes : N → Net → Type 0) (b : BoardValue N) (machine : Machine) (ask : Ask) (x : Suffix) : Type 0 where
  pub net : Net
  pub is_net : IsBoardNet machine b.plans ask x (table_with b.plans (suc (length x.choices))) net
  pub hops : All (IsNamedHop machine b.plans ask x b.causes) net.edges
  pub no_limit : b.limit ≡ None
  pub shown : IsShown refutes b.net net

abbrev pub HasReason : {N : Type 0} → (N → Net → Type 0) → Machine → BoardValue N → Suffix → Type 0
HasReason refutes machine b x = IsSomeAnd b.ask (λ ask. IsReason refutes b machine ask x)

-- a network with one point more, of no time after a tick, by which a point must have come
abbrev pub with_limit : Net → PointId → ℕ → Net
with_limit net point last = with_edge (with_point net 0 last) (edge_of point (record { 0 = length net.lows }) (pos 0) limit_tag)

-- what is kept of the last refusal is of the network of the plans and the suffix with the end bound to a tick. Each edge
-- but the last is a hop with its cause, and the last has the limit's
pub record IsEndReason {N : Type 0} (refutes : N → Net → Type 0) (b : BoardValue N) (machine : Machine) (ask : Ask) (x : Suffix) (last : ℕ) : Type 0 where
  pub net : Net
  pub is_net : IsBoardNet machine b.plans ask x (table_with b.plans (suc (length x.choices))) net
  pub hops : All (IsNamedHop machine b.plans ask x b.causes) net.edges
  pub end : PointId
  pub is_end : slice_get (table_with b.plans (suc (length x.choices))) end.0 ≡ Some (own 0)
  pub limit : b.limit ≡ Some (record { 0 = length net.lows })
  pub limit_cause : slice_get b.causes limit_tag ≡ Some Limit
  pub shown : IsShown refutes b.net (with_limit net end last)

abbrev pub HasEndReason : {N : Type 0} → (N → Net → Type 0) → Machine → BoardValue N → Suffix → ℕ → Type 0
HasEndReason refutes machine b x last = IsSomeAnd b.ask (λ ask. IsEndReason refutes b machine ask x last)
