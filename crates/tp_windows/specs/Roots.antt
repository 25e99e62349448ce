-- What a walk over halves begins with.
use Rattle.std.specs.Prelude.{ℕ, false, List, length, IfSome}
use Rattle.tp_base.specs.Net.{Net}
use Rattle.tp_machine.specs.declared.machine.Machine.{Machine}
use Rattle.tp_schedule.specs.declared.parts.Ask.{Ask}
use Rattle.tp_schedule.specs.declared.parts.Plan.{Plan}
use Rattle.tp_constraints.specs.Nets.{IsLoadedNet}
use Rattle.tp_constraints.specs.Numbers.{table_of}
use Rattle.tp_placing.specs.Edges.{is_ahead, is_behind}
use Rattle.tp_placing.specs.ReadOrders.{IsEndIn}
use Rattle.tp_routes.specs.Index.{IsIndexOf}
use Rattle.tp_routes.specs.declared.index.ActEnd.TheVariants.{From}
use Rattle.tp_windows.specs.Arrays.{IsBetween, IsTimes}
use Rattle.tp_windows.specs.RestTables.{rest_of}
use Rattle.tp_windows.specs.Sides.{AreWide, HaveBoth}
use Rattle.tp_windows.specs.Ways.{IsRest}
use Rattle.tp_windows.specs.declared.root.Root.{Root}

-- the root of a walk was read from the loaded plans and their network
pub record IsRoot (machine : Machine) (plans : List Plan) (ask : Ask) (net : Net) (root : Root) : Type 0 where
  pub is_net : IsLoadedNet machine ask.now (λ _. false) plans (table_of plans) net
  pub wide : AreWide (length (table_of plans)) root.ranges
  pub edges : HaveBoth (length (table_of plans)) net.edges root.edges
  pub rests : IsRest machine ask (rest_of root.rests.rests.items)
  pub starts : IsIndexOf From machine root.starts.firsts.items root.starts.nexts.items
  pub ahead : IfSome root.ahead (IsEndIn (is_ahead ask) plans)
  pub behind : IfSome root.behind (IsEndIn (is_behind ask) plans)

-- its ranges hold all times that end the line before this limit
pub record IsRootBy (machine : Machine) (plans : List Plan) (ask : Ask) (net : Net) (limit : ℕ) (root : Root) : Type 0 where
  pub read : IsRoot machine plans ask net root
  pub between : (y : ℕ → ℕ) → IsTimes plans ask (table_of plans) net limit y → IsBetween y root.ranges.lows.items root.ranges.highs.items
