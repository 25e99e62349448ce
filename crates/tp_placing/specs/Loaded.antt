-- What plans must keep to be loaded, and what a network and orders are once they are.
use Rattle.std.specs.Prelude.{ℕ, ◌<◌, ◌≤◌, ◌≡◌, false, List, ◌++◌, length, All}
use Rattle.tp_base.specs.Net.{Net, HasLeast}
use Rattle.tp_base.specs.declared.edges.Edge.{Edge}
use Rattle.tp_base.specs.declared.edges.PointId.{PointId}
use Rattle.tp_machine.specs.declared.machine.Machine.{Machine}
use Rattle.tp_schedule.specs.Answers.{KeepsHorizon}
use Rattle.tp_schedule.specs.Limits.{most_live}
use Rattle.tp_schedule.specs.PlannerAnswers.{last_tick}
use Rattle.tp_schedule.specs.Spots.{slot_order}
use Rattle.tp_schedule.specs.declared.parts.Ask.{Ask}
use Rattle.tp_schedule.specs.declared.parts.Plan.{Plan}
use Rattle.tp_timelines.specs.Orders.{order_on, total}
use Rattle.tp_constraints.specs.Moments.{SayGaps}
use Rattle.tp_constraints.specs.Hops.{no_choices}
use Rattle.tp_constraints.specs.Laws.{IsLoadable}
use Rattle.tp_constraints.specs.Nets.{IsLoadedNet}
use Rattle.tp_constraints.specs.Numbers.{table_of}
use Rattle.tp_placing.specs.Causes.{ArePlain, IsNamedHop, IsSafe, step_causes}
use Rattle.tp_placing.specs.declared.causes.EdgeCause.{EdgeCause}
use Rattle.tp_placing.specs.declared.parts.Held.{Held}
use Rattle.tp_placing.specs.LoadedNet.{plans_edges, lines_edges, chains_edges, holds_on}
use Rattle.tp_placing.specs.LoadedBoard.{AreFirsts, AreSlots, HasSmallOffsets, loaded_edges, loaded_holds}

-- plans that can be loaded at the moment
pub record CanLoad (machine : Machine) (now : ℕ) (plans : List Plan) : Type 0 where
  pub now_at_most : now ≤ last_tick
  pub loadable : IsLoadable machine now (λ _. false) plans
  pub horizon : KeepsHorizon machine now plans
  pub few : length plans ≤ most_live

-- the edges of plans and of the orders of their holds
abbrev pub all_edges : Machine → List Plan → List (List ℕ) → List Held → List Edge
all_edges machine plans timelines held = plans_edges machine 0 plans ++ (lines_edges 0 plans ++ chains_edges machine step_causes (holds_on held timelines) (length machine.resources))

-- the network is that of the plans, the orders are those of their holds, and the causes those of its edges
pub record IsLoaded (machine : Machine) (now : ℕ) (plans : List Plan) (n : Net) (timelines : List (List ℕ)) (held : List Held) (firsts : List PointId) (causes : List EdgeCause) : Type 0 where
  pub net : IsLoadedNet machine now (λ _. false) plans (table_of plans) n
  pub says : SayGaps machine plans n.edges
  pub solved : HasLeast n
  pub hops : (ask : Ask) → All (IsNamedHop machine plans ask no_choices causes) n.edges
  pub safe : All (IsSafe 0) n.edges
  pub plain : ArePlain causes
  pub orders : (resource : ℕ) → resource < length machine.resources → AreSlots (table_of plans) held (order_on timelines resource) (slot_order machine plans resource)
  pub few_edges : length n.edges ≤ loaded_edges
  pub few_holds : length held ≤ loaded_holds
  pub all_held : total timelines ≡ length held
  pub small : All (λ h. HasSmallOffsets h.rule) held
  pub at_firsts : AreFirsts 0 plans firsts
