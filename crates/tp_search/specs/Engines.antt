-- A workspace and a board that answer asks together.
use Rattle.std.specs.Prelude.{◌≡◌, ℕ, Bool, false, true, List, [], ◌∷◌, ◌++◌, Option, Some, None, IsSomeAnd}
use Rattle.std.specs.Bool.{MatchBool}
use Rattle.tp_base.specs.Readings.{Reading}
use Rattle.tp_bounds.specs.declared.tree.BoundTree.{BoundTree}
use Rattle.tp_machine.specs.declared.machine.Machine.{Machine}
use Rattle.tp_schedule.specs.PlannerAnswers.{Deed}
use Rattle.tp_schedule.specs.PlannerAnswers.Deed.{replied, settled}
use Rattle.tp_schedule.specs.Plans.{end_of_plan, plan_of}
use Rattle.tp_schedule.specs.SpentBudget.{FewListsOpen}
use Rattle.tp_schedule.specs.declared.parts.Ask.{Ask}
use Rattle.tp_schedule.specs.declared.parts.Plan.{Plan}
use Rattle.tp_schedule.specs.declared.parts.Reply.{Reply}
use Rattle.tp_schedule.specs.declared.parts.Reply.TheVariants.{Never, Planned, Spent}
use Rattle.tp_bound_laws.specs.Short.{IsShortTreeFor}
use Rattle.tp_bound_laws.specs.declared.claim.Claim.TheVariants.{Earliest, Never as NeverClaim}
use Rattle.tp_placing.specs.Boards.{BoardValue}
use Rattle.tp_placing.specs.KeptBoard.{HoldsOthers}
use Rattle.tp_routes.specs.Tables.{KeepsRooms}
use Rattle.tp_search.specs.Boards.{IsAtRest}
use Rattle.tp_search.specs.Workspaces.{IsFor, WorkspaceValue, numbers_of}

-- what a search takes memory for, the board that it runs on, and whether that is kept from ask to ask; whether the last answer
-- moved another plan; whether answers are shown by trees, and the trees so far
pub record EngineValue (N : Type 0) : Type 0 where
  pub work : WorkspaceValue
  pub board : BoardValue N
  pub kept : Bool
  pub moved : Bool
  pub bounds : Bool
  pub trees : List BoundTree

-- both were made for the same numbers
pub record IsEngine {N : Type 0} (work : WorkspaceValue) (board : BoardValue N) : Type 0 where
  pub made : board.made_for ≡ numbers_of work

-- it was made for a machine with these numbers; where the board is kept, it is at rest on this machine
pub record Serves {N : Type 0} (reading : Reading N) (e : EngineValue N) (machine : Machine) : Type 0 where
  pub made : IsFor e.work machine
  pub rests : e.kept ≡ true → IsAtRest reading e.board machine

-- its board holds all plans but that of the new copy that was asked last
abbrev pub HoldsPlans : {N : Type 0} → Machine → EngineValue N → List Plan → Type 0
HoldsPlans machine e plans = IsSomeAnd e.board.ask (λ ask. HoldsOthers machine ask plans e.board.plans)

-- so it is with the plans that its last answer left, if that moved no other plan, and its rooms are of this machine
abbrev pub Follows : {N : Type 0} → Machine → EngineValue N → List Plan → Type 0
Follows machine e plans = e.moved ≡ false → HoldsPlans machine e plans × KeepsRooms e.work.rooms machine

-- where the deed is the answer that there is no plan, no more different lists with choices are open than nodes
abbrev pub HasFewLists : ℕ → Machine → List Plan → Deed → Type 0
HasFewLists nodes machine plans (replied ask Never) = FewListsOpen machine plans ask nodes
HasFewLists nodes machine plans _ = Unit {0}

-- the tree proves the answer, by few hops a node that pass no point twice: no alternative ends before the asked copy's plan, or there is none. Nothing
-- proves a spent budget
abbrev pub ProvesReply : Machine → List Plan → Ask → Reply → List Plan → BoundTree → Type 0
ProvesReply machine plans ask Planned plans' tree = (p : Plan) × (plan_of ask.sheet plans' ≡ Some p) × IsShortTreeFor machine plans ask (Earliest (end_of_plan p)) tree
ProvesReply machine plans ask Never plans' tree = IsShortTreeFor machine plans ask NeverClaim tree
ProvesReply machine plans ask (Spent bound) plans' tree = ⊥

-- a plan and a none add a tree at the list's end, which proves them; a spent budget adds none
abbrev pub AddsTree : Machine → List Plan → Ask → Reply → List Plan → List BoundTree → List BoundTree → Type 0
AddsTree machine plans ask (Spent bound) plans' trees trees' = trees' ≡ trees
AddsTree machine plans ask reply plans' trees trees' = (tree : BoundTree) × ProvesReply machine plans ask reply plans' tree × (trees' ≡ trees ++ tree ∷ [])

-- so it is with bounds; without bounds, and where times are settled, the list stays
abbrev pub KeepsTrees : Bool → Machine → List Plan → Deed → List Plan → List BoundTree → List BoundTree → Type 0
KeepsTrees bounds machine plans (replied ask reply) plans' trees trees' = MatchBool bounds (AddsTree machine plans ask reply plans' trees trees') (trees' ≡ trees)
KeepsTrees bounds machine plans (settled now) plans' trees trees' = trees' ≡ trees

-- it is for the same machines, stores as many lists, and shows bounds as before
pub record IsSameEngine {N : Type 0} (reading : Reading N) (e e' : EngineValue N) : Type 0 where
  pub nodes : e'.work.nodes ≡ e.work.nodes
  pub numbers : numbers_of e'.work ≡ numbers_of e.work
  pub made : e'.board.made_for ≡ e.board.made_for
  pub marks : reading.max_marks e'.board.net ≡ reading.max_marks e.board.net
  pub bounds : e'.bounds ≡ e.bounds

-- what a call leaves: the same engine, few open lists where it told that there is no plan, and the trees with that of the answer
pub record StepsOn {N : Type 0} (reading : Reading N) (e : EngineValue N) (machine : Machine) (plans : List Plan) (deed : Deed) (plans' : List Plan) (e' : EngineValue N) : Type 0 where
  pub same : IsSameEngine reading e e'
  pub few : HasFewLists e.work.nodes machine plans deed
  pub trees : KeepsTrees e.bounds machine plans deed plans' e.trees e'.trees

-- what no call changes
pub record EngineLasts : Type 0 where
  pub nodes : ℕ
  pub bounds : Bool

-- an answer's own tree: a plan and a none have one that proves them, a spent budget has none
abbrev pub HasTree : Machine → List Plan → Ask → List Plan → Reply → Option BoundTree → Type 0
HasTree machine plans ask plans' (Spent bound) tree = tree ≡ None
HasTree machine plans ask plans' reply tree = IsSomeAnd tree (ProvesReply machine plans ask reply plans')

abbrev pub list_of : Option BoundTree → List BoundTree
list_of None = []
list_of (Some tree) = tree ∷ []
