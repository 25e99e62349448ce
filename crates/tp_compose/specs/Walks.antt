-- Walks of a sheet through a rack, from part to part. They know no location names and no table of a machine.
use Rattle.std.specs.Prelude.{◌≡◌, ◌≢◌, ℕ, List, [], ◌∷◌, map, Some, All, Any, Contains, ◌⊎◌}
use Rattle.toml.specs.Data.{Data, string, Members}
use Rattle.std.specs.Prelude.{codes}
use Rattle.tp_machine.specs.Steps.{step_of}
use Rattle.tp_machine.specs.ModuleUse.{action_at}
use Rattle.tp_machine.specs.declared.parts.ActId.{ActId}
use Rattle.tp_machine.specs.declared.parts.Action.{Action}
use Rattle.tp_machine.specs.declared.parts.LocId.{LocId}
use Rattle.tp_machine.specs.declared.parts.Sheet.{Sheet}
use Rattle.tp_machine.specs.declared.parts.State.{State}
use Rattle.tp_machine.specs.declared.machine.Machine.{Machine}
use Rattle.tp_schedule.specs.Routes.{walk, fresh, finished, IsFreshStart}
use Rattle.tp_machine_text.specs.Words.{elements, text_of, text_at}
use Rattle.tp_machine_text.specs.Keys.{texts_at}
use Rattle.tp_machine_text.specs.TheMachine.{action_of}
use Rattle.tp_compose.specs.Racks.{joins, feeders, entries, typed_parts, type_actions, dotted, hyphened}

-- a part, and an action of its type
abbrev pub Pair : Type 0
Pair = List ℕ × Data

abbrev pub IsPair : Members → Pair → Type 0
IsPair r x = Any (λ p. (p.0 ≡ x.0) × Contains (type_actions p.1) x.1) (typed_parts r)

-- the two ENDs stand in one join, in this order
abbrev pub IsJoined : Members → List ℕ → List ℕ → Type 0
IsJoined r e f = Any (λ j. map text_of (elements j) ≡ e ∷ f ∷ []) (joins r)

-- two ENDs are one place where they are equal or joined
abbrev pub IsOnePlace : Members → List ℕ → List ℕ → Type 0
IsOnePlace r e f = (e ≡ f) ⊎ (IsJoined r e f ⊎ IsJoined r f e)

-- all of a rack is one location here: what a pair does is known by the prints and the flip of its action alone
abbrev pub anywhere : LocId
anywhere = record { 0 = 0 }

abbrev pub work_of : Data → Action
work_of a = action_of [] [] [] a

-- the END from which a pair leads, and that to which it leads
abbrev pub from_end : Pair → List ℕ
from_end x = dotted x.0 (text_at (codes "from") x.1)

abbrev pub to_end : Pair → List ℕ
to_end x = dotted x.0 (text_at (codes "to") x.1)

-- from this END and with these sides done the pairs lead the sheet one after another to a tray, where it is finished
abbrev pub LeadsOn : Members → Sheet → List Pair → List ℕ → State → Type 0
LeadsOn r sheet [] at s = Any (IsOnePlace r at) (texts_at (codes "trays") r) × (s ≡ finished sheet anywhere)
LeadsOn r sheet (x ∷ xs) at s =
    (next : State) × IsOnePlace r at (from_end x) × (step_of (work_of x.1) sheet s ≡ Some next) × LeadsOn r sheet xs (to_end x) next

-- a walk: at least one pair of the rack, from an END that feeds the sheet's media to a tray
pub record IsWalk (r : Members) (sheet : Sheet) (xs : List Pair) : Type 0 where
  pub some : xs ≢ []
  pub pairs : All (IsPair r) xs
  pub feeder : List ℕ
  pub feeds : Contains (entries (feeders r)) (feeder, string sheet.media)
  pub leads : LeadsOn r sheet xs feeder (fresh anywhere)

-- the pair is that of a machine's action
pub record IsPairOf (r : Members) (machine : Machine) (act : ActId) (x : Pair) : Type 0 where
  pub is_pair : IsPair r x
  pub action : Action
  pub is_action : action_at machine act.0 ≡ Some action
  pub named : action.name ≡ hyphened x.0 (text_at (codes "name") x.1)

-- the pairs are those of the actions, one by one
abbrev pub ArePairsOf : Members → Machine → List ActId → List Pair → Type 0
ArePairsOf r machine [] [] = Unit {0}
ArePairsOf r machine (act ∷ acts) (x ∷ xs) = IsPairOf r machine act x × ArePairsOf r machine acts xs
ArePairsOf r machine _ _ = ⊥

-- a route of a new copy to some tray
pub record IsNewRoute (machine : Machine) (sheet : Sheet) (acts : List ActId) : Type 0 where
  pub some : acts ≢ []
  pub start : State
  pub is_start : IsFreshStart machine sheet start
  pub tray : LocId
  pub is_tray : Contains machine.trays tray
  pub leads : walk machine sheet acts start ≡ Some (finished sheet tray)
