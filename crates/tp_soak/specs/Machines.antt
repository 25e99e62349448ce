-- The machine of a case: a feeder, its engines side by side, a tray and a purge tray.
use Rattle.std.specs.Prelude.{◌≡◌, ℕ, ◌+◌, ◌-◌, true, false, List, [], ◌∷◌, ◌++◌, length, map, codes, decimal, None, ℤ, pos, negsuc}
use Rattle.tp_machine.specs.declared.machine.Machine.{Machine}
use Rattle.tp_machine.specs.declared.parts.Action.{Action}
use Rattle.tp_machine.specs.declared.parts.Anchor.{Anchor}
use Rattle.tp_machine.specs.declared.parts.Anchor.TheVariants.{Start, End}
use Rattle.tp_machine.specs.declared.parts.Feeder.{Feeder}
use Rattle.tp_machine.specs.declared.parts.HoldRule.{HoldRule}
use Rattle.tp_machine.specs.declared.parts.LocId.{LocId}
use Rattle.tp_machine.specs.declared.parts.Resource.{Resource}
use Rattle.tp_soak.specs.declared.made_engine.MadeEngine.{MadeEngine}

-- ---- names

abbrev pub locations : List (List ℕ)
locations = codes "f" ∷ codes "a" ∷ codes "b" ∷ codes "t" ∷ codes "p" ∷ []

abbrev pub numbered : List ℕ → ℕ → List ℕ
numbered text number = text ++ decimal number

-- the engines' modules stand at the end
abbrev pub modules : List MadeEngine → List (List ℕ)
modules engines = codes "FEED" ∷ codes "OUT" ∷ codes "DUMP" ∷ map (λ e. numbered (codes "ENG") e.number) engines

-- ---- locations by their places

abbrev pub at : ℕ → LocId
at place = record { 0 = place }

abbrev pub feeder : Feeder
feeder = record { loc = at 0; media = codes "plain"; stock = None }

-- ---- resources, in the order of their names: those of the engines, and `rf` and `rt`

abbrev pub resource : List ℕ → ℕ → Resource
resource name owner = record { name = name; «module» = record { 0 = owner }; gap = 0 }

abbrev pub engine_resource : MadeEngine → Resource
engine_resource e = resource (numbered (codes "r") e.number) (2 + e.number)

abbrev pub resources : List MadeEngine → List Resource
resources engines = map engine_resource engines ++ resource (codes "rf") 0 ∷ resource (codes "rt") 1 ∷ []

-- ---- actions

abbrev pub hold : ℕ → Anchor → ℤ → Anchor → ℤ → HoldRule
hold place begin begin_off end end_off =
    record { resource = record { 0 = place }; begin = begin; begin_off = begin_off; end = end; end_off = end_off; mode = 0 }

-- an action of a module from one location to another, which prints nothing and holds nothing
abbrev pub way : List ℕ → ℕ → ℕ → ℕ → ℕ → ℕ → Action
way name owner from to least most = record {
  name = name;
  «module» = record { 0 = owner };
  from = at from;
  to = at to;
  least = least;
  most = most;
  mono = false;
  colour = false;
  flip = false;
  holds = [];
}

abbrev pub feed : ℕ → Action
feed engines = record (way (codes "feed") 0 0 1 2 4) { holds = hold engines Start (pos 0) Start (pos 2) ∷ [] }

-- an engine prints both kinds, and holds its resource from start to end
abbrev pub print : MadeEngine → Action
print e = record (way (numbered (codes "print") e.number) (2 + e.number) 1 2 e.least (e.least + 4)) {
  mono = true;
  colour = true;
  holds = hold (e.number - 1) Start (pos 0) End (pos 0) ∷ [];
}

abbrev pub out : ℕ → Action
out engines = record (way (codes "out") 1 2 3 3 30) { holds = hold (engines + 1) End (negsuc 0) End (pos 0) ∷ [] }

abbrev pub dump : Action
dump = way (codes "dump") 2 2 4 3 3

abbrev pub actions : List MadeEngine → List Action
actions engines = feed (length engines) ∷ (map print engines ++ out (length engines) ∷ dump ∷ [])

-- ---- the machine of these engines

pub record IsMachineWith (engines : List MadeEngine) (machine : Machine) : Type 0 where
  pub lead : machine.lead ≡ 2
  pub window : machine.window ≡ 300
  pub budget : machine.budget ≡ 20000
  pub locations_are : machine.locations ≡ locations
  pub modules_are : machine.modules ≡ modules engines
  pub trays : machine.trays ≡ at 3 ∷ []
  pub purges : machine.purges ≡ at 4 ∷ []
  pub feeders : machine.feeders ≡ feeder ∷ []
  pub resources_are : machine.resources ≡ resources engines
  pub actions_are : machine.actions ≡ actions engines
