-- What every machine keeps: the rules of its text, said of the machine itself.
use Rattle.std.specs.Prelude.{◌≡◌, ◌≢◌, ℕ, ◌+◌, ◌≤◌, ◌<◌, List, length, Some, IfSome, All, AllPairs, Contains, IsTrue, ℤ, pos, negsuc, ◌≤ℤ◌, ◌<ℤ◌, map}
use Rattle.tp_base.specs.NameText.{is_name_text}
use Rattle.tp_machine.specs.Limits.{longest, most_act_holds, most_actions, most_budget, most_locations, most_mode, most_modules, most_resources, most_stock, most_window}
use Rattle.tp_machine.specs.Modes.{gap_at}
use Rattle.tp_machine.specs.Rules.{do_names_rise, feeder_names}
use Rattle.tp_machine.specs.ModuleUse.{action_at, begin_of, end_of}
use Rattle.tp_machine.specs.declared.parts.Action.{Action}
use Rattle.tp_machine.specs.declared.parts.HoldRule.{HoldRule}
use Rattle.tp_machine.specs.declared.parts.LocId.{LocId}
use Rattle.tp_machine.specs.declared.machine.Machine.{Machine}

abbrev pub IsLocation : Machine → LocId → Type 0
IsLocation machine loc = loc.0 < length machine.locations

-- a location at which nothing is put away: neither a tray nor a purge tray
abbrev pub IsOpenLocation : Machine → LocId → Type 0
IsOpenLocation machine loc = (¬ Contains machine.trays loc) × (¬ Contains machine.purges loc)

-- an action leads from a location that is no tray or purge tray to one that is no feeder
pub record IsWay (machine : Machine) (a : Action) : Type 0 where
  pub module_known : a.module.0 < length machine.modules
  pub from_known : IsLocation machine a.from
  pub to_known : IsLocation machine a.to
  pub leaves : IsOpenLocation machine a.from
  pub no_feeder : ¬ Contains (map (λ f. f.loc) machine.feeders) a.to

-- for each duration of its action the hold is not empty and begins at or after the action's start
abbrev pub IsSoundRule : Action → HoldRule → Type 0
IsSoundRule a rule = (start end : ℕ) → start + a.least ≤ end → end ≤ start + a.most → (begin_of rule start end <ℤ end_of rule start end) × (pos start ≤ℤ begin_of rule start end)

abbrev pub IsOffset : ℤ → Type 0
IsOffset z = (negsuc 8191 ≤ℤ z) × (z ≤ℤ pos 8192)

abbrev pub IsName : List ℕ → Type 0
IsName text = IsTrue (is_name_text text)

-- no two of the names are the same
abbrev pub AreDifferent : List (List ℕ) → Type 0
AreDifferent names = AllPairs (λ a b. a ≢ b) names

pub record IsMachine (machine : Machine) : Type 0 where
  pub lead : machine.lead ≤ longest
  pub window : (1 ≤ machine.window) × (machine.window ≤ most_window)
  pub budget : (1 ≤ machine.budget) × (machine.budget ≤ most_budget)
  pub locations : (1 ≤ length machine.locations) × (length machine.locations ≤ most_locations)
  pub modules : (1 ≤ length machine.modules) × (length machine.modules ≤ most_modules)
  pub resources : length machine.resources ≤ most_resources
  pub actions : (1 ≤ length machine.actions) × (length machine.actions ≤ most_actions)
  pub location_names : All IsName machine.locations × AreDifferent machine.locations
  pub module_names : All IsName machine.modules × AreDifferent machine.modules
  pub media_names : All (λ f. IsName f.media) machine.feeders
  pub resource_names : All (λ r. IsName r.name) machine.resources × AreDifferent (map (λ r. r.name) machine.resources)
  pub action_names : All (λ a. IsName a.name) machine.actions × AreDifferent (map (λ a. a.name) machine.actions)
  pub some_tray : 1 ≤ length machine.trays
  pub trays_differ : AllPairs (λ p q. p ≢ q) machine.trays
  pub purges_differ : AllPairs (λ p q. p ≢ q) machine.purges
  pub trays : All (IsLocation machine) machine.trays
  pub purges : All (λ p. IsLocation machine p × ¬ Contains machine.trays p) machine.purges
  pub some_feeder : 1 ≤ length machine.feeders
  pub feeders : All (λ f. IsLocation machine f.loc × IsOpenLocation machine f.loc) machine.feeders
  pub feeders_rise : IsTrue (do_names_rise (feeder_names machine.locations machine.feeders))
  pub resources_rise : IsTrue (do_names_rise (map (λ r. r.name) machine.resources))
  pub resource_modules : All (λ r. r.module.0 < length machine.modules) machine.resources
  pub gaps : (resource : ℕ) → gap_at machine resource ≤ longest
  pub stocks : All (λ f. IfSome f.stock (λ n. n ≤ most_stock)) machine.feeders
  pub ways : (n : ℕ) (a : Action) → action_at machine n ≡ Some a → IsWay machine a
  pub lasts : (n : ℕ) (a : Action) → action_at machine n ≡ Some a → 1 ≤ a.least
  pub in_range : (n : ℕ) (a : Action) → action_at machine n ≡ Some a → (a.least ≤ a.most) × (a.most ≤ longest)
  pub few_holds : (n : ℕ) (a : Action) → action_at machine n ≡ Some a → length a.holds ≤ most_act_holds
  pub known : (n : ℕ) (a : Action) → action_at machine n ≡ Some a → (rule : HoldRule) → Contains a.holds rule → rule.resource.0 < length machine.resources
  pub offsets : (n : ℕ) (a : Action) → action_at machine n ≡ Some a → (rule : HoldRule) → Contains a.holds rule → IsOffset rule.begin_off × IsOffset rule.end_off
  pub modes : (n : ℕ) (a : Action) → action_at machine n ≡ Some a → (rule : HoldRule) → Contains a.holds rule → rule.mode ≤ most_mode
  pub sound : (n : ℕ) (a : Action) → action_at machine n ≡ Some a → (rule : HoldRule) → Contains a.holds rule → IsSoundRule a rule
  pub differ : (n : ℕ) (a : Action) → action_at machine n ≡ Some a → AllPairs (λ h k. h.resource.0 ≢ k.resource.0) a.holds
