-- The machine of a table. Where a rule says that a value is there, what stands here for its absence is never used.
use Rattle.std.specs.Prelude.{◌≡◌, ℕ, suc, Bool, false, if◌then◌else◌, List, [], ◌∷◌, map, option_map, Option, Some, None, codes}
use Rattle.std.specs.Str.{bytes_eq}
use Rattle.toml.specs.Data.{Data, boolean, Members, no_members, member, get_member, get}
use Rattle.tp_machine.specs.declared.parts.Action.{Action}
use Rattle.tp_machine.specs.declared.parts.Feeder.{Feeder}
use Rattle.tp_machine.specs.declared.parts.HoldRule.{HoldRule}
use Rattle.tp_machine.specs.declared.parts.LocId.{LocId}
use Rattle.tp_machine.specs.declared.parts.ModId.{ModId}
use Rattle.tp_machine.specs.declared.parts.ResId.{ResId}
use Rattle.tp_machine.specs.declared.parts.Resource.{Resource}
use Rattle.tp_machine.specs.declared.machine.Machine.{Machine}
use Rattle.tp_machine_text.specs.Words.{elements_in, members_at, text_of, text_at, whole_of, is_among}
use Rattle.tp_machine_text.specs.Keys as text
use Rattle.tp_machine_text.specs.HoldRules.{holds, anchor_at, offset_at, number_of, least_of, most_of}

-- the place of a name among names, counted from 0
abbrev pub place_in : List (List ℕ) → List ℕ → ℕ
place_in [] text = 0
place_in (name ∷ names) text = if bytes_eq text name then 0 else suc (place_in names text)

abbrev pub loc_of : List (List ℕ) → List ℕ → LocId
loc_of locations text = record { 0 = place_in locations text }

abbrev pub module_of : List (List ℕ) → List ℕ → ModId
module_of modules text = record { 0 = place_in modules text }

abbrev pub resource_of : List (List ℕ) → List ℕ → ResId
resource_of resources text = record { 0 = place_in resources text }

-- the whole number at a key, or what stands for it where the key is absent
abbrev pub number_or : ℕ → Option Data → ℕ
number_or absent None = absent
number_or absent (Some d) = number_of (whole_of d)

-- the whole number at a key of a table, where it is there
unfoldable pub amount_at : List ℕ → Members → Option ℕ
amount_at key amounts = option_map (λ d. number_of (whole_of d)) (get_member key amounts)

abbrev pub or_zero : Option ℕ → ℕ
or_zero None = 0
or_zero (Some n) = n

-- a feeder for each location of the table, with its medium, and its stock by another table
abbrev pub feeders_of : List (List ℕ) → Members → Members → List Feeder
feeders_of locations stocks no_members = []
feeders_of locations stocks (member key d ms) = record { loc = loc_of locations key; media = text_of d; stock = amount_at key stocks } ∷ feeders_of locations stocks ms

-- a resource for each key of the table, with its module, and its gap by another table
abbrev pub resources_of : List (List ℕ) → Members → Members → List Resource
resources_of modules gaps no_members = []
resources_of modules gaps (member key d ms) = record { name = key; «module» = module_of modules (text_of d); gap = or_zero (amount_at key gaps) } ∷ resources_of modules gaps ms

unfoldable pub hold_of : List (List ℕ) → Data → HoldRule
hold_of resources h = record {
  resource = resource_of resources (text_at (codes "resource") h);
  begin = anchor_at (codes "begin") h;
  begin_off = offset_at (codes "begin") h;
  end = anchor_at (codes "end") h;
  end_off = offset_at (codes "end") h;
  mode = number_or 0 (get (codes "mode") h);
}

abbrev pub prints_word : List ℕ → Data → Bool
prints_word word a = is_among (map text_of (elements_in (get (codes "prints") a))) word

-- false where it is absent
abbrev pub truth_in : Option Data → Bool
truth_in (Some (boolean b)) = b
truth_in _ = false

unfoldable pub action_of : List (List ℕ) → List (List ℕ) → List (List ℕ) → Data → Action
action_of locations modules resources a = record {
  name = text_at (codes "name") a;
  «module» = module_of modules (text_at (codes "module") a);
  from = loc_of locations (text_at (codes "from") a);
  to = loc_of locations (text_at (codes "to") a);
  least = least_of a;
  most = most_of a;
  mono = prints_word (codes "mono") a;
  colour = prints_word (codes "colour") a;
  flip = truth_in (get (codes "flip") a);
  holds = map (hold_of resources) (holds a);
}

-- the machine is that of the table: lists in the order of the text, feeders and resources in the byte order of their names
pub record IsMachineOf (t : Members) (machine : Machine) : Type 0 where
  pub lead : machine.lead ≡ number_or 0 (get_member (codes "lead") t)
  pub window : machine.window ≡ number_or 2000 (get_member (codes "window") t)
  pub budget : machine.budget ≡ number_or 20000 (get_member (codes "budget") t)
  pub locations : machine.locations ≡ text.locations t
  pub modules : machine.modules ≡ text.modules t
  pub trays : machine.trays ≡ map (loc_of (text.locations t)) (text.trays t)
  pub purges : machine.purges ≡ map (loc_of (text.locations t)) (text.purges t)
  pub feeders : machine.feeders ≡ feeders_of (text.locations t) (text.stocks t) (members_at (codes "feeders") t)
  pub resources : machine.resources ≡ resources_of (text.modules t) (text.gaps t) (members_at (codes "resources") t)
  pub actions : machine.actions ≡ map (action_of (text.locations t) (text.modules t) (text.resources t)) (text.actions t)
