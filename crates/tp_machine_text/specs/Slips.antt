-- Where a text breaks a rule, and how the first such place is found.
use Rattle.std.specs.Prelude.{ℕ, suc, Bool, true, false, List, [], ◌∷◌, codes, Option, Some, None, option_map}
use Rattle.toml.specs.Data.{Data}
use Rattle.tp_machine_text.specs.declared.slip.Key.{Key}
use Rattle.tp_machine_text.specs.declared.slip.Key.TheVariants as key
use Rattle.tp_machine_text.specs.declared.slip.Part.{Part}
use Rattle.tp_machine_text.specs.declared.slip.Wrong.{Wrong}
use Rattle.tp_machine_text.specs.declared.slip.Slip.{Slip}

abbrev pub key_text : Key → List ℕ
key_text key.Format = codes "format"
key_text key.Lead = codes "lead"
key_text key.Window = codes "window"
key_text key.Budget = codes "budget"
key_text key.Locations = codes "locations"
key_text key.Modules = codes "modules"
key_text key.Trays = codes "trays"
key_text key.Purge = codes "purge"
key_text key.Feeders = codes "feeders"
key_text key.Resources = codes "resources"
key_text key.Actions = codes "actions"
key_text key.Gaps = codes "gaps"
key_text key.Stock = codes "stock"
key_text key.Name = codes "name"
key_text key.Module = codes "module"
key_text key.From = codes "from"
key_text key.To = codes "to"
key_text key.Least = codes "least"
key_text key.Most = codes "most"
key_text key.Prints = codes "prints"
key_text key.Flip = codes "flip"
key_text key.Holds = codes "holds"
key_text key.Resource = codes "resource"
key_text key.Begin = codes "begin"
key_text key.End = codes "end"
key_text key.Mode = codes "mode"

-- a slip of the text itself; its rule comes later
abbrev pub slip : Part → Wrong → Slip
slip part wrong = record { rule = 0; action = None; hold = None; part = part; wrong = wrong }

abbrev pub of_rule : ℕ → Slip → Slip
of_rule n s = record s { rule = n }

abbrev pub in_action : ℕ → Slip → Slip
in_action n s = record s { action = Some n }

abbrev pub in_hold : ℕ → Slip → Slip
in_hold n s = record s { hold = Some n }

-- nothing where the test holds, else the slip
abbrev pub unless : Bool → Slip → Option Slip
unless true s = None
unless false s = Some s

-- the first of two
abbrev pub or_slip : Option Slip → Option Slip → Option Slip
or_slip None later = later
or_slip (Some s) later = Some s

-- the first slip among values, each looked at with its number and the values behind it
abbrev pub first_in : (ℕ → Data → List Data → Option Slip) → ℕ → List Data → Option Slip
first_in look n [] = None
first_in look n (d ∷ ds) = or_slip (look n d ds) (first_in look (suc n) ds)

-- the first slip among those of rules, the first of which has the number n
abbrev pub first_of : ℕ → List (Option Slip) → Option Slip
first_of n [] = None
first_of n (s ∷ more) = or_slip (option_map (of_rule n) s) (first_of (suc n) more)
