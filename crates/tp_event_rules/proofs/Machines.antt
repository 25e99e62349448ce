-- Two machines by hand, and the sheets of the rows.
use Rattle.std.proofs.Common.{ℕ, Bool, true, false, List, [], ◌∷◌, None, refl, codes, ℤ, pos, negsuc}
use Rattle.tp_machine.specs.declared.parts.ActId.{ActId}
use Rattle.tp_machine.specs.declared.parts.Action.{Action}
use Rattle.tp_machine.specs.declared.parts.Anchor.{Anchor}
use Rattle.tp_machine.specs.declared.parts.Anchor.TheVariants.{Start, End}
use Rattle.tp_machine.specs.declared.parts.Face.TheVariants.{Front as FrontUp}
use Rattle.tp_machine.specs.declared.parts.HoldRule.{HoldRule}
use Rattle.tp_machine.specs.declared.parts.LocId.{LocId}
use Rattle.tp_machine.specs.declared.parts.Sheet.{Sheet}
use Rattle.tp_machine.specs.declared.parts.Want.TheVariants.{Blank, Mono}
use Rattle.tp_machine.specs.declared.machine.Machine.{Machine}
use Rattle.tp_machine.proofs.Amounts.{amounts_by}
use Rattle.tp_machine.proofs.NameFacts.{named_by, few_by}

abbrev pub loc : ℕ → LocId
loc n = record { 0 = n }

abbrev pub act : ℕ → ActId
act n = record { 0 = n }

abbrev pub hold : ℕ → Anchor → ℤ → Anchor → ℤ → HoldRule
hold r b boff e eoff = record { resource = record { 0 = r }; begin = b; begin_off = boff; end = e; end_off = eoff; mode = 0 }

abbrev pub action : List ℕ → ℕ → ℕ → ℕ → ℕ → ℕ → Bool → Bool → List HoldRule → Action
action name m from to least most mono colour holds = record {
  name = name;
  «module» = record { 0 = m };
  from = loc from;
  to = loc to;
  least = least;
  most = most;
  mono = mono;
  colour = colour;
  flip = false;
  holds = holds;
}

-- two engines, ENG1 for mono and colour and ENG2 for mono; the tray t, and the purge tray p
abbrev pub duo : Machine
duo = record {
  lead = 2;
  window = 200;
  budget = 20000;
  locations = codes "f" ∷ codes "a" ∷ codes "b" ∷ codes "t" ∷ codes "p" ∷ [];
  modules = codes "FEED" ∷ codes "ENG1" ∷ codes "ENG2" ∷ codes "OUT" ∷ codes "DUMP" ∷ [];
  trays = loc 3 ∷ [];
  purges = loc 4 ∷ [];
  feeders = record { loc = loc 0; media = codes "plain"; stock = None } ∷ [];
  resources = record { name = codes "r1"; «module» = record { 0 = 1 }; gap = 0 } ∷ record { name = codes "r2"; «module» = record { 0 = 2 }; gap = 0 }
      ∷ record { name = codes "rf"; «module» = record { 0 = 0 }; gap = 0 } ∷ record { name = codes "rt"; «module» = record { 0 = 3 }; gap = 0 } ∷ [];
  actions =
      action (codes "feed") 0 0 1 2 4 false false (hold 2 Start (pos 0) Start (pos 2) ∷ [])
      ∷ action (codes "print1") 1 1 2 9 12 true true (hold 0 Start (pos 0) End (pos 0) ∷ [])
      ∷ action (codes "print2") 2 1 2 6 8 true false (hold 1 Start (pos 0) End (pos 0) ∷ [])
      ∷ action (codes "out") 3 2 3 3 30 false false (hold 3 End (negsuc 0) End (pos 0) ∷ [])
      ∷ action (codes "dump") 4 2 4 3 3 false false []
      ∷ [];
  numbers = refl;
  counts = refl;
  good_trays = refl;
  good_purges = refl;
  good_feeders = refl;
  good_resources = refl;
  amounts = amounts_by _ _ _ refl;
  names_differ = refl;
  ways = refl;
  durations = refl;
  holds = refl;
  named = named_by _ _ _ _ _ refl;
  few_holds = few_by _ refl;
}

-- two ways from the feeder to the tray t, over L and over R; no purge tray
abbrev pub twin : Machine
twin = record {
  lead = 2;
  window = 200;
  budget = 20000;
  locations = codes "f" ∷ codes "a" ∷ codes "t" ∷ [];
  modules = codes "FEED" ∷ codes "L" ∷ codes "R" ∷ [];
  trays = loc 2 ∷ [];
  purges = [];
  feeders = record { loc = loc 0; media = codes "plain"; stock = None } ∷ [];
  resources = record { name = codes "rf"; «module» = record { 0 = 0 }; gap = 0 } ∷ record { name = codes "rr"; «module» = record { 0 = 2 }; gap = 0 } ∷ [];
  actions =
      action (codes "feed") 0 0 1 2 2 false false (hold 0 Start (pos 0) End (pos 0) ∷ [])
      ∷ action (codes "left") 1 1 2 8 8 false false []
      ∷ action (codes "right") 2 1 2 5 20 false false (hold 1 Start (pos 0) End (pos 0) ∷ [])
      ∷ [];
  numbers = refl;
  counts = refl;
  good_trays = refl;
  good_purges = refl;
  good_feeders = refl;
  good_resources = refl;
  amounts = amounts_by _ _ _ refl;
  names_differ = refl;
  ways = refl;
  durations = refl;
  holds = refl;
  named = named_by _ _ _ _ _ refl;
  few_holds = few_by _ refl;
}

abbrev pub mono_sheet : Sheet
mono_sheet = record { media = codes "plain"; front = Mono; back = Blank; face = FrontUp }

abbrev pub blank_sheet : Sheet
blank_sheet = record { media = codes "plain"; front = Blank; back = Blank; face = FrontUp }
