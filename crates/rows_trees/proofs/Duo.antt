-- DUO with its asks, and the words of trees over it.
use Rattle.std.proofs.Common.{ℕ, Bool, true, false, List, [], ◌∷◌, Option, None, refl, codes, ℤ, pos, negsuc}
use Rattle.tp_bounds.specs.declared.hops.Hop.{Hop}
use Rattle.tp_bounds.specs.declared.hops.Hop.TheVariants.{Duration}
use Rattle.tp_bounds.specs.declared.hops.TreePoint.TheVariants.{Own as OwnPoint, Kept as KeptPoint}
use Rattle.tp_bounds.specs.declared.tree.BoundTree.{BoundTree}
use Rattle.tp_bounds.specs.declared.tree.Close.{Close}
use Rattle.tp_bounds.specs.declared.tree.Head.{Head}
use Rattle.tp_bounds.specs.declared.tree.Head.TheVariants.{Goal as GoalHead}
use Rattle.tp_bounds.specs.declared.tree.Node.{Node}
use Rattle.tp_bounds.specs.declared.tree.TreeRow.{TreeRow}
use Rattle.tp_machine.specs.declared.parts.ActId.{ActId}
use Rattle.tp_machine.specs.declared.parts.Action.{Action}
use Rattle.tp_machine.specs.declared.parts.Anchor.{Anchor}
use Rattle.tp_machine.specs.declared.parts.Anchor.TheVariants.{Start, End}
use Rattle.tp_machine.specs.declared.parts.Face.TheVariants.{Front as FrontUp}
use Rattle.tp_machine.specs.declared.parts.HoldRule.{HoldRule}
use Rattle.tp_machine.specs.declared.parts.LocId.{LocId}
use Rattle.tp_machine.specs.declared.parts.Sheet.{Sheet}
use Rattle.tp_machine.specs.declared.parts.Want.TheVariants.{Blank, Mono}
use Rattle.tp_machine.specs.declared.machine.Machine.{Machine}
use Rattle.tp_machine.proofs.Amounts.{amounts_by}
use Rattle.tp_machine.proofs.NameFacts.{named_by, few_by}
use Rattle.tp_schedule.specs.LocationSets.{nowhere}
use Rattle.tp_schedule.specs.declared.parts.Ask.{Ask}
use Rattle.tp_schedule.specs.declared.parts.Goal.TheVariants.{Tray}
use Rattle.tp_schedule.specs.declared.parts.Kind.TheVariants.{Whole}
use Rattle.tp_schedule.specs.declared.parts.Origin.TheVariants.{Feeder as FromFeeder}
use Rattle.tp_schedule.specs.declared.parts.Plan.{Plan}
use Rattle.tp_schedule.specs.declared.parts.SheetId.{SheetId}
use Rattle.tp_schedule.specs.declared.records.SheetName.{SheetName}
use Rattle.tp_bound_laws.specs.Claims.{limit_of, live_part}
use Rattle.tp_bound_laws.specs.Flaws.{tree_flaw}
use Rattle.tp_bound_laws.specs.declared.claim.Claim.{Claim}
use Rattle.tp_bound_laws.specs.declared.claim.TreeFlaw.{TreeFlaw}

abbrev pub loc : ℕ → LocId
loc n = record { 0 = n }

abbrev pub act : ℕ → ActId
act n = record { 0 = n }

abbrev pub hold : ℕ → Anchor → ℤ → Anchor → ℤ → HoldRule
hold r b boff e eoff = record { resource = record { 0 = r }; begin = b; begin_off = boff; end = e; end_off = eoff; mode = 0 }

abbrev pub action : List ℕ → ℕ → ℕ → ℕ → ℕ → ℕ → Bool → Bool → List HoldRule → Action
action name m from to least most mono colour holds = record {
  name = name;
  «module» = record { 0 = m };
  from = loc from;
  to = loc to;
  least = least;
  most = most;
  mono = mono;
  colour = colour;
  flip = false;
  holds = holds;
}

abbrev pub duo : Machine
duo = record {
  lead = 2;
  window = 200;
  budget = 20000;
  locations = codes "f" ∷ codes "a" ∷ codes "b" ∷ codes "t" ∷ codes "p" ∷ [];
  modules = codes "FEED" ∷ codes "ENG1" ∷ codes "ENG2" ∷ codes "OUT" ∷ codes "DUMP" ∷ [];
  trays = loc 3 ∷ [];
  purges = loc 4 ∷ [];
  feeders = record { loc = loc 0; media = codes "plain"; stock = None } ∷ [];
  resources = record { name = codes "r1"; «module» = record { 0 = 1 }; gap = 0 } ∷ record { name = codes "r2"; «module» = record { 0 = 2 }; gap = 0 }
      ∷ record { name = codes "rf"; «module» = record { 0 = 0 }; gap = 0 } ∷ record { name = codes "rt"; «module» = record { 0 = 3 }; gap = 0 } ∷ [];
  actions =
      action (codes "feed") 0 0 1 2 4 false false (hold 2 Start (pos 0) Start (pos 2) ∷ [])
      ∷ action (codes "print1") 1 1 2 9 12 true true (hold 0 Start (pos 0) End (pos 0) ∷ [])
      ∷ action (codes "print2") 2 1 2 6 8 true false (hold 1 Start (pos 0) End (pos 0) ∷ [])
      ∷ action (codes "out") 3 2 3 3 30 false false (hold 3 End (negsuc 0) End (pos 0) ∷ [])
      ∷ action (codes "dump") 4 2 4 3 3 false false []
      ∷ [];
  named = named_by _ _ _ _ _ refl;
  numbers = refl;
  counts = refl;
  good_trays = refl;
  good_purges = refl;
  good_feeders = refl;
  good_resources = refl;
  amounts = amounts_by _ _ _ refl;
  names_differ = refl;
  ways = refl;
  durations = refl;
  few_holds = few_by _ refl;
  holds = refl;
}

-- with a window in which no sheet can end
abbrev pub narrow : Machine
narrow = record duo { window = 13; numbers = refl }

abbrev pub mono_sheet : Sheet
mono_sheet = record { media = codes "plain"; front = Mono; back = Blank; face = FrontUp }

abbrev pub copy : ℕ → SheetId
copy n = record { job = 0; number = n; copy = 1 }

abbrev pub first_plan : Plan
first_plan = record { sheet = copy 1; name = codes "j1"; want = mono_sheet; goal = Tray (loc 3); kind = Whole; acts = act 0 ∷ act 2 ∷ act 3 ∷ []; points = 3 ∷ 5 ∷ 11 ∷ 14 ∷ []; released = 0 }

-- a sheet asked at 0, with these modules out
abbrev pub asks : ℕ → ℕ → Ask
asks n outs = record { sheet = copy n; name = codes "j1"; want = mono_sheet; goal = Tray (loc 3); origin = FromFeeder; outs = record { 0 = outs }; empty = nowhere; now = 0 }

-- what is wrong with a tree for a claim
abbrev pub flaw_in : Machine → List Plan → Ask → Claim → BoundTree → Option TreeFlaw
flaw_in machine plans ask claim tree = tree_flaw machine (live_part machine ask plans) ask (limit_of machine ask claim) tree

abbrev pub flaw_for : List Plan → Ask → Claim → BoundTree → Option TreeFlaw
flaw_for plans ask claim tree = flaw_in duo plans ask claim tree

-- ---- words of trees
abbrev pub row : List ℕ → Bool → ℕ → TreeRow
row place front room = record { state = record { place = place; up = FrontUp; front_done = front; back_done = false }; room = room }

abbrev pub five_rows : List TreeRow
five_rows = row (codes "f") false 0 ∷ row (codes "a") false 2 ∷ row (codes "b") true 8 ∷ row (codes "t") true 11 ∷ row (codes "p") true 11 ∷ []

abbrev pub node : ℕ → Head → Close → Node
node depth head close = record { depth = depth; head = head; close = close }

abbrev pub goal_node : Close → Node
goal_node close = node 0 (GoalHead (record { place = codes "t"; up = FrontUp; front_done = true; back_done = false })) close

abbrev pub first : SheetName
first = record { job = codes "j1"; number = 1; copy = 1 }

-- durations to a point of one's own, and to one of the first sheet's
abbrev pub own : ℕ → Hop
own n = Duration (OwnPoint n)

abbrev pub first_point : ℕ → Hop
first_point n = Duration (KeptPoint first n)
