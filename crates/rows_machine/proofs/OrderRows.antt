-- Orders and holders of the rows' schedules, by computation: the definitions give what the rows say.
use Rattle.std.proofs.Common.{◌≡◌, ℕ, true, false, List, [], ◌∷◌, refl, codes}
use Rattle.tp_machine.specs.Modes.{gap_at}
use Rattle.tp_machine.specs.declared.parts.ActId.{ActId}
use Rattle.tp_machine.specs.declared.parts.Sheet.{Sheet}
use Rattle.tp_schedule.specs.Holders.{held}
use Rattle.tp_schedule.specs.LivePlans.{is_live}
use Rattle.tp_schedule.specs.Spots.{order_of}
use Rattle.tp_schedule.specs.declared.parts.Goal.TheVariants.{Tray}
use Rattle.tp_schedule.specs.declared.parts.Hold.{Hold}
use Rattle.tp_schedule.specs.declared.parts.Kind.TheVariants.{Whole, Front}
use Rattle.tp_schedule.specs.declared.parts.Plan.{Plan}
use Rattle.tp_schedule.specs.declared.parts.SheetId.{SheetId}
use Rattle.rows_machine.proofs.MachineRows.{duo, tail, act, loc, mono_sheet, blank_sheet}

abbrev copy : ℕ → SheetId
copy n = record { job = 0; number = n; copy = 1 }

abbrev whole : ℕ → Sheet → ℕ → List ActId → List ℕ → Plan
whole n want tray acts points = record {
  sheet = copy n;
  name = codes "j1";
  want = want;
  goal = Tray (loc tray);
  kind = Whole;
  acts = acts;
  points = points;
  released = 0;
}

abbrev by : ℕ → ℕ → Hold
by n i = record { sheet = copy n; act = i }

-- two sheets on DUO: the second is fed before the first
abbrev two : List Plan
two = whole 1 mono_sheet 3 (act 0 ∷ act 2 ∷ act 3 ∷ []) (5 ∷ 7 ∷ 13 ∷ 16 ∷ []) ∷ whole 2 mono_sheet 3 (act 0 ∷ act 1 ∷ act 3 ∷ []) (3 ∷ 5 ∷ 14 ∷ 17 ∷ []) ∷ []

pub feeds : order_of duo two 2 ≡ by 2 1 ∷ by 1 1 ∷ []
feeds = refl

pub outs : order_of duo two 3 ≡ by 1 3 ∷ by 2 3 ∷ []
outs = refl

pub first_prints : order_of duo two 0 ≡ by 2 2 ∷ []
first_prints = refl

pub second_prints : order_of duo two 1 ≡ by 1 2 ∷ []
second_prints = refl

-- a front holds what its actions hold
abbrev front : List Plan
front = record (whole 1 mono_sheet 3 (act 0 ∷ act 2 ∷ []) (3 ∷ 5 ∷ 11 ∷ [])) { kind = Front; released = 2 } ∷ []

pub front_holds : order_of duo front 1 ≡ by 1 2 ∷ []
front_holds = refl

-- TAIL's feed holds its resource until 5 ticks after its end
abbrev one : Plan
one = whole 1 blank_sheet 2 (act 0 ∷ act 1 ∷ []) (3 ∷ 5 ∷ 8 ∷ [])

pub held_at_9 : held tail (one ∷ []) 0 9 ≡ by 1 1 ∷ []
held_at_9 = refl

pub free_at_10 : held tail (one ∷ []) 0 10 ≡ []
free_at_10 = refl

pub live_at_9 : is_live tail 9 one ≡ true
unfolding gap_at
live_at_9 = refl

pub past_at_10 : is_live tail 10 one ≡ false
unfolding gap_at
past_at_10 = refl
