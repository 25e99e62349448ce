-- What clashes in a schedule that is not legal.
use Rattle.std.specs.Prelude.{◌≡◌, ◌≢◌, ℕ, ◌≤◌, Bool, nat_le, List, AllPairs, Contains, IsTrue, ℤ, pos, ◌+ℤ◌, ◌≤ℤ◌, ◌<ℤ◌}
use Rattle.tp_machine.specs.Modes.{gap_at, gap_between}
use Rattle.tp_machine.specs.declared.machine.Machine.{Machine}
use Rattle.tp_schedule.specs.Plans.{IsTimedPlan, end_of_plan, is_before, is_delivered_to}
use Rattle.tp_schedule.specs.Spots.{AreApart, Slot, begin_at, end_at, hold_in, slots, ticks_of}
use Rattle.tp_schedule.specs.declared.parts.Hold.{Hold}
use Rattle.tp_schedule.specs.declared.parts.Plan.{Plan}
use Rattle.tp_schedule.specs.declared.parts.SheetId.{SheetId}
use Rattle.tp_schedule_check.specs.declared.clash.Clash.{Clash}
use Rattle.tp_schedule_check.specs.declared.clash.Clash.TheVariants.{NotTimed, Overlap, OutOfLine}
use Rattle.tp_schedule_check.specs.declared.line_ends.PlanEnd.{PlanEnd}

-- the copy has a plan that is no timed plan
pub record IsNotTimed (machine : Machine) (plans : List Plan) (sheet : SheetId) : Type 0 where
  pub plan : Plan
  pub planned : Contains plans plan
  pub of : plan.sheet ≡ sheet
  pub not_timed : ¬ IsTimedPlan machine plan

-- two holds of a resource, of which one begins no later than the other; it is over, with the gap between them, at a tick at which the
-- other has begun
pub record DoOverlap (machine : Machine) (plans : List Plan) (earlier later : Hold) (free begin : ℤ) : Type 0 where
  pub resource : ℕ
  pub one : Slot
  pub other : Slot
  pub one_held : Contains (slots machine resource plans) one
  pub other_held : Contains (slots machine resource plans) other
  pub differ : earlier ≢ later
  pub earlier_is : hold_in one ≡ earlier
  pub later_is : hold_in other ≡ later
  pub free_is : end_at (ticks_of plans) one +ℤ pos (gap_between (gap_at machine resource) one.rule other.rule) ≡ free
  pub begin_is : begin_at (ticks_of plans) other ≡ begin
  pub first : begin_at (ticks_of plans) one ≤ℤ begin_at (ticks_of plans) other
  pub clash : begin <ℤ free

-- the copies have whole plans to one tray, of which the one that is later in the order of copies does not end later
pub record AreOutOfLine (plans : List Plan) (earlier later : SheetId) (end later_end : ℕ) : Type 0 where
  pub one : Plan
  pub other : Plan
  pub one_planned : Contains plans one
  pub other_planned : Contains plans other
  pub earlier_is : one.sheet ≡ earlier
  pub later_is : other.sheet ≡ later
  pub before : IsTrue (is_before earlier later)
  pub tray : ℕ
  pub one_to : IsTrue (is_delivered_to one tray)
  pub other_to : IsTrue (is_delivered_to other tray)
  pub end_is : end_of_plan one ≡ end
  pub later_end_is : end_of_plan other ≡ later_end
  pub clash : later_end ≤ end

abbrev pub IsClash : Machine → List Plan → Clash → Type 0
IsClash machine plans (NotTimed sheet) = IsNotTimed machine plans sheet
IsClash machine plans (Overlap earlier later free begin) = DoOverlap machine plans earlier later free begin
IsClash machine plans (OutOfLine earlier later end later_end) = AreOutOfLine plans earlier later end later_end

-- on each resource whichever hold is earlier stands apart before the other
abbrev pub AreHoldsApart : Machine → List Plan → Type 0
AreHoldsApart machine plans = (resource : ℕ) → AllPairs (AreApart (gap_at machine resource) (ticks_of plans)) (slots machine resource plans)

-- a line whose later end is not later
abbrev pub is_late : PlanEnd × PlanEnd → Bool
is_late pair = nat_le pair.1.tick pair.0.tick
