-- What a state keeps besides where it came from the empty one: with what it keeps between events, it stands where it is sound to
-- go on from.
use Rattle.std.specs.Prelude.{◌≡◌, ℕ, ◌+◌, ◌<◌, ◌≤◌, List, length, Some, All, IsTrue, if◌then◌else◌, ℤ, pos, ◌+ℤ◌, ◌≤ℤ◌}
use Rattle.tp_machine.specs.declared.machine.Machine.{Machine}
use Rattle.tp_machine.specs.declared.parts.Feeder.{Feeder}
use Rattle.tp_schedule.specs.Plans.{is_front, point}
use Rattle.tp_schedule.specs.declared.parts.Plan.{Plan}
use Rattle.tp_schedule.specs.declared.parts.SheetId.{SheetId}
use Rattle.tp_stock.specs.Stock.{by_location, feeder_at, is_counted, refilled}
use Rattle.tp_jobs.specs.JobRefusals.{has_media}
use Rattle.tp_jobs.specs.declared.parts.WaitingCopy.{WaitingCopy}
use Rattle.tp_session_standing.specs.Sound.{AreModules, last_sheet, most_free}
use Rattle.tp_event_rules.specs.Ready.{CanTakeEvents, KeepsStock}
use Rattle.tp_event_rules.specs.States.{SessionState}

-- sheets and copies are numbered from 1, and a job has at most 4,096 sheets
pub record IsCounted (copy : SheetId) : Type 0 where
  pub sheets : (1 ≤ copy.number) × (copy.number ≤ last_sheet)
  pub copies : 1 ≤ copy.copy

-- each point of the plan, released or not, is within the window; each action that is released starts by now + lead; and a front is
-- released whole
pub record KeepsPlan (machine : Machine) (now : ℕ) (p : Plan) : Type 0 where
  pub counted : IsCounted p.sheet
  pub within : (i : ℕ) → i ≤ length p.acts → point p i ≤ now + machine.window
  pub due : (i : ℕ) → i < p.released → point p i ≤ now + machine.lead
  pub front : IsTrue (is_front p.kind) → p.released ≡ length p.acts

-- a feeder has the media of the copy that waits
pub record KeepsWaiting (machine : Machine) (w : WaitingCopy) : Type 0 where
  pub counted : IsCounted w.sheet
  pub media : IsTrue (has_media machine w.want.media)

-- a stock and its refills are at most what may be free once a refill was taken, with the sheets of all live plans; and only where
-- sheets are counted there are refills
pub record KeepsRefills (machine : Machine) (refills : List ℤ) : Type 0 where
  pub few : (loc : ℕ) (f : Feeder) (stock : ℕ) → feeder_at machine loc ≡ Some f → f.stock ≡ Some stock
      → (pos stock +ℤ refilled refills loc) ≤ℤ pos most_free
  pub counted : refills ≡ by_location (λ loc. if is_counted machine loc then refilled refills loc else pos 0)

-- modules that are out are the machine's, and so it is with each plan, each copy that waits and the stock
pub record KeepsSound (machine : Machine) (s : SessionState) : Type 0 where
  pub outs : AreModules machine s.outs
  pub plans : All (KeepsPlan machine s.now) s.plans
  pub waiting : All (KeepsWaiting machine) s.waiting
  pub stock : KeepsRefills machine s.refills

-- after so many events from the empty state on: any event can be taken, no copy has a greater number, no stock is overdrawn, and the
-- rest is kept
pub record CanBeSaved (machine : Machine) (events : ℕ) (s : SessionState) : Type 0 where
  pub can : CanTakeEvents machine events s
  pub stocked : KeepsStock machine events s
  pub sound : KeepsSound machine s
