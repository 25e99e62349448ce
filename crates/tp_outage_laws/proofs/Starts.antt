-- Between events what is kept of lines, sheets and broken jobs is what is kept in the midst of an outage.
use Rattle.std.proofs.Common.{◌≡◌, ℕ, Bool, Contains, []}
use Rattle.tp_machine.specs.declared.machine.Machine.{Machine}
use Rattle.tp_schedule.specs.declared.parts.Plan.{Plan}
use Rattle.tp_event_rules.specs.Moments.{is_tray_plan}
use Rattle.tp_event_rules.specs.States.{SessionState}
use Rattle.tp_outage_laws.specs.Through.{KeepsCopies, KeepsThrough}
use Rattle.tp_outage_laws.proofs.Falls.{HasSheets, outset_of, Falls, is_open, none_breaks}
use Rattle.tp_outage_laws.proofs.FromCopies.{copies-fall, copies-mid, copies-open}
use Rattle.tp_outage_laws.proofs.Midway.{IsMid}

module _ (machine : Machine) (s : SessionState) (k : KeepsThrough machine s) where
  pub copies-kept : KeepsCopies machine s
  copies-kept = record { plans = k.plans; lines = k.lines; broken = k.broken; older = k.older; purges = k.purges }

  pub open-is : (p : Plan) → Contains s.plans p → is_open s p ≡ is_tray_plan p
  open-is = copies-open machine s copies-kept

  pub begins-mid : IsMid machine s
  begins-mid = copies-mid machine s copies-kept

  pub starts : (is_sheet : ℕ → ℕ → Bool) (exempt : ℕ → Bool) → HasSheets (outset_of s is_sheet exempt) s → Falls machine (outset_of s is_sheet exempt) none_breaks s []
  starts = copies-fall machine s copies-kept
