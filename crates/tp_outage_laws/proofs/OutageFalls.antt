-- A whole outage: after it no copy is still to fall back.
use Rattle.std.proofs.Common.{◌≡◌, ℕ, ◌<◌, inl, inr, Bool, true, false, cond, List, [], ◌∷◌, map, length, refl, arith}
use Rattle.std.specs.Prelude.{◌==◌}
use Rattle.std.proofs.lemmas.Bool.Decides.{nat_tests}
use Rattle.tp_machine.specs.declared.machine.Machine.{Machine}
use Rattle.tp_jobs.specs.Backlogs.{next_copy}
use Rattle.tp_jobs.specs.WaitingCopies.{put_waiting}
use Rattle.tp_jobs.specs.declared.parts.Job.{Job}
use Rattle.tp_schedule.proofs.Membership.{Contains-here}
use Rattle.tp_schedule.specs.declared.parts.SheetId.{SheetId}
use Rattle.tp_schedule.specs.declared.records.Record.TheVariants.{Again}
use Rattle.tp_event_rules.specs.FallBacks.{Displaced, fall_back, fall_back_unless_broken, is_line_entering, job_break, later_fall_back, next_waits}
use Rattle.tp_event_rules.specs.Labels.{label}
use Rattle.tp_event_rules.specs.Lines.{is_job_broken, is_same_line}
use Rattle.tp_event_rules.specs.Outages.{displaced, going_out, outage}
use Rattle.tp_event_rules.specs.States.{Outcome, SessionState, and_then, for_each, nothing_told}
use Rattle.tp_outage_laws.proofs.Falls.{Outset, Falls, none_breaks}
use Rattle.tp_outage_laws.proofs.BreakFalls.{falls-break}
use Rattle.tp_outage_laws.proofs.FallSteps.{falls-skip, falls-waits, next_pending, state_waits}
use Rattle.tp_outage_laws.proofs.JobFacts.{same-length, same-tray, unbroken}
use Rattle.tp_outage_laws.proofs.LaterFalls.{falls-later}
use Rattle.tp_outage_laws.proofs.OutFalls.{falls-out}

module _ (machine : Machine) (base : Outset) where
  pub lines-same : (jobs : List Job) → map unbroken jobs ≡ map unbroken base.jobs → (a b : SheetId) → is_same_line jobs a b ≡ is_same_line base.jobs a b
  lines-same jobs e a b = (λ i. (same-tray base.jobs jobs e a i).0 == (same-tray base.jobs jobs e b i).0)

  -- a copy of a job that is not broken falls back
  pub falls-back : (s : SessionState) (d : Displaced) (ds : List Displaced) → Falls machine base none_breaks s (d ∷ ds) → is_job_broken s.jobs d.sheet.job ≡ false → Falls machine base none_breaks (fall_back s d).state ds
  falls-back s d ds f whole = enters (is_line_entering s d.sheet) refl where
    known : d.sheet.job < length s.jobs
    known = let k = (f.pending d (Contains-here d ds)).0 in let same = same-length base.jobs s.jobs f.same in let low : d.sheet.job < length base.jobs = grind (arith, nat_tests) in omega arith

    falls : (a : Bool) → d.again ≡ a → is_line_entering s d.sheet ≡ false
        → Falls machine base none_breaks (later_fall_back d.sheet (cond {A = Outcome} a (record {
          records = Again (label s.jobs (next_copy d.sheet)) ∷ [];
          state = record s { waiting = put_waiting s.waiting (record { sheet = next_copy d.sheet; want = d.want }) };
        }) (nothing_told s)).state).state ds
    falls true e none =
        falls-later machine base (state_waits machine base s d ds f) (next_pending machine base s d ds f) ds (falls-waits machine base s d ds f e whole) d.sheet (inr refl) refl none (lines-same s.jobs f.same)
    falls false e none = falls-later machine base s d ds f d.sheet (inl refl) e none (lines-same s.jobs f.same)

    enters : (b : Bool) → is_line_entering s d.sheet ≡ b → Falls machine base none_breaks (cond {A = Outcome} b (job_break d.sheet.job s) (and_then (next_waits d s) (later_fall_back d.sheet))).state ds
    enters true e = falls-break machine base s d ds f known
    enters false e = falls d.again refl e

  pub falls-unless : (s : SessionState) (d : Displaced) (ds : List Displaced) → Falls machine base none_breaks s (d ∷ ds) → Falls machine base none_breaks (fall_back_unless_broken s d).state ds
  falls-unless s d ds f = go (is_job_broken s.jobs d.sheet.job) refl where
    go : (b : Bool) → is_job_broken s.jobs d.sheet.job ≡ b → Falls machine base none_breaks (cond {A = Outcome} b (nothing_told s) (fall_back s d)).state ds
    go true e = falls-skip machine base s d ds f e
    go false e = falls-back s d ds f e

  falls-each : (ds : List Displaced) (s : SessionState) → Falls machine base none_breaks s ds → Falls machine base none_breaks (for_each fall_back_unless_broken ds s).state []
  falls-each [] s f = f
  falls-each (d ∷ ds) s f = falls-each ds (fall_back_unless_broken s d).state (falls-unless s d ds f)

  pub falls-outage : (m : ℕ) (jam : Bool) (s : SessionState) → Falls machine base none_breaks s [] → Falls machine base none_breaks (outage machine m jam s).state []
  falls-outage m jam s f = falls-each (displaced machine m jam s) (going_out machine m jam s).state (falls-out machine base m jam s f)
