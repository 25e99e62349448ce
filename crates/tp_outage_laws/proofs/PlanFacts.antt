-- Plans of their jobs.
use Rattle.std.proofs.Common.{◌≡◌, ℕ, ◌<◌, Bool, true, false, ◌&&◌, not, List, [], ◌∷◌, length, refl, sym, arith, All, Contains, subst, slice_get, get_or}
use Rattle.std.specs.Str.{bytes_eq}
use Rattle.std.proofs.lemmas.Bool.{and_parts}
use Rattle.std.proofs.lemmas.Bool.Decides.{nat_tests}
use Rattle.std.proofs.lemmas.List.Elements.{All-contains, Contains-get_or}
use Rattle.std.proofs.lemmas.Option.{slice_get-get_or}
use Rattle.tp_machine.specs.declared.machine.Machine.{Machine}
use Rattle.tp_jobs.specs.Backlogs.{tray_of, tray_in}
use Rattle.tp_jobs.specs.declared.parts.Job.{Job}
use Rattle.tp_schedule.specs.Plans.{goes_to, is_delivered_to, is_front}
use Rattle.tp_schedule.specs.declared.parts.Goal.{Goal}
use Rattle.tp_schedule.specs.declared.parts.Goal.TheVariants.{Tray, Purge}
use Rattle.tp_schedule.specs.declared.parts.Plan.{Plan}
use Rattle.tp_schedule.specs.declared.parts.SheetId.{SheetId}
use Rattle.tp_event_rules.specs.StateInvariants.{is_known, is_of_its_job, is_own_goal}
use Rattle.tp_event_rules.specs.Labels.{job_name}
use Rattle.tp_event_rules.specs.Moments.{is_tray_plan, is_to_tray}

pub not-false : (b : Bool) → not b ≡ true → b ≡ false
not-false true e = absurd (cc)
not-false false e = refl

pub known-of : (jobs : List Job) (p : Plan) → is_of_its_job jobs p ≡ true → is_known jobs p.sheet ≡ true
known-of jobs p e = (and_parts (is_known jobs p.sheet) _ (and_parts (is_known jobs p.sheet && bytes_eq p.name (job_name jobs p.sheet.job)) _ e).0).0

-- the tray of a job is one of the machine's
pub tray-known : (machine : Machine) (jobs : List Job) (c : SheetId) → All (λ j. Contains machine.trays j.tray) jobs → is_known jobs c ≡ true → Contains machine.trays (tray_of jobs c)
tray-known machine jobs c trays known = go jobs c.job trays (grind (arith, nat_tests)) where
  go : (l : List Job) (n : ℕ) → All (λ j. Contains machine.trays j.tray) l → n < length l → Contains machine.trays (tray_in (slice_get l n))
  go [] n all within = absurd (omega arith)
  go (j ∷ l) n all within =
      subst (λ o. Contains machine.trays (tray_in o)) (sym (slice_get-get_or (j ∷ l) n j within))
      (All-contains (λ j. Contains machine.trays j.tray) (j ∷ l) (get_or (j ∷ l) n j) all (Contains-get_or (j ∷ l) n j within))

pub is-delivered : (jobs : List Job) (p : Plan) → is_tray_plan p ≡ true → is_of_its_job jobs p ≡ true → is_delivered_to p (tray_of jobs p.sheet).0 ≡ true
is-delivered jobs p tray own =
    let parts = and_parts (not (is_front p.kind)) (is_to_tray p.goal) tray in
    both (not (is_front p.kind)) (goes_to p.goal (tray_of jobs p.sheet).0) parts.0
    (go p.goal parts.1 (and_parts (is_known jobs p.sheet && bytes_eq p.name (job_name jobs p.sheet.job)) (is_own_goal p.goal (tray_of jobs p.sheet).0) own).1) where
      go : (g : Goal) → is_to_tray g ≡ true → is_own_goal g (tray_of jobs p.sheet).0 ≡ true → goes_to g (tray_of jobs p.sheet).0 ≡ true
      go (Tray t) to is = is
      go Purge to is = absurd (cc)

      both : (a b : Bool) → a ≡ true → b ≡ true → (a && b) ≡ true
      both a b e f = rw (e, f) refl
