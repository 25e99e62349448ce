-- All that a sound standing tells of has a name.
use Rattle.std.proofs.Common.{◌≡◌, ℕ, ◌<◌, true, ◌&&◌, length, get_or, Option, Contains, inl, inr, refl, sym, subst, arith}
use Rattle.std.specs.Prelude.{slice_get}
use Rattle.std.specs.List.{list_all}
use Rattle.std.specs.Str.{bytes_eq}
use Rattle.std.proofs.lemmas.Bool.{and_from, and_parts, eqb-true, lt-ltb, ltb-true}
use Rattle.std.proofs.lemmas.Option.{slice_get_cases}
use Rattle.std.proofs.lemmas.List.Elements.{All-contains}
use Rattle.std.proofs.lemmas.List.Sums.{list_all-from_AllPass}
use Rattle.tp_machine.proofs.MachineFacts.{is_machine}
use Rattle.tp_machine.specs.Machines.{IsLocation}
use Rattle.tp_machine.specs.declared.machine.Machine.{Machine}
use Rattle.tp_machine.specs.declared.parts.LocId.{LocId}
use Rattle.tp_schedule.specs.Plans.{IsTimedPlan}
use Rattle.tp_schedule.specs.declared.parts.Goal.{Goal}
use Rattle.tp_schedule.specs.declared.parts.Goal.TheVariants.{Tray, Purge}
use Rattle.tp_schedule.specs.declared.parts.Plan.{Plan}
use Rattle.tp_jobs.specs.Backlogs.{tray_in}
use Rattle.tp_jobs.specs.declared.parts.Job.{Job}
use Rattle.tp_jobs.specs.declared.standing.Standing.{Standing}
use Rattle.tp_event_records.proofs.NameFacts.{acts-known}
use Rattle.tp_event_rules.specs.StateInvariants.{is_known, is_own_goal}
use Rattle.tp_event_rules.specs.Labels.{job_name}
use Rattle.tp_session_standing.specs.Sound.{IsKeptPlan, IsSound}
use Rattle.tp_snapshot.specs.Texts.{HasNames}
use Rattle.tp_snapshot.specs.Written.{has_location, is_action, is_goal_known, is_of_jobs, is_plan_known}

module _ (machine : Machine) (t : Standing) (sound : IsSound machine t) where
  location-known : (tray : LocId) → Contains machine.trays tray → tray.0 < length machine.locations
  location-known tray in' = All-contains (IsLocation machine) machine.trays tray (is_machine machine).trays in'

  tray-known : (n : ℕ) → n < length t.jobs → (tray_in (slice_get t.jobs n)).0 < length machine.locations
  tray-known n low =
      elim ((slice_get_cases t.jobs n).1) [
        | inl w ↦
            let at : Contains machine.trays w.0.tray = subst (λ (j : Job). Contains machine.trays j.tray) w.3 (sound.jobs.trays n w.0 low) in
            subst (λ (o : Option Job). (tray_in o).0 < length machine.locations) (sym w.2) (location-known w.0.tray at)
        | inr w ↦ absurd (omega (arith, w.0, low))
      ]

  goal-known : (g : Goal) (n : ℕ) → n < length t.jobs → is_own_goal g (tray_in (slice_get t.jobs n)).0 ≡ true → is_goal_known machine g ≡ true
  goal-known (Tray tray) n low own =
      let same = eqb-true tray.0 (tray_in (slice_get t.jobs n)).0 own in
      lt-ltb tray.0 (length machine.locations) (subst (λ (k : ℕ). k < length machine.locations) (sym same) (tray-known n low))
  goal-known Purge n low own = refl

  acts-named : (p : Plan) → IsTimedPlan machine p → list_all (is_action machine) p.acts ≡ true
  acts-named p timed = list_all-from_AllPass (is_action machine) p.acts (λ k d low. lt-ltb (get_or p.acts k d).0 (length machine.actions) (acts-known machine p timed k d low))

  plan-known : (p : Plan) → IsKeptPlan machine t p → IsTimedPlan machine p → is_plan_known machine p ≡ true
  unfolding is_plan_known
  plan-known p kept timed =
      let (two, own) = and_parts (is_known t.jobs p.sheet && bytes_eq p.name (job_name t.jobs p.sheet.job)) (is_own_goal p.goal (tray_in (slice_get t.jobs p.sheet.job)).0) kept.own in
      let (known, named) = and_parts (is_known t.jobs p.sheet) (bytes_eq p.name (job_name t.jobs p.sheet.job)) two in
      and_from (is_goal_known machine p.goal) (list_all (is_action machine) p.acts) (goal-known p.goal p.sheet.job (ltb-true p.sheet.job (length t.jobs) known) own) (acts-named p timed)

  pub has-names : HasNames machine t
  has-names = record {
    jobs = list_all-from_AllPass (has_location machine) t.jobs (λ k d low. lt-ltb (get_or t.jobs k d).tray.0 (length machine.locations) (location-known (get_or t.jobs k d).tray (sound.jobs.trays k d low)));
    plans = list_all-from_AllPass (is_plan_known machine) t.plans (λ k d low. plan-known (get_or t.plans k d) (sound.plans k d low) (sound.legal.timed k d low));
    waiting = list_all-from_AllPass (is_of_jobs (length t.jobs)) t.waiting (λ k d low. (sound.waiting k d low).numbered.known);
  }
