-- Where whole plans end, and which locations have a tray's name.
use Rattle.std.proofs.Common.{◌≡◌, ℕ, suc, ◌<◌, Bool, true, false, cond, ◌&&◌, ◌||◌, not, List, [], ◌∷◌, length, refl, sym, ap, ◌∙◌, arith, Contains, subst, nat_lt, get_or, Option, Some, None}
use Rattle.std.specs.Prelude.{◌==◌, is_some, position}
use Rattle.std.specs.Option.{option_and_then}
use Rattle.std.specs.Str.{bytes_eq}
use Rattle.std.proofs.lemmas.Bool.{and_parts}
use Rattle.std.proofs.lemmas.Bool.Decides.{nat_tests}
use Rattle.std.proofs.lemmas.List.Elements.{All-contains}
use Rattle.std.proofs.lemmas.List.Quantifiers.{position-Some}
use Rattle.std.proofs.lemmas.Option.{slice_get-get_or}
use Rattle.std.proofs.lemmas.Slice.Eq.{bytes_eq-Decides}
use Rattle.tp_machine.proofs.MachineFacts.{is_machine}
use Rattle.tp_machine.specs.Machines.{IsLocation}
use Rattle.tp_machine.specs.Rules.{is_among, name_in}
use Rattle.tp_machine.specs.Steps.{can_step, after, step_of}
use Rattle.tp_machine.specs.ModuleUse.{action_at}
use Rattle.tp_machine.specs.declared.parts.ActId.{ActId}
use Rattle.tp_machine.specs.declared.parts.Action.{Action}
use Rattle.tp_machine.specs.declared.parts.LocId.{LocId}
use Rattle.tp_machine.specs.declared.parts.Sheet.{Sheet}
use Rattle.tp_machine.specs.declared.parts.State.{State}
use Rattle.tp_machine.specs.declared.machine.Machine.{Machine}
use Rattle.tp_jobs.specs.Backlogs.{tray_of}
use Rattle.tp_jobs.specs.JobRefusals.{is_tray_name, tray_named, tray_at}
use Rattle.tp_jobs.specs.WaitingCopies.{given_tray}
use Rattle.tp_jobs.specs.declared.parts.Job.{Job}
use Rattle.tp_schedule.specs.Plans.{IsTimedPlan, EndsIn, is_front}
use Rattle.tp_schedule.specs.Routes.{walk, IsGoalState}
use Rattle.tp_schedule.specs.declared.parts.Goal.{Goal}
use Rattle.tp_schedule.specs.declared.parts.Goal.TheVariants.{Tray, Purge}
use Rattle.tp_schedule.specs.declared.parts.Kind.{Kind}
use Rattle.tp_schedule.specs.declared.parts.Kind.TheVariants.{Whole, Front}
use Rattle.tp_schedule.specs.declared.parts.Plan.{Plan}
use Rattle.tp_schedule.proofs.Walks.{walk_first}
use Rattle.tp_event_rules.specs.StateInvariants.{is_of_its_job, is_own_goal, is_known}
use Rattle.tp_event_rules.specs.Labels.{location_name, end_location, last_of, to_in, job_name}
use Rattle.tp_event_rules.specs.Moments.{is_tray_plan, is_to_tray}

-- two locations of one name are one location
pub location-named : (machine : Machine) (a b : LocId) → IsLocation machine a → IsLocation machine b → location_name machine a ≡ location_name machine b → a ≡ b
location-named machine a b here there same = ap (λ n. record { 0 = n }) (go (nat_lt a.0 b.0) refl (nat_lt b.0 a.0) refl) where
  first : location_name machine a ≡ get_or machine.locations a.0 []
  first = ap name_in (slice_get-get_or machine.locations a.0 [] here)

  second : location_name machine b ≡ get_or machine.locations b.0 []
  second = ap name_in (slice_get-get_or machine.locations b.0 [] there)

  go : (c : Bool) → nat_lt a.0 b.0 ≡ c → (d : Bool) → nat_lt b.0 a.0 ≡ d → a.0 ≡ b.0
  go true e d f = absurd ((is_machine machine).location_names.1 a.0 b.0 [] (grind (arith, nat_tests)) there (sym first ∙ same ∙ second))
  go false e true f = absurd ((is_machine machine).location_names.1 b.0 a.0 [] (grind (arith, nat_tests)) here (sym second ∙ sym same ∙ first))
  go false e false f = grind (arith, nat_tests)

among-contains : (locs : List LocId) (loc : LocId) → is_among locs loc ≡ true → Contains locs loc
among-contains [] loc e = absurd (cc)
among-contains (t ∷ locs) loc e = go (among-contains locs loc) (t.0 == loc.0) refl e where
  go : (is_among locs loc ≡ true → Contains locs loc) → (b : Bool) → (t.0 == loc.0) ≡ b → (b || is_among locs loc) ≡ true → Contains (t ∷ locs) loc
  go rest true f g = let same : t.0 ≡ loc.0 = grind (arith, nat_tests) in (0, omega arith, ap (λ n. record { 0 = n }) same)
  go rest false f g = let r = rest g in (suc r.0, omega (arith, r.1), r.2)

-- the tray of a name
pub tray-location : (machine : Machine) (tray : List ℕ) → is_tray_name machine tray ≡ true
    → Contains machine.trays (given_tray (tray_named machine tray)) × (location_name machine (given_tray (tray_named machine tray)) ≡ tray)
tray-location machine tray e = at (position (bytes_eq tray) machine.locations) refl e where
  at : (o : Option ℕ) → position (bytes_eq tray) machine.locations ≡ o → is_some (tray_at machine o) ≡ true
      → Contains machine.trays (given_tray (tray_at machine o)) × (location_name machine (given_tray (tray_at machine o)) ≡ tray)
  at None p f = absurd (cc)
  at (Some n) p f = is (is_among machine.trays (record { 0 = n })) refl f where
    is : (b : Bool) → is_among machine.trays (record { 0 = n }) ≡ b → is_some {T = LocId} (cond b (Some (record { 0 = n })) None) ≡ true
        → Contains machine.trays (given_tray (cond b (Some (record { 0 = n })) None)) × (location_name machine (given_tray (cond b (Some (record { 0 = n })) None)) ≡ tray)
    is false g h = absurd (cc)
    is true g h =
        let found = position-Some (bytes_eq tray) machine.locations n [] p in (
          among-contains machine.trays (record { 0 = n }) g,
          ap name_in (slice_get-get_or machine.locations n [] found.0) ∙ sym ((bytes_eq-Decides tray (get_or machine.locations n [])).0 found.1),
        )

-- where actions lead is where the last one ends
walk-end : (machine : Machine) (sheet : Sheet) (acts : List ActId) (s e : State) → 0 < length acts → walk machine sheet acts s ≡ Some e → to_in (action_at machine (last_of acts).0) ≡ e.loc
walk-end machine sheet [] s e some leads = absurd (omega arith)
walk-end machine sheet (act ∷ []) s e some leads =
    let first = walk_first machine sheet act [] s e leads in
    let same : first.0 ≡ e = let last : walk machine sheet [] first.0 ≡ Some e = first.2 in cc in
    go (action_at machine act.0) first.0 first.1 ∙ ap (λ (t : State). t.loc) same where
      go : (o : Option Action) (t : State) → option_and_then (λ a. step_of a sheet s) o ≡ Some t → to_in o ≡ t.loc
      go None t f = absurd (cc)
      go (Some a) t f = stepped (can_step a sheet s) f where
        stepped : (b : Bool) → cond b (Some (after a s)) None ≡ Some t → a.to ≡ t.loc
        stepped true g = let same : after a s ≡ t = cc in ap (λ (t : State). t.loc) same
        stepped false g = absurd (cc)
walk-end machine sheet (act ∷ next ∷ acts) s e some leads =
    let first = walk_first machine sheet act (next ∷ acts) s e leads in
    walk-end machine sheet (next ∷ acts) first.0 e (omega arith) first.2

end-location : (machine : Machine) (p : Plan) (timed : IsTimedPlan machine p) → end_location machine p ≡ timed.end.loc
end-location machine p timed = walk-end machine p.want p.acts timed.start timed.end timed.some timed.leads

goal-of : (machine : Machine) (p : Plan) (timed : IsTimedPlan machine p) → is_front p.kind ≡ false → IsGoalState machine p.want p.goal timed.end
goal-of machine p timed whole = go p.kind whole timed.ends where
  go : (k : Kind) → is_front k ≡ false → EndsIn machine p k timed.end → IsGoalState machine p.want p.goal timed.end
  go Whole e ends = ends
  go Front e ends = absurd (cc)

-- a whole plan to a tray ends there
pub tray-end : (machine : Machine) (p : Plan) (t : LocId) → IsTimedPlan machine p → is_front p.kind ≡ false → p.goal ≡ Tray t → end_location machine p ≡ t
tray-end machine p t timed whole to =
    let state = subst (λ g. IsGoalState machine p.want g timed.end) to (goal-of machine p timed whole) in
    end-location machine p timed ∙ ap (λ (s : State). s.loc) state

-- what ends at a location of a tray's name is to go to a tray
pub tray-goal : (machine : Machine) (p : Plan) (tray : List ℕ) → IsTimedPlan machine p → is_front p.kind ≡ false → is_tray_name machine tray ≡ true
    → location_name machine (end_location machine p) ≡ tray → is_to_tray p.goal ≡ true
tray-goal machine p tray timed whole known there = go p.goal refl (goal-of machine p timed whole) where
  go : (g : Goal) → p.goal ≡ g → IsGoalState machine p.want g timed.end → is_to_tray g ≡ true
  go (Tray t) e is = refl
  go Purge e purged =
      let law = is_machine machine in
      let t = tray-location machine tray known in
      let at = subst (λ l. location_name machine l ≡ tray) (end-location machine p timed) there in
      let purge = All-contains (λ l. IsLocation machine l × (Contains machine.trays l → ⊥)) machine.purges timed.end.loc law.purges purged in
      let same = location-named machine timed.end.loc (given_tray (tray_named machine tray)) purge.0
      (All-contains (IsLocation machine) machine.trays (given_tray (tray_named machine tray)) law.trays t.0) (at ∙ sym t.1) in
      absurd (purge.1 (subst (Contains machine.trays) (sym same) t.0))

-- a plan of its job that is whole and to the tray ends at the job's tray
pub own-location : (machine : Machine) (jobs : List Job) (p : Plan) → IsTimedPlan machine p → is_tray_plan p ≡ true → is_of_its_job jobs p ≡ true → end_location machine p ≡ tray_of jobs p.sheet
own-location machine jobs p timed tray own = go p.goal refl (and_parts (not (is_front p.kind)) (is_to_tray p.goal) tray).1 (and_parts (is_known jobs p.sheet && bytes_eq p.name (job_name jobs p.sheet.job)) (is_own_goal p.goal (tray_of jobs p.sheet).0) own).1 where
  whole : is_front p.kind ≡ false
  whole = let w = (and_parts (not (is_front p.kind)) (is_to_tray p.goal) tray).0 in not-true (is_front p.kind) w where
    not-true : (b : Bool) → not b ≡ true → b ≡ false
    not-true true e = absurd (cc)
    not-true false e = refl

  go : (g : Goal) → p.goal ≡ g → is_to_tray g ≡ true → is_own_goal g (tray_of jobs p.sheet).0 ≡ true → end_location machine p ≡ tray_of jobs p.sheet
  go (Tray t) e to is = let same : t.0 ≡ (tray_of jobs p.sheet).0 = grind (arith, nat_tests) in tray-end machine p t timed whole e ∙ ap (λ n. record { 0 = n }) same
  go Purge e to is = absurd (cc)
