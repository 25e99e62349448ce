-- The order of what was delivered at a tray.
use Rattle.std.proofs.Common.{◌≡◌, ℕ, ◌<◌, ◌≤◌, inl, inr, true, false, ◌&&◌, ◌||◌, List, map, sym, ap, ◌∙◌, arith, AllPairs, Contains, IsTrue, subst, nat_lt, slice_get, Some}
use Rattle.std.specs.Prelude.{◌==◌}
use Rattle.std.proofs.lemmas.Bool.Decides.{nat_tests}
use Rattle.std.proofs.lemmas.List.Elements.{All-contains}
use Rattle.std.proofs.lemmas.Option.{slice_get_within, get_or_from_slice_get}
use Rattle.tp_machine.proofs.MachineFacts.{is_machine}
use Rattle.tp_machine.specs.Machines.{IsLocation}
use Rattle.tp_machine.specs.declared.parts.LocId.{LocId}
use Rattle.tp_machine.specs.declared.machine.Machine.{Machine}
use Rattle.tp_jobs.specs.Backlogs.{tray_of}
use Rattle.tp_jobs.specs.declared.parts.Job.{Job}
use Rattle.tp_schedule.proofs.Membership.{Contains-filter}
use Rattle.tp_schedule.proofs.Pairs.{AllPairs-either, AllPairs-map_from, AllPairs-append_right}
use Rattle.tp_schedule.specs.Legality.{EndsBefore}
use Rattle.tp_schedule.specs.Plans.{IsEarlier, end_of_plan, is_before, is_delivered_to}
use Rattle.tp_schedule.specs.declared.parts.Plan.{Plan}
use Rattle.tp_schedule.specs.declared.parts.SheetId.{SheetId}
use Rattle.tp_event_rules.specs.StateInvariants.{is_known, is_of_its_job, is_same_sheet, tray_plans}
use Rattle.tp_event_rules.specs.Labels.{label, location_name}
use Rattle.tp_event_rules.specs.Moments.{is_tray_plan}
use Rattle.tp_event_rules.specs.Deliveries.{Arrival, is_earlier, sheet_ref}
use Rattle.tp_event_rules.specs.States.{SessionState}
use Rattle.tp_event_rules.proofs.AskedFacts.{Apart, apart-sym}
use Rattle.tp_outage_laws.specs.Through.{KeepsOrder}
use Rattle.tp_outage_laws.proofs.PlanFacts.{is-delivered, known-of, tray-known}
use Rattle.tp_headline.proofs.Numbers.{AreFirst, AreNamedApart, earlier-is}
use Rattle.tp_headline.proofs.Locations.{location-named}

-- the copy was delivered at its tray
pub record IsDelivered (now : ℕ) (plans : List Plan) (c : SheetId) : Type 0 where
  pub p : Plan
  pub there : Contains plans p
  pub of : p.sheet ≡ c
  pub to_tray : is_tray_plan p ≡ true
  pub past : end_of_plan p ≤ now

-- the copy's tray has this name
abbrev pub IsFor : Machine → List Job → List ℕ → SheetId → Type 0
IsFor machine jobs tray c = location_name machine (tray_of jobs c) ≡ tray

module _ (machine : Machine) (totals : List ℕ) (s : SessionState) (keeps : KeepsOrder machine totals s) where
  own : (p : Plan) → Contains s.plans p → is_of_its_job s.jobs p ≡ true
  own p in' = All-contains (λ p. IsTrue (is_of_its_job s.jobs p)) s.plans p keeps.lines.plans_known in'

  pub known-plan : (p : Plan) → Contains s.plans p → is_known s.jobs p.sheet ≡ true
  known-plan p in' = known-of s.jobs p (own p in')

  location-known : (p : Plan) → Contains s.plans p → IsLocation machine (tray_of s.jobs p.sheet)
  location-known p in' = All-contains (IsLocation machine) machine.trays (tray_of s.jobs p.sheet) (is_machine machine).trays (tray-known machine s.jobs p.sheet keeps.jobs.trays (known-plan p in'))

  same-tray : (tray : List ℕ) (p q : Plan) → Contains s.plans p → Contains s.plans q → IsFor machine s.jobs tray p.sheet → IsFor machine s.jobs tray q.sheet → tray_of s.jobs p.sheet ≡ tray_of s.jobs q.sheet
  same-tray tray p q in' in'' for for' = location-named machine (tray_of s.jobs p.sheet) (tray_of s.jobs q.sheet) (location-known p in') (location-known q in'') (for ∙ sym for')

  -- a job whose tray has the name of a plan's
  pub location-of-both : (j : Job) (n : ℕ) → slice_get s.jobs n ≡ Some j → (p : Plan) → Contains s.plans p → location_name machine j.tray ≡ location_name machine (tray_of s.jobs p.sheet) → j.tray ≡ tray_of s.jobs p.sheet
  location-of-both j n at p in' same =
      let there : Contains s.jobs j = (n, slice_get_within s.jobs n j at, get_or_from_slice_get s.jobs n j j at) in
      location-named machine j.tray (tray_of s.jobs p.sheet)
      (All-contains (IsLocation machine) machine.trays j.tray (is_machine machine).trays (All-contains (λ j. Contains machine.trays j.tray) s.jobs j keeps.jobs.trays there))
      (location-known p in') same

  trays-apart : AllPairs (λ p q. Apart p.sheet q.sheet) (tray_plans s.plans)
  trays-apart = AllPairs-map_from Apart (λ p. p.sheet) (tray_plans s.plans) (AllPairs-append_right Apart (map (λ w. w.sheet) s.waiting) (map (λ p. p.sheet) (tray_plans s.plans)) keeps.lines.one)

  -- two plans to one tray are of different sheets
  pub sheets-differ : (p q : Plan) → Contains s.plans p → Contains s.plans q → is_tray_plan p ≡ true → is_tray_plan q ≡ true → (p ≡ q → ⊥) → is_same_sheet p.sheet q.sheet ≡ false
  sheets-differ p q in' in'' tray tray' differ =
      elim (AllPairs-either (λ p q. Apart p.sheet q.sheet) (tray_plans s.plans) p q trays-apart (Contains-filter is_tray_plan s.plans p in' tray) (Contains-filter is_tray_plan s.plans q in'' tray') differ) [
        | inl one ↦ one
        | inr back ↦ apart-sym q.sheet p.sheet back
      ]

  -- the earlier one of two to one tray ends first
  pub ends-first : (tray : List ℕ) (p q : Plan) → Contains s.plans p → Contains s.plans q → is_tray_plan p ≡ true → is_tray_plan q ≡ true
      → IsFor machine s.jobs tray p.sheet → IsFor machine s.jobs tray q.sheet → is_before p.sheet q.sheet ≡ true → EndsBefore p q → end_of_plan p < end_of_plan q
  ends-first tray p q in' in'' to to' for for' before rise =
      rise (tray_of s.jobs p.sheet).0 (is-delivered s.jobs p to (own p in'))
      (subst (λ (l : LocId). is_delivered_to q l.0 ≡ true) (sym (same-tray tray p q in' in'' for for')) (is-delivered s.jobs q to' (own q in'')))

  both-orders : AllPairs (λ p q. IsEarlier p q × EndsBefore p q) s.plans
  both-orders i j d before within = (keeps.plans.legal.in_order i j d before within, keeps.plans.legal.rise i j d before within)

  pub by-order : (p q : Plan) → Contains s.plans p → Contains s.plans q → is_before p.sheet q.sheet ≡ true → EndsBefore p q
  by-order p q in' in'' before = elim (AllPairs-either (λ p q. IsEarlier p q × EndsBefore p q) s.plans p q both-orders in' in'' (λ e. absurd (irreflexive p.sheet q.sheet (ap (λ (x : Plan). x.sheet) e) before))) [
    | inl both ↦ both.1
    | inr back ↦ absurd (asymmetric p.sheet q.sheet before back.0)
  ] where
    irreflexive : (a b : SheetId) → a ≡ b → is_before a b ≡ true → ⊥
    irreflexive a b e f = irr a (subst (λ c. is_before a c ≡ true) (sym e) f) where
      irr : (a : SheetId) → is_before a a ≡ true → ⊥
      irr a g = grind (arith, nat_tests)

    asymmetric : (a b : SheetId) → is_before a b ≡ true → is_before b a ≡ true → ⊥
    asymmetric a b e f = grind (arith, nat_tests)

  -- who ends first at a tray is earlier
  pub first-earlier : (tray : List ℕ) (p q : Plan) → Contains s.plans p → Contains s.plans q → is_tray_plan p ≡ true → is_tray_plan q ≡ true
      → IsFor machine s.jobs tray p.sheet → IsFor machine s.jobs tray q.sheet → end_of_plan p < end_of_plan q → is_before p.sheet q.sheet ≡ true
  first-earlier tray p q in' in'' to to' for for' low =
      elim (AllPairs-either (λ p q. IsEarlier p q × EndsBefore p q) s.plans p q both-orders in' in'' (λ e. absurd (let same : end_of_plan p ≡ end_of_plan q = ap end_of_plan e in omega arith))) [
        | inl both ↦ both.0
        | inr back ↦ absurd (let other : end_of_plan q < end_of_plan p = ends-first tray q p in'' in' to' to for' for back.0 back.1 in omega arith)
      ]

  module _ (all : List Arrival) (first : AreFirst machine totals s.jobs all) (apart : AreNamedApart all) where
    -- so are their sheets, by the names that are reported
    pub told-earlier : (p q : Plan) → Contains s.plans p → Contains s.plans q → is_tray_plan p ≡ true → is_tray_plan q ≡ true
        → is_before p.sheet q.sheet ≡ true → is_earlier all (sheet_ref (label s.jobs p.sheet)) (sheet_ref (label s.jobs q.sheet)) ≡ true
    told-earlier p q in' in'' to to' before =
        let differ = sheets-differ p q in' in'' to to' (λ e. absurd (irr p.sheet q.sheet (ap (λ (x : Plan). x.sheet) e) before)) in
        earlier-is machine totals s.jobs all first apart p.sheet q.sheet (known-plan p in') (known-plan q in'') ∙ numbers p.sheet q.sheet before differ where
          irr : (a b : SheetId) → a ≡ b → is_before a b ≡ true → ⊥
          irr a b e f = one a (subst (λ c. is_before a c ≡ true) (sym e) f) where
            one : (a : SheetId) → is_before a a ≡ true → ⊥
            one a g = grind (arith, nat_tests)

          numbers : (a b : SheetId) → is_before a b ≡ true → is_same_sheet a b ≡ false → (nat_lt a.job b.job || ((a.job == b.job) && nat_lt a.number b.number)) ≡ true
          numbers a b e f = grind (arith, nat_tests)
