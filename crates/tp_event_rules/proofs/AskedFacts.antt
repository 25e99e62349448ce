-- A copy that waits is planned as the first of its line.
use Rattle.std.proofs.Common.{◌≡◌, ℕ, ◌⊎◌, inl, inr, Bool, true, false, cond, ◌&&◌, ◌==◌, not, List, [], ◌∷◌, map, filter, refl, sym, ap, ◌∙◌, arith, All, Contains, IsTrue, subst}
use Rattle.std.specs.Prelude.{IsFalse}
use Rattle.std.specs.Str.{bytes_eq}
use Rattle.std.proofs.lemmas.Bool.{not-true}
use Rattle.std.proofs.lemmas.Bool.Decides.{nat_tests}
use Rattle.std.proofs.lemmas.List.Elements.{All-head, All-tail, All-contains}
use Rattle.tp_machine.proofs.Lists.{All-from_none}
use Rattle.tp_machine.specs.declared.machine.Machine.{Machine}
use Rattle.tp_jobs.specs.declared.parts.WaitingCopy.{WaitingCopy}
use Rattle.tp_schedule.specs.Answers.{IsAlternative, unmoved}
use Rattle.tp_schedule.specs.Plans.{is_before, is_front, is_same_copy, without}
use Rattle.tp_schedule.specs.declared.parts.Goal.{Goal}
use Rattle.tp_schedule.specs.declared.parts.Goal.TheVariants.{Tray}
use Rattle.tp_schedule.specs.declared.parts.Kind.{Kind}
use Rattle.tp_schedule.specs.declared.parts.Kind.TheVariants.{Whole}
use Rattle.tp_schedule.specs.declared.parts.Plan.{Plan}
use Rattle.tp_schedule.specs.declared.parts.SheetId.{SheetId}
use Rattle.tp_schedule.proofs.Membership.{All-from_contains, Contains-filter, Contains-filter_from}
use Rattle.tp_jobs.specs.Backlogs.{tray_of}
use Rattle.tp_jobs.specs.WaitingCopies.{without_waiting}
use Rattle.tp_event_rules.specs.AskPhase.{ask_waiting}
use Rattle.tp_event_rules.specs.StateInvariants.{KeepsLines, is_planned_among, is_known, tray_plans, is_same_sheet}
use Rattle.tp_event_rules.specs.Lines.{is_same_line}
use Rattle.tp_event_rules.specs.Moments.{is_tray_plan, is_to_tray}
use Rattle.tp_event_rules.specs.States.{SessionState}
use Rattle.tp_event_rules.proofs.AnsweredPlans.{IsUnmoved, unmoved-tray_plan, mine-is, plan-cases}
use Rattle.tp_event_rules.proofs.ListFacts.{find-Some}
use Rattle.tp_event_rules.proofs.TestFacts.{filter-map_same, map-map_same}

abbrev pub Apart : SheetId → SheetId → Type 0
Apart a b = IsFalse (is_same_sheet a b)

pub apart-sym : (a b : SheetId) → Apart a b → Apart b a
apart-sym a b e = grind (arith, nat_tests)

pub not_same-sym : (a b : SheetId) → is_same_copy a b ≡ false → is_same_copy b a ≡ false
not_same-sym a b e = grind (arith, nat_tests)

pub before-irrefl : (a b : SheetId) → a ≡ b → is_before a b ≡ true → ⊥
before-irrefl a b e f = let g : is_before b b ≡ true = subst (λ c. is_before c b ≡ true) e f in absurd (let none = irrefl b in cc) where
  irrefl : (c : SheetId) → is_before c c ≡ false
  irrefl c = grind (arith, nat_tests)

-- the fronts, where no plan of the copy is one
pub fronts-without : (c : SheetId) (plans : List Plan) → All (λ p. is_same_copy p.sheet c ≡ true → is_front p.kind ≡ false) plans
    → filter (λ p. is_front p.kind) (without c plans) ≡ filter (λ p. is_front p.kind) plans
fronts-without c [] all = refl
fronts-without c (p ∷ plans) all =
    go (is_same_copy p.sheet c) refl (All-head (λ p. is_same_copy p.sheet c ≡ true → is_front p.kind ≡ false) p plans all)
    (fronts-without c plans (All-tail (λ p. is_same_copy p.sheet c ≡ true → is_front p.kind ≡ false) p plans all)) where
      go : (b : Bool) → is_same_copy p.sheet c ≡ b → (is_same_copy p.sheet c ≡ true → is_front p.kind ≡ false)
          → filter (λ p. is_front p.kind) (without c plans) ≡ filter (λ p. is_front p.kind) plans
          → filter (λ p. is_front p.kind) (cond (not b) (p ∷ without c plans) (without c plans)) ≡ cond (is_front p.kind) (p ∷ filter (λ p. is_front p.kind) plans) (filter (λ p. is_front p.kind) plans)
      go true e whole rest = rw (whole e) rest
      go false e whole rest = ap (λ l. cond (is_front p.kind) (p ∷ l) l) rest

pub front_sheets-unmoved : (plans : List Plan) → map (λ p. p.sheet) (filter (λ p. is_front p.kind) plans) ≡ map (λ p. p.sheet) (filter (λ p. is_front p.kind) (map unmoved plans))
front_sheets-unmoved plans =
    sym (rw (filter-map_same (λ p. is_front p.kind) unmoved (λ p. refl) plans) (map-map_same (λ p. p.sheet) unmoved (λ p. refl) (filter (λ p. is_front p.kind) plans)))

pub bytes_eq-same : (xs : List ℕ) → bytes_eq xs xs ≡ true
bytes_eq-same [] = refl
bytes_eq-same (x ∷ xs) = let e : (x == x) ≡ true = grind (arith, nat_tests) in rw e (bytes_eq-same xs)

-- a copy that waits is planned, and all others of its line that wait stand behind it
pub record IsAskedFirst (machine : Machine) (s : SessionState) (w : WaitingCopy) (plans' : List Plan) : Type 0 where
  pub a : IsAlternative machine s.plans (ask_waiting machine s w) plans'
  pub keeps : KeepsLines s
  pub here : Contains s.waiting w
  pub behind : (v : WaitingCopy) → Contains s.waiting v → is_same_line s.jobs v.sheet w.sheet ≡ true → is_same_copy v.sheet w.sheet ≡ false → is_before w.sheet v.sheet ≡ true

module _ (machine : Machine) (s : SessionState) (w : WaitingCopy) (plans' : List Plan) (f : IsAskedFirst machine s w plans') where
  pub mine-known : is_known s.jobs w.sheet ≡ true
  mine-known = All-contains (λ v. IsTrue (is_known s.jobs v.sheet)) s.waiting w f.keeps.waiting_known f.here

  pub mine-tray : is_tray_plan f.a.plan ≡ true
  mine-tray = go f.a.plan.kind f.a.plan.goal f.a.answers.whole f.a.answers.goal where
    go : (k : Kind) (g : Goal) → k ≡ Whole → g ≡ Tray (tray_of s.jobs w.sheet) → (not (is_front k) && is_to_tray g) ≡ true
    go k g e f = rw (e, f) refl

  pub mine-there : Contains plans' f.a.plan
  mine-there = (find-Some (λ p. is_same_copy p.sheet w.sheet) plans' f.a.plan f.a.planned).0

  -- no plan of before is of the copy
  pub none-before : (p : Plan) → Contains s.plans p → is_same_copy p.sheet w.sheet ≡ false
  none-before p in' =
      let none = All-contains (λ v. IsFalse (is_planned_among s.plans v.sheet)) s.waiting w f.keeps.unplanned f.here in
      All-contains (λ p. is_same_copy p.sheet w.sheet ≡ false) s.plans p (All-from_none (λ p. is_same_copy p.sheet w.sheet) (λ p. is_same_copy p.sheet w.sheet ≡ false) (λ p e. e) s.plans none) in'

  -- who still waits
  pub waits-of : (v : WaitingCopy) → Contains (without_waiting w.sheet s.waiting) v → Contains s.waiting v × (is_same_copy v.sheet w.sheet ≡ false)
  waits-of v in' =
      let from = Contains-filter_from (λ v. not (is_same_copy v.sheet w.sheet)) s.waiting v in' in
      (from.0, not-true (is_same_copy v.sheet w.sheet) from.1)

  -- a tray plan is the new one, or one of before
  pub tray-cases : (q : Plan) → Contains (tray_plans plans') q → (q ≡ f.a.plan) ⊎ ((p : Plan) × Contains (tray_plans s.plans) p × IsUnmoved q p)
  tray-cases q in' =
      let from = Contains-filter_from is_tray_plan plans' q in' in
      elim (plan-cases machine s.plans (ask_waiting machine s w) plans' f.a q from.0) [
        | inl e ↦ inl e
        | inr other ↦ inr (other.0, Contains-filter is_tray_plan s.plans other.0 other.1 (sym (unmoved-tray_plan q other.0 other.2) ∙ from.1), other.2)
      ]

  pub fronts-kept : map (λ p. p.sheet) (filter (λ p. is_front p.kind) plans') ≡ map (λ p. p.sheet) (filter (λ p. is_front p.kind) s.plans)
  fronts-kept =
      ap (map (λ (p : Plan). p.sheet)) (sym (fronts-without w.sheet plans' (All-from_contains (λ p. is_same_copy p.sheet w.sheet ≡ true → is_front p.kind ≡ false) plans'
      (λ q in' same. subst (λ (p : Plan). is_front p.kind ≡ false) (sym (mine-is machine s.plans (ask_waiting machine s w) plans' f.a q in' same)) (subst (λ k. is_front k ≡ false) (sym f.a.answers.whole) refl)))))
      ∙ front_sheets-unmoved (without w.sheet plans')
      ∙ ap (λ l. map (λ (p : Plan). p.sheet) (filter (λ (p : Plan). is_front p.kind) l)) f.a.others
      ∙ sym (front_sheets-unmoved (without w.sheet s.plans))
      ∙ ap (map (λ (p : Plan). p.sheet)) (fronts-without w.sheet s.plans (All-from_contains (λ p. is_same_copy p.sheet w.sheet ≡ true → is_front p.kind ≡ false) s.plans
      (λ p in' same. absurd (let none = none-before p in' in cc))))
