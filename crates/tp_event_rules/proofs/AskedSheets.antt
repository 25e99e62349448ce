-- A copy that waits is planned as the first of its line: the same copies are open, so that each sheet keeps its own.
use Rattle.std.proofs.Common.{◌≡◌, ℕ, ◌-◌, ◌<◌, inl, inr, Bool, true, false, not, List, map, refl, sym, ap, ◌∙◌, All, Contains, IsTrue, subst}
use Rattle.std.proofs.lemmas.List.Elements.{All-filter, All-contains, Contains-append_cases, Contains-append_left, Contains-append_right}
use Rattle.tp_machine.specs.declared.machine.Machine.{Machine}
use Rattle.tp_jobs.specs.declared.parts.WaitingCopy.{WaitingCopy}
use Rattle.tp_jobs.specs.WaitingCopies.{without_waiting}
use Rattle.tp_schedule.specs.Plans.{is_same_copy}
use Rattle.tp_schedule.specs.declared.parts.Plan.{Plan}
use Rattle.tp_schedule.specs.declared.parts.SheetId.{SheetId}
use Rattle.tp_schedule.proofs.CopyFacts.{same_copy-is}
use Rattle.tp_schedule.proofs.Membership.{All-from_contains, Contains-map, Contains-map_from, Contains-filter, Contains-filter_from}
use Rattle.tp_event_rules.specs.AskPhase.{ask_waiting}
use Rattle.tp_event_rules.specs.StateInvariants.{KeepsSheets, IsOlder, is_sheet_of, tray_plans, open_copies, is_same_sheet, is_copy_of}
use Rattle.tp_event_rules.specs.Moments.{is_tray_plan}
use Rattle.tp_event_rules.specs.States.{SessionState}
use Rattle.tp_event_rules.proofs.AnsweredPlans.{unmoved-sheet, unmoved-tray_plan, other-to, plan-cases}
use Rattle.tp_event_rules.proofs.AskedFacts.{IsAskedFirst, mine-tray, mine-there, none-before, waits-of, tray-cases}
use Rattle.tp_event_rules.proofs.AskedLines.{planned_waiting}

module _ (machine : Machine) (s : SessionState) (w : WaitingCopy) (plans' : List Plan) (f : IsAskedFirst machine s w plans') where
  -- the same copies are open
  open-to : (c : SheetId) → Contains (open_copies s) c → Contains (open_copies (planned_waiting s w plans')) c
  open-to c in' = elim (Contains-append_cases (map (λ v. v.sheet) s.waiting) (map (λ p. p.sheet) (tray_plans s.plans)) c in') [
    | inl waits ↦ let v = Contains-map_from (λ v. v.sheet) s.waiting c waits in waiting (is_same_copy v.0.sheet w.sheet) v.0 v.1 v.2 refl
    | inr planned ↦
        let p = Contains-map_from (λ p. p.sheet) (tray_plans s.plans) c planned in
        let from = Contains-filter_from is_tray_plan s.plans p.0 p.1 in
        let to = other-to machine s.plans (ask_waiting machine s w) plans' f.a p.0 from.0 (none-before machine s w plans' f p.0 from.0) in
        let there = Contains-map (λ p. p.sheet) (tray_plans plans') to.0 (Contains-filter is_tray_plan plans' to.0 to.1 (unmoved-tray_plan to.0 p.0 to.2 ∙ from.1)) in
        Contains-append_right (map (λ v. v.sheet) (without_waiting w.sheet s.waiting)) (map (λ p. p.sheet) (tray_plans plans')) c
        (subst (Contains (map (λ p. p.sheet) (tray_plans plans'))) (unmoved-sheet to.0 p.0 to.2 ∙ sym p.2) there)
  ] where
    waiting : (b : Bool) (v : WaitingCopy) → Contains s.waiting v → c ≡ v.sheet → is_same_copy v.sheet w.sheet ≡ b → Contains (open_copies (planned_waiting s w plans')) c
    waiting true v in'' is e =
        let there = Contains-map (λ p. p.sheet) (tray_plans plans') f.a.plan (Contains-filter is_tray_plan plans' f.a.plan (mine-there machine s w plans' f) (mine-tray machine s w plans' f)) in
        Contains-append_right (map (λ v. v.sheet) (without_waiting w.sheet s.waiting)) (map (λ p. p.sheet) (tray_plans plans')) c
        (subst (Contains (map (λ p. p.sheet) (tray_plans plans'))) (f.a.answers.sheet ∙ sym (same_copy-is v.sheet w.sheet e) ∙ sym is) there)
    waiting false v in'' is e =
        Contains-append_left (map (λ v. v.sheet) (without_waiting w.sheet s.waiting)) (map (λ p. p.sheet) (tray_plans plans')) c
        (subst (Contains (map (λ v. v.sheet) (without_waiting w.sheet s.waiting))) (sym is)
        (Contains-map (λ v. v.sheet) (without_waiting w.sheet s.waiting) v (Contains-filter (λ v. not (is_same_copy v.sheet w.sheet)) s.waiting v in'' (negated e)))) where
          negated : is_same_copy v.sheet w.sheet ≡ false → not (is_same_copy v.sheet w.sheet) ≡ true
          negated g = rw g refl

  open-from : (c : SheetId) → Contains (open_copies (planned_waiting s w plans')) c → Contains (open_copies s) c
  open-from c in' = elim (Contains-append_cases (map (λ v. v.sheet) (without_waiting w.sheet s.waiting)) (map (λ p. p.sheet) (tray_plans plans')) c in') [
    | inl waits ↦
        let v = Contains-map_from (λ v. v.sheet) (without_waiting w.sheet s.waiting) c waits in
        Contains-append_left (map (λ v. v.sheet) s.waiting) (map (λ p. p.sheet) (tray_plans s.plans)) c
        (subst (Contains (map (λ v. v.sheet) s.waiting)) (sym v.2) (Contains-map (λ v. v.sheet) s.waiting v.0 (waits-of machine s w plans' f v.0 v.1).0))
    | inr planned ↦
        let q = Contains-map_from (λ p. p.sheet) (tray_plans plans') c planned in
        elim (tray-cases machine s w plans' f q.0 q.1) [
          | inl e ↦ Contains-append_left (map (λ v. v.sheet) s.waiting) (map (λ p. p.sheet) (tray_plans s.plans)) c
              (subst (Contains (map (λ v. v.sheet) s.waiting)) (sym (q.2 ∙ ap (λ (p : Plan). p.sheet) e ∙ f.a.answers.sheet)) (Contains-map (λ v. v.sheet) s.waiting w f.here))
          | inr other ↦ Contains-append_right (map (λ v. v.sheet) s.waiting) (map (λ p. p.sheet) (tray_plans s.plans)) c
              (subst (Contains (map (λ p. p.sheet) (tray_plans s.plans))) (sym (q.2 ∙ unmoved-sheet q.0 other.0 other.2)) (Contains-map (λ p. p.sheet) (tray_plans s.plans) other.0 other.1))
        ]
  ]

  -- no planned copy is older than an open one of its sheet, as before
  pub older-asked : All (λ p. All (IsOlder p) (open_copies s)) s.plans → All (λ p. All (IsOlder p) (open_copies (planned_waiting s w plans'))) plans'
  older-asked older = All-from_contains (λ p. All (IsOlder p) (open_copies (planned_waiting s w plans'))) plans' (λ q in'.
      All-from_contains (IsOlder q) (open_copies (planned_waiting s w plans')) (λ c there not_tray same.
      elim (plan-cases machine s.plans (ask_waiting machine s w) plans' f.a q in') [
        | inl e ↦ absurd (let tray : is_tray_plan q ≡ true = subst (λ (p : Plan). is_tray_plan p ≡ true) (sym e) (mine-tray machine s w plans' f) in cc)
        | inr other ↦
            let old = All-contains (IsOlder other.0) (open_copies s) c (All-contains (λ p. All (IsOlder p) (open_copies s)) s.plans other.0 older other.1) (open-from c there) in
            let sheet = unmoved-sheet q other.0 other.2 in
            let less : other.0.sheet.copy < c.copy = old (sym (unmoved-tray_plan q other.0 other.2) ∙ not_tray) (subst (λ d. is_same_sheet d c ≡ true) sheet same) in
            subst (λ d. d.copy < c.copy) (sym sheet) less
      ]))

  pub sheets-asked : (totals : List ℕ) → KeepsSheets totals s → KeepsSheets totals (planned_waiting s w plans')
  sheets-asked totals keeps = record {
    known = keeps.known;
    each = λ job number known whole low high.
        let there = keeps.each job number known whole low high in
        let is : IsTrue (is_copy_of job number there.1) = there.4 in
        let to = open-to there.1 (there.0, there.2, there.3) in
        (to.0, there.1, to.1, to.2, is);
    waiting_sheets = All-filter (λ v. not (is_same_copy v.sheet w.sheet)) (λ v. IsTrue (is_sheet_of totals v.sheet)) s.waiting keeps.waiting_sheets;
    planned_sheets = All-from_contains (λ p. IsTrue (is_sheet_of totals p.sheet)) plans' (λ q in'.
        elim (plan-cases machine s.plans (ask_waiting machine s w) plans' f.a q in') [
          | inl e ↦ subst (λ c. is_sheet_of totals c ≡ true) (sym (ap (λ (p : Plan). p.sheet) e ∙ f.a.answers.sheet)) (All-contains (λ v. IsTrue (is_sheet_of totals v.sheet)) s.waiting w keeps.waiting_sheets f.here)
          | inr other ↦ subst (λ c. is_sheet_of totals c ≡ true) (sym (unmoved-sheet q other.0 other.2)) (All-contains (λ p. IsTrue (is_sheet_of totals p.sheet)) s.plans other.0 keeps.planned_sheets other.1)
        ]);
    older = older-asked keeps.older;
  }
