-- A copy that waits is planned as the first of its line: lines are kept.
use Rattle.std.proofs.Common.{◌≡◌, ℕ, inl, inr, true, false, ◌&&◌, ◌==◌, not, List, ◌++◌, map, sym, ap, ◌∙◌, arith, All, AllPairs, Contains, IsTrue, subst}
use Rattle.std.specs.Prelude.{IsFalse}
use Rattle.std.specs.Str.{bytes_eq}
use Rattle.std.proofs.lemmas.Bool.Decides.{nat_tests}
use Rattle.std.proofs.lemmas.List.Elements.{All-map, All-filter, All-contains}
use Rattle.std.proofs.lemmas.List.Folds.{list_any_none}
use Rattle.std.proofs.lemmas.List.Kept.{AllPairs-filter}
use Rattle.tp_machine.proofs.Lists.{All-from_none}
use Rattle.tp_machine.specs.declared.machine.Machine.{Machine}
use Rattle.tp_jobs.specs.declared.parts.WaitingCopy.{WaitingCopy}
use Rattle.tp_schedule.specs.Plans.{IsEarlier, is_before, is_same_copy}
use Rattle.tp_schedule.specs.declared.parts.Goal.{Goal}
use Rattle.tp_schedule.specs.declared.parts.Goal.TheVariants.{Tray}
use Rattle.tp_schedule.specs.declared.parts.Plan.{Plan}
use Rattle.tp_schedule.specs.declared.parts.SheetId.{SheetId}
use Rattle.tp_schedule.proofs.CopyFacts.{same_copy-refl}
use Rattle.tp_schedule.proofs.Membership.{All-from_contains, Contains-map}
use Rattle.tp_schedule.proofs.Pairs.{AllPairs-each, AllPairs-append, AllPairs-append_right, AllPairs-map_from, AllPairs-either}
use Rattle.tp_jobs.specs.Backlogs.{tray_of}
use Rattle.tp_jobs.specs.WaitingCopies.{without_waiting}
use Rattle.tp_event_rules.specs.AskPhase.{ask_waiting}
use Rattle.tp_event_rules.specs.StateInvariants.{KeepsLines, StandsBehind, is_planned_among, is_known, is_of_its_job, is_own_goal, tray_plans}
use Rattle.tp_event_rules.specs.Labels.{job_name}
use Rattle.tp_event_rules.specs.Lines.{is_same_line}
use Rattle.tp_event_rules.specs.Moments.{is_tray_plan}
use Rattle.tp_event_rules.specs.States.{SessionState}
use Rattle.tp_event_rules.proofs.AnsweredPlans.{unmoved-sheet, plan-cases}
use Rattle.tp_event_rules.proofs.NewJob.{}
use Rattle.tp_event_rules.proofs.AskedFacts.{Apart, apart-sym, not_same-sym, before-irrefl, bytes_eq-same, IsAskedFirst, mine-known, waits-of, tray-cases, fronts-kept}
use Rattle.tp_event_rules.proofs.ListFacts.{AllPairs-append_left, AllPairs-append_across, AllPairs-map_list}

-- what may differ: the plan's copy waits no more
abbrev pub planned_waiting : SessionState → WaitingCopy → List Plan → SessionState
planned_waiting s w plans = record s { plans = plans; waiting = without_waiting w.sheet s.waiting }

module _ (machine : Machine) (s : SessionState) (w : WaitingCopy) (plans' : List Plan) (f : IsAskedFirst machine s w plans') where
  unplanned-asked : All (λ v. IsFalse (is_planned_among plans' v.sheet)) (without_waiting w.sheet s.waiting)
  unplanned-asked = All-from_contains (λ v. IsFalse (is_planned_among plans' v.sheet)) (without_waiting w.sheet s.waiting) (λ v in'.
      let from = waits-of machine s w plans' f v in' in
      let none = All-contains (λ v. IsFalse (is_planned_among s.plans v.sheet)) s.waiting v f.keeps.unplanned from.0 in
      list_any_none (λ p. is_same_copy p.sheet v.sheet) plans' (All-from_contains (λ p. is_same_copy p.sheet v.sheet ≡ false) plans' (λ q in''.
      elim (plan-cases machine s.plans (ask_waiting machine s w) plans' f.a q in'') [
        | inl e ↦ subst (λ (p : Plan). is_same_copy p.sheet v.sheet ≡ false) (sym e) (subst (λ c. is_same_copy c v.sheet ≡ false) (sym f.a.answers.sheet) (not_same-sym v.sheet w.sheet from.1))
        | inr other ↦ subst (λ c. is_same_copy c v.sheet ≡ false) (sym (unmoved-sheet q other.0 other.2))
            (All-contains (λ p. is_same_copy p.sheet v.sheet ≡ false) s.plans other.0 (All-from_none (λ p. is_same_copy p.sheet v.sheet) (λ p. is_same_copy p.sheet v.sheet ≡ false) (λ p e. e) s.plans none) other.1)
      ])))

  line-asked : All (λ v. All (StandsBehind s.jobs v) (tray_plans plans')) (without_waiting w.sheet s.waiting)
  line-asked = All-from_contains (λ v. All (StandsBehind s.jobs v) (tray_plans plans')) (without_waiting w.sheet s.waiting) (λ v in'.
      let from = waits-of machine s w plans' f v in' in
      All-from_contains (StandsBehind s.jobs v) (tray_plans plans') (λ q in''.
      elim (tray-cases machine s w plans' f q in'') [
        | inl e ↦ subst (StandsBehind s.jobs v) (sym e)
            (subst (λ c. IsTrue (is_same_line s.jobs v.sheet c) → IsTrue (is_before c v.sheet)) (sym f.a.answers.sheet) (λ same. f.behind v from.0 same from.1))
        | inr other ↦ subst (λ c. IsTrue (is_same_line s.jobs v.sheet c) → IsTrue (is_before c v.sheet)) (sym (unmoved-sheet q other.0 other.2))
            (All-contains (StandsBehind s.jobs v) (tray_plans s.plans) other.0 (All-contains (λ v. All (StandsBehind s.jobs v) (tray_plans s.plans)) s.waiting v f.keeps.line from.0) other.1)
      ]))

  -- the copies that wait are apart from each other and from the planned ones
  waiting-apart : AllPairs (λ v w. Apart v.sheet w.sheet) s.waiting
  waiting-apart = AllPairs-map_from Apart (λ v. v.sheet) s.waiting (AllPairs-append_left Apart (map (λ v. v.sheet) s.waiting) (map (λ p. p.sheet) (tray_plans s.plans)) f.keeps.one)

  across : (v : WaitingCopy) (p : Plan) → Contains s.waiting v → Contains (tray_plans s.plans) p → Apart v.sheet p.sheet
  across v p in' in'' =
      All-contains (Apart v.sheet) (map (λ p. p.sheet) (tray_plans s.plans)) p.sheet
      (All-contains (λ c. All (Apart c) (map (λ p. p.sheet) (tray_plans s.plans))) (map (λ v. v.sheet) s.waiting) v.sheet
      (AllPairs-append_across Apart (map (λ v. v.sheet) s.waiting) (map (λ p. p.sheet) (tray_plans s.plans)) f.keeps.one) (Contains-map (λ v. v.sheet) s.waiting v in'))
      (Contains-map (λ p. p.sheet) (tray_plans s.plans) p in'')

  others-apart : (v : WaitingCopy) → Contains s.waiting v → is_same_copy v.sheet w.sheet ≡ false → Apart v.sheet w.sheet
  others-apart v in' other = elim (AllPairs-either (λ v w. Apart v.sheet w.sheet) s.waiting v w waiting-apart in' f.here (λ e. absurd (let same = same_copy-refl w.sheet in let again : is_same_copy v.sheet w.sheet ≡ true = subst (λ (u : WaitingCopy). is_same_copy u.sheet w.sheet ≡ true) (sym e) same in cc))) [
    | inl one ↦ one
    | inr back ↦ apart-sym w.sheet v.sheet back
  ]

  trays-apart : AllPairs (λ q r. Apart q.sheet r.sheet) (tray_plans plans')
  trays-apart = AllPairs-each IsEarlier (λ q r. Apart q.sheet r.sheet) (tray_plans plans') (AllPairs-filter (λ q r. is_before q.sheet r.sheet ≡ true) is_tray_plan plans' f.a.legal.in_order) (λ q r in' in'' before.
      elim (tray-cases machine s w plans' f q in') [
        | inl e ↦ elim (tray-cases machine s w plans' f r in'') [
          | inl e' ↦ absurd (before-irrefl q.sheet r.sheet (ap (λ (p : Plan). p.sheet) (e ∙ sym e')) before)
          | inr other ↦ subst (λ (p : Plan). Apart p.sheet r.sheet) (sym e) (subst (λ c. Apart c r.sheet) (sym f.a.answers.sheet)
              (subst (Apart w.sheet) (sym (unmoved-sheet r other.0 other.2)) (across w other.0 f.here other.1)))
        ]
        | inr other ↦ elim (tray-cases machine s w plans' f r in'') [
          | inl e' ↦ subst (λ (p : Plan). Apart q.sheet p.sheet) (sym e') (subst (Apart q.sheet) (sym f.a.answers.sheet)
              (subst (λ c. Apart c w.sheet) (sym (unmoved-sheet q other.0 other.2)) (apart-sym w.sheet other.0.sheet (across w other.0 f.here other.1))))
          | inr other' ↦
              let first = unmoved-sheet q other.0 other.2 in
              let second = unmoved-sheet r other'.0 other'.2 in
              let pairs = AllPairs-map_from Apart (λ p. p.sheet) (tray_plans s.plans) (AllPairs-append_right Apart (map (λ v. v.sheet) s.waiting) (map (λ p. p.sheet) (tray_plans s.plans)) f.keeps.one) in
              subst (λ c. Apart c r.sheet) (sym first) (subst (Apart other.0.sheet) (sym second)
              (elim (AllPairs-either (λ p q. Apart p.sheet q.sheet) (tray_plans s.plans) other.0 other'.0 pairs other.1 other'.1
              (λ same. before-irrefl q.sheet r.sheet (first ∙ ap (λ (p : Plan). p.sheet) same ∙ sym second) before)) [
                | inl one ↦ one
                | inr back ↦ apart-sym other'.0.sheet other.0.sheet back
              ]))
        ]
      ])

  one-asked : AllPairs Apart (map (λ v. v.sheet) (without_waiting w.sheet s.waiting) ++ map (λ p. p.sheet) (tray_plans plans'))
  one-asked =
      AllPairs-append Apart (map (λ v. v.sheet) (without_waiting w.sheet s.waiting)) (map (λ p. p.sheet) (tray_plans plans'))
      (AllPairs-map_list Apart (λ v. v.sheet) (without_waiting w.sheet s.waiting) (AllPairs-filter (λ v u. Apart v.sheet u.sheet) (λ v. not (is_same_copy v.sheet w.sheet)) s.waiting waiting-apart))
      (AllPairs-map_list Apart (λ p. p.sheet) (tray_plans plans') trays-apart)
      (All-map (λ c. All (Apart c) (map (λ p. p.sheet) (tray_plans plans'))) (λ v. v.sheet) (without_waiting w.sheet s.waiting)
      (All-from_contains (λ v. All (Apart v.sheet) (map (λ p. p.sheet) (tray_plans plans'))) (without_waiting w.sheet s.waiting) (λ v in'.
      let from = waits-of machine s w plans' f v in' in
      All-map (Apart v.sheet) (λ p. p.sheet) (tray_plans plans') (All-from_contains (λ p. Apart v.sheet p.sheet) (tray_plans plans') (λ q in''.
      elim (tray-cases machine s w plans' f q in'') [
        | inl e ↦ subst (λ (p : Plan). Apart v.sheet p.sheet) (sym e) (subst (Apart v.sheet) (sym f.a.answers.sheet) (others-apart v from.0 from.1))
        | inr other ↦ subst (Apart v.sheet) (sym (unmoved-sheet q other.0 other.2)) (across v other.0 from.0 other.1)
      ])))))

  known-asked : All (λ p. IsTrue (is_of_its_job s.jobs p)) plans'
  known-asked = All-from_contains (λ p. IsTrue (is_of_its_job s.jobs p)) plans' (λ q in'.
      elim (plan-cases machine s.plans (ask_waiting machine s w) plans' f.a q in') [
        | inl e ↦ subst (λ (p : Plan). is_of_its_job s.jobs p ≡ true) (sym e) (mine f.a.plan.sheet f.a.plan.name f.a.plan.goal f.a.answers.sheet f.a.answers.name f.a.answers.goal)
        | inr other ↦ ap (is_of_its_job s.jobs) other.2.is ∙ All-contains (λ p. IsTrue (is_of_its_job s.jobs p)) s.plans other.0 f.keeps.plans_known other.1
      ]) where
        mine : (c : SheetId) (name : List ℕ) (g : Goal) → c ≡ w.sheet → name ≡ job_name s.jobs w.sheet.job → g ≡ Tray (tray_of s.jobs w.sheet)
            → (is_known s.jobs c && bytes_eq name (job_name s.jobs c.job) && is_own_goal g (tray_of s.jobs c).0) ≡ true
        mine c name g e e' e'' =
            let same : ((tray_of s.jobs w.sheet).0 == (tray_of s.jobs w.sheet).0) ≡ true = grind (arith, nat_tests) in
            rw (e, e', e'') (rw (mine-known machine s w plans' f, bytes_eq-same (job_name s.jobs w.sheet.job)) same)

  pub lines-asked : KeepsLines (planned_waiting s w plans')
  lines-asked = record {
    in_order = AllPairs-filter (λ v u. is_before v.sheet u.sheet ≡ true) (λ v. not (is_same_copy v.sheet w.sheet)) s.waiting f.keeps.in_order;
    waiting_known = All-filter (λ v. not (is_same_copy v.sheet w.sheet)) (λ v. IsTrue (is_known s.jobs v.sheet)) s.waiting f.keeps.waiting_known;
    unplanned = unplanned-asked;
    line = line-asked;
    one = one-asked;
    plans_known = known-asked;
    fronts = fronts-kept machine s w plans' f ∙ f.keeps.fronts;
  }
