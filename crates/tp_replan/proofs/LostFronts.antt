-- The lost copies are the fronts of the schedule once no copy is loose: an induction over what befalls the copies and over the answers.
use Rattle.std.proofs.Common.{◌≡◌, ℕ, ◌+◌, inl, inr, Bool, true, false, cond, ◌&&◌, ◌||◌, not, List, [], ◌∷◌, ◌++◌, map, filter, flat_map, refl, sym, ap, ◌∙◌, arith, AllPairs, Contains, subst, Some, None}
use Rattle.std.specs.Prelude.{◌==◌}
use Rattle.std.specs.List.{list_any}
use Rattle.std.proofs.lemmas.List.Concat.{flat_map-cons}
use Rattle.std.proofs.lemmas.List.Elements.{All-contains}
use Rattle.tp_machine.specs.declared.machine.Machine.{Machine}
use Rattle.tp_schedule.proofs.CopyFacts.{plan_of-itself, same_copy-is}
use Rattle.tp_schedule.proofs.Membership.{All-from_contains, Contains-cons_cases, Contains-filter, Contains-filter_from, Contains-here, Contains-later, Contains-map, Contains-map_from, flat_map-from}
use Rattle.tp_schedule.proofs.Pairs.{AllPairs-cons, AllPairs-head, AllPairs-nil, AllPairs-tail}
use Rattle.tp_schedule.specs.Answers.{IsAlternative, IsRetimed, unmoved}
use Rattle.tp_schedule.specs.PlannerAnswers.{Deed, IsAnswer, none_exempt}
use Rattle.tp_schedule.specs.PlannerAnswers.Deed.{replied, settled}
use Rattle.tp_schedule.specs.Plans.{IsEarlier, change_plan, is_before, is_front, is_same_copy, without}
use Rattle.tp_schedule.specs.declared.parts.Ask.{Ask}
use Rattle.tp_schedule.specs.declared.parts.Goal.{Goal}
use Rattle.tp_schedule.specs.declared.parts.Goal.TheVariants.{Tray, Purge}
use Rattle.tp_schedule.specs.declared.parts.Plan.{Plan}
use Rattle.tp_schedule.specs.declared.parts.Reply.{Reply}
use Rattle.tp_schedule.specs.declared.parts.Reply.TheVariants.{Planned, Never, Spent}
use Rattle.tp_schedule.specs.declared.parts.SheetId.{SheetId}
use Rattle.tp_schedule.specs.declared.records.Record.{Record}
use Rattle.tp_schedule.specs.declared.records.Record.TheVariants.{Again}
use Rattle.tp_jobs.specs.Backlogs.{next_copy}
use Rattle.tp_jobs.specs.WaitingCopies.{put_waiting}
use Rattle.tp_event_rules.specs.AnswerRecords.{Answer}
use Rattle.tp_event_rules.specs.FallBacks.{Displaced, fall_back, fall_back_unless_broken, fate_in_break, fate_in_fall_back, is_line_entering, is_on_its_way, job_break, later_fall_back, next_waits}
use Rattle.tp_event_rules.specs.Fates as fates
use Rattle.tp_event_rules.specs.Fates.{Fate, befall, is_loss, left_of, lost_by, to_purge}
use Rattle.tp_event_rules.specs.Labels.{label}
use Rattle.tp_event_rules.specs.Lines.{is_job_broken, is_lost, is_same_line}
use Rattle.tp_event_rules.specs.Loops.{after_answers, after_asked, after_one, after_reply, next_ask, not_planned, stuck_module}
use Rattle.tp_event_rules.specs.Moments.{front_of, is_entering, is_running_on, is_to_run_on, is_unstarted, release_until}
use Rattle.tp_event_rules.specs.Outages.{displaced, fate_in_outage, going_out, outage, with_out}
use Rattle.tp_event_rules.specs.Planners.{AnswersInTurn, GoesOut, IsRight, PlannerSteps}
use Rattle.tp_event_rules.specs.Seen.{fronts_of}
use Rattle.tp_event_rules.specs.StateInvariants.{KeepsLines}
use Rattle.tp_event_rules.specs.States.{Outcome, SessionState, and_then, nothing_told}
use Rattle.tp_event_rules.proofs.AnsweredPlans.{other-from, unmoved-sheet}
use Rattle.tp_event_rules.proofs.LessOutages.{for_each-keeps}
use Rattle.tp_event_rules.proofs.PlanCounts.{lost-without}
use Rattle.tp_event_rules.proofs.PlanOnFacts.{Contains-change_plan}
use Rattle.tp_event_rules.proofs.SameMoment.{now-answers}
use Rattle.tp_event_rules.proofs.TestFacts.{filter-map_same, map-map_same}
use Rattle.tp_outage_laws.proofs.AnswerFalls.{none-loose}
use Rattle.tp_outage_laws.proofs.LooseAsks.{IsAskOf, asked-of}
use Rattle.tp_outage_laws.proofs.Members.{any-contains, filter-same, lost-any}
use Rattle.tp_replan.proofs.OutStarts.{front-lost}

-- the lost ones among the plans, by their copies
abbrev pub lost_sheets : SessionState → List Plan → List SheetId
lost_sheets s plans = map (λ p. p.sheet) (filter (is_lost s) plans)

-- plans stand in the order of copies, and the lost copies are told of plans among them that are fronts
pub record KeepsLost (s : SessionState) : Type 0 where
  pub in_order : AllPairs IsEarlier s.plans
  pub lost_are : lost_sheets s s.plans ≡ s.lost
  pub front : (p : Plan) → Contains s.plans p → is_lost s p ≡ true → is_front p.kind ≡ true

-- a copy has one plan
one-plan : (plans : List Plan) → AllPairs IsEarlier plans → (p q : Plan) → Contains plans p → Contains plans q → p.sheet ≡ q.sheet → p ≡ q
one-plan plans in_order p q in' in'' e =
    let mine = plan_of-itself plans p in_order in' in
    let its = plan_of-itself plans q in_order in'' in
    cc

one-of : (p q : Plan) → Contains (p ∷ []) q → p ≡ q
one-of p q in' = elim (Contains-cons_cases p [] q in') [
  | inl is ↦ is
  | inr none ↦ absurd (omega (arith, none.1))
]

or-true : (a : Bool) → (a || true) ≡ true
or-true true = refl
or-true false = refl

or-false : (a : Bool) → (a || false) ≡ true → a ≡ true
or-false true e = refl
or-false false e = absurd cc

-- Where fates befall the copies, but those that are lost.
module _ (fate : Plan → Fate) (s : SessionState) (k : KeepsLost s) (stay : (p : Plan) → Contains s.plans p → is_lost s p ≡ true → fate p ≡ fates.stays) where
  abbrev t : SessionState
  t = befall fate s

  abbrev gets_lost : Plan → Bool
  gets_lost p = is_lost s p || is_loss (fate p)

  lost-is : (p q : Plan) → Contains s.plans p → q.sheet ≡ p.sheet → is_lost t q ≡ gets_lost p
  lost-is p q in' same = go (gets_lost p) refl (is_lost t q) refl where
    go : (b : Bool) → gets_lost p ≡ b → (c : Bool) → is_lost t q ≡ c → c ≡ b
    go true e c g = sym g ∙ subst (λ c. list_any (is_same_copy c) (lost_by fate s) ≡ true) (sym same)
        (lost-any (lost_by fate s) p.sheet (Contains-map (λ p. p.sheet) (filter gets_lost s.plans) p (Contains-filter gets_lost s.plans p in' e)))
    go false e false g = refl
    go false e true g = absurd (
        let r = Contains-map_from (λ p. p.sheet) (filter gets_lost s.plans) q.sheet (any-contains q.sheet (lost_by fate s) g) in
        let r' = Contains-filter_from gets_lost s.plans r.0 r.1 in
        let is = one-plan s.plans k.in_order r.0 p r'.0 in' (sym r.2 ∙ same) in
        let lost : gets_lost p ≡ true = subst (λ (x : Plan). gets_lost x ≡ true) is r'.1 in cc)

  -- nothing is left, of one that is not lost, or a plan of the same copy, and a front if it is lost
  data IsLeft (p : Plan) : List Plan → Type 0 where
    gone : gets_lost p ≡ false → IsLeft p []
    left : (q : Plan) → q.sheet ≡ p.sheet → (gets_lost p ≡ true → is_front q.kind ≡ true) → IsLeft p (q ∷ [])

  not-lost : (p : Plan) → Contains s.plans p → (f : Fate) → fate p ≡ f → (f ≡ fates.stays → ⊥) → is_loss f ≡ false → gets_lost p ≡ false
  not-lost p in' f e moves no_loss = go (is_lost s p) refl where
    go : (b : Bool) → is_lost s p ≡ b → (b || is_loss (fate p)) ≡ false
    go true g = absurd (moves (sym e ∙ stay p in' g))
    go false g = ap is_loss e ∙ no_loss

  left-is : (p : Plan) → Contains s.plans p → IsLeft p (left_of s.now p (fate p))
  left-is p in' = go (fate p) refl where
    go : (f : Fate) → fate p ≡ f → IsLeft p (left_of s.now p f)
    go fates.stays e = left p refl (λ l. k.front p in' (or-false (is_lost s p) (subst (λ f. (is_lost s p || is_loss f) ≡ true) e l)))
    go fates.lost e = left (front_of s.now p) refl (λ l. refl)
    go fates.withdrawn e = gone (not-lost p in' fates.withdrawn e (λ same. absurd cc) refl)
    go fates.cut e = left (front_of s.now p) refl (λ l. refl)
    go fates.purged e = left (to_purge (front_of s.now p)) refl (λ l. refl)
    go fates.replaced e = left (to_purge (front_of s.now p)) refl (λ l. refl)
    go fates.dropped e = gone (not-lost p in' fates.dropped e (λ same. absurd cc) refl)

  abbrev lefts : Plan → List Plan
  lefts p = left_of s.now p (fate p)

  -- where a plan comes from
  record IsFrom (p q : Plan) : Type 0 where
    sheet : q.sheet ≡ p.sheet
    front : gets_lost p ≡ true → is_front q.kind ≡ true

  from-left : (p q : Plan) (m : List Plan) → IsLeft p m → Contains m q → IsFrom p q
  from-left p q _ (gone none) in' = absurd (omega (arith, in'.1))
  from-left p q _ (left r sheet front) in' = subst (IsFrom p) (one-of r q in') (record { sheet = sheet; front = front })

  from : (q : Plan) → Contains t.plans q → (p : Plan) × Contains s.plans p × IsFrom p q
  from q in' =
      let r = flat_map-from lefts s.plans q in' in
      (r.0, r.1, from-left r.0 q (lefts r.0) (left-is r.0 r.1) r.2)

  order-left : (l : List Plan) → ((p : Plan) → Contains l p → Contains s.plans p) → AllPairs IsEarlier l → AllPairs IsEarlier (flat_map lefts l)
  order-left [] within pairs = AllPairs-nil IsEarlier
  order-left (p ∷ l) within pairs =
      subst (AllPairs IsEarlier) (sym (flat_map-cons lefts p l))
      (go (lefts p) (left-is p (within p (Contains-here p l))) (order-left l (λ q i. within q (Contains-later p l q i)) (AllPairs-tail IsEarlier p l pairs))) where
        later : (q r : Plan) → q.sheet ≡ p.sheet → Contains (flat_map lefts l) r → is_before q.sheet r.sheet ≡ true
        later q r same in' =
            let m = flat_map-from lefts l r in' in
            let of = from-left m.0 r (lefts m.0) (left-is m.0 (within m.0 (Contains-later p l m.0 m.1))) m.2 in
            let before : is_before p.sheet m.0.sheet ≡ true = All-contains (IsEarlier p) l m.0 (AllPairs-head IsEarlier p l pairs) m.1 in
            subst (λ c. is_before c r.sheet ≡ true) (sym same) (subst (λ c. is_before p.sheet c ≡ true) (sym of.sheet) before)

        go : (m : List Plan) → IsLeft p m → AllPairs IsEarlier (flat_map lefts l) → AllPairs IsEarlier (m ++ flat_map lefts l)
        go _ (gone none) rest = rest
        go _ (left q sheet front) rest = AllPairs-cons IsEarlier q (flat_map lefts l) (All-from_contains (IsEarlier q) (flat_map lefts l) (λ r in'. later q r sheet in')) rest

  lost-all : (l : List Plan) → ((p : Plan) → Contains l p → Contains s.plans p) → lost_sheets t (flat_map lefts l) ≡ map (λ p. p.sheet) (filter gets_lost l)
  lost-all [] within = refl
  lost-all (p ∷ l) within =
      ap (lost_sheets t) (flat_map-cons lefts p l)
      ∙ go (lefts p) (left-is p in') (lost-all l (λ q i. within q (Contains-later p l q i))) where
        in' : Contains s.plans p
        in' = within p (Contains-here p l)

        rest_lost : List Plan
        rest_lost = filter (is_lost t) (flat_map lefts l)

        go : (m : List Plan) → IsLeft p m → map (λ p. p.sheet) rest_lost ≡ map (λ p. p.sheet) (filter gets_lost l) → lost_sheets t (m ++ flat_map lefts l) ≡ map (λ p. p.sheet) (filter gets_lost (p ∷ l))
        go _ (gone none) rest = rest ∙ ap (λ b. map (λ (p : Plan). p.sheet) (cond b (p ∷ filter gets_lost l) (filter gets_lost l))) (sym none)
        go _ (left q sheet front) rest =
            ap (λ b. map (λ (p : Plan). p.sheet) (cond b (q ∷ rest_lost) rest_lost)) (lost-is p q in' sheet) ∙ both (gets_lost p) where
              both : (b : Bool) → map (λ (p : Plan). p.sheet) (cond b (q ∷ rest_lost) rest_lost) ≡ map (λ (p : Plan). p.sheet) (cond b (p ∷ filter gets_lost l) (filter gets_lost l))
              both true = (λ i. sheet i ∷ rest i)
              both false = rest

  pub keeps-befall : KeepsLost (befall fate s)
  keeps-befall = record {
    in_order = order-left s.plans (λ p i. i) k.in_order;
    lost_are = lost-all s.plans (λ p i. i);
    front = λ q in' lost. let m = from q in' in m.2.front (sym (lost-is m.0 q m.1 m.2.sheet) ∙ lost);
  }

-- A lost copy stays as it is in an outage, a fall-back and a break.
stays-out : (machine : Machine) (m : ℕ) (jam : Bool) (s : SessionState) (p : Plan) → is_lost s p ≡ true → fate_in_outage machine m jam s p ≡ fates.stays
stays-out machine m jam s p e = go (is_lost s p) e jam (is_running_on machine s.now m p) where
  go : (b : Bool) → b ≡ true → (j r : Bool) → cond ((j && not b) && r) fates.lost (cond (not (not b && is_to_run_on machine s.now m p)) fates.stays (cond (is_unstarted s.now p) fates.withdrawn fates.cut)) ≡ fates.stays
  go true e true r = refl
  go true e false r = refl
  go false e j r = absurd cc

stays-back : (s : SessionState) (copy : SheetId) (p : Plan) → is_lost s p ≡ true → fate_in_fall_back s copy p ≡ fates.stays
stays-back s copy p e = go (is_lost s p) e (is_before copy p.sheet) (is_same_line s.jobs copy p.sheet) where
  go : (b : Bool) → b ≡ true → (x y : Bool) → cond (not (x && y && not b)) fates.stays (cond (is_unstarted s.now p) fates.withdrawn (cond (is_on_its_way s.now p) fates.replaced fates.stays)) ≡ fates.stays
  go true e true true = refl
  go true e true false = refl
  go true e false y = refl
  go false e x y = absurd cc

stays-break : (s : SessionState) (job : ℕ) (p : Plan) → is_lost s p ≡ true → fate_in_break s job p ≡ fates.stays
stays-break s job p e = go (is_lost s p) e (p.sheet.job == job) where
  go : (b : Bool) → b ≡ true → (x : Bool) → cond (not (x && not b)) fates.stays (cond (is_unstarted s.now p) fates.dropped (cond (is_on_its_way s.now p && not (is_entering s.now p)) fates.purged fates.stays)) ≡ fates.stays
  go true e true = refl
  go true e false = refl
  go false e x = absurd cc

keeps-next : (s : SessionState) (d : Displaced) → KeepsLost s → KeepsLost (next_waits d s).state
keeps-next s d k = go d.again where
  go : (b : Bool) → KeepsLost (cond {A = Outcome} b (record {
    records = Again (label s.jobs (next_copy d.sheet)) ∷ [];
    state = record s { waiting = put_waiting s.waiting (record { sheet = next_copy d.sheet; want = d.want }) };
  }) (nothing_told s)).state
  go true = record { in_order = k.in_order; lost_are = k.lost_are; front = k.front }
  go false = k

keeps-break : (s : SessionState) (job : ℕ) → KeepsLost s → KeepsLost (job_break job s).state
keeps-break s job k =
    let kept = keeps-befall (fate_in_break s job) s k (λ p in'. stays-break s job p) in
    record { in_order = kept.in_order; lost_are = kept.lost_are; front = kept.front }

keeps-back : (s : SessionState) (d : Displaced) → KeepsLost s → KeepsLost (fall_back s d).state
keeps-back s d k = go (is_line_entering s d.sheet) where
  next : KeepsLost (next_waits d s).state
  next = keeps-next s d k

  go : (b : Bool) → KeepsLost (cond {A = Outcome} b (job_break d.sheet.job s) (and_then (next_waits d s) (later_fall_back d.sheet))).state
  go true = keeps-break s d.sheet.job k
  go false = keeps-befall (fate_in_fall_back (next_waits d s).state d.sheet) (next_waits d s).state next (λ p in'. stays-back (next_waits d s).state d.sheet p)

keeps-unless : (s : SessionState) (d : Displaced) → KeepsLost s → KeepsLost (fall_back_unless_broken s d).state
keeps-unless s d k = go (is_job_broken s.jobs d.sheet.job) where
  go : (b : Bool) → KeepsLost (cond {A = Outcome} b (nothing_told s) (fall_back s d)).state
  go true = k
  go false = keeps-back s d k

keeps-out : (machine : Machine) (m : ℕ) (jam : Bool) (s : SessionState) → KeepsLost s → KeepsLost (outage machine m jam s).state
keeps-out machine m jam s k =
    for_each-keeps KeepsLost fall_back_unless_broken keeps-unless (displaced machine m jam s) (going_out machine m jam s).state
    (keeps-befall (fate_in_outage machine m jam s) (with_out m s) (record { in_order = k.in_order; lost_are = k.lost_are; front = k.front }) (λ p in'. stays-out machine m jam s p))

-- Where one plan is changed and keeps its copy.
module _ (copy : SheetId) (f : Plan → Plan) (same : (p : Plan) → (f p).sheet ≡ p.sheet) where
  order-change : (l : List Plan) → AllPairs IsEarlier l → AllPairs IsEarlier (change_plan copy f l)
  order-change [] pairs = AllPairs-nil IsEarlier
  order-change (p ∷ l) pairs = go (is_same_copy p.sheet copy) (order-change l rest) where
    rest : AllPairs IsEarlier l
    rest = AllPairs-tail IsEarlier p l pairs

    before : (q : Plan) → Contains l q → is_before p.sheet q.sheet ≡ true
    before q in' = All-contains (IsEarlier p) l q (AllPairs-head IsEarlier p l pairs) in'

    go : (b : Bool) → AllPairs IsEarlier (change_plan copy f l) → AllPairs IsEarlier (cond b (f p ∷ l) (p ∷ change_plan copy f l))
    go true changed = AllPairs-cons IsEarlier (f p) l (All-from_contains (IsEarlier (f p)) l (λ q in'. subst (λ c. is_before c q.sheet ≡ true) (sym (same p)) (before q in'))) rest
    go false changed = AllPairs-cons IsEarlier p (change_plan copy f l) (All-from_contains (IsEarlier p) (change_plan copy f l) (λ r in'. elim (Contains-change_plan copy f l r rest in') [
      | inl other ↦ before r other.0
      | inr mine ↦ subst (λ (x : Plan). is_before p.sheet x.sheet ≡ true) (sym mine.3) (subst (λ c. is_before p.sheet c ≡ true) (sym (same mine.0)) (before mine.0 mine.1))
    ])) changed

  lost-change : (s : SessionState) (l : List Plan) → lost_sheets s (change_plan copy f l) ≡ lost_sheets s l
  lost-change s [] = refl
  lost-change s (x ∷ l) = go (is_same_copy x.sheet copy) (lost-change s l) where
    go : (b : Bool) → lost_sheets s (change_plan copy f l) ≡ lost_sheets s l → lost_sheets s (cond b (f x ∷ l) (x ∷ change_plan copy f l)) ≡ lost_sheets s (x ∷ l)
    go true rest = ap (λ c. map (λ (p : Plan). p.sheet) (cond (list_any (is_same_copy c) s.lost) (f x ∷ filter (is_lost s) l) (filter (is_lost s) l))) (same x) ∙ one (is_lost s x) where
      one : (b : Bool) → map (λ (p : Plan). p.sheet) (cond b (f x ∷ filter (is_lost s) l) (filter (is_lost s) l)) ≡ map (λ (p : Plan). p.sheet) (cond b (x ∷ filter (is_lost s) l) (filter (is_lost s) l))
      one true = λ i. same x i ∷ map (λ (p : Plan). p.sheet) (filter (is_lost s) l)
      one false = refl
    go false rest = two (is_lost s x) where
      two : (b : Bool) → map (λ (p : Plan). p.sheet) (cond b (x ∷ filter (is_lost s) (change_plan copy f l)) (filter (is_lost s) (change_plan copy f l))) ≡ map (λ (p : Plan). p.sheet) (cond b (x ∷ filter (is_lost s) l) (filter (is_lost s) l))
      two true = ap (λ m. x.sheet ∷ m) rest
      two false = rest

lost-unmoved : (s : SessionState) (l : List Plan) → lost_sheets s l ≡ lost_sheets s (map unmoved l)
lost-unmoved s l = sym (ap (map (λ (p : Plan). p.sheet)) (filter-map_same (is_lost s) unmoved (λ p. refl) l) ∙ map-map_same (λ p. p.sheet) unmoved (λ p. refl) (filter (is_lost s) l))

-- The ask for a loose copy.
module _ (machine : Machine) (s : SessionState) (k : KeepsLost s) (ask : Ask) (of : IsAskOf machine s ask) where
  asked : of.p.sheet ≡ ask.sheet
  asked = ap (λ (a : Ask). a.sheet) of.is

  not-asked : (q : Plan) → is_same_copy q.sheet ask.sheet ≡ true → is_lost s q ≡ false
  not-asked q same = subst (λ c. list_any (is_same_copy c) s.lost ≡ false) (asked ∙ sym (same_copy-is q.sheet ask.sheet same)) of.not_lost

  -- it gives its tray up
  keeps-given : KeepsLost (record s { plans = change_plan ask.sheet to_purge s.plans })
  keeps-given = record {
    in_order = order-change ask.sheet to_purge (λ p. refl) s.plans k.in_order;
    lost_are = lost-change ask.sheet to_purge (λ p. refl) s s.plans ∙ k.lost_are;
    front = λ q in' lost. elim (Contains-change_plan ask.sheet to_purge s.plans q k.in_order in') [
      | inl other ↦ k.front q other.0 lost
      | inr mine ↦ subst (λ (x : Plan). is_front x.kind ≡ true) (sym mine.3) (k.front mine.0 mine.1 (subst (λ (x : Plan). is_lost s x ≡ true) mine.3 lost))
    ];
  }

  keeps-not_planned : (goal : Goal) → KeepsLost (not_planned machine ask goal s).state
  keeps-not_planned (Tray t) = keeps-back (record s { plans = change_plan ask.sheet to_purge s.plans }) (record { sheet = ask.sheet; want = ask.want; again = true }) keeps-given
  keeps-not_planned Purge = keeps-out machine (stuck_module machine s ask).0 true s k

  -- it is planned
  module _ (plans' : List Plan) (a : IsAlternative machine s.plans ask plans') where
    abbrev releases : Plan → Plan
    releases = release_until (s.now + machine.lead)

    others-lost : (l : List Plan) → filter (is_lost s) (without ask.sheet l) ≡ filter (is_lost s) l
    others-lost l = lost-without (is_lost s) ask.sheet l (All-from_contains (λ p. is_same_copy p.sheet ask.sheet ≡ true → is_lost s p ≡ false) l (λ q in' same. not-asked q same))

    same-lost : lost_sheets s plans' ≡ lost_sheets s s.plans
    same-lost =
        ap (map (λ (p : Plan). p.sheet)) (sym (others-lost plans'))
        ∙ lost-unmoved s (without ask.sheet plans')
        ∙ ap (lost_sheets s) a.others
        ∙ sym (lost-unmoved s (without ask.sheet s.plans))
        ∙ ap (map (λ (p : Plan). p.sheet)) (others-lost s.plans)

    keeps-planned : KeepsLost (record s { plans = change_plan ask.sheet releases plans' })
    keeps-planned = record {
      in_order = order-change ask.sheet releases (λ p. refl) plans' a.legal.in_order;
      lost_are = lost-change ask.sheet releases (λ p. refl) s plans' ∙ same-lost ∙ k.lost_are;
      front = λ q in' lost. elim (Contains-change_plan ask.sheet releases plans' q a.legal.in_order in') [
        | inl other ↦
            let p = other-from machine s.plans ask plans' a q other.0 other.1 in
            let was : is_lost s p.0 ≡ true = subst (λ c. list_any (is_same_copy c) s.lost ≡ true) (unmoved-sheet q p.0 p.2) lost in
            ap (λ (x : Plan). is_front x.kind) p.2.is ∙ k.front p.0 p.1 was
        | inr mine ↦ absurd (
            let no = not-asked mine.0 mine.2 in
            let yes : is_lost s mine.0 ≡ true = subst (λ (x : Plan). is_lost s x ≡ true) mine.3 lost in cc)
      ];
    }

  keeps-reply : (spent : Machine → List Plan → Ask → ℕ → Type 0) (reply : Reply) (plans : List Plan) → IsAnswer spent machine s.plans ask reply plans → KeepsLost (after_reply machine ask reply plans s).state
  keeps-reply spent Planned plans answer = keeps-planned plans answer.0.alternative
  keeps-reply spent Never plans answer = keeps-not_planned ask.goal
  keeps-reply spent (Spent bound) plans answer = keeps-not_planned ask.goal

-- The settling.
keeps-settled : (machine : Machine) (s : SessionState) (plans : List Plan) → IsRetimed machine s.now none_exempt s.plans plans → KeepsLost s → KeepsLost (record s { plans = plans })
keeps-settled machine s plans r k = record {
  in_order = r.legal.in_order;
  lost_are = lost-unmoved s plans ∙ ap (lost_sheets s) r.same ∙ sym (lost-unmoved s s.plans) ∙ k.lost_are;
  front = λ q in' lost.
      let m = Contains-map_from unmoved s.plans (unmoved q) (subst (λ l. Contains l (unmoved q)) r.same (Contains-map unmoved plans q in')) in
      ap (λ (x : Plan). is_front x.kind) m.2 ∙ k.front m.0 m.1 (ap (is_lost s) (sym m.2) ∙ lost);
}

-- Where a module can go out, the lost copies are the fronts.
keeps-begin : (s : SessionState) → AllPairs IsEarlier s.plans → KeepsLines s → KeepsLost s
keeps-begin s in_order keeps = record {
  in_order = in_order;
  lost_are = ap (map (λ (p : Plan). p.sheet)) (filter-same (is_lost s) (λ p. is_front p.kind) s.plans (λ p in'. same p in' (is_front p.kind) refl (is_lost s p) refl)) ∙ keeps.fronts;
  front = lost-front;
} where
  lost-front : (p : Plan) → Contains s.plans p → is_lost s p ≡ true → is_front p.kind ≡ true
  lost-front p in' lost =
      let q = Contains-map_from (λ p. p.sheet) (filter (λ p. is_front p.kind) s.plans) p.sheet (subst (λ l. Contains l p.sheet) (sym keeps.fronts) (any-contains p.sheet s.lost lost)) in
      let r = Contains-filter_from (λ p. is_front p.kind) s.plans q.0 q.1 in
      subst (λ (x : Plan). is_front x.kind ≡ true) (one-plan s.plans in_order q.0 p r.0 in' (sym q.2)) r.1

  same : (p : Plan) → Contains s.plans p → (x : Bool) → is_front p.kind ≡ x → (y : Bool) → is_lost s p ≡ y → y ≡ x
  same p in' true e true g = refl
  same p in' true e false g = absurd (let l = front-lost s keeps p in' e in cc)
  same p in' false e true g = absurd (let f = lost-front p in' g in cc)
  same p in' false e false g = refl

module _ {P : Type 0} (steps : PlannerSteps P) (machine : Machine) (spent : P → Machine → List Plan → Ask → ℕ → Type 0)
    (right : (p : P) (plans : List Plan) (deed : Deed) (plans' : List Plan) (p' : P) → steps.does p plans deed plans' p' → IsRight (spent p) machine plans deed plans') where
  keeps-one : (s : SessionState) (a : Answer) (ask : Ask) (p p' : P) → next_ask machine s ≡ Some ask → steps.does p s.plans (replied ask a.reply) a.plans p' → KeepsLost s → KeepsLost (after_one machine s a).state
  keeps-one s a ask p p' e does k =
      subst (λ o. KeepsLost (after_asked machine s o a).state) (sym e)
      (keeps-reply machine s k ask (asked-of machine s ask e) (spent p) a.reply a.plans (right p s.plans (replied ask a.reply) a.plans p' does))

  keeps-answers : (s : SessionState) (answers : List Answer) (p p' : P) → AnswersInTurn steps machine s answers p p' → KeepsLost s → KeepsLost (after_answers machine answers s).state
  keeps-answers s [] p p' in_turn k = k
  keeps-answers s (a ∷ answers) p p' (ask, e, (between, does, rest)) k =
      keeps-answers (after_one machine s a).state answers between p' rest (keeps-one s a ask p between e does k)

  then-lost : (a b : Bool) → (a && not b) ≡ false → a ≡ true → b ≡ true
  then-lost true true e f = refl
  then-lost true false e f = absurd cc
  then-lost false b e f = absurd cc

  -- after the settling the fronts are lost, and no other plan is
  after-loop : (t : SessionState) (plans : List Plan) → next_ask machine t ≡ None → IsRetimed machine t.now none_exempt t.plans plans → KeepsLost t → fronts_of plans ≡ t.lost
  after-loop t plans none r k =
      ap (map (λ (p : Plan). p.sheet)) (filter-same (λ p. is_front p.kind) (is_lost t) plans (λ q in'. same q in' (is_front q.kind) refl (is_lost t q) refl)) ∙ after.lost_are where
        after : KeepsLost (record t { plans = plans })
        after = keeps-settled machine t plans r k

        front-gone : (q : Plan) → Contains plans q → is_front q.kind ≡ true → is_lost t q ≡ true
        front-gone q in' front =
            let m = Contains-map_from unmoved t.plans (unmoved q) (subst (λ l. Contains l (unmoved q)) r.same (Contains-map unmoved plans q in')) in
            then-lost (is_front q.kind) (is_lost t q) (ap (λ (x : Plan). is_front x.kind && not (is_lost t x)) m.2 ∙ none-loose machine t none m.0 m.1) front

        same : (q : Plan) → Contains plans q → (x : Bool) → is_front q.kind ≡ x → (y : Bool) → is_lost t q ≡ y → x ≡ y
        same q in' true e y g = sym (front-gone q in' e) ∙ g
        same q in' false e true g = absurd (let f = after.front q in' g in cc)
        same q in' false e false g = refl

  pub fronts-out : (s : SessionState) (m : ℕ) (jam : Bool) (p : P) (records : List Record) (s' : SessionState) (p' : P) → GoesOut steps machine s m jam p records s' p'
      → AllPairs IsEarlier s.plans → KeepsLines s → fronts_of s'.plans ≡ s'.lost
  fronts-out s m jam p records s' p' out in_order keeps =
      let o = outage machine m jam s in
      let loop = out.loop in
      let t = (after_answers machine loop.answers o.state).state in
      let k = keeps-answers o.state loop.answers p loop.mid loop.in_turn (keeps-out machine m jam s (keeps-begin s in_order keeps)) in
      let settled = right loop.mid t.plans (settled o.state.now) loop.plans p' loop.settles in
      let retimed = subst (λ n. IsRetimed machine n none_exempt t.plans loop.plans) (sym (now-answers machine loop.answers o.state)) settled.retimed in
      subst (λ (u : SessionState). fronts_of u.plans ≡ u.lost) (sym loop.state) (after-loop t loop.plans loop.none_loose retimed k)
