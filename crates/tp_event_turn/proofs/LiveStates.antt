-- What a phase of asks on the live part must know of the whole state, and what each answer leaves of it.
use Rattle.std.proofs.Common.{◌≡◌, ℕ, inl, inr, Bool, true, false, cond, ◌&&◌, ◌||◌, ◌==◌, not, List, [], ◌∷◌, map, filter, refl, sym, ap, ◌∙◌, arith, Contains, All, AllPairs, IsTrue, subst, nat_lt}
use Rattle.std.specs.Prelude.{IsFalse}
use Rattle.std.proofs.lemmas.Bool.{and_parts, not_from_false}
use Rattle.std.proofs.lemmas.Bool.Decides.{nat_tests}
use Rattle.std.proofs.lemmas.List.Elements.{All-contains, All-head, All-tail}
use Rattle.tp_machine.proofs.Lists.{All-from_none}
use Rattle.tp_machine.specs.declared.machine.Machine.{Machine}
use Rattle.tp_schedule.specs.Answers.{IsAlternative, KeepsFloors, follows_front, unmoved}
use Rattle.tp_schedule.specs.Legality.{IsLegal}
use Rattle.tp_schedule.specs.LivePlans.{is_live}
use Rattle.tp_schedule.specs.PlannerAnswers.{none_exempt}
use Rattle.tp_schedule.specs.Plans.{goes_to, is_before, is_delivered_to, is_front, is_same_copy, without}
use Rattle.tp_schedule.specs.declared.parts.Goal.{Goal}
use Rattle.tp_schedule.specs.declared.parts.Goal.TheVariants.{Tray, Purge}
use Rattle.tp_schedule.specs.declared.parts.Plan.{Plan}
use Rattle.tp_schedule.specs.declared.parts.SheetId.{SheetId}
use Rattle.tp_schedule.proofs.CopyFacts.{before-not_same, same_copy-is}
use Rattle.tp_schedule.proofs.Membership.{All-from_contains, Contains-filter, Contains-filter_from, Contains-map_from}
use Rattle.tp_schedule.proofs.Pairs.{AllPairs-head, AllPairs-tail}
use Rattle.tp_jobs.proofs.Found.{find-none}
use Rattle.tp_jobs.specs.Backlogs.{tray_of}
use Rattle.tp_jobs.specs.WaitingCopies.{without_waiting}
use Rattle.tp_jobs.specs.declared.parts.WaitingCopy.{WaitingCopy}
use Rattle.tp_event_rules.specs.AskPhase.{ask_waiting}
use Rattle.tp_event_rules.specs.StateInvariants.{KeepsLines, StandsBehind, is_of_its_job, is_own_goal, is_planned_among, live_part, live_plans, tray_plans}
use Rattle.tp_event_rules.specs.Lines.{is_same_line}
use Rattle.tp_event_rules.specs.Moments.{is_to_tray, is_tray_plan}
use Rattle.tp_event_rules.specs.States.{SessionState}
use Rattle.tp_event_rules.proofs.AnsweredPlans.{plan-cases, unmoved-sheet}
use Rattle.tp_event_rules.proofs.AskedFacts.{not_same-sym}
use Rattle.tp_event_rules.proofs.AskedLines.{planned_waiting}
use Rattle.tp_event_rules.proofs.TestFacts.{list_any-map_same}
use Rattle.tp_event_turn.specs.LiveAnswers.{CanAskLive, live_at, past_at}
use Rattle.tp_event_turn.proofs.CanAskFacts.{of-its-job}
use Rattle.tp_event_turn.proofs.LiveLists.{filter-by}
use Rattle.tp_schedule.specs.declared.parts.Empties.{Empties}
use Rattle.tp_stock.proofs.StockFacts.{keeps-empties}
use Rattle.tp_stock.specs.Stock.{less_taken}

-- a copy that waits has no plan and was not lost, and past plans to its tray are of earlier copies
pub record WaitsFree (machine : Machine) (s : SessionState) (w : WaitingCopy) : Type 0 where
  pub unplanned : (p : Plan) → Contains s.plans p → is_same_copy p.sheet w.sheet ≡ false
  pub earlier : (p : Plan) → Contains s.plans p → is_live machine s.now p ≡ false → is_delivered_to p (tray_of s.jobs w.sheet).0 ≡ true → is_before p.sheet w.sheet ≡ true
  pub not_lost : (c : SheetId) → Contains s.lost c → is_same_copy c w.sheet ≡ false

-- the whole state, with the copies that are still to be asked
pub record IsWhole (machine : Machine) (s : SessionState) (ws : List WaitingCopy) : Type 0 where
  pub legal : IsLegal machine s.plans
  pub floors : KeepsFloors machine s.now none_exempt s.plans
  pub in_order : AllPairs (λ v w. IsTrue (is_before v.sheet w.sheet)) ws
  pub free : All (WaitsFree machine s) ws

pub whole-rest : (machine : Machine) (s : SessionState) (w : WaitingCopy) (ws : List WaitingCopy) → IsWhole machine s (w ∷ ws) → IsWhole machine s ws
whole-rest machine s w ws whole = record {
  legal = whole.legal;
  floors = whole.floors;
  in_order = AllPairs-tail (λ v w. IsTrue (is_before v.sheet w.sheet)) w ws whole.in_order;
  free = All-tail (WaitsFree machine s) w ws whole.free;
}

-- what is empty for the live part is empty for the whole, so that the ask is the same
pub same-ask : (machine : Machine) (s : SessionState) (w : WaitingCopy) → ask_waiting machine (live_part machine s) w ≡ ask_waiting machine s w
same-ask machine s w = ap (λ (empty : Empties). record (ask_waiting machine s w) { empty = empty }) (keeps-empties machine s.refills s.plans (is_live machine s.now))

same-number : (a b : ℕ) → (a == b) ≡ true → a ≡ b
same-number a b e = grind (arith, nat_tests)

-- the first of them can be asked
pub can-ask-live : (machine : Machine) (s : SessionState) (w : WaitingCopy) (ws : List WaitingCopy) → IsWhole machine s (w ∷ ws) → CanAskLive machine s.plans (ask_waiting machine s w)
can-ask-live machine s w ws whole =
    let free = All-head (WaitsFree machine s) w ws whole.free in
    record {
      legal = whole.legal;
      floors = whole.floors;
      asked = find-none (λ p. is_same_copy p.sheet w.sheet) s.plans (All-from_contains (λ p. is_same_copy p.sheet w.sheet ≡ false) s.plans free.unplanned);
      ends_ahead = tt;
      earlier = λ p in' past tray to delivered.
          let same = same-number (tray_of s.jobs w.sheet).0 tray to in
          free.earlier p in' past (subst (λ t. is_delivered_to p t ≡ true) (sym same) delivered);
    }

-- where lines are kept
module _ (machine : Machine) (s : SessionState) (lines : KeepsLines s) where
  none-planned : (w : WaitingCopy) → Contains s.waiting w → (p : Plan) → Contains s.plans p → is_same_copy p.sheet w.sheet ≡ false
  none-planned w waits p in' =
      let none = All-contains (λ v. IsFalse (is_planned_among s.plans v.sheet)) s.waiting w lines.unplanned waits in
      All-contains (λ p. is_same_copy p.sheet w.sheet ≡ false) s.plans p (All-from_none (λ p. is_same_copy p.sheet w.sheet) (λ p. is_same_copy p.sheet w.sheet ≡ false) (λ p e. e) s.plans none) in'

  stands-before : (w : WaitingCopy) → Contains s.waiting w → (p : Plan) → Contains s.plans p → is_delivered_to p (tray_of s.jobs w.sheet).0 ≡ true → is_before p.sheet w.sheet ≡ true
  stands-before w waits p in' delivered =
      let parts = and_parts (not (is_front p.kind)) (goes_to p.goal (tray_of s.jobs w.sheet).0) delivered in
      let its = of-its-job s.jobs p (All-contains (λ p. IsTrue (is_of_its_job s.jobs p)) s.plans p lines.plans_known in') in
      let both = by-goal p.goal parts.1 its.goal in
      let tray : is_tray_plan p ≡ true = rw (parts.0, both.0) refl in
      All-contains (StandsBehind s.jobs w) (tray_plans s.plans) p
      (All-contains (λ v. All (StandsBehind s.jobs v) (tray_plans s.plans)) s.waiting w lines.line waits)
      (Contains-filter is_tray_plan s.plans p in' tray) both.1 where
        by-goal : (g : Goal) → goes_to g (tray_of s.jobs w.sheet).0 ≡ true → is_own_goal g (tray_of s.jobs p.sheet).0 ≡ true → (is_to_tray g ≡ true) × (is_same_line s.jobs w.sheet p.sheet ≡ true)
        by-goal (Tray t) to own = (refl, grind (arith, nat_tests))
        by-goal Purge to own = absurd (cc)

  lost-planned : (w : WaitingCopy) → Contains s.waiting w → (c : SheetId) → Contains s.lost c → is_same_copy c w.sheet ≡ false
  lost-planned w waits c in' =
      let front = Contains-map_from (λ (p : Plan). p.sheet) (filter (λ p. is_front p.kind) s.plans) c (subst (λ cs. Contains cs c) (sym lines.fronts) in') in
      let from = Contains-filter_from (λ p. is_front p.kind) s.plans front.0 front.1 in
      subst (λ d. is_same_copy d w.sheet ≡ false) (sym front.2) (none-planned w waits front.0 from.0)

  pub whole-all : IsLegal machine s.plans → KeepsFloors machine s.now none_exempt s.plans → IsWhole machine s s.waiting
  whole-all legal floors = record {
    legal = legal;
    floors = floors;
    in_order = lines.in_order;
    free = All-from_contains (WaitsFree machine s) s.waiting (λ w waits. record {
      unplanned = none-planned w waits;
      earlier = λ p in' past delivered. stands-before w waits p in' delivered;
      not_lost = lost-planned w waits;
    });
  }

module _ (machine : Machine) (s : SessionState) (w : WaitingCopy) (ws : List WaitingCopy) (whole : IsWhole machine s (w ∷ ws)) where
  not-following : (p : Plan) → follows_front (ask_waiting machine s w) p ≡ false
  not-following p = go (is_same_copy p.sheet w.sheet) where
    go : (b : Bool) → (b && nat_lt 0 0) ≡ false
    go true = refl
    go false = refl

  pub whole-planned : (plans : List Plan) → IsAlternative machine s.plans (ask_waiting machine s w) plans → past_at machine s.now plans ≡ past_at machine s.now s.plans → IsWhole machine (planned_waiting s w plans) ws
  whole-planned plans a past = record {
    legal = a.legal;
    floors = λ p in' free i le within. a.floors p in' (not-following p) i le within;
    in_order = AllPairs-tail (λ v w. IsTrue (is_before v.sheet w.sheet)) w ws whole.in_order;
    free = All-from_contains (WaitsFree machine (planned_waiting s w plans)) ws (λ v waits.
        still-free v (All-contains (WaitsFree machine s) ws v (All-tail (WaitsFree machine s) w ws whole.free) waits)
        (All-contains (λ v. IsTrue (is_before w.sheet v.sheet)) ws v (AllPairs-head (λ v w. IsTrue (is_before v.sheet w.sheet)) w ws whole.in_order) waits));
  } where
    still-free : (v : WaitingCopy) → WaitsFree machine s v → is_before w.sheet v.sheet ≡ true → WaitsFree machine (planned_waiting s w plans) v
    still-free v free later = record {
      unplanned = λ q in'. elim (plan-cases machine s.plans (ask_waiting machine s w) plans a q in') [
        | inl is ↦ subst (λ c. is_same_copy c v.sheet ≡ false) (sym (ap (λ (p : Plan). p.sheet) is ∙ a.answers.sheet)) (before-not_same w.sheet v.sheet later)
        | inr other ↦ subst (λ c. is_same_copy c v.sheet ≡ false) (sym (unmoved-sheet q other.0 other.2)) (free.unplanned other.0 other.1)
      ];
      earlier = λ q in' gone delivered.
          let there : Contains (past_at machine s.now s.plans) q = subst (λ ps. Contains ps q) past (Contains-filter (λ p. not (is_live machine s.now p)) plans q in' (not_from_false (is_live machine s.now q) gone)) in
          free.earlier q (Contains-filter_from (λ p. not (is_live machine s.now p)) s.plans q there).0 gone delivered;
      not_lost = free.not_lost;
    }

  -- the live part of this state is the live part with the live plans of the answer
  pub live-planned : (live plans : List Plan) → IsAlternative machine (live_plans machine s) (ask_waiting machine s w) live → live_at machine s.now plans ≡ live → past_at machine s.now plans ≡ past_at machine s.now s.plans
      → planned_waiting (live_part machine s) w live ≡ live_part machine (planned_waiting s w plans)
  live-planned live plans a is past =
      let free = All-head (WaitsFree machine s) w ws whole.free in
      let lost = filter-by (is_planned_among (live_plans machine s)) (is_planned_among live) s.lost (λ c in'. sym (among c (free.not_lost c in'))) in
      let all = lost ∙ ap (λ ps. filter (is_planned_among ps) s.lost) (sym is) in
      λ i. record s { plans = sym is i; lost = all i; waiting = without_waiting w.sheet s.waiting; refills = less_taken machine (sym past i) s.refills } where
        skip : (c : SheetId) → is_same_copy c w.sheet ≡ false → (ps : List Plan) → is_planned_among (without w.sheet ps) c ≡ is_planned_among ps c
        skip c other [] = refl
        skip c other (p ∷ ps) = go (is_same_copy p.sheet w.sheet) refl (skip c other ps) where
          go : (b : Bool) → is_same_copy p.sheet w.sheet ≡ b → is_planned_among (without w.sheet ps) c ≡ is_planned_among ps c
              → is_planned_among (cond (not b) (p ∷ without w.sheet ps) (without w.sheet ps)) c ≡ (is_same_copy p.sheet c || is_planned_among ps c)
          go true e rest =
              let none : is_same_copy p.sheet c ≡ false = subst (λ d. is_same_copy d c ≡ false) (sym (same_copy-is p.sheet w.sheet e)) (not_same-sym c w.sheet other) in
              rw none rest
          go false e rest = ap (λ b. is_same_copy p.sheet c || b) rest

        by-shape : (c : SheetId) (ps : List Plan) → is_planned_among ps c ≡ is_planned_among (map unmoved ps) c
        by-shape c ps = sym (list_any-map_same (λ p. is_same_copy p.sheet c) unmoved (λ p. refl) ps)

        among : (c : SheetId) → is_same_copy c w.sheet ≡ false → is_planned_among live c ≡ is_planned_among (live_plans machine s) c
        among c other =
            sym (skip c other live) ∙ by-shape c (without w.sheet live) ∙ ap (λ ps. is_planned_among ps c) a.others
            ∙ sym (by-shape c (without w.sheet (live_plans machine s))) ∙ skip c other (live_plans machine s)
