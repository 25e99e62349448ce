-- What is kept of a state of which only some plans are left, as they stand.
use Rattle.std.proofs.Common.{◌≡◌, ◌≤◌, inl, inr, Bool, true, false, cond, List, [], ◌∷◌, ◌++◌, filter, map, Some, refl, sym, ap, ◌∙◌, subst, arith, All, AllPairs, Contains}
use Rattle.std.specs.List.{list_any}
use Rattle.std.specs.Prelude.{IsFalse, IsTrue}
use Rattle.std.proofs.lemmas.List.Elements.{All-contains, All-filter, All-head, All-map, All-tail, All-weaker, Contains-append_cases, Contains-append_left, Contains-append_right}
use Rattle.std.proofs.lemmas.List.Folds.{Any-from_list_any, list_any-from_Any}
use Rattle.std.proofs.lemmas.List.Kept.{AllPairs-filter}
use Rattle.std.proofs.lemmas.List.Sums.{length-filter}
use Rattle.tp_machine.specs.declared.machine.Machine.{Machine}
use Rattle.tp_jobs.specs.declared.parts.WaitingCopy.{WaitingCopy}
use Rattle.tp_schedule.proofs.CopyFacts.{plan_of-itself, same_copy-is, same_copy-refl}
use Rattle.tp_schedule.proofs.Membership.{All-from_contains, Contains-filter, Contains-filter_from, Contains-map, Contains-map_from}
use Rattle.tp_schedule.proofs.Pairs.{AllPairs-append, AllPairs-append_right, AllPairs-map_from}
use Rattle.tp_schedule.specs.LivePlans.{live_count}
use Rattle.tp_schedule.specs.Plans.{IsEarlier, is_front, is_same_copy, plan_of}
use Rattle.tp_schedule.specs.declared.parts.Plan.{Plan}
use Rattle.tp_schedule.specs.declared.parts.SheetId.{SheetId}
use Rattle.tp_event_rules.proofs.LeftPlans.{AreLeft, gone, more, none, IsLeft-refl, IsLegal-left, KeepsFloors-left, KeepsHorizon-left, live_count-left}
use Rattle.tp_event_rules.proofs.ListFacts.{AllPairs-append_across, AllPairs-append_left, AllPairs-map_list, Any-contains, contains-Any}
use Rattle.tp_event_rules.proofs.TestFacts.{all-of, count-part, of-all}
use Rattle.tp_event_rules.specs.StateInvariants.{IsOlder, KeepsLines, KeepsPlans, StandsBehind, is_clear, is_of_its_job, is_planned_among, is_same_sheet, is_to_arrive, open_copies, open_count, tray_plans}
use Rattle.tp_event_rules.specs.Moments.{is_tray_plan}
use Rattle.tp_event_rules.specs.Seen.{fronts_of}
use Rattle.tp_event_rules.specs.States.{SessionState}

filter-swap : {X : Type 0} (t r : X → Bool) (xs : List X) → filter t (filter r xs) ≡ filter r (filter t xs)
filter-swap t r [] = refl
filter-swap {X} t r (x ∷ xs) = go (t x) refl (r x) refl (filter-swap t r xs) where
  go : (b : Bool) → t x ≡ b → (c : Bool) → r x ≡ c → filter t (filter r xs) ≡ filter r (filter t xs) → filter t (cond c (x ∷ filter r xs) (filter r xs)) ≡ filter r (cond b (x ∷ filter t xs) (filter t xs))
  go true e true f rest = rw (e, f) (ap (λ l. x ∷ l) rest)
  go true e false f rest = rw f rest
  go false e true f rest = rw e rest
  go false e false f rest = rest

-- none of a part passes a test where none of all does
none-part : {X : Type 0} (t r : X → Bool) (xs : List X) → list_any t xs ≡ false → list_any t (filter r xs) ≡ false
none-part {X} t r xs unmet = go (list_any t (filter r xs)) refl where
  go : (b : Bool) → list_any t (filter r xs) ≡ b → b ≡ false
  go false e = refl
  go true e =
      let found = Any-contains (λ x. t x ≡ true) (filter r xs) (Any-from_list_any t (filter r xs) e) in
      let some : list_any t xs ≡ true = list_any-from_Any t xs (contains-Any (λ x. t x ≡ true) xs found.0 (Contains-filter_from r xs found.0 found.1).0 found.2) in
      sym some ∙ unmet

module _ (machine : Machine) (r : Plan → Bool) where
  AreLeft-filter : (plans : List Plan) → AreLeft machine plans (filter r plans)
  AreLeft-filter [] = none
  AreLeft-filter (p ∷ plans) = go (r p) (AreLeft-filter plans) where
    go : (b : Bool) → AreLeft machine plans (filter r plans) → AreLeft machine (p ∷ plans) (cond b (p ∷ filter r plans) (filter r plans))
    go true rest = more p p plans (filter r plans) (IsLeft-refl machine p) rest
    go false rest = gone p plans (filter r plans) rest

  pub plans-part : (s : SessionState) (lost : List SheetId) → KeepsPlans machine s → KeepsPlans machine (record s { plans = filter r s.plans; lost = lost })
  plans-part s lost keeps =
      let left = AreLeft-filter s.plans in
      record {
        legal = IsLegal-left machine s.plans (filter r s.plans) left keeps.legal;
        floors = KeepsFloors-left machine s.now s.plans (filter r s.plans) left keeps.floors;
        horizon = KeepsHorizon-left machine s.now s.plans (filter r s.plans) left keeps.horizon;
        few_live =
            let few : live_count machine s.now s.plans ≤ 256 = keeps.few_live in
            let fewer = live_count-left machine s.now s.plans (filter r s.plans) left in omega arith;
        few_open =
            let few : open_count s ≤ 4352 = keeps.few_open in
            let fewer = count-part (is_to_arrive s.now) r s.plans in
            let one = length-filter (is_to_arrive s.now) (filter r s.plans) in
            let other = length-filter (is_to_arrive s.now) s.plans in omega arith;
        clear = of-all (is_clear machine s) (filter r s.plans) (All-filter r (λ p. is_clear machine s p ≡ true) s.plans (all-of (is_clear machine s) s.plans keeps.clear));
      }

  abbrev Apart : SheetId → SheetId → Type 0
  Apart a b = IsFalse (is_same_sheet a b)

  -- the sheets of a part
  all-part : (P : SheetId → Type 0) (plans : List Plan) → All P (map (λ p. p.sheet) plans) → All P (map (λ p. p.sheet) (filter r plans))
  all-part P plans all = All-map P (λ p. p.sheet) (filter r plans) (All-filter r (λ p. P p.sheet) plans
      (All-from_contains (λ p. P p.sheet) plans (λ p in'. All-contains P (map (λ q. q.sheet) plans) p.sheet all (Contains-map (λ q. q.sheet) plans p in'))))

  apart-part : (waiting : List SheetId) (plans : List Plan) → AllPairs Apart (waiting ++ map (λ p. p.sheet) plans) → AllPairs Apart (waiting ++ map (λ p. p.sheet) (filter r plans))
  apart-part waiting plans pairs =
      AllPairs-append Apart waiting (map (λ p. p.sheet) (filter r plans)) (AllPairs-append_left Apart waiting (map (λ p. p.sheet) plans) pairs)
      (AllPairs-map_list Apart (λ p. p.sheet) (filter r plans) (AllPairs-filter (λ p q. Apart p.sheet q.sheet) r plans
      (AllPairs-map_from Apart (λ p. p.sheet) plans (AllPairs-append_right Apart waiting (map (λ p. p.sheet) plans) pairs))))
      (All-weaker (λ a. All (Apart a) (map (λ p. p.sheet) plans)) (λ a. All (Apart a) (map (λ p. p.sheet) (filter r plans))) (λ a all. all-part (Apart a) plans all) waiting
      (AllPairs-append_across Apart waiting (map (λ p. p.sheet) plans) pairs))

  pub lines-part : (s : SessionState) → KeepsLines s → KeepsLines (record s { plans = filter r s.plans; lost = fronts_of (filter r s.plans) })
  lines-part s keeps =
      let swap = filter-swap is_tray_plan r s.plans in
      record {
        in_order = keeps.in_order;
        waiting_known = keeps.waiting_known;
        unplanned = All-weaker (λ w. IsFalse (is_planned_among s.plans w.sheet)) (λ w. IsFalse (is_planned_among (filter r s.plans) w.sheet))
            (λ w un. none-part (λ p. is_same_copy p.sheet w.sheet) r s.plans un) s.waiting keeps.unplanned;
        line = All-weaker (λ w. All (StandsBehind s.jobs w) (tray_plans s.plans)) (λ w. All (StandsBehind s.jobs w) (tray_plans (filter r s.plans)))
            (λ w all. subst (All (StandsBehind s.jobs w)) (sym swap) (All-filter r (StandsBehind s.jobs w) (tray_plans s.plans) all)) s.waiting keeps.line;
        one = subst (λ plans. AllPairs Apart (map (λ w. w.sheet) s.waiting ++ map (λ p. p.sheet) plans)) (sym swap) (apart-part (map (λ w. w.sheet) s.waiting) (tray_plans s.plans) keeps.one);
        plans_known = All-filter r (λ p. IsTrue (is_of_its_job s.jobs p)) s.plans keeps.plans_known;
        fronts = refl;
      }

  -- an open copy of the part is one of the whole
  open-part : (s : SessionState) (c : SheetId) → Contains (map (λ w. w.sheet) s.waiting ++ map (λ p. p.sheet) (tray_plans (filter r s.plans))) c → Contains (open_copies s) c
  open-part s c in' = elim (Contains-append_cases (map (λ w. w.sheet) s.waiting) (map (λ p. p.sheet) (tray_plans (filter r s.plans))) c in') [
    | inl waits ↦ Contains-append_left (map (λ w. w.sheet) s.waiting) (map (λ p. p.sheet) (tray_plans s.plans)) c waits
    | inr planned ↦
        let p = Contains-map_from (λ p. p.sheet) (tray_plans (filter r s.plans)) c planned in
        let tray = Contains-filter_from is_tray_plan (filter r s.plans) p.0 p.1 in
        let from = Contains-filter_from r s.plans p.0 tray.0 in
        Contains-append_right (map (λ w. w.sheet) s.waiting) (map (λ p. p.sheet) (tray_plans s.plans)) c
        (subst (Contains (map (λ p. p.sheet) (tray_plans s.plans))) (sym p.2) (Contains-map (λ p. p.sheet) (tray_plans s.plans) p.0 (Contains-filter is_tray_plan s.plans p.0 from.0 tray.1)))
  ]

  pub older-part : (s : SessionState) (lost : List SheetId) → All (λ p. All (IsOlder p) (open_copies s)) s.plans
      → All (λ p. All (IsOlder p) (open_copies (record s { plans = filter r s.plans; lost = lost }))) (filter r s.plans)
  older-part s lost older =
      let part = map (λ (w : WaitingCopy). w.sheet) s.waiting ++ map (λ (p : Plan). p.sheet) (tray_plans (filter r s.plans)) in
      All-filter r (λ p. All (IsOlder p) part) s.plans
      (All-weaker (λ p. All (IsOlder p) (open_copies s)) (λ p. All (IsOlder p) part)
      (λ p all. All-from_contains (IsOlder p) part (λ c in'. All-contains (IsOlder p) (open_copies s) c all (open-part s c in'))) s.plans older)

-- the lost copies of a part are those of its fronts
module _ (r : Plan → Bool) (plans : List Plan) (in_order : AllPairs IsEarlier plans) where
  only : (p q : Plan) → Contains plans p → Contains plans q → q.sheet ≡ p.sheet → q ≡ p
  only p q in' in'' same =
      let one = plan_of-itself plans p in_order in' in
      let other = plan_of-itself plans q in_order in'' in
      let both : Some q ≡ Some p = sym other ∙ ap (λ (copy : SheetId). plan_of copy plans) same ∙ one in
      cc

  -- the copy is planned among the part where its plan is of it
  abbrev IsOfPart : Plan → Type 0
  IsOfPart p = is_planned_among (filter r plans) p.sheet ≡ r p

  among : (p : Plan) → Contains plans p → IsOfPart p
  among p in' = go (r p) refl (is_planned_among (filter r plans) p.sheet) refl where
    go : (b : Bool) → r p ≡ b → (c : Bool) → is_planned_among (filter r plans) p.sheet ≡ c → c ≡ b
    go true e true f = refl
    go false e false f = refl
    go true e false f =
        let some : is_planned_among (filter r plans) p.sheet ≡ true = list_any-from_Any (λ q. is_same_copy q.sheet p.sheet) (filter r plans)
        (contains-Any (λ q. is_same_copy q.sheet p.sheet ≡ true) (filter r plans) p (Contains-filter r plans p in' e) (same_copy-refl p.sheet)) in
        sym f ∙ some
    go false e true f =
        let found = Any-contains (λ q. is_same_copy q.sheet p.sheet ≡ true) (filter r plans) (Any-from_list_any (λ q. is_same_copy q.sheet p.sheet) (filter r plans) f) in
        let from = Contains-filter_from r plans found.0 found.1 in
        let same = only p found.0 in' from.0 (same_copy-is found.0.sheet p.sheet found.2) in
        sym from.1 ∙ ap r same ∙ e

  lost-some : (some : List Plan) → All IsOfPart some → filter (is_planned_among (filter r plans)) (fronts_of some) ≡ fronts_of (filter r some)
  lost-some [] all = refl
  lost-some (p ∷ some) all = go (is_front p.kind) refl (r p) refl (All-head IsOfPart p some all) (lost-some some (All-tail IsOfPart p some all)) where
    go : (b : Bool) → is_front p.kind ≡ b → (c : Bool) → r p ≡ c → IsOfPart p → filter (is_planned_among (filter r plans)) (fronts_of some) ≡ fronts_of (filter r some)
        → filter (is_planned_among (filter r plans)) (map (λ q. q.sheet) (cond b (p ∷ filter (λ q. is_front q.kind) some) (filter (λ q. is_front q.kind) some)))
        ≡ map (λ q. q.sheet) (filter (λ q. is_front q.kind) (cond c (p ∷ filter r some) (filter r some)))
    go true e true f here rest = rw (here, f, e) (ap (λ l. p.sheet ∷ l) rest)
    go true e false f here rest = rw (here, f) rest
    go false e true f here rest = rw e rest
    go false e false f here rest = rest

  pub lost-part : filter (is_planned_among (filter r plans)) (fronts_of plans) ≡ fronts_of (filter r plans)
  lost-part = lost-some plans (All-from_contains IsOfPart plans among)
