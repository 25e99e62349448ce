-- A copy that waits is planned while fewer than 256 are live: plans are kept.
use Rattle.std.proofs.Common.{◌≡◌, ℕ, suc, ◌+◌, ◌-◌, ◌<◌, ◌≤◌, Bool, true, false, cond, ◌&&◌, ◌||◌, not, List, [], ◌∷◌, map, length, filter, refl, sym, ap, arith, All, AllPairs, Contains, subst, nat_le, nat_lt, slice_index}
use Rattle.std.specs.List.{list_all}
use Rattle.std.proofs.lemmas.Bool.Decides.{nat_tests}
use Rattle.std.proofs.lemmas.List.Elements.{All-head, All-tail, All-weaker}
use Rattle.std.proofs.lemmas.List.{ext_get_or}
use Rattle.std.proofs.lemmas.List.Folds.{list_any_at}
use Rattle.tp_machine.specs.declared.parts.ActId.{ActId}
use Rattle.tp_machine.specs.declared.machine.Machine.{Machine}
use Rattle.tp_schedule.specs.Answers.{unmoved}
use Rattle.tp_schedule.specs.Holders.{runs_from}
use Rattle.tp_schedule.specs.LivePlans.{is_live}
use Rattle.tp_schedule.specs.Plans.{IsTimedPlan, IsEarlier, is_fixed, is_front, is_same_copy, point, without, end_of_plan}
use Rattle.tp_schedule.specs.declared.parts.Plan.{Plan}
use Rattle.tp_schedule.specs.declared.parts.SheetId.{SheetId}
use Rattle.tp_schedule.proofs.CopyFacts.{same_copy-is, before-not_same'}
use Rattle.tp_schedule.proofs.Pairs.{AllPairs-head, AllPairs-tail}
use Rattle.tp_schedule.proofs.Membership.{Contains-here, Contains-later}
use Rattle.tp_event_rules.specs.StateInvariants.{is_to_arrive}
use Rattle.tp_event_rules.specs.Moments.{is_started, is_tray_plan}
use Rattle.tp_event_rules.proofs.AnsweredPlans.{IsUnmoved, unmoved-tray_plan}

-- a plan of before, and the same plan after, whose unreleased starts are above the moment
pub record IsRetimedPlan (machine : Machine) (now : ℕ) (p q : Plan) : Type 0 where
  pub unmoved : IsUnmoved q p
  pub timed : IsTimedPlan machine p
  pub timed' : IsTimedPlan machine q
  pub floors : (i : ℕ) → p.released ≤ i → i < length p.acts → now < point p i
  pub fixed : (i : ℕ) → is_fixed p i ≡ true → i ≤ length p.acts → point q i ≡ point p i

-- a start that is not after the moment is released, so that it stays
low-fixed : (front : Bool) (released i : ℕ) → i < released → (front || (nat_lt 0 released && nat_le i released)) ≡ true
low-fixed front released i low = grind (arith, nat_tests)

pub low-stays : (machine : Machine) (now : ℕ) (p q : Plan) → IsRetimedPlan machine now p q → (i : ℕ) → i < length p.acts → point p i ≤ now → point q i ≡ point p i
low-stays machine now p q r i within low = go (nat_lt i p.released) refl where
  go : (b : Bool) → nat_lt i p.released ≡ b → point q i ≡ point p i
  go true e = r.fixed i (low-fixed (is_front p.kind) p.released i (grind (arith, nat_tests))) (omega arith)
  go false e = let high : p.released ≤ i = grind (arith, nat_tests) in absurd (let above = r.floors i high within in omega arith)

-- where no point is above the moment, all stay
all-released : (machine : Machine) (now : ℕ) (p q : Plan) → IsRetimedPlan machine now p q → end_of_plan p ≤ now → (i : ℕ) → i ≤ length p.acts → point q i ≡ point p i
all-released machine now p q r low i within = r.fixed i (fixed i within) within where
  last : p.released ≡ length p.acts
  last = go (nat_lt p.released (length p.acts)) refl where
    go : (b : Bool) → nat_lt p.released (length p.acts) ≡ b → p.released ≡ length p.acts
    go false e =
        let high : length p.acts ≤ p.released = grind (arith, nat_tests) in
        let most : p.released ≤ length p.acts = r.timed.released in omega arith
    go true e =
        let below : p.released < length p.acts = grind (arith, nat_tests) in
        let at : (length p.acts - 1) + 1 ≡ length p.acts = omega arith in
        let above : now < point p (length p.acts - 1) = r.floors (length p.acts - 1) (omega arith) (omega arith) in
        let rise : point p (length p.acts - 1) < point p ((length p.acts - 1) + 1) = r.timed.rise (length p.acts - 1) (omega arith) in
        let end : point p ((length p.acts - 1) + 1) ≡ end_of_plan p = ap (point p) at in
        absurd (omega arith)

  fixed : (i : ℕ) → i ≤ length p.acts → is_fixed p i ≡ true
  fixed i within = let some : 0 < length p.acts = r.timed.some in let l : p.released ≡ length p.acts = last in all (is_front p.kind) p.released i (omega arith) (omega arith) where
    all : (front : Bool) (released i : ℕ) → 0 < released → i ≤ released → (front || (nat_lt 0 released && nat_le i released)) ≡ true
    all front released i some low = grind (arith, nat_tests)

same-plan : (q p : Plan) → IsUnmoved q p → q.points ≡ p.points → q ≡ p
same-plan q p u e = λ i. record {
  sheet = (u.is i).sheet;
  name = (u.is i).name;
  want = (u.is i).want;
  goal = (u.is i).goal;
  kind = (u.is i).kind;
  acts = (u.is i).acts;
  points = e i;
  released = (u.is i).released;
}

pub ended-same : (machine : Machine) (now : ℕ) (p q : Plan) → IsRetimedPlan machine now p q → end_of_plan p ≤ now → q ≡ p
ended-same machine now p q r low =
    let acts : length q.acts ≡ length p.acts = ap (λ (x : Plan). length x.acts) r.unmoved.is in
    let one : length q.points ≡ length q.acts + 1 = r.timed'.one_more in
    let other : length p.points ≡ length p.acts + 1 = r.timed.one_more in
    same-plan q p r.unmoved (ext_get_or 0 q.points p.points (omega arith) (λ i within. all-released machine now p q r low i (omega arith)))

-- a plan that is live after was live before, and one that is to arrive after was before
pub live-before : (machine : Machine) (now : ℕ) (p q : Plan) → IsRetimedPlan machine now p q → is_live machine now q ≡ true → is_live machine now p ≡ true
live-before machine now p q r live = go (nat_lt now (end_of_plan p)) refl where
  one_more : length p.points ≡ length p.acts + 1
  one_more = r.timed.one_more

  go : (b : Bool) → nat_lt now (end_of_plan p) ≡ b → is_live machine now p ≡ true
  go true e = rw (list_any_at (nat_lt now) p.points (length p.acts) 0 (let m = one_more in omega arith) e) refl
  go false e = subst (λ x. is_live machine now x ≡ true) (ended-same machine now p q r (grind (arith, nat_tests))) live

pub arriving-before : (machine : Machine) (now : ℕ) (p q : Plan) → IsRetimedPlan machine now p q → is_to_arrive now q ≡ true → is_to_arrive now p ≡ true
arriving-before machine now p q r arrives = go (nat_lt now (end_of_plan p)) refl where
  both : (a b c : Bool) → a ≡ c → (a && b) ≡ true → (c && true) ≡ true
  both true b true e f = refl
  both true b false e f = absurd (cc)
  both false b c e f = absurd (cc)

  go : (b : Bool) → nat_lt now (end_of_plan p) ≡ b → is_to_arrive now p ≡ true
  go true e = subst (λ b. (is_tray_plan p && b) ≡ true) (sym e) (both (is_tray_plan q) (nat_lt now (end_of_plan q)) (is_tray_plan p) (unmoved-tray_plan q p r.unmoved) arrives)
  go false e = subst (λ x. is_to_arrive now x ≡ true) (ended-same machine now p q r (grind (arith, nat_tests))) arrives

-- as many pass as before, and one more at the most
pub count-unmoved : (test : Plan → Bool) (qs ps : List Plan) → map unmoved qs ≡ map unmoved ps
    → ((q p : Plan) → Contains qs q → Contains ps p → IsUnmoved q p → test q ≡ true → test p ≡ true) → length (filter test qs) ≤ length (filter test ps)
count-unmoved test [] [] e each = omega arith
count-unmoved test [] (p ∷ ps) e each = omega arith
count-unmoved test (q ∷ qs) [] e each = absurd (cc)
count-unmoved test (q ∷ qs) (p ∷ ps) e each =
    let heads : unmoved q ≡ unmoved p = cc in
    let tails : map unmoved qs ≡ map unmoved ps = cc in
    go (test q) refl (test p) refl (each q p (Contains-here q qs) (Contains-here p ps) (record { is = heads }))
    (count-unmoved test qs ps tails (λ q' p' in' in''. each q' p' (Contains-later q qs q' in') (Contains-later p ps p' in''))) where
      go : (b : Bool) → test q ≡ b → (c : Bool) → test p ≡ c → (test q ≡ true → test p ≡ true) → length (filter test qs) ≤ length (filter test ps)
          → length (cond b (q ∷ filter test qs) (filter test qs)) ≤ length (cond c (p ∷ filter test ps) (filter test ps))
      go true f true g one rest = omega arith
      go true f false g one rest = absurd (let h = one f in cc)
      go false f true g one rest = omega arith
      go false f false g one rest = rest

without-others : (c : SheetId) (plans : List Plan) → All (λ p. is_same_copy p.sheet c ≡ false) plans → without c plans ≡ plans
without-others c [] all = refl
without-others c (p ∷ plans) all =
    rw (All-head (λ p. is_same_copy p.sheet c ≡ false) p plans all) (ap (λ l. p ∷ l) (without-others c plans (All-tail (λ p. is_same_copy p.sheet c ≡ false) p plans all)))

pub one-more-than-others : (test : Plan → Bool) (c : SheetId) (plans : List Plan) → AllPairs IsEarlier plans → length (filter test plans) ≤ 1 + length (filter test (without c plans))
one-more-than-others test c [] in_order = omega arith
one-more-than-others test c (p ∷ plans) in_order =
    go (is_same_copy p.sheet c) refl (test p) refl (one-more-than-others test c plans (AllPairs-tail IsEarlier p plans in_order)) where
      later : is_same_copy p.sheet c ≡ true → without c plans ≡ plans
      later e = without-others c plans (All-weaker (IsEarlier p) (λ q. is_same_copy q.sheet c ≡ false)
          (λ q before. subst (λ d. is_same_copy q.sheet d ≡ false) (same_copy-is p.sheet c e) (before-not_same' p.sheet q.sheet before)) plans (AllPairs-head IsEarlier p plans in_order))

      go : (b : Bool) → is_same_copy p.sheet c ≡ b → (t : Bool) → test p ≡ t → length (filter test plans) ≤ 1 + length (filter test (without c plans))
          → length (cond t (p ∷ filter test plans) (filter test plans)) ≤ 1 + length (filter test (cond (not b) (p ∷ without c plans) (without c plans)))
      go true e t f rest = rw (later e) (first t) where
        first : (t : Bool) → length (cond t (p ∷ filter test plans) (filter test plans)) ≤ 1 + length (filter test plans)
        first true = omega arith
        first false = omega arith
      go false e t f rest = rw f (second t rest) where
        second : (t : Bool) → length (filter test plans) ≤ 1 + length (filter test (without c plans))
            → length (cond t (p ∷ filter test plans) (filter test plans)) ≤ 1 + length (cond t (p ∷ filter test (without c plans)) (filter test (without c plans)))
        second true rest = omega arith
        second false rest = rest

-- none that is to start uses a module that is out: the new plan by its route, the others since what has started has started
pub clear-route : (now : ℕ) (test : ActId → Bool) (sheet : SheetId) (m : ℕ) (acts : List ActId) (points : List ℕ) → All (λ act. test act ≡ true) acts
    → list_all (λ run. is_started now run || test run.act) (runs_from sheet m acts points) ≡ true
clear-route now test sheet m [] points all = refl
clear-route now test sheet m (act ∷ acts) [] all = refl
clear-route now test sheet m (act ∷ acts) (start ∷ []) all = refl
clear-route now test sheet m (act ∷ acts) (start ∷ end ∷ points) all =
    rw (All-head (λ act. test act ≡ true) act acts all) (or-true (nat_le start now) (clear-route now test sheet (m + 1) acts (end ∷ points) (All-tail (λ act. test act ≡ true) act acts all))) where
      or-true : (b : Bool) → list_all (λ run. is_started now run || test run.act) (runs_from sheet (m + 1) acts (end ∷ points)) ≡ true
          → ((b || true) && list_all (λ run. is_started now run || test run.act) (runs_from sheet (m + 1) acts (end ∷ points))) ≡ true
      or-true true e = e
      or-true false e = e

pub clear-moved : (now : ℕ) (test : ActId → Bool) (sheet sheet' : SheetId) (m m' : ℕ) (acts : List ActId) (points points' : List ℕ) → length points ≡ length acts + 1 → length points' ≡ length acts + 1
    → ((i : ℕ) → i < length acts → slice_index points i ≤ now → slice_index points' i ≤ now)
    → list_all (λ run. is_started now run || test run.act) (runs_from sheet m acts points) ≡ true
    → list_all (λ run. is_started now run || test run.act) (runs_from sheet' m' acts points') ≡ true
clear-moved now test sheet sheet' m m' [] points points' len len' each e = refl
clear-moved now test sheet sheet' m m' (act ∷ acts) [] points' len len' each e = absurd (omega arith)
clear-moved now test sheet sheet' m m' (act ∷ acts) (start ∷ []) points' len len' each e = absurd (omega arith)
clear-moved now test sheet sheet' m m' (act ∷ acts) (start ∷ end ∷ points) [] len len' each e = absurd (omega arith)
clear-moved now test sheet sheet' m m' (act ∷ acts) (start ∷ end ∷ points) (start' ∷ []) len len' each e = absurd (omega arith)
clear-moved now test sheet sheet' m m' (act ∷ acts) (start ∷ end ∷ points) (start' ∷ end' ∷ points') len len' each e =
    go (nat_le start now) refl (test act) (nat_le start' now) refl e
    (clear-moved now test sheet sheet' (m + 1) (m' + 1) acts (end ∷ points) (end' ∷ points') (omega arith) (omega arith) (λ i within low. each (suc i) (omega arith) low))
    (each 0 (omega arith)) where
      go : (b : Bool) → nat_le start now ≡ b → (t c : Bool) → nat_le start' now ≡ c
          → ((b || t) && list_all (λ run. is_started now run || test run.act) (runs_from sheet (m + 1) acts (end ∷ points))) ≡ true
          → (list_all (λ run. is_started now run || test run.act) (runs_from sheet (m + 1) acts (end ∷ points)) ≡ true → list_all (λ run. is_started now run || test run.act) (runs_from sheet' (m' + 1) acts (end' ∷ points')) ≡ true)
          → (start ≤ now → start' ≤ now)
          → ((c || t) && list_all (λ run. is_started now run || test run.act) (runs_from sheet' (m' + 1) acts (end' ∷ points'))) ≡ true
      go true f t true g e rest low = rest e
      go true f t false g e rest low = absurd (let at : start ≤ now = grind (arith, nat_tests) in let now' : start' ≤ now = low at in let high : now < start' = grind (arith, nat_tests) in omega arith)
      go false f true true g e rest low = rest e
      go false f true false g e rest low = rest e
      go false f false c g e rest low = absurd (cc)
