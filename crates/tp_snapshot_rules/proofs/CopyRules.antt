-- The rule on copies is its tests.
use Rattle.std.proofs.Common.{◌≡◌, ◌↔◌, ℕ, Bool, true, ◌&&◌, List, [], ◌∷◌, ◌++◌, length, zero, suc, get_or, map, All, AllPairs, false, ap, ◌∙◌, ◌<◌, ◌⊎◌, inl, inr, arith, ◌||◌}
use Rattle.std.specs.List.{list_all}
use Rattle.std.proofs.lemmas.Bool.{and_from, and_parts}
use Rattle.std.proofs.lemmas.List.Elements.{All-append, All-map}
use Rattle.std.proofs.lemmas.Bool.{cases_Bool}
use Rattle.std.proofs.lemmas.Bool.Decides.{nat_tests}
use Rattle.std.proofs.lemmas.List.{get_or_default}
use Rattle.std.proofs.lemmas.List.Kept.{AllPairs-filter}
use Rattle.tp_schedule.proofs.CopyFacts.{before-not_same, same_copy-refl}
use Rattle.tp_schedule.proofs.Membership.{Contains-filter}
use Rattle.tp_schedule.proofs.Pairs.{AllPairs-append, AllPairs-append_right, AllPairs-either, AllPairs-map, AllPairs-map_from, All-append_right}
use Rattle.tp_schedule.specs.Plans.{is_before, is_same_copy}
use Rattle.tp_schedule.specs.declared.parts.Plan.{Plan}
use Rattle.tp_schedule.specs.declared.parts.SheetId.{SheetId}
use Rattle.tp_jobs.specs.declared.parts.WaitingCopy.{WaitingCopy}
use Rattle.tp_jobs.specs.declared.standing.Standing.{Standing}
use Rattle.tp_event_rules.proofs.ListFacts.{AllPairs-append_across, AllPairs-append_left}
use Rattle.tp_event_rules.specs.StateInvariants.{IsOlder, StandsBehind, is_same_sheet, tray_plans}
use Rattle.tp_event_rules.specs.Moments.{is_tray_plan}
use Rattle.tp_snapshot_rules.proofs.TestFacts.{IsEntering, IsSingle, all-test, behind-test, newest-test, other-test, plan-test, tray-all}
use Rattle.tp_snapshot_rules.specs.Rules.{AreInOrder, AreOfOthers, KeepsCopies, open_in}
use Rattle.tp_snapshot_rules.specs.Tests.{is_newest, is_of_other, is_plan_kept, is_waiting_kept, stands_behind}

abbrev pub sheets : List Plan → List SheetId
sheets plans = map (λ (p : Plan). p.sheet) (tray_plans plans)

abbrev pub waits : List WaitingCopy → List SheetId
waits waiting = map (λ (w : WaitingCopy). w.sheet) waiting

-- what holds of each of a mapped list
map-all : {X Y : Type 0} (P : Y → Type 0) (f : X → Y) (xs : List X) → All P (map f xs) → All (λ x. P (f x)) xs
map-all P f [] all k d low = absurd (omega (arith, low))
map-all P f (x ∷ xs) all zero d low = all 0 (f x) (omega arith)
map-all P f (x ∷ xs) all (suc k) d low = map-all P f xs (λ j e under. all (suc j) e (omega (arith, under))) k d (omega (arith, low))

-- ---- in the order of copies a plan that is single is of another sheet than each other one

apart-sheets : (p q : SheetId) → is_before p q ≡ true → (is_same_sheet p q ≡ true → is_same_copy p q ≡ true) → is_same_sheet p q ≡ false
apart-sheets p q before single = elim (cases_Bool (is_same_sheet p q)) [
  | inl same ↦ (let one = single same in let two = before-not_same p q before in absurd cc)
  | inr other ↦ other
]

turned-sheets : (p q : SheetId) → is_same_sheet p q ≡ true → is_same_sheet q p ≡ true
turned-sheets p q same = grind (arith, nat_tests)

-- each of two plans is a whole one to its tray
abbrev IsTray : Plan → Type 0
IsTray p = is_tray_plan p ≡ true

abbrev AreSingle : List Plan → Type 0
AreSingle plans = All (λ p. IsTray p → All (IsSingle p.sheet) plans) plans

apart-from : (plans : List Plan) → AreInOrder plans → AreSingle plans → AllPairs AreOfOthers (sheets plans)
apart-from plans order single =
    AllPairs-map (λ p q. IsTray p → IsTray q → AreOfOthers p.sheet q.sheet) AreOfOthers IsTray (λ (p : Plan). p.sheet) (tray_plans plans)
    ((tray-all IsTray plans).0 (λ k p low tray. tray))
    (AllPairs-filter (λ p q. IsTray p → IsTray q → AreOfOthers p.sheet q.sheet) is_tray_plan plans
    (λ i j d before within p-tray q-tray. apart-sheets (get_or plans i d).sheet (get_or plans j d).sheet (order i j d before within) (single i d (omega (arith, before, within)) p-tray j d within q-tray)))
    (λ p q p-tray q-tray apart. apart p-tray q-tray)

at-any : (plans : List Plan) (k : ℕ) (d : Plan) → k < length plans → get_or plans k (get_or plans k d) ≡ get_or plans k d
at-any plans k d low = get_or_default plans k (get_or plans k d) d low

apart-to : (plans : List Plan) → AllPairs AreOfOthers (sheets plans) → AreSingle plans
apart-to plans apart k p low p-tray j q within q-tray same = go (cases_Bool (is_same_copy one.sheet other.sheet)) where
  one : Plan
  one = get_or plans k p

  other : Plan
  other = get_or plans j q

  go : (is_same_copy one.sheet other.sheet ≡ true) ⊎ (is_same_copy one.sheet other.sheet ≡ false) → is_same_copy one.sheet other.sheet ≡ true
  go (inl is) = is
  go (inr differ) =
      let in-one = Contains-filter is_tray_plan plans one (k, low, at-any plans k p low) p-tray in
      let in-other = Contains-filter is_tray_plan plans other (j, within, at-any plans j q within) q-tray in
      let unlike : one ≡ other → ⊥ = λ e. (let itself = same_copy-refl one.sheet in let f : is_same_copy one.sheet one.sheet ≡ false = ap (λ (r : Plan). is_same_copy one.sheet r.sheet) e ∙ differ in absurd cc) in
      elim (AllPairs-either (λ p q. AreOfOthers p.sheet q.sheet) (tray_plans plans) one other (AllPairs-map_from AreOfOthers (λ (r : Plan). r.sheet) (tray_plans plans) apart) in-one in-other unlike) [
        | inl a ↦ absurd cc
        | inr b ↦ (let turned = turned-sheets one.sheet other.sheet same in absurd cc)
      ]

-- a copy that waits is alone among plans, the newest, and behind
pub record IsBehind (t : Standing) (w : WaitingCopy) : Type 0 where
  pub alone : All (λ p. AreOfOthers w.sheet p.sheet) (tray_plans t.plans)
  pub newest : All (λ p. IsOlder p w.sheet) t.plans
  pub line : All (StandsBehind t.jobs w) (tray_plans t.plans)

waiting-test : (t : Standing) (w : WaitingCopy) → (is_waiting_kept t w ≡ true) ↔ IsBehind t w
unfolding is_waiting_kept
waiting-test t w =
    let alone : Bool = list_all (is_of_other w.sheet) t.plans in
    let newest : Bool = is_newest t.plans w.sheet in
    let line : Bool = list_all (stands_behind t.jobs w.sheet) t.plans in (
      λ e. (let (both, c) = and_parts (alone && newest) line e in
          let (a, b) = and_parts alone newest both in
          record { alone = (other-test w.sheet t.plans).0 a; newest = (newest-test t.plans w.sheet).0 b; line = (behind-test t.jobs w t.plans).0 c }),
      λ is. and_from (alone && newest) line (and_from alone newest ((other-test w.sheet t.plans).1 is.alone) ((newest-test t.plans w.sheet).1 is.newest)) ((behind-test t.jobs w t.plans).1 is.line),
    )

-- what holds of each of the first of two lists
all-left : {X : Type 0} (P : X → Type 0) (xs ys : List X) → All P (xs ++ ys) → All P xs
all-left P [] ys all k d low = absurd (omega (arith, low))
all-left P (x ∷ xs) ys all zero d low = all 0 x (omega arith)
all-left P (x ∷ xs) ys all (suc k) d low = all-left P xs ys (λ j e under. all (suc j) e (omega (arith, under))) k d (omega (arith, low))

module _ (t : Standing) where
  abbrev Enters : Plan → Type 0
  Enters p = is_tray_plan p ≡ true → IsEntering t p

  record AreKept : Type 0 where
    pub waiting_apart : AllPairs AreOfOthers (waits t.waiting)
    pub waiting : All (IsBehind t) t.waiting
    pub plans : All Enters t.plans

  -- all plans of its sheet are older
  abbrev IsNewest : SheetId → Type 0
  IsNewest c = All (λ p. IsOlder p c) t.plans

  to-rule : AreInOrder t.plans → AreKept → KeepsCopies t
  to-rule order kept =
      let planned = (tray-all (IsEntering t) t.plans).0 kept.plans in
      let newest : All IsNewest (open_in t) =
      All-append IsNewest (waits t.waiting) (sheets t.plans)
      (All-map IsNewest (λ (w : WaitingCopy). w.sheet) t.waiting (λ k w low. (kept.waiting k w low).newest))
      (All-map IsNewest (λ (p : Plan). p.sheet) (tray_plans t.plans) (λ k p low. (planned k p low).newest)) in
      record {
        one = AllPairs-append AreOfOthers (waits t.waiting) (sheets t.plans) kept.waiting_apart (apart-from t.plans order (λ k p low tray. (kept.plans k p low tray).single))
            (All-map (λ c. All (AreOfOthers c) (sheets t.plans)) (λ (w : WaitingCopy). w.sheet) t.waiting
            (λ k w low. All-map (AreOfOthers (get_or t.waiting k w).sheet) (λ (p : Plan). p.sheet) (tray_plans t.plans) (kept.waiting k w low).alone));
        newest = λ k p low j c within. newest j c within k p low;
        line = λ k w low. (kept.waiting k w low).line;
        broken = λ k p low tray. (kept.plans k p low tray).broken;
      }

  from-rule : KeepsCopies t → AreKept
  from-rule rule =
      let newest : All IsNewest (open_in t) = λ j c within k p low. rule.newest k p low j c within in
      let across = map-all (λ c. All (AreOfOthers c) (sheets t.plans)) (λ (w : WaitingCopy). w.sheet) t.waiting (AllPairs-append_across AreOfOthers (waits t.waiting) (sheets t.plans) rule.one) in
      let waiting = map-all IsNewest (λ (w : WaitingCopy). w.sheet) t.waiting (all-left IsNewest (waits t.waiting) (sheets t.plans) newest) in
      let single = apart-to t.plans (AllPairs-append_right AreOfOthers (waits t.waiting) (sheets t.plans) rule.one) in
      let planned = (tray-all (λ p. IsNewest p.sheet) t.plans).1 (map-all IsNewest (λ (p : Plan). p.sheet) (tray_plans t.plans) (All-append_right IsNewest (waits t.waiting) (sheets t.plans) newest)) in
      record {
        waiting_apart = AllPairs-append_left AreOfOthers (waits t.waiting) (sheets t.plans) rule.one;
        waiting = λ k w low. record {
          alone = map-all (AreOfOthers (get_or t.waiting k w).sheet) (λ (p : Plan). p.sheet) (tray_plans t.plans) (across k w low);
          newest = waiting k w low;
          line = rule.line k w low;
        };
        plans = λ k p low tray. record { single = single k p low tray; newest = planned k p low tray; broken = rule.broken k p low tray };
      }

  abbrev is_waiting_all : Bool
  is_waiting_all = list_all (is_waiting_kept t) t.waiting

  abbrev is_plan_all : Bool
  is_plan_all = list_all (is_plan_kept t) t.plans

  waiting-all : (is_waiting_all ≡ true) ↔ All (IsBehind t) t.waiting
  waiting-all = all-test (is_waiting_kept t) (IsBehind t) (waiting-test t) t.waiting

  plans-all : (is_plan_all ≡ true) ↔ All Enters t.plans
  plans-all = all-test (is_plan_kept t) Enters (plan-test t) t.plans

  -- the tests one after another
  pub rule-apart : KeepsCopies t → AllPairs AreOfOthers (waits t.waiting)
  rule-apart rule = (from-rule rule).waiting_apart

  pub rule-waiting : KeepsCopies t → is_waiting_all ≡ true
  rule-waiting rule = waiting-all.1 (from-rule rule).waiting

  pub rule-plans : AreInOrder t.plans → AllPairs AreOfOthers (waits t.waiting) → is_waiting_all ≡ true → (is_plan_all ≡ true) ↔ KeepsCopies t
  rule-plans order apart waiting = (
    λ e. to-rule order (record { waiting_apart = apart; waiting = waiting-all.0 waiting; plans = plans-all.0 e }),
    λ rule. plans-all.1 (from-rule rule).plans,
  )
