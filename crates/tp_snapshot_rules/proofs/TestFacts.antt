-- The tests of plans and copies are what they test.
use Rattle.std.proofs.Common.{◌≡◌, ◌↔◌, ◌∙◌, ◌⊎◌, ℕ, ◌-◌, ◌<◌, ◌≤◌, cond, Bool, true, false, not, ◌&&◌, ◌||◌, List, [], ◌∷◌, length, All, IsTrue, IsFalse, refl, sym, arith, nat_le, nat_lt}
use Rattle.std.specs.List.{list_all}
use Rattle.std.proofs.lemmas.Bool.{and_from, and_parts, leb-true, le-leb, lt-ltb, ltb-true}
use Rattle.std.proofs.lemmas.List.Elements.{All-cons, All-head, All-tail}
use Rattle.tp_machine.proofs.Lists.{All-from_test}
use Rattle.tp_schedule.specs.Plans.{is_before, is_same_copy, point}
use Rattle.tp_schedule.specs.declared.parts.Plan.{Plan}
use Rattle.tp_schedule.specs.declared.parts.SheetId.{SheetId}
use Rattle.tp_jobs.specs.declared.parts.Job.{Job}
use Rattle.tp_jobs.specs.declared.parts.WaitingCopy.{WaitingCopy}
use Rattle.tp_jobs.specs.declared.standing.Standing.{Standing}
use Rattle.tp_event_rules.proofs.TestFacts.{of-all}
use Rattle.tp_event_rules.specs.StateInvariants.{IsOlder, StandsBehind, is_same_sheet, tray_plans}
use Rattle.tp_event_rules.specs.Lines.{is_job_broken, is_same_line}
use Rattle.tp_event_rules.specs.Moments.{is_tray_plan}
use Rattle.tp_event_rules.specs.Ready.{HasEntered}
use Rattle.tp_snapshot_rules.specs.Rules.{AreOfOthers}
use Rattle.tp_snapshot_rules.specs.Tests.{is_newest, is_of_other, is_older_than, is_plan_kept, is_single, stands_behind}

-- a test of all is the fact of all
pub all-test : {X : Type 0} (q : X → Bool) (P : X → Type 0) → ((x : X) → (q x ≡ true) ↔ P x) → (xs : List X) → (list_all q xs ≡ true) ↔ All P xs
all-test q P is xs = (All-from_test q P (λ x. (is x).0) xs, λ all. of-all q xs (λ k d low. (is _).1 (all k d low)))

-- or-tests: the second counts where the first fails
either-test : (a b : Bool) (P : Type 0) → ((b ≡ true) ↔ P) → ((not a || b) ≡ true) ↔ (a ≡ true → P)
either-test true b P is = (λ e f. is.0 e, λ has. is.1 (has refl))
either-test false b P is = (λ e f. absurd cc, λ has. refl)

-- the third counts where the first fails and the second holds, or where both hold
unless-either : (a b c : Bool) (P : Type 0) → ((c ≡ true) ↔ P) → ((a || not b || c) ≡ true) ↔ (a ≡ false → b ≡ true → P)
unless-either true b c P is = (λ e f g. absurd cc, λ has. refl)
unless-either false true c P is = (λ e f g. is.0 e, λ has. is.1 (has refl refl))
unless-either false false c P is = (λ e f g. absurd cc, λ has. refl)

either-either : (a b c : Bool) (P : Type 0) → ((c ≡ true) ↔ P) → ((not a || not b || c) ≡ true) ↔ (a ≡ true → b ≡ true → P)
either-either true true c P is = (λ e f g. is.0 e, λ has. is.1 (has refl refl))
either-either true false c P is = (λ e f g. absurd cc, λ has. refl)
either-either false b c P is = (λ e f g. absurd cc, λ has. refl)

self-test : (b : Bool) → (b ≡ true) ↔ IsTrue b
self-test b = (λ e. e, λ e. e)

pub not-test : (b : Bool) → (not b ≡ true) ↔ IsFalse b
not-test true = (λ e. sym e, λ e. sym e)
not-test false = (λ e. refl, λ e. refl)

lt-test : (m n : ℕ) → (nat_lt m n ≡ true) ↔ (m < n)
lt-test m n = (ltb-true m n, lt-ltb m n)

le-test : (m n : ℕ) → (nat_le m n ≡ true) ↔ (m ≤ n)
le-test m n = (leb-true m n, le-leb m n)

pub older-test : (copy : SheetId) (p : Plan) → (is_older_than copy p ≡ true) ↔ IsOlder p copy
unfolding is_older_than
older-test copy p = unless-either (is_tray_plan p) (is_same_sheet p.sheet copy) (nat_lt p.sheet.copy copy.copy) (p.sheet.copy < copy.copy) (lt-test p.sheet.copy copy.copy)

pub newest-test : (plans : List Plan) (copy : SheetId) → (is_newest plans copy ≡ true) ↔ All (λ p. IsOlder p copy) plans
newest-test plans copy = all-test (is_older_than copy) (λ p. IsOlder p copy) (older-test copy) plans

-- where the plan is a whole one to its tray
abbrev Where : (Plan → Type 0) → Plan → Type 0
Where P q = is_tray_plan q ≡ true → P q

-- what holds of each whole plan to its tray
pub tray-all : (P : Plan → Type 0) (plans : List Plan) → All (λ p. is_tray_plan p ≡ true → P p) plans ↔ All P (tray_plans plans)
tray-all P [] = (λ all k d low. absurd (omega (arith, low)), λ all k d low. absurd (omega (arith, low)))
tray-all P (p ∷ plans) = go (is_tray_plan p) refl (tray-all P plans) where
  go : (b : Bool) → is_tray_plan p ≡ b → All (Where P) plans ↔ All P (tray_plans plans) → All (Where P) (p ∷ plans) ↔ All P (cond b (p ∷ tray_plans plans) (tray_plans plans))
  go true tray rest = (
    λ all. All-cons P p (tray_plans plans) (All-head (Where P) p plans all tray) (rest.0 (All-tail (Where P) p plans all)),
    λ all. All-cons (Where P) p plans (λ _. All-head P p (tray_plans plans) all) (rest.1 (All-tail P p (tray_plans plans) all)),
  )
  go false other rest = (
    λ all. rest.0 (All-tail (Where P) p plans all),
    λ all. All-cons (Where P) p plans (λ tray. absurd cc) (rest.1 all),
  )

-- a test that passes what is no whole plan to its tray is one of these plans
pub tray-test : (q : Plan → Bool) (P : Plan → Type 0) → ((p : Plan) → (q p ≡ true) ↔ (is_tray_plan p ≡ true → P p)) → (plans : List Plan) → (list_all q plans ≡ true) ↔ All P (tray_plans plans)
tray-test q P is plans =
    let all = all-test q (λ p. is_tray_plan p ≡ true → P p) is plans in
    let tray = tray-all P plans in
    (λ e. tray.0 (all.0 e), λ has. all.1 (tray.1 has))

pub other-test : (copy : SheetId) (plans : List Plan) → (list_all (is_of_other copy) plans ≡ true) ↔ All (λ p. AreOfOthers copy p.sheet) (tray_plans plans)
unfolding is_of_other
other-test copy plans = tray-test (is_of_other copy) (λ p. AreOfOthers copy p.sheet) (λ p. either-test (is_tray_plan p) (not (is_same_sheet copy p.sheet)) (AreOfOthers copy p.sheet) (not-test (is_same_sheet copy p.sheet))) plans

pub behind-test : (jobs : List Job) (w : WaitingCopy) (plans : List Plan) → (list_all (stands_behind jobs w.sheet) plans ≡ true) ↔ All (StandsBehind jobs w) (tray_plans plans)
unfolding stands_behind
behind-test jobs w plans = tray-test (stands_behind jobs w.sheet) (StandsBehind jobs w)
    (λ p. either-either (is_tray_plan p) (is_same_line jobs w.sheet p.sheet) (is_before p.sheet w.sheet) (IsTrue (is_before p.sheet w.sheet)) (self-test (is_before p.sheet w.sheet))) plans

-- where the other plan is a whole one to its tray and of the same sheet, it is the same copy
abbrev pub IsSingle : SheetId → Plan → Type 0
IsSingle copy q = is_tray_plan q ≡ true → is_same_sheet copy q.sheet ≡ true → is_same_copy copy q.sheet ≡ true

single-test : (copy : SheetId) (q : Plan) → (is_single copy q ≡ true) ↔ IsSingle copy q
unfolding is_single
single-test copy q = either-either (is_tray_plan q) (is_same_sheet copy q.sheet) (is_same_copy copy q.sheet) (is_same_copy copy q.sheet ≡ true) (λ e. e, λ e. e)

-- a whole plan to its tray is the only one of its sheet and of its newest copy, and has entered where its job is broken
pub record IsEntering (t : Standing) (p : Plan) : Type 0 where
  pub single : All (IsSingle p.sheet) t.plans
  pub newest : All (λ q. IsOlder q p.sheet) t.plans
  pub broken : IsTrue (is_job_broken t.jobs p.sheet.job) → HasEntered t.now p

pub plan-test : (t : Standing) (p : Plan) → (is_plan_kept t p ≡ true) ↔ (is_tray_plan p ≡ true → IsEntering t p)
unfolding is_plan_kept
plan-test t p =
    let single : Bool = list_all (is_single p.sheet) t.plans in
    let newest : Bool = is_newest t.plans p.sheet in
    let entered : Bool = not (is_job_broken t.jobs p.sheet.job) || nat_le (point p (length p.acts - 1)) t.now in
    let enters = either-test (is_job_broken t.jobs p.sheet.job) (nat_le (point p (length p.acts - 1)) t.now) (HasEntered t.now p) (le-test (point p (length p.acts - 1)) t.now) in
    let alone = all-test (is_single p.sheet) (IsSingle p.sheet) (single-test p.sheet) t.plans in
    either-test (is_tray_plan p) (single && newest && entered) (IsEntering t p) (
      λ e. (let (two, c) = and_parts (single && newest) entered e in
          let (a, b) = and_parts single newest two in
          record { single = alone.0 a; newest = (newest-test t.plans p.sheet).0 b; broken = enters.0 c }),
      λ is. and_from (single && newest) entered (and_from single newest (alone.1 is.single) ((newest-test t.plans p.sheet).1 is.newest)) (enters.1 is.broken),
    )
