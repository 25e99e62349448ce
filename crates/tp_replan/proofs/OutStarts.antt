-- Where a module can go out, the loop can begin.
use Rattle.std.proofs.Common.{◌≡◌, ℕ, ◌+◌, ◌≤◌, Bool, true, false, cond, not, ◌&&◌, ◌||◌, List, [], ◌∷◌, length, map, filter, IsTrue, All, AllPairs, Contains, refl, ap, ◌∙◌, arith, subst, count_by, inl, inr}
use Rattle.std.specs.Prelude.{IsFalse}
use Rattle.std.specs.List.{list_any}
use Rattle.std.specs.Str.{bytes_eq}
use Rattle.tp_jobs.specs.Backlogs.{tray_of}
use Rattle.tp_event_rules.specs.Labels.{job_name}
use Rattle.std.proofs.lemmas.Bool.Decides.{nat_tests}
use Rattle.std.proofs.lemmas.List.{length-append, length-map}
use Rattle.std.proofs.lemmas.List.Elements.{All-head, All-tail, All-weaker}
use Rattle.std.proofs.lemmas.List.Sums.{count_by-le-length, length-filter}
use Rattle.tp_machine.specs.declared.machine.Machine.{Machine}
use Rattle.tp_schedule.specs.Plans.{is_front, is_same_copy}
use Rattle.tp_schedule.specs.declared.parts.Plan.{Plan}
use Rattle.tp_schedule.specs.declared.parts.SheetId.{SheetId}
use Rattle.tp_schedule.proofs.CopyFacts.{same_copy-refl}
use Rattle.tp_schedule.proofs.Membership.{All-from_contains, Contains-cons_cases, Contains-filter, Contains-here, Contains-later, Contains-map}
use Rattle.tp_schedule.proofs.Pairs.{AllPairs-head, AllPairs-tail}
use Rattle.tp_jobs.specs.declared.parts.WaitingCopy.{WaitingCopy}
use Rattle.tp_event_rules.specs.StateInvariants.{KeepsLines, is_copy_of, is_known, is_of_its_job, is_own_goal, is_same_sheet, open_copies, tray_plans}
use Rattle.tp_event_rules.specs.Lines.{is_lost}
use Rattle.tp_event_rules.specs.Moments.{is_to_tray, is_tray_plan}
use Rattle.tp_event_rules.specs.States.{SessionState}
use Rattle.tp_replan.specs.LooseLoop.{CanBeginLoop, CanLoop, IsUnderWay, is_loose_in}
use Rattle.tp_replan.specs.Meanings.{IsKnown}
use Rattle.tp_replan.specs.Open.{Group, is_in, is_open, most_in, open_count}
use Rattle.tp_replan.proofs.OpenFacts.{and-first, and-second, count-append, count-cons, is_of_sheet, is_open_of}

-- a front is lost where the fronts are those of the lost copies
any-same : (c : SheetId) (copies : List SheetId) → Contains copies c → list_any (is_same_copy c) copies ≡ true
any-same c [] in' = absurd (omega (arith, in'.1))
any-same c (d ∷ copies) in' = elim (Contains-cons_cases d copies c in') [
  | inl same ↦ first (is_same_copy c d) (ap (is_same_copy c) same ∙ same_copy-refl c)
  | inr later ↦ or-true (is_same_copy c d) _ (any-same c copies later)
] where
  first : (b : Bool) → b ≡ true → (b || list_any (is_same_copy c) copies) ≡ true
  first true e = refl
  first false e = absurd cc

  or-true : (a b : Bool) → b ≡ true → (a || b) ≡ true
  or-true true b e = refl
  or-true false b e = e

pub front-lost : (s : SessionState) → KeepsLines s → (p : Plan) → Contains s.plans p → is_front p.kind ≡ true → is_lost s p ≡ true
front-lost s keeps p in' e =
    subst (λ lost. list_any (is_same_copy p.sheet) lost ≡ true) keeps.fronts
    (any-same p.sheet (map (λ q. q.sheet) (filter (λ q. is_front q.kind) s.plans))
    (Contains-map (λ (q : Plan). q.sheet) (filter (λ q. is_front q.kind) s.plans) p (Contains-filter (λ q. is_front q.kind) s.plans p in' e)))

none-loose : (s : SessionState) → KeepsLines s → (p : Plan) → Contains s.plans p → IsTrue (is_loose_in s.lost p) → ⊥
none-loose s keeps p in' e = let lost = front-lost s keeps p in' (and-first (is_front p.kind) (not (is_lost s p)) e) in both (is_lost s p) lost (and-second (is_front p.kind) (not (is_lost s p)) e) where
  both : (b : Bool) → b ≡ true → not b ≡ true → ⊥
  both true e f = cc
  both false e f = cc

-- at most one copy of a sheet is open
apart-few : (job number : ℕ) (copies : List SheetId) → AllPairs (λ a b. IsFalse (is_same_sheet a b)) copies → count_by (is_copy_of job number) copies ≤ 1
apart-few job number [] pairs = omega arith
apart-few job number (c ∷ copies) pairs =
    let rest = apart-few job number copies (AllPairs-tail (λ a b. IsFalse (is_same_sheet a b)) c copies pairs) in
    let one = count-cons (is_copy_of job number) c copies in
    let here = go (is_copy_of job number c) refl rest in
    omega arith where
      none-of : (copies : List SheetId) → is_copy_of job number c ≡ true → All (λ b. IsFalse (is_same_sheet c b)) copies → count_by (is_copy_of job number) copies ≡ 0
      none-of [] e all = refl
      none-of (d ∷ copies) e all =
          let rest = none-of copies e (All-tail (λ b. IsFalse (is_same_sheet c b)) d copies all) in
          let one = count-cons (is_copy_of job number) d copies in
          let apart : is_same_sheet c d ≡ false = All-head (λ b. IsFalse (is_same_sheet c b)) d copies all in
          let other : is_copy_of job number d ≡ false = differ d e apart in
          let none = ap (λ b. cond {A = ℕ} b 1 0) other in
          omega arith where
            differ : (d : SheetId) → is_copy_of job number c ≡ true → is_same_sheet c d ≡ false → is_copy_of job number d ≡ false
            differ d e apart = grind (arith, nat_tests)

      go : (b : Bool) → is_copy_of job number c ≡ b → count_by (is_copy_of job number) copies ≤ 1 → cond {A = ℕ} b 1 0 + count_by (is_copy_of job number) copies ≤ 1
      go true e rest = let none = none-of copies e (AllPairs-head (λ a b. IsFalse (is_same_sheet a b)) c copies pairs) in omega arith
      go false e rest = omega arith

count-all : (g : Group) → g.all ≡ true → (copies : List SheetId) → count_by (is_in g) copies ≡ length copies
count-all g all [] = refl
count-all g all (c ∷ copies) =
    let rest = count-all g all copies in
    let one = count-cons (is_in g) c copies in
    let here : is_in g c ≡ true = ap (λ b. b || is_copy_of g.job g.number c) all in
    let counts = ap (λ b. cond {A = ℕ} b 1 0) here in
    omega arith

pub map-count : (g : Group) (ws : List WaitingCopy) → count_by (is_in g) (map (λ w. w.sheet) ws) ≡ count_by (is_of_sheet g) ws
map-count g [] = refl
map-count g (w ∷ ws) =
    let rest = map-count g ws in
    let one = count-cons (is_in g) w.sheet (map (λ v. v.sheet) ws) in
    let other = count-cons (is_of_sheet g) w ws in
    omega arith

open-few : (s : SessionState) (g : Group) (plans : List Plan) → ((p : Plan) → Contains plans p → is_open s p ≡ true → is_tray_plan p ≡ true)
    → count_by (is_open_of s g) plans ≤ count_by (is_in g) (map (λ p. p.sheet) (tray_plans plans))
open-few s g [] each = omega arith
open-few s g (p ∷ plans) each =
    go (is_tray_plan p) (is_open s p) (each p (Contains-here p plans)) (is_in g p.sheet) (count-cons (is_open_of s g) p plans)
    (count-cons (is_in g) p.sheet (map (λ p. p.sheet) (tray_plans plans))) (open-few s g plans (λ q in'. each q (Contains-later p plans q in'))) where
      go : (a b : Bool) → (b ≡ true → a ≡ true) → (d : Bool) → count_by (is_open_of s g) (p ∷ plans) ≡ cond (b && d) 1 0 + count_by (is_open_of s g) plans
          → count_by (is_in g) (p.sheet ∷ map (λ p. p.sheet) (tray_plans plans)) ≡ cond d 1 0 + count_by (is_in g) (map (λ p. p.sheet) (tray_plans plans))
          → count_by (is_open_of s g) plans ≤ count_by (is_in g) (map (λ p. p.sheet) (tray_plans plans))
          → count_by (is_open_of s g) (p ∷ plans) ≤ count_by (is_in g) (map (λ p. p.sheet) (cond a (p ∷ tray_plans plans) (tray_plans plans)))
      go true true h true one other few = omega arith
      go true true h false one other few = omega arith
      go true false h true one other few = omega arith
      go true false h false one other few = omega arith
      go false true h d one other few = absurd (let e = h refl in cc)
      go false false h d one other few = omega arith

pub can-begin : (machine : Machine) (s : SessionState) → CanBeginLoop machine s → CanLoop machine s
can-begin machine s can = record {
  on_way = record {
    plan_on = record { now_at_most = can.now_at_most; legal = can.plans.legal; floors = can.plans.floors; horizon = can.plans.horizon };
    few_live = can.plans.few_live;
    named = can.named;
    goals = can.goals;
    way = All-from_contains (λ p. IsTrue (is_loose_in s.lost p) → IsUnderWay s.now p) s.plans (λ p in' e. absurd (none-loose s can.lines p in' e));
    ahead = λ p q in' in'' e tray to to' before. absurd (none-loose s can.lines p in' e);
  };
  fall = record {
    known = All-weaker (λ p. IsTrue (is_of_its_job s.jobs p)) (IsKnown s.jobs) (λ p e. let known = and-first (is_known s.jobs p.sheet) (bytes_eq p.name (job_name s.jobs p.sheet.job)) (and-first (is_known s.jobs p.sheet && bytes_eq p.name (job_name s.jobs p.sheet.job)) (is_own_goal p.goal (tray_of s.jobs p.sheet).0) e) in grind (arith, nat_tests)) s.plans can.lines.plans_known;
    next = can.next_planned;
    purges = can.purges;
    few = begin-few;
  };
} where
  whole : {k : Bool} (f : Bool) → k ≡ f → (lost to : Bool) → (not lost && to) ≡ true → (k ≡ true → lost ≡ true) → (not k && to) ≡ true
  whole true e lost to own h = absurd (gone lost to own (h e)) where
    gone : (lost to : Bool) → (not lost && to) ≡ true → lost ≡ true → ⊥
    gone true to e f = cc
    gone false to e f = cc
  whole false e lost to own h = rw e (and-second (not lost) to own)

  counted : (g : Group) → count_by (is_in g) (open_copies s) ≤ most_in g
  counted g = go g.all where
    go : (all : Bool) → count_by (is_in (record g { all = all })) (open_copies s) ≤ most_in (record g { all = all })
    go false = apart-few g.job g.number (open_copies s) can.lines.one
    go true =
        let every = count-all (record g { all = true }) refl (open_copies s) in
        let both = length-append (map (λ w. w.sheet) s.waiting) (map (λ p. p.sheet) (tray_plans s.plans)) in
        let waits = length-map s.waiting (λ w. w.sheet) in
        let trays = length-map (tray_plans s.plans) (λ p. p.sheet) in
        let filtered = length-filter is_tray_plan s.plans in
        let fewer = count_by-le-length is_tray_plan s.plans in
        let few = can.few in
        omega arith

  begin-few : (g : Group) → open_count g s [] ≤ most_in g
  begin-few g =
      let most = counted g in
      let both = count-append (is_in g) (map (λ w. w.sheet) s.waiting) (map (λ p. p.sheet) (tray_plans s.plans)) in
      let waits = map-count g s.waiting in
      let few = open-few s g s.plans (λ p in' e. whole (is_front p.kind) refl (is_lost s p) (is_to_tray p.goal) e (front-lost s can.lines p in')) in
      omega arith
