-- The ends of a line rise exactly where no pair of neighbours is late.
use Rattle.std.proofs.Common.{◌≡◌, ℕ, zero, suc, ◌+◌, ◌<◌, ◌≤◌, inl, inr, Bool, true, false, cond, not, ◌&&◌, List, [], ◌∷◌, length, find, option_and_then, drop, refl, sym, ap, subst, arith, All, AllPairs, Contains, Option, Some, None, get_or}
use Rattle.std.specs.Prelude.{pos}
use Rattle.std.proofs.lemmas.Bool.Decides.{nat_tests}
use Rattle.std.proofs.lemmas.Int.{ints}
use Rattle.std.proofs.lemmas.List.Elements.{All-append, All-cons, All-contains, All-head, All-nil, All-tail, Contains-get_or}
use Rattle.tp_machine.specs.declared.machine.Machine.{Machine}
use Rattle.tp_machine.specs.declared.parts.LocId.{LocId}
use Rattle.tp_schedule.specs.Legality.{EndsBefore, IsLegal}
use Rattle.tp_schedule.specs.Plans.{IsEarlier, end_of_plan, goes_to, is_before, is_delivered_to, is_front}
use Rattle.tp_schedule.specs.Spots.{Ticks, ticks_of}
use Rattle.tp_schedule.specs.Times.{EndsBeforeAt}
use Rattle.tp_schedule.specs.declared.parts.Goal.{Goal}
use Rattle.tp_schedule.specs.declared.parts.Goal.TheVariants.{Tray, Purge}
use Rattle.tp_schedule.specs.declared.parts.Kind.{Kind}
use Rattle.tp_schedule.specs.declared.parts.Kind.TheVariants.{Whole, Front}
use Rattle.tp_schedule.specs.declared.parts.Plan.{Plan}
use Rattle.tp_schedule.specs.declared.parts.SheetId.{SheetId}
use Rattle.tp_schedule.proofs.CopyFacts.{InOrder, before-asym, before-not_same, plan_of-itself, same_copy-refl}
use Rattle.tp_schedule.proofs.Membership.{Contains-here, Contains-later}
use Rattle.tp_schedule.proofs.Pairs.{AllPairs-each, AllPairs-either, AllPairs-head, AllPairs-tail}
use Rattle.tp_constraints.specs.Gaps.{KeepsGap, KeepsGaps, end_spot, gap, is_in_line, is_same_line, line_gap, line_gaps}
use Rattle.tp_constraints.proofs.LineGaps.{rise-from_gaps}
use Rattle.tp_constraints.proofs.Lists.{All-split}
use Rattle.tp_schedule_check.specs.Clashes.{AreOutOfLine, is_late}
use Rattle.tp_schedule_check.specs.Lines.{end_of, line_of, line_pairs, next_in, next_to, pair_with, point_count}
use Rattle.tp_schedule_check.specs.declared.line_ends.PlanEnd.{PlanEnd}

-- ---- what is found in a list
pub found-one : {X : Type 0} (p : X → Bool) (xs : List X) (x : X) → find p xs ≡ Some x → Contains xs x × (p x ≡ true)
found-one p [] x e = absurd cc
found-one {X} p (y ∷ xs) x e = go (p y) refl e (found-one p xs x) where
  go : (b : Bool) → p y ≡ b → cond b (Some y) (find p xs) ≡ Some x → (find p xs ≡ Some x → Contains xs x × (p x ≡ true)) → Contains (y ∷ xs) x × (p x ≡ true)
  go true is f rest = let same : y ≡ x = cc in (subst (Contains (y ∷ xs)) same (Contains-here y xs), subst (λ z. p z ≡ true) same is)
  go false is f rest = let r = rest f in (Contains-later y xs x r.0, r.1)

pub found-none : {X : Type 0} (p : X → Bool) (xs : List X) → find p xs ≡ None → All (λ x. p x ≡ false) xs
found-none p [] e = All-nil (λ x. p x ≡ false)
found-none {X} p (y ∷ xs) e = go (p y) refl e (found-none p xs) where
  go : (b : Bool) → p y ≡ b → cond b (Some y) (find p xs) ≡ None → (find p xs ≡ None → All (λ x. p x ≡ false) xs) → All (λ x. p x ≡ false) (y ∷ xs)
  go true is f rest = absurd cc
  go false is f rest = All-cons (λ x. p x ≡ false) y xs is (rest f)

-- ---- the next end of a line
-- what holds of each plan and the number of its first point
abbrev pub AllFrom : (Plan → ℕ → Type 0) → ℕ → List Plan → Type 0
AllFrom P n [] = Unit {0}
AllFrom P n (p ∷ plans) = P p n × AllFrom P (n + (length p.acts + 1)) plans

abbrev pub Anything : Plan → ℕ → Type 0
Anything p n = Unit {0}

pub anything : (n : ℕ) (plans : List Plan) → AllFrom Anything n plans
anything n [] = tt
anything n (p ∷ plans) = (tt, anything (n + (length p.acts + 1)) plans)

-- the end is that of the plan, by its number
abbrev pub IsNext : (Plan → ℕ → Type 0) → Option Plan → Option PlanEnd → Type 0
IsNext P None None = Unit {0}
IsNext P None (Some e) = ⊥
IsNext P (Some q) None = ⊥
IsNext P (Some q) (Some e) = (n : ℕ) × P q n × (e ≡ end_of n q)

next-to : (P : Plan → ℕ → Type 0) (tray n : ℕ) (plans : List Plan) → AllFrom P n plans → IsNext P (find (λ q. is_delivered_to q tray) plans) (next_to tray n plans)
next-to P tray n [] all = tt
next-to P tray n (p ∷ plans) all = go (is_delivered_to p tray) (next-to P tray (n + (length p.acts + 1)) plans all.1) where
  go : (b : Bool) → IsNext P (find (λ q. is_delivered_to q tray) plans) (next_to tray (n + (length p.acts + 1)) plans)
      → IsNext P (cond b (Some p) (find (λ q. is_delivered_to q tray) plans)) (cond b (Some (end_of n p)) (next_to tray (n + (length p.acts + 1)) plans))
  go true rest = (n, all.0, refl)
  go false rest = rest

none-found : (plans : List Plan) → find (λ (q : Plan). false) plans ≡ None
none-found [] = refl
none-found (p ∷ plans) = none-found plans

next-line : (P : Plan → ℕ → Type 0) (k : Kind) (g : Goal) (n : ℕ) (plans : List Plan) → AllFrom P n plans → IsNext P (find (λ q. not (is_front k) && is_in_line g q) plans) (next_in (line_of k g) n plans)
next-line P Front g n plans all = subst (λ o. IsNext P o None) (sym (none-found plans)) tt
next-line P Whole Purge n plans all = subst (λ o. IsNext P o None) (sym (none-found plans)) tt
next-line P Whole (Tray x) n plans all = next-to P x.0 n plans all

pub next-is : (P : Plan → ℕ → Type 0) (p : Plan) (n : ℕ) (plans : List Plan) → AllFrom P n plans → IsNext P (find (is_same_line p) plans) (next_in (line_of p.kind p.goal) n plans)
next-is P p n plans all = next-line P p.kind p.goal n plans all

-- ---- pairs in time
abbrev IsInTime : PlanEnd × PlanEnd → Type 0
IsInTime pair = is_late pair ≡ false

-- the ticks of ends are those of the plans
abbrev pub HasEnd : Ticks → Plan → Type 0
HasEnd t p = t (end_spot p) ≡ end_of_plan p

gap-in-time : (t : Ticks) (p : Plan) (n : ℕ) (o : Option Plan) (e : Option PlanEnd) → IsNext Anything o e → HasEnd t p → ((q : Plan) → o ≡ Some q → HasEnd t q) → All IsInTime (pair_with (end_of n p) e) → KeepsGaps t (line_gap p o)
gap-in-time t p n None e next at each all = All-nil (KeepsGap t)
gap-in-time t p n (Some q) None next at each all = absurd next
gap-in-time t p n (Some q) (Some e) next at each all =
    let late : is_late (end_of n p, e) ≡ false = All-head IsInTime (end_of n p, e) [] all in
    let tick : e.tick ≡ end_of_plan q = ap (λ x. x.tick) next.2 in
    let at-q = each q refl in
    let below : end_of_plan p < e.tick = grind (arith, nat_tests) in
    All-cons (KeepsGap t) (gap (end_spot p) (end_spot q) (pos 1)) [] (omega (arith, ints, at, at-q, tick, below)) (All-nil (KeepsGap t))

lines-in-time : (t : Ticks) (n : ℕ) (plans : List Plan) → All (HasEnd t) plans → All IsInTime (line_pairs n plans) → KeepsGaps t (line_gaps plans)
lines-in-time t n [] at all = All-nil (KeepsGap t)
lines-in-time t n (p ∷ plans) at all =
    let m = n + (length p.acts + 1) in
    let next = next_in (line_of p.kind p.goal) m plans in
    let split = All-split IsInTime (line_pairs m plans) (pair_with (end_of n p) next) all in
    All-append (KeepsGap t) (line_gap p (find (is_same_line p) plans)) (line_gaps plans)
    (gap-in-time t p n (find (is_same_line p) plans) next (next-is Anything p m plans (anything m plans)) (All-head (HasEnd t) p plans at)
    (λ q e. All-contains (HasEnd t) plans q (All-tail (HasEnd t) p plans at) (found-one (is_same_line p) plans q e).0) split.1)
    (lines-in-time t m plans (All-tail (HasEnd t) p plans at) split.0)

module _ (plans : List Plan) (order : InOrder plans) where
  pub has-end : (p : Plan) → Contains plans p → HasEnd (ticks_of plans) p
  has-end p in' = rw (plan_of-itself plans p order in') refl

  -- pairs in time are lines that rise
  pub rise-in-time : find is_late (line_pairs 0 plans) ≡ None → AllPairs EndsBefore plans
  rise-in-time none =
      let t = ticks_of plans in
      let keeps = lines-in-time t 0 plans (λ k d within. has-end (get_or plans k d) (Contains-get_or plans k d within)) (found-none is_late (line_pairs 0 plans) none) in
      AllPairs-each (EndsBeforeAt t) EndsBefore plans (rise-from_gaps t plans keeps)
      (λ p q in-p in-q ends tray a b. let e = ends tray a b in let at-p = has-end p in-p in let at-q = has-end q in-q in omega arith)

-- ---- a late pair
-- two plans of a line, the one before the other
record IsPair (plans : List Plan) (pair : PlanEnd × PlanEnd) : Type 0 where
  one : Plan
  other : Plan
  one_in : Contains plans one
  other_in : Contains plans other
  before : is_before one.sheet other.sheet ≡ true
  tray : ℕ
  one_to : is_delivered_to one tray ≡ true
  other_to : is_delivered_to other tray ≡ true
  one_sheet : one.sheet ≡ pair.0.sheet
  other_sheet : other.sheet ≡ pair.1.sheet
  one_end : end_of_plan one ≡ pair.0.tick
  other_end : end_of_plan other ≡ pair.1.tick

-- the tray of a line
line-is : (k : Kind) (g : Goal) (x : LocId) → line_of k g ≡ Some x → (not (is_front k) && goes_to g x.0) ≡ true
line-is Front g x e = absurd cc
line-is Whole Purge x e = absurd cc
line-is Whole (Tray y) x e = let same : y ≡ x = cc in subst (λ z. goes_to (Tray y) z.0 ≡ true) same (itself y.0) where
  itself : (n : ℕ) → goes_to (Tray (record { 0 = n })) n ≡ true
  itself n = grind (arith, nat_tests)

from-next : (tray n : ℕ) (plans : List Plan) (e : PlanEnd) → next_to tray n plans ≡ Some e → (q : Plan) × Contains plans q × (is_delivered_to q tray ≡ true) × (q.sheet ≡ e.sheet) × (end_of_plan q ≡ e.tick)
from-next tray n [] e is = absurd cc
from-next tray n (p ∷ plans) e is = go (is_delivered_to p tray) refl is (from-next tray (n + (length p.acts + 1)) plans e) where
  go : (b : Bool) → is_delivered_to p tray ≡ b → cond b (Some (end_of n p)) (next_to tray (n + (length p.acts + 1)) plans) ≡ Some e
      → (next_to tray (n + (length p.acts + 1)) plans ≡ Some e → (q : Plan) × Contains plans q × (is_delivered_to q tray ≡ true) × (q.sheet ≡ e.sheet) × (end_of_plan q ≡ e.tick))
      → (q : Plan) × Contains (p ∷ plans) q × (is_delivered_to q tray ≡ true) × (q.sheet ≡ e.sheet) × (end_of_plan q ≡ e.tick)
  go true to f rest = let same : end_of n p ≡ e = cc in (p, Contains-here p plans, to, ap (λ x. x.sheet) same, ap (λ x. x.tick) same)
  go false to f rest = let r = rest f in (r.0, Contains-later p plans r.0 r.1, r.2, r.3, r.4)

-- the map of ends has the next one
pub next-found : (f : ℕ → Option PlanEnd) (n : ℕ) (plans : List Plan) → ((tray : ℕ) → f tray ≡ next_to tray n plans) → (o : Option LocId) → option_and_then (λ t. f t.0) o ≡ next_in o n plans
next-found f n plans is None = refl
next-found f n plans is (Some t) = is t.0

more-plans : (p : Plan) (plans : List Plan) (pair : PlanEnd × PlanEnd) → IsPair plans pair → IsPair (p ∷ plans) pair
more-plans p plans pair is = record {
  one = is.one;
  other = is.other;
  one_in = Contains-later p plans is.one is.one_in;
  other_in = Contains-later p plans is.other is.other_in;
  before = is.before;
  tray = is.tray;
  one_to = is.one_to;
  other_to = is.other_to;
  one_sheet = is.one_sheet;
  other_sheet = is.other_sheet;
  one_end = is.one_end;
  other_end = is.other_end;
}

pair-first : (p : Plan) (plans : List Plan) (n m : ℕ) → All (λ q. is_before p.sheet q.sheet ≡ true) plans → (o : Option LocId) → line_of p.kind p.goal ≡ o → (e : Option PlanEnd) → next_in o m plans ≡ e → All (IsPair (p ∷ plans)) (pair_with (end_of n p) e)
pair-first p plans n m first o line None is = All-nil (IsPair (p ∷ plans))
pair-first p plans n m first None line (Some e) is = absurd cc
pair-first p plans n m first (Some x) line (Some e) is =
    let r = from-next x.0 m plans e is in
    All-cons (IsPair (p ∷ plans)) (end_of n p, e) [] (record {
      one = p;
      other = r.0;
      one_in = Contains-here p plans;
      other_in = Contains-later p plans r.0 r.1;
      before = All-contains (λ q. is_before p.sheet q.sheet ≡ true) plans r.0 first r.1;
      tray = x.0;
      one_to = line-is p.kind p.goal x line;
      other_to = r.2;
      one_sheet = refl;
      other_sheet = r.3;
      one_end = refl;
      other_end = r.4;
    }) (All-nil (IsPair (p ∷ plans)))

all-pairs : (n : ℕ) (plans : List Plan) → InOrder plans → All (IsPair plans) (line_pairs n plans)
all-pairs n [] order = All-nil (IsPair [])
all-pairs n (p ∷ plans) order =
    let m = n + (length p.acts + 1) in
    All-append (IsPair (p ∷ plans)) (line_pairs m plans) (pair_with (end_of n p) (next_in (line_of p.kind p.goal) m plans))
    (λ k d within. more-plans p plans (get_or (line_pairs m plans) k d) (all-pairs m plans (AllPairs-tail (λ x y. is_before x.sheet y.sheet ≡ true) p plans order) k d within))
    (pair-first p plans n m (AllPairs-head (λ x y. is_before x.sheet y.sheet ≡ true) p plans order) (line_of p.kind p.goal) refl (next_in (line_of p.kind p.goal) m plans) refl)

pub late-of : (plans : List Plan) → InOrder plans → (pair : PlanEnd × PlanEnd) → find is_late (line_pairs 0 plans) ≡ Some pair → AreOutOfLine plans pair.0.sheet pair.1.sheet pair.0.tick pair.1.tick
late-of plans order pair is =
    let found = found-one is_late (line_pairs 0 plans) pair is in
    let of = All-contains (IsPair plans) (line_pairs 0 plans) pair (all-pairs 0 plans order) found.0 in
    let late : is_late pair ≡ true = found.1 in
    record {
      one = of.one;
      other = of.other;
      one_planned = of.one_in;
      other_planned = of.other_in;
      earlier_is = of.one_sheet;
      later_is = of.other_sheet;
      before = subst (λ s. is_before s pair.1.sheet ≡ true) of.one_sheet (subst (λ s. is_before of.one.sheet s ≡ true) of.other_sheet of.before);
      tray = of.tray;
      one_to = of.one_to;
      other_to = of.other_to;
      end_is = of.one_end;
      later_end_is = of.other_end;
      clash = grind (arith, nat_tests);
    }

abbrev Both : Plan → Plan → Type 0
Both p q = IsEarlier p q × EndsBefore p q

-- a line out of order is no legal schedule
pub late-illegal : (machine : Machine) (plans : List Plan) (earlier later : SheetId) (end later_end : ℕ) → AreOutOfLine plans earlier later end later_end → IsLegal machine plans → ⊥
late-illegal machine plans earlier later end later_end o legal =
    elim (AllPairs-either Both plans o.one o.other (λ i j d before within. (legal.in_order i j d before within, legal.rise i j d before within)) o.one_planned o.other_planned differ) [
      | inl both ↦ let below = both.1 o.tray o.one_to o.other_to in let a = o.end_is in let b = o.later_end_is in let c = o.clash in omega arith
      | inr both ↦ let other : is_before o.other.sheet o.one.sheet ≡ true = both.0 in let not = before-asym o.one.sheet o.other.sheet before in absurd cc
    ] where
      before : is_before o.one.sheet o.other.sheet ≡ true
      before = subst (λ s. is_before s o.other.sheet ≡ true) (sym o.earlier_is) (subst (λ s. is_before earlier s ≡ true) (sym o.later_is) o.before)

      differ : o.one ≡ o.other → ⊥
      differ same =
          let itself = before-not_same o.one.sheet o.one.sheet (subst (λ p. is_before o.one.sheet p.sheet ≡ true) (sym same) before) in
          let same_one = same_copy-refl o.one.sheet in
          absurd cc

-- later plans have no more points than all
pub count-later : (n : ℕ) (plans : List Plan) → point_count (drop n plans) ≤ point_count plans
count-later zero plans = omega arith
count-later (suc n) [] = omega arith
count-later (suc n) (p ∷ plans) = let r = count-later n plans in omega arith
