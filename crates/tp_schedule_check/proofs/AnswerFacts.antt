-- What is looked at makes a right answer or settled times, and each of those has it.
use Rattle.std.proofs.Common.{◌≡◌, ℕ, ◌&&◌, Bool, true, false, cond, not, List, [], ◌∷◌, map, filter, refl, sym, ap, subst, ◌∙◌, arith, inl, inr, Contains, Option, Some, None}
use Rattle.std.specs.Prelude.{nat_lt, ◌↔◌, IfOk, IsNone, Result, Ok, Err}
use Rattle.std.proofs.lemmas.Option.{same_Some}
use Rattle.tp_machine.specs.declared.machine.Machine.{Machine}
use Rattle.tp_schedule.specs.Answers.{IsLeast, KeepsFixed, KeepsFloors, follows_front, kept_of, unmoved}
use Rattle.tp_schedule.specs.Legality.{IsLegal}
use Rattle.tp_schedule.specs.PlannerAnswers.{IsSettled}
use Rattle.tp_schedule.specs.Plans.{is_same_copy, plan_of, point}
use Rattle.tp_schedule.specs.Spots.{Slot, slot_order}
use Rattle.tp_schedule.specs.declared.parts.Ask.{Ask}
use Rattle.tp_schedule.specs.declared.parts.Plan.{Plan}
use Rattle.tp_schedule.specs.declared.parts.SheetId.{SheetId}
use Rattle.tp_schedule.proofs.CopyFacts.{InOrder, plan_of-itself, same_copy-is}
use Rattle.tp_schedule.proofs.Membership.{Contains-cons_cases, Contains-filter, Contains-filter_from, Contains-here, Contains-later}
use Rattle.tp_schedule_check.specs.Early.{is_exempt}
use Rattle.tp_schedule_check.specs.OrderDifferences.{AreOrdersKept}
use Rattle.tp_schedule_check.proofs.LineFacts.{found-one}
use Rattle.tp_schedule_check.specs.Alike.{AreAlike, IsAlike, IsUnlike, KeepsPoints, others}
use Rattle.tp_schedule_check.specs.declared.unlike.Unlike.{Unlike}
use Rattle.tp_schedule_check.specs.declared.unlike.Unlike.TheVariants.{Changed, Moved}
use Rattle.tp_schedule_check.specs.declared.fault.Fault.{Fault}
use Rattle.tp_schedule_check.specs.Faults.{HasPlans, HasTimes, IsRight, exempt_of, wanted_at, wanted_of}

-- ---- plans that are alike
alike-unmoved : (xs ys : List Plan) → AreAlike xs ys → map unmoved ys ≡ map unmoved xs
alike-unmoved [] [] alike = refl
alike-unmoved [] (y ∷ ys) alike = absurd alike
alike-unmoved (x ∷ xs) [] alike = absurd alike
alike-unmoved (x ∷ xs) (y ∷ ys) alike = let one = alike.0.0 in let rest = alike-unmoved xs ys alike.1 in cc

alike-partner : (xs ys : List Plan) (p : Plan) → AreAlike xs ys → Contains xs p → (q : Plan) × Contains ys q × IsAlike p q
alike-partner [] ys p alike in' = absurd (omega (arith, in'.1))
alike-partner (x ∷ xs) [] p alike in' = absurd alike
alike-partner (x ∷ xs) (y ∷ ys) p alike in' = elim (Contains-cons_cases x xs p in') [
  | inl e ↦ (y, Contains-here y ys, subst (λ z. IsAlike z y) e alike.0)
  | inr later ↦ let r = alike-partner xs ys p alike.1 later in (r.0, Contains-later y ys r.0 r.1, r.2)
]

alike-from : (xs ys : List Plan) → map unmoved ys ≡ map unmoved xs → ((p q : Plan) → Contains xs p → Contains ys q → q.sheet ≡ p.sheet → KeepsPoints p q) → AreAlike xs ys
alike-from [] [] e keeps = tt
alike-from [] (y ∷ ys) e keeps = absurd cc
alike-from (x ∷ xs) [] e keeps = absurd cc
alike-from (x ∷ xs) (y ∷ ys) e keeps =
    let one : unmoved y ≡ unmoved x = cc in
    let rest : map unmoved ys ≡ map unmoved xs = cc in
    ((one, keeps x y (Contains-here x xs) (Contains-here y ys) (ap (λ p. p.sheet) one)), alike-from xs ys rest (λ p q a b s. keeps p q (Contains-later x xs p a) (Contains-later y ys q b) s))

-- the plan of a copy is one of the plans
found-plan : (copy : SheetId) (plans : List Plan) (p : Plan) → plan_of copy plans ≡ Some p → Contains plans p × (p.sheet ≡ copy)
found-plan copy plans p e = let r = found-one (λ q. is_same_copy q.sheet copy) plans p e in (r.0, same_copy-is p.sheet copy r.1)

pub unlike-breaks : (plans plans' : List Plan) (u : Unlike) → IsUnlike (others None plans) (others None plans') u → AreAlike (others None plans) (others None plans') → ⊥
unlike-breaks plans plans' Changed unlike alike = unlike alike
unlike-breaks plans plans' (Moved sheet at stood stands) unlike alike = unlike.0 alike

-- ---- no copy is asked
all-others : (plans : List Plan) → others None plans ≡ plans
all-others [] = refl
all-others (p ∷ plans) = ap (λ ps. p ∷ ps) (all-others plans)

all-slots : (ss : List Slot) → filter (λ s. not false) ss ≡ ss
all-slots [] = refl
all-slots (s ∷ ss) = ap (λ xs. s ∷ xs) (all-slots ss)

exempt-is : (ask : Ask) (p : Plan) → is_exempt (exempt_of ask) p ≡ follows_front ask p
exempt-is ask p = go (nat_lt 0 (kept_of ask)) (is_same_copy p.sheet ask.sheet) refl where
  go : (b c : Bool) → is_same_copy p.sheet ask.sheet ≡ c → is_exempt (cond b (Some ask.sheet) None) p ≡ (is_same_copy p.sheet ask.sheet && b)
  go true true e = rw e refl
  go true false e = rw e refl
  go false true e = rw e refl
  go false false e = rw e refl

pub exempt-same : (ask : Ask) → is_exempt (exempt_of ask) ≡ follows_front ask
exempt-same ask = λ i. λ p. exempt-is ask p i

-- ---- fixed points
module _ (plans plans' : List Plan) (order : InOrder plans) (order' : InOrder plans') where
  stands-as : (p q : Plan) → Contains plans' q → q.sheet ≡ p.sheet → plan_of p.sheet plans' ≡ Some q
  stands-as p q in' e = subst (λ c. plan_of c plans' ≡ Some q) e (plan_of-itself plans' q order' in')

  fixed-from : (asked : Option SheetId) → AreAlike (others asked plans) (others asked plans')
      → ((p p' : Plan) → Contains plans p → plan_of p.sheet plans' ≡ Some p' → is_exempt asked p ≡ true → KeepsPoints p p') → KeepsFixed plans plans'
  fixed-from asked alike front p p' in' is i fixed le = go (is_exempt asked p) refl where
    go : (b : Bool) → is_exempt asked p ≡ b → point p' i ≡ point p i
    go true e = front p p' in' is e i fixed le
    go false e =
        let r = alike-partner (others asked plans) (others asked plans') p alike (Contains-filter (λ q. not (is_exempt asked q)) plans p in' (ap not e)) in
        let there = Contains-filter_from (λ q. not (is_exempt asked q)) plans' r.0 r.1 in
        let same : p' ≡ r.0 = same_Some p' r.0 (sym is ∙ stands-as p r.0 there.0 (ap (λ x. x.sheet) r.2.0)) in
        subst (λ x. point x i ≡ point p i) (sym same) (r.2.1 i fixed le)

  others-keep : (asked : Option SheetId) → KeepsFixed plans plans' → (p q : Plan) → Contains (others asked plans) p → Contains (others asked plans') q → q.sheet ≡ p.sheet → KeepsPoints p q
  others-keep asked fixed p q in' in'' same i is le =
      let here = Contains-filter_from (λ x. not (is_exempt asked x)) plans p in' in
      let there = Contains-filter_from (λ x. not (is_exempt asked x)) plans' q in'' in
      fixed p q here.0 (stands-as p q there.0 same) i is le

-- ---- answers
module _ (machine : Machine) (plans plans' : List Plan) (ask : Ask) (legal : IsLegal machine plans) (order' : InOrder plans') where
  pub right-from : HasPlans machine plans ask plans' → HasTimes machine (wanted_of ask) plans plans' → IsRight machine plans ask plans'
  right-from has times = record {
    alternative = record {
      legal_before = legal;
      legal = times.legal;
      others = alike-unmoved (others (Some ask.sheet) plans) (others (Some ask.sheet) plans') has.alike;
      plan = has.answered.plan;
      planned = has.answered.planned;
      answers = has.answered.good.answers;
      fixed = fixed-from plans plans' legal.in_order order' (Some ask.sheet) has.alike front;
      orders = times.orders.orders;
      floors = subst (λ e. KeepsFloors machine ask.now e plans') (exempt-same ask) times.bounds.floors;
      horizon = times.bounds.horizon;
    };
    least = subst (λ e. IsLeast machine ask.now e plans') (exempt-same ask) times.orders.least;
  } where
    front : (p p' : Plan) → Contains plans p → plan_of p.sheet plans' ≡ Some p' → is_same_copy p.sheet ask.sheet ≡ true → KeepsPoints p p'
    front p p' in' is e =
        let copy : p.sheet ≡ ask.sheet = same_copy-is p.sheet ask.sheet e in
        let mine : plan_of ask.sheet plans ≡ Some p = subst (λ c. plan_of c plans ≡ Some p) copy (plan_of-itself plans p legal.in_order in') in
        let same : has.answered.plan ≡ p' = same_Some has.answered.plan p' (sym has.answered.planned ∙ subst (λ c. plan_of c plans' ≡ Some p') copy is) in
        subst (KeepsPoints p) same (has.answered.good.front p mine)

  pub plans-of : IsRight machine plans ask plans' → HasPlans machine plans ask plans'
  plans-of right = let a = right.alternative in record {
    answered = record {
      plan = a.plan;
      planned = a.planned;
      good = record {
        answers = a.answers;
        front = λ f is. (
            let found = found-plan ask.sheet plans f is in
            let there : plan_of f.sheet plans' ≡ Some a.plan = subst (λ c. plan_of c plans' ≡ Some a.plan) (sym found.1) a.planned in
            λ i fixed le. a.fixed f a.plan found.0 there i fixed le);
      };
    };
    alike = alike-from (others (Some ask.sheet) plans) (others (Some ask.sheet) plans') a.others (others-keep plans plans' legal.in_order order' (Some ask.sheet) a.fixed);
  }

  pub times-of : IsRight machine plans ask plans' → HasTimes machine (wanted_of ask) plans plans'
  times-of right = let a = right.alternative in record {
    legal = a.legal;
    bounds = record { floors = subst (λ e. KeepsFloors machine ask.now e plans') (sym (exempt-same ask)) a.floors; horizon = a.horizon };
    orders = record { orders = a.orders; least = subst (λ e. IsLeast machine ask.now e plans') (sym (exempt-same ask)) right.least };
  }

  -- what is looked at of the times tells of the answer
  pub right-times : {E : Type 0} (has : HasPlans machine plans ask plans') (exempt : Option SheetId) → exempt ≡ exempt_of ask → (r : Result (Option Fault) E)
      → IfOk r (λ found. IsNone found ↔ HasTimes machine (record { moment = ask.now; asked = Some ask; exempt = exempt }) plans plans') → IfOk r (λ found. IsNone found ↔ IsRight machine plans ask plans')
  right-times has exempt e (Ok found) says =
      let times = subst (λ x. IsNone found ↔ HasTimes machine (record { moment = ask.now; asked = Some ask; exempt = x }) plans plans') e says in
      (λ none. right-from has (times.0 none), λ right. times.1 (times-of right))
  right-times has exempt e (Err error) says = tt

-- ---- settled times
module _ (machine : Machine) (now : ℕ) (plans plans' : List Plan) (legal : IsLegal machine plans) (order' : InOrder plans') where
  orders-all : AreOrdersKept machine None plans plans' ↔ ((resource : ℕ) → slot_order machine plans' resource ≡ slot_order machine plans resource)
  orders-all = (λ kept r. sym (all-slots (slot_order machine plans' r)) ∙ kept r, λ same r. all-slots (slot_order machine plans' r) ∙ same r)

  pub settled-from : AreAlike (others None plans) (others None plans') → HasTimes machine (wanted_at now) plans plans' → IsSettled machine now plans plans'
  settled-from alike times = record {
    retimed = record {
      legal = times.legal;
      same = subst (λ xs. map unmoved xs ≡ map unmoved plans) (all-others plans') (subst (λ xs. map unmoved (others None plans') ≡ map unmoved xs) (all-others plans) (alike-unmoved (others None plans) (others None plans') alike));
      fixed = fixed-from plans plans' legal.in_order order' None alike (λ p p' in' is e. absurd cc);
      orders = orders-all.0 times.orders.orders;
      floors = times.bounds.floors;
      horizon = times.bounds.horizon;
    };
    least = times.orders.least;
  }

  pub alike-of : IsSettled machine now plans plans' → AreAlike (others None plans) (others None plans')
  alike-of settled = alike-from (others None plans) (others None plans')
      (subst (λ xs. map unmoved xs ≡ map unmoved (others None plans)) (sym (all-others plans')) (subst (λ xs. map unmoved plans' ≡ map unmoved xs) (sym (all-others plans)) settled.retimed.same))
      (others-keep plans plans' legal.in_order order' None settled.retimed.fixed)

  pub times-settled : IsSettled machine now plans plans' → HasTimes machine (wanted_at now) plans plans'
  times-settled settled = record {
    legal = settled.retimed.legal;
    bounds = record { floors = settled.retimed.floors; horizon = settled.retimed.horizon };
    orders = record { orders = orders-all.1 settled.retimed.orders; least = settled.least };
  }

  pub settled-times : {E : Type 0} (alike : AreAlike (others None plans) (others None plans')) (r : Result (Option Fault) E)
      → IfOk r (λ found. IsNone found ↔ HasTimes machine (wanted_at now) plans plans') → IfOk r (λ found. IsNone found ↔ IsSettled machine now plans plans')
  settled-times alike (Ok found) says = (λ none. settled-from alike (says.0 none), λ settled. says.1 (times-settled settled))
  settled-times alike (Err error) says = tt
