-- A schedule of which less is left: plans are gone, and others hold no more than before and are delivered as before. Such a
-- schedule is legal where the first one is, and keeps floors and horizon.
use Rattle.std.proofs.Common.{◌≡◌, ℕ, ◌+◌, ◌<◌, ◌≤◌, List, [], ◌∷◌, length, filter, refl, sym, arith, All, AllPairs, Contains, IsTrue, subst, inl, inr, Bool, true, false, cond, ◌∙◌}
use Rattle.std.specs.Prelude.{IsFalse}
use Rattle.std.proofs.lemmas.List.{length-append, length-map}
use Rattle.std.proofs.lemmas.List.Elements.{All-nil, All-cons, All-head, All-tail, filter-append}
use Rattle.std.proofs.lemmas.List.Sums.{length-filter}
use Rattle.tp_machine.specs.declared.machine.Machine.{Machine}
use Rattle.tp_schedule.specs.Answers.{KeepsFloors, KeepsHorizon}
use Rattle.tp_schedule.specs.Holders.{Run, runs, runs_of, held, hold_of, holds_at, IsHeldIn}
use Rattle.tp_schedule.specs.Legality.{IsLegal, EndsBefore}
use Rattle.tp_schedule.specs.LivePlans.{is_live, live_count}
use Rattle.tp_schedule.specs.PlannerAnswers.{none_exempt}
use Rattle.tp_schedule.specs.Plans.{IsTimedPlan, IsEarlier, is_before, is_fixed, is_delivered_to, end_of_plan, point}
use Rattle.tp_schedule.specs.declared.parts.Plan.{Plan}
use Rattle.tp_schedule.proofs.HeldModes.{spread-fewer}
use Rattle.tp_schedule.proofs.Membership.{Contains-cons_cases, Contains-here, Contains-later}
use Rattle.tp_schedule.proofs.Pairs.{AllPairs-nil, AllPairs-cons, AllPairs-head, AllPairs-tail}
use Rattle.tp_stock.specs.Stock.{begins_at}

pub record IsLeft (machine : Machine) (p p' : Plan) : Type 0 where
  pub sheet : p'.sheet ≡ p.sheet
  pub timed : IsTimedPlan machine p → IsTimedPlan machine p'
  pub holds : (resource tick : ℕ) → length (filter (holds_at machine resource tick) (runs_of p')) ≤ length (filter (holds_at machine resource tick) (runs_of p))
  pub runs : (run : Run) → Contains (runs_of p') run → Contains (runs_of p) run
  pub delivered : (tray : ℕ) → IsTrue (is_delivered_to p' tray) → IsTrue (is_delivered_to p tray) × (end_of_plan p' ≡ end_of_plan p)
  pub live : (now : ℕ) → is_live machine now p' ≡ true → is_live machine now p ≡ true
  pub begins : (loc : ℕ) → begins_at machine loc p' ≡ true → begins_at machine loc p ≡ true
  pub unreleased : (i : ℕ) → p'.released ≤ i → i < length p'.acts → (p.released ≤ i) × (i < length p.acts) × (point p' i ≡ point p i)
  pub unfixed : (i : ℕ) → i ≤ length p'.acts → IsFalse (is_fixed p' i) → (i ≤ length p.acts) × IsFalse (is_fixed p i) × (point p' i ≡ point p i)

pub data AreLeft (machine : Machine) : List Plan → List Plan → Type 0 where
  none : AreLeft machine [] []
  gone : (p : Plan) (plans plans' : List Plan) → AreLeft machine plans plans' → AreLeft machine (p ∷ plans) plans'
  more : (p p' : Plan) (plans plans' : List Plan) → IsLeft machine p p' → AreLeft machine plans plans' → AreLeft machine (p ∷ plans) (p' ∷ plans')

pub All-left : (machine : Machine) (P P' : Plan → Type 0) → ((p p' : Plan) → IsLeft machine p p' → P p → P' p')
    → (plans plans' : List Plan) → AreLeft machine plans plans' → All P plans → All P' plans'
All-left machine P P' each _ _ none all = All-nil P'
All-left machine P P' each _ _ (gone p plans plans' rest) all = All-left machine P P' each plans plans' rest (All-tail P p plans all)
All-left machine P P' each _ _ (more p p' plans plans' left rest) all =
    All-cons P' p' plans' (each p p' left (All-head P p plans all)) (All-left machine P P' each plans plans' rest (All-tail P p plans all))

pub AllPairs-left : (machine : Machine) (R R' : Plan → Plan → Type 0)
    → ((p p' q q' : Plan) → IsLeft machine p p' → IsLeft machine q q' → R p q → R' p' q')
    → (plans plans' : List Plan) → AreLeft machine plans plans' → AllPairs R plans → AllPairs R' plans'
AllPairs-left machine R R' each _ _ none pairs = AllPairs-nil R'
AllPairs-left machine R R' each _ _ (gone p plans plans' rest) pairs = AllPairs-left machine R R' each plans plans' rest (AllPairs-tail R p plans pairs)
AllPairs-left machine R R' each _ _ (more p p' plans plans' left rest) pairs =
    AllPairs-cons R' p' plans' (All-left machine (R p) (R' p') (λ q q' left'. each p p' q q' left left') plans plans' rest (AllPairs-head R p plans pairs))
    (AllPairs-left machine R R' each plans plans' rest (AllPairs-tail R p plans pairs))

-- where a plan comes from
pub Contains-left : (machine : Machine) (plans plans' : List Plan) → AreLeft machine plans plans' → (p' : Plan) → Contains plans' p' → (p : Plan) × Contains plans p × IsLeft machine p p'
Contains-left machine _ _ none p' in' = absurd (omega (arith, in'.1))
Contains-left machine _ _ (gone p plans plans' rest) p' in' =
    let from = Contains-left machine plans plans' rest p' in' in (from.0, Contains-later p plans from.0 from.1, from.2)
Contains-left machine _ _ (more p q plans plans' left rest) p' in' = elim (Contains-cons_cases q plans' p' in') [
  | inl same ↦ (p, Contains-here p plans, subst (IsLeft machine p) same left)
  | inr later ↦ let from = Contains-left machine plans plans' rest p' later in (from.0, Contains-later p plans from.0 from.1, from.2)
]

runs-left : (machine : Machine) (resource tick : ℕ) (plans plans' : List Plan) → AreLeft machine plans plans'
    → length (filter (holds_at machine resource tick) (runs plans')) ≤ length (filter (holds_at machine resource tick) (runs plans))
runs-left machine resource tick _ _ none = omega arith
runs-left machine resource tick _ _ (gone p plans plans' rest) =
    let fewer = runs-left machine resource tick plans plans' rest in
    rw (filter-append (holds_at machine resource tick) (runs_of p) (runs plans), length-append (filter (holds_at machine resource tick) (runs_of p)) (filter (holds_at machine resource tick) (runs plans)))
    (omega arith)
runs-left machine resource tick _ _ (more p p' plans plans' left rest) =
    let fewer = runs-left machine resource tick plans plans' rest in
    let one = left.holds resource tick in
    rw (
      filter-append (holds_at machine resource tick) (runs_of p) (runs plans),
      filter-append (holds_at machine resource tick) (runs_of p') (runs plans'),
      length-append (filter (holds_at machine resource tick) (runs_of p)) (filter (holds_at machine resource tick) (runs plans)),
      length-append (filter (holds_at machine resource tick) (runs_of p')) (filter (holds_at machine resource tick) (runs plans')),
    )
    (omega arith)

held-left : (machine : Machine) (plans plans' : List Plan) → AreLeft machine plans plans' → (resource tick mode : ℕ) → IsHeldIn machine plans' resource tick mode → IsHeldIn machine plans resource tick mode
held-left machine plans plans' left resource tick mode h =
    let from = Contains-left machine plans plans' left h.plan h.planned in
    record { plan = from.0; planned = from.1; run = h.run; runs = from.2.runs h.run h.runs; hold = h.hold; holds = h.holds; covers = h.covers; mode_is = h.mode_is }

earlier-left : (machine : Machine) (p p' q q' : Plan) → IsLeft machine p p' → IsLeft machine q q' → IsEarlier p q → IsEarlier p' q'
earlier-left machine p p' q q' left left' before =
    subst (λ s. IsTrue (is_before s q'.sheet)) (sym left.sheet) (subst (λ s. IsTrue (is_before p.sheet s)) (sym left'.sheet) before)

ends-left : (machine : Machine) (p p' q q' : Plan) → IsLeft machine p p' → IsLeft machine q q' → EndsBefore p q → EndsBefore p' q'
ends-left machine p p' q q' left left' before tray to to' =
    let one = left.delivered tray to in
    let other = left'.delivered tray to' in
    let first : end_of_plan p < end_of_plan q = before tray one.0 other.0 in
    let e : end_of_plan p' ≡ end_of_plan p = one.1 in
    let f : end_of_plan q' ≡ end_of_plan q = other.1 in
    omega arith

pub IsLegal-left : (machine : Machine) (plans plans' : List Plan) → AreLeft machine plans plans' → IsLegal machine plans → IsLegal machine plans'
IsLegal-left machine plans plans' left legal = record {
  in_order = AllPairs-left machine IsEarlier IsEarlier (earlier-left machine) plans plans' left legal.in_order;
  timed = All-left machine (IsTimedPlan machine) (IsTimedPlan machine) (λ p p' l. l.timed) plans plans' left legal.timed;
  single = λ resource tick.
      rw (length-map (filter (holds_at machine resource tick) (runs plans')) hold_of)
      (let once : length (held machine plans resource tick) ≤ 1 = legal.single resource tick in
      let counted = length-map (filter (holds_at machine resource tick) (runs plans)) hold_of in
      let fewer = runs-left machine resource tick plans plans' left in omega arith);
  spread = λ resource tick. spread-fewer machine plans plans' resource tick (λ t mode h. held-left machine plans plans' left resource t mode h) (legal.spread resource tick);
  rise = AllPairs-left machine EndsBefore EndsBefore (ends-left machine) plans plans' left legal.rise;
}

pub KeepsFloors-left : (machine : Machine) (now : ℕ) (plans plans' : List Plan) → AreLeft machine plans plans' → KeepsFloors machine now none_exempt plans → KeepsFloors machine now none_exempt plans'
KeepsFloors-left machine now plans plans' left floors p' in' not_exempt i released within =
    let from = Contains-left machine plans plans' left p' in' in
    let at = from.2.unreleased i released within in
    let above : now + machine.lead < point from.0 i = floors from.0 from.1 refl i at.0 at.1 in
    let same : point p' i ≡ point from.0 i = at.2 in
    omega arith

pub KeepsHorizon-left : (machine : Machine) (now : ℕ) (plans plans' : List Plan) → AreLeft machine plans plans' → KeepsHorizon machine now plans → KeepsHorizon machine now plans'
KeepsHorizon-left machine now plans plans' left horizon p' in' i within not_fixed =
    let from = Contains-left machine plans plans' left p' in' in
    let at = from.2.unfixed i within not_fixed in
    let below : point from.0 i ≤ now + machine.window = horizon from.0 from.1 i at.0 at.1 in
    let same : point p' i ≡ point from.0 i = at.2 in
    omega arith

-- a plan of which all is left
pub IsLeft-refl : (machine : Machine) (p : Plan) → IsLeft machine p p
IsLeft-refl machine p = record {
  sheet = refl;
  timed = λ t. t;
  holds = λ resource tick. omega arith;
  runs = λ run in'. in';
  delivered = λ tray to. (to, refl);
  live = λ now e. e;
  begins = λ loc e. e;
  unreleased = λ i released within. (released, within, refl);
  unfixed = λ i within not_fixed. (within, not_fixed, refl);
}

pub AreLeft-refl : (machine : Machine) (plans : List Plan) → AreLeft machine plans plans
AreLeft-refl machine [] = none
AreLeft-refl machine (p ∷ plans) = more p p plans plans (IsLeft-refl machine p) (AreLeft-refl machine plans)

-- what is left of what is left
pub IsLeft-trans : (machine : Machine) (p q r : Plan) → IsLeft machine p q → IsLeft machine q r → IsLeft machine p r
IsLeft-trans machine p q r left left' = record {
  sheet = left'.sheet ∙ left.sheet;
  timed = λ timed. left'.timed (left.timed timed);
  holds = λ resource tick. let one = left.holds resource tick in let other = left'.holds resource tick in omega arith;
  runs = λ run in'. left.runs run (left'.runs run in');
  delivered = λ tray to. let one = left'.delivered tray to in let other = left.delivered tray one.0 in (other.0, one.1 ∙ other.1);
  live = λ now e. left.live now (left'.live now e);
  begins = λ loc e. left.begins loc (left'.begins loc e);
  unreleased = λ i released within. let one = left'.unreleased i released within in let other = left.unreleased i one.0 one.1 in (other.0, other.1, one.2 ∙ other.2);
  unfixed = λ i within not_fixed. let one = left'.unfixed i within not_fixed in let other = left.unfixed i one.0 one.1 in (other.0, other.1, one.2 ∙ other.2);
}

pub AreLeft-trans : (machine : Machine) (ps qs rs : List Plan) → AreLeft machine ps qs → AreLeft machine qs rs → AreLeft machine ps rs
AreLeft-trans machine _ _ rs none left = left
AreLeft-trans machine _ _ rs (gone p ps qs rest) left = gone p ps rs (AreLeft-trans machine ps qs rs rest left)
AreLeft-trans machine _ _ _ (more p q ps qs one rest) (gone _ _ rs rest') = gone p ps rs (AreLeft-trans machine ps qs rs rest rest')
AreLeft-trans machine _ _ _ (more p q ps qs one rest) (more _ r _ rs other rest') = more p r ps rs (IsLeft-trans machine p q r one other) (AreLeft-trans machine ps qs rs rest rest')

-- no more are live
pub live_count-left : (machine : Machine) (now : ℕ) (plans plans' : List Plan) → AreLeft machine plans plans' → live_count machine now plans' ≤ live_count machine now plans
live_count-left machine now plans plans' left =
    let fewer = filtered plans plans' left in
    let one = length-filter (is_live machine now) plans in
    let other = length-filter (is_live machine now) plans' in
    omega arith where
      filtered : (plans plans' : List Plan) → AreLeft machine plans plans' → length (filter (is_live machine now) plans') ≤ length (filter (is_live machine now) plans)
      filtered _ _ none = omega arith
      filtered _ _ (gone p plans plans' rest) = go (is_live machine now p) (filtered plans plans' rest) where
        go : (b : Bool) → length (filter (is_live machine now) plans') ≤ length (filter (is_live machine now) plans)
            → length (filter (is_live machine now) plans') ≤ length (cond b (p ∷ filter (is_live machine now) plans) (filter (is_live machine now) plans))
        go true few = omega arith
        go false few = few
      filtered _ _ (more p p' plans plans' one rest) = go (is_live machine now p') refl (is_live machine now p) refl (filtered plans plans' rest) where
        go : (b : Bool) → is_live machine now p' ≡ b → (c : Bool) → is_live machine now p ≡ c → length (filter (is_live machine now) plans') ≤ length (filter (is_live machine now) plans)
            → length (cond b (p' ∷ filter (is_live machine now) plans') (filter (is_live machine now) plans')) ≤ length (cond c (p ∷ filter (is_live machine now) plans) (filter (is_live machine now) plans))
        go true e true f few = omega arith
        go true e false f few = absurd (let live = one.live now e in cc)
        go false e true f few = omega arith
        go false e false f few = few
