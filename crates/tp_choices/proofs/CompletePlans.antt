-- A complete list with its ticks makes a plan: its actions follow the kept ones, its points rise and keep the durations.
use Rattle.std.proofs.Common.{◌≡◌, inl, inr, ℕ, zero, suc, ◌+◌, ◌≤◌, ◌<◌, true, List, [], ◌∷◌, ◌++◌, length, refl, ap, sym, arith, ◌∙◌, subst, Option, Some, None, slice_get, IsSomeAnd, IsTrue, add-one}
use Rattle.std.proofs.lemmas.Option.{slice_get_within}
use Rattle.std.proofs.lemmas.Bool.{cases_lt}
use Rattle.tp_choices.proofs.ShorterLists.{LastsWithin-least}
use Rattle.tp_schedule.proofs.Walks.{walk_first}
use Rattle.tp_machine.specs.Machines.{IsMachine}
use Rattle.tp_machine.specs.ModuleUse.{action_at}
use Rattle.tp_schedule.proofs.CopyFacts.{same_copy-is}
use Rattle.tp_schedule.proofs.TickLists.{length-ticks_from, ticks_from-at}
use Rattle.tp_schedule.specs.Answers.{kept_of, kept_from, kept_acts, acts_in, IsAsked, IsAskedFrom}
use Rattle.tp_schedule.specs.Choices.{Choice, ChoiceList, acts_of, HasTimes, IsChoiceList, IsComplete, IsCompleteFrom, CanStop, ChoicesLast, start_floor}
use Rattle.tp_schedule.specs.Plans.{plan_of, IsTimedPlan, LastsWithin, point, is_front, EndsIn}
use Rattle.tp_schedule.specs.Routes.{walk, IsStartFrom, IsFreshStart, Reaches}
use Rattle.tp_schedule.specs.Spots.{Ticks}
use Rattle.tp_schedule.specs.Times.{at, timed_by}
use Rattle.tp_machine.specs.declared.parts.ActId.{ActId}
use Rattle.tp_machine.specs.declared.parts.Action.{Action}
use Rattle.tp_machine.specs.declared.parts.Sheet.{Sheet}
use Rattle.tp_machine.specs.declared.parts.State.{State}
use Rattle.tp_machine.specs.declared.machine.Machine.{Machine}
use Rattle.tp_schedule.specs.declared.parts.Ask.{Ask}
use Rattle.tp_schedule.specs.declared.parts.Origin.{Origin}
use Rattle.tp_schedule.specs.declared.parts.Origin.TheVariants.{Feeder as FromFeeder, Front as FromFront}
use Rattle.tp_schedule.specs.declared.parts.Plan.{Plan}
use Rattle.tp_schedule.specs.Spots.Spot.{kept, own}
use Rattle.tp_choices.proofs.PlansOf.{plan_of-contains}

pub walk-append : (machine : Machine) (sheet : Sheet) (xs ys : List ActId) (s s' g : State) → walk machine sheet xs s ≡ Some s' → walk machine sheet ys s' ≡ Some g → walk machine sheet (xs ++ ys) s ≡ Some g
walk-append machine sheet [] ys s s' g e f = let same : s ≡ s' = cc in subst (λ r. walk machine sheet ys r ≡ Some g) (sym same) f
walk-append machine sheet (x ∷ xs) ys s s' g e f =
    let first = walk_first machine sheet x xs s s' e in
    rw first.1 (walk-append machine sheet xs ys first.0 s' g first.2 f)

-- the choices' ticks, by the number of choices behind
pub ChoicesLast-at : (machine : Machine) (t : Ticks) (choices : List Choice) (j k m : ℕ) (act : ActId) → ChoicesLast machine t choices → slice_get (acts_of choices) j ≡ Some act → k + j ≡ length choices → suc m ≡ k → LastsWithin machine act (t (own k)) (t (own m))
ChoicesLast-at machine t [] j k m act last e is next = absurd (cc)
ChoicesLast-at machine t (c ∷ choices) zero k m act last e is next =
    let same : c.act ≡ act = cc in
    let first : k ≡ suc (length choices) = omega arith in
    let second : m ≡ length choices = omega arith in
    subst (λ a. LastsWithin machine a (t (own k)) (t (own m))) same (rw (first, second) last.0)
ChoicesLast-at machine t (c ∷ choices) (suc j) k m act last e is next = ChoicesLast-at machine t choices j k m act last.1 e (omega arith) next

pub ChoicesLast-rise : (machine : Machine) (t : Ticks) (choices : List Choice) → ChoicesLast machine t choices → (n : ℕ) → n ≤ length choices → (t (own (length choices)) ≤ t (own n)) × (t (own n) ≤ t (own 0))
ChoicesLast-rise machine t [] last n le = let zero-n : n ≡ 0 = omega arith in rw zero-n (omega arith, omega arith)
ChoicesLast-rise machine t (c ∷ choices) last n le =
    let one = LastsWithin-least machine c.act (t (own (suc (length choices)))) (t (own (length choices))) last.0 in
    let end = ChoicesLast-rise machine t choices last.1 (length choices) (omega arith) in
    go n le (omega arith) end.1 (ChoicesLast-rise machine t choices last.1) where
      go : (m : ℕ) → m ≤ suc (length choices) → t (own (suc (length choices))) ≤ t (own (length choices)) → t (own (length choices)) ≤ t (own 0) → ((k : ℕ) → k ≤ length choices → (t (own (length choices)) ≤ t (own k)) × (t (own k) ≤ t (own 0)))
          → (t (own (suc (length choices))) ≤ t (own m)) × (t (own m) ≤ t (own 0))
      go m le' one end rest = elim (cases_lt m (suc (length choices))) [
        | inl below ↦ let r = rest m (omega arith) in (omega (arith, r.0, one), r.1)
        | inr above ↦ let same : m ≡ suc (length choices) = omega arith in rw same (omega arith, omega arith)
      ]

-- the kept actions of the asked copy, and how its choices follow them
pub record IsPrefix (machine : Machine) (plans : List Plan) (ask : Ask) (goal : State) (choices : List Choice) (t : Ticks) : Type 0 where
  pub count : length (kept_acts ask.sheet plans) ≡ kept_of ask
  pub lasts : (i : ℕ) (act : ActId) → slice_get (kept_acts ask.sheet plans) i ≡ Some act → LastsWithin machine act (t (kept ask.sheet i)) (t (kept ask.sheet (suc i)))
  pub joins : 0 < kept_of ask → t (own (length choices)) ≡ t (kept ask.sheet (kept_of ask))
  pub floor : kept_of ask ≡ 0 → ask.now + machine.lead < t (own (length choices))
  pub fixed : (p : Plan) → plan_of ask.sheet plans ≡ Some p → (i : ℕ) → i ≤ length p.acts → (t (kept ask.sheet i) ≡ point p i) × (0 < kept_of ask) × (i ≤ kept_of ask)
  pub start : State
  pub starts : IsFreshStart machine ask.want start
  pub leads : walk machine ask.want (kept_acts ask.sheet plans ++ acts_of choices) start ≡ Some goal
  pub reaches : Reaches machine ask (acts_of choices) goal

pub prefix_of : (machine : Machine) (plans : List Plan) (ask : Ask) (list : ChoiceList) (room : ℕ) (t : Ticks) → IsAsked machine plans ask → IsChoiceList machine plans ask list → IsComplete machine ask list → HasTimes machine plans ask list room t → IsPrefix machine plans ask list.goal list.choices t
prefix_of machine plans ask list room t asked is_list complete times = go ask.origin refl asked complete (λ stop. is_list.can_stop stop) times.first times.stopped where
  go : (o : Origin) → ask.origin ≡ o → IsAskedFrom machine plans ask o → IsCompleteFrom machine ask list o → (IsTrue list.stopped → CanStop machine ask list o)
      → start_floor machine ask.now o + room ≤ t (own (length list.choices)) → (IsTrue list.stopped → t (own (length list.choices)) ≡ start_floor machine ask.now o)
      → IsPrefix machine plans ask list.goal list.choices t
  go FromFeeder e none done can first stops = record {
    count = rw (e, none) refl;
    lasts = λ i act at'. let bad : slice_get (acts_in None) i ≡ Some act = rw none at at' in absurd (cc);
    joins = λ some. absurd (let zero-kept = ap kept_from e in omega (arith, zero-kept));
    floor = λ _. omega arith;
    fixed = λ p is. absurd (let bad = is in cc);
    start = done.0;
    starts = (subst (λ o. IsStartFrom machine ask o done.0) e done.2).0;
    leads = rw none done.1;
    reaches = record { start = done.0; starts = done.2; leads = done.1 };
  }
  go (FromFront state end count) e (p, is, front) stop can first stops =
      let in' = plan_of-contains ask.sheet plans p is in
      let same : p.sheet ≡ ask.sheet = same_copy-is p.sheet ask.sheet in'.1 in
      let kept-is : kept_of ask ≡ count = ap kept_from e in
      let acts-is : kept_acts ask.sheet plans ≡ p.acts = ap acts_in is in
      let is_front : is_front p.kind ≡ true = rw front.front refl in
      let fixed : (i : ℕ) → i ≤ length p.acts → t (kept ask.sheet i) ≡ point p i = λ i le. subst (λ c. t (kept c i) ≡ point p i) same (times.keeps.fixed p in'.0 i (rw is_front refl) le) in
      record {
        count = ap length acts-is ∙ front.acts ∙ sym kept-is;
        lasts = λ i act at'. subst (λ c. LastsWithin machine act (t (kept c i)) (t (kept c (suc i)))) same (times.keeps.lasts p in'.0 i act (rw acts-is at at'));
        joins = λ some. stops stop ∙ sym front.ends ∙ ap (point p) (front.acts ∙ sym kept-is) ∙ sym (fixed (kept_of ask) (omega (arith, kept-is, front.acts)));
        floor = λ none. absurd (omega (arith, kept-is, front.some));
        fixed = λ q is-q i le. let q-is : p ≡ q = let one = is in let other = is-q in cc in
            (subst (λ r. t (kept ask.sheet i) ≡ point r i) q-is (fixed i (subst (λ r. i ≤ length r.acts) (sym q-is) le)), omega (arith, kept-is, front.some), (let le' : i ≤ length p.acts = subst (λ r. i ≤ length r.acts) (sym q-is) le in omega (arith, kept-is, front.acts)));
        start = front.start;
        starts = front.starts;
        leads = rw acts-is (walk-append machine ask.want p.acts (acts_of list.choices) front.start state list.goal front.leads (can stop).1);
        reaches = record { start = state; starts = subst (λ o. IsStartFrom machine ask o state) (sym e) refl; leads = (can stop).1 };
      }

none-past : {X : Type 0} (xs : List X) (i : ℕ) → i < length xs → slice_get xs i ≡ None → ⊥
none-past [] i within e = omega arith
none-past (x ∷ xs) zero within e = cc
none-past (x ∷ xs) (suc i) within e = none-past xs i (omega arith) e

-- a plan that these ticks keep within its durations, with these ticks
pub IsTimedPlan-timed_by : (machine : Machine) (rules : IsMachine machine) (t : Ticks) (p : Plan) (start end : State) → 0 < length p.acts → length p.acts ≤ 64 → p.released ≤ length p.acts
    → IsFreshStart machine p.want start → walk machine p.want p.acts start ≡ Some end → EndsIn machine p p.kind end
    → ((i : ℕ) (act : ActId) → slice_get p.acts i ≡ Some act → LastsWithin machine act (at t p i) (at t p (suc i))) → IsTimedPlan machine (timed_by t p)
IsTimedPlan-timed_by machine rules t p start end some at_most released starts leads ends lasts = record {
  some = some;
  at_most = at_most;
  one_more = length-ticks_from (at t p) 0 (suc (length p.acts)) ∙ sym (add-one (length p.acts));
  released = released;
  start = start;
  starts = starts;
  end = end;
  leads = leads;
  rise = λ i within. rises i within (slice_get p.acts i) refl;
  lasts = λ i act e. let within = slice_get_within p.acts i act e in
      rw (ticks_from-at (at t p) 0 (suc (length p.acts)) i i (omega arith) (omega arith), ticks_from-at (at t p) 0 (suc (length p.acts)) (i + 1) (suc i) (omega arith) (omega arith)) (lasts i act e);
  ends = ends;
} where
  longer : (act : ActId) (a b : ℕ) (o : Option Action) → action_at machine act.0 ≡ o → IsSomeAnd o (λ action. (a + action.least ≤ b) × (b ≤ a + action.most)) → a < b
  longer act a b None e h = absurd h
  longer act a b (Some action) e h = let least = rules.lasts act.0 action e in omega (arith, h.0)

  rises : (i : ℕ) → i < length p.acts → (o : Option ActId) → slice_get p.acts i ≡ o → point (timed_by t p) i < point (timed_by t p) (i + 1)
  rises i within None e = absurd (none-past p.acts i within e)
  rises i within (Some act) e =
      rw (ticks_from-at (at t p) 0 (suc (length p.acts)) i i (omega arith) (omega arith), ticks_from-at (at t p) 0 (suc (length p.acts)) (i + 1) (suc i) (omega arith) (omega arith))
      (longer act (at t p i) (at t p (suc i)) (action_at machine act.0) refl (lasts i act e))

pub point-timed_by : (t : Ticks) (p : Plan) (i : ℕ) → i ≤ length p.acts → point (timed_by t p) i ≡ at t p i
point-timed_by t p i le = ticks_from-at (at t p) 0 (suc (length p.acts)) i i (omega arith) (omega arith)
