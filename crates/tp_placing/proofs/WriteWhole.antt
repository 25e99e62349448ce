-- An answer on the live part, joined with the plans that are not live, may forget them as before.
use Rattle.std.proofs.Common.{◌≡◌, ℕ, ◌<◌, ◌≤◌, Bool, true, false, cond, not, ◌||◌, ◌&&◌, List, [], ◌∷◌, length, filter, refl, ap, sym, ◌∙◌, subst, arith, Some, Contains, inl, inr}
use Rattle.std.specs.Prelude.{nat_lt}
use Rattle.std.proofs.lemmas.List.Elements.{All-contains}
use Rattle.std.proofs.lemmas.Option.{same_Some}
use Rattle.tp_machine.specs.declared.machine.Machine.{Machine}
use Rattle.tp_schedule.specs.Answers.{IsAlternative, IsAskedFrom, follows_front, kept_from, kept_of}
use Rattle.tp_schedule.specs.LivePlans.{is_live}
use Rattle.tp_schedule.specs.PlannerAnswers.{CanPlanOn, HasTimeFrom}
use Rattle.tp_schedule.specs.Plans.{IsTimedPlan, is_same_copy, plan_of, point}
use Rattle.tp_schedule.specs.declared.parts.Ask.{Ask}
use Rattle.tp_schedule.specs.declared.parts.Origin.{Origin}
use Rattle.tp_schedule.specs.declared.parts.Origin.TheVariants.{Feeder as FromFeeder, Front as FromFront}
use Rattle.tp_schedule.specs.declared.parts.Plan.{Plan}
use Rattle.tp_schedule.specs.declared.parts.SheetId.{SheetId}
use Rattle.tp_schedule.proofs.CopyFacts.{plan_of-itself, same_copy-is, same_copy-refl}
use Rattle.tp_schedule.proofs.Membership.{Contains-cons_cases, Contains-filter, Contains-filter_from, Contains-here, Contains-later}
use Rattle.tp_choices.proofs.PlansOf.{plan_of-contains}
use Rattle.tp_choices.proofs.PointFacts.{point-le}
use Rattle.tp_choices.specs.LiveParts.{IsJoined, MayForget, less, only}
use Rattle.tp_placing.specs.Commits.{CanPut, is_loaded}
use Rattle.tp_placing.proofs.WriteLive.{gone, gone-of, may-forget}
use Rattle.tp_placing.proofs.WritePlans.{or-true}

both : (a b : Bool) → (a && b) ≡ true → (a ≡ true) × (b ≡ true)
both true b e = (refl, e)
both false b e = absurd cc

-- filters by tests that agree on the elements
pub filter-agree : {X : Type 0} (f g : X → Bool) (xs : List X) → ((x : X) → Contains xs x → f x ≡ g x) → filter f xs ≡ filter g xs
filter-agree f g [] same = refl
filter-agree {X} f g (x ∷ xs) same =
    let one = same x (Contains-here x xs) in
    let rest = filter-agree f g xs (λ y in'. same y (Contains-later x xs y in')) in
    λ i. cond (one i) (x ∷ rest i) (rest i)

-- what is loaded has its copy among the loaded, and the reverse
pub loaded-here : (live : List Plan) (p : Plan) → Contains live p → is_loaded live p.sheet ≡ true
loaded-here [] p in' = absurd (let w = in'.1 in omega arith)
loaded-here (q ∷ live) p in' = elim (Contains-cons_cases q live p in') [
  | inl is ↦ ap (λ (r : Plan). is_same_copy r.sheet p.sheet || is_loaded live p.sheet) is ∙ ap (λ b. b || is_loaded live p.sheet) (same_copy-refl p.sheet)
  | inr later ↦ ap (λ b. is_same_copy q.sheet p.sheet || b) (loaded-here live p later) ∙ or-true (is_same_copy q.sheet p.sheet)
]

loaded-from : (live : List Plan) (copy : SheetId) → is_loaded live copy ≡ true → (q : Plan) × Contains live q × (is_same_copy q.sheet copy ≡ true)
loaded-from [] copy e = absurd cc
loaded-from (q ∷ live) copy e = go (is_same_copy q.sheet copy) refl e (loaded-from live copy) where
  go : (b : Bool) → is_same_copy q.sheet copy ≡ b → (b || is_loaded live copy) ≡ true → (is_loaded live copy ≡ true → (r : Plan) × Contains live r × (is_same_copy r.sheet copy ≡ true)) → (r : Plan) × Contains (q ∷ live) r × (is_same_copy r.sheet copy ≡ true)
  go true s e' rest = (q, Contains-here q live, s)
  go false s e' rest = let r = rest e' in (r.0, Contains-later q live r.0 r.1, r.2)

module _ (machine : Machine) (plans : List Plan) (now : ℕ) (can : CanPlanOn machine now plans) where
  -- the live part is what was loaded
  pub less-live : less (gone machine plans now can) plans ≡ filter (is_live machine now) plans
  less-live = filter-agree (λ p. not (gone machine plans now can p.sheet)) (is_live machine now) plans (λ p in'. ap not (gone-of machine plans now can p in') ∙ twice (is_live machine now p)) where
    twice : (b : Bool) → not (not b) ≡ b
    twice true = refl
    twice false = refl

  pub loaded-is : (p : Plan) → Contains plans p → is_live machine now p ≡ false → is_loaded (filter (is_live machine now) plans) p.sheet ≡ false
  loaded-is p in' dead = go (is_loaded (filter (is_live machine now) plans) p.sheet) refl where
    go : (b : Bool) → is_loaded (filter (is_live machine now) plans) p.sheet ≡ b → b ≡ false
    go false e = refl
    go true e =
        let q = loaded-from (filter (is_live machine now) plans) p.sheet e in
        let from = Contains-filter_from (is_live machine now) plans q.0 q.1 in
        let sheet = same_copy-is q.0.sheet p.sheet q.2 in
        let is : q.0 ≡ p = same_Some q.0 p (sym (plan_of-itself plans q.0 can.legal.in_order from.0) ∙ ap (λ c. plan_of c plans) sheet ∙ plan_of-itself plans p can.legal.in_order in') in
        let alive : is_live machine now p ≡ true = ap (is_live machine now) (sym is) ∙ from.1 in
        cc

module _ (machine : Machine) (plans : List Plan) (ask : Ask) (can : CanPut machine plans ask) where
  -- the new schedule's unreleased starts are above the moment
  still-ahead : (new : List Plan) (b : IsAlternative machine plans ask new) (p : Plan) → Contains new p → (i : ℕ) → p.released ≤ i → i < length p.acts → ask.now < point p i
  still-ahead new b p in' i le within = by (follows_front ask p) refl where
    front-ahead : (o : Origin) → ask.origin ≡ o → IsAskedFrom machine plans ask o → HasTimeFrom plans ask.now o → (is_same_copy p.sheet ask.sheet ≡ true) × (nat_lt 0 (kept_of ask) ≡ true) → ask.now < point p i
    front-ahead FromFeeder e none time follows = absurd (let kept : kept_of ask ≡ 0 = ap kept_from e in let bad : nat_lt 0 0 ≡ true = subst (λ k. nat_lt 0 k ≡ true) kept follows.1 in cc)
    front-ahead (FromFront state end count) e (q, planned, front) time follows =
        let kept-is : kept_of ask ≡ count = ap kept_from e in
        let sheet = same_copy-is p.sheet ask.sheet follows.0 in
        let found : plan_of ask.sheet new ≡ Some p = ap (λ c. plan_of c new) (sym sheet) ∙ plan_of-itself new p b.legal.in_order in' in
        let is : p ≡ b.plan = same_Some p b.plan (sym found ∙ b.planned) in
        let released : p.released ≡ count = ap (λ (r : Plan). r.released) is ∙ b.answers.released ∙ kept-is in
        let in-plans = plan_of-contains ask.sheet plans q planned in
        let same = same_copy-is q.sheet ask.sheet in-plans.1 in
        let stands : point p count ≡ point q count = b.fixed q p in-plans.0 (ap (λ c. plan_of c new) same ∙ found) count (rw front.front refl) (let a = front.acts in omega arith) in
        let ends : point q count ≡ end = ap (point q) (sym front.acts) ∙ front.ends in
        let rises = point-le machine p (All-contains (IsTimedPlan machine) new p b.legal.timed in') count i (omega arith) (omega arith) in
        omega arith

    by : (c : Bool) → follows_front ask p ≡ c → ask.now < point p i
    by false e = let f = b.floors p in' e i le within in omega arith
    by true e = front-ahead ask.origin refl can.asked can.has_time (both (is_same_copy p.sheet ask.sheet) (nat_lt 0 (kept_of ask)) e)

  pub forget-new : (live new : List Plan) → IsJoined (gone machine plans ask.now can.plan_on) plans live new → IsAlternative machine plans ask new → MayForget machine ask.now new (gone machine plans ask.now can.plan_on)
  forget-new live new joined b = record {
    legal = b.legal;
    past = λ p in' is.
        let here : Contains (only (gone machine plans ask.now can.plan_on) plans) p = subst (λ ps. Contains ps p) joined.past_part (Contains-filter (λ q. gone machine plans ask.now can.plan_on q.sheet) new p in' is) in
        (may-forget machine plans ask.now can.plan_on).past p (Contains-filter_from (λ q. gone machine plans ask.now can.plan_on q.sheet) plans p here).0 is;
    ahead = still-ahead new b;
  }
