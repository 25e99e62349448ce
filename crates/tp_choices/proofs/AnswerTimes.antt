-- An alternative's times, at the old schedule's points and at those of the asked copy's new actions, read backwards.
use Rattle.std.proofs.Common.{◌≡◌, ◌≢◌, ℕ, suc, ◌+◌, ◌-◌, ◌≤◌, ◌<◌, Bool, true, false, not, List, [], ◌∷◌, length, filter, refl, ap, sym, arith, Contains, All, AllPairs, ◌∙◌, subst, Some, slice_get, IsTrue, IsFalse, add-one}
use Rattle.std.proofs.lemmas.List.{length-append}
use Rattle.std.proofs.lemmas.List.Elements.{All-contains}
use Rattle.tp_choices.proofs.Lists.{slice_get-left, slice_get-right}
use Rattle.tp_choices.proofs.OwnPlaces.{LastActs}
use Rattle.tp_choices.proofs.PlansOf.{plan_of-contains}
use Rattle.tp_machine.specs.Machines.{IsMachine}
use Rattle.tp_schedule.proofs.CopyFacts.{plan_of-itself, same_copy-is}
use Rattle.tp_schedule.proofs.Membership.{Contains-filter_from, Contains-filter}
use Rattle.tp_schedule.proofs.Pairs.{AllPairs-each}
use Rattle.tp_schedule.specs.Answers.{unmoved, kept_of, kept_from, kept_acts, KeepsFixed, follows_front, IsAlternative, IsAsked, IsAskedFrom}
use Rattle.tp_schedule.specs.Choices.{start_floor, KeepsLine}
use Rattle.tp_schedule.specs.Completions.{settled}
use Rattle.tp_schedule.specs.Legality.{IsLegal, EndsBefore}
use Rattle.tp_schedule.specs.Plans.{plan_of, without, is_same_copy, is_before, IsTimedPlan, point, end_of_plan, is_fixed, is_delivered_to, goes_to}
use Rattle.tp_schedule.specs.Spots.{Ticks, ticks_of}
use Rattle.tp_schedule.specs.Times.{KeepsTimes, EndsBeforeAt, at}
use Rattle.tp_machine.specs.declared.parts.ActId.{ActId}
use Rattle.tp_machine.specs.declared.machine.Machine.{Machine}
use Rattle.tp_schedule.specs.declared.parts.Ask.{Ask}
use Rattle.tp_schedule.specs.declared.parts.Origin.{Origin}
use Rattle.tp_schedule.specs.declared.parts.Origin.TheVariants.{Feeder as FromFeeder, Front as FromFront}
use Rattle.tp_schedule.specs.declared.parts.Plan.{Plan}
use Rattle.tp_schedule.specs.Spots.Spot.{kept, own}
use Rattle.tp_choices.proofs.AskedFront.{IsKept, fixed_till, LastActs-each, fixed_no_more}
use Rattle.tp_choices.proofs.Unmoved.{ordered_pair, unmoved-found}

module _ (machine : Machine) (plans new : List Plan) (ask : Ask) (rules : IsMachine machine) (legal : IsLegal machine plans) (is_kept : IsKept machine plans ask) (a : IsAlternative machine plans ask new) where
  abbrev pub route : List ActId
  route = a.answers.route

  abbrev pub total : ℕ
  total = kept_of ask + length route

  abbrev pub t'' : Ticks
  t'' = ticks_of new

  abbrev pub t : Ticks
  t s = t'' (settled ask.sheet total s)

  abbrev pub rest : List Plan
  rest = without ask.sheet plans

  -- the asked copy's plan has the kept actions and the route
  pub length-planned : length a.plan.acts ≡ total
  length-planned = ap length a.answers.acts ∙ length-append (kept_acts ask.sheet plans) route ∙ ap (λ n. n + length route) is_kept.count

  -- it is one of the new schedule's plans
  pub in-new : Contains new a.plan × (is_same_copy a.plan.sheet ask.sheet ≡ true)
  in-new = plan_of-contains ask.sheet new a.plan a.planned

  -- and a timed plan
  pub timed : IsTimedPlan machine a.plan
  timed = All-contains (IsTimedPlan machine) new a.plan a.legal.timed in-new.0

  t-asked : (i : ℕ) → t'' (kept ask.sheet i) ≡ point a.plan i
  t-asked i = rw a.planned refl

  -- the ticks of the route are those of the plan's points, from its end on
  pub t-own : (m i : ℕ) → i + m ≡ total → t (own m) ≡ point a.plan i
  t-own m i e = ap (λ k. t'' (kept ask.sheet k)) (let same : total - m ≡ i = omega arith in same) ∙ t-asked i

  -- a plan of the old schedule has one of its copy in the new one, whose actions begin with its own
  record Moved (p p' : Plan) : Type 0 where
    in' : Contains new p'
    sheet : p'.sheet ≡ p.sheet
    ticks : (i : ℕ) → t (kept p.sheet i) ≡ point p' i
    planned : plan_of p.sheet new ≡ Some p'
    acts : (i : ℕ) (act : ActId) → slice_get p.acts i ≡ Some act → slice_get p'.acts i ≡ Some act

  abbrev IsSameAs : Plan → Plan → Type 0
  IsSameAs p p' = Moved p p' × (unmoved p' ≡ unmoved p)

  moved-other : (p : Plan) → Contains plans p → is_same_copy p.sheet ask.sheet ≡ false → (p' : Plan) × IsSameAs p p'
  moved-other p in' e =
      let found = unmoved-found (without ask.sheet new) rest p a.others (Contains-filter (λ r. not (is_same_copy r.sheet ask.sheet)) plans p in' (ap not e)) in
      let p' : Plan = found.0 in
      let in-new' = (Contains-filter_from (λ r. not (is_same_copy r.sheet ask.sheet)) new found.0 found.1).0 in
      let sheet : found.0.sheet ≡ p.sheet = ap (λ (r : Plan). r.sheet) found.2 in
      let planned : plan_of p.sheet new ≡ Some found.0 = subst (λ c. plan_of c new ≡ Some found.0) sheet (plan_of-itself new found.0 a.legal.in_order in-new') in
      let acts : found.0.acts ≡ p.acts = ap (λ (r : Plan). r.acts) found.2 in
      (found.0, (record { in' = in-new'; sheet = sheet; ticks = λ i. rw planned refl; planned = planned; acts = λ i act at'. rw acts at' }, found.2))

  moved-asked : (p : Plan) → Contains plans p → is_same_copy p.sheet ask.sheet ≡ true → Moved p a.plan × (plan_of ask.sheet plans ≡ Some p)
  moved-asked p in' e =
      let same : p.sheet ≡ ask.sheet = same_copy-is p.sheet ask.sheet e in
      let is : plan_of ask.sheet plans ≡ Some p = subst (λ c. plan_of c plans ≡ Some p) same (plan_of-itself plans p legal.in_order in') in
      let planned : plan_of p.sheet new ≡ Some a.plan = subst (λ c. plan_of c new ≡ Some a.plan) (sym same) a.planned in (
        record {
          in' = in-new.0;
          sheet = a.answers.sheet ∙ sym same;
          ticks = λ i. rw planned refl;
          planned = planned;
          acts = λ i act at'. rw a.answers.acts (rw is (slice_get-left p.acts route i act at'));
        },
        is,
      )

  moved : (p : Plan) → Contains plans p → (p' : Plan) × Moved p p'
  moved p in' = go (is_same_copy p.sheet ask.sheet) refl where
    go : (b : Bool) → is_same_copy p.sheet ask.sheet ≡ b → (p' : Plan) × Moved p p'
    go true e = (a.plan, (moved-asked p in' e).0)
    go false e = let m = moved-other p in' e in (m.0, m.1.0)

  -- the ends of the other copies that go to a tray
  record Delivered (p : Plan) (tray : ℕ) : Type 0 where
    plan : Plan
    in' : Contains new plan
    sheet : plan.sheet ≡ p.sheet
    goes : IsTrue (is_delivered_to plan tray)
    end : at t p (length p.acts) ≡ end_of_plan plan

  delivered : (p : Plan) → Contains plans p → (tray : ℕ) → IsTrue (is_delivered_to p tray) → Delivered p tray
  delivered p in' tray goes = go (is_same_copy p.sheet ask.sheet) refl where
    go : (b : Bool) → is_same_copy p.sheet ask.sheet ≡ b → Delivered p tray
    go true e = let m = moved-asked p in' e in let front = is_kept.front p m.1 in absurd (let no = rw front.0 at goes in cc)
    go false e =
        let m = moved-other p in' e in
        let acts : m.0.acts ≡ p.acts = ap (λ (r : Plan). r.acts) m.1.1 in
        record {
          plan = m.0;
          in' = m.1.0.in';
          sheet = m.1.0.sheet;
          goes = subst (λ (r : Plan). is_delivered_to r tray ≡ true) (sym m.1.1) goes;
          end = m.1.0.ticks (length p.acts) ∙ ap (λ xs. point m.0 (length xs)) (sym acts);
        }

  keeps-rise : AllPairs (EndsBeforeAt t) plans
  keeps-rise = AllPairs-each (λ p q. IsTrue (is_before p.sheet q.sheet)) (EndsBeforeAt t) plans legal.in_order (λ p q in-p in-q before tray to-p to-q.
      let d = delivered p in-p tray to-p in
      let e = delivered q in-q tray to-q in
      rw (d.end, e.end) (ordered_pair EndsBefore new d.plan e.plan a.legal.in_order a.legal.rise d.in' e.in' (rw (d.sheet, e.sheet) before) tray d.goes e.goes))

  -- the old schedule's times are kept
  pub keeps : KeepsTimes machine ask.now (λ _. false) plans t
  keeps = record {
    lasts = λ p in' i act e.
        let m = moved p in' in
        let old = All-contains (IsTimedPlan machine) new m.0 a.legal.timed m.1.in' in
        rw (m.1.ticks i, m.1.ticks (suc i), ← add-one) (old.lasts i act (m.1.acts i act e));
    fixed = λ p in' i fixed le. let m = moved p in' in m.1.ticks i ∙ a.fixed p m.0 in' m.1.planned i fixed le;
    floors = λ p in' _ i unreleased within. floor p in' i unreleased within (is_same_copy p.sheet ask.sheet) refl;
    horizon = λ p in' i le free. cap p in' i le free (is_same_copy p.sheet ask.sheet) refl;
    rise = keeps-rise;
  } where
    floor : (p : Plan) → Contains plans p → (i : ℕ) → p.released ≤ i → i < length p.acts → (b : Bool) → is_same_copy p.sheet ask.sheet ≡ b → ask.now + machine.lead < at t p i
    floor p in' i unreleased within true e = let m = moved-asked p in' e in let front = is_kept.front p m.1 in absurd (omega (arith, front.1, front.2))
    floor p in' i unreleased within false e =
        let m = moved-other p in' e in
        let exempt : follows_front ask m.0 ≡ false = rw m.1.0.sheet (rw e refl) in
        let released : m.0.released ≡ p.released = ap (λ (r : Plan). r.released) m.1.1 in
        let acts : m.0.acts ≡ p.acts = ap (λ (r : Plan). r.acts) m.1.1 in
        rw (m.1.0.ticks i) (a.floors m.0 m.1.0.in' exempt i (omega (arith, released)) (omega (arith, ap length acts)))

    cap : (p : Plan) → Contains plans p → (i : ℕ) → i ≤ length p.acts → IsFalse (is_fixed p i) → (b : Bool) → is_same_copy p.sheet ask.sheet ≡ b → at t p i ≤ ask.now + machine.window
    cap p in' i le free true e = let m = moved-asked p in' e in let front = is_kept.front p m.1 in absurd (let no = rw front.0 at free in cc)
    cap p in' i le free false e =
        let m = moved-other p in' e in
        let acts : m.0.acts ≡ p.acts = ap (λ (r : Plan). r.acts) m.1.1 in
        let free' : is_fixed m.0 i ≡ false = subst (λ (r : Plan). is_fixed r i ≡ false) (sym m.1.1) free in
        rw (m.1.0.ticks i) (a.horizon m.0 m.1.0.in' i (omega (arith, ap length acts)) free')

  asked-goes : (tray : ℕ) → IsTrue (goes_to ask.goal tray) → IsTrue (is_delivered_to a.plan tray)
  asked-goes tray goes = rw (a.answers.whole, a.answers.goal) goes

  -- the list ends with the plan
  pub asked-end : t (own 0) ≡ end_of_plan a.plan
  asked-end = t-own 0 total (omega arith) ∙ ap (point a.plan) (sym length-planned)

  -- the copy's end stands between the ends of its line
  pub keeps-line : KeepsLine ask plans t (t (own 0))
  keeps-line p in' tray goes to-p =
      let d = delivered p in' tray to-p in (
        λ before. rw (d.end, asked-end) (ordered_pair EndsBefore new d.plan a.plan a.legal.in_order a.legal.rise d.in' in-new.0 (rw (d.sheet, a.answers.sheet) before) tray d.goes (asked-goes tray goes)),
        λ after. rw (d.end, asked-end) (ordered_pair EndsBefore new a.plan d.plan a.legal.in_order a.legal.rise in-new.0 d.in' (rw (d.sheet, a.answers.sheet) after) tray (asked-goes tray goes) d.goes),
      )

  -- the route's actions last as they may
  pub lasts-acts : LastActs machine t route
  lasts-acts = LastActs-each machine t route (λ i m act e is.
      let here : (kept_of ask + i) + suc m ≡ total = omega arith in
      let at' : slice_get a.plan.acts (kept_of ask + i) ≡ Some act = rw a.answers.acts (slice_get-right (kept_acts ask.sheet plans) route (kept_of ask + i) i act (omega (arith, is_kept.count)) e) in
      rw (t-own (suc m) (kept_of ask + i) here, t-own m (kept_of ask + i + 1) (omega arith)) (timed.lasts (kept_of ask + i) act at'))

  -- the route has an action
  pub some-route : 0 < length route
  some-route = go route a.answers.is_route.some where
    go : (acts : List ActId) → acts ≢ [] → 0 < length acts
    go [] some = absurd (some refl)
    go (act ∷ acts) some = omega arith

  -- the list ends within the window
  pub last-cap : t (own 0) ≤ ask.now + machine.window
  last-cap = rw (t-own 0 total (omega arith)) (a.horizon a.plan in-new.0 total (omega (arith, length-planned)) free) where
    free : is_fixed a.plan total ≡ false
    free = fixed_no_more a.plan (kept_of ask) total a.answers.whole a.answers.released (let some = some-route in omega arith)

  -- fixed points of the first schedule are fixed in the second
  pub fixed-on : (other : List Plan) → KeepsFixed new other → KeepsFixed plans other
  fixed-on other keeps-on p p' in' is i fixed le = go (is_same_copy p.sheet ask.sheet) refl where
    go : (b : Bool) → is_same_copy p.sheet ask.sheet ≡ b → point p' i ≡ point p i
    go true e =
        let m = moved-asked p in' e in
        let front = is_kept.front p m.1 in
        let is-fixed = fixed_till a.plan (kept_of ask) i a.answers.whole a.answers.released front.3 (omega (arith, front.1)) in
        keeps-on a.plan p' in-new.0 (subst (λ c. plan_of c other ≡ Some p') (sym m.0.sheet) is) i is-fixed (omega (arith, length-planned, front.1)) ∙ a.fixed p a.plan in' m.0.planned i fixed le
    go false e =
        let m = moved-other p in' e in
        let acts : m.0.acts ≡ p.acts = ap (λ (r : Plan). r.acts) m.1.1 in
        keeps-on m.0 p' m.1.0.in' (subst (λ c. plan_of c other ≡ Some p') (sym m.1.0.sheet) is) i (subst (λ (r : Plan). is_fixed r i ≡ true) (sym m.1.1) fixed) (omega (arith, ap length acts))
        ∙ a.fixed p m.0 in' m.1.0.planned i fixed le

  -- where the new actions start
  pub starts-at : IsAsked machine plans ask → (start_floor machine ask.now ask.origin ≤ t (own (length route))) × (0 < kept_of ask → t (own (length route)) ≡ start_floor machine ask.now ask.origin)
  starts-at asked = go ask.origin refl asked where
    go : (o : Origin) → ask.origin ≡ o → IsAskedFrom machine plans ask o → (start_floor machine ask.now ask.origin ≤ t (own (length route))) × (0 < kept_of ask → t (own (length route)) ≡ start_floor machine ask.now ask.origin)
    go FromFeeder e none =
        let nothing-kept : kept_of ask ≡ 0 = ap kept_from e in
        let exempt : follows_front ask a.plan ≡ false = rw in-new.1 (rw nothing-kept refl) in
        let floor : ask.now + machine.lead < point a.plan 0 = a.floors a.plan in-new.0 exempt 0 (omega (arith, a.answers.released)) timed.some in (
          subst (λ o. start_floor machine ask.now o ≤ t (own (length route))) (sym e) (let first = t-own (length route) (kept_of ask) refl ∙ ap (point a.plan) nothing-kept in omega (arith, first, floor)),
          λ some. absurd (omega arith),
        )
    go (FromFront state end count) e (p, is, front) =
        let kept-is : kept_of ask ≡ count = ap kept_from e in
        let in' = plan_of-contains ask.sheet plans p is in
        let m = moved-asked p in'.0 in'.1 in
        let fixed : point a.plan count ≡ point p count = a.fixed p a.plan in'.0 m.0.planned count (rw front.front refl) (omega (arith, front.acts)) in
        let ends : point p count ≡ end = ap (point p) (sym front.acts) ∙ front.ends in
        let first : t (own (length route)) ≡ start_floor machine ask.now ask.origin = t-own (length route) (kept_of ask) refl ∙ ap (point a.plan) kept-is ∙ fixed ∙ ends ∙ ap (start_floor machine ask.now) (sym e) in
        (omega (arith, first), λ _. first)
