-- Plans at their least ticks: by the least solution of their network, with a plan more, and where no point has risen.
use Rattle.std.proofs.Common.{◌≡◌, ◌∙◌, ℕ, suc, ◌+◌, ◌<◌, ◌≤◌, Bool, true, false, List, [], ◌∷◌, length, map, slice_index, take, All, AllPairs, Contains, Some, inl, inr, refl, ap, sym, subst, arith}
use Rattle.std.proofs.lemmas.List.{length-map}
use Rattle.std.specs.Prelude.{◌||◌, slice_get}
use Rattle.std.proofs.lemmas.List.Elements.{All-contains, Contains-append_cases}
use Rattle.std.proofs.lemmas.Option.{same_Some, slice_get_within}
use Rattle.tp_base.proofs.SliceFacts.{slice_get_last}
use Rattle.tp_base.specs.Readings.{Reading}
use Rattle.tp_base.specs.Net.{HasLeast, HaveSameTimes, Net}
use Rattle.tp_machine.specs.declared.machine.Machine.{Machine}
use Rattle.tp_schedule.specs.Plans.{IsEarlier, IsTimedPlan, is_same_copy, plan_of, point, with_points}
use Rattle.tp_schedule.specs.Spots.{Spot, Ticks, point_in, ticks_of}
use Rattle.tp_schedule.specs.Spots.Spot.{kept}
use Rattle.tp_schedule.specs.Times.{at, ticks_from, timed_by}
use Rattle.tp_schedule.specs.declared.parts.Ask.{Ask}
use Rattle.tp_schedule.specs.declared.parts.Plan.{Plan}
use Rattle.tp_schedule.specs.declared.parts.SheetId.{SheetId}
use Rattle.tp_schedule.proofs.CopyFacts.{plan_of-itself, same_copy-is}
use Rattle.tp_schedule.proofs.Membership.{All-from_contains, Contains-cons_cases, Contains-here, Contains-later}
use Rattle.tp_choices.proofs.CompletePlans.{point-timed_by}
use Rattle.tp_choices.proofs.Lists.{map-same}
use Rattle.tp_constraints.specs.Gaps.{IsPoint, low_at}
use Rattle.tp_constraints.specs.Laws.{LoadedTimes, no_own}
use Rattle.tp_constraints.specs.Nets.{IsLoadedNet}
use Rattle.tp_constraints.specs.Numbers.{table_of, ticks_by}
use Rattle.tp_constraints.proofs.Lists.{get-contains}
use Rattle.tp_constraints.proofs.PointNumbers.{number-at}
use Rattle.tp_constraints.proofs.Solutions.{loaded_least, loaded_solutions}
use Rattle.tp_constraints.specs.AddedPlan.{with_plan}
use Rattle.tp_constraints.proofs.PlanFacts.{loaded-less}
use Rattle.tp_placing.specs.Boards.{BoardContent, BoardValue, side_by_side}
use Rattle.tp_placing.specs.Loaded.{CanLoad}
use Rattle.tp_placing.specs.Settled.{AreSettled, HasLeastPoints}
use Rattle.tp_placing.specs.LoadedBoard.{IsAt, StandsOn}
use Rattle.tp_placing.specs.Commits.{AreLeastTicks, is_loaded, retimed_in}
use Rattle.tp_placing.specs.declared.parts.BoardMark.{BoardMark}
use Rattle.tp_placing.specs.declared.parts.Held.{Held}
use Rattle.tp_placing.specs.declared.parts.Step.{Step}
use Rattle.tp_placing.proofs.FollowFacts.{one-more}
use Rattle.tp_placing.proofs.WritePlans.{retimed-is, retimed-not}
use Rattle.tp_placing.proofs.LoadedTicks.{times}

-- numbers that are those of a list, one after another
pub ticks-read : (f : ℕ → ℕ) (i : ℕ) (xs : List ℕ) → ((k : ℕ) → k < length xs → f (i + k) ≡ slice_index xs k) → ticks_from f i (length xs) ≡ xs
ticks-read f i [] same = refl
ticks-read f i (x ∷ xs) same =
    let z : i + 0 ≡ i = omega arith in
    let first : f i ≡ x = ap f (sym z) ∙ same 0 (omega arith) in
    let rest = ticks-read f (suc i) xs (λ k within. (let s : suc i + k ≡ i + suc k = omega arith in ap f s ∙ same (suc k) (omega arith))) in
    λ q. first q ∷ rest q

module _ (machine : Machine) (now : ℕ) (plans : List Plan) (n : Net) (is : IsLoadedNet machine now (λ _. false) plans (table_of plans) n) where
  -- ticks by a solution
  abbrev by : (ℕ → ℕ) → Ticks
  by x = ticks_by (table_of plans) x

  -- no times of the plans are before a plan's own where these are the least ones
  no-earlier : HasLeast n → (p : Plan) → Contains plans p → HasLeastPoints n plans p → (t : Ticks) → LoadedTimes machine now (λ _. false) plans t → (i : ℕ) → i ≤ length p.acts → point p i ≤ t (kept p.sheet i)
  no-earlier least p inside points t ok i le =
      let own = points (by least.0) (record { solution = least.0; least = least.1; there = λ k s at. ap least.0 (number-at (table_of plans) is.is_table.differ k s at) }) in
      let same : point p i ≡ by least.0 (kept p.sheet i) = ap (λ q. point q i) (sym own) ∙ point-timed_by (by least.0) p i le in
      let below = loaded_least machine now (λ _. false) plans (table_of plans) n is least.0 least.1 t ok (kept p.sheet i) (p, inside, refl, le) in
      omega (arith, same, below)

  pub settled-all : CanLoad machine now plans → HasLeast n → All (HasLeastPoints n plans) plans → AreSettled machine now plans
  settled-all can least all = record {
    times = times machine now plans can;
    least = λ t ok p inside i le. no-earlier least p inside (All-contains (HasLeastPoints n plans) plans p all inside) t ok i le;
  }

  -- where the plans are settled and no point of theirs has risen since, they have their least times
  module _ (settled : AreSettled machine now plans) (in_order : AllPairs IsEarlier plans) (least : HasLeast n) (new : Net) (same : HaveSameTimes (length (table_of plans)) n new) where
    point-still : (t : Ticks) → AreLeastTicks new (table_of plans) t → (p : Plan) → Contains plans p → (i : ℕ) → i ≤ length p.acts → t (kept p.sheet i) ≡ point p i
    point-still t a p inside i le =
        let s : Spot = kept p.sheet i in
        let known : IsPoint plans 0 (kept p.sheet i) = (p, inside, refl, le) in
        let g = get-contains (table_of plans) (kept p.sheet i) (is.is_table.all (kept p.sheet i) known) in
        let number-is = number-at (table_of plans) is.is_table.differ g.0 (kept p.sheet i) g.1 in
        let within = slice_get_within (table_of plans) g.0 (kept p.sheet i) g.1 in
        let lows = ap length is.lows ∙ length-map (table_of plans) (low_at (now + machine.lead) (λ _. false) plans no_own) in
        let there : t (kept p.sheet i) ≡ a.solution g.0 = a.there g.0 (kept p.sheet i) g.1 in
        let old : by least.0 (kept p.sheet i) ≡ least.0 g.0 = ap least.0 number-is in
        let kept-time : least.0 g.0 ≡ a.solution g.0 = same least.0 a.solution least.1 a.least g.0 within (omega (arith, within, lows)) in
        let own : ticks_of plans (kept p.sheet i) ≡ point p i = ap (λ o. point_in o i) (plan_of-itself plans p in_order inside) in
        let above = loaded_least machine now (λ _. false) plans (table_of plans) n is least.0 least.1 (ticks_of plans) settled.times (kept p.sheet i) known in
        let below = settled.least (by least.0) ((loaded_solutions machine now (λ _. false) plans (table_of plans) n is least.0).0 least.1.solution) p inside i le in
        omega (arith, there, old, kept-time, own, above, below)

    pub still-least : (p : Plan) → Contains plans p → length p.points ≡ suc (length p.acts) → HasLeastPoints new plans p
    still-least p inside count t a =
        let points = ticks-read (at t p) 0 p.points (λ k within. (let z : 0 + k ≡ k = omega arith in ap (at t p) z ∙ point-still t a p inside k (omega (arith, count, within)))) in
        let all : ticks_from (at t p) 0 (suc (length p.acts)) ≡ p.points = ap (λ k. ticks_from (at t p) 0 k) (sym count) ∙ points in
        ap (λ ps. with_points ps p) all

-- with a plan more that has its least times
pub settled-more : (machine : Machine) (now : ℕ) (plans : List Plan) (p : Plan) (n : Net) → CanLoad machine now (with_plan plans p) → IsLoadedNet machine now (λ _. false) (with_plan plans p) (table_of (with_plan plans p)) n → HasLeast n
    → AreSettled machine now plans → HasLeastPoints n (with_plan plans p) p → AreSettled machine now (with_plan plans p)
settled-more machine now plans p n can is least before points = record {
  times = times machine now (with_plan plans p) can;
  least = λ t ok q inside i le. elim (Contains-append_cases plans (p ∷ []) q inside) [
    | inl there ↦ before.least t (loaded-less machine now plans p can.loadable t ok) q there i le
    | inr last ↦ elim (Contains-cons_cases p [] q last) [
      | inl e ↦ no-earlier machine now (with_plan plans p) n is least q inside (subst (HasLeastPoints n (with_plan plans p)) e points) t ok i le
      | inr none ↦ absurd (omega (arith, none.1))
    ]
  ];
}

pub settled-last : (machine : Machine) (now : ℕ) (old new : List Plan) (n : Net) → CanLoad machine now new → IsLoadedNet machine now (λ _. false) new (table_of new) n → HasLeast n → take (length old) new ≡ old → length new ≡ length old + 1
    → AreSettled machine now old → ((p : Plan) → slice_get new (length old) ≡ Some p → HasLeastPoints n new p) → AreSettled machine now new
settled-last machine now old new n can is least first more before points =
    let x = one-more old new first more in
    let there : slice_get new (length old) ≡ Some x.0 = ap (λ ps. slice_get ps (length old)) x.1 ∙ slice_get_last old x.0 in
    subst (AreSettled machine now) (sym x.1)
    (settled-more machine now old x.0 n (subst (CanLoad machine now) x.1 can) (subst (λ ps. IsLoadedNet machine now (λ _. false) ps (table_of ps) n) x.1 is) least before (subst (λ ps. HasLeastPoints n ps x.0) x.1 (points x.0 there)))

-- ---- a schedule of which the loaded plans have their least times
found-loaded : (live : List Plan) (copy : SheetId) → is_loaded live copy ≡ true → (p : Plan) × Contains live p × (p.sheet ≡ copy)
found-loaded [] copy e = absurd cc
found-loaded (q ∷ live) copy e = go (is_same_copy q.sheet copy) refl e (found-loaded live copy) where
  go : (b : Bool) → is_same_copy q.sheet copy ≡ b → (b || is_loaded live copy) ≡ true → (is_loaded live copy ≡ true → (p : Plan) × Contains live p × (p.sheet ≡ copy)) → (p : Plan) × Contains (q ∷ live) p × (p.sheet ≡ copy)
  go true same e' rest = (q, Contains-here q live, same_copy-is q.sheet copy same)
  go false same e' rest = let f = rest e' in (f.0, Contains-later q live f.0 f.1, f.2)

pub retimed-still : (live plans : List Plan) (t : Ticks) → AllPairs IsEarlier plans → All (λ p. plan_of p.sheet plans ≡ Some p) live → All (λ p. timed_by t p ≡ p) live → plans ≡ map (retimed_in live t) plans
retimed-still live plans t in_order planned still = sym (map-same (retimed_in live t) plans (All-from_contains (λ q. retimed_in live t q ≡ q) plans one)) where
  one : (q : Plan) → Contains plans q → retimed_in live t q ≡ q
  one q inside = go (is_loaded live q.sheet) refl where
    go : (b : Bool) → is_loaded live q.sheet ≡ b → retimed_in live t q ≡ q
    go true e =
        let f = found-loaded live q.sheet e in
        let here = All-contains (λ p. plan_of p.sheet plans ≡ Some p) live f.0 planned f.1 in
        let same : f.0 ≡ q = same_Some f.0 q (sym here ∙ ap (λ c. plan_of c plans) f.2 ∙ plan_of-itself plans q in_order inside) in
        retimed-is live t q e ∙ subst (λ p. timed_by t p ≡ p) same (All-contains (λ p. timed_by t p ≡ p) live f.0 still f.1)
    go false e = retimed-not live t q e

-- ---- a board that was settled when it was loaded
first-past : (held : List Held) (steps : List Step) (cs : List Net) (os : List (List (List ℕ))) (ms : List BoardMark) (m : BoardMark) → slice_get ms 0 ≡ Some m → length cs ≡ length ms → length os ≡ length ms
    → (c : Net) × (slice_get cs 0 ≡ Some c) × ((o : List (List ℕ)) × Contains (side_by_side held steps cs os ms) (record { net = c; orders = o; held = take m.held held; steps = take m.steps steps }))
first-past held steps cs os [] m there n k = absurd cc
first-past held steps [] os (x ∷ ms) m there n k = absurd (omega (arith, n))
first-past held steps (c ∷ cs) [] (x ∷ ms) m there n k = absurd (omega (arith, k))
first-past held steps (c ∷ cs) (o ∷ os) (x ∷ ms) m there n k =
    let same : x ≡ m = same_Some x m there in
    let first : BoardMark → BoardContent = λ y. record { net = c; orders = o; held = take y.held held; steps = take y.steps steps } in
    (c, refl, (o, subst (λ y. Contains (first x ∷ side_by_side held steps cs os ms) (first y)) same (Contains-here (first x) (side_by_side held steps cs os ms))))

pub settled-still : {N : Type 0} (reading : Reading N) (b : BoardValue N) (machine : Machine) (ask : Ask) → StandsOn reading b machine ask → b.settled ≡ true
    → (m : BoardMark) → slice_get b.marks 0 ≡ Some m → m.steps ≡ 0 → length (reading.past b.net) ≡ length b.marks → length b.orders.past ≡ length b.marks
    → ((old : Net) → slice_get (reading.past b.net) 0 ≡ Some old → HaveSameTimes b.last.0 old (reading.net b.net)) → All (HasLeastPoints (reading.net b.net) b.plans) b.plans
settled-still reading b machine ask s settled m there none nets orders same =
    let f = first-past b.held b.steps (reading.past b.net) b.orders.past b.marks m there nets orders in
    let x : BoardContent = record { net = f.0; orders = f.2.0; held = take m.held b.held; steps = take m.steps b.steps } in
    let here : IsAt machine b.plans ask [] f.0 f.2.0 (take m.held b.held) = subst (λ k. IsAt machine b.plans ask (take k b.steps) f.0 f.2.0 (take m.held b.held)) none (s.before x f.2.1) in
    let times : HaveSameTimes (length (table_of b.plans)) f.0 (reading.net b.net) = subst (λ k. HaveSameTimes k f.0 (reading.net b.net)) s.last (same f.0 f.1) in
    All-from_contains (HasLeastPoints (reading.net b.net) b.plans) b.plans (λ p inside.
    still-least machine ask.now b.plans f.0 here.net (s.settled settled) s.loadable.legal.in_order here.solved (reading.net b.net) times p inside (let one = (All-contains (IsTimedPlan machine) b.plans p s.loadable.legal.timed inside).one_more in omega (arith, one)))
