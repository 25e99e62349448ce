-- Plans that are released further: all that has nothing to do with releases stays, and least ticks do not fall.
use Rattle.std.proofs.Common.{◌≡◌, ◌⊎◌, inl, inr, ℕ, zero, suc, ◌+◌, ◌-◌, ◌<◌, ◌≤◌, Bool, true, false, cond, not, ◌&&◌, ◌||◌, nat_lt, nat_le, List, [], ◌∷◌, ◌++◌, length, map, filter, flat_map, refl, sym, ◌∙◌, ap, subst, arith, All, AllPairs, Contains, set, take, drop, slice_get, slice_index, get_or, Option, Some, None, unwrap_or}
use Rattle.std.proofs.lemmas.Bool.Decides.{nat_tests}
use Rattle.std.proofs.lemmas.List.{get_or_append_left, get_or-append_right}
use Rattle.std.proofs.lemmas.List.Elements.{All-cons, All-head, All-nil, All-tail, Contains-get_or}
use Rattle.tp_base.specs.declared.edges.Edge.{Edge}
use Rattle.tp_base.specs.declared.edges.PointId.{PointId}
use Rattle.tp_machine.specs.declared.parts.Action.{Action}
use Rattle.tp_machine.specs.declared.machine.Machine.{Machine}
use Rattle.tp_schedule.specs.Answers.{KeepsFloors, KeepsHorizon}
use Rattle.tp_schedule.specs.Choices.{Choice, placed}
use Rattle.tp_schedule.specs.Holders.{IsHeldIn, hold_of, holds_at, runs_of}
use Rattle.tp_schedule.specs.Legality.{EndsBefore, IsLegal}
use Rattle.tp_schedule.specs.PlannerAnswers.{last_tick}
use Rattle.tp_schedule.specs.Plans.{IsEarlier, IsTimedPlan, is_fixed, is_front, is_same_copy, plan_of, point, with_released}
use Rattle.tp_schedule.specs.Spots.{Spot, by_begin, point_in, slot_order, slots_of, ticks_of}
use Rattle.tp_schedule.specs.Spots.Spot.{kept, own}
use Rattle.tp_schedule.specs.declared.parts.Ask.{Ask}
use Rattle.tp_schedule.specs.declared.parts.Goal.{Goal}
use Rattle.tp_schedule.specs.declared.parts.Goal.TheVariants.{Purge, Tray}
use Rattle.tp_schedule.specs.declared.parts.Plan.{Plan}
use Rattle.tp_schedule.specs.declared.parts.SheetId.{SheetId}
use Rattle.tp_schedule.proofs.HeldModes.{spread-fewer}
use Rattle.tp_schedule.proofs.Membership.{Contains-cons_cases, Contains-here, Contains-later}
use Rattle.tp_schedule.proofs.Pairs.{AllPairs-cons, AllPairs-head, AllPairs-nil, AllPairs-tail}
use Rattle.tp_schedule.proofs.TickLists.{length-ticks_from, ticks_from-at}
use Rattle.tp_constraints.specs.Moments.{shape_of}
use Rattle.tp_constraints.specs.Gaps.{gap, is_in_line, low_of}
use Rattle.tp_constraints.specs.Hops.{Hop, IsHop, IsRun, hop, no_choices}
use Rattle.tp_constraints.specs.Hops.HopKind.{order}
use Rattle.tp_constraints.specs.Hops.IsHop.{by_end, by_least, by_line, by_most, by_order, by_stop}
use Rattle.tp_constraints.specs.Hops.IsRun.{kept_run, own_run}
use Rattle.tp_constraints.specs.Numbers.{points_from, table_of}
use Rattle.tp_constraints.specs.Suffixes.{Suffix, end_gap}
use Rattle.tp_placing.specs.Causes.{IsNamedHop, hop_by, kind_of, numbered}
use Rattle.tp_placing.specs.declared.causes.EdgeCause.{EdgeCause}
use Rattle.tp_placing.specs.declared.causes.EdgeCause.TheVariants.{Back, Forward, Limit, Line, Resource, Stop}
use Rattle.tp_placing.specs.Loaded.{CanLoad}
use Rattle.tp_placing.specs.LoadedNet.{lows_of, point_count}
use Rattle.tp_placing.specs.ClockMove.{AreFurther, IsFurther}
use Rattle.tp_placing.specs.LoadedBoard.{AreFirsts}

-- ---- one plan with another
further-acts : (machine : Machine) (now : ℕ) (p q : Plan) → IsFurther machine now p q → length q.acts ≡ length p.acts
further-acts machine now p q one = ap (λ x. length x.acts) one.same

-- what does not look at releases gives the same
same-at : {X : Type 0} (f : Plan → X) → ((p : Plan) (r : ℕ) → f (with_released r p) ≡ f p) → (machine : Machine) (now : ℕ) (p q : Plan) → IsFurther machine now p q → f q ≡ f p
same-at f ignores machine now p q one = ap f one.same ∙ ignores p q.released

map-further : {X : Type 0} (f : Plan → X) → ((p : Plan) (r : ℕ) → f (with_released r p) ≡ f p) → (machine : Machine) (now : ℕ) (plans plans' : List Plan) → AreFurther machine now plans plans' → map f plans' ≡ map f plans
map-further f ignores machine now [] [] is = refl
map-further f ignores machine now [] (q ∷ qs) is = absurd is
map-further f ignores machine now (p ∷ ps) [] is = absurd is
map-further f ignores machine now (p ∷ ps) (q ∷ qs) is =
    let one = same-at f ignores machine now p q is.0 in let rest = map-further f ignores machine now ps qs is.1 in λ i. one i ∷ rest i

flat-further : {X : Type 0} (f : Plan → List X) → ((p : Plan) (r : ℕ) → f (with_released r p) ≡ f p) → (machine : Machine) (now : ℕ) (plans plans' : List Plan) → AreFurther machine now plans plans' → flat_map f plans' ≡ flat_map f plans
flat-further f ignores machine now [] [] is = refl
flat-further f ignores machine now [] (q ∷ qs) is = absurd is
flat-further f ignores machine now (p ∷ ps) [] is = absurd is
flat-further f ignores machine now (p ∷ ps) (q ∷ qs) is =
    let one = same-at f ignores machine now p q is.0 in let rest = flat-further f ignores machine now ps qs is.1 in λ i. one i ++ rest i

length-further : (machine : Machine) (now : ℕ) (plans plans' : List Plan) → AreFurther machine now plans plans' → length plans' ≡ length plans
length-further machine now [] [] is = refl
length-further machine now [] (q ∷ qs) is = absurd is
length-further machine now (p ∷ ps) [] is = absurd is
length-further machine now (p ∷ ps) (q ∷ qs) is = ap suc (length-further machine now ps qs is.1)

count-further : (machine : Machine) (now : ℕ) (plans plans' : List Plan) → AreFurther machine now plans plans' → point_count plans' ≡ point_count plans
count-further machine now [] [] is = refl
count-further machine now [] (q ∷ qs) is = absurd is
count-further machine now (p ∷ ps) [] is = absurd is
count-further machine now (p ∷ ps) (q ∷ qs) is =
    let one = further-acts machine now p q is.0 in let rest = count-further machine now ps qs is.1 in λ i. one i + 1 + rest i

firsts-further : (machine : Machine) (now : ℕ) (plans plans' : List Plan) → AreFurther machine now plans plans' → (n : ℕ) (firsts : List PointId) → AreFirsts n plans firsts → AreFirsts n plans' firsts
firsts-further machine now [] [] is n firsts at = at
firsts-further machine now [] (q ∷ qs) is n firsts at = absurd is
firsts-further machine now (p ∷ ps) [] is n firsts at = absurd is
firsts-further machine now (p ∷ ps) (q ∷ qs) is n [] at = absurd at
firsts-further machine now (p ∷ ps) (q ∷ qs) is n (f ∷ firsts) at =
    (at.0, subst (λ k. AreFirsts (n + suc k) qs firsts) (sym (further-acts machine now p q is.0)) (firsts-further machine now ps qs is.1 (n + suc (length p.acts)) firsts at.1))

-- the plan of a copy has the same points
points-further : (machine : Machine) (now : ℕ) (plans plans' : List Plan) → AreFurther machine now plans plans' → (copy : SheetId) (i : ℕ) → point_in (plan_of copy plans') i ≡ point_in (plan_of copy plans) i
points-further machine now [] [] is copy i = refl
points-further machine now [] (q ∷ qs) is copy i = absurd is
points-further machine now (p ∷ ps) [] is copy i = absurd is
points-further machine now (p ∷ ps) (q ∷ qs) is copy i =
    ap (λ x. point_in (plan_of copy (x ∷ qs)) i) is.0.same ∙ go (is_same_copy p.sheet copy) (points-further machine now ps qs is.1 copy i) where
      go : (b : Bool) → point_in (plan_of copy qs) i ≡ point_in (plan_of copy ps) i
          → point_in (cond b (Some (with_released q.released p)) (plan_of copy qs)) i ≡ point_in (cond b (Some p) (plan_of copy ps)) i
      go true rest = refl
      go false rest = rest

ticks-further : (machine : Machine) (now : ℕ) (plans plans' : List Plan) → AreFurther machine now plans plans' → (s : Spot) → ticks_of plans' s ≡ ticks_of plans s
ticks-further machine now plans plans' is (kept copy i) = points-further machine now plans plans' is copy i
ticks-further machine now plans plans' is (own n) = refl

-- ---- what is so of each plan, and of each two
All-further : (P Q : Plan → Type 0) (machine : Machine) (now : ℕ) → ((p q : Plan) → IsFurther machine now p q → P p → Q q) → (plans plans' : List Plan) → AreFurther machine now plans plans' → All P plans → All Q plans'
All-further P Q machine now each [] [] is all = All-nil Q
All-further P Q machine now each [] (q ∷ qs) is all = absurd is
All-further P Q machine now each (p ∷ ps) [] is all = absurd is
All-further P Q machine now each (p ∷ ps) (q ∷ qs) is all =
    All-cons Q q qs (each p q is.0 (All-head P p ps all)) (All-further P Q machine now each ps qs is.1 (All-tail P p ps all))

AllPairs-further : (R : Plan → Plan → Type 0) (machine : Machine) (now : ℕ) → ((p q a b : Plan) → IsFurther machine now p a → IsFurther machine now q b → R p q → R a b) → (plans plans' : List Plan) → AreFurther machine now plans plans' → AllPairs R plans → AllPairs R plans'
AllPairs-further R machine now each [] [] is all = AllPairs-nil R
AllPairs-further R machine now each [] (q ∷ qs) is all = absurd is
AllPairs-further R machine now each (p ∷ ps) [] is all = absurd is
AllPairs-further R machine now each (p ∷ ps) (q ∷ qs) is all =
    AllPairs-cons R q qs (All-further (R p) (R q) machine now (λ a b one r. each p a q b is.0 one r) ps qs is.1 (AllPairs-head R p ps all))
    (AllPairs-further R machine now each ps qs is.1 (AllPairs-tail R p ps all))

-- each plan of the one list is one of the other
from-further : (machine : Machine) (now : ℕ) (plans plans' : List Plan) → AreFurther machine now plans plans' → (q : Plan) → Contains plans' q → (p : Plan) × Contains plans p × IsFurther machine now p q
from-further machine now [] [] is q in' = absurd (omega (arith, in'.1))
from-further machine now [] (b ∷ bs) is q in' = absurd is
from-further machine now (a ∷ others) [] is q in' = absurd is
from-further machine now (a ∷ others) (b ∷ bs) is q in' = elim (Contains-cons_cases b bs q in') [
  | inl e ↦ (a, Contains-here a others, subst (IsFurther machine now a) e is.0)
  | inr later ↦ let rest = from-further machine now others bs is.1 q later in (rest.0, Contains-later a others rest.0 rest.1, rest.2)
]

to-further : (machine : Machine) (now : ℕ) (plans plans' : List Plan) → AreFurther machine now plans plans' → (p : Plan) → Contains plans p → (r : ℕ) × Contains plans' (with_released r p)
to-further machine now [] [] is p in' = absurd (omega (arith, in'.1))
to-further machine now [] (b ∷ bs) is p in' = absurd is
to-further machine now (a ∷ others) [] is p in' = absurd is
to-further machine now (a ∷ others) (b ∷ bs) is p in' = elim (Contains-cons_cases a others p in') [
  | inl e ↦ (b.released, subst (Contains (b ∷ bs)) (is.0.same ∙ ap (λ x. with_released b.released x) e) (Contains-here b bs))
  | inr later ↦ let rest = to-further machine now others bs is.1 p later in (rest.0, Contains-later b bs (with_released rest.0 p) rest.1)
]

-- ---- legality
timed-further : (machine : Machine) (now : ℕ) (p q : Plan) → IsFurther machine now p q → IsTimedPlan machine p → IsTimedPlan machine q
timed-further machine now p q one timed = subst (IsTimedPlan machine) (sym one.same) (record {
  some = timed.some;
  at_most = timed.at_most;
  one_more = timed.one_more;
  released = one.within;
  start = timed.start;
  starts = timed.starts;
  end = timed.end;
  leads = timed.leads;
  rise = timed.rise;
  lasts = timed.lasts;
  ends = timed.ends;
})

earlier-further : (machine : Machine) (now : ℕ) (p q a b : Plan) → IsFurther machine now p a → IsFurther machine now q b → IsEarlier p q → IsEarlier a b
earlier-further machine now p q a b one two earlier =
    subst (λ x. IsEarlier x b) (sym one.same) (subst (λ y. IsEarlier (with_released a.released p) y) (sym two.same) earlier)

ends-further : (machine : Machine) (now : ℕ) (p q a b : Plan) → IsFurther machine now p a → IsFurther machine now q b → EndsBefore p q → EndsBefore a b
ends-further machine now p q a b one two ends =
    subst (λ x. EndsBefore x b) (sym one.same) (subst (λ y. EndsBefore (with_released a.released p) y) (sym two.same) ends)

held-further : (machine : Machine) (now : ℕ) (plans plans' : List Plan) → AreFurther machine now plans plans' → (resource tick mode : ℕ) → IsHeldIn machine plans' resource tick mode → IsHeldIn machine plans resource tick mode
held-further machine now plans plans' is resource tick mode h =
    let from = from-further machine now plans plans' is h.plan h.planned in record {
      plan = from.0;
      planned = from.1;
      run = h.run;
      runs = subst (λ rs. Contains rs h.run) (same-at runs_of (λ p r. refl) machine now from.0 h.plan from.2) h.runs;
      hold = h.hold;
      holds = h.holds;
      covers = h.covers;
      mode_is = h.mode_is;
    }

legal-further : (machine : Machine) (now : ℕ) (plans plans' : List Plan) → AreFurther machine now plans plans' → IsLegal machine plans → IsLegal machine plans'
legal-further machine now plans plans' is legal = record {
  in_order = AllPairs-further IsEarlier machine now (earlier-further machine now) plans plans' is legal.in_order;
  timed = All-further (IsTimedPlan machine) (IsTimedPlan machine) machine now (timed-further machine now) plans plans' is legal.timed;
  single = λ resource tick. subst (λ rs. length (map hold_of (filter (holds_at machine resource tick) rs)) ≤ 1)
      (sym (flat-further runs_of (λ p r. refl) machine now plans plans' is)) (legal.single resource tick);
  spread = λ resource tick. spread-fewer machine plans plans' resource tick (λ t mode h. held-further machine now plans plans' is resource t mode h) (legal.spread resource tick);
  rise = AllPairs-further EndsBefore machine now (ends-further machine now) plans plans' is legal.rise;
}

floors-further : (machine : Machine) (now : ℕ) (exempt : Plan → Bool) (plans plans' : List Plan) → AreFurther machine now plans plans' → KeepsFloors machine now exempt plans'
floors-further machine now exempt plans plans' is q in' none i from within =
    let one = from-further machine now plans plans' is q in' in
    subst (λ x. now + machine.lead < point x i) (sym one.2.same) (one.2.floor i from (omega (arith, further-acts machine now one.0 q one.2)))

-- what is not fixed was not before
unfixed-further : (front : Bool) (r s i : ℕ) → r ≤ s → (front || (nat_lt 0 s && nat_le i s)) ≡ false → (front || (nat_lt 0 r && nat_le i r)) ≡ false
unfixed-further true r s i more none = none
unfixed-further false r s i more none = grind (arith, nat_tests)

horizon-further : (machine : Machine) (before now : ℕ) (plans plans' : List Plan) → before ≤ now → AreFurther machine now plans plans' → KeepsHorizon machine before plans → KeepsHorizon machine now plans'
horizon-further machine before now plans plans' later is keeps q in' i within free =
    let one = from-further machine now plans plans' is q in' in
    let free' = unfixed-further (is_front one.0.kind) one.0.released q.released i one.2.further (subst (λ x. is_fixed x i ≡ false) one.2.same free) in
    let old : point one.0 i ≤ before + machine.window = keeps one.0 one.1 i (omega (arith, further-acts machine now one.0 q one.2)) free' in
    subst (λ x. point x i ≤ now + machine.window) (sym one.2.same) (omega arith)

-- ---- hops
run-further : (machine : Machine) (now : ℕ) (plans plans' : List Plan) → AreFurther machine now plans plans' → (choices : List Choice) (a : Action) (from to : Spot) → IsRun machine plans choices a from to → IsRun machine plans' choices a from to
run-further machine now plans plans' is choices a from to (kept_run p i act in' at acts) =
    let there = to-further machine now plans plans' is p in' in kept_run (with_released there.0 p) i act there.1 at acts
run-further machine now plans plans' is choices a from to (own_run n c at acts) = own_run n c at acts

in-line-released : (g : Goal) (q : Plan) (r : ℕ) → is_in_line g (with_released r q) ≡ is_in_line g q
in-line-released Purge q r = refl
in-line-released (Tray t) q r = refl

end-gap-released : (ask : Ask) (p : Plan) (r : ℕ) → end_gap ask (with_released r p) ≡ end_gap ask p
end-gap-released ask p r = rw (in-line-released ask.goal p r) refl

orders-further : (machine : Machine) (now : ℕ) (plans plans' : List Plan) → AreFurther machine now plans plans' → (resource : ℕ) → slot_order machine plans' resource ≡ slot_order machine plans resource
orders-further machine now plans plans' is resource =
    let ticks = ticks-further machine now plans plans' is in
    let all = flat-further (slots_of machine resource) (λ p r. refl) machine now plans plans' is in
    λ i. by_begin (λ s. ticks s i) (all i)

hop-further : (machine : Machine) (now : ℕ) (plans plans' : List Plan) → AreFurther machine now plans plans' → (ask : Ask) (x : Suffix) (h : Hop) → IsHop machine plans ask x h → IsHop machine plans' ask x h
hop-further machine now plans plans' is ask x h (by_least a from to run) = by_least a from to (run-further machine now plans plans' is x.choices a from to run)
hop-further machine now plans plans' is ask x h (by_most a from to run) = by_most a from to (run-further machine now plans plans' is x.choices a from to run)
hop-further machine now plans plans' is ask x h (by_line p q in-p in-q earlier same) =
    let p' = to-further machine now plans plans' is p in-p in
    let q' = to-further machine now plans plans' is q in-q in
    by_line (with_released p'.0 p) (with_released q'.0 q) p'.1 q'.1 earlier (ap (λ b. not (is_front p.kind) && b) (in-line-released p.goal q q'.0) ∙ same)
hop-further machine now plans plans' is ask x h (by_end g in') =
    by_end g (subst (λ gs. Contains gs g) (sym (flat-further (end_gap ask) (end-gap-released ask) machine now plans plans' is)) in')
hop-further machine now plans plans' is ask x h (by_order resource i j a b before at-a at-b) =
    let same = ap (λ ss. placed machine resource ss x.choices) (sym (orders-further machine now plans plans' is resource)) in
    by_order resource i j a b before (subst (λ ss. slice_get ss i ≡ Some a) same at-a) (subst (λ ss. slice_get ss j ≡ Some b) same at-b)
hop-further machine now plans plans' is ask x h (by_stop stopped) = by_stop stopped

module _ (plans plans' : List Plan) (table : table_of plans' ≡ table_of plans) where
  numbered-same : (n : ℕ) → numbered plans' n ≡ numbered plans n
  numbered-same n = ap (λ t. unwrap_or (slice_get t n) (own (n - length t))) table

  kind-same : (c : Option EdgeCause) → kind_of plans' c ≡ kind_of plans c
  kind-same None = refl
  kind-same (Some Forward) = refl
  kind-same (Some Back) = refl
  kind-same (Some Line) = refl
  kind-same (Some Stop) = refl
  kind-same (Some Limit) = refl
  kind-same (Some (Resource resource before after)) = λ i. order resource.0 (numbered-same before.0 i) (numbered-same after.0 i)

  hop-same : (causes : List EdgeCause) (e : Edge) → hop_by plans' causes e ≡ hop_by plans causes e
  hop-same causes e = λ i. hop (kind-same (slice_get causes e.tag) i) (gap (numbered-same e.from.0 i) (numbered-same e.to.0 i) e.weight)

-- ---- least ticks
low-more : (front : Bool) (r s i n x floor more : ℕ) → r ≤ s → floor ≤ more → (r ≤ i → i < n → floor < x)
    → cond (front || (nat_lt 0 r && nat_le i r)) x (cond (nat_le r i && nat_lt i n && true) (floor + 1) 0)
    ≤ cond (front || (nat_lt 0 s && nat_le i s)) x (cond (nat_le s i && nat_lt i n && true) (more + 1) 0)
low-more true r s i n x floor more further higher above = omega arith
low-more false r s i n x floor more further higher above = grind (arith, nat_tests)

-- the unreleased starts of a plan are above a floor
abbrev IsAbove : ℕ → Plan → Type 0
IsAbove floor p = (i : ℕ) → p.released ≤ i → i < length p.acts → floor < point p i

low-further : (machine : Machine) (now floor : ℕ) (p q : Plan) → floor ≤ now + machine.lead → IsFurther machine now p q → IsAbove floor p → (i : ℕ) → low_of floor (λ _. false) p i ≤ low_of (now + machine.lead) (λ _. false) q i
low-further machine now floor p q higher one above i =
    subst (λ x. low_of floor (λ _. false) p i ≤ low_of (now + machine.lead) (λ _. false) x i) (sym one.same)
    (low-more (is_front p.kind) p.released q.released i (length p.acts) (point p i) floor (now + machine.lead) one.further higher (above i))

lows-further : (machine : Machine) (now floor : ℕ) → floor ≤ now + machine.lead → (plans plans' : List Plan) → AreFurther machine now plans plans' → All (IsAbove floor) plans → (i : ℕ)
    → slice_index (flat_map (lows_of floor) plans) i ≤ slice_index (flat_map (lows_of (now + machine.lead)) plans') i
lows-further machine now floor higher [] [] is all i = omega arith
lows-further machine now floor higher [] (q ∷ qs) is all i = absurd is
lows-further machine now floor higher (p ∷ ps) [] is all i = absurd is
lows-further machine now floor higher (p ∷ ps) (q ∷ qs) is all i =
    elim (nat_cases i (suc (length p.acts))) [
      | inl within ↦
          let old : slice_index (flat_map (lows_of floor) (p ∷ ps)) i ≡ low_of floor (λ _. false) p i =
          get_or_append_left (lows_of floor p) (flat_map (lows_of floor) ps) 0 i (omega (arith, count-old)) ∙ ticks_from-at (low_of floor (λ _. false) p) 0 (suc (length p.acts)) i i within (omega arith) in
          let new : slice_index (flat_map (lows_of (now + machine.lead)) (q ∷ qs)) i ≡ low_of (now + machine.lead) (λ _. false) q i =
          get_or_append_left (lows_of (now + machine.lead) q) (flat_map (lows_of (now + machine.lead)) qs) 0 i (omega (arith, count-new, same)) ∙ ticks_from-at (low_of (now + machine.lead) (λ _. false) q) 0 (suc (length q.acts)) i i (omega (arith, same)) (omega arith) in
          let one = low-further machine now floor p q higher is.0 (All-head (IsAbove floor) p ps all) i in
          omega (arith, old, new, one)
      | inr beyond ↦
          let old = later (lows_of floor p) (flat_map (lows_of floor) ps) (suc (length p.acts)) i count-old beyond in
          let new = later (lows_of (now + machine.lead) q) (flat_map (lows_of (now + machine.lead)) qs) (suc (length p.acts)) i (omega (arith, count-new, same)) beyond in
          let rest = lows-further machine now floor higher ps qs is.1 (All-tail (IsAbove floor) p ps all) (i - suc (length p.acts)) in
          omega (arith, old, new, rest)
    ] where
      nat_cases : (i n : ℕ) → (i < n) ⊎ (n ≤ i)
      nat_cases zero zero = inr (omega arith)
      nat_cases zero (suc n) = inl (omega arith)
      nat_cases (suc i) zero = inr (omega arith)
      nat_cases (suc i) (suc n) = elim (nat_cases i n) [ inl h ↦ inl (omega arith) | inr h ↦ inr (omega arith) ]

      same : length q.acts ≡ length p.acts
      same = further-acts machine now p q is.0

      count-old : length (lows_of floor p) ≡ suc (length p.acts)
      count-old = length-ticks_from (low_of floor (λ _. false) p) 0 (suc (length p.acts))

      count-new : length (lows_of (now + machine.lead) q) ≡ suc (length q.acts)
      count-new = length-ticks_from (low_of (now + machine.lead) (λ _. false) q) 0 (suc (length q.acts))

      later : (xs ys : List ℕ) (n i : ℕ) → length xs ≡ n → n ≤ i → slice_index (xs ++ ys) i ≡ slice_index ys (i - n)
      later xs ys n i e beyond = get_or-append_right xs ys n i 0 e beyond

-- ---- all of it
module _ (machine : Machine) (before now : ℕ) (plans plans' : List Plan) (later : before ≤ now) (is : AreFurther machine now plans plans') where
  pub further-table : table_of plans' ≡ table_of plans
  further-table = flat-further (λ p. points_from p.sheet 0 (length p.acts)) (λ p r. refl) machine now plans plans' is

  pub further-count : point_count plans' ≡ point_count plans
  further-count = count-further machine now plans plans' is

  pub further-shapes : map shape_of plans' ≡ map shape_of plans
  further-shapes = map-further shape_of (λ p r. refl) machine now plans plans' is

  pub further-orders : (resource : ℕ) → slot_order machine plans' resource ≡ slot_order machine plans resource
  further-orders resource = orders-further machine now plans plans' is resource

  pub further-firsts : (firsts : List PointId) → AreFirsts 0 plans firsts → AreFirsts 0 plans' firsts
  further-firsts firsts at = firsts-further machine now plans plans' is 0 firsts at

  pub further-loads : now ≤ last_tick → CanLoad machine before plans → CanLoad machine now plans'
  further-loads at_most can = record {
    now_at_most = at_most;
    loadable = record {
      legal = legal-further machine now plans plans' is can.loadable.legal;
      floors = floors-further machine now (λ _. false) plans plans' is;
    };
    horizon = horizon-further machine before now plans plans' later is can.horizon;
    few = omega (arith, can.few, length-further machine now plans plans' is);
  }

  pub further-hops : (ask : Ask) (causes : List EdgeCause) (es : List Edge) → All (IsNamedHop machine plans ask no_choices causes) es → All (IsNamedHop machine plans' ask no_choices causes) es
  further-hops ask causes es all k d inside =
      let one = all k d inside in record {
        tag = one.tag;
        is_hop = subst (IsHop machine plans' ask no_choices) (sym (hop-same plans plans' further-table causes (get_or es k d)))
            (hop-further machine now plans plans' is ask no_choices (hop_by plans causes (get_or es k d)) one.is_hop);
      }

  pub further-lows : CanLoad machine before plans → (i : ℕ) → i < point_count plans' → slice_index (flat_map (lows_of (before + machine.lead)) plans) i ≤ slice_index (flat_map (lows_of (now + machine.lead)) plans') i
  further-lows can i within =
      lows-further machine now (before + machine.lead) (omega arith) plans plans' is
      (λ k d inside. can.loadable.floors (get_or plans k d) (Contains-get_or plans k d inside) refl) i

-- ---- releasing one plan after another
-- the plans before a number are further, and the others are as they were
pub record AreFurtherTo (machine : Machine) (now at : ℕ) (plans plans' : List Plan) : Type 0 where
  pub done : AreFurther machine now (take at plans) (take at plans')
  pub rest : drop at plans' ≡ drop at plans

-- the next plan is as it was
plan-stays : (plans plans' : List Plan) (at : ℕ) (p : Plan) → at < length plans' → p ≡ get_or plans' at p → drop at plans' ≡ drop at plans → p ≡ get_or plans at p
plan-stays plans plans' at p within is rest =
    is ∙ sym (get_or-drop_here plans' at p) ∙ ap (λ ps. get_or ps 0 p) rest ∙ get_or-drop_here plans at p where
      get_or-drop_here : (ps : List Plan) (at : ℕ) (d : Plan) → get_or (drop at ps) 0 d ≡ get_or ps at d
      get_or-drop_here [] zero d = refl
      get_or-drop_here [] (suc at) d = refl
      get_or-drop_here (p ∷ ps) zero d = refl
      get_or-drop_here (p ∷ ps) (suc at) d = get_or-drop_here ps at d

-- what is so of each plan at first is so of the next one
pub next-of : (P : Plan → Type 0) (machine : Machine) (now at : ℕ) (plans plans' : List Plan) (p : Plan) → All P plans → AreFurtherTo machine now at plans plans' → at < length plans' → length plans' ≡ length plans → p ≡ get_or plans' at p → P p
next-of P machine now at plans plans' p all is within count here = subst P (sym (plan-stays plans plans' at p within here is.rest)) (all at p (omega arith))

-- with the next one released further they are further to the number behind it
go-further : (machine : Machine) (now at : ℕ) (plans plans' : List Plan) (p q : Plan) → at < length plans' → p ≡ get_or plans' at p → IsFurther machine now p q → AreFurther machine now (take at plans) (take at plans') → drop at plans' ≡ drop at plans
    → AreFurther machine now (take (suc at) plans) (take (suc at) (set plans' at q)) × (drop (suc at) (set plans' at q) ≡ drop (suc at) plans)
go-further machine now at plans [] p q within here one done rest = absurd (omega arith)
go-further machine now zero [] (b ∷ bs) p q within here one done rest = absurd (let e : length (b ∷ bs) ≡ 0 = ap length rest in omega (arith, e))
go-further machine now zero (a ∷ others) (b ∷ bs) p q within here one done rest =
    ((subst (λ x. IsFurther machine now x q) (here ∙ ap (λ ps. get_or ps 0 p) rest) one, tt), ap (drop 1) rest)
go-further machine now (suc at) [] (b ∷ bs) p q within here one done rest = absurd done
go-further machine now (suc at) (a ∷ others) (b ∷ bs) p q within here one done rest =
    let later = go-further machine now at others bs p q (omega arith) here one done.1 rest in ((done.0, later.0), later.1)

-- what stands at a number of a list
same-element : (plans : List Plan) (at : ℕ) (p q : Plan) → at < length plans → p ≡ get_or plans at p → q ≡ get_or plans at q → q ≡ p
same-element [] at p q within one other = absurd (omega arith)
same-element (r ∷ plans) zero p q within one other = other ∙ sym one
same-element (r ∷ plans) (suc at) p q within one other = same-element plans at p q (omega arith) one other

pub further-next : (machine : Machine) (now at next released : ℕ) (plans plans' : List Plan) (p q : Plan) → next ≡ suc at → at < length plans' → p ≡ get_or plans' at p → q ≡ get_or plans' at q → IsFurther machine now p (with_released released p)
    → AreFurtherTo machine now at plans plans' → AreFurtherTo machine now next plans (set plans' at (with_released released q))
further-next machine now at next released plans plans' p q e within here there one is =
    let both = go-further machine now at plans plans' p (with_released released p) within here one is.done is.rest in
    subst (λ n. AreFurtherTo machine now n plans (set plans' at (with_released released q))) (sym e)
    (subst (λ x. AreFurtherTo machine now (suc at) plans (set plans' at (with_released released x))) (sym (same-element plans' at p q within here there)) (record { done = both.0; rest = both.1 }))

-- the points of a plan rise
points-climb : (p : Plan) → ((i : ℕ) → i < length p.acts → point p i < point p (i + 1)) → (i n : ℕ) → i + n ≤ length p.acts → point p i ≤ point p (i + n)
points-climb p rise i zero within = let e : i + 0 ≡ i = omega arith in subst (λ k. point p i ≤ point p k) (sym e) (omega arith)
points-climb p rise i (suc n) within =
    let before = points-climb p rise i n (omega arith) in
    let step = rise (i + n) (omega arith) in
    let e : i + n + 1 ≡ i + suc n = omega arith in
    subst (λ k. point p i ≤ point p k) e (omega (arith, before, step))

-- where one starts late, so do those behind it
pub starts-late : (p : Plan) (released floor : ℕ) → ((i : ℕ) → i < length p.acts → point p i < point p (i + 1)) → floor < point p released → (i : ℕ) → released ≤ i → i < length p.acts → floor < point p i
starts-late p released floor rise late i from within =
    let e : released + (i - released) ≡ i = omega arith in
    let one = subst (λ k. point p released ≤ point p k) e (points-climb p rise released (i - released) (omega arith)) in omega (arith, one)
