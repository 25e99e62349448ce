-- A stop's edge: it is the only one without a name, and a closed walk has it once.
use Rattle.std.proofs.Common.{◌≡◌, ◌≢◌, ◌⊎◌, inl, inr, ℕ, zero, suc, ◌+◌, ◌<◌, true, List, [], ◌∷◌, ◌++◌, length, refl, sym, ◌∙◌, subst, arith, AllPairs, Contains, Some}
use Rattle.std.specs.Prelude.{ℤ, pos, ◌+ℤ◌, slice_get}
use Rattle.std.proofs.lemmas.Int.{ints}
use Rattle.std.proofs.lemmas.List.{length-append, length-map}
use Rattle.tp_base.specs.declared.edges.Edge.{Edge}
use Rattle.tp_base.specs.Refute.{AreApart, Leads, ends_of, total_weight}
use Rattle.tp_bounds.specs.declared.hops.Hop.{Hop as TreeHop}
use Rattle.tp_machine.specs.declared.machine.Machine.{Machine}
use Rattle.tp_schedule.specs.Answers.{IsAsked, IsAskedFrom, IsFrontOf, kept_of}
use Rattle.tp_schedule.specs.Choices.{start_floor}
use Rattle.tp_schedule.specs.Legality.{IsLegal}
use Rattle.tp_schedule.specs.Plans.{AreNamed, is_fixed, point}
use Rattle.tp_schedule.specs.Spots.{Spot}
use Rattle.tp_schedule.specs.Spots.Spot.{kept, own}
use Rattle.tp_schedule.specs.declared.parts.Ask.{Ask}
use Rattle.tp_schedule.specs.declared.parts.Origin.{Origin}
use Rattle.tp_schedule.specs.declared.parts.Origin.TheVariants.{Feeder as FromFeeder, Front as FromFront}
use Rattle.tp_schedule.specs.declared.parts.Plan.{Plan}
use Rattle.tp_constraints.specs.Gaps.{gap}
use Rattle.tp_constraints.specs.Hops.{Hop, IsHop, hop}
use Rattle.tp_constraints.specs.Hops.HopKind.{stop}
use Rattle.tp_constraints.specs.Hops.IsHop.{by_least, by_most, by_line, by_end, by_order, by_stop}
use Rattle.tp_constraints.specs.Suffixes.{IsInFlight, Suffix}
use Rattle.tp_constraints.proofs.Lists.{get-contains, index-map}
use Rattle.tp_constraints.proofs.PointNumbers.{number-at}
use Rattle.tp_placing.specs.Causes.{IsNamedHop, hop_by}
use Rattle.tp_placing.specs.declared.causes.EdgeCause.{EdgeCause}
use Rattle.tp_bound_laws.specs.Chains.{low}
use Rattle.tp_bound_laws.specs.Places.{Branch, Stand}
use Rattle.tp_bound_laws.specs.Told.{CanBeTold, told}
use Rattle.tp_bound_laws.proofs.HopsTold.{hops_told}
use Rattle.tp_bound_make.specs.TellableReasons.{tell}
use Rattle.tp_bound_make.proofs.HopFacts.{known-order}

-- ---- walks
pub leads-split : (xs ys : List Edge) (a z : ℕ) → Leads a (xs ++ ys) z → (m : ℕ) × Leads a xs m × Leads m ys z
leads-split [] ys a z leads = (a, refl, leads)
leads-split (e ∷ xs) ys a z leads = let r = leads-split xs ys e.to.0 z leads.1 in (r.0, (leads.0, r.1), r.2)

pub total-split : (xs ys : List Edge) → total_weight (xs ++ ys) ≡ total_weight xs +ℤ total_weight ys
total-split [] ys = omega (arith, ints)
total-split (e ∷ xs) ys = let r = total-split xs ys in omega (arith, ints)

get-behind : {X : Type 0} (xs ys : List X) (i n : ℕ) (x : X) → n ≡ length xs + i → slice_get ys i ≡ Some x → slice_get (xs ++ ys) n ≡ Some x
get-behind [] ys i n x at e = let same : i ≡ n = omega (arith, at) in subst (λ k. slice_get ys k ≡ Some x) same e
get-behind (y ∷ xs) ys i zero x at e = absurd (omega (arith, at))
get-behind (y ∷ xs) ys i (suc n) x at e = get-behind xs ys i n x (omega (arith, at)) e

-- no later edge ends where an earlier one does
pub ends-once : (xs ys : List Edge) (e f : Edge) → AreApart (ends_of (xs ++ e ∷ ys)) → Contains ys f → e.to.0 ≡ f.to.0 → ⊥
ends-once xs ys e f apart in' same =
    let g = get-contains ys f in' in
    let first = get-behind xs (e ∷ ys) 0 (length xs + 0) e refl refl in
    let later = get-behind xs (e ∷ ys) (suc g.0) (length xs + suc g.0) f refl g.1 in
    let one = index-map (λ (q : Edge). q.to.0) (xs ++ e ∷ ys) (length xs + 0) e first in
    let other = index-map (λ (q : Edge). q.to.0) (xs ++ e ∷ ys) (length xs + suc g.0) f later in
    let n = length-map (xs ++ e ∷ ys) (λ (q : Edge). q.to.0) in
    let m = length-append xs (e ∷ ys) in
    let w = get-short ys g.0 f g.1 in
    apart (length xs + 0) (length xs + suc g.0) (omega arith) (omega (arith, n, m, w)) (one ∙ same ∙ sym other) where
      get-short : (zs : List Edge) (i : ℕ) (x : Edge) → slice_get zs i ≡ Some x → i < length zs
      get-short [] i x e = absurd cc
      get-short (z ∷ zs) zero x e = omega arith
      get-short (z ∷ zs) (suc i) x e = let h = get-short zs i x e in omega (arith, h)

pub same-number : (table : List Spot) (i j : ℕ) (s : Spot) → AllPairs (λ a b. a ≢ b) table → slice_get table i ≡ Some s → slice_get table j ≡ Some s → i ≡ j
same-number table i j s differ a b = sym (number-at table differ i s a) ∙ number-at table differ j s b

module _ (machine : Machine) (plans : List Plan) (ask : Ask) where
  -- ---- the stop
  abbrev stop_hop : Suffix → Hop
  stop_hop x = hop stop (gap (own (length x.choices)) (kept ask.sheet (kept_of ask)) (pos 0))

  pub stop-or-told : (b : Branch) (causes : List EdgeCause) (e : Edge) → IsLegal machine plans → AreNamed plans → IsNamedHop machine plans ask b.x causes e
      → ((k : TreeHop) × (tell machine plans causes e ≡ Some k)) ⊎ (stop_hop b.x ≡ hop_by plans causes e)
  stop-or-told b causes e legal named n = go (hop_by plans causes e) n.is_hop (λ can. hops_told machine plans ask b (hop_by plans causes e) legal named n.is_hop can) where
    go : (h : Hop) → IsHop machine plans ask b.x h → (CanBeTold machine h.kind → (k : TreeHop) × (told machine plans h ≡ Some k)) → ((k : TreeHop) × (told machine plans h ≡ Some k)) ⊎ (stop_hop b.x ≡ h)
    go _ (by_least a from end run) f = inl (f tt)
    go _ (by_most a from end run) f = inl (f tt)
    go _ (by_line p q in-p in-q before same) f = inl (f tt)
    go _ (by_end g in-g) f = inl (f tt)
    go _ (by_order resource i j a c below at-a at-c) f = inl (f (known-order machine plans ask b.x resource i a at-a))
    go _ (by_stop stopped) f = inr refl

  -- the front's end has the start floor as its least tick
  pub front-low : (limit : ℤ) (s : Stand) → IsAsked machine plans ask → IsInFlight ask.origin → low machine plans ask limit s (kept ask.sheet (kept_of ask)) ≡ start_floor machine ask.now ask.origin
  front-low limit s asked can = go ask.origin refl asked can where
    go : (o : Origin) → ask.origin ≡ o → IsAskedFrom machine plans ask o → IsInFlight o → low machine plans ask limit s (kept ask.sheet (kept_of ask)) ≡ start_floor machine ask.now ask.origin
    go FromFeeder e asked' can' = absurd can'
    go (FromFront state end count) e asked' can' =
        let front : IsFrontOf machine ask state end count asked'.0 = asked'.2 in
        let fixed : is_fixed asked'.0 count ≡ true = rw front.front refl in
        let value : point asked'.0 count ≡ end = rw (front.acts) at front.ends in
        rw (e, asked'.1, fixed) value
