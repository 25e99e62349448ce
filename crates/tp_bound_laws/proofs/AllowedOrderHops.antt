-- Hops along orders are allowed as they are named.
use Rattle.std.proofs.Common.{◌≡◌, ◌≢◌, ℕ, zero, suc, ◌+◌, ◌≤◌, ◌<◌, Bool, true, false, List, [], ◌∷◌, length, map, refl, sym, ◌∙◌, ap, subst, arith, All, AllPairs, Contains, Option, Some, None, position}
use Rattle.std.specs.Prelude.{slice_get, ℤ, option_map, option_and_then}
use Rattle.std.specs.List.{position_or_len}
use Rattle.std.specs.Str.{bytes_eq}
use Rattle.std.proofs.lemmas.List.Elements.{All-contains}
use Rattle.std.proofs.lemmas.List.Sorted.{All-permutation}
use Rattle.std.proofs.lemmas.Option.{slice_get_within}
use Rattle.std.proofs.lemmas.Slice.Eq.{bytes_eq-Decides}
use Rattle.tp_bounds.specs.declared.hops.Hop.{Hop as TreeHop}
use Rattle.tp_bounds.specs.declared.hops.Hop.TheVariants.{«Resource» as Res}
use Rattle.tp_bounds.specs.declared.hops.TreeHold.{TreeHold}
use Rattle.tp_bounds.specs.declared.hops.TreeHold.TheVariants.{Own as OwnHold, Kept as KeptHold}
use Rattle.tp_machine.specs.Modes.{gap_at}
use Rattle.tp_machine.specs.Machines.{AreDifferent}
use Rattle.tp_machine.specs.declared.parts.Resource.{Resource}
use Rattle.tp_machine.specs.declared.machine.Machine.{Machine}
use Rattle.tp_schedule.specs.Choices.{Choice}
use Rattle.tp_schedule.specs.Plans.{AreNamed, IsEarlier}
use Rattle.tp_schedule.specs.Spots.{Slot, Spot, slot_order, slots, ticks_of}
use Rattle.tp_schedule.specs.Spots.Spot.{kept, own}
use Rattle.tp_schedule.specs.declared.parts.Ask.{Ask}
use Rattle.tp_schedule.specs.declared.parts.Plan.{Plan}
use Rattle.tp_schedule.proofs.CopyFacts.{plan_of-itself}
use Rattle.tp_schedule.proofs.Pairs.{AllPairs-head, AllPairs-tail}
use Rattle.tp_schedule.proofs.SlotOrder.{IsPermutation-by_begin}
use Rattle.tp_choices.proofs.EachSlot.{each_slot}
use Rattle.tp_constraints.specs.Gaps.{slot_gap}
use Rattle.tp_constraints.specs.Suffixes.{Suffix, order_in}
use Rattle.tp_constraints.proofs.HeldSlots.{OwnEach, placed-All}
use Rattle.tp_constraints.proofs.Lists.{contains-get}
use Rattle.tp_constraints.proofs.PointNumbers.{same_spot-refl}
use Rattle.tp_bound_laws.specs.Chains.{gap_in, gap_of, start_in, start_of}
use Rattle.tp_bound_laws.specs.Places.{Branch, Stand}
use Rattle.tp_bound_laws.specs.Told.{hold_name, resource_hop, sheet_name}
use Rattle.tp_bound_laws.proofs.AllowedHops.{gap-found, le-to, lt-to, plan-found}
use Rattle.tp_bound_laws.proofs.ApartStarts.{starts-apart}

-- ---- the place of a resource by its name
pub first-place : (rs : List Resource) (i : ℕ) (r : Resource) → AreDifferent (map (λ q. q.name) rs) → slice_get rs i ≡ Some r → position_or_len (λ q. bytes_eq q.name r.name) rs ≡ i
first-place [] i r differ e = absurd cc
first-place (q ∷ rs) zero r differ e =
    let same : q ≡ r = cc in
    let t : bytes_eq q.name r.name ≡ true = (bytes_eq-Decides q.name r.name).1 (ap (λ (k : Resource). k.name) same) in
    rw t refl
first-place (q ∷ rs) (suc i) r differ e = go (bytes_eq q.name r.name) refl (first-place rs i r (AllPairs-tail (λ a b. a ≢ b) q.name (map (λ k. k.name) rs) differ) e) where
  names-have : (ks : List Resource) (j : ℕ) → slice_get ks j ≡ Some r → Contains (map (λ k. k.name) ks) r.name
  names-have [] j h = absurd cc
  names-have (k ∷ ks) zero h = let same : k ≡ r = cc in (0, omega arith, ap (λ (l : Resource). l.name) same)
  names-have (k ∷ ks) (suc j) h = let c = names-have ks j h in (suc c.0, omega (arith, c.1), c.2)

  go : (t : Bool) → bytes_eq q.name r.name ≡ t → position_or_len (λ k. bytes_eq k.name r.name) rs ≡ i → position_or_len (λ k. bytes_eq k.name r.name) (q ∷ rs) ≡ suc i
  go true u rest = absurd (All-contains (λ b. q.name ≢ b) (map (λ k. k.name) rs) r.name (AllPairs-head (λ a b. a ≢ b) q.name (map (λ k. k.name) rs) differ) (names-have rs i e) ((bytes_eq-Decides q.name r.name).0 u))
  go false u rest = let more : 1 + position_or_len (λ k. bytes_eq k.name r.name) rs ≡ suc i = omega (arith, rest) in rw u more

pub resource-place : (rs : List Resource) (i : ℕ) (r : Resource) → AreDifferent (map (λ q. q.name) rs) → slice_get rs i ≡ Some r → position (λ q. bytes_eq q.name r.name) rs ≡ Some i
resource-place rs i r differ e =
    let p = first-place rs i r differ e in
    let t = lt-to i (length rs) (slice_get_within rs i r e) in
    rw (p, t) refl

-- ---- the names of actions
pub record IsNamedHold (plans : List Plan) (count : ℕ) (s : Spot) : Type 0 where
  pub name : TreeHold
  pub told : hold_name plans s ≡ Some name
  pub found : start_of plans count name ≡ Some s

module _ (plans : List Plan) (count : ℕ) (in_order : AllPairs IsEarlier plans) (named : AreNamed plans) where
  kept-hold : (p : Plan) (i : ℕ) → Contains plans p → i < length p.acts → IsNamedHold plans count (kept p.sheet i)
  kept-hold p i in' below = record {
    name = KeptHold (sheet_name p) (i + 1);
    told = ap (option_map (λ q. KeptHold (sheet_name q) (i + 1))) (plan_of-itself plans p in_order in');
    found = ap (start_in (i + 1)) (plan-found plans p in_order named in') ∙ (let n : i + 1 ≡ suc i = omega arith in let t = lt-to i (length p.acts) below in rw (n, t) refl);
  }

  own-hold : (n : ℕ) → suc n ≤ count → IsNamedHold plans count (own (suc n))
  own-hold n le = record { name = OwnHold (suc n); told = refl; found = let t = le-to (suc n) count le in rw t refl }

  abbrev IsNamedSlot : Slot → Type 0
  IsNamedSlot s = IsNamedHold plans count s.from

  own-holds : (machine : Machine) (resource : ℕ) (choices : List Choice) → length choices ≤ count → OwnEach IsNamedSlot machine resource choices
  own-holds machine resource [] le = tt
  own-holds machine resource (c ∷ cs) le = (λ k d within test. own-hold (length cs) le, own-holds machine resource cs (omega arith))

  pub named-holds : (machine : Machine) (x : Suffix) (resource : ℕ) → length x.choices ≤ count → All IsNamedSlot (order_in machine plans x resource)
  named-holds machine x resource le =
      placed-All IsNamedSlot machine resource (slot_order machine plans resource) x.choices (own-holds machine resource x.choices le)
      (All-permutation IsNamedSlot (slots machine resource plans) (slot_order machine plans resource) (IsPermutation-by_begin (ticks_of plans) (slots machine resource plans))
      (each_slot IsNamedSlot machine resource plans (λ p in' i act at a is rule rule-in. kept-hold p i in' (slice_get_within p.acts i act at))))

-- ---- a hop from hold to hold
some-hop : (h k : TreeHop) → Some h ≡ Some k → h ≡ k
some-hop h k e = cc

pub order-allowed : (machine : Machine) (plans : List Plan) (ask : Ask) (limit : ℤ) (b : Branch) (resource i j : ℕ) (x y : Slot) (k : TreeHop) → AllPairs IsEarlier plans → AreNamed plans → AreDifferent (map (λ r. r.name) machine.resources)
    → i < j → slice_get (order_in machine plans b.x resource) i ≡ Some x → slice_get (order_in machine plans b.x resource) j ≡ Some y
    → option_and_then (resource_hop plans x.from y.from) (slice_get machine.resources resource) ≡ Some k
    → gap_of machine plans ask limit (record { branch = b; span = None }) (slot_gap (gap_at machine resource) x y).from k ≡ Some (slot_gap (gap_at machine resource) x y)
order-allowed machine plans ask limit b resource i j x y k in_order named differ below at-x at-y told = go (slice_get machine.resources resource) refl told where
  s : Stand
  s = record { branch = b; span = None }

  order : List Slot
  order = order_in machine plans b.x resource

  names : All (λ q. IsNamedHold plans (length b.x.choices) q.from) (order_in machine plans b.x resource)
  names = named-holds plans (length b.x.choices) in_order named machine b.x resource (omega arith)

  nx : IsNamedHold plans (length b.x.choices) x.from
  nx = All-contains (λ q. IsNamedHold plans (length b.x.choices) q.from) (order_in machine plans b.x resource) x names (contains-get (order_in machine plans b.x resource) i x at-x)

  ny : IsNamedHold plans (length b.x.choices) y.from
  ny = All-contains (λ q. IsNamedHold plans (length b.x.choices) q.from) (order_in machine plans b.x resource) y names (contains-get (order_in machine plans b.x resource) j y at-y)

  found : gap_in (gap_at machine resource) x.from y.from (order_in machine plans b.x resource) ≡ Some (slot_gap (gap_at machine resource) x y)
  found = gap-found (gap_at machine resource) (order_in machine plans b.x resource) i j x y (starts-apart machine plans b.x resource in_order) below at-x at-y

  go : (o : Option Resource) → slice_get machine.resources resource ≡ o → option_and_then (resource_hop plans x.from y.from) o ≡ Some k → gap_of machine plans ask limit (record { branch = b; span = None }) (slot_gap (gap_at machine resource) x y).from k ≡ Some (slot_gap (gap_at machine resource) x y)
  go None u h = absurd cc
  go (Some r) u h =
      let step : resource_hop plans x.from y.from r ≡ Some (Res r.name nx.name ny.name) =
      ap (option_and_then (λ p. option_map (λ q. Res r.name p q) (hold_name plans y.from))) nx.told ∙ ap (option_map (λ q. Res r.name nx.name q)) ny.told in
      let is : Res r.name nx.name ny.name ≡ k = some-hop (Res r.name nx.name ny.name) k (sym step ∙ h) in
      let place = resource-place machine.resources resource r differ u in
      let t = same_spot-refl (slot_gap (gap_at machine resource) x y).from in
      subst (λ q. gap_of machine plans ask limit (record { branch = b; span = None }) (slot_gap (gap_at machine resource) x y).from q ≡ Some (slot_gap (gap_at machine resource) x y)) is
      (rw (place, nx.found, ny.found) (rw found (rw t refl)))
