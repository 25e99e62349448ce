-- Each hold of a list stands in one gap of its resource's kept order.
use Rattle.std.proofs.Common.{◌≡◌, inl, inr, ℕ, suc, ◌≤◌, ◌<◌, Bool, true, false, cond, List, [], ◌∷◌, ◌++◌, length, filter, refl, ap, sym, arith, Contains, All, AllPairs, subst, pos}
use Rattle.std.specs.Prelude.{ℤ, ◌+ℤ◌, ◌≤ℤ◌}
use Rattle.std.proofs.lemmas.Int.{ints}
use Rattle.std.proofs.lemmas.List.Elements.{All-contains, All-cons, All-filter, All-nil, Contains-append_left, Contains-append_right}
use Rattle.std.proofs.lemmas.List.Sorted.{Contains-permutation}
use Rattle.tp_machine.specs.Modes.{gap_at, gap_between}
use Rattle.tp_machine.specs.ModuleUse.{begin_of, end_of, tick_of}
use Rattle.tp_machine.specs.declared.machine.Machine.{Machine}
use Rattle.tp_machine.specs.declared.parts.Anchor.{Anchor}
use Rattle.tp_machine.specs.declared.parts.Anchor.TheVariants.{Start, End}
use Rattle.tp_machine.specs.declared.parts.HoldRule.{HoldRule}
use Rattle.tp_schedule.proofs.Membership.{All-from_contains, Contains-cons_cases}
use Rattle.tp_machine.proofs.Lists.{AllPairs-head, AllPairs-tail}
use Rattle.tp_schedule.specs.Choices.{Choice, HavePlaces, placed}
use Rattle.tp_schedule.specs.Spots.{IsApart, Slot, Ticks, begin_at, end_at, slot_order, slots}
use Rattle.tp_schedule.specs.Spots.Spot.{kept}
use Rattle.tp_schedule.specs.declared.parts.Plan.{Plan}
use Rattle.tp_choices.proofs.OwnSlots.{IsPermutation-placed, own_slots}
use Rattle.tp_choices.proofs.SameTicks.{in-slots}
use Rattle.tp_choices.proofs.TimedSlots.{All-own_slots, All-slots}
use Rattle.tp_windows.proofs.Standing.{is_kept, kept-placed}
use Rattle.tp_windows.specs.Windows.{HoldsWithin, IsPoint, Windows}
use Rattle.tp_windows.specs.Ways.{StandsIn}

-- the elements that pass a test, parted by one that doesn't
pub record Parted (R : Slot → Slot → Type 0) (x : Slot) (kept-ones : List Slot) : Type 0 where
  pub before : List Slot
  pub behind : List Slot
  pub split : kept-ones ≡ before ++ behind
  pub after : All (λ k. R k x) before
  pub until : All (λ k. R x k) behind

abbrev kept_of_two : Bool → Slot → List Slot → List Slot
kept_of_two b y ys = cond b (y ∷ ys) ys

parted-here : (R : Slot → Slot → Type 0) (p : Slot → Bool) (ys : List Slot) (x y : Slot) → All (R y) ys → y ≡ x → p x ≡ false → Parted R x (filter p (y ∷ ys))
parted-here R p ys x y all same not =
    let gone : p y ≡ false = subst (λ z. p z ≡ false) (sym same) not in
    record {
      before = [];
      behind = filter p ys;
      split = rw gone refl;
      after = All-nil (λ k. R k x);
      until = All-filter p (R x) ys (subst (λ z. All (R z) ys) same all);
    }

parted-later : (R : Slot → Slot → Type 0) (x y : Slot) (b : Bool) (rest : List Slot) → R y x → Parted R x rest → Parted R x (kept_of_two b y rest)
parted-later R x y false rest apart parted = parted
parted-later R x y true rest apart parted = record {
  before = y ∷ parted.before;
  behind = parted.behind;
  split = ap (λ zs. y ∷ zs) parted.split;
  after = All-cons (λ k. R k x) y parted.before apart parted.after;
  until = parted.until;
}

pub parted : (R : Slot → Slot → Type 0) (p : Slot → Bool) (xs : List Slot) (x : Slot) → AllPairs R xs → Contains xs x → p x ≡ false → Parted R x (filter p xs)
parted R p [] x pairs in' not = absurd (omega (arith, in'.1))
parted R p (y ∷ ys) x pairs in' not = elim (Contains-cons_cases y ys x in') [
  | inl same ↦ parted-here R p ys x y (AllPairs-head R y ys pairs) same not
  | inr later ↦ parted-later R x y (p y) (filter p ys) (All-contains (R y) ys x (AllPairs-head R y ys pairs) later) (parted R p ys x (AllPairs-tail R y ys pairs) later not)
]

own-holds : (machine : Machine) (resource : ℕ) (choices : List Choice) (x : Slot) → Contains (own_slots machine resource choices) x → is_kept x ≡ false
own-holds machine resource choices x in' = All-contains (λ s. is_kept s ≡ false) (own_slots machine resource choices) x (All-own_slots (λ s. is_kept s ≡ false) machine resource choices (λ n within rule. refl)) in'

-- ticks in their windows
tick-more : (a : Anchor) (s e s' e' : ℕ) → s ≤ s' → e ≤ e' → tick_of a s e ≤ tick_of a s' e'
tick-more Start s e s' e' from to = from
tick-more End s e s' e' from to = to

more-off : (a b : ℕ) (off : ℤ) → a ≤ b → (pos a +ℤ off) ≤ℤ (pos b +ℤ off)
more-off a b off le = omega (arith, ints)

module _ (machine : Machine) (plans : List Plan) (w : Windows) (t : Ticks) (within : HoldsWithin w plans t) where
  abbrev IsBounded : Slot → Type 0
  IsBounded k = (end_at w.lo k ≤ℤ end_at t k) × (begin_at t k ≤ℤ begin_at w.hi k)

  point-of : (p : Plan) (i : ℕ) → Contains plans p → i ≤ length p.acts → IsPoint plans (kept p.sheet i)
  point-of p i in' le = record { plan = p; number = i; in_plans = in'; within = le; spot = refl }

  bounded-slot : (p : Plan) → Contains plans p → (i : ℕ) → i < length p.acts → (rule : HoldRule) → IsBounded (record { rule = rule; from = kept p.sheet i; to = kept p.sheet (suc i) })
  bounded-slot p in' i less rule =
      let from = within (kept p.sheet i) (point-of p i in' (omega (arith, less))) in
      let to = within (kept p.sheet (suc i)) (point-of p (suc i) in' (omega (arith, less))) in (
        more-off (tick_of rule.end (w.lo (kept p.sheet i)) (w.lo (kept p.sheet (suc i)))) (tick_of rule.end (t (kept p.sheet i)) (t (kept p.sheet (suc i)))) rule.end_off
            (tick-more rule.end (w.lo (kept p.sheet i)) (w.lo (kept p.sheet (suc i))) (t (kept p.sheet i)) (t (kept p.sheet (suc i))) from.0 to.0),
        more-off (tick_of rule.begin (t (kept p.sheet i)) (t (kept p.sheet (suc i)))) (tick_of rule.begin (w.hi (kept p.sheet i)) (w.hi (kept p.sheet (suc i)))) rule.begin_off
            (tick-more rule.begin (t (kept p.sheet i)) (t (kept p.sheet (suc i))) (w.hi (kept p.sheet i)) (w.hi (kept p.sheet (suc i))) from.1 to.1),
      )

  pub bounded-slots : (resource : ℕ) (k : Slot) → Contains (slot_order machine plans resource) k → IsBounded k
  bounded-slots resource k in' = All-contains IsBounded (slots machine resource plans) k (All-slots IsBounded machine resource plans bounded-slot) (in-slots machine plans resource k in')

  le-end : (a b g c : ℤ) → a ≤ℤ b → (b +ℤ g) ≤ℤ c → (a +ℤ g) ≤ℤ c
  le-end a b g c less apart = omega (arith, ints)

  le-begin : (a b c : ℤ) → a ≤ℤ b → b ≤ℤ c → a ≤ℤ c
  le-begin a b c less more = omega (arith, ints)

  from-parted : (resource : ℕ) (x : Slot) → Parted (IsApart (gap_at machine resource) t) x (slot_order machine plans resource)
      → StandsIn (gap_at machine resource) w x.rule (t x.from) (t x.to) (slot_order machine plans resource)
  from-parted resource x parts =
      let gap : ℕ = gap_at machine resource in
      record {
        before = parts.before;
        behind = parts.behind;
        split = parts.split;
        after = All-from_contains (λ k. (end_at w.lo k +ℤ pos (gap_between gap k.rule x.rule)) ≤ℤ begin_of x.rule (t x.from) (t x.to)) parts.before (λ k in'.
            le-end (end_at w.lo k) (end_at t k) (pos (gap_between gap k.rule x.rule)) (begin_at t x)
            (bounded-slots resource k (subst (λ ks. Contains ks k) (sym parts.split) (Contains-append_left parts.before parts.behind k in'))).0
            (All-contains (λ k'. IsApart gap t k' x) parts.before k parts.after in'));
        until = All-from_contains (λ k. (end_of x.rule (t x.from) (t x.to) +ℤ pos (gap_between gap x.rule k.rule)) ≤ℤ begin_at w.hi k) parts.behind (λ k in'.
            le-begin (end_at t x +ℤ pos (gap_between gap x.rule k.rule)) (begin_at t k) (begin_at w.hi k)
            (All-contains (λ k'. IsApart gap t x k') parts.behind k parts.until in')
            (bounded-slots resource k (subst (λ ks. Contains ks k) (sym parts.split) (Contains-append_right parts.before parts.behind k in'))).1);
      }

  -- each hold of these choices stands in a gap
  abbrev pub AllStand : List Choice → Type 0
  AllStand choices = (resource : ℕ) (x : Slot) → Contains (own_slots machine resource choices) x → StandsIn (gap_at machine resource) w x.rule (t x.from) (t x.to) (slot_order machine plans resource)

  pub all-stand : (choices : List Choice) → HavePlaces machine (slot_order machine plans) choices → ((resource : ℕ) → AllPairs (IsApart (gap_at machine resource) t) (placed machine resource (slot_order machine plans resource) choices)) → AllStand choices
  all-stand choices places apart resource x in' =
      let order : List Slot = placed machine resource (slot_order machine plans resource) choices in
      let all : List Slot = own_slots machine resource choices ++ slot_order machine plans resource in
      let there : Contains order x = Contains-permutation all order x (IsPermutation-placed machine resource (slot_order machine plans) choices places) (Contains-append_left (own_slots machine resource choices) (slot_order machine plans resource) x in') in
      from-parted resource x (subst (Parted (IsApart (gap_at machine resource) t) x) (kept-placed machine plans resource choices) (parted (IsApart (gap_at machine resource) t) is_kept order x (apart resource) there (own-holds machine resource choices x in')))
