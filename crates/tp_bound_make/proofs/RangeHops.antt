-- Hops that are allowed where a hold has one place are allowed where it has several, but for those to a hold on a side where
-- other places are.
use Rattle.std.proofs.Common.{◌≡◌, ◌⊎◌, inl, inr, ℕ, zero, suc, ◌-◌, ◌≤◌, ◌<◌, Bool, true, false, cond, ◌==◌, List, [], ◌∷◌, ◌++◌, length, insert, take, drop, reverse, refl, sym, ◌∙◌, ap, subst, arith, AllPairs, Option, Some, None, find, position}
use Rattle.std.specs.Prelude.{slice_get, nat_le, nat_lt, ℤ, ◌+ℤ◌, option_map}
use Rattle.std.specs.Str.{bytes_eq}
use Rattle.std.proofs.lemmas.Bool.{eqb-true, and_from}
use Rattle.std.proofs.lemmas.List.Quantifiers.{position-Some}
use Rattle.std.proofs.lemmas.Option.{get_or_from_slice_get}
use Rattle.std.proofs.lemmas.Slice.Eq.{bytes_eq-Decides}
use Rattle.tp_base.proofs.TraceFacts.{reverse-cons}
use Rattle.tp_bounds.specs.declared.hops.Hop.{Hop}
use Rattle.tp_bounds.specs.declared.hops.Hop.TheVariants.{Duration, Line, «Resource» as Res}
use Rattle.tp_bounds.specs.declared.hops.TreeHold.{TreeHold}
use Rattle.tp_bounds.specs.declared.hops.TreeHold.TheVariants.{Own as OwnHold, Kept as KeptHold}
use Rattle.tp_machine.specs.Modes.{gap_at}
use Rattle.tp_machine.specs.ModuleUse.{action_at}
use Rattle.tp_machine.specs.declared.parts.HoldRule.{HoldRule}
use Rattle.tp_machine.specs.declared.parts.Resource.{Resource}
use Rattle.tp_machine.specs.declared.parts.State.{State}
use Rattle.tp_machine.specs.declared.machine.Machine.{Machine}
use Rattle.tp_schedule.specs.Choices.{Choice, placed}
use Rattle.tp_schedule.specs.Holders.{holds_of_act}
use Rattle.tp_schedule.specs.Plans.{IsEarlier}
use Rattle.tp_schedule.specs.Spots.{Slot, Spot, slot_order}
use Rattle.tp_schedule.specs.Spots.Spot.{kept, own}
use Rattle.tp_schedule.specs.declared.parts.Ask.{Ask}
use Rattle.tp_schedule.specs.declared.parts.Plan.{Plan}
use Rattle.tp_constraints.specs.Gaps.{Gap, slot_gap}
use Rattle.tp_constraints.specs.Numbers.{is_same_spot}
use Rattle.tp_constraints.specs.Suffixes.{Suffix, choice_slot, place_first, with_place}
use Rattle.tp_constraints.proofs.PointNumbers.{same_spot-is}
use Rattle.tp_constraints.proofs.PlaceGaps.{put_places-push}
use Rattle.tp_bound_laws.specs.Chains.{act_in, choice_act, duration_gap, follow, from_here, gap_behind, gap_in, gap_of, hold_gap, led_on, least_gap, line_gap, most_gap, or_else, own_act, own_start, plan_named, point_gap, resource_gap, spot_of, start_in, start_of}
use Rattle.tp_bound_laws.specs.Chains.Led.{led}
use Rattle.tp_bound_laws.specs.Once.{passed, passed_on}
use Rattle.tp_bound_laws.specs.Places.{Stand}
use Rattle.tp_bound_laws.proofs.AllowedHops.{gap-found}
use Rattle.tp_bound_laws.proofs.SideReasons.{from-found, from-none, insert-at, into-found, into-none}
use Rattle.tp_bound_laws.proofs.ApartStarts.{Apart, starts-apart}
use Rattle.tp_bound_laws.proofs.Lists.{number-same}
use Rattle.tp_bound_make.specs.Ranges.{is_own_hold, leads}
use Rattle.tp_bound_make.specs.declared.side.Side.TheVariants.{Before, Behind}

-- ---- orders
-- the holds that a gap of an order is between
record IsGapIn (width : ℕ) (before after : Spot) (slots : List Slot) (g : Gap) : Type 0 where
  i : ℕ
  j : ℕ
  a : Slot
  b : Slot
  below : i < j
  at_a : slice_get slots i ≡ Some a
  at_b : slice_get slots j ≡ Some b
  from_a : a.from ≡ before
  from_b : b.from ≡ after
  is : slot_gap width a b ≡ g

find-at : (after : Spot) (slots : List Slot) (b : Slot) → find (λ q. is_same_spot q.from after) slots ≡ Some b → (j : ℕ) × (slice_get slots j ≡ Some b) × (b.from ≡ after)
find-at after [] b e = absurd cc
find-at after (y ∷ slots) b e = go (is_same_spot y.from after) refl e (find-at after slots b) where
  go : (t : Bool) → is_same_spot y.from after ≡ t → cond t (Some y) (find (λ q. is_same_spot q.from after) slots) ≡ Some b → (find (λ q. is_same_spot q.from after) slots ≡ Some b → (j : ℕ) × (slice_get slots j ≡ Some b) × (b.from ≡ after))
      → (j : ℕ) × (slice_get (y ∷ slots) j ≡ Some b) × (b.from ≡ after)
  go true u h rest = let same : y ≡ b = cc in (0, h, subst (λ (k : Slot). k.from ≡ after) same (same_spot-is y.from after u))
  go false u h rest = let r = rest h in (suc r.0, r.1, r.2)

gap-holds : (width : ℕ) (before after : Spot) (slots : List Slot) (g : Gap) → gap_in width before after slots ≡ Some g → IsGapIn width before after slots g
gap-holds width before after [] g e = absurd cc
gap-holds width before after (y ∷ slots) g e = go (is_same_spot y.from before) refl e (gap-holds width before after slots g) where
  here : is_same_spot y.from before ≡ true → (o : Option Slot) → find (λ b. is_same_spot b.from after) slots ≡ o → option_map (slot_gap width y) o ≡ Some g → IsGapIn width before after (y ∷ slots) g
  here u None f h = absurd cc
  here u (Some b) f h =
      let r = find-at after slots b f in
      record { i = 0; j = suc r.0; a = y; b = b; below = omega arith; at_a = refl; at_b = r.1; from_a = same_spot-is y.from before u; from_b = r.2; is = cc }

  go : (t : Bool) → is_same_spot y.from before ≡ t → cond t (gap_behind width y after slots) (gap_in width before after slots) ≡ Some g → (gap_in width before after slots ≡ Some g → IsGapIn width before after slots g)
      → IsGapIn width before after (y ∷ slots) g
  go true u h rest = here u (find (λ b. is_same_spot b.from after) slots) refl h
  go false u h rest =
      let r = rest h in
      let less = r.below in
      record { i = suc r.i; j = suc r.j; a = r.a; b = r.b; below = omega (arith, less); at_a = r.at_a; at_b = r.at_b; from_a = r.from_a; from_b = r.from_b; is = r.is }

-- a gap in an order with a hold at a place is one without it, or one with the hold at several places
module _ (width : ℕ) (xs : List Slot) (place lo hi : ℕ) (s : Slot) (from : lo ≤ place) (until : place ≤ hi) (within : hi ≤ length xs) (pairs : AllPairs Apart (insert xs place s)) (apart : AllPairs Apart xs) where
  abbrev Stays : Spot → Spot → Gap → Type 0
  Stays before after g = (gap_in width before after xs ≡ Some g) ⊎ ((gap_in width before after xs ≡ None) × (gap_in width before after (take lo xs ++ s ∷ drop hi xs) ≡ Some g))

  between : (i j : ℕ) (a b : Slot) → i < j → slice_get (insert xs place s) i ≡ Some a → slice_get (insert xs place s) j ≡ Some b → (a.from ≡ s.from → place ≡ hi) → (b.from ≡ s.from → place ≡ lo) → Stays a.from b.from (slot_gap width a b)
  between i j a b below at-a at-b if_from if_into = pick (insert-at xs place i s a (omega arith) at-a) (insert-at xs place j s b (omega arith) at-b) where
    pick : ((i < place) × (slice_get xs i ≡ Some a)) ⊎ (((i ≡ place) × (a ≡ s)) ⊎ ((m : ℕ) × (i ≡ suc m) × (place ≤ m) × (slice_get xs m ≡ Some a)))
        → ((j < place) × (slice_get xs j ≡ Some b)) ⊎ (((j ≡ place) × (b ≡ s)) ⊎ ((m : ℕ) × (j ≡ suc m) × (place ≤ m) × (slice_get xs m ≡ Some b))) → Stays a.from b.from (slot_gap width a b)
    pick (inl p) (inl q) = inl (gap-found width xs i j a b apart below p.1 q.1)
    pick (inl p) (inr (inl q)) =
        let first = if_into (ap (λ (k : Slot). k.from) q.1) in
        subst (λ (k : Slot). Stays a.from k.from (slot_gap width a k)) (sym q.1)
        (inr (into-none width xs place lo hi s from until within pairs a.from, into-found width xs place lo hi s from until within pairs i a (omega (arith, p.0, first)) p.1))
    pick (inl p) (inr (inr q)) = inl (gap-found width xs i q.0 a b apart (omega (arith, p.0, q.2)) p.1 q.3)
    pick (inr (inl p)) (inl q) = absurd (omega (arith, below, p.0, q.0))
    pick (inr (inl p)) (inr (inl q)) = absurd (omega (arith, below, p.0, q.0))
    pick (inr (inl p)) (inr (inr q)) =
        let last = if_from (ap (λ (k : Slot). k.from) p.1) in
        subst (λ (k : Slot). Stays k.from b.from (slot_gap width k b)) (sym p.1)
        (inr (from-none width xs place lo hi s from until within pairs b.from, from-found width xs place lo hi s from until within pairs q.0 b (omega (arith, q.2, last)) q.3))
    pick (inr (inr p)) (inl q) = absurd (omega (arith, below, p.1, p.2, q.0))
    pick (inr (inr p)) (inr (inl q)) = absurd (omega (arith, below, p.1, p.2, q.0))
    pick (inr (inr p)) (inr (inr q)) = inl (gap-found width xs p.0 q.0 a b apart (omega (arith, below, p.1, q.1)) p.3 q.3)

  gap-stays : (before after : Spot) (g : Gap) → gap_in width before after (insert xs place s) ≡ Some g → (before ≡ s.from → place ≡ hi) → (after ≡ s.from → place ≡ lo) → Stays before after g
  gap-stays before after g e if_from if_into =
      let p = gap-holds width before after (insert xs place s) g e in
      let here = between p.i p.j p.a p.b p.below p.at_a p.at_b (λ h. if_from (sym p.from_a ∙ h)) (λ h. if_into (sym p.from_b ∙ h)) in
      subst (λ q. Stays q after g) p.from_a (subst (λ q. Stays p.a.from q g) p.from_b (subst (Stays p.a.from p.b.from) p.is here))

-- ---- durations
-- the newest choice may have other places
act-at : (xs : List Choice) (c d : Choice) (k : ℕ) → d.act ≡ c.act → choice_act (slice_get (xs ++ d ∷ []) k) ≡ choice_act (slice_get (xs ++ c ∷ []) k)
act-at [] c d zero same = ap (λ a. Some a) same
act-at [] c d (suc k) same = refl
act-at (x ∷ xs) c d zero same = refl
act-at (x ∷ xs) c d (suc k) same = act-at xs c d k same

own_act-stays : (machine : Machine) (c d : Choice) (cs : List Choice) (k : ℕ) → d.act ≡ c.act → own_act machine (d ∷ cs) k ≡ own_act machine (c ∷ cs) k
own_act-stays machine c d cs k same =
    ap (act_in machine) (ap (λ zs. choice_act (slice_get zs k)) (reverse-cons d cs) ∙ act-at (reverse cs) c d k same ∙ ap (λ zs. choice_act (slice_get zs k)) (sym (reverse-cons c cs)))

duration-stays : (machine : Machine) (plans : List Plan) (c d : Choice) (cs : List Choice) (p q : Spot) → d.act ≡ c.act → duration_gap machine plans (d ∷ cs) p q ≡ duration_gap machine plans (c ∷ cs) p q
duration-stays machine plans c d cs (kept k i) (kept l j) same = refl
duration-stays machine plans c d cs (kept k i) (own n) same = refl
duration-stays machine plans c d cs (own m) (kept l j) same = refl
duration-stays machine plans c d cs (own m) (own n) same =
    let a = own_act-stays machine c d cs n same in
    let b = own_act-stays machine c d cs m same in
    λ i. cond (m == suc n) (least_gap (own (suc n)) (own n) (a i)) (cond (n == suc m) (most_gap (own m) (own (suc m)) (b i)) None)

-- ---- holds
own-start : (n : ℕ) (m : ℕ) → own_start n m ≡ Some (own n) → (m == n) ≡ true
own-start n zero e = absurd cc
own-start n (suc m) e = go (nat_le (suc m) n) e where
  go : (t : Bool) → cond t (Some (own (suc m))) None ≡ Some (own n) → (suc m == n) ≡ true
  go true h = let same : suc m ≡ n = cc in subst (λ k. (suc m == k) ≡ true) same (number-same (suc m))
  go false h = absurd cc

kept-start : (n i : ℕ) (o : Option Plan) → start_in i o ≡ Some (own n) → ⊥
kept-start n zero o e = absurd cc
kept-start n (suc i) None e = absurd cc
kept-start n (suc i) (Some p) e = go (nat_lt i (length p.acts)) e where
  go : (t : Bool) → cond t (Some (kept p.sheet i)) None ≡ Some (own n) → ⊥
  go true h = absurd cc
  go false h = absurd cc

own-hold : (plans : List Plan) (n : ℕ) (h : TreeHold) → start_of plans n h ≡ Some (own n) → is_own_hold n h ≡ true
own-hold plans n (OwnHold m) e = own-start n m e
own-hold plans n (KeptHold name i) e = absurd (kept-start n i (plan_named name plans) e)

-- ---- one place, and several
module _ (machine : Machine) (plans : List Plan) (ask : Ask) (limit : ℤ) (rule : HoldRule) (res : Resource) (place lo hi : ℕ) (in_order : AllPairs IsEarlier plans) (at : slice_get machine.resources rule.resource.0 ≡ Some res) (from : lo ≤ place) (until : place ≤ hi) where
  abbrev rr : ℕ
  rr = rule.resource.0

  module _ (c : Choice) (cs : List Choice) (rooms : List ℕ) (stopped : Bool) (depth : ℕ) (first : State) (next : slice_get (holds_of_act (action_at machine c.act.0)) (length c.places) ≡ Some rule)
      (within : hi ≤ length (placed machine rule.resource.0 (slot_order machine plans rule.resource.0) (c ∷ cs))) where
    abbrev pub here : Suffix
    here = record { choices = c ∷ cs; rooms = rooms; stopped = stopped }

    -- where the hold has one place, and where it has several
    abbrev pub one : Stand
    one = record { branch = record { depth = suc depth; first = first; x = with_place place (record { choices = c ∷ cs; rooms = rooms; stopped = stopped }) }; span = None }

    abbrev pub many : Stand
    many = record { branch = record { depth = suc depth; first = first; x = record { choices = c ∷ cs; rooms = rooms; stopped = stopped } }; span = Some (record { rule = rule; lo = lo; hi = hi }) }

    abbrev count : ℕ
    count = suc (length cs)

    abbrev slot : Slot
    slot = choice_slot rule (length (c ∷ cs) - 1)

    abbrev order : ℕ → List Slot
    order r = placed machine r (slot_order machine plans r) (c ∷ cs)

    abbrev grown : ℕ → List Slot
    grown r = placed machine r (slot_order machine plans r) (place_first place (c ∷ cs))

    order-here : grown rr ≡ insert (order rr) place slot
    order-here =
        let n : length (c ∷ cs) - 1 ≡ length cs = omega arith in
        put_places-push rr (own (suc (length cs))) (own (length cs)) (holds_of_act (action_at machine c.act.0)) c.places place rule (placed machine rr (slot_order machine plans rr) cs) next
        ∙ ap (λ t. cond t (insert (order rr) place (choice_slot rule (length cs))) (order rr)) (number-same rr) ∙ ap (λ k. insert (order rr) place (choice_slot rule k)) (sym n)

    order-other : (r : ℕ) → (rr == r) ≡ false → grown r ≡ order r
    order-other r differs =
        put_places-push r (own (suc (length cs))) (own (length cs)) (holds_of_act (action_at machine c.act.0)) c.places place rule (placed machine r (slot_order machine plans r) cs) next
        ∙ ap (λ t. cond t (insert (order r) place (choice_slot rule (length cs))) (order r)) differs

    own-slot : own (suc (length (c ∷ cs) - 1)) ≡ own (suc (length cs))
    own-slot = let n : length (c ∷ cs) - 1 ≡ length cs = omega arith in ap (λ k. own (suc k)) n

    none-else : (o : Option Gap) → or_else o None ≡ o
    none-else None = refl
    none-else (Some g) = refl

    resource-here : (before after : Spot) (g : Gap) → gap_in (gap_at machine rr) before after (grown rr) ≡ Some g → (before ≡ own count → place ≡ hi) → (after ≡ own count → place ≡ lo) → resource_gap machine plans ask limit many rr before after ≡ Some g
    resource-here before after g e if_from if_into =
        stays (gap-stays (gap_at machine rr) (order rr) place lo hi slot from until within pairs (starts-apart machine plans here rr in_order) before after g (subst (λ xs. gap_in (gap_at machine rr) before after xs ≡ Some g) order-here e) (λ h. if_from (h ∙ own-slot))
        (λ h. if_into (h ∙ own-slot))) where
          pairs : AllPairs Apart (insert (order rr) place slot)
          pairs = subst (AllPairs Apart) order-here (starts-apart machine plans (with_place place here) rr in_order)

          stays : (gap_in (gap_at machine rr) before after (order rr) ≡ Some g) ⊎ ((gap_in (gap_at machine rr) before after (order rr) ≡ None) × (gap_in (gap_at machine rr) before after (take lo (order rr) ++ slot ∷ drop hi (order rr)) ≡ Some g))
              → resource_gap machine plans ask limit many rr before after ≡ Some g
          stays (inl h) = rw h refl
          stays (inr h) = let t = number-same rr in let none = h.0 in let some = h.1 in rw none (rw t some)

    resource-stays : (r : ℕ) (before after : Spot) (g : Gap) → resource_gap machine plans ask limit one r before after ≡ Some g → (r ≡ rr → before ≡ own count → place ≡ hi) → (r ≡ rr → after ≡ own count → place ≡ lo)
        → resource_gap machine plans ask limit many r before after ≡ Some g
    resource-stays r before after g e if_from if_into = go (rr == r) refl where
      alone : gap_in (gap_at machine r) before after (grown r) ≡ Some g
      alone = sym (none-else (gap_in (gap_at machine r) before after (grown r))) ∙ e

      go : (t : Bool) → (rr == r) ≡ t → resource_gap machine plans ask limit many r before after ≡ Some g
      go false u = let h : gap_in (gap_at machine r) before after (order r) ≡ Some g = subst (λ xs. gap_in (gap_at machine r) before after xs ≡ Some g) (order-other r u) alone in rw h refl
      go true u =
          let same : rr ≡ r = eqb-true rr r u in
          let back : r ≡ rr = sym same in
          subst (λ k. resource_gap machine plans ask limit many k before after ≡ Some g) same
          (resource-here before after g (subst (λ k. gap_in (gap_at machine k) before after (grown k) ≡ Some g) back alone) (if_from back) (if_into back))

    -- the name of a hop is that of the resource
    named : (r : ℕ) (name : List ℕ) → position (λ (q : Resource). bytes_eq q.name name) machine.resources ≡ Some r → r ≡ rr → bytes_eq name res.name ≡ true
    named r name found same =
        let p = position-Some (λ (q : Resource). bytes_eq q.name name) machine.resources r res found in
        let there : slice_get machine.resources r ≡ Some res = ap (slice_get machine.resources) same ∙ at in
        let is : bytes_eq res.name name ≡ true = subst (λ (q : Resource). bytes_eq q.name name ≡ true) (get_or_from_slice_get machine.resources r res res there) p.1 in
        (bytes_eq-Decides name res.name).1 (sym ((bytes_eq-Decides res.name name).0 is))

    hop-stays : (at' : Spot) (h : Hop) (g : Gap) → gap_of machine plans ask limit one at' h ≡ Some g → (leads Behind res.name count h ≡ true → place ≡ hi) → (leads Before res.name count h ≡ true → place ≡ lo) → gap_of machine plans ask limit many at' h ≡ Some g
    hop-stays at' (Duration to) g e if_from if_into = go (spot_of plans count to) e where
      go : (o : Option Spot) → point_gap machine plans ask limit one (duration_gap machine plans (place_first place (c ∷ cs))) at' o ≡ Some g → point_gap machine plans ask limit many (duration_gap machine plans (c ∷ cs)) at' o ≡ Some g
      go None d = absurd cc
      go (Some q) d = sym (duration-stays machine plans c (record { act = c.act; places = c.places ++ place ∷ [] }) cs at' q refl) ∙ d
    hop-stays at' (Line to) g e if_from if_into = go (spot_of plans count to) e where
      go : (o : Option Spot) → point_gap machine plans ask limit one (line_gap ask plans) at' o ≡ Some g → point_gap machine plans ask limit many (line_gap ask plans) at' o ≡ Some g
      go None d = absurd cc
      go (Some q) d = d
    hop-stays at' (Res name before after) g e if_from if_into = go (position (λ (q : Resource). bytes_eq q.name name) machine.resources) (start_of plans count before) (start_of plans count after) refl refl refl e where
      gaps : (r : ℕ) (p q : Spot) → ((k : Gap) → resource_gap machine plans ask limit one r p q ≡ Some k → resource_gap machine plans ask limit many r p q ≡ Some k) → (o : Option Gap) → resource_gap machine plans ask limit one r p q ≡ o → from_here at' o ≡ Some g
          → from_here at' (resource_gap machine plans ask limit many r p q) ≡ Some g
      gaps r p q each None u d = absurd cc
      gaps r p q each (Some k) u d = ap (from_here at') (each k u) ∙ d

      go : (o : Option ℕ) (p q : Option Spot) → position (λ (q : Resource). bytes_eq q.name name) machine.resources ≡ o → start_of plans count before ≡ p → start_of plans count after ≡ q → from_here at' (hold_gap machine plans ask limit one o p q) ≡ Some g
          → from_here at' (hold_gap machine plans ask limit many o p q) ≡ Some g
      go None p q u v w d = absurd cc
      go (Some r) None q u v w d = absurd cc
      go (Some r) (Some p) None u v w d = absurd cc
      go (Some r) (Some p) (Some q) u v w d =
          gaps r p q
          (λ k f. resource-stays r p q k f (λ same is. if_from (and_from (bytes_eq name res.name) (is_own_hold count before) (named r name u same) (own-hold plans count before (v ∙ ap (λ s. Some s) is))))
          (λ same is. if_into (and_from (bytes_eq name res.name) (is_own_hold count after) (named r name u same) (own-hold plans count after (w ∙ ap (λ s. Some s) is)))))
          (resource_gap machine plans ask limit one r p q) refl d

    -- hops lead where they led
    pub follow-stays : (k : ℕ) (at' : Spot) (sum : ℤ) (hops : List Hop) (to : Spot) (total : ℤ) → ((i : ℕ) (h : Hop) → slice_get hops i ≡ Some h → leads Behind res.name count h ≡ true → place ≡ hi)
        → ((i : ℕ) (h : Hop) → slice_get hops i ≡ Some h → leads Before res.name count h ≡ true → place ≡ lo)
        → follow machine plans ask limit one k at' sum hops ≡ led to total → follow machine plans ask limit many k at' sum hops ≡ led to total
    follow-stays k at' sum [] to total behind before e = e
    follow-stays k at' sum (h ∷ hops) to total behind before e =
        go (gap_of machine plans ask limit one at' h) refl e (λ g. follow-stays (suc k) g.to (sum +ℤ g.weight) hops to total (λ i. behind (suc i)) (λ i. before (suc i))) where
          go : (o : Option Gap) → gap_of machine plans ask limit one at' h ≡ o → led_on k (λ g. follow machine plans ask limit one (suc k) g.to (sum +ℤ g.weight) hops) o ≡ led to total
              → ((g : Gap) → follow machine plans ask limit one (suc k) g.to (sum +ℤ g.weight) hops ≡ led to total → follow machine plans ask limit many (suc k) g.to (sum +ℤ g.weight) hops ≡ led to total)
              → follow machine plans ask limit many k at' sum (h ∷ hops) ≡ led to total
          go None u d rest = absurd cc
          go (Some g) u d rest =
              ap (led_on k (λ g'. follow machine plans ask limit many (suc k) g'.to (sum +ℤ g'.weight) hops)) (hop-stays at' h g u (behind 0 h refl) (before 0 h refl)) ∙ rest g d

    -- and they pass the same points
    pub passed-stays : (k : ℕ) (at' : Spot) (sum : ℤ) (hops : List Hop) (to : Spot) (total : ℤ) → ((i : ℕ) (h : Hop) → slice_get hops i ≡ Some h → leads Behind res.name count h ≡ true → place ≡ hi)
        → ((i : ℕ) (h : Hop) → slice_get hops i ≡ Some h → leads Before res.name count h ≡ true → place ≡ lo)
        → follow machine plans ask limit one k at' sum hops ≡ led to total → passed machine plans ask limit one at' hops ≡ passed machine plans ask limit many at' hops
    passed-stays k at' sum [] to total behind before e = refl
    passed-stays k at' sum (h ∷ hops) to total behind before e =
        go (gap_of machine plans ask limit one at' h) refl e (λ g. passed-stays (suc k) g.to (sum +ℤ g.weight) hops to total (λ i. behind (suc i)) (λ i. before (suc i))) where
          go : (o : Option Gap) → gap_of machine plans ask limit one at' h ≡ o → led_on k (λ g. follow machine plans ask limit one (suc k) g.to (sum +ℤ g.weight) hops) o ≡ led to total
              → ((g : Gap) → follow machine plans ask limit one (suc k) g.to (sum +ℤ g.weight) hops ≡ led to total → passed machine plans ask limit one g.to hops ≡ passed machine plans ask limit many g.to hops)
              → passed machine plans ask limit one at' (h ∷ hops) ≡ passed machine plans ask limit many at' (h ∷ hops)
          go None u d rest = absurd cc
          go (Some g) u d rest =
              ap (passed_on machine plans ask limit one (λ g'. passed machine plans ask limit one g'.to hops)) u
              ∙ ap (λ ps. g.to ∷ ps) (rest g d)
              ∙ sym (ap (passed_on machine plans ask limit many (λ g'. passed machine plans ask limit many g'.to hops)) (hop-stays at' h g u (behind 0 h refl) (before 0 h refl)))
