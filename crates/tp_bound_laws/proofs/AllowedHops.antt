-- Each hop of a board's reason is allowed as it is named, and says the same.
use Rattle.std.proofs.Common.{◌≡◌, ◌≢◌, inl, inr, ℕ, zero, suc, ◌≤◌, ◌<◌, Bool, true, false, cond, ◌&&◌, ◌==◌, List, [], ◌∷◌, length, reverse, refl, sym, ◌∙◌, ap, subst, arith, AllPairs, Contains, Some, find}
use Rattle.std.specs.Prelude.{slice_get, nat_le, nat_lt, pos, neg_ℤ, option_map}
use Rattle.std.specs.Str.{bytes_eq}
use Rattle.std.proofs.lemmas.Bool.{eqb-true, and_parts, and_from}
use Rattle.std.proofs.lemmas.Bool.Decides.{nat_tests}
use Rattle.std.proofs.lemmas.List.Elements.{All-contains}
use Rattle.std.proofs.lemmas.Slice.Eq.{bytes_eq-Decides}
use Rattle.tp_bounds.specs.declared.hops.TreePoint.{TreePoint}
use Rattle.tp_bounds.specs.declared.hops.TreePoint.TheVariants.{Own as OwnPoint, Kept as KeptPoint}
use Rattle.tp_machine.specs.ModuleUse.{action_at}
use Rattle.tp_machine.specs.declared.parts.Action.{Action}
use Rattle.tp_machine.specs.declared.parts.ActId.{ActId}
use Rattle.tp_machine.specs.declared.machine.Machine.{Machine}
use Rattle.tp_schedule.specs.Choices.{Choice}
use Rattle.tp_schedule.specs.Plans.{AreNamed, IsEarlier, is_same_copy, plan_of}
use Rattle.tp_schedule.specs.Spots.{Slot, Spot}
use Rattle.tp_schedule.specs.Spots.Spot.{kept, own}
use Rattle.tp_schedule.specs.declared.parts.Plan.{Plan}
use Rattle.tp_schedule.proofs.CopyFacts.{plan_of-itself, same_copy-refl}
use Rattle.tp_schedule.proofs.Membership.{Contains-cons_cases, Contains-here, Contains-later}
use Rattle.tp_schedule.proofs.Pairs.{AllPairs-head, AllPairs-tail}
use Rattle.tp_constraints.specs.Gaps.{IsPoint, gap, slot_gap}
use Rattle.tp_constraints.specs.Numbers.{is_same_spot}
use Rattle.tp_constraints.specs.Hops.{IsRun}
use Rattle.tp_constraints.specs.Hops.IsRun.{kept_run, own_run}
use Rattle.tp_constraints.proofs.Lists.{contains-get}
use Rattle.tp_constraints.proofs.PointNumbers.{same_spot-is, same_spot-refl}
use Rattle.tp_bound_laws.specs.Chains.{act_in, acts_in, choice_act, duration_gap, gap_behind, gap_in, is_plan_of, kept_act, least_gap, most_gap, own_act, plan_named, point_in, spot_of}
use Rattle.tp_bound_laws.specs.Told.{point_name, sheet_name}
use Rattle.tp_bound_laws.proofs.ApartStarts.{Apart}
use Rattle.tp_bound_laws.proofs.Lists.{number-same}

other-number : (m n : ℕ) → m ≢ n → (m == n) ≡ false
other-number m n e = grind (arith, nat_tests)

pub le-to : (a b : ℕ) → a ≤ b → nat_le a b ≡ true
le-to a b e = grind (arith, nat_tests)

pub lt-to : (a b : ℕ) → a < b → nat_lt a b ≡ true
lt-to a b e = grind (arith, nat_tests)

-- ---- orders
find-slot : (slots : List Slot) (j : ℕ) (b : Slot) → AllPairs Apart slots → slice_get slots j ≡ Some b → find (λ q. is_same_spot q.from b.from) slots ≡ Some b
find-slot [] j b pairs e = absurd cc
find-slot (s ∷ slots) zero b pairs e = let same : s ≡ b = cc in let t : is_same_spot s.from b.from ≡ true = subst (λ (k : Slot). is_same_spot s.from k.from ≡ true) same (same_spot-refl s.from) in rw t (ap (λ k. Some k) same)
find-slot (s ∷ slots) (suc j) b pairs e = go (is_same_spot s.from b.from) refl (find-slot slots j b (AllPairs-tail Apart s slots pairs) e) where
  go : (t : Bool) → is_same_spot s.from b.from ≡ t → find (λ q. is_same_spot q.from b.from) slots ≡ Some b → cond t (Some s) (find (λ q. is_same_spot q.from b.from) slots) ≡ Some b
  go true u rest = absurd (All-contains (Apart s) slots b (AllPairs-head Apart s slots pairs) (contains-get slots j b e) (same_spot-is s.from b.from u))
  go false u rest = rest

pub gap-found : (width : ℕ) (order : List Slot) (i j : ℕ) (a b : Slot) → AllPairs Apart order → i < j → slice_get order i ≡ Some a → slice_get order j ≡ Some b → gap_in width a.from b.from order ≡ Some (slot_gap width a b)
gap-found width [] i j a b pairs below x y = absurd cc
gap-found width (s ∷ slots) i zero a b pairs below x y = absurd (omega (arith, below))
gap-found width (s ∷ slots) zero (suc j) a b pairs below x y =
    let same : s ≡ a = cc in
    let t : is_same_spot s.from a.from ≡ true = subst (λ (k : Slot). is_same_spot s.from k.from ≡ true) same (same_spot-refl s.from) in
    let f = find-slot slots j b (AllPairs-tail Apart s slots pairs) y in
    rw t (ap (option_map (slot_gap width s)) f ∙ ap (λ (k : Slot). Some (slot_gap width k b)) same)
gap-found width (s ∷ slots) (suc i) (suc j) a b pairs below x y = go (is_same_spot s.from a.from) refl (gap-found width slots i j a b (AllPairs-tail Apart s slots pairs) (omega arith) x y) where
  go : (t : Bool) → is_same_spot s.from a.from ≡ t → gap_in width a.from b.from slots ≡ Some (slot_gap width a b) → cond t (gap_behind width s b.from slots) (gap_in width a.from b.from slots) ≡ Some (slot_gap width a b)
  go true u rest = absurd (All-contains (Apart s) slots a (AllPairs-head Apart s slots pairs) (contains-get slots i a x) (same_spot-is s.from a.from u))
  go false u rest = rest

-- ---- names
find-one : {X : Type 0} (test : X → Bool) (xs : List X) (x : X) → Contains xs x → test x ≡ true → ((y : X) → Contains xs y → test y ≡ true → y ≡ x) → find test xs ≡ Some x
find-one test [] x in' passes only = absurd (omega (arith, in'.1))
find-one test (y ∷ xs) x in' passes only = go (test y) refl (λ later. find-one test xs x later passes (λ z in-z. only z (Contains-later y xs z in-z))) where
  go : (b : Bool) → test y ≡ b → (Contains xs x → find test xs ≡ Some x) → cond b (Some y) (find test xs) ≡ Some x
  go true e rest = ap (λ k. Some k) (only y (Contains-here y xs) e)
  go false e rest = elim (Contains-cons_cases y xs x in') [
    | inl is ↦ let no : test x ≡ false = subst (λ k. test k ≡ false) is e in absurd cc
    | inr later ↦ rest later
  ]

some-is : (p q : Plan) → Some p ≡ Some q → p ≡ q
some-is p q e = cc

pub plan-found : (plans : List Plan) (p : Plan) → AllPairs IsEarlier plans → AreNamed plans → Contains plans p → plan_named (sheet_name p) plans ≡ Some p
plan-found plans p in_order named in' = find-one (is_plan_of (sheet_name p)) plans p in' self only where
  self : is_plan_of (sheet_name p) p ≡ true
  self = and_from (bytes_eq p.name p.name && (p.sheet.number == p.sheet.number)) (p.sheet.copy == p.sheet.copy) (and_from (bytes_eq p.name p.name) (p.sheet.number == p.sheet.number) ((bytes_eq-Decides p.name p.name).1 refl) (number-same p.sheet.number)) (number-same p.sheet.copy)

  only : (q : Plan) → Contains plans q → is_plan_of (sheet_name p) q ≡ true → q ≡ p
  only q in-q e =
      let x = and_parts (bytes_eq p.name q.name && (q.sheet.number == p.sheet.number)) (q.sheet.copy == p.sheet.copy) e in
      let y = and_parts (bytes_eq p.name q.name) (q.sheet.number == p.sheet.number) x.0 in
      let names : q.name ≡ p.name = sym ((bytes_eq-Decides p.name q.name).0 y.0) in
      let job = named q p in-q in' names in
      let number = eqb-true q.sheet.number p.sheet.number y.1 in
      let copy = eqb-true q.sheet.copy p.sheet.copy x.1 in
      let sheet : q.sheet ≡ p.sheet = λ i. record { job = job i; number = number i; copy = copy i } in
      some-is q p (sym (plan_of-itself plans q in_order in-q) ∙ ap (λ c. plan_of c plans) sheet ∙ plan_of-itself plans p in_order in')

-- a known point is found by its name
pub record IsNamedPoint (plans : List Plan) (count : ℕ) (s : Spot) : Type 0 where
  pub name : TreePoint
  pub told : point_name plans s ≡ Some name
  pub found : spot_of plans count name ≡ Some s

pub named-point : (plans : List Plan) (count : ℕ) (s : Spot) → AllPairs IsEarlier plans → AreNamed plans → IsPoint plans (suc count) s → IsNamedPoint plans count s
named-point plans count (own n) in_order named below = record { name = OwnPoint n; told = refl; found = let t = le-to n count (omega arith) in rw t refl }
named-point plans count (kept c i) in_order named (p, in', e, le) =
    subst (λ d. IsNamedPoint plans count (kept d i)) e (record {
      name = KeptPoint (sheet_name p) i;
      told = ap (option_map (λ q. KeptPoint (sheet_name q) i)) (plan_of-itself plans p in_order in');
      found = ap (point_in i) (plan-found plans p in_order named in') ∙ (let t = le-to i (length p.acts) le in rw t refl);
    })

-- ---- durations
module _ (machine : Machine) (plans : List Plan) (choices : List Choice) (in_order : AllPairs IsEarlier plans) where
  kept-is : (p : Plan) (i : ℕ) (act : ActId) (a : Action) → Contains plans p → slice_get p.acts i ≡ Some act → action_at machine act.0 ≡ Some a → kept_act machine plans p.sheet i ≡ Some a
  kept-is p i act a in' at is = ap (λ o. act_in machine (slice_get (acts_in o) i)) (plan_of-itself plans p in_order in') ∙ ap (act_in machine) at ∙ is

  own-is : (n : ℕ) (c : Choice) (a : Action) → slice_get (reverse choices) n ≡ Some c → action_at machine c.act.0 ≡ Some a → own_act machine choices n ≡ Some a
  own-is n c a at is = ap (λ o. act_in machine (choice_act o)) at ∙ is

  pub least-told : (a : Action) (from to : Spot) → IsRun machine plans choices a from to → duration_gap machine plans choices from to ≡ Some (gap from to (pos a.least))
  least-told a _ _ (kept_run p i act in' at is) =
      let t : (is_same_copy p.sheet p.sheet && (suc i == suc i)) ≡ true = and_from (is_same_copy p.sheet p.sheet) (suc i == suc i) (same_copy-refl p.sheet) (number-same (suc i)) in
      rw t (ap (least_gap (kept p.sheet i) (kept p.sheet (suc i))) (kept-is p i act a in' at is))
  least-told a _ _ (own_run n c at is) = let t = number-same (suc n) in rw t (ap (least_gap (own (suc n)) (own n)) (own-is n c a at is))

  pub most-told : (a : Action) (from to : Spot) → IsRun machine plans choices a from to → duration_gap machine plans choices to from ≡ Some (gap to from (neg_ℤ (pos a.most)))
  most-told a _ _ (kept_run p i act in' at is) =
      let no : (i == suc (suc i)) ≡ false = other-number i (suc (suc i)) (λ e. omega (arith, e)) in
      let none : (is_same_copy p.sheet p.sheet && (i == suc (suc i))) ≡ false = rw (same_copy-refl p.sheet, no) refl in
      let t : (is_same_copy p.sheet p.sheet && (suc i == suc i)) ≡ true = and_from (is_same_copy p.sheet p.sheet) (suc i == suc i) (same_copy-refl p.sheet) (number-same (suc i)) in
      rw (none, t) (ap (most_gap (kept p.sheet (suc i)) (kept p.sheet i)) (kept-is p i act a in' at is))
  most-told a _ _ (own_run n c at is) =
      let no : (n == suc (suc n)) ≡ false = other-number n (suc (suc n)) (λ e. omega (arith, e)) in
      let t = number-same (suc n) in
      rw (no, t) (ap (most_gap (own n) (own (suc n))) (own-is n c a at is))
