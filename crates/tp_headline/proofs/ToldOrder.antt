-- What the clock tells is what there is to tell, in its order.
use Rattle.std.proofs.Common.{◌≡◌, ℕ, ◌+◌, ◌<◌, ◌≤◌, inl, inr, Bool, true, false, cond, ◌&&◌, List, [], ◌∷◌, flat_map, refl, sym, arith, All, AllPairs, Contains, IsPermutation, subst, nat_lt, nat_le}
use Rattle.std.proofs.lemmas.Bool.{or_left, or_right}
use Rattle.std.proofs.lemmas.Bool.Decides.{nat_tests}
use Rattle.std.proofs.lemmas.List.Elements.{All-nil, All-cons, All-weaker, All-filter, All-contains}
use Rattle.std.proofs.lemmas.List.Kept.{AllPairs-filter}
use Rattle.std.proofs.lemmas.List.Sorted.{IsPermutation-refl, IsPermutation-cons, IsPermutation-trans, IsPermutation-middle}
use Rattle.tp_machine.specs.declared.parts.ActId.{ActId}
use Rattle.tp_machine.specs.declared.machine.Machine.{Machine}
use Rattle.tp_schedule.proofs.CopyFacts.{same_copy-refl}
use Rattle.tp_schedule.proofs.Membership.{All-from_contains, Contains-map_from, flat_map-from}
use Rattle.tp_schedule.proofs.Pairs.{AllPairs-nil, AllPairs-cons, AllPairs-append, AllPairs-each}
use Rattle.tp_schedule.specs.Holders.{Run, runs_from, runs_of}
use Rattle.tp_schedule.specs.Plans.{IsEarlier, is_before, is_same_copy}
use Rattle.tp_schedule.specs.declared.parts.Plan.{Plan}
use Rattle.tp_schedule.specs.declared.parts.SheetId.{SheetId}
use Rattle.tp_event_rules.specs.Clock.{Told, put_told, by_moment, release_of, releases, is_done_between, delivery, deliveries}
use Rattle.tp_event_rules.specs.Moments.{due_until, is_due}
use Rattle.tp_event_rules.proofs.ListFacts.{AllPairs-map_list}
use Rattle.tp_headline.specs.InOrder.{comes_first, IsToldBefore, to_tell, ClockTellsInOrder}
use Rattle.tp_headline.proofs.Sorted.{AllPairs-flat_map, Either, InTime, pairs-by_moment}

-- the same items, by moment
IsPermutation-put_told : (t : Told) (us : List Told) → IsPermutation (t ∷ us) (put_told t us)
IsPermutation-put_told t [] = IsPermutation-refl (t ∷ [])
IsPermutation-put_told t (u ∷ us) = go (nat_le t.at u.at) (IsPermutation-put_told t us) where
  go : (b : Bool) → IsPermutation (t ∷ us) (put_told t us) → IsPermutation (t ∷ u ∷ us) (cond b (t ∷ u ∷ us) (u ∷ put_told t us))
  go true rest = IsPermutation-refl (t ∷ u ∷ us)
  go false rest = IsPermutation-trans (t ∷ u ∷ us) (u ∷ t ∷ us) (u ∷ put_told t us) (IsPermutation-middle (t ∷ []) u us) (IsPermutation-cons u (t ∷ us) (put_told t us) rest)

IsPermutation-by_moment : (ts : List Told) → IsPermutation ts (by_moment ts)
IsPermutation-by_moment [] = IsPermutation-refl []
IsPermutation-by_moment (t ∷ ts) =
    IsPermutation-trans (t ∷ ts) (t ∷ by_moment ts) (put_told t (by_moment ts)) (IsPermutation-cons t ts (by_moment ts) (IsPermutation-by_moment ts))
    (IsPermutation-put_told t (by_moment ts))

-- what comes first is reported before what has no sooner moment
first-either : (t u : Told) → comes_first t.tell u.tell ≡ true → Either IsToldBefore t u
first-either t u first = (λ low. go low (nat_lt t.at u.at) refl, λ low. inl low) where
  go : t.at ≤ u.at → (b : Bool) → nat_lt t.at u.at ≡ b → IsToldBefore t u
  go low true e = inl (grind (arith, nat_tests))
  go low false e = let same : t.at ≡ u.at = grind (arith, nat_tests) in inr (same, first)

-- a run of the copy with at least this number
record IsRunFrom (copy : SheetId) (number : ℕ) (run : Run) : Type 0 where
  of : run.sheet ≡ copy
  from : number ≤ run.number

-- the runs that start with this number have at least this number
runs-from : (copy : SheetId) (n : ℕ) (acts : List ActId) (points : List ℕ) → All (IsRunFrom copy n) (runs_from copy n acts points)
runs-from copy n [] points = All-nil (IsRunFrom copy n)
runs-from copy n (act ∷ acts) [] = All-nil (IsRunFrom copy n)
runs-from copy n (act ∷ acts) (start ∷ []) = All-nil (IsRunFrom copy n)
runs-from copy n (act ∷ acts) (start ∷ end ∷ points) =
    All-cons (IsRunFrom copy n) (record { sheet = copy; number = n; act = act; start = start; end = end }) (runs_from copy (n + 1) acts (end ∷ points))
    (record { of = refl; from = omega arith })
    (All-weaker (IsRunFrom copy (n + 1)) (IsRunFrom copy n) (λ run h. record { of = h.of; from = let low = h.from in omega arith }) (runs_from copy (n + 1) acts (end ∷ points))
    (runs-from copy (n + 1) acts (end ∷ points)))

-- the runs of a plan are of its copy, and rise by number
record IsSooner (r s : Run) : Type 0 where
  of : r.sheet ≡ s.sheet
  sooner : r.number < s.number

runs-rise : (copy : SheetId) (n : ℕ) (acts : List ActId) (points : List ℕ) → AllPairs IsSooner (runs_from copy n acts points)
runs-rise copy n [] points = AllPairs-nil IsSooner
runs-rise copy n (act ∷ acts) [] = AllPairs-nil IsSooner
runs-rise copy n (act ∷ acts) (start ∷ []) = AllPairs-nil IsSooner
runs-rise copy n (act ∷ acts) (start ∷ end ∷ points) = AllPairs-cons IsSooner first rest later (runs-rise copy (n + 1) acts (end ∷ points)) where
  first : Run
  first = record { sheet = copy; number = n; act = act; start = start; end = end }

  rest : List Run
  rest = runs_from copy (n + 1) acts (end ∷ points)

  later : All (IsSooner first) rest
  later = All-weaker (IsRunFrom copy (n + 1)) (IsSooner first) (λ run h. record { of = sym h.of; sooner = let low = h.from in omega arith }) rest (runs-from copy (n + 1) acts (end ∷ points))

module _ (machine : Machine) (now to : ℕ) where
  -- of two releases of a plan
  number-first : (r s : Run) → IsSooner r s → comes_first (release_of machine r).tell (release_of machine s).tell ≡ true
  number-first r s h =
      let same : is_same_copy r.sheet s.sheet ≡ true = subst (λ copy. is_same_copy r.sheet copy ≡ true) h.of (same_copy-refl r.sheet) in
      let low = h.sooner in
      let less : nat_lt r.number s.number ≡ true = grind (arith, nat_tests) in
      or_right (is_before r.sheet s.sheet) (is_same_copy r.sheet s.sheet && nat_lt r.number s.number) (rw (same, less) refl)

  -- the releases of one plan
  one-plan : (p : Plan) → AllPairs (Either IsToldBefore) (releases machine to p)
  one-plan p =
      let due = due_until (to + machine.lead) p in
      AllPairs-map_list (Either IsToldBefore) (release_of machine) due
      (AllPairs-each IsSooner (λ r s. Either IsToldBefore (release_of machine r) (release_of machine s)) due
      (AllPairs-filter IsSooner (is_due (to + machine.lead) p) (runs_of p) (runs-rise p.sheet 1 p.acts p.points))
      (λ r s in' in'' h. first-either (release_of machine r) (release_of machine s) (number-first r s h)))

  -- a release of a plan is of its copy
  record IsReleaseOf (p : Plan) (t : Told) : Type 0 where
    run : Run
    of : run.sheet ≡ p.sheet
    is : t ≡ release_of machine run

  -- and such is each that is reported
  release-from : (p : Plan) (t : Told) → Contains (releases machine to p) t → IsReleaseOf p t
  release-from p t in' =
      let due = due_until (to + machine.lead) p in
      let from = Contains-map_from (release_of machine) due t in' in
      let all = All-filter (is_due (to + machine.lead) p) (IsRunFrom p.sheet 1) (runs_of p) (runs-from p.sheet 1 p.acts p.points) in
      record { run = from.0; of = (All-contains (IsRunFrom p.sheet 1) due from.0 all from.1).of; is = from.2 }

  -- and the one delivery is the plan's own
  delivery-all : (p : Plan) → All (λ t. t ≡ delivery machine p) (deliveries machine now to p)
  delivery-all p = go (is_done_between now to p) where
    go : (b : Bool) → All (λ t. t ≡ delivery machine p) (cond b (delivery machine p ∷ []) [])
    go true = All-cons (λ t. t ≡ delivery machine p) (delivery machine p) [] refl (All-nil (λ t. t ≡ delivery machine p))
    go false = All-nil (λ t. t ≡ delivery machine p)

  -- there is one at the most
  delivery-one : (p : Plan) → AllPairs (Either IsToldBefore) (deliveries machine now to p)
  delivery-one p = go (is_done_between now to p) where
    go : (b : Bool) → AllPairs (Either IsToldBefore) (cond b (delivery machine p ∷ []) [])
    go true = AllPairs-cons (Either IsToldBefore) (delivery machine p) [] (All-nil (Either IsToldBefore (delivery machine p))) (AllPairs-nil (Either IsToldBefore))
    go false = AllPairs-nil (Either IsToldBefore)

  delivery-from : (p : Plan) (t : Told) → Contains (deliveries machine now to p) t → t ≡ delivery machine p
  delivery-from p t in' = All-contains (λ t. t ≡ delivery machine p) (deliveries machine now to p) t (delivery-all p) in'

  -- of two plans the earlier copy's comes first
  deliveries-across : (p q : Plan) → IsEarlier p q → (t u : Told) → Contains (deliveries machine now to p) t → Contains (deliveries machine now to q) u → Either IsToldBefore t u
  deliveries-across p q before t u in' in'' =
      subst (λ x. Either IsToldBefore x u) (sym (delivery-from p t in'))
      (subst (Either IsToldBefore (delivery machine p)) (sym (delivery-from q u in'')) (first-either (delivery machine p) (delivery machine q) before))

  -- of two releases of two plans
  copy-first : (p q : Plan) (r s : Run) → IsEarlier p q → r.sheet ≡ p.sheet → s.sheet ≡ q.sheet → comes_first (release_of machine r).tell (release_of machine s).tell ≡ true
  copy-first p q r s before e f =
      or_left (is_before r.sheet s.sheet) (is_same_copy r.sheet s.sheet && nat_lt r.number s.number)
      (subst (λ c. is_before c s.sheet ≡ true) (sym e) (subst (λ c. is_before p.sheet c ≡ true) (sym f) before))

  releases-across : (p q : Plan) → IsEarlier p q → (t u : Told) → Contains (releases machine to p) t → Contains (releases machine to q) u → Either IsToldBefore t u
  releases-across p q before t u in' in'' =
      let one = release-from p t in' in
      let other = release-from q u in'' in
      subst (λ x. Either IsToldBefore x u) (sym one.is)
      (subst (Either IsToldBefore (release_of machine one.run)) (sym other.is)
      (first-either (release_of machine one.run) (release_of machine other.run) (copy-first p q one.run other.run before one.of other.of)))

  -- a delivery comes before any release
  kinds-across : (plans : List Plan) (t u : Told) → Contains (flat_map (deliveries machine now to) plans) t → Contains (flat_map (releases machine to) plans) u → Either IsToldBefore t u
  kinds-across plans t u in' in'' =
      let from = flat_map-from (deliveries machine now to) plans t in' in
      let from' = flat_map-from (releases machine to) plans u in'' in
      let other = release-from from'.0 u from'.2 in
      subst (λ x. Either IsToldBefore x u) (sym (delivery-from from.0 t from.2))
      (subst (Either IsToldBefore (delivery machine from.0)) (sym other.is) (first-either (delivery machine from.0) (release_of machine other.run) refl))

  -- all that there is to tell, kind by kind and plan by plan
  told-either : (plans : List Plan) → AllPairs IsEarlier plans → AllPairs (Either IsToldBefore) (to_tell machine now to plans)
  told-either plans in_order =
      let done = flat_map (deliveries machine now to) plans in
      let released = flat_map (releases machine to) plans in
      AllPairs-append (Either IsToldBefore) done released
      (AllPairs-flat_map (Either IsToldBefore) (deliveries machine now to) plans
      (All-from_contains (λ p. AllPairs (Either IsToldBefore) (deliveries machine now to p)) plans (λ p in'. delivery-one p))
      (AllPairs-each IsEarlier (λ p q. (t u : Told) → Contains (deliveries machine now to p) t → Contains (deliveries machine now to q) u → Either IsToldBefore t u) plans in_order
      (λ p q in' in'' before. deliveries-across p q before)))
      (AllPairs-flat_map (Either IsToldBefore) (releases machine to) plans
      (All-from_contains (λ p. AllPairs (Either IsToldBefore) (releases machine to p)) plans (λ p in'. one-plan p))
      (AllPairs-each IsEarlier (λ p q. (t u : Told) → Contains (releases machine to p) t → Contains (releases machine to q) u → Either IsToldBefore t u) plans in_order
      (λ p q in' in'' before. releases-across p q before)))
      (All-from_contains (λ t. All (Either IsToldBefore t) released) done (λ t in'.
      All-from_contains (Either IsToldBefore t) released (λ u in''. kinds-across plans t u in' in'')))

-- the clock tells it by moment
pub clock-in_order : ClockTellsInOrder
clock-in_order machine now to plans in_order =
    let told = to_tell machine now to plans in
    record {
      timed = by_moment told;
      told = refl;
      same = IsPermutation-by_moment told;
      in_order = AllPairs-each (InTime IsToldBefore) IsToldBefore (by_moment told) (pairs-by_moment IsToldBefore told (told-either machine now to plans in_order)) (λ t u in' in'' both. both.1);
    }
