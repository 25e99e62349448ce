-- What is reported by moments: who stands before whom.
use Rattle.std.proofs.Common.{◌≡◌, ◌<◌, ◌≤◌, ◌⊎◌, inl, inr, Bool, true, false, cond, List, [], ◌∷◌, ◌++◌, map, flat_map, refl, sym, ap, arith, All, AllPairs, Contains, subst, nat_le}
use Rattle.std.proofs.lemmas.Bool.Decides.{nat_tests}
use Rattle.std.proofs.lemmas.List.Concat.{flat_map-cons}
use Rattle.std.proofs.lemmas.List.Elements.{All-nil, All-cons, All-head, All-tail, All-contains, All-contains_itself}
use Rattle.tp_schedule.proofs.Membership.{All-from_contains, Contains-cons_cases, Contains-here, Contains-later, flat_map-from}
use Rattle.tp_schedule.proofs.Pairs.{AllPairs-nil, AllPairs-cons, AllPairs-head, AllPairs-tail, AllPairs-append}
use Rattle.tp_event_rules.specs.Clock.{Told, put_told, by_moment}

All-put : (P : Told → Type 0) (t : Told) (us : List Told) → P t → All P us → All P (put_told t us)
All-put P t [] one all = All-cons P t [] one all
All-put P t (u ∷ us) one all = go (nat_le t.at u.at) (All-put P t us one (All-tail P u us all)) where
  go : (b : Bool) → All P (put_told t us) → All P (cond b (t ∷ u ∷ us) (u ∷ put_told t us))
  go true rest = All-cons P t (u ∷ us) one all
  go false rest = All-cons P u (put_told t us) (All-head P u us all) rest

All-by_moment : (P : Told → Type 0) (ts : List Told) → All P ts → All P (by_moment ts)
All-by_moment P [] all = all
All-by_moment P (t ∷ ts) all = All-put P t (by_moment ts) (All-head P t ts all) (All-by_moment P ts (All-tail P t ts all))

pub by_moment-from : (ts : List Told) (t : Told) → Contains (by_moment ts) t → Contains ts t
by_moment-from ts t in' = All-contains (Contains ts) (by_moment ts) t (All-by_moment (Contains ts) ts (All-contains_itself ts)) in'

put-here : (t : Told) (us : List Told) → Contains (put_told t us) t
put-here t [] = Contains-here t []
put-here t (u ∷ us) = go (nat_le t.at u.at) (put-here t us) where
  go : (b : Bool) → Contains (put_told t us) t → Contains (cond b (t ∷ u ∷ us) (u ∷ put_told t us)) t
  go true rest = Contains-here t (u ∷ us)
  go false rest = Contains-later u (put_told t us) t rest

put-later : (t : Told) (us : List Told) (v : Told) → Contains us v → Contains (put_told t us) v
put-later t [] v in' = Contains-later t [] v in'
put-later t (u ∷ us) v in' = go (nat_le t.at u.at) (put-later t us v) where
  go : (b : Bool) → (Contains us v → Contains (put_told t us) v) → Contains (cond b (t ∷ u ∷ us) (u ∷ put_told t us)) v
  go true rest = Contains-later t (u ∷ us) v in'
  go false rest = elim (Contains-cons_cases u us v in') [
    | inl e ↦ subst (Contains (u ∷ put_told t us)) e (Contains-here u (put_told t us))
    | inr later ↦ Contains-later u (put_told t us) v (rest later)
  ]

pub by_moment-to : (ts : List Told) (t : Told) → Contains ts t → Contains (by_moment ts) t
by_moment-to [] t in' = in'
by_moment-to (u ∷ ts) t in' = elim (Contains-cons_cases u ts t in') [
  | inl e ↦ subst (Contains (put_told u (by_moment ts))) e (put-here u (by_moment ts))
  | inr later ↦ put-later u (by_moment ts) t (by_moment-to ts t later)
]

module _ (G : Told → Told → Type 0) where
  -- two that are reported, by their moments and otherwise by their order in the list
  abbrev pub Either : Told → Told → Type 0
  Either t u = (t.at ≤ u.at → G t u) × (u.at < t.at → G u t)

  abbrev pub InTime : Told → Told → Type 0
  InTime t u = (t.at ≤ u.at) × G t u

  pairs-put : (t : Told) (us : List Told) → All (Either t) us → AllPairs InTime us → AllPairs InTime (put_told t us)
  pairs-put t [] each pairs = AllPairs-cons InTime t [] (All-nil (InTime t)) pairs
  pairs-put t (u ∷ us) each pairs = go (nat_le t.at u.at) refl (pairs-put t us (All-tail (Either t) u us each) (AllPairs-tail InTime u us pairs)) where
    go : (b : Bool) → nat_le t.at u.at ≡ b → AllPairs InTime (put_told t us) → AllPairs InTime (cond b (t ∷ u ∷ us) (u ∷ put_told t us))
    go true e rest =
        let low : t.at ≤ u.at = grind (arith, nat_tests) in
        AllPairs-cons InTime t (u ∷ us)
        (All-cons (InTime t) u us (low, (All-head (Either t) u us each).0 low)
        (All-from_contains (InTime t) us (λ v in'.
        let after : u.at ≤ v.at = (All-contains (InTime u) us v (AllPairs-head InTime u us pairs) in').0 in
        let low' : t.at ≤ v.at = omega arith in
        (low', (All-contains (Either t) us v (All-tail (Either t) u us each) in').0 low')))) pairs
    go false e rest =
        let low : u.at < t.at = grind (arith, nat_tests) in
        AllPairs-cons InTime u (put_told t us)
        (All-put (InTime u) t us (omega arith, (All-head (Either t) u us each).1 low) (AllPairs-head InTime u us pairs)) rest

  pub pairs-by_moment : (ts : List Told) → AllPairs Either ts → AllPairs InTime (by_moment ts)
  pairs-by_moment [] pairs = AllPairs-nil InTime
  pairs-by_moment (t ∷ ts) pairs =
      pairs-put t (by_moment ts) (All-by_moment (Either t) ts (AllPairs-head Either t ts pairs)) (pairs-by_moment ts (AllPairs-tail Either t ts pairs))

  -- what is reported sooner stands before
  pub stands-before : (xs : List Told) (t : Told) (ys : List Told) (u : Told) → AllPairs InTime (xs ++ t ∷ ys) → Contains (xs ++ t ∷ ys) u → u.at < t.at → Contains xs u
  stands-before [] t ys u pairs in' low = elim (Contains-cons_cases t ys u in') [
    | inl e ↦ absurd (let same : t.at ≡ u.at = ap (λ (x : Told). x.at) e in omega arith)
    | inr later ↦ absurd (let after : t.at ≤ u.at = (All-contains (InTime t) ys u (AllPairs-head InTime t ys pairs) later).0 in omega arith)
  ]
  stands-before (x ∷ xs) t ys u pairs in' low = elim (Contains-cons_cases x (xs ++ t ∷ ys) u in') [
    | inl e ↦ subst (Contains (x ∷ xs)) e (Contains-here x xs)
    | inr later ↦ Contains-later x xs u (stands-before xs t ys u (AllPairs-tail InTime x (xs ++ t ∷ ys) pairs) later low)
  ]

-- where an element of what a list is mapped to comes from
pub record IsSplit {X Y : Type 0} (f : X → Y) (xs : List X) (before : List Y) (y : Y) : Type 0 where
  pub first : List X
  pub here : X
  pub rest : List X
  pub is : xs ≡ first ++ here ∷ rest
  pub firsts : map f first ≡ before
  pub one : f here ≡ y

pub map-split : {X Y : Type 0} (f : X → Y) (xs : List X) (before : List Y) (y : Y) (after : List Y) → map f xs ≡ before ++ y ∷ after → IsSplit f xs before y
map-split f [] [] y after e = absurd (cc)
map-split f [] (b ∷ before) y after e = absurd (cc)
map-split f (x ∷ xs) [] y after e = record { first = []; here = x; rest = xs; is = refl; firsts = refl; one = cc }
map-split f (x ∷ xs) (b ∷ before) y after e =
    let head : f x ≡ b = cc in
    let tail : map f xs ≡ before ++ y ∷ after = cc in
    let s = map-split f xs before y after tail in
    record { first = x ∷ s.first; here = s.here; rest = s.rest; is = ap (λ l. x ∷ l) s.is; firsts = (λ i. head i ∷ s.firsts i); one = s.one }

-- a list that stands apart in two: where an element of both together stands
pub record IsIn {X : Type 0} (xs before : List X) (y : X) : Type 0 where
  pub after : List X
  pub is : xs ≡ before ++ y ∷ after

pub record IsBehind {X : Type 0} (xs ys before : List X) (y : X) : Type 0 where
  pub between : List X
  pub after : List X
  pub firsts : before ≡ xs ++ between
  pub is : ys ≡ between ++ y ∷ after

pub append-split : {X : Type 0} (xs ys before : List X) (y : X) (after : List X) → xs ++ ys ≡ before ++ y ∷ after → IsIn xs before y ⊎ IsBehind xs ys before y
append-split [] ys before y after e = inr (record { between = before; after = after; firsts = refl; is = e })
append-split (x ∷ xs) ys [] y after e = let head : x ≡ y = cc in inl (record { after = xs; is = ap (λ z. z ∷ xs) head })
append-split (x ∷ xs) ys (b ∷ before) y after e =
    let head : x ≡ b = cc in
    let tail : xs ++ ys ≡ before ++ y ∷ after = cc in
    elim (append-split xs ys before y after tail) [
      | inl i ↦ inl (record { after = i.after; is = (λ k. head k ∷ i.is k) })
      | inr i ↦ inr (record { between = i.between; after = i.after; firsts = (λ k. sym head k ∷ i.firsts k); is = i.is })
    ]

-- pairs of what the elements give
pub AllPairs-flat_map : {X Y : Type 0} (R : Y → Y → Type 0) (f : X → List Y) (xs : List X) → All (λ x. AllPairs R (f x)) xs
    → AllPairs (λ x z. (c d : Y) → Contains (f x) c → Contains (f z) d → R c d) xs → AllPairs R (flat_map f xs)
AllPairs-flat_map R f [] own pairs = AllPairs-nil R
AllPairs-flat_map {X} {Y} R f (x ∷ xs) own pairs =
    let Q : X → X → Type 0 = (λ x z. (c d : Y) → Contains (f x) c → Contains (f z) d → R c d) in
    rw (flat_map-cons f x xs)
    (AllPairs-append R (f x) (flat_map f xs) (All-head (λ x. AllPairs R (f x)) x xs own)
    (AllPairs-flat_map R f xs (All-tail (λ x. AllPairs R (f x)) x xs own) (AllPairs-tail Q x xs pairs))
    (All-from_contains (λ c. All (R c) (flat_map f xs)) (f x) (λ c in'. All-from_contains (R c) (flat_map f xs) (λ d in''.
    let from = flat_map-from f xs d in'' in
    All-contains (Q x) xs from.0 (AllPairs-head Q x xs pairs) from.1 c d in' from.2))))
