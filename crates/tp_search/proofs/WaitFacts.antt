-- The nodes that wait in a store: those that are in its queue, by number.
use Rattle.std.proofs.Common.{◌≡◌, ◌≢◌, ◌↔◌, inl, inr, ℕ, zero, suc, ◌+◌, ◌<◌, ◌≤◌, Bool, true, false, cond, ◌&&◌, if◌then◌else◌, eqb, nat_lt, IsTrue, List, [], ◌∷◌, ◌++◌, length, All, Contains, Option, Some, None, refl, sym, ap, subst, ◌∙◌, arith, filter, IsPermutation, get_or, IfSome}
use Rattle.std.specs.List.{list_any, range_with_len}
use Rattle.std.proofs.lemmas.Bool.{cases_Bool, cases_eq, eqb-true, lt-ltb, ltb-true, ne_eqb}
use Rattle.std.proofs.lemmas.Cmp.{nat_eq_equiv}
use Rattle.std.proofs.lemmas.List.{get_or_append_left, get_or_push, length_push}
use Rattle.std.proofs.lemmas.List.Elements.{All-contains, All-cons, All-head, All-tail, Contains-get_or, filter-append}
use Rattle.std.proofs.lemmas.List.FromFn.{get_or-range_with_len, length-range_with_len}
use Rattle.std.proofs.lemmas.List.Sorted.{All-permutation, Contains-permutation, IsPermutation-sym}
use Rattle.tp_schedule.proofs.Membership.{Contains-cons_cases, Contains-filter, Contains-filter_from}
use Rattle.tp_pool.specs.Entries.{Entries, Entry, bound_of}
use Rattle.tp_pool.specs.declared.choice.Choice.{Choice as Stored}
use Rattle.tp_pool.specs.Queues.{BucketQueue, IsIn, IsLeastIn, IsTaken as IsOut, Queued, nodes_of}
use Rattle.tp_pool.proofs.CallerFacts.{in_taken, queued-as, same_test}
use Rattle.tp_search.specs.declared.store.Limit.{Limit}
use Rattle.tp_search.specs.Stores.{HasSooner, IsStore, IsTaken, StoreValue, after_keep, better, entry_of, is_sooner, store_of, waits_in, with_list}

filter-alike : (p q : ℕ → Bool) (a n : ℕ) → ((k : ℕ) → a ≤ k → k < a + n → p k ≡ q k) → filter p (range_with_len a n) ≡ filter q (range_with_len a n)
filter-alike p q a zero same = refl
filter-alike p q a (suc n) same = rw (same a (omega arith) (omega arith), filter-alike p q (a + 1) n (λ k from below. same k (omega arith) (omega arith))) refl

range-more : (a n : ℕ) → range_with_len a (n + 1) ≡ range_with_len a n ++ (a + n) ∷ []
range-more a zero = ap (λ k. k ∷ []) (omega arith)
range-more a (suc n) =
    let on : suc n + 1 ≡ suc (n + 1) = omega arith in
    let last : a + 1 + n ≡ a + suc n = omega arith in
    ap (range_with_len a) on ∙ ap (λ l. a ∷ l) (range-more (a + 1) n ∙ ap (λ k. range_with_len (a + 1) n ++ k ∷ []) last)

in-range : (n k : ℕ) → k < n → Contains (range_with_len 0 n) k
in-range n k below = let long = length-range_with_len 0 n in (k, omega arith, get_or-range_with_len 0 n k k below ∙ omega arith)

below-range : (n k : ℕ) → Contains (range_with_len 0 n) k → k < n
below-range n k in' = let below = in'.1 in let long = length-range_with_len 0 n in let at = get_or-range_with_len 0 n in'.0 k (omega arith) in let is = in'.2 in omega arith

abbrev is-queued : List Queued → ℕ → Bool
is-queued queued node = list_any (eqb node) (nodes_of queued)

-- what waits is in the queue, and the other way round
pub waits-queued : (count node : ℕ) (queued : List Queued) → Contains (waits_in count queued) node → IsIn node queued × (node < count)
waits-queued count node queued in' = let from = Contains-filter_from (is-queued queued) (range_with_len 0 count) node in' in (from.1, below-range count node from.0)

pub queued-waits : (count node : ℕ) (queued : List Queued) → IsIn node queued → node < count → Contains (waits_in count queued) node
queued-waits count node queued is below = Contains-filter (is-queued queued) (range_with_len 0 count) node (in-range count node below) is

none-waits : (a n : ℕ) → filter (is-queued []) (range_with_len a n) ≡ []
none-waits a zero = refl
none-waits a (suc n) = none-waits (a + 1) n

first-in : (q : Queued) (queued : List Queued) → IsIn q.node (q ∷ queued)
first-in q queued = rw (nat_eq_equiv.refl q.node) refl

queued-is : (q : Queued) (queued : List Queued) → Contains queued q → IsIn q.node queued
queued-is q [] there = absurd (omega (arith, there.1))
queued-is q (r ∷ queued) there = elim (Contains-cons_cases r queued q there) [
  | inl same ↦ subst (λ (s : Queued). IsIn s.node (r ∷ queued)) same (first-in r queued)
  | inr later ↦ elim (cases_Bool (eqb q.node r.node)) [ inl here ↦ rw here refl | inr other ↦ rw (other, queued-is q queued later) refl ]
]

-- none waits where the queue is empty, and nowhere else
pub empty-waits : (count : ℕ) (queued : List Queued) → All (λ q. q.node < count) queued → (queued ≡ []) ↔ (waits_in count queued ≡ [])
empty-waits count queued known = ((λ none. ap (waits_in count) none ∙ none-waits 0 count), go queued known) where
  go : (qs : List Queued) → All (λ q. q.node < count) qs → waits_in count qs ≡ [] → qs ≡ []
  go [] below none = refl
  go (q ∷ qs) below none = (let there = queued-waits count q.node (q ∷ qs) (first-in q qs) (All-head (λ (r : Queued). r.node < count) q qs below) in let e = ap length none in absurd (omega (arith, there.1)))

-- a node more in the queue is the last one that waits
pub waits-more : (count bound : ℕ) (before after : List Queued) → All (λ q. q.node < count) before → IsPermutation (record { node = count; bound = bound } ∷ before) after → waits_in (count + 1) after ≡ waits_in count before ++ count ∷ []
waits-more count bound before after known moved =
    ap (filter (is-queued after)) (range-more 0 count ∙ ap (λ k. range_with_len 0 count ++ k ∷ []) zero-add)
    ∙ filter-append (is-queued after) (range_with_len 0 count) (count ∷ [])
    ∙ ap (λ l. l ++ filter (is-queued after) (count ∷ [])) (filter-alike (is-queued after) (is-queued before) 0 count older)
    ∙ ap (λ l. waits_in count before ++ l) (rw newest refl)
  where
    q : Queued
    q = record { node = count; bound = bound }

    zero-add : 0 + count ≡ count
    zero-add = omega arith

    newest : is-queued after count ≡ true
    newest = sym (same_test count (q ∷ before) after moved) ∙ first-in q before

    older : (k : ℕ) → 0 ≤ k → k < 0 + count → is-queued after k ≡ is-queued before k
    older k from below = sym (same_test k (q ∷ before) after moved) ∙ elim (cases_Bool (eqb k count)) [
      | inl same ↦ (let e = eqb-true k count same in absurd (omega arith))
      | inr other ↦ rw other refl
    ]

-- The filter that leaves one number out keeps one less.
length-cond : (b : Bool) (x : ℕ) (us : List ℕ) → length (cond b (x ∷ us) us) ≡ cond b 1 0 + length us
length-cond true x us = omega arith
length-cond false x us = omega arith

one-less : (p q : ℕ → Bool) (node a n : ℕ) → a ≤ node → node < a + n → p node ≡ true → q node ≡ false → ((k : ℕ) → k ≢ node → p k ≡ q k) → length (filter q (range_with_len a n)) + 1 ≡ length (filter p (range_with_len a n))
one-less p q node a zero from below is out same = absurd (omega arith)
one-less p q node a (suc n) from below is out same =
    let l = length-cond (p a) a (filter p (range_with_len (a + 1) n)) in
    let m = length-cond (q a) a (filter q (range_with_len (a + 1) n)) in
    elim (cases_eq a node) [
      | inl here ↦ (
          let rest = ap length (filter-alike p q (a + 1) n (λ k later below'. same k (λ e. absurd (omega arith)))) in
          let there = ap {B = ℕ} (λ b. cond b 1 0) (ap p here ∙ is) in
          let not-there = ap {B = ℕ} (λ b. cond b 1 0) (ap q here ∙ out) in
          omega (arith, l, m, rest, there, not-there))
      | inr differs ↦ (
          let rest = one-less p q node (a + 1) n (omega arith) (omega arith) is out same in
          let alike = ap {B = ℕ} (λ b. cond b 1 0) (same a differs) in
          omega (arith, l, m, rest, alike))
    ]

module _ (pool : Entries) (queue : BucketQueue) (best : Option ℕ) (full : Bool) (most : Limit) (is : IsStore pool queue best) where
  -- the bound of an entry that waits is that of its node in the queue
  bound-queued : (q : Queued) → Contains queue.queued q → q.bound ≡ bound_of pool.entries q.node
  bound-queued q there = All-contains (λ (r : Queued). r.bound ≡ bound_of pool.entries r.node) queue.queued q is.bounds there

  no-less : (bound node : ℕ) → All (λ q. bound ≤ q.bound) queue.queued → IsIn node queue.queued → bound ≤ bound_of pool.entries node
  no-less bound node least in' =
      let found = queued-as node queue.queued in' in
      let low = All-contains (λ (r : Queued). bound ≤ r.bound) queue.queued found.0 least found.1 in
      let e = bound-queued found.0 found.1 in
      let f = ap (bound_of pool.entries) found.2 in
      omega arith

  -- whether a list with a smaller bound waits is to be seen from the first one
  pub sooner-first : (node limit : ℕ) → IsLeastIn node queue.queued → (bound_of pool.entries node < limit) ↔ HasSooner (store_of pool queue best full most) limit
  sooner-first node limit first = ((λ lt. (node, waits, lt)), back) where
    q : Queued
    q = record { node = node; bound = first.bound }

    known : node < length pool.entries
    known = All-contains (λ (r : Queued). r.node < length pool.entries) queue.queued q is.known first.there

    in' : IsIn node queue.queued
    in' = queued-is q queue.queued first.there

    waits : Contains (waits_in (length pool.entries) queue.queued) node
    waits = queued-waits (length pool.entries) node queue.queued in' known

    back : HasSooner (store_of pool queue best full most) limit → bound_of pool.entries node < limit
    back (other, there, lt) = let low = no-less first.bound other first.least (waits-queued (length pool.entries) other queue.queued there).0 in let e = bound-queued q first.there in omega arith

  pub sooner-here : (seen : Bool) (node least limit : ℕ) → IsLeastIn node queue.queued → least ≡ bound_of pool.entries node → seen ≡ nat_lt least limit → IsTrue seen ↔ HasSooner (store_of pool queue best full most) limit
  sooner-here seen node least limit first is-bound e =
      let both = sooner-first node limit first in
      ((λ yes'. both.0 (subst (λ n. n < limit) is-bound (ltb-true least limit (sym e ∙ yes')))), (λ sooner. e ∙ lt-ltb least limit (subst (λ n. n < limit) (sym is-bound) (both.1 sooner))))

  pub sooner-none : (limit : ℕ) → queue.queued ≡ [] → ¬ HasSooner (store_of pool queue best full most) limit
  sooner-none limit none (other, there, lt) = let e = ap length ((empty-waits (length pool.entries) queue.queued is.known).0 none) in absurd (omega (arith, there.1))

  -- a node taken out of the queue waits no longer
  module _ (node : ℕ) (queue' : BucketQueue) (out : IsOut node queue.queued queue'.queued) (gone : ¬ IsIn node queue'.queued) (base : queue'.base ≡ queue.base) (width : queue'.width ≡ queue.width) (nodes : queue'.nodes ≡ queue.nodes) where
    abbrev q : Queued
    q = record { node = node; bound = out.bound }

    there : Contains queue.queued q
    there = Contains-permutation (q ∷ queue'.queued) queue.queued q (IsPermutation-sym queue.queued (q ∷ queue'.queued) out.rest) (Contains-get_or (q ∷ queue'.queued) 0 q (omega arith))

    known : node < length pool.entries
    known = All-contains (λ (r : Queued). r.node < length pool.entries) queue.queued q is.known there

    in' : IsIn node queue.queued
    in' = same_test node queue.queued (q ∷ queue'.queued) out.rest ∙ first-in q queue'.queued

    others : (k : ℕ) → k ≢ node → is-queued queue.queued k ≡ is-queued queue'.queued k
    others k differs = same_test k queue.queued (q ∷ queue'.queued) out.rest ∙ elim (cases_Bool (eqb k node)) [
      | inl same ↦ absurd (differs (eqb-true k node same))
      | inr other ↦ rw other refl
    ]

    not-now : is-queued queue'.queued node ≡ false
    not-now = elim (cases_Bool (is-queued queue'.queued node)) [ inl is ↦ absurd (gone is) | inr differs ↦ differs ]

    pub taken-out : IsTaken (store_of pool queue best full most) node (store_of pool queue' best full most)
    taken-out = record {
      waited = queued-waits (length pool.entries) node queue.queued in' known;
      gone = λ waits. gone (waits-queued (length pool.entries) node queue'.queued waits).0;
      least = λ other waits. (let low = no-less out.bound other out.least (waits-queued (length pool.entries) other queue.queued waits).0 in let e = bound-queued q there in omega arith);
      stay = λ other waits. elim (cases_eq other node) [
        | inl same ↦ inl same
        | inr differs ↦ inr (let w = waits-queued (length pool.entries) other queue.queued waits in queued-waits (length pool.entries) other queue'.queued (sym (others other differs) ∙ w.0) w.1)
      ];
      only = λ other waits. (let w = waits-queued (length pool.entries) other queue'.queued waits in queued-waits (length pool.entries) other queue.queued (in_taken other node queue.queued queue'.queued out w.0) w.1);
      fewer = one-less (is-queued queue.queued) (is-queued queue'.queued) node 0 (length pool.entries) (omega arith) (omega (arith, known)) in' not-now others;
      rest = rw (base, width) refl;
    }

    pub taken-kept : IsStore pool queue' best
    taken-kept = record {
      known = All-tail (λ (r : Queued). r.node < length pool.entries) q queue'.queued (All-permutation (λ (r : Queued). r.node < length pool.entries) queue.queued (q ∷ queue'.queued) out.rest is.known);
      bounds = All-tail (λ (r : Queued). r.bound ≡ bound_of pool.entries r.node) q queue'.queued (All-permutation (λ (r : Queued). r.bound ≡ bound_of pool.entries r.node) queue.queued (q ∷ queue'.queued) out.rest is.bounds);
      best_known = is.best_known;
      within = is.within;
      places = nodes ∙ is.places;
    }

-- a list more is stored, and waits
module _ (pool pool' : Entries) (queue queue' : BucketQueue) (best best' : Option ℕ) (e : Entry) (is : IsStore pool queue best) (added : pool' ≡ record { capacity = pool.capacity; entries = pool.entries ++ e ∷ [] })
    (moved : IsPermutation (record { node = length pool.entries; bound = e.bound } ∷ queue.queued) queue'.queued) where
  abbrev new : Queued
  new = record { node = length pool.entries; bound = e.bound }

  entries-are : pool'.entries ≡ pool.entries ++ e ∷ []
  entries-are = ap (λ (v : Entries). v.entries) added

  longer : length pool'.entries ≡ length pool.entries + 1
  longer = ap length entries-are ∙ length_push pool.entries e

  pub more-known : All (λ r. r.node < length pool'.entries) queue'.queued
  more-known = All-permutation (λ (r : Queued). r.node < length pool'.entries) (new ∷ queue.queued) queue'.queued moved
      (All-cons (λ (r : Queued). r.node < length pool'.entries) new queue.queued (omega (arith, longer)) (λ k d below. let old = is.known k d below in omega (arith, longer)))

  pub more-bounds : All (λ r. r.bound ≡ bound_of pool'.entries r.node) queue'.queued
  more-bounds = subst (λ es. All (λ r. r.bound ≡ bound_of es r.node) queue'.queued) (sym entries-are)
      (All-permutation (λ (r : Queued). r.bound ≡ bound_of (pool.entries ++ e ∷ []) r.node) (new ∷ queue.queued) queue'.queued moved
      (All-cons (λ (r : Queued). r.bound ≡ bound_of (pool.entries ++ e ∷ []) r.node) new queue.queued newest (λ k d below. is.bounds k d below ∙ sym (older (get_or queue.queued k d).node (is.known k d below)))))
    where
      none : Entry
      none = record { choices = []; bound = 0 }

      newest : e.bound ≡ bound_of (pool.entries ++ e ∷ []) (length pool.entries)
      newest = sym (ap (λ (x : Entry). x.bound) (get_or_push pool.entries e none (length pool.entries) refl))

      older : (node : ℕ) → node < length pool.entries → bound_of (pool.entries ++ e ∷ []) node ≡ bound_of pool.entries node
      older node below = ap (λ (x : Entry). x.bound) (get_or_append_left pool.entries (e ∷ []) none node below)

  pub more-waits : waits_in (length pool'.entries) queue'.queued ≡ waits_in (length pool.entries) queue.queued ++ length pool.entries ∷ []
  more-waits = ap (λ count. waits_in count queue'.queued) longer ∙ waits-more (length pool.entries) e.bound queue.queued queue'.queued is.known moved

  pub more-kept : length pool.entries ≢ pool.capacity → queue'.nodes ≡ queue.nodes → IfSome best' (λ node. node ≤ length pool.entries) → IsStore pool' queue' best'
  more-kept space nodes known = record {
    known = more-known;
    bounds = more-bounds;
    best_known = best-known best' known;
    within = (let within = is.within in let room = ap (λ (v : Entries). v.capacity) added in omega (arith, longer));
    places = nodes ∙ is.places ∙ sym (ap (λ (v : Entries). v.capacity) added);
  }
    where
      best-known : (b : Option ℕ) → IfSome b (λ node. node ≤ length pool.entries) → IfSome b (λ node. node < length pool'.entries)
      best-known None known = tt
      best-known (Some node) known = omega (arith, longer)

  pub better-known : (complete : Bool) (bound : ℕ) → best' ≡ better pool.entries complete bound (length pool.entries) best → IfSome best' (λ node. node ≤ length pool.entries)
  better-known complete bound e = subst (λ b. IfSome b (λ node. node ≤ length pool.entries)) (sym e) (go (complete && is_sooner pool.entries bound best)) where
    old : (b : Option ℕ) → IfSome b (λ node. node < length pool.entries) → IfSome b (λ node. node ≤ length pool.entries)
    old None known = tt
    old (Some node) known = omega arith

    go : (sooner : Bool) → IfSome (if sooner then Some (length pool.entries) else best) (λ node. node ≤ length pool.entries)
    go true = omega arith
    go false = old best is.best_known

-- and is seen behind the others
pub more-view : (pool pool' : Entries) (queue queue' : BucketQueue) (best best' : Option ℕ) (full : Bool) (most : Limit) (s : StoreValue) (parent : Option ℕ) (choice : Stored) (bound : ℕ) (complete : Bool)
    → store_of pool queue best full most ≡ s → pool' ≡ record { capacity = pool.capacity; entries = pool.entries ++ entry_of pool.entries parent choice bound ∷ [] } → length pool.entries ≢ pool.capacity
    → waits_in (length pool'.entries) queue'.queued ≡ waits_in (length pool.entries) queue.queued ++ length pool.entries ∷ [] → queue'.base ≡ queue.base → queue'.width ≡ queue.width
    → best' ≡ better pool.entries complete bound (length pool.entries) best
    → store_of pool' queue' best' full most ≡ after_keep parent choice bound complete s
more-view pool pool' queue queue' best best' full most s parent choice bound complete view added space waits base width better' =
    subst (λ v. store_of pool' queue' best' full most ≡ after_keep parent choice bound complete v) view (fields ∙ sym kept)
  where
    before : StoreValue
    before = store_of pool queue best full most

    kept : after_keep parent choice bound complete (store_of pool queue best full most) ≡ with_list parent choice bound complete (store_of pool queue best full most)
    kept = (let e = ne_eqb (length pool.entries) pool.capacity space in rw e refl)

    entries : pool'.entries ≡ pool.entries ++ entry_of pool.entries parent choice bound ∷ []
    entries = ap (λ (v : Entries). v.entries) added

    room : pool'.capacity ≡ pool.capacity
    room = ap (λ (v : Entries). v.capacity) added

    fields : store_of pool' queue' best' full most ≡ with_list parent choice bound complete (store_of pool queue best full most)
    fields = rw (waits, entries, room, base, width, better') refl
