-- What is reported where a job breaks is what there is to tell, in the order of copies.
use Rattle.std.proofs.Common.{◌≡◌, ℕ, ◌⊎◌, inl, inr, Bool, true, false, cond, List, [], ◌∷◌, ◌++◌, filter, refl, All, AllPairs, Contains, IsPermutation, IsTrue, IsFalse}
use Rattle.std.proofs.lemmas.List.Elements.{All-nil, All-cons, All-head, All-tail, All-weaker, All-filter, All-map}
use Rattle.std.proofs.lemmas.List.Kept.{AllPairs-filter}
use Rattle.std.proofs.lemmas.List.Sorted.{IsPermutation-refl, IsPermutation-cons, IsPermutation-trans, IsPermutation-middle, All-permutation}
use Rattle.tp_machine.proofs.Lists.{not_contained}
use Rattle.tp_schedule.proofs.CopyFacts.{before-other, before-trans}
use Rattle.tp_schedule.proofs.Membership.{All-from_contains}
use Rattle.tp_schedule.proofs.Pairs.{AllPairs-nil, AllPairs-cons, AllPairs-head, AllPairs-tail, AllPairs-append, AllPairs-each}
use Rattle.tp_schedule.specs.Plans.{IsEarlier, is_before, is_same_copy}
use Rattle.tp_schedule.specs.declared.parts.Plan.{Plan}
use Rattle.tp_schedule.specs.declared.parts.SheetId.{SheetId}
use Rattle.tp_jobs.specs.declared.parts.WaitingCopy.{WaitingCopy}
use Rattle.tp_schedule.specs.declared.records.Record.TheVariants.{Drop}
use Rattle.tp_event_rules.specs.Fates.{told_of}
use Rattle.tp_event_rules.specs.FallBacks.{Notice, put_notice, by_copy, fate_in_break, notices_of_waiting, notices_of_plans}
use Rattle.tp_event_rules.specs.StateInvariants.{is_planned_among}
use Rattle.tp_event_rules.specs.Labels.{label}
use Rattle.tp_event_rules.specs.Lines.{is_of_job}
use Rattle.tp_event_rules.specs.States.{SessionState}
use Rattle.tp_event_rules.proofs.ListFacts.{AllPairs-map_list}
use Rattle.tp_headline.specs.InOrder.{IsNoticedBefore, BreaksTellInOrder}

-- the same items, by copy
IsPermutation-put_notice : (n : Notice) (ms : List Notice) → IsPermutation (n ∷ ms) (put_notice n ms)
IsPermutation-put_notice n [] = IsPermutation-refl (n ∷ [])
IsPermutation-put_notice n (m ∷ ms) = go (is_before m.sheet n.sheet) (IsPermutation-put_notice n ms) where
  go : (b : Bool) → IsPermutation (n ∷ ms) (put_notice n ms) → IsPermutation (n ∷ m ∷ ms) (cond b (m ∷ put_notice n ms) (n ∷ m ∷ ms))
  go true rest = IsPermutation-trans (n ∷ m ∷ ms) (m ∷ n ∷ ms) (m ∷ put_notice n ms) (IsPermutation-middle (n ∷ []) m ms) (IsPermutation-cons m (n ∷ ms) (put_notice n ms) rest)
  go false rest = IsPermutation-refl (n ∷ m ∷ ms)

IsPermutation-by_copy : (ns : List Notice) → IsPermutation ns (by_copy ns)
IsPermutation-by_copy [] = IsPermutation-refl []
IsPermutation-by_copy (n ∷ ns) =
    IsPermutation-trans (n ∷ ns) (n ∷ by_copy ns) (put_notice n (by_copy ns)) (IsPermutation-cons n ns (by_copy ns) (IsPermutation-by_copy ns))
    (IsPermutation-put_notice n (by_copy ns))

-- notices of two copies
abbrev AreOfTwo : Notice → Notice → Type 0
AreOfTwo n m = (is_before n.sheet m.sheet ≡ true) ⊎ (is_before m.sheet n.sheet ≡ true)

-- one more of another copy, in its place
pairs-put : (n : Notice) (ms : List Notice) → All (AreOfTwo n) ms → AllPairs IsNoticedBefore ms → AllPairs IsNoticedBefore (put_notice n ms)
pairs-put n [] two pairs = AllPairs-cons IsNoticedBefore n [] (All-nil (IsNoticedBefore n)) pairs
pairs-put n (m ∷ ms) two pairs =
    go (is_before m.sheet n.sheet) refl (All-head (AreOfTwo n) m ms two) (pairs-put n ms (All-tail (AreOfTwo n) m ms two) (AllPairs-tail IsNoticedBefore m ms pairs)) where
      behind : All (IsNoticedBefore m) ms
      behind = AllPairs-head IsNoticedBefore m ms pairs

      here : is_before n.sheet m.sheet ≡ true → AllPairs IsNoticedBefore (n ∷ m ∷ ms)
      here first =
          AllPairs-cons IsNoticedBefore n (m ∷ ms)
          (All-cons (IsNoticedBefore n) m ms first
          (All-weaker (IsNoticedBefore m) (IsNoticedBefore n) (λ k before. before-trans n.sheet m.sheet k.sheet first before) ms behind)) pairs

      go : (b : Bool) → is_before m.sheet n.sheet ≡ b → AreOfTwo n m → AllPairs IsNoticedBefore (put_notice n ms) → AllPairs IsNoticedBefore (cond b (m ∷ put_notice n ms) (n ∷ m ∷ ms))
      go true e either rest =
          AllPairs-cons IsNoticedBefore m (put_notice n ms)
          (All-permutation (IsNoticedBefore m) (n ∷ ms) (put_notice n ms) (IsPermutation-put_notice n ms) (All-cons (IsNoticedBefore m) n ms e behind)) rest
      go false e (inl first) rest = here first
      go false e (inr other) rest = absurd cc

-- notices of different copies, by copy
pairs-by_copy : (ns : List Notice) → AllPairs AreOfTwo ns → AllPairs IsNoticedBefore (by_copy ns)
pairs-by_copy [] two = AllPairs-nil IsNoticedBefore
pairs-by_copy (n ∷ ns) two =
    pairs-put n (by_copy ns) (All-permutation (AreOfTwo n) ns (by_copy ns) (IsPermutation-by_copy ns) (AllPairs-head AreOfTwo n ns two))
    (pairs-by_copy ns (AllPairs-tail AreOfTwo n ns two))

-- a copy that has no plan is before or behind that of a plan
unplanned-two : (plans : List Plan) (copy : SheetId) (p : Plan) → is_planned_among plans copy ≡ false → Contains plans p → (is_before copy p.sheet ≡ true) ⊎ (is_before p.sheet copy ≡ true)
unplanned-two plans copy p unplanned in' = go (is_before copy p.sheet) refl (is_same_copy p.sheet copy) refl where
  go : (b : Bool) → is_before copy p.sheet ≡ b → (c : Bool) → is_same_copy p.sheet copy ≡ c → (is_before copy p.sheet ≡ true) ⊎ (is_before p.sheet copy ≡ true)
  go true e c f = inl e
  go false e false f = inr (before-other copy p.sheet e f)
  go false e true f = absurd (not_contained (λ q. is_same_copy q.sheet copy) plans p f unplanned in')

module _ (s : SessionState) (job : ℕ) where
  abbrev of_waiting : WaitingCopy → Notice
  of_waiting w = record { sheet = w.sheet; records = Drop (label s.jobs w.sheet) ∷ [] }

  abbrev of_plan : Plan → Notice
  of_plan p = record { sheet = p.sheet; records = told_of s.jobs s.now p (fate_in_break s job p) }

  -- the copies that wait differ
  waiting-two : AllPairs (λ v w. IsTrue (is_before v.sheet w.sheet)) s.waiting → AllPairs AreOfTwo (notices_of_waiting s job)
  waiting-two in_order =
      let some = filter (is_of_job job) s.waiting in
      AllPairs-map_list AreOfTwo of_waiting some
      (AllPairs-each (λ v w. IsTrue (is_before v.sheet w.sheet)) (λ v w. AreOfTwo (of_waiting v) (of_waiting w)) some
      (AllPairs-filter (λ v w. IsTrue (is_before v.sheet w.sheet)) (is_of_job job) s.waiting in_order) (λ v w in' in'' before. inl before))

  -- and so do the plans
  plans-two : AllPairs IsEarlier s.plans → AllPairs AreOfTwo (notices_of_plans s job)
  plans-two in_order =
      AllPairs-map_list AreOfTwo of_plan s.plans
      (AllPairs-each IsEarlier (λ p q. AreOfTwo (of_plan p) (of_plan q)) s.plans in_order (λ p q in' in'' before. inl before))

  -- and no copy that waits is one of a plan
  across-two : All (λ w. IsFalse (is_planned_among s.plans w.sheet)) s.waiting → All (λ n. All (AreOfTwo n) (notices_of_plans s job)) (notices_of_waiting s job)
  across-two unplanned =
      let some = filter (is_of_job job) s.waiting in
      All-map (λ n. All (AreOfTwo n) (notices_of_plans s job)) of_waiting some
      (All-weaker (λ w. IsFalse (is_planned_among s.plans w.sheet)) (λ w. All (AreOfTwo (of_waiting w)) (notices_of_plans s job))
      (λ w none. All-map (AreOfTwo (of_waiting w)) of_plan s.plans
      (All-from_contains (λ p. AreOfTwo (of_waiting w) (of_plan p)) s.plans (λ p in'. unplanned-two s.plans w.sheet p none in'))) some
      (All-filter (is_of_job job) (λ w. IsFalse (is_planned_among s.plans w.sheet)) s.waiting unplanned))

-- a break tells them by copy
pub break-in_order : BreaksTellInOrder
break-in_order s job waiting unplanned plans =
    let notices = notices_of_waiting s job ++ notices_of_plans s job in
    record {
      notices = by_copy notices;
      told = refl;
      same = IsPermutation-by_copy notices;
      in_order = pairs-by_copy notices (AllPairs-append AreOfTwo (notices_of_waiting s job) (notices_of_plans s job) (waiting-two s job waiting) (plans-two s job plans) (across-two s job unplanned));
    }
