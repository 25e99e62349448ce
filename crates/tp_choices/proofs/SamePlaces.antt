-- Ticks fix the places: holds that lie apart have one order, so two lists of choices with the same actions and ticks
-- put each hold at the same place.
use Rattle.std.proofs.Common.{Contains, ◌≡◌, inl, inr, ℕ, suc, ◌+◌, ◌≤◌, ◌<◌, Bool, true, false, cond, ◌==◌, List, [], ◌∷◌, ◌++◌, insert, length, refl, ap, sym, arith, All, AllPairs, ◌∙◌, subst, get_or, Option, Some, None, IsSomeAnd}
use Rattle.std.proofs.lemmas.Bool.{cases_lt}
use Rattle.std.proofs.lemmas.Int.{ints}
use Rattle.std.proofs.lemmas.List.Edits.{length-insert, get_or-insert_at}
use Rattle.std.proofs.lemmas.List.Elements.{All-append, All-head, All-tail, All-nil, Contains-get_or}
use Rattle.tp_choices.proofs.ShorterLists.{AllPairs-put_places_out}
use Rattle.tp_choices.proofs.OwnSlots.{own_slots, IsPermutation-placed}
use Rattle.tp_choices.proofs.OwnPlaces.{put_places-none, same_number}
use Rattle.tp_machine.specs.Machines.{IsMachine}
use Rattle.tp_machine.specs.Modes.{gap_at}
use Rattle.tp_machine.specs.ModuleUse.{action_at}
use Rattle.tp_schedule.proofs.HeldCount.{Differ, NotOn, others_not_on}
use Rattle.tp_schedule.proofs.LegalOrders.{sound_by_act, LastsBy}
use Rattle.tp_schedule.proofs.Pairs.{AllPairs-head, AllPairs-tail, AllPairs-nil, AllPairs-insert_out}
use Rattle.tp_schedule.proofs.SlotOrder.{apart_unique}
use Rattle.tp_schedule.specs.Choices.{Choice, acts_of, put_places, placed, AreWithin, HavePlaces, ChoicesLast}
use Rattle.tp_schedule.specs.Holders.{holds_of_act}
use Rattle.tp_schedule.specs.Plans.{LastsWithin}
use Rattle.tp_schedule.specs.Spots.{Spot, Ticks, Slot, IsApart, slots_by, IsSoundSlot}
use Rattle.std.proofs.lemmas.List.Sorted.{IsPermutation-sym, IsPermutation-trans, All-permutation}
use Rattle.tp_machine.specs.declared.parts.ActId.{ActId}
use Rattle.tp_machine.specs.declared.parts.Action.{Action}
use Rattle.tp_machine.specs.declared.parts.HoldRule.{HoldRule}
use Rattle.tp_machine.specs.declared.machine.Machine.{Machine}
use Rattle.tp_schedule.specs.Spots.Spot.{own}
use Rattle.tp_schedule.specs.declared.parts.Plan.{Plan}
use Rattle.tp_schedule.specs.Spots.{slots, slot_order, ticks_of}
use Rattle.tp_schedule.specs.Times.{KeepsTimes}
use Rattle.tp_machine.proofs.MachineFacts.{is_machine}
use Rattle.tp_choices.specs.Alternatives.{TicksFixPlaces}
use Rattle.tp_schedule.proofs.SlotOrder.{IsPermutation-by_begin}
use Rattle.tp_schedule.proofs.LegalOrders.{sound_plans}

not_twice : (gap : ℕ) (t : Ticks) (x : Slot) (order : List Slot) (k n : ℕ) → IsSoundSlot t x → AllPairs (IsApart gap t) (insert order k x) → k ≤ length order → n ≤ length order → insert order k x ≡ insert order n x → k < n → ⊥
not_twice gap t x order k n sound apart k-in n-in same less =
    let first = get_or-insert_at order k x x k-in in
    let second : get_or (insert order k x) n x ≡ x = ap (λ xs. get_or xs n x) same ∙ get_or-insert_at order n x x n-in in
    let lengths = length-insert order k x k-in in
    let both = apart k n x less (omega arith) in
    let twice : IsApart gap t x x = subst (λ y. IsApart gap t y x) first (subst (λ y. IsApart gap t (get_or (insert order k x) k x) y) second both) in
    let long = sound.long in
    omega (arith, ints)

one_place : (gap : ℕ) (t : Ticks) (x : Slot) (order : List Slot) (k n : ℕ) → IsSoundSlot t x → AllPairs (IsApart gap t) (insert order k x) → k ≤ length order → n ≤ length order → insert order k x ≡ insert order n x → k ≡ n
one_place gap t x order k n sound apart k-in n-in same = elim (cases_lt k n) [
  | inl less ↦ absurd (not_twice gap t x order k n sound apart k-in n-in same less)
  | inr le ↦ elim (cases_lt n k) [
    | inl less ↦ absurd (not_twice gap t x order n k sound (subst (AllPairs (IsApart gap t)) same apart) n-in k-in (sym same) less)
    | inr le' ↦ omega arith
  ]
]

one_places : (gaps : ℕ → ℕ) (t : Ticks) (from to : Spot) (rules : List HoldRule) (places others' : List ℕ) (orders : ℕ → List Slot) → AllPairs Differ rules
    → All (λ h. IsSoundSlot t (record { rule = h; from = from; to = to })) rules → AreWithin orders rules places → AreWithin orders rules others'
    → ((r : ℕ) → AllPairs (IsApart (gaps r) t) (put_places r from to rules places (orders r)))
    → ((r : ℕ) → put_places r from to rules places (orders r) ≡ put_places r from to rules others' (orders r)) → places ≡ others'
one_places gaps t from to [] [] [] orders differ sound p q apart same = refl
one_places gaps t from to [] [] (n ∷ ns) orders differ sound p q apart same = absurd q
one_places gaps t from to [] (k ∷ ks) ns orders differ sound p q apart same = absurd p
one_places gaps t from to (h ∷ rules) [] ns orders differ sound p q apart same = absurd p
one_places gaps t from to (h ∷ rules) (k ∷ ks) [] orders differ sound p q apart same = absurd q
one_places gaps t from to (h ∷ rules) (k ∷ ks) (n ∷ ns) orders differ sound p q apart same =
    let first : k ≡ n = one_place (gaps h.resource.0) t x (orders h.resource.0) k n (All-head (λ g. IsSoundSlot t (record { rule = g; from = from; to = to })) h rules sound) apart-here p.0 q.0 same-here in
    let rest = one_places gaps t from to rules ks ns orders (AllPairs-tail Differ h rules differ) (All-tail (λ g. IsSoundSlot t (record { rule = g; from = from; to = to })) h rules sound) p.1 q.1
    (λ r. apart-at r (h.resource.0 == r) refl (apart r)) (λ r. same-at r (h.resource.0 == r) refl (same r)) in
    λ i. first i ∷ rest i where
      x : Slot
      x = record { rule = h; from = from; to = to }

      none : (r : ℕ) → (h.resource.0 == r) ≡ true → All (NotOn r) rules
      none r e = others_not_on r h rules e (AllPairs-head Differ h rules differ)

      apart-here : AllPairs (IsApart (gaps h.resource.0) t) (insert (orders h.resource.0) k (record { rule = h; from = from; to = to }))
      apart-here = subst (AllPairs (IsApart (gaps h.resource.0) t)) (put_places-none h.resource.0 from to rules ks (insert (orders h.resource.0) k (record { rule = h; from = from; to = to })) (none h.resource.0 (same_number h.resource.0)))
          (rw (same_number h.resource.0) at (apart h.resource.0))

      same-here : insert (orders h.resource.0) k (record { rule = h; from = from; to = to }) ≡ insert (orders h.resource.0) n (record { rule = h; from = from; to = to })
      same-here =
          sym (put_places-none h.resource.0 from to rules ks (insert (orders h.resource.0) k (record { rule = h; from = from; to = to })) (none h.resource.0 (same_number h.resource.0)))
          ∙ (rw (same_number h.resource.0) at (same h.resource.0))
          ∙ put_places-none h.resource.0 from to rules ns (insert (orders h.resource.0) n (record { rule = h; from = from; to = to })) (none h.resource.0 (same_number h.resource.0))

      apart-at : (r : ℕ) (b : Bool) → (h.resource.0 == r) ≡ b → AllPairs (IsApart (gaps r) t) (put_places r from to rules ks (cond b (insert (orders r) k (record { rule = h; from = from; to = to })) (orders r))) → AllPairs (IsApart (gaps r) t) (put_places r from to rules ks (orders r))
      apart-at r true e all = rw (put_places-none r from to rules ks (orders r) (none r e))
          (AllPairs-insert_out (IsApart (gaps r) t) (orders r) k (record { rule = h; from = from; to = to }) (AllPairs-put_places_out (IsApart (gaps r) t) r from to rules ks (insert (orders r) k (record { rule = h; from = from; to = to })) all))
      apart-at r false e all = all

      same-at : (r : ℕ) (b : Bool) → (h.resource.0 == r) ≡ b
          → put_places r from to rules ks (cond b (insert (orders r) k (record { rule = h; from = from; to = to })) (orders r)) ≡ put_places r from to rules ns (cond b (insert (orders r) n (record { rule = h; from = from; to = to })) (orders r))
          → put_places r from to rules ks (orders r) ≡ put_places r from to rules ns (orders r)
      same-at r true e _ = put_places-none r from to rules ks (orders r) (none r e) ∙ sym (put_places-none r from to rules ns (orders r) (none r e))
      same-at r false e eq = eq

pub own-sound : (machine : Machine) → IsMachine machine → (t : Ticks) (resource : ℕ) (choices : List Choice) → ChoicesLast machine t choices → All (IsSoundSlot t) (own_slots machine resource choices)
own-sound machine rules t resource [] lasts = All-nil (IsSoundSlot t)
own-sound machine rules t resource (c ∷ choices) lasts =
    All-append (IsSoundSlot t) (slots_by resource (own (suc (length choices))) (own (length choices)) (holds_of_act (action_at machine c.act.0))) (own_slots machine resource choices)
    (sound_by_act machine rules t resource (own (suc (length choices))) (own (length choices)) c.act lasts.0) (own-sound machine rules t resource choices lasts.1)

sound-rules : (machine : Machine) → IsMachine machine → (t : Ticks) (from to : Spot) (act : ActId) → LastsWithin machine act (t from) (t to) → All (λ h. IsSoundSlot t (record { rule = h; from = from; to = to })) (holds_of_act (action_at machine act.0))
sound-rules machine rules t from to act lasts = go (action_at machine act.0) refl lasts where
  go : (o : Option Action) → action_at machine act.0 ≡ o → IsSomeAnd o (λ a. (t from + a.least ≤ t to) × (t to ≤ t from + a.most)) → All (λ h. IsSoundSlot t (record { rule = h; from = from; to = to })) (holds_of_act o)
  go None e lasts' = absurd lasts'
  go (Some a) e lasts' = λ k d within.
      let sound = rules.sound act.0 a e (get_or a.holds k d) (Contains-get_or a.holds k d within) (t from) (t to) lasts'.0 lasts'.1 in
      let late = sound.1 in
      record { long = sound.0; late = omega (arith, ints) }

-- two lists of choices with the same actions and the same ticks have the same places
pub one_choices : (machine : Machine) → IsMachine machine → (orders : ℕ → List Slot) (t : Ticks) (choices other : List Choice) → acts_of choices ≡ acts_of other → ((r : ℕ) → All (IsSoundSlot t) (orders r))
    → HavePlaces machine orders choices → HavePlaces machine orders other → ChoicesLast machine t choices
    → ((r : ℕ) → AllPairs (IsApart (gap_at machine r) t) (placed machine r (orders r) choices)) → ((r : ℕ) → AllPairs (IsApart (gap_at machine r) t) (placed machine r (orders r) other)) → choices ≡ other
one_choices machine rules orders t [] [] e sound p q lasts apart apart' = refl
one_choices machine rules orders t [] (d ∷ other) e sound p q lasts apart apart' = absurd (cc)
one_choices machine rules orders t (c ∷ choices) [] e sound p q lasts apart apart' = absurd (cc)
one_choices machine rules orders t (c ∷ choices) (d ∷ other) e sound p q lasts apart apart' =
    let act : c.act ≡ d.act = cc in
    let acts : acts_of choices ≡ acts_of other = cc in
    let rest = one_choices machine rules orders t choices other acts sound p.1 q.1 lasts.1
    (λ r. AllPairs-put_places_out (IsApart (gap_at machine r) t) r (own (suc (length choices))) (own (length choices)) (holds_of_act (action_at machine c.act.0)) c.places (placed machine r (orders r) choices) (apart r))
    (λ r. AllPairs-put_places_out (IsApart (gap_at machine r) t) r (own (suc (length other))) (own (length other)) (holds_of_act (action_at machine d.act.0)) d.places (placed machine r (orders r) other) (apart' r)) in
    go d.act d.places other act rest q apart' where
      differ : (o : Option Action) → action_at machine c.act.0 ≡ o → AllPairs Differ (holds_of_act o)
      differ None e' = AllPairs-nil Differ
      differ (Some a) e' = rules.differ c.act.0 a e'

      at-same : (places : List ℕ) → HavePlaces machine orders (record { act = c.act; places = places } ∷ choices) → ((r : ℕ) → AllPairs (IsApart (gap_at machine r) t) (placed machine r (orders r) (record { act = c.act; places = places } ∷ choices))) → c.places ≡ places
      at-same places q' a' = one_places (gap_at machine) t (own (suc (length choices))) (own (length choices)) (holds_of_act (action_at machine c.act.0)) c.places places (λ r. placed machine r (orders r) choices)
          (differ (action_at machine c.act.0) refl) (sound-rules machine rules t (own (suc (length choices))) (own (length choices)) c.act lasts.0) p.0 q'.0 apart
          (λ r. apart_unique (gap_at machine r) t (placed machine r (orders r) (c ∷ choices)) (placed machine r (orders r) (record { act = c.act; places = places } ∷ choices))
          (all-sound r (c ∷ choices) p lasts) (all-sound r (record { act = c.act; places = places } ∷ choices) q' lasts) (apart r) (a' r)
          (IsPermutation-trans (placed machine r (orders r) (c ∷ choices)) (own_slots machine r (c ∷ choices) ++ orders r) (placed machine r (orders r) (record { act = c.act; places = places } ∷ choices))
          (IsPermutation-sym (own_slots machine r (c ∷ choices) ++ orders r) (placed machine r (orders r) (c ∷ choices)) (IsPermutation-placed machine r orders (c ∷ choices) p))
          (IsPermutation-placed machine r orders (record { act = c.act; places = places } ∷ choices) q'))) where
            all-sound : (r : ℕ) (cs : List Choice) → HavePlaces machine orders cs → ChoicesLast machine t cs → All (IsSoundSlot t) (placed machine r (orders r) cs)
            all-sound r cs h l = All-permutation (IsSoundSlot t) (own_slots machine r cs ++ orders r) (placed machine r (orders r) cs) (IsPermutation-placed machine r orders cs h)
                (All-append (IsSoundSlot t) (own_slots machine r cs) (orders r) (own-sound machine rules t r cs l) (sound r))

      go : (a : ActId) (places : List ℕ) (other' : List Choice) → c.act ≡ a → choices ≡ other' → HavePlaces machine orders (record { act = a; places = places } ∷ other') → ((r : ℕ) → AllPairs (IsApart (gap_at machine r) t) (placed machine r (orders r) (record { act = a; places = places } ∷ other')))
          → c ∷ choices ≡ record { act = a; places = places } ∷ other'
      go a places other' is-a is-other q' a' =
          let q'' : HavePlaces machine orders (record { act = c.act; places = places } ∷ choices) = subst (λ cs. HavePlaces machine orders (record { act = c.act; places = places } ∷ cs)) (sym is-other) (subst (λ b. HavePlaces machine orders (record { act = b; places = places } ∷ other')) (sym is-a) q') in
          let a'' : (r : ℕ) → AllPairs (IsApart (gap_at machine r) t) (placed machine r (orders r) (record { act = c.act; places = places } ∷ choices)) =
          λ r. subst (λ cs. AllPairs (IsApart (gap_at machine r) t) (placed machine r (orders r) (record { act = c.act; places = places } ∷ cs))) (sym is-other) (subst (λ b. AllPairs (IsApart (gap_at machine r) t) (placed machine r (orders r) (record { act = b; places = places } ∷ other'))) (sym is-a) (a' r)) in
          let same = at-same places q'' a'' in
          λ i. record { act = is-a i; places = same i } ∷ is-other i

-- the kept slots are sound at ticks that keep the durations of their plans
pub kept-sound : (machine : Machine) (now : ℕ) (exempt : Plan → Bool) (plans : List Plan) (t : Ticks) → KeepsTimes machine now exempt plans t → (resource : ℕ) → All (IsSoundSlot t) (slot_order machine plans resource)
kept-sound machine now exempt plans t keeps resource =
    All-permutation (IsSoundSlot t) (slots machine resource plans) (slot_order machine plans resource) (IsPermutation-by_begin (ticks_of plans) (slots machine resource plans))
    (sound_plans machine (is_machine machine) t resource plans (λ k d within. go (get_or plans k d) (Contains-get_or plans k d within))) where
      go : (p : Plan) → Contains plans p → LastsBy machine t p.sheet 0 p.acts
      go p in' i j act e is = let same : j ≡ i = omega arith in rw same (keeps.lasts p in' i act is)

pub ticks_fix_places : TicksFixPlaces
ticks_fix_places machine plans ask list other room room' t legal is_list is_other same times times' =
    one_choices machine (is_machine machine) (slot_order machine plans) t list.choices other.choices same (kept-sound machine ask.now (λ _. false) plans t times.keeps)
    is_list.places is_other.places times.lasts times.apart times'.apart
