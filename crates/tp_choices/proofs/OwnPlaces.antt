-- Places for new holds: where holds are pairwise apart, each new one has a place in the order of the earlier ones by
-- its time, so the holds of a route have places one after another.
use Rattle.std.proofs.Common.{◌≡◌, inl, inr, ℕ, suc, ◌≤◌, Bool, true, false, cond, ◌==◌, List, [], ◌∷◌, ◌++◌, insert, length, refl, ap, sym, arith, Contains, All, AllPairs, ◌∙◌, subst, get_or, Option, Some, None, append_assoc}
use Rattle.std.proofs.lemmas.Bool.{eqb-true}
use Rattle.std.proofs.lemmas.Bool.Decides.{nat_tests}
use Rattle.std.proofs.lemmas.List.{length-map}
use Rattle.std.proofs.lemmas.List.Elements.{All-cons, All-head, All-tail, All-nil}
use Rattle.std.proofs.lemmas.List.Sorted.{All-permutation}
use Rattle.tp_choices.proofs.OwnSlots.{own_slots, IsPermutation-placed}
use Rattle.tp_machine.specs.Machines.{IsMachine}
use Rattle.tp_machine.specs.Modes.{gap_at}
use Rattle.tp_machine.specs.ModuleUse.{action_at}
use Rattle.tp_schedule.proofs.HeldModes.{Contains-slots_by}
use Rattle.tp_schedule.proofs.HeldCount.{Differ, NotOn, others_not_on}
use Rattle.tp_schedule.proofs.Membership.{All-from_contains}
use Rattle.tp_schedule.proofs.Pairs.{AllPairs-head, AllPairs-tail, AllPairs-nil, AllPairs-cons, All-append_right, AllPairs-append_right}
use Rattle.tp_schedule.proofs.SlotOrder.{apart_behind}
use Rattle.tp_schedule.specs.Choices.{Choice, acts_of, put_places, placed, AreWithin, HavePlaces, ChoicesLast}
use Rattle.tp_schedule.specs.Holders.{holds_of_act}
use Rattle.tp_schedule.specs.Plans.{LastsWithin}
use Rattle.tp_schedule.specs.Spots.{Spot, Ticks, Slot, IsApart, slots_by, IsSoundSlot, AreApart}
use Rattle.tp_machine.specs.declared.parts.ActId.{ActId}
use Rattle.tp_machine.specs.declared.parts.Action.{Action}
use Rattle.tp_machine.specs.declared.parts.HoldRule.{HoldRule}
use Rattle.tp_machine.specs.declared.machine.Machine.{Machine}
use Rattle.tp_schedule.specs.Spots.Spot.{own}
use Rattle.tp_schedule.proofs.PutFacts.{All-insert}
use Rattle.tp_choices.proofs.Lists.{AllPairs-across}

pub record Place (gap : ℕ) (t : Ticks) (x : Slot) (order : List Slot) : Type 0 where
  pub place : ℕ
  pub within : place ≤ length order
  pub apart : AllPairs (IsApart gap t) (insert order place x)

-- a hold that is apart from each of an order has a place in it
pub place_of : (gap : ℕ) (t : Ticks) (x : Slot) (order : List Slot) → All (IsSoundSlot t) order → All (AreApart gap t x) order → AllPairs (IsApart gap t) order → Place gap t x order
place_of gap t x [] sound comparable apart = record { place = 0; within = omega arith; apart = AllPairs-cons (IsApart gap t) x [] (All-nil (IsApart gap t x)) apart }
place_of gap t x (y ∷ order) sound comparable apart =
    go (All-head (AreApart gap t x) y order comparable) (place_of gap t x order (All-tail (IsSoundSlot t) y order sound) (All-tail (AreApart gap t x) y order comparable) (AllPairs-tail (IsApart gap t) y order apart)) where
      later : IsApart gap t x y → (z : Slot) → IsApart gap t y z → IsApart gap t x z
      later x-y z y-z = apart_behind gap t x y z (All-head (IsSoundSlot t) y order sound) x-y y-z

      go : AreApart gap t x y → Place gap t x order → Place gap t x (y ∷ order)
      go (inl x-y) rest = record {
        place = 0;
        within = omega arith;
        apart = AllPairs-cons (IsApart gap t) x (y ∷ order) (All-cons (IsApart gap t x) y order x-y (λ k d within. later x-y (get_or order k d) (AllPairs-head (IsApart gap t) y order apart k d within))) apart;
      }
      go (inr y-x) rest = record {
        place = suc rest.place;
        within = omega (arith, rest.within);
        apart = AllPairs-cons (IsApart gap t) y (insert order rest.place x) (All-insert (IsApart gap t y) order rest.place x (AllPairs-head (IsApart gap t) y order apart) y-x) rest.apart;
      }

pub put_places-none : (resource : ℕ) (from to : Spot) (rules : List HoldRule) (places : List ℕ) (order : List Slot) → All (NotOn resource) rules → put_places resource from to rules places order ≡ order
put_places-none resource from to [] places order all = refl
put_places-none resource from to (h ∷ rules) [] order all = refl
put_places-none resource from to (h ∷ rules) (place ∷ places) order all = rw (All-head (NotOn resource) h rules all) (put_places-none resource from to rules places order (All-tail (NotOn resource) h rules all))

pub record Places (gaps : ℕ → ℕ) (t : Ticks) (from to : Spot) (rules : List HoldRule) (orders : ℕ → List Slot) : Type 0 where
  pub places : List ℕ
  pub within : AreWithin orders rules places
  pub apart : (resource : ℕ) → AllPairs (IsApart (gaps resource) t) (put_places resource from to rules places (orders resource))

-- the holds of an action have places in the orders of their resources
places_of : (gaps : ℕ → ℕ) (t : Ticks) (from to : Spot) (rules : List HoldRule) (orders : ℕ → List Slot) → AllPairs Differ rules → ((resource : ℕ) → AllPairs (IsApart (gaps resource) t) (orders resource))
    → All (λ h. Place (gaps h.resource.0) t (record { rule = h; from = from; to = to }) (orders h.resource.0)) rules → Places gaps t from to rules orders
places_of gaps t from to [] orders differ apart all = record { places = []; within = tt; apart = apart }
places_of gaps t from to (h ∷ rules) orders differ apart all =
    go (All-head (λ g. Place (gaps g.resource.0) t (record { rule = g; from = from; to = to }) (orders g.resource.0)) h rules all)
    (places_of gaps t from to rules orders (AllPairs-tail Differ h rules differ) apart (All-tail (λ g. Place (gaps g.resource.0) t (record { rule = g; from = from; to = to }) (orders g.resource.0)) h rules all)) where
      go : Place (gaps h.resource.0) t (record { rule = h; from = from; to = to }) (orders h.resource.0) → Places gaps t from to rules orders → Places gaps t from to (h ∷ rules) orders
      go one rest = record {
        places = one.place ∷ rest.places;
        within = (one.within, rest.within);
        apart = λ resource. put resource (h.resource.0 == resource) refl (rest.apart resource);
      } where
        put : (resource : ℕ) (b : Bool) → (h.resource.0 == resource) ≡ b → AllPairs (IsApart (gaps resource) t) (put_places resource from to rules rest.places (orders resource))
            → AllPairs (IsApart (gaps resource) t) (put_places resource from to rules rest.places (cond b (insert (orders resource) one.place (record { rule = h; from = from; to = to })) (orders resource)))
        put resource true e rest' =
            let same : h.resource.0 ≡ resource = eqb-true h.resource.0 resource e in
            let x : Slot = record { rule = h; from = from; to = to } in
            rw (put_places-none resource from to rules rest.places (insert (orders resource) one.place x) (others_not_on resource h rules e (AllPairs-head Differ h rules differ)))
            (subst (λ r. AllPairs (IsApart (gaps r) t) (insert (orders r) one.place x)) same one.apart)
        put resource false e rest' = rest'

-- the new holds of a list of actions, before they have places
abbrev pub own_acts : Machine → ℕ → List ActId → List Slot
own_acts machine resource [] = []
own_acts machine resource (act ∷ acts) = slots_by resource (own (suc (length acts))) (own (length acts)) (holds_of_act (action_at machine act.0)) ++ own_acts machine resource acts

abbrev pub LastActs : Machine → Ticks → List ActId → Type 0
LastActs machine t [] = Unit {0}
LastActs machine t (act ∷ acts) = LastsWithin machine act (t (own (suc (length acts)))) (t (own (length acts))) × LastActs machine t acts

pub own_slots-acts : (machine : Machine) (resource : ℕ) (choices : List Choice) → own_slots machine resource choices ≡ own_acts machine resource (acts_of choices)
own_slots-acts machine resource [] = refl
own_slots-acts machine resource (c ∷ choices) = rw (own_slots-acts machine resource choices, length-map choices (λ (d : Choice). d.act)) refl

pub same_number : (n : ℕ) → (n == n) ≡ true
same_number n = grind (arith, nat_tests)

-- choices for a list of actions, with places at which these ticks keep all orders
pub record Chosen (machine : Machine) (orders : ℕ → List Slot) (t : Ticks) (acts : List ActId) : Type 0 where
  pub choices : List Choice
  pub acts-are : acts_of choices ≡ acts
  pub places : HavePlaces machine orders choices
  pub lasts : ChoicesLast machine t choices
  pub apart : (resource : ℕ) → AllPairs (IsApart (gap_at machine resource) t) (placed machine resource (orders resource) choices)

pub chosen : (machine : Machine) → IsMachine machine → (orders : ℕ → List Slot) (t : Ticks) (acts : List ActId) → LastActs machine t acts
    → ((resource : ℕ) → AllPairs (IsApart (gap_at machine resource) t) (orders resource)) → ((resource : ℕ) → All (IsSoundSlot t) (own_acts machine resource acts ++ orders resource)) → ((resource : ℕ) → AllPairs (AreApart (gap_at machine resource) t) (own_acts machine resource acts ++ orders resource))
    → Chosen machine orders t acts
chosen machine rules orders t [] lasts apart sound comparable = record { choices = []; acts-are = refl; places = tt; lasts = tt; apart = apart }
chosen machine rules orders t (act ∷ acts) lasts apart sound comparable =
    go (chosen machine rules orders t acts lasts.1 apart
    (λ r. All-append_right (IsSoundSlot t) (here r) (own_acts machine r acts ++ orders r) (subst (All (IsSoundSlot t)) (append_assoc (here r) (own_acts machine r acts) (orders r)) (sound r)))
    (λ r. AllPairs-append_right (AreApart (gap_at machine r) t) (here r) (own_acts machine r acts ++ orders r) (subst (AllPairs (AreApart (gap_at machine r) t)) (append_assoc (here r) (own_acts machine r acts) (orders r)) (comparable r)))) where
      here : ℕ → List Slot
      here r = slots_by r (own (suc (length acts))) (own (length acts)) (holds_of_act (action_at machine act.0))

      differ : (o : Option Action) → action_at machine act.0 ≡ o → AllPairs Differ (holds_of_act o)
      differ None e = AllPairs-nil Differ
      differ (Some a) e = rules.differ act.0 a e

      go : Chosen machine orders t acts → Chosen machine orders t (act ∷ acts)
      go rest = record {
        choices = record { act = act; places = found.places } ∷ rest.choices;
        acts-are = ap (λ xs. act ∷ xs) rest.acts-are;
        places = (found.within, rest.places);
        lasts = (rw same-length lasts.0, rest.lasts);
        apart = found.apart;
      } where
        same-length : length rest.choices ≡ length acts
        same-length = sym (length-map rest.choices (λ (d : Choice). d.act)) ∙ ap length rest.acts-are

        order : ℕ → List Slot
        order r = placed machine r (orders r) rest.choices

        turned : (P : Slot → Type 0) (r : ℕ) → All P (own_acts machine r acts ++ orders r) → All P (placed machine r (orders r) rest.choices)
        turned P r all = All-permutation P (own_slots machine r rest.choices ++ orders r) (placed machine r (orders r) rest.choices) (IsPermutation-placed machine r orders rest.choices rest.places)
            (rw (own_slots-acts machine r rest.choices, rest.acts-are) all)

        rules-of : List HoldRule
        rules-of = holds_of_act (action_at machine act.0)

        place-at : (h : HoldRule) → Contains (holds_of_act (action_at machine act.0)) h → Place (gap_at machine h.resource.0) t (record { rule = h; from = own (suc (length acts)); to = own (length acts) }) (placed machine h.resource.0 (orders h.resource.0) rest.choices)
        place-at h in' =
            let r : ℕ = h.resource.0 in
            let x : Slot = record { rule = h; from = own (suc (length acts)); to = own (length acts) } in
            let mine : List Slot = slots_by r (own (suc (length acts))) (own (length acts)) (holds_of_act (action_at machine act.0)) in
            let behind : List Slot = own_acts machine r acts ++ orders r in
            place_of (gap_at machine r) t x (placed machine r (orders r) rest.choices)
            (turned (IsSoundSlot t) r (All-append_right (IsSoundSlot t) mine behind (subst (All (IsSoundSlot t)) (append_assoc mine (own_acts machine r acts) (orders r)) (sound r))))
            (turned (AreApart (gap_at machine r) t x) r (AllPairs-across (AreApart (gap_at machine r) t) mine behind x (subst (AllPairs (AreApart (gap_at machine r) t)) (append_assoc mine (own_acts machine r acts) (orders r)) (comparable r))
            (Contains-slots_by r (own (suc (length acts))) (own (length acts)) (holds_of_act (action_at machine act.0)) h in' (same_number r))))
            (rest.apart r)

        found' : Places (gap_at machine) t (own (suc (length acts))) (own (length acts)) (holds_of_act (action_at machine act.0)) (λ r. placed machine r (orders r) rest.choices)
        found' = places_of (gap_at machine) t (own (suc (length acts))) (own (length acts)) (holds_of_act (action_at machine act.0)) (λ r. placed machine r (orders r) rest.choices) (differ (action_at machine act.0) refl) rest.apart
            (All-from_contains (λ h. Place (gap_at machine h.resource.0) t (record { rule = h; from = own (suc (length acts)); to = own (length acts) }) (placed machine h.resource.0 (orders h.resource.0) rest.choices)) (holds_of_act (action_at machine act.0)) place-at)

        found : Places (gap_at machine) t (own (suc (length rest.choices))) (own (length rest.choices)) (holds_of_act (action_at machine act.0)) (λ r. placed machine r (orders r) rest.choices)
        found = subst (λ n. Places (gap_at machine) t (own (suc n)) (own n) (holds_of_act (action_at machine act.0)) (λ r. placed machine r (orders r) rest.choices)) (sym same-length) found'
