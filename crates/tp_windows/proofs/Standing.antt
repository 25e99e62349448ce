-- The ticks of a list that ends by the limit, and windows that are relaxed along gaps.
use Rattle.std.proofs.Common.{◌≡◌, ◌⊎◌, inl, inr, ℕ, ◌≤◌, Bool, true, false, List, map, filter, refl, ap, sym, arith, All, AllPairs, subst, ◌∙◌}
use Rattle.std.proofs.lemmas.Int.{ints}
use Rattle.std.proofs.lemmas.List.Kept.{AllPairs-filter}
use Rattle.std.proofs.lemmas.List.Elements.{All-contains}
use Rattle.tp_machine.specs.Modes.{gap_at}
use Rattle.tp_machine.specs.declared.machine.Machine.{Machine}
use Rattle.tp_schedule.proofs.Membership.{All-from_contains}
use Rattle.tp_schedule.specs.Choices.{Choice, placed}
use Rattle.tp_schedule.specs.Spots.{IsApart, Slot, Spot, Ticks, slot_order, slots}
use Rattle.tp_schedule.specs.Spots.Spot.{kept, own}
use Rattle.tp_schedule.specs.declared.parts.Ask.{Ask}
use Rattle.tp_schedule.specs.declared.parts.Plan.{Plan}
use Rattle.tp_choices.proofs.Lists.{filter-all, map-same}
use Rattle.tp_choices.proofs.SameTicks.{in-slots}
use Rattle.tp_choices.proofs.TimedSlots.{All-slots, filter-placed}
use Rattle.tp_windows.specs.Windows.{HoldsWithin, IsLoweredAlong, IsPoint, IsRaisedAlong, LowerLimitLaw, MayStand, RelaxLaw, StandLaw, Windows}

abbrev pub is_kept_spot : Spot → Bool
is_kept_spot (kept copy i) = true
is_kept_spot (own n) = false

abbrev pub is_kept : Slot → Bool
is_kept s = is_kept_spot s.to

pub kept-slots : (machine : Machine) (plans : List Plan) (resource : ℕ) → All (λ k. is_kept k ≡ true) (slot_order machine plans resource)
kept-slots machine plans resource =
    All-from_contains (λ k. is_kept k ≡ true) (slot_order machine plans resource) (λ k in'.
    All-contains (λ s. is_kept s ≡ true) (slots machine resource plans) k (All-slots (λ s. is_kept s ≡ true) machine resource plans (λ p _ i within rule. refl)) (in-slots machine plans resource k in'))

same-slots : (xs : List Slot) → map (λ (s : Slot). s) xs ≡ xs
same-slots xs = map-same (λ (s : Slot). s) xs (All-from_contains (λ s. s ≡ s) xs (λ s in'. refl))

-- the kept ones of the placed holds are those of the order
pub kept-placed : (machine : Machine) (plans : List Plan) (resource : ℕ) (choices : List Choice) → filter is_kept (placed machine resource (slot_order machine plans resource) choices) ≡ slot_order machine plans resource
kept-placed machine plans resource choices =
    let order : List Slot = slot_order machine plans resource in
    ap (filter is_kept) (sym (same-slots (placed machine resource order choices)))
    ∙ (filter-placed is_kept (λ (s : Slot). s) machine resource order choices (λ n within rule. refl)
    ∙ (ap (filter is_kept) (same-slots order) ∙ filter-all is_kept order (kept-slots machine plans resource)))

pub stand_law : StandLaw
stand_law machine plans ask limit end list o by = record {
  keeps = o.times.keeps;
  orders = λ resource. subst (AllPairs (IsApart (gap_at machine resource) o.ticks)) (kept-placed machine plans resource list.choices)
      (AllPairs-filter (IsApart (gap_at machine resource) o.ticks) is_kept (placed machine resource (slot_order machine plans resource) list.choices) (o.times.apart resource));
  line = λ p in' tray goes delivered before.
      let ends = o.ends in
      let first = (o.times.line p in' tray goes delivered).0 before in
      omega (arith, ends, first, by);
}

module _ (machine : Machine) (plans : List Plan) (ask : Ask) (limit : ℕ) (w w' : Windows) (t : Ticks) (stands : MayStand machine plans ask limit t) (within : HoldsWithin w plans t) where
  raised : (s : Spot) → IsPoint plans s → (w'.lo s ≤ w.lo s) ⊎ IsRaisedAlong machine plans ask limit w s (w'.lo s) → w'.lo s ≤ t s
  raised s is (inl less) = let old = (within s is).0 in omega (arith, less, old)
  raised s is (inr along) =
      let old = (within along.a along.is_point).0 in
      let gap = along.gap t stands in
      let least = along.raised in
      omega (arith, ints)

  lowered : (s : Spot) → IsPoint plans s → (w.hi s ≤ w'.hi s) ⊎ IsLoweredAlong machine plans ask limit w s (w'.hi s) → t s ≤ w'.hi s
  lowered s is (inl more) = let old = (within s is).1 in omega (arith, more, old)
  lowered s is (inr along) =
      let old = (within along.b along.is_point).1 in
      let gap = along.gap t stands in
      let most = along.lowered in
      omega (arith, ints)

pub relax_law : RelaxLaw
relax_law machine plans ask limit w w' relaxed t stands within s is =
    (raised machine plans ask limit w w' t stands within s is (relaxed.lo s is), lowered machine plans ask limit w w' t stands within s is (relaxed.hi s is))

pub lower_limit_law : LowerLimitLaw
lower_limit_law machine plans ask limit lower w le are t stands = are t (record {
  keeps = stands.keeps;
  orders = stands.orders;
  line = λ p in' tray goes delivered before. let less = stands.line p in' tray goes delivered before in omega (arith, less, le);
})
