-- Hops along the orders of resources are kept.
use Rattle.std.proofs.Common.{◌≡◌, ℕ, suc, ◌-◌, ◌≤◌, ◌<◌, Bool, true, false, cond, List, [], ◌∷◌, ◌++◌, length, insert, refl, ◌∙◌, ap, subst, arith, All, AllPairs, Contains, Option, Some, None, find, take, drop, option_map}
use Rattle.std.specs.Prelude.{slice_get}
use Rattle.std.proofs.lemmas.List.Elements.{All-tail, All-contains}
use Rattle.tp_machine.specs.Modes.{gap_at}
use Rattle.tp_machine.specs.ModuleUse.{action_at}
use Rattle.tp_machine.specs.declared.parts.Anchor.{Anchor}
use Rattle.tp_machine.specs.declared.parts.Anchor.TheVariants.{Start, End}
use Rattle.tp_machine.specs.declared.parts.HoldRule.{HoldRule}
use Rattle.tp_machine.specs.declared.machine.Machine.{Machine}
use Rattle.tp_schedule.specs.Choices.{Choice, placed}
use Rattle.tp_schedule.specs.Holders.{holds_of_act}
use Rattle.tp_schedule.specs.Spots.{IsApart, Slot, Spot, Ticks, slot_order}
use Rattle.tp_schedule.specs.Spots.Spot.{own}
use Rattle.tp_schedule.specs.declared.parts.Plan.{Plan}
use Rattle.tp_schedule.proofs.Membership.{Contains-here, Contains-later}
use Rattle.tp_schedule.proofs.Pairs.{AllPairs-head, AllPairs-tail}
use Rattle.tp_schedule.proofs.PutFacts.{All-insert}
use Rattle.tp_constraints.specs.Gaps.{Gap, IsPoint, KeepsGap, anchor_spot, slot_gap}
use Rattle.tp_constraints.specs.Numbers.{is_same_spot}
use Rattle.tp_constraints.specs.Suffixes.{Suffix, choice_slot, order_in, place_first}
use Rattle.tp_constraints.proofs.OrderGaps.{gap-from_apart}
use Rattle.tp_constraints.proofs.PlaceGaps.{put_places-push}
use Rattle.tp_bound_laws.specs.Chains.{gap_behind, gap_in}
use Rattle.tp_bound_laws.specs.Places.{rule_in}
use Rattle.tp_bound_laws.proofs.KnownPoints.{IsKnown, held-known}
use Rattle.tp_bound_laws.proofs.SpanFacts.{AllPairs-spanned, All-spanned}
use Rattle.tp_bound_laws.proofs.Lists.{number-same}

pub find-in : {X : Type 0} (test : X → Bool) (xs : List X) (x : X) → find test xs ≡ Some x → Contains xs x
find-in test [] x e = absurd cc
find-in test (y ∷ xs) x e = go (test y) e (find-in test xs x) where
  go : (b : Bool) → cond b (Some y) (find test xs) ≡ Some x → (find test xs ≡ Some x → Contains xs x) → Contains (y ∷ xs) x
  go true h rest = let same : y ≡ x = cc in subst (Contains (y ∷ xs)) same (Contains-here y xs)
  go false h rest = Contains-later y xs x (rest h)

module _ (plans : List Plan) (count : ℕ) (t : Ticks) where
  -- what a gap says is kept, and leads to a known point
  pub record IsKeptGap (g : Gap) : Type 0 where
    pub keeps : KeepsGap t g
    pub known : IsPoint plans count g.to

  anchor-known : (a : Anchor) (from to : Spot) → IsPoint plans count from → IsPoint plans count to → IsPoint plans count (anchor_spot a from to)
  anchor-known Start from to a b = a
  anchor-known End from to a b = b

  -- holds on a resource with a changeover gap
  module _ (width : ℕ) where
    slots-kept : (a b : Slot) → IsApart width t a b → IsKnown plans count b → IsKeptGap (slot_gap width a b)
    slots-kept a b apart known = record { keeps = gap-from_apart width t a b apart; known = anchor-known b.rule.begin b.from b.to known.0 known.1 }

    behind-kept : (a : Slot) (after : Spot) (slots : List Slot) (g : Gap) → All (IsApart width t a) slots → All (IsKnown plans count) slots → gap_behind width a after slots ≡ Some g → IsKeptGap g
    behind-kept a after slots g apart known e = go (find (λ b. is_same_spot b.from after) slots) refl e where
      go : (o : Option Slot) → find (λ b. is_same_spot b.from after) slots ≡ o → option_map (slot_gap width a) o ≡ Some g → IsKeptGap g
      go None f h = absurd cc
      go (Some b) f h =
          let in' = find-in (λ q. is_same_spot q.from after) slots b f in
          let same : slot_gap width a b ≡ g = cc in
          subst IsKeptGap same (slots-kept a b (All-contains (IsApart width t a) slots b apart in') (All-contains (IsKnown plans count) slots b known in'))

    pub order-kept : (before after : Spot) (order : List Slot) (g : Gap) → AllPairs (IsApart width t) order → All (IsKnown plans count) order → gap_in width before after order ≡ Some g → IsKeptGap g
    order-kept before after [] g apart known e = absurd cc
    order-kept before after (a ∷ slots) g apart known e = go (is_same_spot a.from before) e (order-kept before after slots g (AllPairs-tail (IsApart width t) a slots apart) (All-tail (IsKnown plans count) a slots known)) where
      go : (b : Bool) → cond b (gap_behind width a after slots) (gap_in width before after slots) ≡ Some g → (gap_in width before after slots ≡ Some g → IsKeptGap g) → IsKeptGap g
      go true h rest = behind-kept a after slots g (AllPairs-head (IsApart width t) a slots apart) (All-tail (IsKnown plans count) a slots known) h
      go false h rest = rest h

-- a hold at one of several places
module _ (machine : Machine) (plans : List Plan) (t : Ticks) (rule : HoldRule) (place lo hi : ℕ) where
  abbrev order : List Choice → List Slot
  order choices = placed machine rule.resource.0 (slot_order machine plans rule.resource.0) choices

  pub one-more : (c : Choice) (cs : List Choice) → slice_get (holds_of_act (action_at machine c.act.0)) (length c.places) ≡ Some rule → order (place_first place (c ∷ cs)) ≡ insert (order (c ∷ cs)) place (choice_slot rule (length cs))
  one-more c cs e =
      put_places-push rule.resource.0 (own (suc (length cs))) (own (length cs)) (holds_of_act (action_at machine c.act.0)) c.places place rule (order cs) e
      ∙ ap (λ b. cond b (insert (order (c ∷ cs)) place (choice_slot rule (length cs))) (order (c ∷ cs))) (number-same rule.resource.0)

  pub spanned-apart : (choices : List Choice) → rule_in machine choices ≡ Some rule → lo ≤ place → place ≤ hi → hi ≤ length (order choices) → AllPairs (IsApart (gap_at machine rule.resource.0) t) (order (place_first place choices))
      → AllPairs (IsApart (gap_at machine rule.resource.0) t) (take lo (order choices) ++ choice_slot rule (length choices - 1) ∷ drop hi (order choices))
  spanned-apart [] e a b c apart = absurd cc
  spanned-apart (c ∷ cs) e a b d apart =
      let n : length (c ∷ cs) - 1 ≡ length cs = omega arith in
      rw n (AllPairs-spanned (IsApart (gap_at machine rule.resource.0) t) (order (c ∷ cs)) (choice_slot rule (length cs)) place lo hi a b d (subst (AllPairs (IsApart (gap_at machine rule.resource.0) t)) (one-more c cs e) apart))

  pub spanned-known : (x : Suffix) → rule_in machine x.choices ≡ Some rule → lo ≤ hi → hi ≤ length (order_in machine plans x rule.resource.0)
      → All (IsKnown plans (suc (length x.choices))) (take lo (order_in machine plans x rule.resource.0) ++ choice_slot rule (length x.choices - 1) ∷ drop hi (order_in machine plans x rule.resource.0))
  spanned-known x e le within =
      let some = filled x.choices e in
      let P = IsKnown plans (suc (length x.choices)) in
      All-spanned P (order_in machine plans x rule.resource.0) (choice_slot rule (length x.choices - 1)) lo lo hi (omega arith) le within
      (All-insert P (order_in machine plans x rule.resource.0) lo (choice_slot rule (length x.choices - 1)) (held-known machine plans x rule.resource.0) (omega arith, omega arith)) where
        filled : (choices : List Choice) → rule_in machine choices ≡ Some rule → 0 < length choices
        filled [] h = absurd cc
        filled (c ∷ cs) h = omega arith
