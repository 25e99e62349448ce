-- What a place adds: the gaps to its neighbours.
use Rattle.std.proofs.Common.{◌≡◌, ℕ, zero, suc, ◌≤◌, Bool, true, false, cond, ◌==◌, List, [], ◌∷◌, ◌++◌, length, insert, refl, sym, arith, All, AllPairs, ◌∙◌, ap, subst, Some}
use Rattle.std.specs.Prelude.{slice_get, ◌↔◌}
use Rattle.std.proofs.lemmas.List.Elements.{All-nil, All-cons, All-head, All-tail}
use Rattle.std.proofs.lemmas.Bool.Decides.{nat_tests}
use Rattle.tp_machine.specs.Modes.{gap_at}
use Rattle.tp_machine.specs.ModuleUse.{action_at}
use Rattle.tp_machine.specs.declared.parts.HoldRule.{HoldRule}
use Rattle.tp_machine.specs.declared.machine.Machine.{Machine}
use Rattle.tp_schedule.specs.Holders.{holds_of_act}
use Rattle.tp_schedule.specs.declared.parts.Ask.{Ask}
use Rattle.tp_schedule.specs.declared.parts.Plan.{Plan}
use Rattle.tp_schedule.specs.Spots.{Spot, Ticks, Slot, IsApart, slot_order, IsRow, IsSoundSlot}
use Rattle.tp_schedule.specs.Spots.Spot.{own}
use Rattle.tp_schedule.specs.Choices.{Choice, put_places, placed}
use Rattle.tp_schedule.proofs.Pairs.{AllPairs-insert_out}
use Rattle.tp_constraints.specs.Gaps.{KeepsGap, KeepsGaps, slot_gap}
use Rattle.tp_constraints.specs.Suffixes.{Suffix, SuffixTimes, order_in, place_gaps, with_place, place_first, choice_slot}
use Rattle.tp_constraints.specs.Laws.{PlaceLaw}
use Rattle.tp_schedule.proofs.SlotOrder.{AllPairs-from_row, IsRow-from_AllPairs}
use Rattle.tp_constraints.proofs.OrderGaps.{gap-from_apart, apart-from_gap}
use Rattle.tp_constraints.proofs.HeldSlots.{placed-sound}
use Rattle.tp_constraints.proofs.Steps.{put_places-none}
use Rattle.tp_constraints.proofs.Rooms.{same-is}

-- a hold put in between its neighbours
row-insert : (g : ℕ) (t : Ticks) (xs : List Slot) (i : ℕ) (s : Slot) → i ≤ length xs → IsRow g t xs → KeepsGaps t (place_gaps g xs i s) → IsRow g t (insert xs i s)
row-insert g t [] zero s le row keeps = tt
row-insert g t [] (suc i) s le row keeps = absurd (omega (arith, le))
row-insert g t (x ∷ xs) zero s le row keeps = (apart-from_gap g t s x (All-head (KeepsGap t) (slot_gap g s x) [] keeps), row)
row-insert g t (x ∷ []) (suc zero) s le row keeps = (apart-from_gap g t x s (All-head (KeepsGap t) (slot_gap g x s) [] keeps), tt)
row-insert g t (x ∷ []) (suc (suc i)) s le row keeps = absurd (omega (arith, le))
row-insert g t (x ∷ y ∷ ys) (suc zero) s le row keeps =
    (apart-from_gap g t x s (All-head (KeepsGap t) (slot_gap g x s) (slot_gap g s y ∷ []) keeps), (apart-from_gap g t s y (All-head (KeepsGap t) (slot_gap g s y) [] (All-tail (KeepsGap t) (slot_gap g x s) (slot_gap g s y ∷ []) keeps)), row.1))
row-insert g t (x ∷ y ∷ ys) (suc (suc i)) s le row keeps = (row.0, row-insert g t (y ∷ ys) (suc i) s (omega arith) row.1 keeps)

gaps-from_insert : (g : ℕ) (t : Ticks) (xs : List Slot) (i : ℕ) (s : Slot) → i ≤ length xs → IsRow g t (insert xs i s) → KeepsGaps t (place_gaps g xs i s)
gaps-from_insert g t [] zero s le row = All-nil (KeepsGap t)
gaps-from_insert g t [] (suc i) s le row = absurd (omega (arith, le))
gaps-from_insert g t (x ∷ xs) zero s le row = All-cons (KeepsGap t) (slot_gap g s x) [] (gap-from_apart g t s x row.0) (All-nil (KeepsGap t))
gaps-from_insert g t (x ∷ []) (suc zero) s le row = All-cons (KeepsGap t) (slot_gap g x s) [] (gap-from_apart g t x s row.0) (All-nil (KeepsGap t))
gaps-from_insert g t (x ∷ []) (suc (suc i)) s le row = absurd (omega (arith, le))
gaps-from_insert g t (x ∷ y ∷ ys) (suc zero) s le row =
    All-cons (KeepsGap t) (slot_gap g x s) (slot_gap g s y ∷ []) (gap-from_apart g t x s row.0) (All-cons (KeepsGap t) (slot_gap g s y) [] (gap-from_apart g t s y row.1.0) (All-nil (KeepsGap t)))
gaps-from_insert g t (x ∷ y ∷ ys) (suc (suc i)) s le row = gaps-from_insert g t (y ∷ ys) (suc i) s (omega arith) row.1

-- one place more puts one hold in
pub put_places-push : (resource : ℕ) (from to : Spot) (rules : List HoldRule) (places : List ℕ) (place : ℕ) (rule : HoldRule) (order : List Slot) → slice_get rules (length places) ≡ Some rule
    → put_places resource from to rules (places ++ place ∷ []) order
    ≡ cond (rule.resource.0 == resource) (insert (put_places resource from to rules places order) place (record { rule = rule; from = from; to = to })) (put_places resource from to rules places order)
put_places-push resource from to [] places place rule order e = absurd cc
put_places-push resource from to (h ∷ rules) [] place rule order e =
    let same : h ≡ rule = cc in
    put_places-none resource from to rules (cond (h.resource.0 == resource) (insert order place (record { rule = h; from = from; to = to })) order)
    ∙ ap (λ k. cond (k.resource.0 == resource) (insert order place (record { rule = k; from = from; to = to })) order) same
put_places-push resource from to (h ∷ rules) (p ∷ places) place rule order e =
    put_places-push resource from to rules places place rule (cond (h.resource.0 == resource) (insert order p (record { rule = h; from = from; to = to })) order) e

module _ (machine : Machine) (plans : List Plan) (ask : Ask) (rooms : List ℕ) (stopped : Bool) (c : Choice) (choices : List Choice) (rule : HoldRule) (place : ℕ) (t : Ticks)
    (next : slice_get (holds_of_act (action_at machine c.act.0)) (length c.places) ≡ Some rule) (le : place ≤ length (placed machine rule.resource.0 (slot_order machine plans rule.resource.0) (c ∷ choices))) where
  abbrev old : ℕ → List Slot
  old r = placed machine r (slot_order machine plans r) (c ∷ choices)

  abbrev slot : Slot
  slot = choice_slot rule (length choices)

  abbrev old_suffix : Suffix
  old_suffix = record { choices = c ∷ choices; rooms = rooms; stopped = stopped }

  new-order : (r : ℕ) → order_in machine plans (with_place place old_suffix) r ≡ cond (rule.resource.0 == r) (insert (old r) place slot) (old r)
  new-order r = put_places-push r (own (suc (length choices))) (own (length choices)) (holds_of_act (action_at machine c.act.0)) c.places place rule (placed machine r (slot_order machine plans r) choices) next

  old-apart : (r : ℕ) → AllPairs (IsApart (gap_at machine r) t) (order_in machine plans (with_place place old_suffix) r) → AllPairs (IsApart (gap_at machine r) t) (old r)
  old-apart r all = go (rule.resource.0 == r) (subst (AllPairs (IsApart (gap_at machine r) t)) (new-order r) all) where
    go : (b : Bool) → AllPairs (IsApart (gap_at machine r) t) (cond b (insert (old r) place slot) (old r)) → AllPairs (IsApart (gap_at machine r) t) (old r)
    go true all' = AllPairs-insert_out (IsApart (gap_at machine r) t) (old r) place slot all'
    go false all' = all'

  here : (rule.resource.0 == rule.resource.0) ≡ true
  here = same-is rule.resource.0 rule.resource.0 refl

  new-gaps : AllPairs (IsApart (gap_at machine rule.resource.0) t) (order_in machine plans (with_place place old_suffix) rule.resource.0) → KeepsGaps t (place_gaps (gap_at machine rule.resource.0) (old rule.resource.0) place slot)
  new-gaps all =
      let e = new-order rule.resource.0 ∙ ap (λ b. cond b (insert (old rule.resource.0) place slot) (old rule.resource.0)) here in
      gaps-from_insert (gap_at machine rule.resource.0) t (old rule.resource.0) place slot le (IsRow-from_AllPairs (gap_at machine rule.resource.0) t (insert (old rule.resource.0) place slot) (subst (AllPairs (IsApart (gap_at machine rule.resource.0) t)) e all))

  new-apart : (r : ℕ) → AllPairs (IsApart (gap_at machine r) t) (old r) → KeepsGaps t (place_gaps (gap_at machine rule.resource.0) (old rule.resource.0) place slot) → All (IsSoundSlot t) (order_in machine plans (with_place place old_suffix) r) → AllPairs (IsApart (gap_at machine r) t) (order_in machine plans (with_place place old_suffix) r)
  new-apart r all gaps sound = subst (AllPairs (IsApart (gap_at machine r) t)) (sym (new-order r)) (go (rule.resource.0 == r) refl (subst (All (IsSoundSlot t)) (new-order r) sound)) where
    go : (b : Bool) → (rule.resource.0 == r) ≡ b → All (IsSoundSlot t) (cond b (insert (old r) place slot) (old r)) → AllPairs (IsApart (gap_at machine r) t) (cond b (insert (old r) place slot) (old r))
    go true e sound' =
        let same : rule.resource.0 ≡ r = grind (arith, nat_tests) in
        let gaps' : KeepsGaps t (place_gaps (gap_at machine r) (old r) place slot) = subst (λ q. KeepsGaps t (place_gaps (gap_at machine q) (old q) place slot)) same gaps in
        let le' : place ≤ length (old r) = subst (λ q. place ≤ length (old q)) same le in
        AllPairs-from_row (gap_at machine r) t (insert (old r) place slot) sound' (row-insert (gap_at machine r) t (old r) place slot le' (IsRow-from_AllPairs (gap_at machine r) t (old r) all) gaps')
    go false e sound' = all

  pub placing : SuffixTimes machine plans ask (with_place place old_suffix) t ↔ (SuffixTimes machine plans ask old_suffix t × KeepsGaps t (place_gaps (gap_at machine rule.resource.0) (old rule.resource.0) place slot))
  placing = (
    λ s. (
      record {
        keeps = s.keeps;
        lasts = s.lasts;
        lows = s.lows;
        last = s.last;
        line = s.line;
        apart = λ r. old-apart r (s.apart r);
        stopped = s.stopped;
      },
      new-gaps (s.apart rule.resource.0),
    ),
    λ h. record {
      keeps = h.0.keeps;
      lasts = h.0.lasts;
      lows = h.0.lows;
      last = h.0.last;
      line = h.0.line;
      apart = λ r. new-apart r (h.0.apart r) h.1 (placed-sound machine t r plans (place_first place (c ∷ choices)) h.0.keeps.lasts h.0.lasts);
      stopped = h.0.stopped;
    },
  )

pub place_law : PlaceLaw
place_law machine plans ask x c choices rule place t is next le =
    let le' : place ≤ length (placed machine rule.resource.0 (slot_order machine plans rule.resource.0) (c ∷ choices)) = subst (λ cs. place ≤ length (placed machine rule.resource.0 (slot_order machine plans rule.resource.0) cs)) is le in
    subst (λ cs. SuffixTimes machine plans ask (record { choices = place_first place cs; rooms = x.rooms; stopped = x.stopped }) t
    ↔ (SuffixTimes machine plans ask (record { choices = cs; rooms = x.rooms; stopped = x.stopped }) t
    × KeepsGaps t (place_gaps (gap_at machine rule.resource.0) (placed machine rule.resource.0 (slot_order machine plans rule.resource.0) cs) place (choice_slot rule (length choices)))))
    (sym is) (placing machine plans ask x.rooms x.stopped c choices rule place t next le')
