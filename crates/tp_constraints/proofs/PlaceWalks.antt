-- A walk through the places of an order from its end.
use Rattle.std.proofs.Common.{◌≡◌, ℕ, zero, suc, ◌≤◌, ◌<◌, List, [], ◌∷◌, length, refl, sym, arith, subst, All, AllPairs, Option, Some, None}
use Rattle.std.specs.Prelude.{slice_get, ◌↔◌}
use Rattle.std.proofs.lemmas.Option.{slice_get_within}
use Rattle.std.proofs.lemmas.List.Elements.{All-nil, All-cons, All-head, All-tail, All-append}
use Rattle.tp_base.specs.Net.{Net, with_edges}
use Rattle.tp_machine.specs.declared.machine.Machine.{Machine}
use Rattle.tp_schedule.specs.Choices.{Choice, placed}
use Rattle.tp_schedule.specs.Spots.{Spot, Slot, Ticks, slot_order, IsApart, IsSoundSlot}
use Rattle.tp_schedule.specs.declared.parts.Ask.{Ask}
use Rattle.tp_schedule.specs.declared.parts.Plan.{Plan}
use Rattle.tp_schedule.proofs.SlotOrder.{apart_behind}
use Rattle.tp_schedule.proofs.Pairs.{AllPairs-head, AllPairs-tail}
use Rattle.tp_constraints.specs.Gaps.{IsPoint, KeepsGap, KeepsGaps, slot_gap}
use Rattle.tp_constraints.specs.Hops.{IsHop, hop_after, hop_until, place_hops}
use Rattle.tp_constraints.specs.Numbers.{spot_at, IsNetFor}
use Rattle.tp_constraints.specs.Suffixes.{Suffix, SuffixTimes, IsSuffixPoint, before_place, choice_slot, gap_after, gap_until, place_gaps, place_first, suffix_cap, suffix_low, with_place}
use Rattle.tp_constraints.specs.Walks.{IsNextHold, gap_for, order_for, WalkTimes, WalkStart, WalkAhead, WalkStep, WalkPlace, WalkLate, StartNet, BeforeNet, StandNet, EarlierNet, WalkSolutions, WalkShut, IsWalkHop, StartHops, BeforeHops, StandHops}
use Rattle.tp_constraints.proofs.MoreEdges.{edges-step}
use Rattle.tp_constraints.proofs.HeldSlots.{placed-sound}
use Rattle.tp_constraints.proofs.Lists.{All-split}
use Rattle.tp_constraints.proofs.OrderGaps.{apart-from_gap, gap-from_apart}
use Rattle.tp_constraints.proofs.PlaceGaps.{place_law}
use Rattle.tp_constraints.proofs.PlaceHops.{ahead-hops, places_hops}
use Rattle.tp_constraints.proofs.Solutions.{solutions, times-solve}

-- a hold before another that is not empty is before all behind that
gap-over : (g : ℕ) (t : Ticks) (s x : Slot) (xs : List Slot) (k : ℕ) → IsApart g t s x → IsSoundSlot t x → All (IsApart g t x) xs → KeepsGaps t (gap_until g s (slice_get xs k))
gap-over g t s x [] k a sound all = All-nil (KeepsGap t)
gap-over g t s x (y ∷ ys) zero a sound all =
    All-cons (KeepsGap t) (slot_gap g s y) [] (gap-from_apart g t s y (apart_behind g t s x y sound a (All-head (IsApart g t x) y ys all))) (All-nil (KeepsGap t))
gap-over g t s x (y ∷ ys) (suc k) a sound all = gap-over g t s x ys k a sound (All-tail (IsApart g t x) y ys all)

gap-ahead : (g : ℕ) (t : Ticks) (s : Slot) (xs : List Slot) (i k : ℕ) → i ≤ k → All (IsSoundSlot t) xs → AllPairs (IsApart g t) xs → KeepsGaps t (gap_until g s (slice_get xs i)) → KeepsGaps t (gap_until g s (slice_get xs k))
gap-ahead g t s [] i k le sound pairs keeps = All-nil (KeepsGap t)
gap-ahead g t s (x ∷ xs) zero zero le sound pairs keeps = keeps
gap-ahead g t s (x ∷ xs) zero (suc k) le sound pairs keeps =
    gap-over g t s x xs k (apart-from_gap g t s x (All-head (KeepsGap t) (slot_gap g s x) [] keeps)) (All-head (IsSoundSlot t) x xs sound) (AllPairs-head (IsApart g t) x xs pairs)
gap-ahead g t s (x ∷ xs) (suc i) zero le sound pairs keeps = absurd (omega (arith, le))
gap-ahead g t s (x ∷ xs) (suc i) (suc k) le sound pairs keeps = gap-ahead g t s xs i k (omega (arith, le)) (All-tail (IsSoundSlot t) x xs sound) (AllPairs-tail (IsApart g t) x xs pairs) keeps

gap-beyond : (g : ℕ) (t : Ticks) (s : Slot) (xs : List Slot) → KeepsGaps t (gap_until g s (slice_get xs (length xs)))
gap-beyond g t s [] = All-nil (KeepsGap t)
gap-beyond g t s (x ∷ xs) = gap-beyond g t s xs

pub walk_start : WalkStart
walk_start machine plans ask x slot t = (λ h. (h, gap-beyond (gap_for machine slot) t slot (order_for machine plans x slot)), λ h. h.0)

pub walk_ahead : WalkAhead
walk_ahead machine plans ask x slot place later t le h = (
  h.0,
  gap-ahead (gap_for machine slot) t slot (order_for machine plans x slot) place later le (placed-sound machine t slot.rule.resource.0 plans x.choices h.0.keeps.lasts h.0.lasts) (h.0.apart slot.rule.resource.0) h.1,
)

pub walk_step : WalkStep
walk_step machine plans ask x slot place later t le = (λ h. (walk_ahead machine plans ask x slot place later t le h, h.1), λ h. (h.0.0, h.1))

pub walk_place : WalkPlace
walk_place machine plans ask x slot place t n le =
    let law : SuffixTimes machine plans ask (with_place place x) t ↔ (SuffixTimes machine plans ask x t × KeepsGaps t (place_gaps (gap_for machine slot) (order_for machine plans x slot) place slot)) =
    subst (λ s. SuffixTimes machine plans ask (with_place place x) t ↔ (SuffixTimes machine plans ask x t × KeepsGaps t (place_gaps (gap_for machine slot) (order_for machine plans x slot) place s))) (sym n.is_slot)
    (place_law machine plans ask x n.choice n.choices slot.rule place t n.newest n.is_rule le) in (
      λ h.
          let k = law.0 h in
          let s = All-split (KeepsGap t) (gap_after (gap_for machine slot) (before_place (order_for machine plans x slot) place) slot) (gap_until (gap_for machine slot) slot (slice_get (order_for machine plans x slot) place)) k.1 in
          ((k.0, s.1), s.0),
      λ h. law.1 (h.0.0, All-append (KeepsGap t) (gap_after (gap_for machine slot) (before_place (order_for machine plans x slot) place) slot) (gap_until (gap_for machine slot) slot (slice_get (order_for machine plans x slot) place)) h.1 h.0.1),
    )

pub walk_late : WalkLate
walk_late machine plans ask x slot place n le none earlier below t h =
    none t (walk_ahead machine plans ask x slot earlier place t below ((walk_place machine plans ask x slot earlier t n (omega (arith, le, below))).0 h).0)

-- networks
same-net : (known : Spot → Type 0) (low cap : Spot → ℕ) (times times' : Ticks → Type 0) (table : List Spot) (net : Net) → IsNetFor known low cap times table net → ((t : Ticks) → times' t ↔ times t)
    → IsNetFor known low cap times' table net
same-net known low cap times times' table net is same = record {
  is_table = is.is_table;
  lows = is.lows;
  caps = is.caps;
  edges = is.edges;
  says = λ t. (λ h. (is.says t).0 ((same t).0 h), λ k. (same t).1 ((is.says t).1 k));
}

pub start_net : StartNet
start_net machine plans ask x slot table net is =
    same-net (IsSuffixPoint plans x) (suffix_low machine plans ask x) (suffix_cap machine plans ask) (SuffixTimes machine plans ask x) (WalkTimes machine plans ask x slot (length (order_for machine plans x slot))) table net is
    (λ t. let w = walk_start machine plans ask x slot t in (w.1, w.0))

pub before_net : BeforeNet
before_net machine plans ask x slot place later table net es le is in' gaps =
    edges-step (IsSuffixPoint plans x) (suffix_low machine plans ask x) (suffix_cap machine plans ask) (WalkTimes machine plans ask x slot later) (WalkTimes machine plans ask x slot place) table net es is in'
    (λ t. let w = walk_step machine plans ask x slot place later t le in (
      λ h. let k = w.0 h in (k.0, subst (KeepsGaps t) (sym gaps) k.1),
      λ k. w.1 (k.0, subst (KeepsGaps t) gaps k.1),
    ))

lengths : (place : ℕ) (cs : List Choice) → length (place_first place cs) ≡ length cs
lengths place [] = refl
lengths place (c ∷ cs) = refl

placed-net : (machine : Machine) (plans : List Plan) (ask : Ask) (x : Suffix) (place : ℕ) (times : Ticks → Type 0) (table : List Spot) (net : Net)
    → IsNetFor (IsSuffixPoint plans x) (suffix_low machine plans ask x) (suffix_cap machine plans ask) times table net
    → IsNetFor (IsSuffixPoint plans (with_place place x)) (suffix_low machine plans ask x) (suffix_cap machine plans ask) times table net
placed-net machine plans ask x place times table net is =
    subst (λ n. IsNetFor (IsPoint plans (suc n)) (suffix_low machine plans ask x) (suffix_cap machine plans ask) times table net) (sym (lengths place x.choices)) is

pub stand_net : StandNet
stand_net machine plans ask x slot place table net es n le is in' gaps =
    placed-net machine plans ask x place (SuffixTimes machine plans ask (with_place place x)) table (with_edges net es)
    (edges-step (IsSuffixPoint plans x) (suffix_low machine plans ask x) (suffix_cap machine plans ask) (WalkTimes machine plans ask x slot place) (SuffixTimes machine plans ask (with_place place x)) table net es is in'
    (λ t. let w = walk_place machine plans ask x slot place t n le in (
      λ h. let k = w.0 h in (k.0, subst (KeepsGaps t) (sym gaps) k.1),
      λ k. w.1 (k.0, subst (KeepsGaps t) gaps k.1),
    )))

pub earlier_net : EarlierNet
earlier_net machine plans ask x slot place earlier table net es n le below is in' gaps =
    placed-net machine plans ask x earlier (SuffixTimes machine plans ask (with_place earlier x)) table (with_edges net es)
    (edges-step (IsSuffixPoint plans x) (suffix_low machine plans ask x) (suffix_cap machine plans ask) (WalkTimes machine plans ask x slot place) (SuffixTimes machine plans ask (with_place earlier x)) table net es is in'
    (λ t.
    let w = walk_place machine plans ask x slot earlier t n (omega (arith, le, below)) in (
      λ h. let k = w.0 h in (walk_ahead machine plans ask x slot earlier place t below k.0, subst (KeepsGaps t) (sym gaps) (All-append (KeepsGap t) (gap_after (gap_for machine slot) (before_place (order_for machine plans x slot) earlier) slot) (gap_until (gap_for machine slot) slot (slice_get (order_for machine plans x slot) earlier)) k.1 k.0.1)),
      λ k. let s = All-split (KeepsGap t) (gap_after (gap_for machine slot) (before_place (order_for machine plans x slot) earlier) slot) (gap_until (gap_for machine slot) slot (slice_get (order_for machine plans x slot) earlier)) (subst (KeepsGaps t) gaps k.1) in
          w.1 ((k.0.0, s.1), s.0),
    )))

pub walk_solutions : WalkSolutions
walk_solutions machine plans ask x slot place table net is y =
    solutions (IsSuffixPoint plans x) (suffix_low machine plans ask x) (suffix_cap machine plans ask) (WalkTimes machine plans ask x slot place) table net is y

pub walk_shut : WalkShut
walk_shut machine plans ask x slot place table net n le is none =
    walk_late machine plans ask x slot place n le
    (λ t ok. none (λ i. t (spot_at table i)) (times-solve (IsSuffixPoint plans x) (suffix_low machine plans ask x) (suffix_cap machine plans ask) (WalkTimes machine plans ask x slot place) table net is t ok))

-- hops
pub start_hops : StartHops
start_hops machine plans ask x slot hs n all k d within earlier le =
    (All-split (IsHop machine plans ask (with_place earlier x)) hs (place_hops machine slot.rule.resource.0 (order_for machine plans x slot) earlier (choice_slot slot.rule (length n.choices)))
    (places_hops machine plans ask x n.choice n.choices slot.rule earlier hs n.newest n.is_rule le all)).0 k d within

ahead-of : (machine : Machine) (plans : List Plan) (ask : Ask) (x : Suffix) (slot : Slot) (earlier later : ℕ) → IsNextHold machine x slot → earlier ≤ length (order_for machine plans x slot) → earlier ≤ later
    → All (IsHop machine plans ask (with_place earlier x)) (hop_until machine slot.rule.resource.0 slot (slice_get (order_for machine plans x slot) later))
ahead-of machine plans ask x slot earlier later n le over =
    let rule = slot.rule in
    let le' : earlier ≤ length (placed machine rule.resource.0 (slot_order machine plans rule.resource.0) (n.choice ∷ n.choices)) =
    subst (λ cs. earlier ≤ length (placed machine rule.resource.0 (slot_order machine plans rule.resource.0) cs)) n.newest le in
    let P : List Choice → Type 0 = (λ cs. All (IsHop machine plans ask (record { choices = place_first earlier cs; rooms = x.rooms; stopped = x.stopped }))
    (hop_until machine rule.resource.0 (choice_slot rule (length n.choices)) (slice_get (placed machine rule.resource.0 (slot_order machine plans rule.resource.0) cs) later))) in
    subst (λ s. All (IsHop machine plans ask (with_place earlier x)) (hop_until machine rule.resource.0 s (slice_get (order_for machine plans x slot) later))) (sym n.is_slot)
    (subst P (sym n.newest) (ahead-hops machine plans ask x.rooms x.stopped n.choice n.choices rule earlier n.is_rule le' later over))

within-order : (xs : List Slot) (k : ℕ) (a : Slot) → slice_get xs k ≡ Some a → k < length xs
within-order xs k a e = slice_get_within xs k a e

pub before_hops : BeforeHops
before_hops machine plans ask x slot place later hs n below all =
    All-append (IsWalkHop machine plans ask x place) hs (hop_until machine slot.rule.resource.0 slot (slice_get (order_for machine plans x slot) place))
    (λ k d within earlier le. all k d within earlier (omega (arith, le, below)))
    (go (slice_get (order_for machine plans x slot) place) refl) where
      go : (o : Option Slot) → slice_get (order_for machine plans x slot) place ≡ o → All (IsWalkHop machine plans ask x place) (hop_until machine slot.rule.resource.0 slot o)
      go None e = All-nil (IsWalkHop machine plans ask x place)
      go (Some a) e = λ k d within earlier le.
          let w = within-order (order_for machine plans x slot) place a e in
          let all' : All (IsHop machine plans ask (with_place earlier x)) (hop_until machine slot.rule.resource.0 slot (Some a)) =
          subst (λ o. All (IsHop machine plans ask (with_place earlier x)) (hop_until machine slot.rule.resource.0 slot o)) e (ahead-of machine plans ask x slot earlier place n (omega (arith, w, le)) le) in
          all' k d within

pub stand_hops : StandHops
stand_hops machine plans ask x slot place hs n le all =
    let both = places_hops machine plans ask x n.choice n.choices slot.rule place [] n.newest n.is_rule le (All-nil (IsHop machine plans ask x)) in
    let both' : All (IsHop machine plans ask (with_place place x)) (place_hops machine slot.rule.resource.0 (order_for machine plans x slot) place slot) =
    subst (λ s. All (IsHop machine plans ask (with_place place x)) (place_hops machine slot.rule.resource.0 (order_for machine plans x slot) place s)) (sym n.is_slot) both in
    All-append (IsHop machine plans ask (with_place place x)) hs (hop_after machine slot.rule.resource.0 (before_place (order_for machine plans x slot) place) slot)
    (λ k d within. all k d within place (omega arith))
    (All-split (IsHop machine plans ask (with_place place x)) (hop_after machine slot.rule.resource.0 (before_place (order_for machine plans x slot) place) slot) (hop_until machine slot.rule.resource.0 slot (slice_get (order_for machine plans x slot) place)) both').0
