-- The hops of a schedule, of a place and of an action are their gaps, with kinds.
use Rattle.std.proofs.Common.{◌≡◌, ℕ, zero, suc, List, [], ◌∷◌, ◌++◌, length, map, refl, ap, ◌∙◌, Option, Some, None}
use Rattle.std.proofs.lemmas.List.{map-append}
use Rattle.tp_machine.specs.Modes.{gap_at}
use Rattle.tp_machine.specs.ModuleUse.{action_at}
use Rattle.tp_machine.specs.declared.parts.ActId.{ActId}
use Rattle.tp_machine.specs.declared.parts.Action.{Action}
use Rattle.tp_machine.specs.declared.machine.Machine.{Machine}
use Rattle.tp_schedule.specs.Spots.{Spot, Slot, slot_order}
use Rattle.tp_schedule.specs.Spots.Spot.{kept}
use Rattle.tp_schedule.specs.declared.parts.Plan.{Plan}
use Rattle.tp_schedule.specs.declared.parts.SheetId.{SheetId}
use Rattle.tp_constraints.specs.Gaps.{Gap, range_gaps, acts_gaps, plan_gaps, duration_gaps, slot_gap, chain_gaps, all_chains, line_gaps}
use Rattle.tp_constraints.specs.Hops.{Hop, HopKind, hop, range_hops, acts_hops, duration_hops, chain_hops, all_chain_hops, plans_hops}
use Rattle.tp_constraints.specs.Hops.HopKind.{line}
use Rattle.tp_constraints.specs.Laws.{plans_gaps}

abbrev gaps_of : List Hop → List Gap
gaps_of hs = map (λ (h : Hop). h.gap) hs

-- two parts
both-gaps : (xs ys : List Hop) (gs hs : List Gap) → gaps_of xs ≡ gs → gaps_of ys ≡ hs → gaps_of (xs ++ ys) ≡ gs ++ hs
both-gaps xs ys gs hs x y = map-append (λ (h : Hop). h.gap) xs ys ∙ ap (λ zs. zs ++ gaps_of ys) x ∙ ap (λ zs. gs ++ zs) y

-- all hops of one kind
kind-gaps : (kind : HopKind) (gs : List Gap) → gaps_of (map (hop kind) gs) ≡ gs
kind-gaps kind [] = refl
kind-gaps kind (g ∷ gs) = ap (λ zs. g ∷ zs) (kind-gaps kind gs)

-- durations
pub range-hop-gaps : (o : Option Action) (from to : Spot) → map (λ h. h.gap) (range_hops o from to) ≡ range_gaps o from to
range-hop-gaps None from to = refl
range-hop-gaps (Some a) from to = refl

acts-hop-gaps : (machine : Machine) (copy : SheetId) (n : ℕ) (acts : List ActId) → gaps_of (acts_hops machine copy n acts) ≡ acts_gaps machine copy n acts
acts-hop-gaps machine copy n [] = refl
acts-hop-gaps machine copy n (act ∷ acts) =
    both-gaps (range_hops (action_at machine act.0) (kept copy n) (kept copy (suc n))) (acts_hops machine copy (suc n) acts) (range_gaps (action_at machine act.0) (kept copy n) (kept copy (suc n))) (acts_gaps machine copy (suc n) acts)
    (range-hop-gaps (action_at machine act.0) (kept copy n) (kept copy (suc n))) (acts-hop-gaps machine copy (suc n) acts)

duration-hop-gaps : (machine : Machine) (plans : List Plan) → gaps_of (duration_hops machine plans) ≡ duration_gaps machine plans
duration-hop-gaps machine [] = refl
duration-hop-gaps machine (p ∷ plans) =
    both-gaps (acts_hops machine p.sheet 0 p.acts) (duration_hops machine plans) (plan_gaps machine p) (duration_gaps machine plans) (acts-hop-gaps machine p.sheet 0 p.acts) (duration-hop-gaps machine plans)

-- orders
chain-hop-gaps : (machine : Machine) (resource : ℕ) (xs : List Slot) → gaps_of (chain_hops machine resource xs) ≡ chain_gaps (gap_at machine resource) xs
chain-hop-gaps machine resource [] = refl
chain-hop-gaps machine resource (a ∷ []) = refl
chain-hop-gaps machine resource (a ∷ b ∷ xs) = ap (λ zs. slot_gap (gap_at machine resource) a b ∷ zs) (chain-hop-gaps machine resource (b ∷ xs))

all-chain-hop-gaps : (machine : Machine) (orders : ℕ → List Slot) (n : ℕ) → gaps_of (all_chain_hops machine orders n) ≡ all_chains machine orders n
all-chain-hop-gaps machine orders zero = refl
all-chain-hop-gaps machine orders (suc n) = both-gaps (chain_hops machine n (orders n)) (all_chain_hops machine orders n) (chain_gaps (gap_at machine n) (orders n)) (all_chains machine orders n) (chain-hop-gaps machine n (orders n)) (all-chain-hop-gaps machine orders n)

pub plans-hop-gaps : (machine : Machine) (plans : List Plan) → map (λ h. h.gap) (plans_hops machine plans) ≡ plans_gaps machine plans
plans-hop-gaps machine plans =
    both-gaps (duration_hops machine plans) (map (hop line) (line_gaps plans) ++ all_chain_hops machine orders n) (duration_gaps machine plans) (line_gaps plans ++ all_chains machine orders n) (duration-hop-gaps machine plans)
    (both-gaps (map (hop line) (line_gaps plans)) (all_chain_hops machine orders n) (line_gaps plans) (all_chains machine orders n) (kind-gaps line (line_gaps plans)) (all-chain-hop-gaps machine orders n)) where
      orders : ℕ → List Slot
      orders resource = slot_order machine plans resource

      n : ℕ
      n = length machine.resources
