-- Each gap of a schedule leads from one of its points.
use Rattle.std.proofs.Common.{◌≡◌, ℕ, zero, suc, ◌+◌, ◌≤◌, ◌<◌, List, [], ◌∷◌, ◌++◌, length, flat_map, find, slice_get, Option, Some, None, All, Contains, refl, sym, subst, arith}
use Rattle.std.specs.Prelude.{neg_ℤ, pos}
use Rattle.std.proofs.lemmas.List.Elements.{All-append, All-cons, All-contains_itself, All-head, All-nil, All-tail}
use Rattle.tp_machine.specs.ModuleUse.{action_at}
use Rattle.tp_machine.specs.Modes.{gap_at}
use Rattle.tp_machine.specs.declared.parts.ActId.{ActId}
use Rattle.tp_machine.specs.declared.parts.Action.{Action}
use Rattle.tp_machine.specs.declared.parts.Anchor.{Anchor}
use Rattle.tp_machine.specs.declared.parts.Anchor.TheVariants.{Start, End}
use Rattle.tp_machine.specs.declared.machine.Machine.{Machine}
use Rattle.tp_schedule.specs.Spots.{Slot, Spot, slot_order}
use Rattle.tp_schedule.specs.Spots.Spot.{kept}
use Rattle.tp_schedule.specs.declared.parts.Plan.{Plan}
use Rattle.tp_choices.proofs.LiveSlots.{slot_of, slots-in}
use Rattle.tp_choices.proofs.SameTicks.{in-slots}
use Rattle.tp_constraints.specs.Gaps.{Gap, IsPoint, acts_gaps, all_chains, anchor_spot, chain_gaps, duration_gaps, end_spot, gap, is_same_line, line_gap, line_gaps, plan_gaps, range_gaps, slot_gap}
use Rattle.tp_constraints.specs.Laws.{plans_gaps}

below : {X : Type 0} (xs : List X) (i : ℕ) (x : X) → slice_get xs i ≡ Some x → i < length xs
below [] i x at = absurd (cc)
below (y ∷ ys) zero x at = omega arith
below (y ∷ ys) (suc i) x at = let rest = below ys i x at in omega arith

module _ (machine : Machine) (plans : List Plan) where
  abbrev LeavesPoint : Gap → Type 0
  LeavesPoint g = IsPoint plans 0 g.from

  range-points : (o : Option Action) (from to : Spot) → IsPoint plans 0 from → IsPoint plans 0 to → All LeavesPoint (range_gaps o from to)
  range-points None from to one other = All-nil LeavesPoint
  range-points (Some a) from to one other =
      All-cons LeavesPoint (gap from to (pos a.least)) (gap to from (neg_ℤ (pos a.most)) ∷ []) one (All-cons LeavesPoint (gap to from (neg_ℤ (pos a.most))) [] other (All-nil LeavesPoint))

  acts-points : (p : Plan) → Contains plans p → (n : ℕ) (acts : List ActId) → n + length acts ≤ length p.acts → All LeavesPoint (acts_gaps machine p.sheet n acts)
  acts-points p in' n [] le = All-nil LeavesPoint
  acts-points p in' n (act ∷ acts) le =
      All-append LeavesPoint (range_gaps (action_at machine act.0) (kept p.sheet n) (kept p.sheet (suc n))) (acts_gaps machine p.sheet (suc n) acts)
      (range-points (action_at machine act.0) (kept p.sheet n) (kept p.sheet (suc n)) (p, in', refl, omega arith) (p, in', refl, omega arith))
      (acts-points p in' (suc n) acts (omega arith))

  durations-points : (qs : List Plan) → All (Contains plans) qs → All LeavesPoint (flat_map (plan_gaps machine) qs)
  durations-points [] among = All-nil LeavesPoint
  durations-points (q ∷ qs) among =
      All-append LeavesPoint (plan_gaps machine q) (flat_map (plan_gaps machine) qs)
      (acts-points q (All-head (Contains plans) q qs among) 0 q.acts (omega arith)) (durations-points qs (All-tail (Contains plans) q qs among))

  line-points : (p : Plan) → Contains plans p → (o : Option Plan) → All LeavesPoint (line_gap p o)
  line-points p in' None = All-nil LeavesPoint
  line-points p in' (Some q) = All-cons LeavesPoint (gap (end_spot p) (end_spot q) (pos 1)) [] (p, in', refl, omega arith) (All-nil LeavesPoint)

  lines-points : (qs : List Plan) → All (Contains plans) qs → All LeavesPoint (line_gaps qs)
  lines-points [] among = All-nil LeavesPoint
  lines-points (q ∷ qs) among =
      All-append LeavesPoint (line_gap q (find (is_same_line q) qs)) (line_gaps qs)
      (line-points q (All-head (Contains plans) q qs among) (find (is_same_line q) qs)) (lines-points qs (All-tail (Contains plans) q qs among))

  anchor-point : (a : Anchor) (from to : Spot) → IsPoint plans 0 from → IsPoint plans 0 to → IsPoint plans 0 (anchor_spot a from to)
  anchor-point Start from to one other = one
  anchor-point End from to one other = other

  slot-point : (resource : ℕ) (s : Slot) → Contains (slot_order machine plans resource) s → (a : Anchor) → IsPoint plans 0 (anchor_spot a s.from s.to)
  slot-point resource s in' a =
      let (p, there, of) = slots-in machine resource plans s (in-slots machine plans resource s in') in
      let is = slot_of machine resource p s of in
      let within = below p.acts is.i is.act is.at in
      anchor-point a s.from s.to
      (subst (IsPoint plans 0) (sym is.from) (p, there, refl, omega arith))
      (subst (IsPoint plans 0) (sym is.to) (p, there, refl, omega arith))

  chain-points : (apart resource : ℕ) (slots : List Slot) → All (Contains (slot_order machine plans resource)) slots → All LeavesPoint (chain_gaps apart slots)
  chain-points apart resource [] among = All-nil LeavesPoint
  chain-points apart resource (x ∷ []) among = All-nil LeavesPoint
  chain-points apart resource (x ∷ y ∷ slots) among =
      All-cons LeavesPoint (slot_gap apart x y) (chain_gaps apart (y ∷ slots))
      (slot-point resource x (All-head (Contains (slot_order machine plans resource)) x (y ∷ slots) among) x.rule.end)
      (chain-points apart resource (y ∷ slots) (All-tail (Contains (slot_order machine plans resource)) x (y ∷ slots) among))

  chains-points : (count : ℕ) → All LeavesPoint (all_chains machine (slot_order machine plans) count)
  chains-points zero = All-nil LeavesPoint
  chains-points (suc n) =
      All-append LeavesPoint (chain_gaps (gap_at machine n) (slot_order machine plans n)) (all_chains machine (slot_order machine plans) n)
      (chain-points (gap_at machine n) n (slot_order machine plans n) (All-contains_itself (slot_order machine plans n))) (chains-points n)

  pub gaps-points : All (λ g. IsPoint plans 0 g.from) (plans_gaps machine plans)
  gaps-points =
      All-append LeavesPoint (duration_gaps machine plans) (line_gaps plans ++ all_chains machine (slot_order machine plans) (length machine.resources))
      (durations-points plans (All-contains_itself plans))
      (All-append LeavesPoint (line_gaps plans) (all_chains machine (slot_order machine plans) (length machine.resources)) (lines-points plans (All-contains_itself plans)) (chains-points (length machine.resources)))
