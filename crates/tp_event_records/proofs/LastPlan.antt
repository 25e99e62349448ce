-- The points of the plan of a copy that is the last one of all.
use Rattle.std.proofs.Common.{◌≡◌, ◌∙◌, ℕ, suc, ◌<◌, ◌≤◌, inl, inr, List, [], ◌∷◌, ◌++◌, length, position, slice_get, IsSome, None, Option, Some, refl, ap, sym, subst, arith}
use Rattle.std.proofs.lemmas.Bool.{cases_lt}
use Rattle.std.proofs.lemmas.List.{map-append}
use Rattle.std.proofs.lemmas.List.Quantifiers.{position-Some}
use Rattle.std.proofs.lemmas.Option.{get_or_from_slice_get}
use Rattle.tp_schedule.proofs.ChangeFacts.{plan_of-at, planned-has_place}
use Rattle.tp_schedule.proofs.LastPlan.{IsBehindAll, last-of_copy}
use Rattle.tp_schedule.proofs.PlanOrder.{without-none}
use Rattle.tp_schedule.specs.Plans.{is_same_copy, plan_of, without}
use Rattle.tp_schedule.specs.declared.parts.Plan.{Plan}
use Rattle.tp_schedule.specs.declared.parts.SheetId.{SheetId}
use Rattle.tp_event_records.specs.RecordNames.{points_of}

-- a copy that has no place is none of the plans'
pub none-there : (copy : SheetId) (plans : List Plan) → None ≡ position (λ q. is_same_copy q.sheet copy) plans → without copy plans ≡ plans
none-there copy plans none = go (plan_of copy plans) refl where
  go : (o : Option Plan) → plan_of copy plans ≡ o → without copy plans ≡ plans
  go None is = without-none copy plans is
  go (Some p) is = absurd (planned-has_place copy plans (subst IsSome (sym is) refl) none)

-- a place of a copy is one of the plans'
pub place-within : (copy : SheetId) (plans : List Plan) (at : ℕ) → Some at ≡ position (λ q. is_same_copy q.sheet copy) plans → at < length plans
place-within copy [] at is = absurd cc
place-within copy (p ∷ plans) at is = (position-Some (λ q. is_same_copy q.sheet copy) (p ∷ plans) at p (sym is)).0

-- the points of all plans are those of the others, and its own behind them
pub points-last : (copy : SheetId) (plans : List Plan) (at : ℕ) (p : Plan) → Some at ≡ position (λ q. is_same_copy q.sheet copy) plans → length plans ≤ suc at → slice_get plans at ≡ Some p
    → points_of (without copy plans) ++ p.points ∷ [] ≡ points_of plans
points-last copy plans at p is few there =
    let place = position-Some (λ q. is_same_copy q.sheet copy) plans at p (sym is) in
    let last : IsBehindAll copy plans = λ k q here same. elim (cases_lt k at) [
      | inl below ↦
          let other = place.2 k below in
          let one = get_or_from_slice_get plans k q p here in
          absurd cc
      | inr above ↦ omega arith
    ] in
    let all = last-of_copy copy plans p last (plan_of-at copy plans at p is place.0 (sym (get_or_from_slice_get plans at p p there))) in
    sym (ap points_of all ∙ map-append (λ q. q.points) (without copy plans) (p ∷ []))
