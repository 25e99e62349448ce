-- A legal schedule stays legal without a plan.
use Rattle.std.proofs.Common.{◌≡◌, ℕ, ◌≤◌, Bool, true, false, cond, not, List, [], ◌∷◌, ◌++◌, length, filter, flat_map, arith}
use Rattle.std.proofs.lemmas.List.{length-append, length-map}
use Rattle.std.proofs.lemmas.List.Elements.{filter-append, All-filter}
use Rattle.std.proofs.lemmas.List.Kept.{AllPairs-filter}
use Rattle.tp_machine.specs.declared.machine.Machine.{Machine}
use Rattle.tp_schedule.specs.declared.parts.Plan.{Plan}
use Rattle.tp_schedule.specs.declared.parts.SheetId.{SheetId}
use Rattle.tp_schedule.proofs.HeldModes.{spread-fewer, held_in_more}
use Rattle.tp_schedule.proofs.Membership.{Contains-filter_from}
use Rattle.tp_schedule.specs.Holders.{runs, runs_of, held, hold_of, holds_at}
use Rattle.tp_schedule.specs.Legality.{IsLegal, EndsBefore}
use Rattle.tp_schedule.specs.Plans.{IsTimedPlan, without, is_before, is_same_copy}

-- fewer lists have no more elements that pass
pub length-filter-flat_map-filter : {X Y : Type 0} (q : Y → Bool) (f : X → List Y) (p : X → Bool) (xs : List X) → length (filter q (flat_map f (filter p xs))) ≤ length (filter q (flat_map f xs))
length-filter-flat_map-filter q f p [] = omega arith
length-filter-flat_map-filter {X} {Y} q f p (x ∷ xs) =
    elim (p x) as (λ b. length (filter q (flat_map f (cond b (x ∷ filter p xs) (filter p xs)))) ≤ length (filter q (f x ++ flat_map f xs))) [
      | true ↦ rw (filter-append q (f x) (flat_map f (filter p xs)), filter-append q (f x) (flat_map f xs), length-append (filter q (f x)) (filter q (flat_map f (filter p xs))), length-append (filter q (f x)) (filter q (flat_map f xs)))
          (omega (arith, length-filter-flat_map-filter q f p xs))
      | false ↦ rw (filter-append q (f x) (flat_map f xs), length-append (filter q (f x)) (filter q (flat_map f xs)))
          (omega (arith, length-filter-flat_map-filter q f p xs))
    ]

pub length-held-without : (machine : Machine) (copy : SheetId) (plans : List Plan) (resource tick : ℕ) → length (held machine (without copy plans) resource tick) ≤ length (held machine plans resource tick)
length-held-without machine copy plans resource tick =
    rw (length-map (filter (holds_at machine resource tick) (runs (without copy plans))) hold_of, length-map (filter (holds_at machine resource tick) (runs plans)) hold_of)
    (length-filter-flat_map-filter (holds_at machine resource tick) runs_of (λ p. not (is_same_copy p.sheet copy)) plans)

pub IsLegal-without : (machine : Machine) (copy : SheetId) (plans : List Plan) → IsLegal machine plans → IsLegal machine (without copy plans)
IsLegal-without machine copy plans legal = record {
  in_order = AllPairs-filter (λ p q. is_before p.sheet q.sheet ≡ true) (λ p. not (is_same_copy p.sheet copy)) plans legal.in_order;
  timed = All-filter (λ p. not (is_same_copy p.sheet copy)) (IsTimedPlan machine) plans legal.timed;
  single = λ resource tick. omega (arith, legal.single resource tick, length-held-without machine copy plans resource tick);
  spread = λ resource tick. spread-fewer machine plans (without copy plans) resource tick
      (λ t mode h. held_in_more machine plans (without copy plans) resource t mode (λ p in'. (Contains-filter_from (λ q. not (is_same_copy q.sheet copy)) plans p in').0) h) (legal.spread resource tick);
  rise = AllPairs-filter EndsBefore (λ p. not (is_same_copy p.sheet copy)) plans legal.rise;
}
