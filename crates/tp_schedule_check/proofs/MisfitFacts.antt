-- Actions that last within their durations, by what is looked up of them.
use Rattle.std.proofs.Common.{◌≡◌, ℕ, ◌+◌, ◌<◌, ◌≤◌, to_z, of_z, w64, refl, sym, subst, ◌∙◌, arith, Option, Some, None, slice_get, IsSomeAnd}
use Rattle.std.specs.Prelude.{ℤ, pos, ◌-ℤ◌, ◌≤ℤ◌, ◌<ℤ◌, ◌⊎◌}
use Rattle.std.proofs.lemmas.Int.{ints, to_z-of_z}
use Rattle.std.proofs.lemmas.Option.{same_Some}
use Rattle.tp_machine.specs.ModuleUse.{action_at}
use Rattle.tp_machine.specs.declared.machine.Machine.{Machine}
use Rattle.tp_machine.specs.declared.parts.ActId.{ActId}
use Rattle.tp_machine.specs.declared.parts.Action.{Action}
use Rattle.tp_schedule.specs.Plans.{LastsWithin, point}
use Rattle.tp_schedule.specs.declared.parts.Plan.{Plan}
use Rattle.tp_schedule_check.specs.Misfits.{DoesFit, IsMisfit}
use Rattle.tp_schedule_check.proofs.ListFacts.{get-is}

within-least : (start end least : ℕ) → pos least ≤ℤ (pos end -ℤ pos start) → start + least ≤ end
within-least start end least le = omega (arith, ints)

within-most : (start end most : ℕ) → (pos end -ℤ pos start) ≤ℤ pos most → end ≤ start + most
within-most start end most le = omega (arith, ints)

pub does-fit : (machine : Machine) (p : Plan) (i : ℕ) (id : ActId) (a : Action) (start end : ℕ) → slice_get p.acts i ≡ Some id → action_at machine id.0 ≡ Some a
    → slice_get p.points i ≡ Some start → slice_get p.points (i + 1) ≡ Some end → pos a.least ≤ℤ (pos end -ℤ pos start) → (pos end -ℤ pos start) ≤ℤ pos a.most → DoesFit machine p i
does-fit machine p i id a start end there known from to least most act b there' known' =
    let one : id ≡ act = same_Some id act (sym there ∙ there') in
    let s : start ≡ point p i = sym (get-is p.points i start 0 from) in
    let e : end ≡ point p (i + 1) = sym (get-is p.points (i + 1) end 0 to) in
    subst (λ x. LastsWithin machine x (point p i) (point p (i + 1))) one
    (subst (λ (o : Option Action). IsSomeAnd o (λ x. (point p i + x.least ≤ point p (i + 1)) × (point p (i + 1) ≤ point p i + x.most))) (sym known)
    (subst (λ x. (x + a.least ≤ point p (i + 1)) × (point p (i + 1) ≤ x + a.most)) s
    (subst (λ y. (start + a.least ≤ y) × (y ≤ start + a.most)) e (within-least start end a.least least, within-most start end a.most most))))

-- an action that the machine does not know is none that does not fit
pub unknown-fits : (machine : Machine) (p : Plan) (i : ℕ) (id : ActId) → slice_get p.acts i ≡ Some id → action_at machine id.0 ≡ None → DoesFit machine p i
unknown-fits machine p i id there unknown act b there' known' =
    let one : id ≡ act = same_Some id act (sym there ∙ there') in
    let e : None ≡ Some b = sym unknown ∙ subst (λ (x : ActId). action_at machine x.0 ≡ Some b) (sym one) known' in
    absurd cc

-- a count of ticks between two that fit keeps its value
pub between-kept : (r : ℤ) (start end : ℕ) → start < 4294967296 → end < 4294967296 → r ≡ pos end -ℤ pos start → to_z w64 (of_z w64 r) ≡ pos end -ℤ pos start
between-kept r start end a b e = grind (arith, ints, to_z-of_z)

pub is-misfit : (machine : Machine) (p : Plan) (i : ℕ) (id : ActId) (a : Action) (start end : ℕ) (lasts : ℤ) (limit : ℕ) → slice_get p.acts i ≡ Some id → action_at machine id.0 ≡ Some a
    → slice_get p.points i ≡ Some start → slice_get p.points (i + 1) ≡ Some end → lasts ≡ pos end -ℤ pos start
    → ((limit ≡ a.least) × (lasts <ℤ pos limit)) ⊎ ((limit ≡ a.most) × (pos limit <ℤ lasts)) → IsMisfit machine p (record { act = i + 1; lasts = lasts; limit = limit })
is-misfit machine p i id a start end lasts limit there known from to is breaks = record {
  place = i;
  counted = refl;
  id = id;
  there = there;
  action = a;
  known = known;
  lasts = is ∙ (λ j. pos (e j) -ℤ pos (s j));
  breaks = breaks;
} where
  s : start ≡ point p i
  s = sym (get-is p.points i start 0 from)

  e : end ≡ point p (i + 1)
  e = sym (get-is p.points (i + 1) end 0 to)
