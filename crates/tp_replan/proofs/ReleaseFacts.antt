-- What is reported of releases, one by one; and the place of a copy's plan.
use Rattle.std.proofs.Common.{◌≡◌, ℕ, ◌<◌, List, length, get_or, slice_get, position, Option, Some, None, IsSome, refl, sym, ◌∙◌}
use Rattle.std.proofs.lemmas.Option.{get_or_from_slice_get, slice_get-get_or}
use Rattle.tp_schedule.specs.Plans.{is_same_copy, plan_of}
use Rattle.tp_schedule.specs.declared.parts.Plan.{Plan}
use Rattle.tp_schedule.specs.declared.parts.SheetId.{SheetId}
use Rattle.tp_schedule.proofs.ChangeFacts.{plan_of-at}

pub place-is : (copy : SheetId) (plans : List Plan) (i : ℕ) → Some i ≡ position (λ p. is_same_copy p.sheet copy) plans → i < length plans → IsSome (plan_of copy plans) → slice_get plans i ≡ plan_of copy plans
place-is copy plans i at within some = go (plan_of copy plans) refl some where
  go : (o : Option Plan) → plan_of copy plans ≡ o → IsSome o → slice_get plans i ≡ plan_of copy plans
  go None e s = absurd cc
  go (Some d) e s =
      let x : Plan = get_or plans i d in
      let is = slice_get-get_or plans i d within in
      is ∙ sym (plan_of-at copy plans i x at within (sym (get_or_from_slice_get plans i x x is)))
