-- A copy without a place has no plan.
use Rattle.std.proofs.Common.{◌≡◌, Bool, ◌&&◌, ◌==◌, sym, ◌∙◌, List, Option, Some, None, position, refl}
use Rattle.std.proofs.Math.Bool.{and_assoc}
use Rattle.tp_schedule.proofs.ChangeFacts.{planned-has_place}
use Rattle.tp_schedule.specs.Plans.{is_same_copy, plan_of}
use Rattle.tp_schedule.specs.declared.parts.Plan.{Plan}
use Rattle.tp_schedule.specs.declared.parts.SheetId.{SheetId}

pub no-plan : (copy : SheetId) (plans : List Plan) → None ≡ position (λ p. is_same_copy p.sheet copy) plans → plan_of copy plans ≡ None
no-plan copy plans none = go (plan_of copy plans) refl where
  go : (o : Option Plan) → plan_of copy plans ≡ o → o ≡ None
  go None e = refl
  go (Some p) e = absurd (planned-has_place copy plans (rw e refl) none)

-- the derived test of two copies is the one of the definitions
pub same-copy : (a b : SheetId) (r : Bool) → r ≡ ((a.job == b.job) && ((a.number == b.number) && (a.copy == b.copy))) → is_same_copy a b ≡ r
same-copy a b r e = sym (e ∙ sym (and_assoc (a.job == b.job) (a.number == b.number) (a.copy == b.copy)))
