-- The plan of a copy is one of the plans.
use Rattle.std.proofs.Common.{◌≡◌, Bool, true, false, cond, List, [], ◌∷◌, refl, Contains, subst, Some}
use Rattle.tp_schedule.proofs.Membership.{Contains-here, Contains-later}
use Rattle.tp_schedule.specs.Plans.{plan_of, is_same_copy}
use Rattle.tp_schedule.specs.declared.parts.Plan.{Plan}
use Rattle.tp_schedule.specs.declared.parts.SheetId.{SheetId}

-- the plan of a copy is in the schedule
pub plan_of-contains : (copy : SheetId) (plans : List Plan) (p : Plan) → plan_of copy plans ≡ Some p → Contains plans p × (is_same_copy p.sheet copy ≡ true)
plan_of-contains copy [] p e = absurd (cc)
plan_of-contains copy (q ∷ plans) p e = go (is_same_copy q.sheet copy) refl e (plan_of-contains copy plans p) where
  go : (b : Bool) → is_same_copy q.sheet copy ≡ b → cond b (Some q) (plan_of copy plans) ≡ Some p → (plan_of copy plans ≡ Some p → Contains plans p × (is_same_copy p.sheet copy ≡ true)) → Contains (q ∷ plans) p × (is_same_copy p.sheet copy ≡ true)
  go true same e' rest = let is : q ≡ p = cc in (subst (Contains (q ∷ plans)) is (Contains-here q plans), subst (λ r. is_same_copy r.sheet copy ≡ true) is same)
  go false other e' rest = let r = rest e' in (Contains-later q plans p r.0, r.1)
