-- Where a plan ends.
use Rattle.std.proofs.Common.{◌≡◌, ℕ, suc, ◌-◌, List, [], ◌∷◌, length, refl, ap, sym, ◌∙◌, arith, Option, Some, None, IsSomeAnd}
use Rattle.std.specs.Prelude.{slice_get}
use Rattle.tp_machine.specs.ModuleUse.{action_at}
use Rattle.tp_machine.specs.declared.parts.ActId.{ActId}
use Rattle.tp_machine.specs.declared.parts.Action.{Action}
use Rattle.tp_machine.specs.declared.machine.Machine.{Machine}
use Rattle.tp_schedule.specs.Plans.{IsTimedPlan}
use Rattle.tp_schedule.specs.declared.parts.Plan.{Plan}
use Rattle.tp_event_rules.specs.Labels.{end_location, last_of, to_in}

last_of-at : (acts : List ActId) (act : ActId) → slice_get acts (length acts - 1) ≡ Some act → last_of acts ≡ act
last_of-at [] act is = absurd cc
last_of-at (a ∷ []) act is = let same : a ≡ act = cc in same
last_of-at (a ∷ b ∷ acts) act is =
    let behind : length (a ∷ b ∷ acts) - 1 ≡ suc (length (b ∷ acts) - 1) = omega arith in
    last_of-at (b ∷ acts) act (ap (slice_get (a ∷ b ∷ acts)) (sym behind) ∙ is)

there : {X : Type 0} (P : X → Type 0) (o : Option X) → IsSomeAnd o P → (x : X) × (o ≡ Some x)
there P None known = absurd known
there P (Some x) known = (x, refl)

-- the machine has each action of a timed plan
pub has-action : (machine : Machine) (p : Plan) (i : ℕ) (act : ActId) → IsTimedPlan machine p → slice_get p.acts i ≡ Some act → (a : Action) × (action_at machine act.0 ≡ Some a)
has-action machine p i act timed is = there _ (action_at machine act.0) (timed.lasts i act is)

pub end-is : (machine : Machine) (p : Plan) (act : ActId) (a : Action) → slice_get p.acts (length p.acts - 1) ≡ Some act → action_at machine act.0 ≡ Some a → a.to ≡ end_location machine p
end-is machine p act a is at = sym (ap (λ (x : ActId). to_in (action_at machine x.0)) (last_of-at p.acts act is) ∙ ap to_in at)
