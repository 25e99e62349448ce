-- Walks one action at a time: the first action of a walk, and one action more at its end.
use Rattle.std.proofs.Common.{◌≡◌, inl, inr, suc, ◌+◌, List, [], ◌∷◌, ◌++◌, refl, sym, arith, subst, Option, Some, None, option_and_then, IsTrue}
use Rattle.std.proofs.lemmas.List.Elements.{Contains-push_cases}
use Rattle.tp_schedule.specs.Routes.{walk, step_by, AreAllowed, least_sum, least_of, is_act_allowed}
use Rattle.tp_machine.specs.declared.parts.ActId.{ActId}
use Rattle.tp_machine.specs.declared.parts.Sheet.{Sheet}
use Rattle.tp_machine.specs.declared.parts.Outs.{Outs}
use Rattle.tp_machine.specs.declared.parts.State.{State}
use Rattle.tp_machine.specs.declared.machine.Machine.{Machine}

option_walk : {X Y : Type 0} (f : X → Option Y) (o : Option X) (y : Y) → option_and_then f o ≡ Some y → (x : X) × (o ≡ Some x) × (f x ≡ Some y)
option_walk f None y e = absurd (cc)
option_walk f (Some x) y e = (x, refl, e)

-- the state after the first action of a walk
pub walk_first : (machine : Machine) (sheet : Sheet) (act : ActId) (acts : List ActId) (s goal : State) → walk machine sheet (act ∷ acts) s ≡ Some goal → (s' : State) × (step_by machine sheet act s ≡ Some s') × (walk machine sheet acts s' ≡ Some goal)
walk_first machine sheet act acts s goal e = option_walk (walk machine sheet acts) (step_by machine sheet act s) goal e

-- a walk goes on by one action
pub walk_on : (machine : Machine) (sheet : Sheet) (acts : List ActId) (act : ActId) (s s' s'' : State) → walk machine sheet acts s ≡ Some s' → step_by machine sheet act s' ≡ Some s'' → walk machine sheet (acts ++ act ∷ []) s ≡ Some s''
walk_on machine sheet [] act s s' s'' e f =
    let same : s ≡ s' = cc in subst (λ r. walk machine sheet (act ∷ []) r ≡ Some s'') (sym same) (rw f refl)
walk_on machine sheet (a ∷ acts) act s s' s'' e f =
    let first = walk_first machine sheet a acts s s' e in
    rw first.1 (walk_on machine sheet acts act first.0 s' s'' first.2 f)

pub least_sum-push : (machine : Machine) (acts : List ActId) (act : ActId) → least_sum machine (acts ++ act ∷ []) ≡ least_sum machine acts + least_of machine act
least_sum-push machine [] act = omega arith
least_sum-push machine (a ∷ acts) act = omega (arith, least_sum-push machine acts act)

pub AreAllowed-tail : (machine : Machine) (outs : Outs) (act : ActId) (acts : List ActId) → AreAllowed machine outs (act ∷ acts) → AreAllowed machine outs acts
AreAllowed-tail machine outs act acts all a in' = all a (suc in'.0, omega (arith, in'.1), in'.2)

pub AreAllowed-head : (machine : Machine) (outs : Outs) (act : ActId) (acts : List ActId) → AreAllowed machine outs (act ∷ acts) → IsTrue (is_act_allowed machine outs act)
AreAllowed-head machine outs act acts all = all act (0, omega arith, refl)

pub AreAllowed-push : (machine : Machine) (outs : Outs) (acts : List ActId) (act : ActId) → AreAllowed machine outs acts → IsTrue (is_act_allowed machine outs act) → AreAllowed machine outs (acts ++ act ∷ [])
AreAllowed-push machine outs acts act all one a in' =
    elim (Contains-push_cases acts act a in') [
      | inl before ↦ all a before
      | inr e ↦ subst (λ x. IsTrue (is_act_allowed machine outs x)) e one
    ]
