-- Only one state leads to a state by an action, and so by a list of them.
use Rattle.std.proofs.Common.{◌≡◌, ℕ, Bool, true, false, cond, not, ◌&&◌, ◌||◌, ◌==◌, List, [], ◌∷◌, refl, sym, arith, ◌∙◌, ap, subst, Option, Some, None, option_and_then}
use Rattle.std.proofs.lemmas.Bool.{and_parts}
use Rattle.std.proofs.lemmas.Bool.Decides.{nat_tests}
use Rattle.tp_machine.specs.ModuleUse.{action_at}
use Rattle.tp_machine.specs.Steps.{step_of, can_step, after, other_side, is_done, prints, prints_kind, wanted, is_front as is_front_up}
use Rattle.tp_machine.specs.declared.parts.Action.{Action}
use Rattle.tp_machine.specs.declared.parts.ActId.{ActId}
use Rattle.tp_machine.specs.declared.parts.Face.{Face}
use Rattle.tp_machine.specs.declared.parts.Face.TheVariants.{Front, Back}
use Rattle.tp_machine.specs.declared.parts.Sheet.{Sheet}
use Rattle.tp_machine.specs.declared.parts.State.{State}
use Rattle.tp_machine.specs.declared.machine.Machine.{Machine}
use Rattle.tp_schedule.specs.Routes.{walk, step_by}
use Rattle.tp_schedule.proofs.Walks.{walk_first}

-- one state leads to a state by an action
abbrev done : Face → Bool → Bool → Bool
done Front x y = x
done Back x y = y

up-is : (b : Bool) (f g : Face) → cond b (other_side f) f ≡ cond b (other_side g) g → f ≡ g
up-is true Front Front e = refl
up-is true Front Back e = sym e
up-is true Back Front e = sym e
up-is true Back Back e = refl
up-is false f g e = e

-- the sides that were done, where a side that is printed was not done
front-is : (pr : Bool) (u : Face) (x x' y y' k k' : Bool) → (not pr || (not (done u x y) && k)) ≡ true → (not pr || (not (done u x' y') && k')) ≡ true → (x || (pr && is_front_up u)) ≡ (x' || (pr && is_front_up u)) → x ≡ x'
front-is pr u true true y y' k k' a b e = refl
front-is pr u false false y y' k k' a b e = refl
front-is false u true false y y' k k' a b e = e
front-is false u false true y y' k k' a b e = e
front-is true Front true false y y' k k' a b e = absurd cc
front-is true Front false true y y' k k' a b e = absurd cc
front-is true Back true false y y' k k' a b e = e
front-is true Back false true y y' k k' a b e = e

back-is : (pr : Bool) (u : Face) (x x' y y' k k' : Bool) → (not pr || (not (done u x y) && k)) ≡ true → (not pr || (not (done u x' y') && k')) ≡ true → (y || (pr && not (is_front_up u))) ≡ (y' || (pr && not (is_front_up u))) → y ≡ y'
back-is pr u x x' true true k k' a b e = refl
back-is pr u x x' false false k k' a b e = refl
back-is false u x x' true false k k' a b e = e
back-is false u x x' false true k k' a b e = e
back-is true Back x x' true false k k' a b e = absurd cc
back-is true Back x x' false true k k' a b e = absurd cc
back-is true Front x x' true false k k' a b e = e
back-is true Front x x' false true k k' a b e = e

done-is : (s : State) → is_done s s.up ≡ done s.up s.front_done s.back_done
done-is s = go s.up where
  go : (u : Face) → is_done s u ≡ done u s.front_done s.back_done
  go Front = refl
  go Back = refl

same-number : (m n k : ℕ) → (m == k) ≡ true → (n == k) ≡ true → m ≡ n
same-number m n k e f = grind (arith, nat_tests)

can-unique : (a : Action) (sheet : Sheet) (s s' : State) → can_step a sheet s ≡ true → can_step a sheet s' ≡ true → after a s ≡ after a s' → s ≡ s'
can-unique a sheet s s' x y e =
    let n : s.loc.0 ≡ s'.loc.0 = same-number s.loc.0 s'.loc.0 a.from.0 (and_parts (s.loc.0 == a.from.0) (rest s) x).0 (and_parts (s'.loc.0 == a.from.0) (rest s') y).0 in
    let u : s.up ≡ s'.up = up-is a.flip s.up s'.up (ap (λ q. q.up) e) in
    let p : (not (prints a) || (not (done s'.up s.front_done s.back_done) && prints_kind a (wanted sheet s.up))) ≡ true = rw (← u, ← done-is s) (and_parts (s.loc.0 == a.from.0) (rest s) x).1 in
    let q : (not (prints a) || (not (done s'.up s'.front_done s'.back_done) && prints_kind a (wanted sheet s'.up))) ≡ true = rw (← done-is s') (and_parts (s'.loc.0 == a.from.0) (rest s') y).1 in
    let ef : (s.front_done || (prints a && is_front_up s'.up)) ≡ (s'.front_done || (prints a && is_front_up s'.up)) = subst (λ v. (s.front_done || (prints a && is_front_up v)) ≡ (s'.front_done || (prints a && is_front_up s'.up))) u (ap (λ q. q.front_done) e) in
    let eb : (s.back_done || (prints a && not (is_front_up s'.up))) ≡ (s'.back_done || (prints a && not (is_front_up s'.up))) = subst (λ v. (s.back_done || (prints a && not (is_front_up v))) ≡ (s'.back_done || (prints a && not (is_front_up s'.up)))) u (ap (λ q. q.back_done) e) in
    let f = front-is (prints a) s'.up s.front_done s'.front_done s.back_done s'.back_done (prints_kind a (wanted sheet s.up)) (prints_kind a (wanted sheet s'.up)) p q ef in
    let b = back-is (prints a) s'.up s.front_done s'.front_done s.back_done s'.back_done (prints_kind a (wanted sheet s.up)) (prints_kind a (wanted sheet s'.up)) p q eb in
    λ i. record { loc = record { 0 = n i }; up = u i; front_done = f i; back_done = b i } where
      rest : State → Bool
      rest r = not (prints a) || (not (is_done r r.up) && prints_kind a (wanted sheet r.up))

step-unique : (a : Action) (sheet : Sheet) (s s' g : State) → step_of a sheet s ≡ Some g → step_of a sheet s' ≡ Some g → s ≡ s'
step-unique a sheet s s' g e f = go (can_step a sheet s) (can_step a sheet s') refl refl e f where
  some-is : {X : Type 0} (u v : X) → Some u ≡ Some v → u ≡ v
  some-is u v h = cc

  go : (b c : Bool) → can_step a sheet s ≡ b → can_step a sheet s' ≡ c → cond b (Some (after a s)) None ≡ Some g → cond c (Some (after a s')) None ≡ Some g → s ≡ s'
  go false c x y e' f' = absurd cc
  go true false x y e' f' = absurd cc
  go true true x y e' f' = can-unique a sheet s s' x y (some-is (after a s) (after a s') (e' ∙ sym f'))

step_by-unique : (machine : Machine) (sheet : Sheet) (act : ActId) (s s' g : State) → step_by machine sheet act s ≡ Some g → step_by machine sheet act s' ≡ Some g → s ≡ s'
step_by-unique machine sheet act s s' g e f = go (action_at machine act.0) e f where
  go : (o : Option Action) → option_and_then (λ a. step_of a sheet s) o ≡ Some g → option_and_then (λ a. step_of a sheet s') o ≡ Some g → s ≡ s'
  go None e' f' = absurd cc
  go (Some a) e' f' = step-unique a sheet s s' g e' f'

pub first-unique : (machine : Machine) (sheet : Sheet) (acts : List ActId) (s s' g : State) → walk machine sheet acts s ≡ Some g → walk machine sheet acts s' ≡ Some g → s ≡ s'
first-unique machine sheet [] s s' g e f = cc
first-unique machine sheet (act ∷ acts) s s' g e f =
    let a = walk_first machine sheet act acts s g e in
    let b = walk_first machine sheet act acts s' g f in
    let same = first-unique machine sheet acts a.0 b.0 g a.2 b.2 in
    step_by-unique machine sheet act s s' b.0 (subst (λ r. step_by machine sheet act s ≡ Some r) same a.1) b.1
