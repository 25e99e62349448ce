-- Going along the actions that start from a state misses no step: no other has one.
use Rattle.std.proofs.Common.{◌≡◌, ℕ, zero, suc, ◌+◌, ◌-◌, ◌<◌, Bool, true, false, cond, eqb, not, ◌&&◌, ◌||◌, List, length, slice_get, Option, Some, None, refl, sym, ◌∙◌, ap, arith, add-one, option_and_then}
use Rattle.std.proofs.lemmas.Bool.{eq-eqb, ne_eqb}
use Rattle.std.proofs.lemmas.List.{length-map}
use Rattle.tp_bounds.specs.declared.tree.TreeRow.{TreeRow}
use Rattle.tp_machine.specs.Steps.{step_of}
use Rattle.tp_machine.specs.declared.parts.Action.{Action}
use Rattle.tp_machine.specs.declared.parts.Sheet.{Sheet}
use Rattle.tp_machine.specs.declared.parts.State.{State}
use Rattle.tp_machine.specs.declared.machine.Machine.{Machine}
use Rattle.tp_schedule.specs.Routes.{is_act_allowed, least_of, step_by}
use Rattle.tp_schedule.specs.declared.parts.Ask.{Ask}
use Rattle.tp_bound_laws.specs.Flaws.{are_steps_kept, is_row_after, is_step_kept}
use Rattle.tp_bound_check.specs.Links.{next_at, starts_of}
use Rattle.tp_bound_check.proofs.LinkFacts.{at-map, next-here, next-none, some-at, within}

and-true : (b : Bool) → (b && true) ≡ b
and-true true = refl
and-true false = refl

or-true : (b : Bool) → (b || true) ≡ true
or-true true = refl
or-true false = refl

nest : (a b c : Bool) → (a && (b && c)) ≡ ((a && b) && c)
nest true b c = refl
nest false b c = refl

no-step : (a : Action) (sheet : Sheet) (s : State) → eqb a.from.0 s.loc.0 ≡ false → step_of a sheet s ≡ None
no-step a sheet s other =
    let swapped : eqb s.loc.0 a.from.0 ≡ false = ne_eqb s.loc.0 a.from.0 (λ e. (let t : eqb a.from.0 s.loc.0 ≡ true = eq-eqb a.from.0 s.loc.0 (sym e) in absurd cc)) in
    rw swapped refl

module _ (machine : Machine) (ask : Ask) (rows : List TreeRow) (s : State) (room : ℕ) where
  -- the steps of so many actions from one on are kept
  abbrev pub kept_from : ℕ → ℕ → Bool
  kept_from n zero = true
  kept_from n (suc m) = is_step_kept machine ask rows s room (record { 0 = n }) && kept_from (suc n) m

  -- those of all from a number on, if there is one
  abbrev pub kept_at : Option ℕ → Bool
  kept_at None = true
  kept_at (Some n) = kept_from n (length machine.actions - n)

  split : (n m : ℕ) → (are_steps_kept machine ask rows s room n && kept_from n m) ≡ are_steps_kept machine ask rows s room (n + m)
  split n zero = and-true (are_steps_kept machine ask rows s room n) ∙ ap (are_steps_kept machine ask rows s room) (let e : n ≡ n + 0 = omega arith in e)
  split n (suc m) =
      nest (are_steps_kept machine ask rows s room n) (is_step_kept machine ask rows s room (record { 0 = n })) (kept_from (suc n) m) ∙ split (suc n) m
      ∙ ap (are_steps_kept machine ask rows s room) (let e : suc n + m ≡ n + suc m = omega arith in e)

  elsewhere : (n : ℕ) (a : Action) → slice_get machine.actions n ≡ Some a → eqb a.from.0 s.loc.0 ≡ false → is_step_kept machine ask rows s room (record { 0 = n }) ≡ true
  elsewhere n a at other =
      let none : step_by machine ask.want (record { 0 = n }) s ≡ None = ap (option_and_then (λ x. step_of x ask.want s)) at ∙ no-step a ask.want s other in
      let top = room + least_of machine (record { 0 = n }) in
      ap (λ o. not (is_act_allowed machine ask.outs (record { 0 = n })) || is_row_after machine ask rows top o) none ∙ or-true (not (is_act_allowed machine ask.outs (record { 0 = n })))

  skip : (n m : ℕ) → n + m ≡ length machine.actions → kept_from n m ≡ kept_at (next_at s.loc.0 n (starts_of machine))
  skip n zero all =
      let e : n ≡ length (starts_of machine) = omega (arith, all, length-map machine.actions (λ (a : Action). a.from.0)) in
      sym (ap (λ k. kept_at (next_at s.loc.0 k (starts_of machine))) e ∙ ap kept_at (next-none (starts_of machine) s.loc.0))
  skip n (suc m) all =
      let a = some-at machine.actions n (omega (arith, all)) in
      go (eqb a.0.from.0 s.loc.0) a.0 a.1 refl (skip (n + 1) m (omega (arith, all)))
    where
      go : (t : Bool) (a : Action) → slice_get machine.actions n ≡ Some a → eqb a.from.0 s.loc.0 ≡ t → kept_from (n + 1) m ≡ kept_at (next_at s.loc.0 (n + 1) (starts_of machine)) → kept_from n (suc m) ≡ kept_at (next_at s.loc.0 n (starts_of machine))
      go true a at t rest =
          let here : next_at s.loc.0 n (starts_of machine) ≡ Some n =
          next-here (starts_of machine) s.loc.0 n a.from.0 (at-map (λ (x : Action). x.from.0) machine.actions n a at) ∙ ap (λ u. cond u (Some n) (next_at s.loc.0 (n + 1) (starts_of machine))) t in
          let k : length machine.actions - n ≡ suc m = omega (arith, all) in
          sym (ap kept_at here ∙ ap (kept_from n) k)
      go false a at t rest =
          let here : next_at s.loc.0 n (starts_of machine) ≡ next_at s.loc.0 (n + 1) (starts_of machine) =
          next-here (starts_of machine) s.loc.0 n a.from.0 (at-map (λ (x : Action). x.from.0) machine.actions n a at) ∙ ap (λ u. cond u (Some n) (next_at s.loc.0 (n + 1) (starts_of machine))) t in
          ap (λ u. u && kept_from (suc n) m) (elsewhere n a at t) ∙ ap (λ k. kept_from k m) (sym (add-one n)) ∙ rest ∙ ap kept_at (sym here)

  -- all steps are kept if those along the actions from the state's location are
  pub steps-first : (first : Option ℕ) → first ≡ next_at s.loc.0 0 (starts_of machine) → are_steps_kept machine ask rows s room (length machine.actions) ≡ kept_at first
  steps-first first is =
      let n : 0 + length machine.actions ≡ length machine.actions = omega arith in
      ap (are_steps_kept machine ask rows s room) (sym n) ∙ sym (split 0 (length machine.actions)) ∙ skip 0 (length machine.actions) n ∙ ap kept_at (sym is)

  pub steps-on : (n : ℕ) (next : Option ℕ) → n < length machine.actions → next ≡ next_at s.loc.0 (n + 1) (starts_of machine) → kept_at (Some n) ≡ (is_step_kept machine ask rows s room (record { 0 = n }) && kept_at next)
  steps-on n next lt is =
      let N = length machine.actions in
      let m : N - n ≡ suc (N - (n + 1)) = omega arith in
      let one : n + 1 ≡ suc n = omega arith in
      ap (kept_from n) m
      ∙ ap (λ u. is_step_kept machine ask rows s room (record { 0 = n }) && u) (ap (λ k. kept_from k (N - (n + 1))) (sym one) ∙ skip (n + 1) (N - (n + 1)) (omega (arith, lt)) ∙ ap kept_at (sym is))

-- the actions that start somewhere are those of the machine
pub known-start : (machine : Machine) (n loc : ℕ) → slice_get (starts_of machine) n ≡ Some loc → n < length machine.actions
known-start machine n loc at = let l = within (starts_of machine) n loc at in omega (arith, l, length-map machine.actions (λ (a : Action). a.from.0))
