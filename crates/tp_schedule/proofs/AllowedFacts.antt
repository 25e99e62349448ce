-- An action passes the test exactly where none of the modules that it uses is out: its own, and those of its holds.
use Rattle.std.proofs.Common.{◌≡◌, ℕ, Bool, true, false, not, ◌&&◌, ◌||◌, ◌==◌, List, [], ◌∷◌, refl, arith, subst, Some, None, Option, IsTrue, slice_get}
use Rattle.std.specs.List.{list_all, list_any}
use Rattle.std.proofs.lemmas.Bool.{and_parts, eqb-true, not-true}
use Rattle.std.proofs.lemmas.Bool.Decides.{nat_tests}
use Rattle.tp_machine.specs.declared.parts.HoldRule.{HoldRule}
use Rattle.tp_machine.specs.declared.parts.Outs.{Outs}
use Rattle.tp_machine.specs.declared.parts.Resource.{Resource}
use Rattle.tp_machine.specs.declared.machine.Machine.{Machine}
use Rattle.tp_machine.specs.ModuleUse.{uses_module, holds_module, is_of_module, is_out, is_out_of, is_held_out, is_allowed, IsAllowed}
use Rattle.tp_schedule.specs.Laws.{AllowedIsTested}
use Rattle.tp_schedule.specs.Routes.{is_act_allowed}

-- a module of a resource
of_module : (outs : Outs) (o : Option Resource) (m : ℕ) → not (is_out_of outs o) ≡ true → is_of_module m o ≡ true → is_out outs m ≡ false
of_module outs None m clear is = absurd (cc)
of_module outs (Some r) m clear is =
    let same : r.module.0 ≡ m = eqb-true r.module.0 m is in
    subst (λ k. is_out outs k ≡ false) same (not-true (is_out outs r.module.0) clear)

clear_holds : (machine : Machine) (outs : Outs) (rules : List HoldRule) (m : ℕ) → list_all (λ h. not (is_held_out machine outs h)) rules ≡ true → list_any (holds_module machine m) rules ≡ true → is_out outs m ≡ false
clear_holds machine outs [] m clear is = absurd (cc)
clear_holds machine outs (h ∷ rules) m clear is =
    go (not (is_held_out machine outs h)) (holds_module machine m h) refl refl clear is (clear_holds machine outs rules m) where
      go : (b d : Bool) → not (is_held_out machine outs h) ≡ b → holds_module machine m h ≡ d
          → (b && list_all (λ k. not (is_held_out machine outs k)) rules) ≡ true → (d || list_any (holds_module machine m) rules) ≡ true
          → (list_all (λ k. not (is_held_out machine outs k)) rules ≡ true → list_any (holds_module machine m) rules ≡ true → is_out outs m ≡ false) → is_out outs m ≡ false
      go false d e f clear' is' rest = absurd (cc)
      go true true e f clear' is' rest = of_module outs (slice_get machine.resources h.resource.0) m e f
      go true false e f clear' is' rest = rest clear' is'

-- what clears every module that the holds use clears each hold
holds_clear : (machine : Machine) (outs : Outs) (rules : List HoldRule) → ((m : ℕ) → list_any (holds_module machine m) rules ≡ true → is_out outs m ≡ false) → list_all (λ h. not (is_held_out machine outs h)) rules ≡ true
holds_clear machine outs [] each = refl
holds_clear machine outs (h ∷ rules) each =
    let rest = holds_clear machine outs rules (λ m is. each m (later (holds_module machine m h) is)) in
    rw (here (slice_get machine.resources h.resource.0) refl) rest where
      later : (b : Bool) {c : Bool} → c ≡ true → (b || c) ≡ true
      later true e = refl
      later false e = e

      here : (o : Option Resource) → slice_get machine.resources h.resource.0 ≡ o → not (is_out_of outs o) ≡ true
      here None e = refl
      here (Some r) e =
          let uses : holds_module machine r.module.0 h ≡ true = rw e (grind (arith, nat_tests)) in
          let clear : is_out outs r.module.0 ≡ false = each r.module.0 (rw uses refl) in
          rw clear refl

pub allowed_is_tested : AllowedIsTested
allowed_is_tested machine outs act a at = (forth, back) where
  forth : IsTrue (is_act_allowed machine outs act) → IsAllowed machine outs a
  forth test m uses =
      let passes : is_allowed machine outs a ≡ true = rw at at test in
      let parts = and_parts (not (is_out outs a.module.0)) (list_all (λ h. not (is_held_out machine outs h)) a.holds) passes in
      pick (a.module.0 == m) refl uses parts where
        pick : (b : Bool) → (a.module.0 == m) ≡ b → (b || list_any (holds_module machine m) a.holds) ≡ true → ((not (is_out outs a.module.0) ≡ true) × (list_all (λ h. not (is_held_out machine outs h)) a.holds ≡ true)) → is_out outs m ≡ false
        pick true e is parts = subst (λ k. is_out outs k ≡ false) (eqb-true a.module.0 m e) (not-true (is_out outs a.module.0) parts.0)
        pick false e is parts = clear_holds machine outs a.holds m parts.1 is

  back : IsAllowed machine outs a → IsTrue (is_act_allowed machine outs act)
  back each =
      let mine : uses_module machine a a.module.0 ≡ true = grind (arith, nat_tests) in
      let own_clear : is_out outs a.module.0 ≡ false = each a.module.0 mine in
      let holds = holds_clear machine outs a.holds (λ m is. each m (any (a.module.0 == m) is)) in
      rw (at, own_clear) holds where
        any : (b : Bool) {c : Bool} → c ≡ true → (b || c) ≡ true
        any true e = refl
        any false e = e
