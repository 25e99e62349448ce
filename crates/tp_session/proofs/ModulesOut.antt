-- Modules that are out are the machine's: as one goes out, as one comes back, and where a copy gets stuck.
use Rattle.std.proofs.Common.{◌≡◌, ◌≢◌, ℕ, ◌<◌, ◌∙◌, inl, inr, Bool, true, false, ◌&&◌, List, [], length, refl, sym, ap, arith, nat_lt, Option, Some, None, ◌^◌, min, max, ◌==◌, bit_and, bit_or, w64}
use Rattle.std.specs.Int.{bit_at, bit_not}
use Rattle.std.specs.Str.{bytes_eq}
use Rattle.std.proofs.lemmas.Bool.{cases_Bool, eqb-true}
use Rattle.std.proofs.lemmas.Bool.Decides.{nat_tests}
use Rattle.std.proofs.lemmas.List.Quantifiers.{position-Some}
use Rattle.std.proofs.lemmas.Nat.Bits.{bit_at-lt, bit_at-pow_other, bit_at-zero, bit_at_and, bit_at_or}
use Rattle.tp_machine.proofs.MachineFacts.{is_machine}
use Rattle.tp_machine.specs.ModuleUse.{action_at, put_on, put_out}
use Rattle.tp_machine.specs.declared.machine.Machine.{Machine}
use Rattle.tp_machine.specs.declared.parts.Action.{Action}
use Rattle.tp_machine.specs.declared.parts.Outs.{Outs}
use Rattle.tp_event_rules.specs.Loops.{module_in}
use Rattle.tp_event_rules.specs.Refusals.{module_of}
use Rattle.tp_event_rules.specs.States.{none_out}
use Rattle.tp_session_standing.specs.Sound.{AreModules}

pub none-modules : (machine : Machine) → AreModules machine none_out
none-modules machine m out = absurd (go (nat_lt m 64) (bit_at 0 m) (bit_at-zero m) out) where
  go : (b : Bool) (x : ℕ) → x ≡ 0 → (b && (x == 1)) ≡ true → ⊥
  go false x is e = cc
  go true x is e = let one = eqb-true x 1 e in omega arith

-- who is out after one more went out was out before, or is that one
pub out-modules : (machine : Machine) (outs : Outs) (m : ℕ) → m < length machine.modules → AreModules machine outs → AreModules machine (put_out outs m)
out-modules machine outs m known are k out = elim (cases_Bool (k == m)) [
  | inl same ↦ let is = eqb-true k m same in omega arith
  | inr other ↦ are k (was (nat_lt k 64) (bit_at outs.0 k) (bit_at (2 ^ m) k) (bit_at (bit_or outs.0 (2 ^ m)) k) (bit_at_or outs.0 (2 ^ m) k) (bit_at-pow_other m k (differ k m other)) out)
] where
  differ : (a b : ℕ) → (a == b) ≡ false → a ≢ b
  differ a b f = grind (arith, nat_tests)

  was : (b : Bool) (x y z : ℕ) → z ≡ max x y → y ≡ 0 → (b && (z == 1)) ≡ true → (b && (x == 1)) ≡ true
  was false x y z is low f = f
  was true x y z is low f = let same : z ≡ x = omega arith in ap (λ n. n == 1) (sym same) ∙ f

-- who is out after one came back was out before
pub on-modules : (machine : Machine) (outs : Outs) (m : ℕ) → AreModules machine outs → AreModules machine (put_on outs m)
on-modules machine outs m are k out =
    are k (was (nat_lt k 64) (bit_at outs.0 k) (bit_at (bit_not w64 (2 ^ m)) k) (bit_at (bit_and outs.0 (bit_not w64 (2 ^ m))) k) (bit_at_and outs.0 (bit_not w64 (2 ^ m)) k) (bit_at-lt outs.0 k) out) where
      was : (b : Bool) (x y z : ℕ) → z ≡ min x y → x < 2 → (b && (z == 1)) ≡ true → (b && (x == 1)) ≡ true
      was false x y z is low f = f
      was true x y z is low f = let one = eqb-true z 1 f in let same : x ≡ 1 = omega arith in ap (λ n. n == 1) same

-- the module of an event, and that of the running action of a copy that is stuck
pub named-module : (machine : Machine) (name : List ℕ) (m : ℕ) → module_of machine name ≡ Some m → m < length machine.modules
named-module machine name m e = (position-Some (bytes_eq name) machine.modules m [] e).0

pub stuck-module : (machine : Machine) (act : ℕ) → (module_in (action_at machine act)).0 < length machine.modules
stuck-module machine act = go (action_at machine act) refl where
  go : (o : Option Action) → action_at machine act ≡ o → (module_in o).0 < length machine.modules
  go None e = (let some = (is_machine machine).modules.0 in omega arith)
  go (Some a) e = ((is_machine machine).ways act a e).module_known
