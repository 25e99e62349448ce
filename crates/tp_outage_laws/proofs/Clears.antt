-- No action that has not started uses a module that is out.
use Rattle.std.proofs.Common.{◌≡◌, ◌≢◌, ℕ, suc, ◌+◌, ◌<◌, ◌≤◌, Bool, true, false, ◌&&◌, ◌||◌, not, List, [], ◌∷◌, length, refl, ap, ◌∙◌, arith, nat_lt, nat_le, slice_get, slice_index, Option, Some, None, option_map, bit_or}
use Rattle.std.specs.Prelude.{◌==◌, unwrap_or, max, ◌^◌}
use Rattle.std.specs.Int.{bit_at}
use Rattle.std.specs.List.{list_all, list_any}
use Rattle.std.proofs.lemmas.Bool.{and_parts}
use Rattle.std.proofs.lemmas.Bool.Decides.{nat_tests}
use Rattle.std.proofs.lemmas.Nat.Bits.{bit_at_or, bit_at-pow_other}
use Rattle.tp_machine.specs.ModuleUse.{action_at, holds_module, is_allowed, is_held_out, is_of_module, is_out, is_out_of}
use Rattle.tp_machine.specs.declared.parts.ActId.{ActId}
use Rattle.tp_machine.specs.declared.parts.Action.{Action}
use Rattle.tp_machine.specs.declared.parts.HoldRule.{HoldRule}
use Rattle.tp_machine.specs.declared.parts.Outs.{Outs}
use Rattle.tp_machine.specs.declared.parts.Resource.{Resource}
use Rattle.tp_machine.specs.declared.machine.Machine.{Machine}
use Rattle.tp_schedule.specs.Holders.{Run, runs_from, runs_of}
use Rattle.tp_schedule.specs.Plans.{point}
use Rattle.tp_schedule.specs.Routes.{is_act_allowed}
use Rattle.tp_schedule.specs.declared.parts.Plan.{Plan}
use Rattle.tp_schedule.specs.declared.parts.SheetId.{SheetId}
use Rattle.tp_event_rules.specs.StateInvariants.{is_clear}
use Rattle.tp_event_rules.specs.Moments.{does_use, is_started, is_to_run_on, uses_in}
use Rattle.tp_event_rules.specs.Outages.{with_out}
use Rattle.tp_machine.specs.ModuleUse.{put_out}
use Rattle.tp_event_rules.specs.States.{SessionState}

-- Another module that goes out.

still-in : (outs : Outs) (m k : ℕ) → is_out outs k ≡ false → (k == m) ≡ false → is_out (put_out outs m) k ≡ false
still-in outs m k e other =
    let bits = bit_at_or outs.0 (2 ^ m) k in
    let zero' = bit_at-pow_other m k (differ k m other) in
    go (nat_lt k 64) (bit_at outs.0 k) (bit_at (2 ^ m) k) (bit_at (bit_or outs.0 (2 ^ m)) k) bits zero' e where
      differ : (a b : ℕ) → (a == b) ≡ false → a ≢ b
      differ a b f = grind (arith, nat_tests)

      go : (b : Bool) (x y z : ℕ) → z ≡ max x y → y ≡ 0 → (b && (x == 1)) ≡ false → (b && (z == 1)) ≡ false
      go false x y z is low f = refl
      go true x y z is low f = let same : z ≡ x = omega arith in ap (λ n. n == 1) same ∙ f

or-none : (a b : Bool) → (a || b) ≡ false → (a ≡ false) × (b ≡ false)
or-none true b e = absurd (cc)
or-none false b e = (refl, e)

not-is : (a : Bool) → not a ≡ true → a ≡ false
not-is true e = absurd (cc)
not-is false e = refl

held-in : (machine : Machine) (outs : Outs) (m : ℕ) (h : HoldRule) → not (is_held_out machine outs h) ≡ true → holds_module machine m h ≡ false → not (is_held_out machine (put_out outs m) h) ≡ true
held-in machine outs m h e other = go (slice_get machine.resources h.resource.0) e other where
  go : (o : Option Resource) → not (is_out_of outs o) ≡ true → is_of_module m o ≡ false → not (is_out_of (put_out outs m) o) ≡ true
  go None e f = refl
  go (Some r) e f = let still = still-in outs m r.module.0 (not-is (is_out outs r.module.0) e) f in rw still refl

holds-in : (machine : Machine) (outs : Outs) (m : ℕ) (holds : List HoldRule) → list_all (λ h. not (is_held_out machine outs h)) holds ≡ true → list_any (holds_module machine m) holds ≡ false
    → list_all (λ h. not (is_held_out machine (put_out outs m) h)) holds ≡ true
holds-in machine outs m [] e other = refl
holds-in machine outs m (h ∷ holds) e other =
    let clear = and_parts (not (is_held_out machine outs h)) (list_all (λ h. not (is_held_out machine outs h)) holds) e in
    let none = or-none (holds_module machine m h) (list_any (holds_module machine m) holds) other in
    let here = held-in machine outs m h clear.0 none.0 in
    let rest = holds-in machine outs m holds clear.1 none.1 in
    rw (here, rest) refl

act-in : (machine : Machine) (outs : Outs) (m : ℕ) (act : ActId) → is_act_allowed machine outs act ≡ true → does_use machine m act ≡ false → is_act_allowed machine (put_out outs m) act ≡ true
act-in machine outs m act e other = go (action_at machine act.0) e other where
  go : (o : Option Action) → unwrap_or (option_map (is_allowed machine outs) o) false ≡ true → uses_in machine m o ≡ false → unwrap_or (option_map (is_allowed machine (put_out outs m)) o) false ≡ true
  go None e f = e
  go (Some a) e f =
      let parts = and_parts (not (is_out outs a.module.0)) (list_all (λ h. not (is_held_out machine outs h)) a.holds) e in
      let none = or-none (a.module.0 == m) (list_any (holds_module machine m) a.holds) f in
      let own = still-in outs m a.module.0 (not-is (is_out outs a.module.0) parts.0) none.0 in
      let holds = holds-in machine outs m a.holds parts.1 none.1 in
      rw (own, holds) refl

runs-in : (machine : Machine) (now : ℕ) (outs : Outs) (m : ℕ) (runs : List Run) → list_all (λ run. is_started now run || is_act_allowed machine outs run.act) runs ≡ true
    → list_any (λ run. not (is_started now run) && does_use machine m run.act) runs ≡ false → list_all (λ run. is_started now run || is_act_allowed machine (put_out outs m) run.act) runs ≡ true
runs-in machine now outs m [] e other = refl
runs-in machine now outs m (run ∷ runs) e other =
    let clear = and_parts (is_started now run || is_act_allowed machine outs run.act) (list_all (λ run. is_started now run || is_act_allowed machine outs run.act) runs) e in
    let none = or-none (not (is_started now run) && does_use machine m run.act) (list_any (λ run. not (is_started now run) && does_use machine m run.act) runs) other in
    let rest = runs-in machine now outs m runs clear.1 none.1 in
    let here = one (is_started now run) clear.0 none.0 in
    rw (here, rest) refl where
      one : (b : Bool) → (b || is_act_allowed machine outs run.act) ≡ true → (not b && does_use machine m run.act) ≡ false → (b || is_act_allowed machine (put_out outs m) run.act) ≡ true
      one true e f = refl
      one false e f = act-in machine outs m run.act e f

-- a plan of which no action is to run on the module stays clear
pub clear-out : (machine : Machine) (m : ℕ) (s : SessionState) (p : Plan) → is_clear machine s p ≡ true → is_to_run_on machine s.now m p ≡ false → is_clear machine (with_out m s) p ≡ true
clear-out machine m s p e other = runs-in machine s.now s.outs m (runs_of p) e other

-- Plans all of whose actions have started.

low-runs : (now : ℕ) (test : ActId → Bool) (sheet : SheetId) (n : ℕ) (acts : List ActId) (points : List ℕ) → ((i : ℕ) → i < length acts → slice_index points i ≤ now)
    → list_all (λ run. is_started now run || test run.act) (runs_from sheet n acts points) ≡ true
low-runs now test sheet n [] points low = refl
low-runs now test sheet n (a ∷ acts) [] low = refl
low-runs now test sheet n (a ∷ acts) (start ∷ []) low = refl
low-runs now test sheet n (a ∷ acts) (start ∷ end ∷ points) low =
    let first = low 0 (omega arith) in
    let here : nat_le start now ≡ true = grind (arith, nat_tests) in
    rw here (low-runs now test sheet (n + 1) acts (end ∷ points) (λ i within. low (suc i) (omega arith)))

pub clear-started : (machine : Machine) (s : SessionState) (p : Plan) → ((i : ℕ) → i < length p.acts → point p i ≤ s.now) → is_clear machine s p ≡ true
clear-started machine s p low = low-runs s.now (is_act_allowed machine s.outs) p.sheet 1 p.acts p.points low
