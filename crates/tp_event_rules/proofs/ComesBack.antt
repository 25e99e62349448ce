-- A module that comes back leaves all that is kept between events.
use Rattle.std.proofs.Common.{◌≡◌, ℕ, zero, ◌-◌, ◌<◌, Bool, true, false, ◌&&◌, ◌||◌, not, List, refl, arith, nat_lt, slice_get, Option, Some, None, option_map, ◌^◌, min, ◌==◌, bit_and, w64}
use Rattle.std.specs.Prelude.{unwrap_or}
use Rattle.std.specs.Int.{bit_at, bit_not}
use Rattle.std.proofs.lemmas.Bool.Decides.{nat_tests}
use Rattle.std.proofs.lemmas.Nat.Bits.{bit_at_and, bit_at-lt}
use Rattle.tp_machine.specs.ModuleUse.{action_at, is_allowed, is_held_out, is_out, is_out_of, put_on}
use Rattle.tp_machine.specs.declared.parts.Action.{Action}
use Rattle.tp_machine.specs.declared.parts.ActId.{ActId}
use Rattle.tp_machine.specs.declared.parts.HoldRule.{HoldRule}
use Rattle.tp_machine.specs.declared.parts.Outs.{Outs}
use Rattle.tp_machine.specs.declared.parts.Resource.{Resource}
use Rattle.tp_machine.specs.declared.machine.Machine.{Machine}
use Rattle.tp_schedule.specs.Holders.{runs_of}
use Rattle.tp_schedule.specs.Routes.{is_act_allowed}
use Rattle.tp_schedule.specs.declared.parts.Plan.{Plan}
use Rattle.tp_event_rules.specs.StateInvariants.{KeepsPlans, KeepsLines, KeepsSheets, is_clear}
use Rattle.tp_event_rules.specs.Moments.{is_started}
use Rattle.tp_event_rules.specs.States.{SessionState}
use Rattle.tp_event_rules.specs.Turns.{with_on}
use Rattle.tp_event_rules.proofs.TestFacts.{list_all_mono}

-- what is not out does not go out
still-on : (outs : Outs) (m k : ℕ) → is_out outs k ≡ false → is_out (put_on outs m) k ≡ false
still-on outs m k e =
    let bits = bit_at_and outs.0 (bit_not w64 (2 ^ m)) k in
    let small = bit_at-lt outs.0 k in
    go (nat_lt k 64) (bit_at outs.0 k) (bit_at (bit_not w64 (2 ^ m)) k) (bit_at (bit_and outs.0 (bit_not w64 (2 ^ m))) k) bits small e where
      go : (b : Bool) (x y z : ℕ) → z ≡ min x y → x < 2 → (b && (x == 1)) ≡ false → (b && (z == 1)) ≡ false
      go false x y z is low f = refl
      go true x y z is low f = let zero : x ≡ 0 = grind (arith, nat_tests) in let none : z ≡ 0 = omega arith in grind (arith, nat_tests)

not-mono : (a b : Bool) → (a ≡ false → b ≡ false) → not a ≡ true → not b ≡ true
not-mono true b each e = absurd (cc)
not-mono false b each e = let f = each refl in rw f refl

held-on : (machine : Machine) (outs : Outs) (m : ℕ) (h : HoldRule) → is_held_out machine outs h ≡ false → is_held_out machine (put_on outs m) h ≡ false
held-on machine outs m h e = go (slice_get machine.resources h.resource.0) e where
  go : (o : Option Resource) → is_out_of outs o ≡ false → is_out_of (put_on outs m) o ≡ false
  go None f = f
  go (Some r) f = still-on outs m r.module.0 f

and-both : (a b c d : Bool) → (a ≡ true → c ≡ true) → (b ≡ true → d ≡ true) → (a && b) ≡ true → (c && d) ≡ true
and-both true b c d one other e = rw (one refl) (other e)
and-both false b c d one other e = absurd (cc)

allowed-on : (machine : Machine) (outs : Outs) (m : ℕ) (a : Action) → is_allowed machine outs a ≡ true → is_allowed machine (put_on outs m) a ≡ true
allowed-on machine outs m a e =
    and-both (not (is_out outs a.module.0)) _ (not (is_out (put_on outs m) a.module.0)) _
    (not-mono (is_out outs a.module.0) (is_out (put_on outs m) a.module.0) (still-on outs m a.module.0))
    (list_all_mono (λ h. not (is_held_out machine outs h)) (λ h. not (is_held_out machine (put_on outs m) h))
    (λ h. not-mono (is_held_out machine outs h) (is_held_out machine (put_on outs m) h) (held-on machine outs m h)) a.holds) e

act-on : (machine : Machine) (outs : Outs) (m : ℕ) (act : ActId) → is_act_allowed machine outs act ≡ true → is_act_allowed machine (put_on outs m) act ≡ true
act-on machine outs m act e = go (action_at machine act.0) e where
  go : (o : Option Action) → unwrap_or (option_map (is_allowed machine outs) o) false ≡ true → unwrap_or (option_map (is_allowed machine (put_on outs m)) o) false ≡ true
  go None f = f
  go (Some a) f = allowed-on machine outs m a f

or-mono : (a b c : Bool) → (b ≡ true → c ≡ true) → (a || b) ≡ true → (a || c) ≡ true
or-mono true b c each e = refl
or-mono false b c each e = each e

clear-on : (machine : Machine) (m : ℕ) (s : SessionState) (p : Plan) → is_clear machine s p ≡ true → is_clear machine (with_on m s) p ≡ true
clear-on machine m s p e =
    list_all_mono (λ run. is_started s.now run || is_act_allowed machine s.outs run.act) (λ run. is_started s.now run || is_act_allowed machine (put_on s.outs m) run.act)
    (λ run. or-mono (is_started s.now run) (is_act_allowed machine s.outs run.act) (is_act_allowed machine (put_on s.outs m) run.act) (act-on machine s.outs m run.act)) (runs_of p) e

pub plans-on : (machine : Machine) (m : ℕ) (s : SessionState) → KeepsPlans machine s → KeepsPlans machine (with_on m s)
plans-on machine m s keeps = record {
  legal = keeps.legal;
  floors = keeps.floors;
  horizon = keeps.horizon;
  few_live = keeps.few_live;
  few_open = keeps.few_open;
  clear = list_all_mono (is_clear machine s) (is_clear machine (with_on m s)) (clear-on machine m s) s.plans keeps.clear;
}

pub lines-on : (machine : Machine) (m : ℕ) (s : SessionState) → KeepsLines s → KeepsLines (with_on m s)
lines-on machine m s keeps = record {
  in_order = keeps.in_order;
  waiting_known = keeps.waiting_known;
  unplanned = keeps.unplanned;
  line = keeps.line;
  one = keeps.one;
  plans_known = keeps.plans_known;
  fronts = keeps.fronts;
}

pub sheets-on : (m : ℕ) (totals : List ℕ) (s : SessionState) → KeepsSheets totals s → KeepsSheets totals (with_on m s)
sheets-on m totals s keeps = record { known = keeps.known; each = keeps.each; waiting_sheets = keeps.waiting_sheets; planned_sheets = keeps.planned_sheets; older = keeps.older }
