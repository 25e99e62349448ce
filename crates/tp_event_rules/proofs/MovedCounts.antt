-- After a move of the clock no more copies are live or on their way than before, and none is to run on a module that is out.
use Rattle.std.proofs.Common.{◌≡◌, ℕ, ◌+◌, ◌≤◌, Bool, true, false, ◌&&◌, ◌||◌, List, [], ◌∷◌, map, refl, arith, IsTrue, nat_le, nat_lt, ℤ, pos, negsuc, ◌+ℤ◌, int_lt}
use Rattle.std.specs.List.{list_any, list_all}
use Rattle.std.proofs.lemmas.Bool.Decides.{nat_tests}
use Rattle.std.proofs.lemmas.List.Sums.{length-filter}
use Rattle.tp_machine.specs.Modes.{gap_at}
use Rattle.tp_machine.specs.ModuleUse.{action_at, end_of}
use Rattle.tp_machine.specs.declared.machine.Machine.{Machine}
use Rattle.tp_schedule.specs.Holders.{Run, runs_of, holds_of_act}
use Rattle.tp_schedule.specs.LivePlans.{is_live, is_held_after, ends_after, live_count}
use Rattle.tp_schedule.specs.Routes.{is_act_allowed}
use Rattle.tp_schedule.specs.declared.parts.Plan.{Plan}
use Rattle.tp_event_rules.specs.Clock.{clock_move, released_until}
use Rattle.tp_event_rules.specs.StateInvariants.{is_clear, is_to_arrive, open_count}
use Rattle.tp_event_rules.specs.Moments.{is_started, is_tray_plan, release_until}
use Rattle.tp_event_rules.specs.States.{SessionState}
use Rattle.tp_event_rules.proofs.TestFacts.{list_any_mono, list_all_mono, count-map_mono}

later_ends : (now to : ℕ) (z : ℤ) → now ≤ to → int_lt (pos to) z ≡ true → int_lt (pos now) z ≡ true
later_ends now to (pos n) low e = grind (arith, nat_tests)
later_ends now to (negsuc n) low e = absurd (cc)

later_held : (machine : Machine) (now to : ℕ) (run : Run) → now ≤ to → is_held_after machine to run ≡ true → is_held_after machine now run ≡ true
later_held machine now to run low e =
    list_any_mono (ends_after machine to run.start run.end) (ends_after machine now run.start run.end) (λ h f. later_ends now to (end_of h run.start run.end +ℤ pos (gap_at machine h.resource.0)) low f) (holds_of_act (action_at machine run.act.0)) e

later_live : (machine : Machine) (now to : ℕ) (p : Plan) → now ≤ to → is_live machine to p ≡ true → is_live machine now p ≡ true
later_live machine now to p low e = go (list_any (nat_lt to) p.points) refl (list_any (nat_lt now) p.points) refl e where
  go : (b : Bool) → list_any (nat_lt to) p.points ≡ b → (c : Bool) → list_any (nat_lt now) p.points ≡ c
      → (b || list_any (is_held_after machine to) (runs_of p)) ≡ true → (c || list_any (is_held_after machine now) (runs_of p)) ≡ true
  go b f true g e = refl
  go true f false g e = absurd (let h = list_any_mono (nat_lt to) (nat_lt now) (λ i a. grind (arith, nat_tests)) p.points f in cc)
  go false f false g e = list_any_mono (is_held_after machine to) (is_held_after machine now) (λ run a. later_held machine now to run low a) (runs_of p) e

pub live-clock : (machine : Machine) (to : ℕ) (s : SessionState) → s.now ≤ to → live_count machine to (released_until machine to s.plans) ≤ live_count machine s.now s.plans
live-clock machine to s low =
    let fewer = count-map_mono (is_live machine to) (is_live machine s.now) (release_until (to + machine.lead)) (λ p e. later_live machine s.now to p low e) s.plans in
    let one = length-filter (is_live machine to) (released_until machine to s.plans) in
    let other = length-filter (is_live machine s.now) s.plans in
    omega arith

later_arrives : (tray : Bool) (now to end : ℕ) → now ≤ to → (tray && nat_lt to end) ≡ true → (tray && nat_lt now end) ≡ true
later_arrives tray now to end low e = grind (arith, nat_tests)

pub open-clock : (machine : Machine) (to : ℕ) (s : SessionState) → s.now ≤ to → open_count (clock_move machine to s).state ≤ open_count s
open-clock machine to s low =
    let fewer = count-map_mono (is_to_arrive to) (is_to_arrive s.now) (release_until (to + machine.lead)) (λ p e. later_arrives (is_tray_plan p) s.now to _ low e) s.plans in
    let one = length-filter (is_to_arrive to) (released_until machine to s.plans) in
    let other = length-filter (is_to_arrive s.now) s.plans in
    omega arith

later_started : (now to start : ℕ) (able : Bool) → now ≤ to → (nat_le start now || able) ≡ true → (nat_le start to || able) ≡ true
later_started now to start able low e = grind (arith, nat_tests)

clear-plans : (machine : Machine) (to : ℕ) (s : SessionState) → s.now ≤ to → (plans : List Plan) → list_all (is_clear machine s) plans ≡ true
    → list_all (is_clear machine (clock_move machine to s).state) (map (release_until (to + machine.lead)) plans) ≡ true
clear-plans machine to s low [] e = refl
clear-plans machine to s low (p ∷ plans) e = go (is_clear machine s p) refl e (clear-plans machine to s low plans) where
  go : (b : Bool) → is_clear machine s p ≡ b → (b && list_all (is_clear machine s) plans) ≡ true
      → (list_all (is_clear machine s) plans ≡ true → list_all (is_clear machine (clock_move machine to s).state) (map (release_until (to + machine.lead)) plans) ≡ true)
      → (is_clear machine (clock_move machine to s).state p && list_all (is_clear machine (clock_move machine to s).state) (map (release_until (to + machine.lead)) plans)) ≡ true
  go false f e rest = absurd (cc)
  go true f e rest =
      let one : is_clear machine (clock_move machine to s).state p ≡ true =
      list_all_mono (λ run. is_started s.now run || is_act_allowed machine s.outs run.act) (λ run. is_started to run || is_act_allowed machine s.outs run.act)
      (λ run g. later_started s.now to run.start (is_act_allowed machine s.outs run.act) low g) (runs_of p) f in
      rw one (rest e)

pub clear-clock : (machine : Machine) (to : ℕ) (s : SessionState) → s.now ≤ to → IsTrue (list_all (is_clear machine s) s.plans)
    → IsTrue (list_all (is_clear machine (clock_move machine to s).state) (clock_move machine to s).state.plans)
clear-clock machine to s low clear = clear-plans machine to s low s.plans clear
