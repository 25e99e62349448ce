-- A move of the clock keeps lines and sheets, and no more copies are live or on their way after it.
use Rattle.std.proofs.Common.{◌≡◌, ℕ, ◌+◌, ◌-◌, List, ◌++◌, map, filter, refl, sym, ap, ◌∙◌, All, AllPairs, Any, IsTrue, subst}
use Rattle.std.specs.Prelude.{IsFalse}
use Rattle.std.proofs.lemmas.List.Elements.{All-weaker}
use Rattle.tp_machine.specs.declared.machine.Machine.{Machine}
use Rattle.tp_schedule.specs.Plans.{is_front, is_same_copy}
use Rattle.tp_schedule.specs.declared.parts.Plan.{Plan}
use Rattle.tp_schedule.specs.declared.parts.SheetId.{SheetId}
use Rattle.tp_event_rules.specs.Clock.{clock_move, released_until}
use Rattle.tp_event_rules.specs.StateInvariants.{KeepsLines, KeepsSheets, StandsBehind, IsOlder, is_planned_among, is_of_its_job, is_sheet_of, tray_plans, open_copies, is_same_sheet, is_copy_of}
use Rattle.tp_event_rules.specs.Moments.{is_tray_plan, release_until}
use Rattle.tp_event_rules.specs.States.{SessionState}
use Rattle.tp_event_rules.proofs.ListFacts.{All-map_to}
use Rattle.tp_event_rules.proofs.TestFacts.{filter-map_same, map-map_same, list_any-map_same}

module _ (last : ℕ) where
  tray_plans-released : (plans : List Plan) → tray_plans (map (release_until last) plans) ≡ map (release_until last) (tray_plans plans)
  tray_plans-released plans = filter-map_same is_tray_plan (release_until last) (λ p. refl) plans

  tray_sheets-released : (plans : List Plan) → map (λ p. p.sheet) (tray_plans (map (release_until last) plans)) ≡ map (λ p. p.sheet) (tray_plans plans)
  tray_sheets-released plans = rw (tray_plans-released plans) (map-map_same (λ p. p.sheet) (release_until last) (λ p. refl) (tray_plans plans))

  front_sheets-released : (plans : List Plan) → map (λ p. p.sheet) (filter (λ p. is_front p.kind) (map (release_until last) plans)) ≡ map (λ p. p.sheet) (filter (λ p. is_front p.kind) plans)
  front_sheets-released plans =
      rw (filter-map_same (λ p. is_front p.kind) (release_until last) (λ p. refl) plans) (map-map_same (λ p. p.sheet) (release_until last) (λ p. refl) (filter (λ p. is_front p.kind) plans))

  planned-released : (plans : List Plan) (copy : SheetId) → is_planned_among (map (release_until last) plans) copy ≡ is_planned_among plans copy
  planned-released plans copy = list_any-map_same (λ p. is_same_copy p.sheet copy) (release_until last) (λ p. refl) plans

pub lines-clock : (machine : Machine) (to : ℕ) (s : SessionState) → KeepsLines s → KeepsLines (clock_move machine to s).state
lines-clock machine to s keeps =
    let last = to + machine.lead in
    record {
      in_order = keeps.in_order;
      waiting_known = keeps.waiting_known;
      unplanned = All-weaker (λ w. IsFalse (is_planned_among s.plans w.sheet)) (λ w. IsFalse (is_planned_among (released_until machine to s.plans) w.sheet))
          (λ w un. planned-released (to + machine.lead) s.plans w.sheet ∙ un) s.waiting keeps.unplanned;
      line = All-weaker (λ w. All (StandsBehind s.jobs w) (tray_plans s.plans)) (λ w. All (StandsBehind s.jobs w) (tray_plans (released_until machine to s.plans)))
          (λ w all. subst (All (StandsBehind s.jobs w)) (sym (tray_plans-released (to + machine.lead) s.plans))
          (All-map_to (StandsBehind s.jobs w) (release_until (to + machine.lead)) (λ p h. h) (tray_plans s.plans) all)) s.waiting keeps.line;
      one = subst (λ l. AllPairs (λ a b. IsFalse (is_same_sheet a b)) (map (λ w. w.sheet) s.waiting ++ l)) (sym (tray_sheets-released (to + machine.lead) s.plans)) keeps.one;
      plans_known = All-map_to (λ p. IsTrue (is_of_its_job s.jobs p)) (release_until (to + machine.lead)) (λ p h. h) s.plans keeps.plans_known;
      fronts = front_sheets-released (to + machine.lead) s.plans ∙ keeps.fronts;
    }

open-clock : (machine : Machine) (to : ℕ) (s : SessionState) → open_copies (clock_move machine to s).state ≡ open_copies s
open-clock machine to s = ap (λ l. map (λ w. w.sheet) s.waiting ++ l) (tray_sheets-released (to + machine.lead) s.plans)

-- no planned copy is older than an open one of its sheet, as before
pub older-clock : (machine : Machine) (to : ℕ) (s : SessionState) → All (λ p. All (IsOlder p) (open_copies s)) s.plans
    → All (λ p. All (IsOlder p) (open_copies (clock_move machine to s).state)) (released_until machine to s.plans)
older-clock machine to s older =
    subst (λ l. All (λ p. All (IsOlder p) l) (released_until machine to s.plans)) (sym (open-clock machine to s))
    (All-map_to (λ p. All (IsOlder p) (open_copies s)) (release_until (to + machine.lead)) (λ p h. h) s.plans older)

pub sheets-clock : (machine : Machine) (to : ℕ) (totals : List ℕ) (s : SessionState) → KeepsSheets totals s → KeepsSheets totals (clock_move machine to s).state
sheets-clock machine to totals s keeps = record {
  known = keeps.known;
  each = λ job number known whole first last. subst (Any (λ copy. IsTrue (is_copy_of job number copy))) (sym (open-clock machine to s)) (keeps.each job number known whole first last);
  waiting_sheets = keeps.waiting_sheets;
  planned_sheets = All-map_to (λ p. IsTrue (is_sheet_of totals p.sheet)) (release_until (to + machine.lead)) (λ p h. h) s.plans keeps.planned_sheets;
  older = older-clock machine to s keeps.older;
}
