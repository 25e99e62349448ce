-- A plan that is not live has nothing that is still to be reported, and stays so.
use Rattle.std.proofs.Common.{◌≡◌, ℕ, ◌+◌, ◌≤◌, inl, inr, Bool, true, false, cond, ◌&&◌, ◌||◌, not, List, [], ◌∷◌, ◌++◌, map, length, filter, refl, sym, ap, ◌∙◌, arith, Contains, All, nat_le, nat_lt, ℤ, pos, negsuc, ◌+ℤ◌, int_lt}
use Rattle.std.specs.List.{list_any}
use Rattle.std.proofs.lemmas.Bool.{cases_lt}
use Rattle.std.proofs.lemmas.Bool.Decides.{nat_tests}
use Rattle.std.proofs.lemmas.List.Elements.{All-nil, All-cons}
use Rattle.tp_machine.specs.Modes.{gap_at}
use Rattle.tp_machine.specs.ModuleUse.{action_at, end_of}
use Rattle.tp_machine.specs.declared.parts.ActId.{ActId}
use Rattle.tp_machine.specs.declared.machine.Machine.{Machine}
use Rattle.tp_schedule.specs.Answers.{KeepsFloors}
use Rattle.tp_schedule.specs.Holders.{Run, runs_from, runs_of, holds_of_act}
use Rattle.tp_schedule.specs.LivePlans.{is_live, is_held_after, ends_after}
use Rattle.tp_schedule.specs.PlannerAnswers.{none_exempt}
use Rattle.tp_schedule.specs.Plans.{end_of_plan, is_front, is_same_copy}
use Rattle.tp_schedule.specs.declared.parts.Plan.{Plan}
use Rattle.tp_schedule.specs.declared.parts.SheetId.{SheetId}
use Rattle.tp_choices.proofs.PastFacts.{past_points}
use Rattle.tp_choices.proofs.PlansLeft.{filter-none}
use Rattle.tp_event_rules.specs.Clock.{Told, by_moment, deliveries, releases, delivery, release_of, record_of, released_until, clock_move}
use Rattle.tp_event_rules.specs.StateInvariants.{is_planned_among, live_part, live_plans, live_refills}
use Rattle.tp_event_rules.specs.Moments.{is_due, release_until}
use Rattle.tp_event_rules.proofs.TestFacts.{list_any_mono, list_any-map_same}
use Rattle.tp_event_turn.specs.LiveTurns.{ClockTellsLivePart, ClockLeavesLivePart}
use Rattle.tp_event_turn.proofs.LiveLists.{filter-within, filter-map_within, flat_map-filter, any-filter, count-parts}
use Rattle.tp_stock.specs.Stock.{begins_at, taken_at}
use Rattle.tp_stock.proofs.StockFacts.{less-less}

later-ends : (now to : ℕ) (z : ℤ) → now ≤ to → int_lt (pos to) z ≡ true → int_lt (pos now) z ≡ true
later-ends now to (pos n) low e = grind (arith, nat_tests)
later-ends now to (negsuc n) low e = absurd (cc)

later-held : (machine : Machine) (now to : ℕ) (run : Run) → now ≤ to → is_held_after machine to run ≡ true → is_held_after machine now run ≡ true
later-held machine now to run low e =
    list_any_mono (ends_after machine to run.start run.end) (ends_after machine now run.start run.end) (λ h f. later-ends now to (end_of h run.start run.end +ℤ pos (gap_at machine h.resource.0)) low f) (holds_of_act (action_at machine run.act.0)) e

-- what is live later is live now
later-live : (machine : Machine) (now to : ℕ) (p : Plan) → now ≤ to → is_live machine to p ≡ true → is_live machine now p ≡ true
later-live machine now to p low e = go (list_any (nat_lt to) p.points) refl (list_any (nat_lt now) p.points) refl e where
  go : (b : Bool) → list_any (nat_lt to) p.points ≡ b → (c : Bool) → list_any (nat_lt now) p.points ≡ c
      → (b || list_any (is_held_after machine to) (runs_of p)) ≡ true → (c || list_any (is_held_after machine now) (runs_of p)) ≡ true
  go b f true g e = refl
  go true f false g e = absurd (let h = list_any_mono (nat_lt to) (nat_lt now) (λ i a. grind (arith, nat_tests)) p.points f in cc)
  go false f false g e = list_any_mono (is_held_after machine to) (is_held_after machine now) (λ run a. later-held machine now to run low a) (runs_of p) e

-- no action is numbered above so many
numbers : (released last : ℕ) (copy : SheetId) (n m : ℕ) (acts : List ActId) (points : List ℕ) → n ≡ m + 1 → m + length acts ≤ released
    → All (λ run. (nat_lt released run.number && nat_le run.start last) ≡ false) (runs_from copy n acts points)
numbers released last copy n m [] points e few = All-nil (λ run. (nat_lt released run.number && nat_le run.start last) ≡ false)
numbers released last copy n m (act ∷ acts) [] e few = All-nil (λ run. (nat_lt released run.number && nat_le run.start last) ≡ false)
numbers released last copy n m (act ∷ acts) (start ∷ []) e few = All-nil (λ run. (nat_lt released run.number && nat_le run.start last) ≡ false)
numbers released last copy n m (act ∷ acts) (start ∷ end ∷ points) e few =
    All-cons (λ run. (nat_lt released run.number && nat_le run.start last) ≡ false) (record { sheet = copy; number = n; act = act; start = start; end = end }) (runs_from copy (n + 1) acts (end ∷ points))
    (let low : nat_lt released n ≡ false = grind (arith, nat_tests) in rw low refl) (numbers released last copy (n + 1) (m + 1) acts (end ∷ points) (omega arith) (omega arith))

module _ (machine : Machine) (now to : ℕ) (plans : List Plan) (floors : KeepsFloors machine now none_exempt plans) (p : Plan) (in' : Contains plans p) (past : is_live machine now p ≡ false) where
  all-released : length p.acts ≤ p.released
  all-released = elim (cases_lt p.released (length p.acts)) [
    | inl less ↦ let ahead = floors p in' refl p.released (omega arith) less in let low = past_points machine now p past p.released in absurd (omega arith)
    | inr le ↦ le
  ]

  none-due : releases machine to p ≡ []
  none-due = ap (map (release_of machine)) (filter-none (is_due (to + machine.lead) p) (runs_of p) (numbers p.released (to + machine.lead) p.sheet 1 0 p.acts p.points refl (let all = all-released in omega arith)))

  none-done : deliveries machine now to p ≡ []
  none-done =
      let low = past_points machine now p past (length p.acts) in
      let ended : nat_lt now (end_of_plan p) ≡ false = grind (arith, nat_tests) in
      go (is_front p.kind) (nat_lt now (end_of_plan p)) ended where
        go : (front b : Bool) → b ≡ false → cond (not front && b && nat_le (end_of_plan p) to) (delivery machine p ∷ []) [] ≡ []
        go true b e = refl
        go false true e = absurd (cc)
        go false false e = refl

pub clock-tells : ClockTellsLivePart
clock-tells machine to s floors =
    let done = flat_map-filter (is_live machine s.now) (deliveries machine s.now to) s.plans (λ p in' past. none-done machine s.now to s.plans floors p in' past) in
    let due = flat_map-filter (is_live machine s.now) (releases machine to) s.plans (λ p in' past. none-due machine s.now to s.plans floors p in' past) in
    λ i. map (record_of machine s.jobs) (map (λ (t : Told). t.tell) (by_moment (done i ++ due i)))

pub clock-leaves : ClockLeavesLivePart
clock-leaves machine to s low =
    let same = filter-map_within (is_live machine to) (is_live machine s.now) (release_until (to + machine.lead)) (λ p live. later-live machine s.now to p low live) s.plans in
    let lost = filter-within (is_planned_among (left (live_plans machine s))) (is_planned_among (live_plans machine s)) s.lost (λ c in' there. among (live_plans machine s) c there) in
    let whole = ap (λ plans. filter (is_planned_among plans) s.lost) same in
    λ i. record s { now = to; plans = same i; lost = (lost ∙ whole) i; refills = forgotten i } where
      past-first : List Plan
      past-first = filter (λ p. not (is_live machine s.now p)) s.plans

      -- what was forgotten before and what is forgotten now is all that is past
      taken-parts : (loc : ℕ) → taken_at machine past-first loc + taken_at machine (filter (λ p. not (is_live machine to p)) (released_until machine to (live_plans machine s))) loc
          ≡ taken_at machine (filter (λ p. not (is_live machine to p)) (released_until machine to s.plans)) loc
      taken-parts loc = count-parts (begins_at machine loc) (is_live machine s.now) (is_live machine to) (release_until (to + machine.lead)) (λ p. refl) (λ p live. later-live machine s.now to p low live) s.plans

      forgotten : live_refills machine (clock_move machine to (live_part machine s)).state ≡ live_refills machine (clock_move machine to s).state
      forgotten = less-less machine past-first (filter (λ p. not (is_live machine to p)) (released_until machine to (live_plans machine s))) (filter (λ p. not (is_live machine to p)) (released_until machine to s.plans)) s.refills taken-parts

      left : List Plan → List Plan
      left plans = filter (is_live machine to) (released_until machine to plans)

      among : (plans : List Plan) (c : SheetId) → is_planned_among (filter (is_live machine to) (released_until machine to plans)) c ≡ true → is_planned_among plans c ≡ true
      among plans c there =
          sym (list_any-map_same (λ p. is_same_copy p.sheet c) (release_until (to + machine.lead)) (λ p. refl) plans)
          ∙ any-filter (λ p. is_same_copy p.sheet c) (is_live machine to) (released_until machine to plans) there
