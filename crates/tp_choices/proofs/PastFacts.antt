-- A plan that is not live: all its points are past, and so are the ends of its slots with the gaps behind them.
use Rattle.std.proofs.Common.{◌≡◌, ℕ, zero, suc, ◌+◌, ◌≤◌, Bool, true, false, cond, ◌||◌, ◌==◌, List, [], ◌∷◌, length, refl, arith, All, slice_index, subst}
use Rattle.std.specs.Prelude.{pos, ◌+ℤ◌, int_lt, ◌≤ℤ◌, ℤ, nat_lt}
use Rattle.std.specs.List.{list_any}
use Rattle.std.proofs.lemmas.Bool.{eqb-true}
use Rattle.std.proofs.lemmas.Bool.Decides.{nat_tests}
use Rattle.std.proofs.lemmas.Int.{ints}
use Rattle.std.proofs.lemmas.List.Elements.{All-append, All-cons, All-nil}
use Rattle.tp_machine.specs.Modes.{gap_at}
use Rattle.tp_machine.specs.ModuleUse.{action_at}
use Rattle.tp_machine.specs.declared.parts.ActId.{ActId}
use Rattle.tp_machine.specs.declared.parts.HoldRule.{HoldRule}
use Rattle.tp_machine.specs.declared.machine.Machine.{Machine}
use Rattle.tp_schedule.specs.declared.parts.Plan.{Plan}
use Rattle.tp_schedule.specs.declared.parts.SheetId.{SheetId}
use Rattle.tp_schedule.specs.Holders.{holds_of_act, runs_from, runs_of}
use Rattle.tp_schedule.specs.LivePlans.{ends_after, is_held_after, is_live}
use Rattle.tp_schedule.specs.Plans.{point}
use Rattle.tp_schedule.specs.Spots.{Spot, Ticks, Slot, end_at, slots_by, slots_from, slots_of}
use Rattle.tp_schedule.specs.Spots.Spot.{kept}
use Rattle.tp_schedule.proofs.HeldCount.{Agrees, IsTimedBy}

neither : (a b : Bool) → (a || b) ≡ false → (a ≡ false) × (b ≡ false)
neither true b e = absurd (cc)
neither false b e = (refl, e)

not_after : (a b : ℤ) → int_lt a b ≡ false → b ≤ℤ a
not_after a b e = grind (arith, ints)

none_above : (now : ℕ) (points : List ℕ) → list_any (nat_lt now) points ≡ false → (i : ℕ) → slice_index points i ≤ now
none_above now [] e i = omega arith
none_above now (x ∷ points) e zero = let one = (neither (nat_lt now x) (list_any (nat_lt now) points) e).0 in grind (arith, nat_tests)
none_above now (x ∷ points) e (suc i) = none_above now points (neither (nat_lt now x) (list_any (nat_lt now) points) e).1 i

-- the slot has ended and its gap has passed by the moment
abbrev pub HasPassed : ℕ → ℕ → Ticks → Slot → Type 0
HasPassed gap now t s = (end_at t s +ℤ pos gap) ≤ℤ pos now

past_by : (machine : Machine) (now : ℕ) (t : Ticks) (resource : ℕ) (from to : Spot) (rules : List HoldRule) → list_any (ends_after machine now (t from) (t to)) rules ≡ false → All (HasPassed (gap_at machine resource) now t) (slots_by resource from to rules)
past_by machine now t resource from to [] e = All-nil (HasPassed (gap_at machine resource) now t)
past_by machine now t resource from to (h ∷ rules) e =
    let both = neither (ends_after machine now (t from) (t to) h) (list_any (ends_after machine now (t from) (t to)) rules) e in
    go (h.resource.0 == resource) refl both.0 (past_by machine now t resource from to rules both.1) where
      passed : ends_after machine now (t from) (t to) h ≡ false → HasPassed (gap_at machine h.resource.0) now t (record { rule = h; from = from; to = to })
      passed one = not_after (pos now) (end_at t (record { rule = h; from = from; to = to }) +ℤ pos (gap_at machine h.resource.0)) one

      go : (b : Bool) → (h.resource.0 == resource) ≡ b → ends_after machine now (t from) (t to) h ≡ false → All (HasPassed (gap_at machine resource) now t) (slots_by resource from to rules)
          → All (HasPassed (gap_at machine resource) now t) (cond b (record { rule = h; from = from; to = to } ∷ slots_by resource from to rules) (slots_by resource from to rules))
      go true e one rest = All-cons (HasPassed (gap_at machine resource) now t) (record { rule = h; from = from; to = to }) (slots_by resource from to rules) (subst (λ r. HasPassed (gap_at machine r) now t (record { rule = h; from = from; to = to })) (eqb-true h.resource.0 resource e) (passed one)) rest
      go false e one rest = rest

past_from : (machine : Machine) (now : ℕ) (t : Ticks) (resource : ℕ) (copy : SheetId) (n m : ℕ) (acts : List ActId) (points : List ℕ) → length points ≡ length acts + 1 → Agrees t copy n points
    → list_any (is_held_after machine now) (runs_from copy m acts points) ≡ false → All (HasPassed (gap_at machine resource) now t) (slots_from machine resource copy n acts)
past_from machine now t resource copy n m [] points lengths agrees e = All-nil (HasPassed (gap_at machine resource) now t)
past_from machine now t resource copy n m (act ∷ acts) [] lengths agrees e = absurd (omega arith)
past_from machine now t resource copy n m (act ∷ acts) (start ∷ []) lengths agrees e = absurd (omega arith)
past_from machine now t resource copy n m (act ∷ acts) (start ∷ end ∷ points) lengths agrees e =
    let first : t (kept copy n) ≡ start = agrees 0 n (omega arith) (omega arith) in
    let second : t (kept copy (suc n)) ≡ end = agrees 1 (suc n) (omega arith) (omega arith) in
    let both = neither (list_any (ends_after machine now start end) (holds_of_act (action_at machine act.0))) (list_any (is_held_after machine now) (runs_from copy (m + 1) acts (end ∷ points))) e in
    All-append (HasPassed (gap_at machine resource) now t) (slots_by resource (kept copy n) (kept copy (suc n)) (holds_of_act (action_at machine act.0))) (slots_from machine resource copy (suc n) acts)
    (past_by machine now t resource (kept copy n) (kept copy (suc n)) (holds_of_act (action_at machine act.0)) (rw (first, second) both.0))
    (past_from machine now t resource copy (suc n) (m + 1) acts (end ∷ points) (omega arith) (λ i j is within. agrees (suc i) j (omega arith) (omega arith)) both.1)

-- its slots have ended, and their gaps have passed
pub past_slots : (machine : Machine) (now : ℕ) (t : Ticks) (resource : ℕ) (p : Plan) → IsTimedBy t p → is_live machine now p ≡ false → All (HasPassed (gap_at machine resource) now t) (slots_of machine resource p)
past_slots machine now t resource p timed e =
    past_from machine now t resource p.sheet 0 1 p.acts p.points timed.0 timed.1 (neither (list_any (nat_lt now) p.points) (list_any (is_held_after machine now) (runs_of p)) e).1

-- its points are past
pub past_points : (machine : Machine) (now : ℕ) (p : Plan) → is_live machine now p ≡ false → (i : ℕ) → point p i ≤ now
past_points machine now p e i = none_above now p.points (neither (list_any (nat_lt now) p.points) (list_any (is_held_after machine now) (runs_of p)) e).0 i
