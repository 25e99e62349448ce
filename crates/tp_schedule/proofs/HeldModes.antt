-- A resource is held in a mode at a tick exactly where a slot of that mode covers the tick, so modes are spread where slots
-- are apart by the gap.
use Rattle.std.proofs.Common.{◌≡◌, ◌≢◌, inl, inr, ℕ, suc, ◌+◌, Bool, true, false, cond, ◌&&◌, ◌==◌, List, [], ◌∷◌, length, refl, ap, sym, arith, Contains, All, ◌∙◌, subst}
use Rattle.std.proofs.lemmas.List.Elements.{All-contains, Contains-append_cases, Contains-append_left, Contains-append_right}
use Rattle.tp_machine.specs.Modes.{mode_of, gap_at}
use Rattle.tp_machine.specs.ModuleUse.{action_at, covers}
use Rattle.tp_machine.specs.declared.parts.ActId.{ActId}
use Rattle.tp_machine.specs.declared.parts.HoldRule.{HoldRule}
use Rattle.tp_machine.specs.declared.machine.Machine.{Machine}
use Rattle.tp_schedule.proofs.CoveredTicks.{covered, Spread}
use Rattle.tp_schedule.proofs.HeldCount.{Agrees, IsTimedBy}
use Rattle.tp_schedule.proofs.Membership.{Contains-cons_cases, Contains-here, Contains-later}
use Rattle.tp_schedule.specs.Holders.{Run, runs_from, holds_of_act, IsHeldIn}
use Rattle.tp_schedule.specs.Legality.{IsSpreadAt}
use Rattle.tp_schedule.specs.Spots.{Spot, Ticks, Slot, slots_by, slots_from, slots_of, slots}
use Rattle.tp_schedule.specs.Spots.Spot.{kept}
use Rattle.tp_schedule.specs.declared.parts.Plan.{Plan}
use Rattle.tp_schedule.specs.declared.parts.SheetId.{SheetId}

-- the slot of a rule that is on the resource
pub Contains-slots_by : (resource : ℕ) (from to : Spot) (rules : List HoldRule) (h : HoldRule) → Contains rules h → (h.resource.0 == resource) ≡ true → Contains (slots_by resource from to rules) (record { rule = h; from = from; to = to })
Contains-slots_by resource from to [] h in' e = absurd (omega (arith, in'.1))
Contains-slots_by resource from to (g ∷ rules) h in' e = elim (Contains-cons_cases g rules h in') [
  | inl same ↦ rw (subst (λ r. (r.resource.0 == resource) ≡ true) (sym same) e) (subst (λ r. Contains (record { rule = g; from = from; to = to } ∷ slots_by resource from to rules) (record { rule = r; from = from; to = to })) same (Contains-here (record { rule = g; from = from; to = to }) (slots_by resource from to rules)))
  | inr later ↦ go (g.resource.0 == resource) (Contains-slots_by resource from to rules h later e)
] where
  go : (b : Bool) → Contains (slots_by resource from to rules) (record { rule = h; from = from; to = to })
      → Contains (cond b (record { rule = g; from = from; to = to } ∷ slots_by resource from to rules) (slots_by resource from to rules)) (record { rule = h; from = from; to = to })
  go true rest = Contains-later (record { rule = g; from = from; to = to }) (slots_by resource from to rules) (record { rule = h; from = from; to = to }) rest
  go false rest = rest

-- a slot of rules, by one of them that is on the resource
record IsByRule (resource : ℕ) (from to : Spot) (rules : List HoldRule) (s : Slot) : Type 0 where
  known : Contains rules s.rule
  on : (s.rule.resource.0 == resource) ≡ true
  from_is : s.from ≡ from
  to_is : s.to ≡ to

by_rule : (resource : ℕ) (from to : Spot) (rules : List HoldRule) (s : Slot) → Contains (slots_by resource from to rules) s → IsByRule resource from to rules s
by_rule resource from to [] s in' = absurd (omega (arith, in'.1))
by_rule resource from to (h ∷ rules) s in' = go (h.resource.0 == resource) refl in' (by_rule resource from to rules s) where
  more : IsByRule resource from to rules s → IsByRule resource from to (h ∷ rules) s
  more r = record { known = Contains-later h rules s.rule r.known; on = r.on; from_is = r.from_is; to_is = r.to_is }

  go : (b : Bool) → (h.resource.0 == resource) ≡ b → Contains (cond b (record { rule = h; from = from; to = to } ∷ slots_by resource from to rules) (slots_by resource from to rules)) s
      → (Contains (slots_by resource from to rules) s → IsByRule resource from to rules s) → IsByRule resource from to (h ∷ rules) s
  go true e in'' rest = elim (Contains-cons_cases (record { rule = h; from = from; to = to }) (slots_by resource from to rules) s in'') [
    | inl same ↦ subst (IsByRule resource from to (h ∷ rules)) same (record { known = Contains-here h rules; on = e; from_is = refl; to_is = refl })
    | inr later ↦ more (rest later)
  ]
  go false e in'' rest = more (rest in'')

-- the slot is of a hold by the run, between its ticks
record IsOfRun (machine : Machine) (t : Ticks) (resource : ℕ) (runs : List Run) (s : Slot) : Type 0 where
  run : Run
  known : Contains runs run
  hold : Contains (holds_of_act (action_at machine run.act.0)) s.rule
  on : (s.rule.resource.0 == resource) ≡ true
  start : t s.from ≡ run.start
  end : t s.to ≡ run.end

-- each slot of a copy's actions is of one of its runs
of_run : (machine : Machine) (t : Ticks) (resource : ℕ) (copy : SheetId) (n m : ℕ) (acts : List ActId) (points : List ℕ) → length points ≡ length acts + 1 → Agrees t copy n points → (s : Slot)
    → Contains (slots_from machine resource copy n acts) s → IsOfRun machine t resource (runs_from copy m acts points) s
of_run machine t resource copy n m [] points e agrees s in' = absurd (omega (arith, in'.1))
of_run machine t resource copy n m (act ∷ acts) [] e agrees s in' = absurd (omega arith)
of_run machine t resource copy n m (act ∷ acts) (start ∷ []) e agrees s in' = absurd (omega arith)
of_run machine t resource copy n m (act ∷ acts) (start ∷ end ∷ points) e agrees s in' =
    let first : Run = record { sheet = copy; number = m; act = act; start = start; end = end } in
    elim (Contains-append_cases (slots_by resource (kept copy n) (kept copy (suc n)) (holds_of_act (action_at machine act.0))) (slots_from machine resource copy (suc n) acts) s in') [
      | inl here ↦ (
          let r = by_rule resource (kept copy n) (kept copy (suc n)) (holds_of_act (action_at machine act.0)) s here in
          record {
            run = first;
            known = Contains-here first (runs_from copy (m + 1) acts (end ∷ points));
            hold = r.known;
            on = r.on;
            start = ap t r.from_is ∙ agrees 0 n (omega arith) (omega arith);
            end = ap t r.to_is ∙ agrees 1 (suc n) (omega arith) (omega arith);
          })
      | inr later ↦ (
          let r = of_run machine t resource copy (suc n) (m + 1) acts (end ∷ points) (omega arith) (λ i j is within. agrees (suc i) j (omega arith) (omega arith)) s later in
          record { run = r.run; known = Contains-later first (runs_from copy (m + 1) acts (end ∷ points)) r.run r.known; hold = r.hold; on = r.on; start = r.start; end = r.end })
    ]

-- a slot of a rule that lies between two ticks
record IsSlotAt (t : Ticks) (h : HoldRule) (start end : ℕ) (slots : List Slot) : Type 0 where
  slot : Slot
  known : Contains slots slot
  rule : slot.rule ≡ h
  start_is : t slot.from ≡ start
  end_is : t slot.to ≡ end

-- each hold of a run on the resource has a slot
slot_of_run : (machine : Machine) (t : Ticks) (resource : ℕ) (copy : SheetId) (n m : ℕ) (acts : List ActId) (points : List ℕ) → length points ≡ length acts + 1 → Agrees t copy n points → (run : Run) (h : HoldRule)
    → Contains (runs_from copy m acts points) run → Contains (holds_of_act (action_at machine run.act.0)) h → (h.resource.0 == resource) ≡ true → IsSlotAt t h run.start run.end (slots_from machine resource copy n acts)
slot_of_run machine t resource copy n m [] points e agrees run h in' has on = absurd (omega (arith, in'.1))
slot_of_run machine t resource copy n m (act ∷ acts) [] e agrees run h in' has on = absurd (omega arith)
slot_of_run machine t resource copy n m (act ∷ acts) (start ∷ []) e agrees run h in' has on = absurd (omega arith)
slot_of_run machine t resource copy n m (act ∷ acts) (start ∷ end ∷ points) e agrees run h in' has on =
    let first : Run = record { sheet = copy; number = m; act = act; start = start; end = end } in
    let here : List Slot = slots_by resource (kept copy n) (kept copy (suc n)) (holds_of_act (action_at machine act.0)) in
    let behind : List Slot = slots_from machine resource copy (suc n) acts in
    elim (Contains-cons_cases first (runs_from copy (m + 1) acts (end ∷ points)) run in') [
      | inl same ↦ (
          let one : Slot = record { rule = h; from = kept copy n; to = kept copy (suc n) } in
          record {
            slot = one;
            known = Contains-append_left here behind one (Contains-slots_by resource (kept copy n) (kept copy (suc n)) (holds_of_act (action_at machine act.0)) h (subst (λ (r : Run). Contains (holds_of_act (action_at machine r.act.0)) h) (sym same) has) on);
            rule = refl;
            start_is = agrees 0 n (omega arith) (omega arith) ∙ ap (λ (r : Run). r.start) same;
            end_is = agrees 1 (suc n) (omega arith) (omega arith) ∙ ap (λ (r : Run). r.end) same;
          })
      | inr later ↦ (
          let r = slot_of_run machine t resource copy (suc n) (m + 1) acts (end ∷ points) (omega arith) (λ i j is within. agrees (suc i) j (omega arith) (omega arith)) run h later has on in
          record { slot = r.slot; known = Contains-append_right here behind r.slot r.known; rule = r.rule; start_is = r.start_is; end_is = r.end_is })
    ]

-- a slot of plans is of one of them, and each slot of one is of all
of_plan : (machine : Machine) (resource : ℕ) (plans : List Plan) (s : Slot) → Contains (slots machine resource plans) s → (p : Plan) × Contains plans p × Contains (slots_of machine resource p) s
of_plan machine resource [] s in' = absurd (omega (arith, in'.1))
of_plan machine resource (p ∷ plans) s in' = elim (Contains-append_cases (slots_of machine resource p) (slots machine resource plans) s in') [
  | inl here ↦ (p, Contains-here p plans, here)
  | inr later ↦ let r = of_plan machine resource plans s later in (r.0, Contains-later p plans r.0 r.1, r.2)
]

of_plans : (machine : Machine) (resource : ℕ) (plans : List Plan) (p : Plan) (s : Slot) → Contains plans p → Contains (slots_of machine resource p) s → Contains (slots machine resource plans) s
of_plans machine resource [] p s in' has = absurd (omega (arith, in'.1))
of_plans machine resource (q ∷ plans) p s in' has = elim (Contains-cons_cases q plans p in') [
  | inl same ↦ Contains-append_left (slots_of machine resource q) (slots machine resource plans) s (subst (λ r. Contains (slots_of machine resource r) s) (sym same) has)
  | inr later ↦ Contains-append_right (slots_of machine resource q) (slots machine resource plans) s (of_plans machine resource plans p s later has)
]

-- a slot that covers a tick holds the resource there, in its mode
pub held_by_slot : (machine : Machine) (t : Ticks) (resource tick : ℕ) (plans : List Plan) (s : Slot) → All (IsTimedBy t) plans → Contains (slots machine resource plans) s → covered t tick s ≡ true → IsHeldIn machine plans resource tick (mode_of s.rule)
held_by_slot machine t resource tick plans s timed in' covers' =
    let of = of_plan machine resource plans s in' in
    let by = All-contains (IsTimedBy t) plans of.0 timed of.1 in
    let r = of_run machine t resource of.0.sheet 0 1 of.0.acts of.0.points by.0 by.1 s of.2 in
    record {
      plan = of.0;
      planned = of.1;
      run = r.run;
      runs = r.known;
      hold = s.rule;
      holds = r.hold;
      covers = rw (r.on, ← r.start, ← r.end) covers';
      mode_is = refl;
    }

-- a slot of the mode that covers the tick
pub record IsCoveredIn (t : Ticks) (tick mode : ℕ) (slots : List Slot) : Type 0 where
  pub slot : Slot
  pub known : Contains slots slot
  pub covers : covered t tick slot ≡ true
  pub mode_is : mode_of slot.rule ≡ mode

both-first : (a b : Bool) → (a && b) ≡ true → a ≡ true
both-first a b e = grind arith

both-second : (a b : Bool) → (a && b) ≡ true → b ≡ true
both-second a b e = grind arith

pub slot_of_held : (machine : Machine) (t : Ticks) (resource tick mode : ℕ) (plans : List Plan) → All (IsTimedBy t) plans → IsHeldIn machine plans resource tick mode → IsCoveredIn t tick mode (slots machine resource plans)
slot_of_held machine t resource tick mode plans timed h =
    let p = h.plan in
    let by = All-contains (IsTimedBy t) plans p timed h.planned in
    let r = slot_of_run machine t resource h.plan.sheet 0 1 h.plan.acts h.plan.points by.0 by.1 h.run h.hold h.runs h.holds (both-first (h.hold.resource.0 == resource) (covers h.hold h.run.start h.run.end tick) h.covers) in
    record {
      slot = r.slot;
      known = of_plans machine resource plans h.plan r.slot h.planned r.known;
      covers = rw (r.rule, r.start_is, r.end_is) (both-second (h.hold.resource.0 == resource) (covers h.hold h.run.start h.run.end tick) h.covers);
      mode_is = ap mode_of r.rule ∙ h.mode_is;
    }

-- modes that are spread at every tick spread the slots
pub slots_spread : (machine : Machine) (t : Ticks) (resource : ℕ) (plans : List Plan) → All (IsTimedBy t) plans → ((tick : ℕ) → IsSpreadAt machine plans resource tick) → (x y : Slot)
    → Contains (slots machine resource plans) x → Contains (slots machine resource plans) y → Spread (gap_at machine resource) t x y
slots_spread machine t resource plans timed spread x y in-x in-y differ a b covers-x covers-y =
    spread a b (mode_of x.rule) (mode_of y.rule) (held_by_slot machine t resource a plans x timed in-x covers-x) (held_by_slot machine t resource b plans y timed in-y covers-y) differ

-- slots that are spread spread the modes
pub modes_spread : (machine : Machine) (t : Ticks) (resource : ℕ) (plans : List Plan) → All (IsTimedBy t) plans
    → ((x y : Slot) → Contains (slots machine resource plans) x → Contains (slots machine resource plans) y → Spread (gap_at machine resource) t x y) → (tick : ℕ) → IsSpreadAt machine plans resource tick
modes_spread machine t resource plans timed spread tick other m n one two differ =
    let x = slot_of_held machine t resource tick m plans timed one in
    let y = slot_of_held machine t resource other n plans timed two in
    let modes : mode_of x.slot.rule ≢ mode_of y.slot.rule = λ e. differ (sym x.mode_is ∙ e ∙ y.mode_is) in
    spread x.slot y.slot x.known y.known modes tick other x.covers y.covers

-- fewer plans, or plans with fewer runs, hold the resource in fewer modes
pub spread-fewer : (machine : Machine) (plans fewer : List Plan) (resource tick : ℕ) → ((t mode : ℕ) → IsHeldIn machine fewer resource t mode → IsHeldIn machine plans resource t mode) → IsSpreadAt machine plans resource tick → IsSpreadAt machine fewer resource tick
spread-fewer machine plans fewer resource tick each spread other m n one two differ = spread other m n (each tick m one) (each other n two) differ

-- a plan of fewer ones is one of all
pub held_in_more : (machine : Machine) (plans fewer : List Plan) (resource tick mode : ℕ) → ((p : Plan) → Contains fewer p → Contains plans p) → IsHeldIn machine fewer resource tick mode → IsHeldIn machine plans resource tick mode
held_in_more machine plans fewer resource tick mode each h = record { plan = h.plan; planned = each h.plan h.planned; run = h.run; runs = h.runs; hold = h.hold; holds = h.holds; covers = h.covers; mode_is = h.mode_is }
