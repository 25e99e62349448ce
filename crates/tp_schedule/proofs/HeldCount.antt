-- A resource is held at a tick as often as its slots cover it.
use Rattle.std.proofs.Common.{◌≡◌, ◌≢◌, ℕ, suc, ◌+◌, ◌<◌, Bool, true, false, cond, ◌&&◌, ◌||◌, ◌==◌, List, [], ◌∷◌, length, filter, refl, ap, sym, arith, All, AllPairs, ◌∙◌, get_or, Option, Some, None, slice_index}
use Rattle.std.specs.List.{list_any}
use Rattle.std.proofs.lemmas.Bool.{eqb-true}
use Rattle.std.proofs.lemmas.List.{length-append, length-map}
use Rattle.std.proofs.lemmas.List.Elements.{All-head, All-tail, filter-append}
use Rattle.tp_machine.specs.Machines.{IsMachine}
use Rattle.tp_machine.specs.ModuleUse.{action_at, covers}
use Rattle.tp_schedule.proofs.CoveredTicks.{covered}
use Rattle.tp_schedule.proofs.Pairs.{AllPairs-head, AllPairs-tail, AllPairs-nil}
use Rattle.tp_schedule.specs.Holders.{Run, runs, runs_of, runs_from, holds_of_act, holds_at, is_held_by, held, hold_of}
use Rattle.tp_schedule.specs.Spots.{Spot, Ticks, Slot, slots_by, slots_from, slots_of, slots}
use Rattle.tp_machine.specs.declared.parts.ActId.{ActId}
use Rattle.tp_machine.specs.declared.parts.Action.{Action}
use Rattle.tp_machine.specs.declared.parts.HoldRule.{HoldRule}
use Rattle.tp_machine.specs.declared.machine.Machine.{Machine}
use Rattle.tp_schedule.specs.declared.parts.Plan.{Plan}
use Rattle.tp_schedule.specs.declared.parts.SheetId.{SheetId}
use Rattle.tp_schedule.specs.Spots.Spot.{kept}

abbrev pub Differ : HoldRule → HoldRule → Type 0
Differ h k = h.resource.0 ≢ k.resource.0

-- no rule is of the resource
abbrev pub NotOn : ℕ → HoldRule → Type 0
NotOn resource h = (h.resource.0 == resource) ≡ false

none_by : (resource : ℕ) (from to : Spot) (rules : List HoldRule) → All (NotOn resource) rules → slots_by resource from to rules ≡ []
none_by resource from to [] all = refl
none_by resource from to (h ∷ rules) all = rw (All-head (NotOn resource) h rules all) (none_by resource from to rules (All-tail (NotOn resource) h rules all))

pub none_held : (resource start end tick : ℕ) (rules : List HoldRule) → All (NotOn resource) rules → list_any (λ h. is_held_by h resource start end tick) rules ≡ false
none_held resource start end tick [] all = refl
none_held resource start end tick (h ∷ rules) all = rw (All-head (NotOn resource) h rules all) (none_held resource start end tick rules (All-tail (NotOn resource) h rules all))

pub others_not_on : (resource : ℕ) (h : HoldRule) (rules : List HoldRule) → (h.resource.0 == resource) ≡ true → All (Differ h) rules → All (NotOn resource) rules
others_not_on resource h rules e all k d within = go (get_or rules k d) (all k d within) ((get_or rules k d).resource.0 == resource) refl where
  go : (g : HoldRule) → Differ h g → (b : Bool) → (g.resource.0 == resource) ≡ b → b ≡ false
  go g differ true f = absurd (differ (eqb-true h.resource.0 resource e ∙ sym (eqb-true g.resource.0 resource f)))
  go g differ false f = refl

-- the holds of one action on a resource cover a tick once where it is held, and else not
count_by_rules : (t : Ticks) (resource tick : ℕ) (from to : Spot) (rules : List HoldRule) → AllPairs Differ rules
    → length (filter (covered t tick) (slots_by resource from to rules)) ≡ cond (list_any (λ h. is_held_by h resource (t from) (t to) tick) rules) 1 0
count_by_rules t resource tick from to [] differ = refl
count_by_rules t resource tick from to (h ∷ rules) differ = go (h.resource.0 == resource) refl (count_by_rules t resource tick from to rules (AllPairs-tail Differ h rules differ)) where
  one : (b : Bool) (slot : Slot) → length (cond b (slot ∷ []) []) ≡ cond (b || false) 1 0
  one true slot = refl
  one false slot = refl

  go : (b : Bool) → (h.resource.0 == resource) ≡ b → length (filter (covered t tick) (slots_by resource from to rules)) ≡ cond (list_any (λ h. is_held_by h resource (t from) (t to) tick) rules) 1 0
      → length (filter (covered t tick) (cond b (record { rule = h; from = from; to = to } ∷ slots_by resource from to rules) (slots_by resource from to rules)))
      ≡ cond ((b && covers h (t from) (t to) tick) || list_any (λ h. is_held_by h resource (t from) (t to) tick) rules) 1 0
  go true e rest =
      let not_on = others_not_on resource h rules e (AllPairs-head Differ h rules differ) in
      rw (none_by resource from to rules not_on, none_held resource (t from) (t to) tick rules not_on) (one (covers h (t from) (t to) tick) (record { rule = h; from = from; to = to }))
  go false e rest = rest

count_by_act : (machine : Machine) → IsMachine machine → (t : Ticks) (resource tick : ℕ) (from to : Spot) (act : ActId)
    → length (filter (covered t tick) (slots_by resource from to (holds_of_act (action_at machine act.0)))) ≡ cond (list_any (λ h. is_held_by h resource (t from) (t to) tick) (holds_of_act (action_at machine act.0))) 1 0
count_by_act machine rules t resource tick from to act = count_by_rules t resource tick from to (holds_of_act (action_at machine act.0)) (go (action_at machine act.0) refl) where
  go : (o : Option Action) → action_at machine act.0 ≡ o → AllPairs Differ (holds_of_act o)
  go None e = AllPairs-nil Differ
  go (Some a) e = rules.differ act.0 a e

-- the ticks of a plan's points are its points
abbrev pub Agrees : Ticks → SheetId → ℕ → List ℕ → Type 0
Agrees t copy n points = (i j : ℕ) → j ≡ n + i → i < length points → t (kept copy j) ≡ slice_index points i

count_by_runs : (machine : Machine) → IsMachine machine → (t : Ticks) (resource tick : ℕ) (copy : SheetId) (n m : ℕ) (acts : List ActId) (points : List ℕ) → length points ≡ length acts + 1 → Agrees t copy n points
    → length (filter (covered t tick) (slots_from machine resource copy n acts)) ≡ length (filter (holds_at machine resource tick) (runs_from copy m acts points))
count_by_runs machine rules t resource tick copy n m [] points e agrees = refl
count_by_runs machine rules t resource tick copy n m (act ∷ acts) [] e agrees = absurd (omega arith)
count_by_runs machine rules t resource tick copy n m (act ∷ acts) (start ∷ []) e agrees = absurd (omega arith)
count_by_runs machine rules t resource tick copy n m (act ∷ acts) (start ∷ end ∷ points) e agrees =
    let rest = count_by_runs machine rules t resource tick copy (suc n) (m + 1) acts (end ∷ points) (omega arith) (λ i j is within. agrees (suc i) j (omega arith) (omega arith)) in
    let one = count_by_act machine rules t resource tick (kept copy n) (kept copy (suc n)) act in
    let first : t (kept copy n) ≡ start = agrees 0 n (omega arith) (omega arith) in
    let second : t (kept copy (suc n)) ≡ end = agrees 1 (suc n) (omega arith) (omega arith) in
    rw (filter-append (covered t tick) (slots_by resource (kept copy n) (kept copy (suc n)) (holds_of_act (action_at machine act.0))) (slots_from machine resource copy (suc n) acts))
    (length-append (filter (covered t tick) (slots_by resource (kept copy n) (kept copy (suc n)) (holds_of_act (action_at machine act.0)))) (filter (covered t tick) (slots_from machine resource copy (suc n) acts))
    ∙ ap (λ k. k + length (filter (covered t tick) (slots_from machine resource copy (suc n) acts))) one
    ∙ go (t (kept copy n)) (t (kept copy (suc n))) first second rest) where
      go : (a b : ℕ) → a ≡ start → b ≡ end
          → length (filter (covered t tick) (slots_from machine resource copy (suc n) acts)) ≡ length (filter (holds_at machine resource tick) (runs_from copy (m + 1) acts (end ∷ points)))
          → cond (list_any (λ h. is_held_by h resource a b tick) (holds_of_act (action_at machine act.0))) 1 0 + length (filter (covered t tick) (slots_from machine resource copy (suc n) acts))
          ≡ length (filter (holds_at machine resource tick) (runs_from copy m (act ∷ acts) (start ∷ end ∷ points)))
      go a b p q rest = rw (p, q, rest) (counted (list_any (λ h. is_held_by h resource start end tick) (holds_of_act (action_at machine act.0))) (record { sheet = copy; number = m; act = act; start = start; end = end }) (filter (holds_at machine resource tick) (runs_from copy (m + 1) acts (end ∷ points)))) where
        counted : (c : Bool) (run : Run) (rest : List Run) → cond c 1 0 + length rest ≡ length (cond c (run ∷ rest) rest)
        counted true run rest = omega arith
        counted false run rest = omega arith

-- the ticks are those of the plan's points
abbrev pub IsTimedBy : Ticks → Plan → Type 0
IsTimedBy t p = (length p.points ≡ length p.acts + 1) × Agrees t p.sheet 0 p.points

count_plans : (machine : Machine) → IsMachine machine → (t : Ticks) (resource tick : ℕ) (plans : List Plan) → All (IsTimedBy t) plans
    → length (filter (covered t tick) (slots machine resource plans)) ≡ length (filter (holds_at machine resource tick) (runs plans))
count_plans machine rules t resource tick [] all = refl
count_plans machine rules t resource tick (p ∷ plans) all =
    let by = All-head (IsTimedBy t) p plans all in
    let one = count_by_runs machine rules t resource tick p.sheet 0 1 p.acts p.points by.0 by.1 in
    let rest = count_plans machine rules t resource tick plans (All-tail (IsTimedBy t) p plans all) in
    rw (
      filter-append (covered t tick) (slots_of machine resource p) (slots machine resource plans),
      filter-append (holds_at machine resource tick) (runs_of p) (runs plans),
      length-append (filter (covered t tick) (slots_of machine resource p)) (filter (covered t tick) (slots machine resource plans)),
      length-append (filter (holds_at machine resource tick) (runs_of p)) (filter (holds_at machine resource tick) (runs plans)),
    )
    (omega (arith, one, rest))

-- a resource is held at a tick as often as its holds cover it
pub length-held : (machine : Machine) → IsMachine machine → (t : Ticks) (resource tick : ℕ) (plans : List Plan) → All (IsTimedBy t) plans
    → length (held machine plans resource tick) ≡ length (filter (covered t tick) (slots machine resource plans))
length-held machine rules t resource tick plans all =
    length-map (filter (holds_at machine resource tick) (runs plans)) hold_of ∙ sym (count_plans machine rules t resource tick plans all)
