-- The holds that are gathered are the slots of the plans, resource by resource, with their times, and none stands twice.
use Rattle.std.proofs.Common.{◌≡◌, ℕ, suc, ◌+◌, ◌<◌, ◌==◌, inl, inr, Bool, true, false, cond, List, [], ◌∷◌, ◌++◌, length, map, filter, get_or, refl, sym, ap, subst, ◌∙◌, arith, add-one, All, AllPairs, Contains, Option, Some, None}
use Rattle.std.specs.Prelude.{◌≤ℤ◌, ◌<ℤ◌}
use Rattle.std.specs.Cmp.{int_ranks}
use Rattle.std.specs.Ordering.{MatchOrdering, int_cmp, is_lt, nat_cmp, ordering_then}
use Rattle.std.specs.declared.cmp.Ordering.{Ordering}
use Rattle.std.specs.declared.cmp.Ordering.TheVariants.{Less, Equal, Greater}
use Rattle.std.proofs.lemmas.Bool.Decides.{nat_tests}
use Rattle.std.proofs.lemmas.Int.{ints}
use Rattle.std.proofs.lemmas.List.{map-append}
use Rattle.std.proofs.lemmas.List.Elements.{All-append, All-contains, All-head, All-map, All-nil, All-tail, All-weaker, filter-append}
use Rattle.tp_machine.specs.ModuleUse.{action_at, begin_of, end_of}
use Rattle.tp_machine.specs.declared.machine.Machine.{Machine}
use Rattle.tp_machine.specs.declared.parts.ActId.{ActId}
use Rattle.tp_machine.specs.declared.parts.Action.{Action}
use Rattle.tp_machine.specs.declared.parts.HoldRule.{HoldRule}
use Rattle.tp_machine.proofs.MachineFacts.{is_machine}
use Rattle.tp_schedule.specs.Holders.{holds_of_act}
use Rattle.tp_schedule.specs.Plans.{IsFormed, is_before}
use Rattle.tp_schedule.specs.Spots.{Slot, Ticks, begin_at, end_at, slots, slots_by, slots_from, slots_of}
use Rattle.tp_schedule.specs.Spots.Spot.{kept}
use Rattle.tp_schedule.specs.declared.parts.Plan.{Plan}
use Rattle.tp_schedule.specs.declared.parts.SheetId.{SheetId}
use Rattle.tp_schedule.proofs.CopyFacts.{InOrder, before-not_same, same_copy-refl}
use Rattle.tp_schedule.proofs.HeldCount.{Agrees, Differ, IsTimedBy}
use Rattle.tp_schedule.proofs.Pairs.{AllPairs-append, AllPairs-head, AllPairs-map, AllPairs-nil, AllPairs-tail}
use Rattle.tp_schedule_check.specs.Holds.{IsAhead, finish_of, held_acts, held_by, held_plan, held_plans, slot_of}
use Rattle.tp_schedule_check.specs.declared.held.NumberedHold.{NumberedHold}
use Rattle.tp_schedule_check.specs.declared.held.NumberedAct.{NumberedAct}

-- what is not behind in the order of the sort's keys is ahead
pub ahead-from : (x y : NumberedHold) → is_lt (ordering_then (nat_cmp y.rule.resource.0 x.rule.resource.0) (int_cmp y.begin x.begin)) ≡ false → IsAhead x y
ahead-from x y e = go (nat_cmp y.rule.resource.0 x.rule.resource.0) refl e where
  by : (o : Ordering) → MatchOrdering o (y.begin <ℤ x.begin) (y.begin ≡ x.begin) (x.begin <ℤ y.begin) → is_lt o ≡ false → x.begin ≤ℤ y.begin
  by Less earlier f = absurd cc
  by Equal same f = omega (arith, ints)
  by Greater later f = omega (arith, ints)

  go : (o : Ordering) → nat_cmp y.rule.resource.0 x.rule.resource.0 ≡ o → is_lt (ordering_then o (int_cmp y.begin x.begin)) ≡ false → IsAhead x y
  go Less is f = absurd cc
  go Equal is f = inr (grind (arith, nat_tests), by (int_cmp y.begin x.begin) (int_ranks y.begin x.begin) f)
  go Greater is f = inl (grind (arith, nat_tests))

-- ---- slots
abbrev pub is_on : ℕ → NumberedHold → Bool
is_on resource h = h.rule.resource.0 == resource

abbrev pub row : ℕ → List NumberedHold → List Slot
row resource hs = map slot_of (filter (is_on resource) hs)

row-append : (resource : ℕ) (xs ys : List NumberedHold) → row resource (xs ++ ys) ≡ row resource xs ++ row resource ys
row-append resource xs ys = ap (map slot_of) (filter-append (is_on resource) xs ys) ∙ map-append slot_of (filter (is_on resource) xs) (filter (is_on resource) ys)

row-rules : (resource : ℕ) (run : NumberedAct) (rules : List HoldRule) → row resource (map (held_by run) rules) ≡ slots_by resource (kept run.sheet run.at) (kept run.sheet (run.at + 1)) rules
row-rules resource run [] = refl
row-rules resource run (rule ∷ rules) = go (rule.resource.0 == resource) (row-rules resource run rules) where
  one : Slot
  one = record { rule = rule; from = kept run.sheet run.at; to = kept run.sheet (run.at + 1) }

  go : (b : Bool) → row resource (map (held_by run) rules) ≡ slots_by resource (kept run.sheet run.at) (kept run.sheet (run.at + 1)) rules
      → map slot_of (cond b (held_by run rule ∷ filter (is_on resource) (map (held_by run) rules)) (filter (is_on resource) (map (held_by run) rules)))
      ≡ cond b (record { rule = rule; from = kept run.sheet run.at; to = kept run.sheet (run.at + 1) } ∷ slots_by resource (kept run.sheet run.at) (kept run.sheet (run.at + 1)) rules) (slots_by resource (kept run.sheet run.at) (kept run.sheet (run.at + 1)) rules)
  go true rest = ap (λ xs. record { rule = rule; from = kept run.sheet run.at; to = kept run.sheet (run.at + 1) } ∷ xs) rest
  go false rest = rest

row-acts : (machine : Machine) (resource : ℕ) (sheet : SheetId) (at number : ℕ) (acts : List ActId) (points : List ℕ) → length points ≡ length acts + 1
    → row resource (held_acts machine sheet at number acts points) ≡ slots_from machine resource sheet at acts
row-acts machine resource sheet at number [] points e = refl
row-acts machine resource sheet at number (act ∷ acts) [] e = absurd (omega arith)
row-acts machine resource sheet at number (act ∷ acts) (start ∷ []) e = absurd (omega arith)
row-acts machine resource sheet at number (act ∷ acts) (start ∷ end ∷ points) e =
    let run : NumberedAct = record { sheet = sheet; at = at; number = number; start = start; end = end } in
    let rules = holds_of_act (action_at machine act.0) in
    let rest = row-acts machine resource sheet (at + 1) (number + 1) acts (end ∷ points) (omega arith) in
    row-append resource (map (held_by run) rules) (held_acts machine sheet (at + 1) (number + 1) acts (end ∷ points))
    ∙ ap (λ xs. xs ++ row resource (held_acts machine sheet (at + 1) (number + 1) acts (end ∷ points))) (row-rules resource run rules)
    ∙ ap (λ xs. slots_by resource (kept sheet at) (kept sheet (at + 1)) rules ++ xs) rest
    ∙ ap (λ k. slots_by resource (kept sheet at) (kept sheet k) rules ++ slots_from machine resource sheet k acts) (add-one at)

pub row-plans : (machine : Machine) (resource number : ℕ) (plans : List Plan) → All IsFormed plans → row resource (held_plans machine number plans) ≡ slots machine resource plans
row-plans machine resource number [] formed = refl
row-plans machine resource number (p ∷ plans) formed =
    let one : IsFormed p = All-head IsFormed p plans formed in
    row-append resource (held_plan machine number p) (held_plans machine (number + (length p.acts + 1)) plans)
    ∙ ap (λ xs. xs ++ row resource (held_plans machine (number + (length p.acts + 1)) plans)) (row-acts machine resource p.sheet 0 number p.acts p.points one.one_more)
    ∙ ap (λ xs. slots_of machine resource p ++ xs) (row-plans machine resource (number + (length p.acts + 1)) plans (All-tail IsFormed p plans formed))

-- ---- times
abbrev pub IsHeldAt : Ticks → NumberedHold → Type 0
IsHeldAt t h = (h.begin ≡ begin_at t (slot_of h)) × (finish_of h ≡ end_at t (slot_of h))

at-acts : (machine : Machine) (t : Ticks) (sheet : SheetId) (at number : ℕ) (acts : List ActId) (points : List ℕ) → length points ≡ length acts + 1 → Agrees t sheet at points
    → All (IsHeldAt t) (held_acts machine sheet at number acts points)
at-acts machine t sheet at number [] points e agrees = All-nil (IsHeldAt t)
at-acts machine t sheet at number (act ∷ acts) [] e agrees = All-nil (IsHeldAt t)
at-acts machine t sheet at number (act ∷ acts) (start ∷ []) e agrees = All-nil (IsHeldAt t)
at-acts machine t sheet at number (act ∷ acts) (start ∷ end ∷ points) e agrees =
    let run : NumberedAct = record { sheet = sheet; at = at; number = number; start = start; end = end } in
    let rules = holds_of_act (action_at machine act.0) in
    let first : t (kept sheet at) ≡ start = agrees 0 at (omega arith) (omega arith) in
    let second : t (kept sheet (at + 1)) ≡ end = agrees 1 (at + 1) (omega arith) (omega arith) in
    All-append (IsHeldAt t) (map (held_by run) rules) (held_acts machine sheet (at + 1) (number + 1) acts (end ∷ points))
    (All-map (IsHeldAt t) (held_by run) rules (λ k d within. (
      λ i. begin_of (get_or rules k d) (sym first i) (sym second i),
      λ i. end_of (get_or rules k d) (sym first i) (sym second i),
    )))
    (at-acts machine t sheet (at + 1) (number + 1) acts (end ∷ points) (omega arith) (λ i j is within. agrees (suc i) j (omega arith) (omega arith)))

pub at-plans : (machine : Machine) (t : Ticks) (number : ℕ) (plans : List Plan) → All (IsTimedBy t) plans → All (IsHeldAt t) (held_plans machine number plans)
at-plans machine t number [] timed = All-nil (IsHeldAt t)
at-plans machine t number (p ∷ plans) timed =
    let one : IsTimedBy t p = All-head (IsTimedBy t) p plans timed in
    All-append (IsHeldAt t) (held_plan machine number p) (held_plans machine (number + (length p.acts + 1)) plans)
    (at-acts machine t p.sheet 0 number p.acts p.points one.0 one.1)
    (at-plans machine t (number + (length p.acts + 1)) plans (All-tail (IsTimedBy t) p plans timed))

-- ---- no hold stands twice
abbrev pub AreTwo : NumberedHold → NumberedHold → Type 0
AreTwo x y = x.rule.resource.0 ≡ y.rule.resource.0 → x.hold ≡ y.hold → ⊥

abbrev IsOf : SheetId → ℕ → NumberedHold → Type 0
IsOf sheet at h = (h.hold.sheet ≡ sheet) × (at < h.hold.act)

of-acts : (machine : Machine) (sheet : SheetId) (at number : ℕ) (acts : List ActId) (points : List ℕ) → All (IsOf sheet at) (held_acts machine sheet at number acts points)
of-acts machine sheet at number [] points = All-nil (IsOf sheet at)
of-acts machine sheet at number (act ∷ acts) [] = All-nil (IsOf sheet at)
of-acts machine sheet at number (act ∷ acts) (start ∷ []) = All-nil (IsOf sheet at)
of-acts machine sheet at number (act ∷ acts) (start ∷ end ∷ points) =
    let run : NumberedAct = record { sheet = sheet; at = at; number = number; start = start; end = end } in
    All-append (IsOf sheet at) (map (held_by run) (holds_of_act (action_at machine act.0))) (held_acts machine sheet (at + 1) (number + 1) acts (end ∷ points))
    (All-map (IsOf sheet at) (held_by run) (holds_of_act (action_at machine act.0)) (λ k d within. (refl, omega arith)))
    (All-weaker (IsOf sheet (at + 1)) (IsOf sheet at) (λ h o. (o.0, let later = o.1 in omega arith)) (held_acts machine sheet (at + 1) (number + 1) acts (end ∷ points)) (of-acts machine sheet (at + 1) (number + 1) acts (end ∷ points)))

rules-differ : (machine : Machine) (n : ℕ) → AllPairs Differ (holds_of_act (action_at machine n))
rules-differ machine n = go (action_at machine n) refl where
  go : (o : Option Action) → action_at machine n ≡ o → AllPairs Differ (holds_of_act o)
  go None e = AllPairs-nil Differ
  go (Some a) e = (is_machine machine).differ n a e

two-acts : (machine : Machine) (sheet : SheetId) (at number : ℕ) (acts : List ActId) (points : List ℕ) → AllPairs AreTwo (held_acts machine sheet at number acts points)
two-acts machine sheet at number [] points = AllPairs-nil AreTwo
two-acts machine sheet at number (act ∷ acts) [] = AllPairs-nil AreTwo
two-acts machine sheet at number (act ∷ acts) (start ∷ []) = AllPairs-nil AreTwo
two-acts machine sheet at number (act ∷ acts) (start ∷ end ∷ points) =
    let run : NumberedAct = record { sheet = sheet; at = at; number = number; start = start; end = end } in
    let rules = holds_of_act (action_at machine act.0) in
    let later = held_acts machine sheet (at + 1) (number + 1) acts (end ∷ points) in
    AllPairs-append AreTwo (map (held_by run) rules) later
    (AllPairs-map Differ AreTwo (λ _. Unit {0}) (held_by run) rules (λ k d within. tt) (rules-differ machine act.0) (λ g h _ _ differ same _. differ same))
    (two-acts machine sheet (at + 1) (number + 1) acts (end ∷ points))
    (All-map (λ x. All (AreTwo x) later) (held_by run) rules (λ k d within j e inside same one.
    let behind = (of-acts machine sheet (at + 1) (number + 1) acts (end ∷ points) j e inside).1 in
    let act' : at + 1 ≡ (get_or later j e).hold.act = ap (λ h. h.act) one in
    omega arith))

-- of plans of other copies
abbrev IsAmong : List Plan → NumberedHold → Type 0
IsAmong plans h = (p : Plan) × Contains plans p × (h.hold.sheet ≡ p.sheet)

among-plans : (machine : Machine) (number : ℕ) (plans : List Plan) → All (IsAmong plans) (held_plans machine number plans)
among-plans machine number [] = All-nil (IsAmong [])
among-plans machine number (p ∷ plans) =
    All-append (IsAmong (p ∷ plans)) (held_plan machine number p) (held_plans machine (number + (length p.acts + 1)) plans)
    (All-weaker (IsOf p.sheet 0) (IsAmong (p ∷ plans)) (λ h o. (p, (0, omega arith, refl), o.0)) (held_plan machine number p) (of-acts machine p.sheet 0 number p.acts p.points))
    (All-weaker (IsAmong plans) (IsAmong (p ∷ plans)) (λ h o. (o.0, (suc o.1.0, omega (arith, o.1.1), o.1.2), o.2)) (held_plans machine (number + (length p.acts + 1)) plans) (among-plans machine (number + (length p.acts + 1)) plans))

pub two-plans : (machine : Machine) (number : ℕ) (plans : List Plan) → InOrder plans → AllPairs AreTwo (held_plans machine number plans)
two-plans machine number [] order = AllPairs-nil AreTwo
two-plans machine number (p ∷ plans) order =
    let later = held_plans machine (number + (length p.acts + 1)) plans in
    AllPairs-append AreTwo (held_plan machine number p) later
    (two-acts machine p.sheet 0 number p.acts p.points)
    (two-plans machine (number + (length p.acts + 1)) plans (AllPairs-tail (λ x y. is_before x.sheet y.sheet ≡ true) p plans order))
    (λ k d within j e inside same one.
    let first = (of-acts machine p.sheet 0 number p.acts p.points k d within).0 in
    let other = among-plans machine (number + (length p.acts + 1)) plans j e inside in
    let before : is_before p.sheet other.0.sheet ≡ true = All-contains (λ q. is_before p.sheet q.sheet ≡ true) plans other.0 (AllPairs-head (λ x y. is_before x.sheet y.sheet ≡ true) p plans order) other.1 in
    let copies : p.sheet ≡ other.0.sheet = sym first ∙ ap (λ h. h.sheet) one ∙ other.2 in
    let itself = before-not_same p.sheet p.sheet (subst (λ c. is_before p.sheet c ≡ true) (sym copies) before) in
    let same_one = same_copy-refl p.sheet in
    absurd cc)
