-- From which tick on an action holds a resource.
use Rattle.std.proofs.Common.{◌≡◌, ℕ, ℤ, ◌-◌, ◌<◌, ◌≤◌, ◌==◌, Bool, true, false, cond, List, [], ◌∷◌, slice_get, Option, Some, None, refl, sym, ap, subst, ◌∙◌, arith, All, Contains}
use Rattle.std.specs.Prelude.{MatchOption, find}
use Rattle.std.proofs.lemmas.Bool.Decides.{nat_tests}
use Rattle.std.proofs.lemmas.List.Elements.{All-cons, All-contains, All-nil}
use Rattle.std.proofs.lemmas.Option.{get_or_from_slice_get, same_Some}
use Rattle.tp_machine.specs.ModuleUse.{action_at, begin_of}
use Rattle.tp_machine.specs.declared.machine.Machine.{Machine}
use Rattle.tp_machine.specs.declared.parts.ActId.{ActId}
use Rattle.tp_machine.specs.declared.parts.HoldRule.{HoldRule}
use Rattle.tp_machine.specs.declared.parts.ResId.{ResId}
use Rattle.tp_schedule.specs.Holders.{holds_of_act}
use Rattle.tp_schedule.specs.Plans.{plan_of}
use Rattle.tp_schedule.specs.declared.parts.Hold.{Hold}
use Rattle.tp_schedule.specs.declared.parts.Plan.{Plan}
use Rattle.tp_schedule.proofs.Membership.{Contains-here, Contains-later}
use Rattle.tp_log_planner.specs.Breaches.{BeginsAt, BeginsIn}

abbrev pub on : ResId → HoldRule → Bool
on resource rule = rule.resource.0 == resource.0

abbrev IsFound : ResId → List HoldRule → HoldRule → Type 0
IsFound resource rules rule = Contains rules rule × (on resource rule ≡ true)

pub found-on : (resource : ResId) (rules : List HoldRule) (rule : HoldRule) → find (on resource) rules ≡ Some rule → IsFound resource rules rule
found-on resource [] rule e = absurd cc
found-on resource (r ∷ rules) rule e = go (on resource r) refl e (found-on resource rules rule) where
  go : (b : Bool) → on resource r ≡ b → cond b (Some r) (find (on resource) rules) ≡ Some rule → (find (on resource) rules ≡ Some rule → IsFound resource rules rule) → IsFound resource (r ∷ rules) rule
  go true f g rest = let same : r ≡ rule = same_Some r rule g in (subst (Contains (r ∷ rules)) same (Contains-here r rules), subst (λ x. on resource x ≡ true) same f)
  go false f g rest = let later = rest g in (Contains-later r rules rule later.0, later.1)

abbrev IsNotOn : ResId → HoldRule → Type 0
IsNotOn resource rule = on resource rule ≡ false

none-on : (resource : ResId) (rules : List HoldRule) → find (on resource) rules ≡ None → All (IsNotOn resource) rules
none-on resource [] e = All-nil (IsNotOn resource)
none-on resource (r ∷ rules) e = go (on resource r) refl e (none-on resource rules) where
  go : (b : Bool) → on resource r ≡ b → cond b (Some r) (find (on resource) rules) ≡ None → (find (on resource) rules ≡ None → All (IsNotOn resource) rules) → All (IsNotOn resource) (r ∷ rules)
  go true f g rest = absurd cc
  go false f g rest = All-cons (IsNotOn resource) r rules f (rest g)

same-res : (a b : ResId) → a.0 ≡ b.0 → a ≡ b
same-res a b e = λ i. record { 0 = e i }

module _ (machine : Machine) (plan : Plan) (number : ℕ) (some : 1 ≤ number) (act : ActId) (runs : slice_get plan.acts (number - 1) ≡ Some act) (rules : List HoldRule) (are : rules ≡ holds_of_act (action_at machine act.0)) (resource : ResId) where
  pub begins-in : (rule : HoldRule) → Some rule ≡ find (on resource) rules → (start end : ℕ) → slice_get plan.points (number - 1) ≡ Some start → slice_get plan.points number ≡ Some end
      → (begin : ℤ) → begin ≡ begin_of rule start end → BeginsIn machine plan number resource begin
  begins-in rule found start end from to begin is =
      let held = found-on resource rules rule (sym found) in
      record {
        at = number - 1;
        number_is = omega (arith, some);
        act = act;
        runs = runs;
        rule = rule;
        holds = subst (λ rs. Contains rs rule) are held.0;
        on = same-res rule.resource resource (grind (arith, nat_tests, held.1));
        is = is ∙ (λ k. begin_of rule (sym (get_or_from_slice_get plan.points (number - 1) start 0 from) k) (sym (get_or_from_slice_get plan.points number end 0 to) k));
      }

  pub never-in : find (on resource) rules ≡ None → (begin : ℤ) → BeginsIn machine plan number resource begin → ⊥
  never-in none begin b =
      let at : b.at ≡ number - 1 = let n = b.number_is in omega (arith, n) in
      let same : b.act ≡ act = same_Some b.act act (sym b.runs ∙ ap (slice_get plan.acts) at ∙ runs) in
      let held : Contains rules b.rule = subst (λ rs. Contains rs b.rule) (ap (λ (a : ActId). holds_of_act (action_at machine a.0)) same ∙ sym are) b.holds in
      let off : on resource b.rule ≡ false = All-contains (IsNotOn resource) rules b.rule (none-on resource rules none) held in
      let here : b.rule.resource.0 ≡ resource.0 = ap (λ (r : ResId). r.0) b.on in
      absurd (grind (arith, nat_tests, off, here))

module _ (machine : Machine) (plans : List Plan) (resource : ResId) (hold : Hold) where
  pub begins-at : (plan : Plan) → plan_of hold.sheet plans ≡ Some plan → (begin : ℤ) → BeginsIn machine plan hold.act resource begin → BeginsAt machine plans resource hold begin
  begins-at plan there begin b = record { plan = plan; planned = there; begins = b }

  pub begins-of : (plan : Plan) → plan_of hold.sheet plans ≡ Some plan → (begin : ℤ) → BeginsAt machine plans resource hold begin → BeginsIn machine plan hold.act resource begin
  begins-of plan there begin b = subst (λ p. BeginsIn machine p hold.act resource begin) (same_Some b.plan plan (sym b.planned ∙ there)) b.begins

  pub no-plan : plan_of hold.sheet plans ≡ None → (begin : ℤ) → BeginsAt machine plans resource hold begin → ⊥
  no-plan none begin b = let there = b.planned in absurd cc

pub match-by : {X : Type 0} (A A' : Type 0) (B B' : X → Type 0) (o : Option X) → (A → A') → ((x : X) → B x → B' x) → MatchOption o A B → MatchOption o A' B'
match-by A A' B B' None none some h = none h
match-by A A' B B' (Some x) none some h = some x h
