-- A tree for the live part of a schedule is one for the whole, and the plan that it proves earliest is there.
use Rattle.std.proofs.Common.{◌≡◌, ℕ, Bool, true, false, not, ◌||◌, List, [], ◌∷◌, filter, Some, refl, sym, ap, subst, ◌∙◌, Contains}
use Rattle.std.specs.Prelude.{if◌then◌else◌}
use Rattle.tp_event_rules.proofs.ListFacts.{find-Some}
use Rattle.tp_bounds.specs.declared.tree.BoundTree.{BoundTree}
use Rattle.tp_machine.specs.declared.machine.Machine.{Machine}
use Rattle.tp_schedule.specs.LivePlans.{is_live}
use Rattle.tp_schedule.specs.Plans.{end_of_plan, is_same_copy, plan_of}
use Rattle.tp_schedule.specs.declared.parts.Ask.{Ask}
use Rattle.tp_schedule.specs.declared.parts.Plan.{Plan}
use Rattle.tp_schedule.specs.declared.parts.Reply.{Reply}
use Rattle.tp_schedule.specs.declared.parts.Reply.TheVariants.{Planned, Never, Spent}
use Rattle.tp_schedule.proofs.CopyFacts.{plan_of-itself, same_copy-is}
use Rattle.tp_schedule.proofs.Membership.{Contains-filter_from}
use Rattle.tp_bound_laws.specs.Claims.{limit_of, live_part}
use Rattle.tp_bound_laws.specs.Once.{IsSimple}
use Rattle.tp_bound_laws.specs.Short.{IsShortTreeFor}
use Rattle.tp_bound_laws.specs.Trees.{IsBoundTree}
use Rattle.tp_bound_laws.specs.declared.claim.Claim.{Claim}
use Rattle.tp_bound_laws.specs.declared.claim.Claim.TheVariants.{Earliest, Never as NeverClaim}
use Rattle.tp_event_turn.specs.LiveAnswers.{CanAskLive, IsAnswerOnWhole, live_at}
use Rattle.tp_event_turn.proofs.LiveLists.{filter-by}
use Rattle.tp_event_turn.proofs.LivePast.{gone-is, gone_at, may-ask}
use Rattle.tp_search.specs.Engines.{AddsTree}

kept-twice : {X : Type 0} (f : X → Bool) (xs : List X) → filter f (filter f xs) ≡ filter f xs
kept-twice f [] = refl
kept-twice {X} f (x ∷ xs) = go (f x) refl (kept-twice f xs) where
  go : (b : Bool) → f x ≡ b → filter f (filter f xs) ≡ filter f xs → filter f (if b then x ∷ filter f xs else filter f xs) ≡ (if b then x ∷ filter f xs else filter f xs)
  go true e same = rw e (ap (λ ys. x ∷ ys) same)
  go false e same = same

first-holds : (b c : Bool) → (c ≡ true → b ≡ true) → (b || c) ≡ b
first-holds true c e = refl
first-holds false true e = sym (e refl)
first-holds false false e = refl

module _ (machine : Machine) (plans : List Plan) (ask : Ask) (can : CanAskLive machine plans ask) where
  -- the asked copy's front is live
  front-live : (p : Plan) → Contains plans p → is_same_copy p.sheet ask.sheet ≡ true → is_live machine ask.now p ≡ true
  front-live p in' same =
      let stays = (may-ask machine plans ask can).stays in
      let gone : gone_at machine ask.now plans p.sheet ≡ false = subst (λ c. gone_at machine ask.now plans c ≡ false) (sym (same_copy-is p.sheet ask.sheet same)) stays in
      let is = gone-is machine ask.now plans can.legal.in_order p in' in
      go (is_live machine ask.now p) (sym is ∙ gone)
    where
      go : (b : Bool) → not b ≡ false → b ≡ true
      go true e = refl
      go false e = absurd cc

  live-on : live_part machine ask (live_at machine ask.now plans) ≡ live_part machine ask plans
  live-on =
      filter-by (λ p. is_live machine ask.now p || is_same_copy p.sheet ask.sheet) (is_live machine ask.now) (live_at machine ask.now plans)
      (λ p in'. first-holds (is_live machine ask.now p) (is_same_copy p.sheet ask.sheet) (λ same. (Contains-filter_from (is_live machine ask.now) plans p in').1))
      ∙ kept-twice (is_live machine ask.now) plans
      ∙ sym (filter-by (λ p. is_live machine ask.now p || is_same_copy p.sheet ask.sheet) (is_live machine ask.now) plans
      (λ p in'. first-holds (is_live machine ask.now p) (is_same_copy p.sheet ask.sheet) (front-live p in')))

  tree-on : (claim : Claim) (tree : BoundTree) → IsShortTreeFor machine (live_at machine ask.now plans) ask claim tree → IsShortTreeFor machine plans ask claim tree
  tree-on claim tree (is, few, simple) = (
    subst (λ ps. IsBoundTree machine ps ask (limit_of machine ask claim) tree) live-on is,
    few,
    subst (λ ps. IsSimple machine ps ask (limit_of machine ask claim) tree) live-on simple,
  )

  -- the plan of the asked copy
  plan-on : {spent : Machine → List Plan → Ask → ℕ → Type 0} (live : List Plan) (p : Plan) (w : IsAnswerOnWhole spent machine plans ask Planned live) → plan_of ask.sheet live ≡ Some p → plan_of ask.sheet w.whole ≡ Some p
  plan-on live p w planned =
      let found = find-Some (λ q. is_same_copy q.sheet ask.sheet) live p planned in
      let there = Contains-filter_from (is_live machine ask.now) w.whole p (subst (λ ps. Contains ps p) (sym w.live_part) found.0) in
      subst (λ c. plan_of c w.whole ≡ Some p) (same_copy-is p.sheet ask.sheet found.1) (plan_of-itself w.whole p w.answer.0.alternative.legal.in_order there.0)

  pub trees-on : {spent : Machine → List Plan → Ask → ℕ → Type 0} (reply : Reply) (live : List Plan) (trees trees' : List BoundTree) (w : IsAnswerOnWhole spent machine plans ask reply live)
      → AddsTree machine (live_at machine ask.now plans) ask reply live trees trees' → AddsTree machine plans ask reply w.whole trees trees'
  trees-on Planned live trees trees' w (tree, (p, planned, shows), added) = (tree, (p, plan-on live p w planned, tree-on (Earliest (end_of_plan p)) tree shows), added)
  trees-on Never live trees trees' w (tree, shows, added) = (tree, tree-on NeverClaim tree shows, added)
  trees-on (Spent bound) live trees trees' w added = added
