-- A tree on the live part tells of the whole schedule.
use Rattle.std.proofs.Common.{◌≡◌, ◌+◌, ◌≤◌, Bool, true, false, ◌||◌, List, filter, refl, ◌∙◌, ap, subst, arith, Contains, Option, Some, None}
use Rattle.std.specs.Prelude.{pos, ◌<ℤ◌, ◌-ℤ◌}
use Rattle.std.proofs.lemmas.Int.{ints}
use Rattle.tp_machine.specs.declared.machine.Machine.{Machine}
use Rattle.tp_schedule.specs.Answers.{IsAlternative, IsAsked, IsAskedFrom}
use Rattle.tp_schedule.specs.Legality.{IsLegal}
use Rattle.tp_schedule.specs.LivePlans.{is_live}
use Rattle.tp_schedule.specs.Plans.{end_of_plan, is_same_copy, plan_of}
use Rattle.tp_schedule.specs.declared.parts.Ask.{Ask}
use Rattle.tp_schedule.specs.declared.parts.Origin.{Origin}
use Rattle.tp_schedule.specs.declared.parts.Origin.TheVariants.{Feeder as FromFeeder, Front as FromFront}
use Rattle.tp_schedule.specs.declared.parts.Plan.{Plan}
use Rattle.tp_schedule.specs.declared.parts.SheetId.{SheetId}
use Rattle.tp_choices.proofs.PlansLeft.{legal-staying, plan_of-staying, staying}
use Rattle.std.proofs.Common.{[], ◌∷◌}
use Rattle.tp_schedule.proofs.Membership.{Contains-here, Contains-later}
use Rattle.tp_schedule.proofs.CopyFacts.{plan_of-itself}
use Rattle.tp_choices.proofs.AnswerOpens.{answer_opens}
use Rattle.tp_choices.proofs.Fewer.{stay-answers}
use Rattle.tp_choices.proofs.PlansOf.{plan_of-contains}
use Rattle.tp_bound_laws.specs.declared.claim.Claim.{Claim}
use Rattle.tp_bound_laws.specs.declared.claim.Claim.TheVariants.{Earliest, Never}
use Rattle.tp_bound_laws.proofs.TreeBounds.{tree_bounds}
use Rattle.tp_bound_laws.specs.Claims.{IsTold, TreeTells, limit_of, live_part}

-- the live part, by copies
module _ (machine : Machine) (ask : Ask) (plans : List Plan) where
  abbrev is_kept : Plan → Bool
  is_kept p = is_live machine ask.now p || is_same_copy p.sheet ask.sheet

  abbrev kept_in : Option Plan → Bool
  kept_in None = true
  kept_in (Some p) = is_kept p

  abbrev by_copy : SheetId → Bool
  by_copy c = kept_in (plan_of c plans)

  same-filter : (some : List Plan) → ((p : Plan) → Contains some p → by_copy p.sheet ≡ is_kept p) → staying by_copy some ≡ filter is_kept some
  same-filter [] same = refl
  same-filter (p ∷ some) same =
      let here = same p (Contains-here p some) in
      let rest = same-filter some (λ q in'. same q (Contains-later p some q in')) in
      rw (here, rest) refl

  or-right : (a b : Bool) → b ≡ true → (a || b) ≡ true
  or-right true b e = refl
  or-right false b e = e

  asked-stays : by_copy ask.sheet ≡ true
  asked-stays = go (plan_of ask.sheet plans) refl where
    go : (o : Option Plan) → plan_of ask.sheet plans ≡ o → kept_in o ≡ true
    go None e = refl
    go (Some p) e = or-right (is_live machine ask.now p) (is_same_copy p.sheet ask.sheet) (plan_of-contains ask.sheet plans p e).1

  live-is : IsLegal machine plans → staying by_copy plans ≡ live_part machine ask plans
  live-is legal = same-filter plans (λ p in'. ap kept_in (plan_of-itself plans p legal.in_order in'))

  asked-live : IsAsked machine plans ask → IsAsked machine (staying by_copy plans) ask
  asked-live asked = go ask.origin asked where
    go : (o : Origin) → IsAskedFrom machine plans ask o → IsAskedFrom machine (staying by_copy plans) ask o
    go FromFeeder none = plan_of-staying by_copy ask.sheet plans asked-stays ∙ none
    go (FromFront state end count) (p, planned, front) = (p, plan_of-staying by_copy ask.sheet plans asked-stays ∙ planned, front)

  live-answer : IsLegal machine plans → (new : List Plan) (a : IsAlternative machine plans ask new) → (other : List Plan) × (b : IsAlternative machine (live_part machine ask plans) ask other) × (b.plan ≡ a.plan)
  live-answer legal new a =
      let r = stay-answers machine plans new ask by_copy asked-stays a in
      subst (λ ps. (other : List Plan) × (b : IsAlternative machine ps ask other) × (b.plan ≡ a.plan)) (live-is legal) (staying by_copy new, r.0, r.1)

pub tree_tells : TreeTells
tree_tells machine plans ask claim tree legal asked is = go claim bound where
  live : IsLegal machine (live_part machine ask plans)
  live = subst (IsLegal machine) (live-is machine ask plans legal) (legal-staying (by_copy machine ask plans) machine plans legal)

  asked-there : IsAsked machine (live_part machine ask plans) ask
  asked-there = subst (λ ps. IsAsked machine ps ask) (live-is machine ask plans legal) (asked-live machine ask plans asked)

  bound : (new : List Plan) (a : IsAlternative machine plans ask new) → limit_of machine ask claim <ℤ pos (end_of_plan a.plan)
  bound new a =
      let b = live-answer machine ask plans legal new a in
      let e : end_of_plan b.1.plan ≡ end_of_plan a.plan = ap end_of_plan b.2 in
      subst (λ n. limit_of machine ask claim <ℤ pos n) e (tree_bounds machine (live_part machine ask plans) ask (limit_of machine ask claim) tree live asked-there is b.0 b.1)

  in-horizon : (new : List Plan) (a : IsAlternative machine plans ask new) → end_of_plan a.plan ≤ ask.now + machine.window
  in-horizon new a = let o = answer_opens machine plans new ask legal asked a in let last = o.2.times.last in let e = o.2.ends in omega (arith, last, e)

  go : (c : Claim) → ((new : List Plan) (a : IsAlternative machine plans ask new) → limit_of machine ask c <ℤ pos (end_of_plan a.plan)) → IsTold machine plans ask c
  go (Earliest end) above = λ new a. (let h : (pos end -ℤ pos 1) <ℤ pos (end_of_plan a.plan) = above new a in omega (arith, ints))
  go Never above = λ new a. (let h : pos (ask.now + machine.window) <ℤ pos (end_of_plan a.plan) = above new a in let k : end_of_plan a.plan ≤ ask.now + machine.window = in-horizon new a in absurd (omega (arith, ints)))
