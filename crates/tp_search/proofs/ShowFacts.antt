-- What a tree of the loaded plans is for the whole schedule, and when a board can show one.
use Rattle.std.proofs.Common.{◌≡◌, ℕ, ◌+◌, ◌≤◌, Bool, true, false, not, ◌||◌, List, length, Contains, refl, sym, ap, subst, ◌∙◌, arith, None}
use Rattle.std.specs.Prelude.{pos, ◌-ℤ◌}
use Rattle.std.proofs.lemmas.Int.{ints}
use Rattle.tp_base.specs.Readings.{Reading}
use Rattle.tp_bounds.specs.declared.tree.BoundTree.{BoundTree}
use Rattle.tp_machine.specs.declared.machine.Machine.{Machine}
use Rattle.tp_machine.proofs.MachineFacts.{is_machine}
use Rattle.tp_schedule.specs.Answers.{IsAlternative, IsAsked, NoneBefore, kept_of}
use Rattle.tp_schedule.specs.LivePlans.{is_live}
use Rattle.tp_schedule.specs.Plans.{AreNamed, end_of_plan, is_same_copy}
use Rattle.tp_schedule.specs.declared.parts.Ask.{Ask}
use Rattle.tp_schedule.specs.declared.parts.Plan.{Plan}
use Rattle.tp_schedule.proofs.CopyFacts.{same_copy-is}
use Rattle.tp_schedule.proofs.Membership.{Contains-filter_from}
use Rattle.tp_choices.proofs.AnswerOpens.{answer_opens}
use Rattle.tp_placing.specs.Boards.{BoardValue}
use Rattle.tp_placing.specs.LoadedBoard.{AreFewSteps, StandsOn}
use Rattle.tp_placing.specs.Commits.{IsLoadedFrom}
use Rattle.tp_placing.proofs.WriteLive.{gone, gone-of, put-of, stays}
use Rattle.tp_placing.proofs.WriteWhole.{filter-agree}
use Rattle.tp_bound_make.specs.TreeProgress as Shown
use Rattle.tp_bound_laws.specs.Claims.{live_part}
use Rattle.tp_bound_laws.specs.Once.{IsSimple}
use Rattle.tp_bound_laws.specs.Short.{HasFewHops, IsShortTreeFor}
use Rattle.tp_bound_laws.specs.Trees.{IsBoundTree}
use Rattle.tp_bound_laws.specs.declared.claim.Claim.TheVariants.{Earliest, Never}
use Rattle.tp_constraints.specs.Ends.{EndsBy}
use Rattle.tp_search.specs.Boards.{IsBack, IsReady}
use Rattle.tp_search.proofs.AnswerFacts.{known-goal}
use Rattle.tp_search.proofs.TrialFacts.{whole-answer}

module _ (machine : Machine) (plans : List Plan) (ask : Ask) (live : List Plan) (from : IsLoadedFrom machine plans ask live) where
  -- a plan of the asked copy is live
  same-live : (p : Plan) → Contains plans p → (is : Bool) → is_same_copy p.sheet ask.sheet ≡ is → is_live machine ask.now p ≡ (is_live machine ask.now p || is)
  same-live p in' false other = or-false (is_live machine ask.now p) where
    or-false : (b : Bool) → b ≡ (b || false)
    or-false true = refl
    or-false false = refl
  same-live p in' true same = go (is_live machine ask.now p) refl where
    stays-here : gone machine plans ask.now from.can_ask.plan_on p.sheet ≡ false
    stays-here = ap (gone machine plans ask.now from.can_ask.plan_on) (same_copy-is p.sheet ask.sheet same) ∙ stays machine plans ask (put-of machine plans ask from.can_ask)

    go : (b : Bool) → is_live machine ask.now p ≡ b → b ≡ (b || true)
    go true e = refl
    go false e = let dead = sym (gone-of machine plans ask.now from.can_ask.plan_on p in') ∙ stays-here in let bad : true ≡ false = ap not (sym e) ∙ dead in absurd cc

  -- the loaded plans are the live part that a tree is for
  pub loaded-live : live ≡ live_part machine ask plans
  loaded-live = from.live_part ∙ filter-agree (is_live machine ask.now) (λ p. is_live machine ask.now p || is_same_copy p.sheet ask.sheet) plans (λ p in'. same-live p in' (is_same_copy p.sheet ask.sheet) refl)

  pub loaded-named : AreNamed live
  loaded-named = subst AreNamed (sym from.live_part) (λ p q in-p in-q same. from.can_ask.named p q (Contains-filter_from (is_live machine ask.now) plans p in-p).0 (Contains-filter_from (is_live machine ask.now) plans q in-q).0 same)

  -- where the schedule has no alternative, the loaded plans have none
  pub loaded-none : IsAsked machine live ask → ((other : List Plan) → ¬ IsAlternative machine plans ask other) → (other : List Plan) → ¬ IsAlternative machine live ask other
  loaded-none asked none other a =
      let o = answer_opens machine live other ask a.legal_before asked a in
      let whole = whole-answer machine plans ask from.can_ask live from.live_part o.0 (end_of_plan a.plan) (is_machine machine) (known-goal machine plans ask from.can_ask) o.1 o.2 in
      none whole.0 whole.1

  -- a bound tree of the loaded plans is one for the claim
  pub tree-never : (tree : BoundTree) → IsBoundTree machine live ask (pos (ask.now + machine.window)) tree → HasFewHops tree → IsSimple machine live ask (pos (ask.now + machine.window)) tree → IsShortTreeFor machine plans ask Never tree
  tree-never tree is few simple = (
    subst (λ ps. IsBoundTree machine ps ask (pos (ask.now + machine.window)) tree) loaded-live is,
    few,
    subst (λ ps. IsSimple machine ps ask (pos (ask.now + machine.window)) tree) loaded-live simple,
  )

  pub tree-earliest : (end last : ℕ) (tree : BoundTree) → end ≡ last + 1 → IsBoundTree machine live ask (pos last) tree → HasFewHops tree → IsSimple machine live ask (pos last) tree → IsShortTreeFor machine plans ask (Earliest end) tree
  tree-earliest end last tree one is few simple =
      let same : pos last ≡ pos end -ℤ pos 1 = omega (arith, ints, one) in (
        subst (λ n. IsBoundTree machine (live_part machine ask plans) ask n tree) same (subst (λ ps. IsBoundTree machine ps ask (pos last) tree) loaded-live is),
        few,
        subst (λ n. IsSimple machine (live_part machine ask plans) ask n tree) same (subst (λ ps. IsSimple machine ps ask (pos last) tree) loaded-live simple),
      )

-- an alternative that ends by a tick is none where there is none, or none ends before the next tick
pub never-early : (machine : Machine) (live : List Plan) (ask : Ask) (last : ℕ) → ((other : List Plan) → ¬ IsAlternative machine live ask other) → ¬ EndsBy machine live ask last
never-early machine live ask last none e = none e.answer e.alternative

pub earlier-none : (machine : Machine) (live : List Plan) (ask : Ask) (end last : ℕ) → end ≡ last + 1 → NoneBefore machine live ask end → ¬ EndsBy machine live ask last
earlier-none machine live ask end last one none e = let le = none e.answer e.alternative in let by = e.by in omega (arith, one, le, by)

module _ {N : Type 0} (reading : Reading N) where
  -- a board that a tree was shown on is as before
  pub back-shown : (b b' : BoardValue N) (machine : Machine) → Shown.IsBack reading b b' machine → IsBack reading b b' machine
  back-shown b b' machine back = record { same_content = back.content_same; same_past = back.since.past_same; loaded = back.since.load; marks = back.since.room; stands = back.since.stands }

  -- the board that is ready stands on its ask
  pub ready-on : (b : BoardValue N) (machine : Machine) (ask : Ask) → IsReady reading b machine ask → StandsOn reading b machine ask
  ready-on b machine ask ready = let same : ready.stands.0 ≡ ask = let one = ready.stands.1.asked in let two = ready.asked in cc in subst (StandsOn reading b machine) same ready.stands.1

  -- an asked copy keeps at most 64 actions
  pub kept-few : (b : BoardValue N) (machine : Machine) (ask : Ask) → IsReady reading b machine ask → kept_of ask ≤ 64
  kept-few b machine ask ready =
      let on = ready-on b machine ask ready in
      let few : AreFewSteps (kept_of ask) None (length b.steps) = subst (λ o. AreFewSteps (kept_of ask) o (length b.steps)) ready.closed on.now.few_steps in
      few.1
