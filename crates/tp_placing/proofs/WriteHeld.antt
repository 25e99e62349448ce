-- Beside the live plans a board can hold plans that are over by now. These have their least points, and an answer on what it
-- holds, less these, is one on the live plans.
use Rattle.std.proofs.Common.{◌≡◌, ℕ, suc, ◌+◌, ◌++◌, ◌<◌, ◌≤◌, Bool, true, false, not, List, length, filter, map, refl, ap, sym, ◌∙◌, subst, arith, Contains, Some}
use Rattle.std.specs.Prelude.{nat_lt}
use Rattle.std.proofs.lemmas.Bool.{and_parts}
use Rattle.std.proofs.lemmas.Bool.Decides.{nat_tests}
use Rattle.std.proofs.lemmas.List.Elements.{All-contains}
use Rattle.std.proofs.lemmas.List.Kept.{AllPairs-filter}
use Rattle.std.proofs.lemmas.Option.{same_Some}
use Rattle.tp_base.specs.Net.{Net}
use Rattle.tp_machine.specs.declared.parts.ActId.{ActId}
use Rattle.tp_machine.specs.declared.machine.Machine.{Machine}
use Rattle.tp_schedule.specs.Answers.{IsAlternative, IsLeast, acts_in, follows_front, kept_acts, kept_of}
use Rattle.tp_schedule.specs.Choices.{Choice, acts_of}
use Rattle.tp_schedule.specs.Completions.{answered, asked_plan, settled_ticks, total_of}
use Rattle.tp_schedule.specs.LivePlans.{is_live}
use Rattle.tp_schedule.specs.Plans.{IsEarlier, IsTimedPlan, end_of_plan, is_same_copy, plan_of, point, put_plan, with_points, without}
use Rattle.tp_schedule.specs.Spots.{Ticks}
use Rattle.tp_schedule.specs.Spots.Spot.{kept}
use Rattle.tp_schedule.specs.Times.{at, ticks_from, timed_by}
use Rattle.tp_schedule.specs.declared.parts.Ask.{Ask}
use Rattle.tp_schedule.specs.declared.parts.Plan.{Plan}
use Rattle.tp_schedule.specs.declared.parts.SheetId.{SheetId}
use Rattle.tp_schedule.proofs.CopyFacts.{plan_of-itself, same_copy-is}
use Rattle.tp_schedule.proofs.Membership.{Contains-filter, Contains-filter_from}
use Rattle.tp_choices.specs.LiveParts.{less}
use Rattle.tp_choices.proofs.RejoinedPlans.{live_is_least}
use Rattle.tp_choices.proofs.LiveOrders.{others_of}
use Rattle.tp_choices.proofs.Parts.{filter-swap}
use Rattle.tp_choices.proofs.PointFacts.{past-fixed}
use Rattle.tp_choices.proofs.PlansLeft.{plan_of-staying}
use Rattle.tp_choices.proofs.WholeAnswers.{whole_answers}
use Rattle.tp_constraints.specs.Nets.{IsBoardNet}
use Rattle.tp_constraints.specs.Numbers.{table_of}
use Rattle.tp_constraints.specs.Suffixes.{Suffix}
use Rattle.tp_constraints.proofs.Lists.{get-contains}
use Rattle.tp_constraints.proofs.PointNumbers.{number-at}
use Rattle.tp_constraints.proofs.PointTable.{table_law}
use Rattle.tp_constraints.proofs.Solutions.{board_solutions}
use Rattle.tp_placing.specs.Settled.{AreOfSchedule, HasLeastPoints}
use Rattle.tp_placing.specs.LoadedBoard.{board_table, own_points}
use Rattle.tp_placing.specs.Commits.{AreLeastTicks, CanPut, IsHeldFrom}
use Rattle.tp_placing.proofs.SettledFacts.{ticks-read}
use Rattle.tp_placing.proofs.TableFacts.{table-left}
use Rattle.tp_placing.proofs.WriteJoined.{filter-map, filter-put}
use Rattle.tp_placing.proofs.WriteLive.{gone, gone-of, may-forget, stays}
use Rattle.tp_placing.proofs.WriteWhole.{forget-new, less-live}

-- the plans with the asked copy's at these ticks are an answer on them, and least, and end so
pub record IsAnswered (machine : Machine) (plans : List Plan) (ask : Ask) (choices : List Choice) (t : Ticks) (end : ℕ) : Type 0 where
  pub answer : IsAlternative machine plans ask (answered plans ask choices t)
  pub ends : end_of_plan answer.plan ≡ end
  pub least : IsLeast machine ask.now (follows_front ask) (answered plans ask choices t)

-- the asked copy's new plan has a released action where it follows a front
have-released : (machine : Machine) (plans new : List Plan) (ask : Ask) (a : IsAlternative machine plans ask new) (p : Plan) → Contains new p → follows_front ask p ≡ true → 0 < p.released
have-released machine plans new ask a p in' e =
    let parts = and_parts (is_same_copy p.sheet ask.sheet) (nat_lt 0 (kept_of ask)) e in
    let sheet = same_copy-is p.sheet ask.sheet parts.0 in
    let found : plan_of ask.sheet new ≡ Some p = ap (λ c. plan_of c new) (sym sheet) ∙ plan_of-itself new p a.legal.in_order in' in
    let is : p ≡ a.plan = same_Some p a.plan (sym found ∙ a.planned) in
    let released : p.released ≡ kept_of ask = ap (λ (r : Plan). r.released) is ∙ a.answers.released in
    let some = positive (kept_of ask) parts.1 in
    omega (arith, released, some) where
      positive : (n : ℕ) → nat_lt 0 n ≡ true → 0 < n
      positive n e = grind (arith, nat_tests)

module _ (machine : Machine) (held : List Plan) (ask : Ask) (can : CanPut machine held ask) where
  abbrev over : SheetId → Bool
  over = gone machine held ask.now can.plan_on

  abbrev alive : List Plan
  alive = filter (is_live machine ask.now) held

  less-over : less over held ≡ alive
  less-over = less-live machine held ask.now can.plan_on

  asked-alive : not (over ask.sheet) ≡ true
  asked-alive = ap not (stays machine held ask can)

  kept-alive : kept_acts ask.sheet held ≡ kept_acts ask.sheet alive
  kept-alive = ap acts_in (sym (plan_of-staying (others_of over) ask.sheet held asked-alive) ∙ ap (plan_of ask.sheet) less-over)

  pub asked_plan-alive : (choices : List Choice) → asked_plan held ask choices ≡ asked_plan alive ask choices
  asked_plan-alive choices = ap (λ (acts : List ActId). record (asked_plan held ask choices) { acts = acts ++ acts_of choices }) kept-alive

  -- the answered plans, less those that are over, are the answered live ones
  answered-alive : (choices : List Choice) (t : Ticks) → less over (answered held ask choices t) ≡ answered alive ask choices t
  answered-alive choices t =
      filter-map (λ c. not (over c)) (timed_by settled) (put_plan (asked_plan held ask choices) (without ask.sheet held)) (λ p. refl)
      ∙ ap (map (timed_by settled)) (
      filter-put (λ c. not (over c)) (asked_plan held ask choices) (without ask.sheet held) (AllPairs-filter IsEarlier (λ p. not (is_same_copy p.sheet ask.sheet)) held can.plan_on.legal.in_order) asked-alive
      ∙ ap (put_plan (asked_plan held ask choices)) (filter-swap (λ p. not (over p.sheet)) (λ p. not (is_same_copy p.sheet ask.sheet)) held ∙ ap (without ask.sheet) less-over)
      ∙ ap (λ p. put_plan p (without ask.sheet alive)) (asked_plan-alive choices)
      ) where
        settled : Ticks
        settled = settled_ticks ask (total_of ask choices) t

  pub answered-on_live : (choices : List Choice) (t : Ticks) (end : ℕ) → IsAnswered machine held ask choices t end → IsAnswered machine alive ask choices t end
  answered-on_live choices t end a =
      let w = whole_answers machine held (answered held ask choices t) ask over (may-forget machine held ask.now can.plan_on) (stays machine held ask can) a.answer in
      let forgets = forget-new machine held ask can (less over (answered held ask choices t)) (answered held ask choices t) w.0 a.answer in
      let P : List Plan → Type 0 = λ ps. (b : IsAlternative machine ps ask (less over (answered held ask choices t))) × (b.plan ≡ a.answer.plan) in
      let small = subst P less-over w.1 in
      let Q : List Plan → Type 0 = λ ps. (b : IsAlternative machine alive ask ps) × (end_of_plan b.plan ≡ end) in
      let here = subst Q (answered-alive choices t) (small.0, ap end_of_plan small.1 ∙ a.ends) in
      record {
        answer = here.0;
        ends = here.1;
        least = subst (IsLeast machine ask.now (follows_front ask)) (answered-alive choices t)
            (live_is_least machine ask.now (follows_front ask) (answered held ask choices t) over forgets (λ p points. refl) (have-released machine held (answered held ask choices t) ask a.answer) a.least);
      }

-- of what a board holds the live plans are the schedule's, and the others have their least points
module _ (machine : Machine) (plans held : List Plan) (ask : Ask) (from : IsHeldFrom machine plans ask held) (x : Suffix) (net : Net) (is : IsBoardNet machine held ask x (board_table held (Some x)) net) where
  held-planned : (p : Plan) → Contains held p → is_live machine ask.now p ≡ true → plan_of p.sheet plans ≡ Some p
  held-planned p in' alive' =
      let here = subst (λ ps. Contains ps p) from.live_part (Contains-filter (is_live machine ask.now) held p in' alive') in
      plan_of-itself plans p from.can_ask.plan_on.legal.in_order (Contains-filter_from (is_live machine ask.now) plans p here).0

  -- a point of a plan that is over is fixed
  over-at : (p : Plan) → Contains held p → is_live machine ask.now p ≡ false → (t : Ticks) → AreLeastTicks net (table_of held) t → (i : ℕ) → i ≤ length p.acts → at t p i ≡ point p i
  over-at p in' dead t a i le =
      let can = from.can_put.plan_on in
      let goes : gone machine held ask.now from.can_put.plan_on p.sheet ≡ true = gone-of machine held ask.now from.can_put.plan_on p in' ∙ ap not dead in
      let g = get-contains (table_of held) (kept p.sheet i) ((table_law held can.legal.in_order).all (kept p.sheet i) (p, in', refl, le)) in
      let there : t (kept p.sheet i) ≡ a.solution g.0 = a.there g.0 (kept p.sheet i) g.1 in
      let number-is = number-at (board_table held (Some x)) is.is_table.differ g.0 (kept p.sheet i) (table-left held (own_points (Some x)) g.0 (kept p.sheet i) g.1) in
      let times = (board_solutions machine held ask x (board_table held (Some x)) net is a.solution).0 a.least.solution in
      let fixed = times.keeps.fixed p in' i (past-fixed machine ask.now held (gone machine held ask.now from.can_put.plan_on) (may-forget machine held ask.now from.can_put.plan_on) p in' goes i le) le in
      there ∙ sym (ap a.solution number-is) ∙ fixed

  over-least : (p : Plan) → Contains held p → is_live machine ask.now p ≡ false → HasLeastPoints net held p
  over-least p in' dead t a =
      let timed = All-contains (IsTimedPlan machine) held p from.can_put.plan_on.legal.timed in' in
      let count : length p.points ≡ suc (length p.acts) = omega (arith, timed.one_more) in
      let read = ticks-read (at t p) 0 p.points (λ k within. (let z : 0 + k ≡ k = omega arith in ap (at t p) z ∙ over-at p in' dead t a k (omega (arith, count, within)))) in
      let points : ticks_from (at t p) 0 (suc (length p.acts)) ≡ p.points = ap (λ k. ticks_from (at t p) 0 k) (sym count) ∙ read in
      ap (λ ps. with_points ps p) points

  pub held-part : AreOfSchedule net held plans (is_live machine ask.now)
  held-part = record { planned = held-planned; settled = over-least }
