-- The copies whose plans are not live any more, and that an ask beside them is one on the live part.
use Rattle.std.proofs.Common.{◌≡◌, ℕ, zero, suc, ◌<◌, Bool, true, false, not, ◌||◌, ◌==◌, List, [], ◌∷◌, length, refl, ap, sym, ◌∙◌, arith, Some, None, Option, Contains}
use Rattle.std.specs.Prelude.{nat_lt, slice_index}
use Rattle.std.specs.List.{list_any}
use Rattle.std.proofs.lemmas.Bool.Decides.{nat_tests}
use Rattle.std.proofs.lemmas.List.Elements.{All-contains}
use Rattle.tp_machine.specs.declared.machine.Machine.{Machine}
use Rattle.tp_schedule.specs.Answers.{IsAskedFrom}
use Rattle.tp_schedule.specs.LivePlans.{is_held_after, is_live}
use Rattle.tp_schedule.specs.Holders.{runs_of}
use Rattle.tp_schedule.specs.PlannerAnswers.{CanAsk, CanPlanOn, HasTimeFrom, IsOpenGoal}
use Rattle.tp_schedule.specs.Plans.{IsTimedPlan, goes_to, is_before, is_delivered_to, is_same_copy, plan_of, point}
use Rattle.tp_schedule.specs.declared.parts.Ask.{Ask}
use Rattle.tp_schedule.specs.declared.parts.Goal.{Goal}
use Rattle.tp_schedule.specs.declared.parts.Goal.TheVariants.{Tray, Purge}
use Rattle.tp_schedule.specs.declared.parts.Origin.{Origin}
use Rattle.tp_schedule.specs.declared.parts.Origin.TheVariants.{Feeder as FromFeeder, Front as FromFront}
use Rattle.tp_schedule.specs.declared.parts.Plan.{Plan}
use Rattle.tp_schedule.specs.declared.parts.SheetId.{SheetId}
use Rattle.tp_schedule.proofs.CopyFacts.{before-other, plan_of-itself, same_copy-is}
use Rattle.tp_choices.proofs.PlansOf.{plan_of-contains}
use Rattle.tp_choices.specs.LiveParts.{EndsAhead, MayAskBeside, MayForget}
use Rattle.tp_placing.specs.Commits.{CanPut}
use Rattle.tp_placing.proofs.WritePlans.{or-true}

-- a plan with a point above the moment is live
above-in : (now : ℕ) (points : List ℕ) (i : ℕ) → i < length points → now < slice_index points i → list_any (nat_lt now) points ≡ true
above-in now [] i within above = absurd (omega arith)
above-in now (t ∷ points) zero within above = let yes : nat_lt now t ≡ true = grind (arith, nat_tests) in rw yes refl
above-in now (t ∷ points) (suc i) within above = ap (λ b. nat_lt now t || b) (above-in now points i (omega arith) above) ∙ or-true (nat_lt now t)

live-by_point : (machine : Machine) (now : ℕ) (p : Plan) (i : ℕ) → i < length p.points → now < point p i → is_live machine now p ≡ true
live-by_point machine now p i within above = ap (λ b. b || list_any (is_held_after machine now) (runs_of p)) (above-in now p.points i within above)

same-number : (m n : ℕ) → (m == n) ≡ true → m ≡ n
same-number m n e = grind (arith, nat_tests)

-- the copy has a plan, and that is not live
abbrev pub ended : Machine → ℕ → Option Plan → Bool
ended machine now None = false
ended machine now (Some p) = not (is_live machine now p)

abbrev pub gone_at : Machine → ℕ → List Plan → SheetId → Bool
gone_at machine now plans copy = ended machine now (plan_of copy plans)

module _ (machine : Machine) (plans : List Plan) (now : ℕ) (can : CanPlanOn machine now plans) where
  abbrev pub gone : SheetId → Bool
  gone = gone_at machine now plans

  pub gone-of : (p : Plan) → Contains plans p → gone p.sheet ≡ not (is_live machine now p)
  gone-of p in' = ap (ended machine now) (plan_of-itself plans p can.legal.in_order in')

  pub may-forget : MayForget machine now plans gone
  may-forget = record {
    legal = can.legal;
    past = λ p in' is. (let e = sym (gone-of p in') ∙ is in go (is_live machine now p) e);
    ahead = λ p in' i le within. (let f = can.floors p in' refl i le within in omega arith);
  } where
    go : (b : Bool) → not b ≡ true → b ≡ false
    go true e = absurd cc
    go false e = refl

-- an ask that can be put on a schedule
pub put-of : (machine : Machine) (plans : List Plan) (ask : Ask) → CanAsk machine plans ask → CanPut machine plans ask
put-of machine plans ask can = record { plan_on = can.plan_on; asked = can.asked; has_time = can.has_time; open_goal = can.open_goal }

module _ (machine : Machine) (plans : List Plan) (ask : Ask) (can : CanPut machine plans ask) where
  abbrev gone' : SheetId → Bool
  gone' = gone machine plans ask.now can.plan_on

  pub stays : gone' ask.sheet ≡ false
  stays = by ask.origin can.asked can.has_time where
    by : (o : Origin) → IsAskedFrom machine plans ask o → HasTimeFrom plans ask.now o → gone' ask.sheet ≡ false
    by FromFeeder none time = ap (ended machine ask.now) none
    by (FromFront state end count) (p, planned, front) time =
        let timed = All-contains (IsTimedPlan machine) plans p can.plan_on.legal.timed (plan_of-contains ask.sheet plans p planned).0 in
        let last : ask.now < point p (length p.acts) = let e = front.ends in omega arith in
        let alive : is_live machine ask.now p ≡ true = live-by_point machine ask.now p (length p.acts) (let m = timed.one_more in omega arith) last in
        ap (ended machine ask.now) planned ∙ ap not alive

  ends_ahead : EndsAhead ask.now ask.origin
  ends_ahead = by ask.origin can.has_time where
    by : (o : Origin) → HasTimeFrom plans ask.now o → EndsAhead ask.now o
    by FromFeeder time = tt
    by (FromFront state end count) time = time

  before-asked : (p : Plan) → Contains plans p → gone' p.sheet ≡ true → (tray : ℕ) → goes_to ask.goal tray ≡ true → is_delivered_to p tray ≡ true → is_before p.sheet ask.sheet ≡ true
  before-asked p in' is tray goal there = by ask.goal can.open_goal goal where
    dead : is_live machine ask.now p ≡ false
    dead = (may-forget machine plans ask.now can.plan_on).past p in' is

    other : is_same_copy p.sheet ask.sheet ≡ false
    other = pick (is_same_copy p.sheet ask.sheet) refl where
      pick : (b : Bool) → is_same_copy p.sheet ask.sheet ≡ b → b ≡ false
      pick true e = let s = same_copy-is p.sheet ask.sheet e in let bad : gone' p.sheet ≡ false = ap gone' s ∙ stays in cc
      pick false e = refl

    by : (g : Goal) → IsOpenGoal machine plans ask g → goes_to g tray ≡ true → is_before p.sheet ask.sheet ≡ true
    by Purge open_goal goal' = absurd cc
    by (Tray t) open_goal goal' = pick (is_before ask.sheet p.sheet) refl where
      to : t.0 ≡ tray
      to = same-number t.0 tray goal'

      pick : (b : Bool) → is_before ask.sheet p.sheet ≡ b → is_before p.sheet ask.sheet ≡ true
      pick true e = absurd (let alive = open_goal.1 p in' (ap (is_delivered_to p) to ∙ there) e in let d = dead in cc)
      pick false e = before-other ask.sheet p.sheet e other

  pub may-ask : MayAskBeside machine plans ask gone'
  may-ask = record { asked = can.asked; stays = stays; ends_ahead = ends_ahead; earlier = before-asked }
