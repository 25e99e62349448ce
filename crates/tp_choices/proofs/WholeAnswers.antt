-- From the whole schedule to its live part: filters of plans, orders and slots. What is forgotten stays, since all its
-- points are fixed.
use Rattle.std.proofs.Common.{◌≡◌, ℕ, Bool, true, false, not, List, map, length, filter, refl, ap, sym, Contains, ◌∙◌, subst, Some}
use Rattle.std.proofs.lemmas.List.Elements.{All-contains}
use Rattle.tp_machine.specs.declared.machine.Machine.{Machine}
use Rattle.tp_schedule.specs.declared.parts.Plan.{Plan}
use Rattle.tp_schedule.specs.declared.parts.SheetId.{SheetId}
use Rattle.tp_schedule.specs.Answers.{unmoved, KeepsFixed}
use Rattle.tp_schedule.specs.Legality.{IsLegal}
use Rattle.tp_schedule.specs.Plans.{plan_of, without, is_same_copy, IsTimedPlan}
use Rattle.tp_schedule.proofs.CopyFacts.{plan_of-itself, same_copy-is}
use Rattle.tp_schedule.proofs.Membership.{Contains-filter_from, All-from_contains}
use Rattle.tp_choices.specs.LiveParts.{only, MayForget, WholeAnswers, WholeRetimes}
use Rattle.tp_choices.proofs.Fewer.{fixed-staying, less_answers, unmoved-without}
use Rattle.tp_choices.proofs.Lists.{filter-all}
use Rattle.tp_choices.proofs.LiveOrders.{others_of}
use Rattle.tp_choices.proofs.PointFacts.{past-fixed, same-by_points, points-equal}
use Rattle.tp_choices.proofs.SameTicks.{order-staying}
use Rattle.tp_choices.proofs.PlansLeft.{staying, stays, unmoved-staying, legal-staying}

-- where the copy goes anyway, it need not be left out
pub without-gone : (f : SheetId → Bool) (copy : SheetId) (plans : List Plan) → f copy ≡ false → without copy (staying f plans) ≡ staying f plans
without-gone f copy plans e = filter-all (λ p. not (is_same_copy p.sheet copy)) (staying f plans) (All-from_contains (λ p. not (is_same_copy p.sheet copy) ≡ true) (staying f plans) (λ p in'. go p (Contains-filter_from (λ q. f q.sheet) plans p in').1 (is_same_copy p.sheet copy) refl)) where
  go : (p : Plan) → f p.sheet ≡ true → (b : Bool) → is_same_copy p.sheet copy ≡ b → not b ≡ true
  go p stays true same = let is = same_copy-is p.sheet copy same in let no : f p.sheet ≡ false = subst (λ c. f c ≡ false) (sym is) e in absurd (cc)
  go p stays false same = refl

-- what is forgotten stays as it is, where it is the same but for points and its fixed points stay
pub past-stays : (machine : Machine) (now : ℕ) (plans new : List Plan) (gone : SheetId → Bool) → MayForget machine now plans gone → IsLegal machine new → map unmoved (only gone new) ≡ map unmoved (only gone plans) → KeepsFixed plans new
    → only gone new ≡ only gone plans
past-stays machine now plans new gone f legal same fixed = same-by_points (only gone new) (only gone plans) same each where
  each : (p q : Plan) → Contains (only gone new) p → Contains (only gone plans) q → unmoved p ≡ unmoved q → p.points ≡ q.points
  each p q in-p in-q e =
      let from-p = Contains-filter_from (λ r. gone r.sheet) new p in-p in
      let from-q = Contains-filter_from (λ r. gone r.sheet) plans q in-q in
      let sheet : p.sheet ≡ q.sheet = ap (λ (r : Plan). r.sheet) e in
      let planned : plan_of q.sheet new ≡ Some p = subst (λ c. plan_of c new ≡ Some p) sheet (plan_of-itself new p legal.in_order from-p.0) in
      points-equal machine p q (All-contains (IsTimedPlan machine) new p legal.timed from-p.0) (All-contains (IsTimedPlan machine) plans q f.legal.timed from-q.0) (ap (λ (r : Plan). length r.acts) e)
      (λ i within. fixed q p from-q.0 planned i (past-fixed machine now plans gone f q from-q.0 from-q.1 i within) within)

pub whole_answers : WholeAnswers
whole_answers machine plans new ask gone f stays-asked a = (
  record { in_order = a.legal.in_order; live_part = refl; past_part = past-stays machine ask.now plans new gone f a.legal past-unmoved a.fixed },
  less_answers machine plans new ask gone stays-asked a,
) where
  past-unmoved : map unmoved (only gone new) ≡ map unmoved (only gone plans)
  past-unmoved = ap (map unmoved) (sym (without-gone gone ask.sheet new stays-asked)) ∙ unmoved-without gone ask.sheet plans new a.others ∙ ap (map unmoved) (without-gone gone ask.sheet plans stays-asked)

pub whole_retimes : WholeRetimes
whole_retimes machine now exempt plans new gone f r = (
  record { in_order = r.legal.in_order; live_part = refl; past_part = past-stays machine now plans new gone f r.legal (unmoved-staying gone new ∙ ap (staying gone) r.same ∙ sym (unmoved-staying gone plans)) r.fixed },
  record {
    legal = legal-staying (others_of gone) machine new r.legal;
    same = unmoved-staying (others_of gone) new ∙ ap (staying (others_of gone)) r.same ∙ sym (unmoved-staying (others_of gone) plans);
    fixed = fixed-staying (others_of gone) plans new r.fixed;
    orders = λ resource. order-staying true (others_of gone) machine new resource r.legal ∙ ap (filter (stays true (others_of gone))) (r.orders resource) ∙ sym (order-staying true (others_of gone) machine plans resource f.legal);
    floors = λ p in'. r.floors p (Contains-filter_from (λ q. not (gone q.sheet)) new p in').0;
    horizon = λ p in'. r.horizon p (Contains-filter_from (λ q. not (gone q.sheet)) new p in').0;
  },
)
