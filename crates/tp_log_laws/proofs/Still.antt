-- Times that are least already do not move as they are settled, and so it is behind the answer that plans a loose copy.
use Rattle.std.proofs.Common.{◌≡◌, ℕ, suc, ◌+◌, ◌≤◌, ◌<◌, true, List, [], ◌∷◌, ◌++◌, length, map, refl, sym, arith, ◌∙◌, ap, subst, Contains, Some, le_antisymm}
use Rattle.std.specs.Prelude.{slice_index}
use Rattle.std.proofs.lemmas.List.Elements.{All-contains}
use Rattle.std.proofs.lemmas.Option.{same_Some}
use Rattle.tp_machine.specs.declared.machine.Machine.{Machine}
use Rattle.tp_schedule.specs.Answers.{IsAlternative, IsLeast, IsRetimed, KeepsFixed, KeepsHorizon, follows_front, kept_of, unmoved}
use Rattle.tp_schedule.specs.PlannerAnswers.{CanPlanOn, IsSettled, none_exempt}
use Rattle.tp_schedule.specs.Plans.{IsTimedPlan, is_fixed, is_same_copy, plan_of, point, with_points}
use Rattle.tp_schedule.specs.Spots.{ticks_of}
use Rattle.tp_schedule.specs.Spots.Spot.{kept}
use Rattle.tp_schedule.specs.declared.parts.Ask.{Ask}
use Rattle.tp_schedule.specs.declared.parts.Plan.{Plan}
use Rattle.tp_schedule.proofs.CopyFacts.{plan_of-itself, same_copy-is}
use Rattle.tp_schedule.proofs.Membership.{Contains-here, Contains-later}
use Rattle.tp_choices.proofs.Unmoved.{unmoved-found}
use Rattle.tp_event_rules.specs.AnswerRecords.{moves, told_of_move}
use Rattle.tp_event_rules.specs.Laws.{IsPlannable}
use Rattle.tp_event_rules.specs.Loops.{planned}
use Rattle.tp_event_rules.specs.States.{SessionState}
use Rattle.tp_event_rules.proofs.AskedFacts.{bytes_eq-same}
use Rattle.tp_event_rules.proofs.ListFacts.{find-Some}
use Rattle.tp_outage_laws.proofs.LooseAsks.{IsAskOf}
use Rattle.tp_log_laws.proofs.Freed.{change-is, freed, least-freed}

-- settling moves nothing
abbrev pub StaysSettled : Machine → SessionState → Type 0
StaysSettled machine s = (plans : List Plan) → IsSettled machine s.now s.plans plans → moves s.plans plans ≡ []

same-ticks : (xs ys : List ℕ) → length xs ≡ length ys → ((i : ℕ) → i < length xs → slice_index xs i ≡ slice_index ys i) → xs ≡ ys
same-ticks [] [] long each = refl
same-ticks [] (y ∷ ys) long each = absurd (omega (arith, long))
same-ticks (x ∷ xs) [] long each = absurd (omega (arith, long))
same-ticks (x ∷ xs) (y ∷ ys) long each =
    let first : x ≡ y = each 0 (omega arith) in
    let rest = same-ticks xs ys (omega (arith, long)) (λ i within. each (suc i) (omega (arith, within))) in
    (λ k. first k ∷ rest k)

same-plan : (p q : Plan) → unmoved q ≡ unmoved p → q.points ≡ p.points → q ≡ p
same-plan p q u e = λ k. with_points (e k) (u k)

none-moves : (ps qs : List Plan) → map unmoved qs ≡ map unmoved ps → ((p q : Plan) → Contains ps p → Contains qs q → unmoved q ≡ unmoved p → q.points ≡ p.points) → moves ps qs ≡ []
none-moves [] qs same each = refl
none-moves (p ∷ ps) [] same each = refl
none-moves (p ∷ ps) (q ∷ qs) same each =
    let one : unmoved q ≡ unmoved p = cc in
    let rest : map unmoved qs ≡ map unmoved ps = cc in
    let first : q ≡ p = same-plan p q one (each p q (Contains-here p ps) (Contains-here q qs) one) in
    let points = bytes_eq-same p.points in
    let still : told_of_move p p ≡ [] = rw points refl in
    ap (λ rs. rs ++ moves ps qs) (ap (told_of_move p) first ∙ still) ∙ none-moves ps qs rest (λ a b in-a in-b u. each a b (Contains-later p ps a in-a) (Contains-later q qs b in-b) u)

module _ (machine : Machine) (now : ℕ) (plans : List Plan) (can : CanPlanOn machine now plans) (least : IsLeast machine now none_exempt plans) (settled : List Plan) (is : IsSettled machine now plans settled) where
  back-fixed : KeepsFixed settled plans
  back-fixed q p in-q found i fixed le =
      let at = find-Some (λ r. is_same_copy r.sheet q.sheet) plans p found in
      let sheet : p.sheet ≡ q.sheet = same_copy-is p.sheet q.sheet at.1 in
      let here : plan_of p.sheet settled ≡ Some q = subst (λ c. plan_of c settled ≡ Some q) (sym sheet) (plan_of-itself settled q is.retimed.legal.in_order in-q) in
      let to = unmoved-found settled plans p is.retimed.same at.0 in
      let to-sheet : to.0.sheet ≡ p.sheet = ap (λ (r : Plan). r.sheet) to.2 in
      let itself : plan_of p.sheet settled ≡ Some to.0 = subst (λ c. plan_of c settled ≡ Some to.0) to-sheet (plan_of-itself settled to.0 is.retimed.legal.in_order to.1) in
      let one : to.0 ≡ q = same_Some to.0 q (sym itself ∙ here) in
      let shape : unmoved q ≡ unmoved p = ap unmoved (sym one) ∙ to.2 in
      let fixed' : is_fixed p i ≡ true = subst (λ (r : Plan). is_fixed r i ≡ true) shape fixed in
      let acts : length q.acts ≡ length p.acts = ap (λ (r : Plan). length r.acts) shape in
      sym (is.retimed.fixed p q at.0 here i fixed' (omega (arith, le, acts)))

  back : IsRetimed machine now none_exempt settled plans
  back = record {
    legal = can.legal;
    same = sym is.retimed.same;
    fixed = back-fixed;
    orders = λ r. sym (is.retimed.orders r);
    floors = can.floors;
    horizon = can.horizon;
  }

  same-points : (p q : Plan) → Contains plans p → Contains settled q → unmoved q ≡ unmoved p → q.points ≡ p.points
  same-points p q in-p in-q u =
      let sheet : q.sheet ≡ p.sheet = ap (λ (r : Plan). r.sheet) u in
      let acts : length q.acts ≡ length p.acts = ap (λ (r : Plan). length r.acts) u in
      let timed-p : IsTimedPlan machine p = All-contains (IsTimedPlan machine) plans p can.legal.timed in-p in
      let timed-q : IsTimedPlan machine q = All-contains (IsTimedPlan machine) settled q is.retimed.legal.timed in-q in
      let long-p = timed-p.one_more in
      let long-q = timed-q.one_more in
      let found-q : plan_of p.sheet settled ≡ Some q = subst (λ c. plan_of c settled ≡ Some q) sheet (plan_of-itself settled q is.retimed.legal.in_order in-q) in
      let found-p : plan_of q.sheet plans ≡ Some p = subst (λ c. plan_of c plans ≡ Some p) (sym sheet) (plan_of-itself plans p can.legal.in_order in-p) in
      same-ticks q.points p.points (omega (arith, acts, long-p, long-q)) (λ i within.
      let at-q : ticks_of settled (kept p.sheet i) ≡ point q i = rw found-q refl in
      let at-p : ticks_of plans (kept q.sheet i) ≡ point p i = rw found-p refl in
      let up : point p i ≤ ticks_of settled (kept p.sheet i) = least settled is.retimed p in-p i (omega (arith, within, acts, long-q)) in
      let down : point q i ≤ ticks_of plans (kept q.sheet i) = is.least plans back q in-q i (omega (arith, within, long-q)) in
      le_antisymm (omega (arith, down, at-p)) (omega (arith, up, at-q)))

  pub least-stays : moves plans settled ≡ []
  least-stays = none-moves plans settled is.retimed.same same-points

-- behind the answer that plans a loose copy
pub planned-stays : (machine : Machine) (s : SessionState) (ask : Ask) (of : IsAskOf machine s ask) (plans : List Plan) → IsAlternative machine s.plans ask plans → IsLeast machine ask.now (follows_front ask) plans
    → IsPlannable machine (planned machine ask plans s).state → StaysSettled machine (planned machine ask plans s).state
planned-stays machine s ask of plans a least can settled is =
    let now : ask.now ≡ s.now = ap (λ (x : Ask). x.now) (sym of.is) in
    let timed : IsTimedPlan machine of.p = All-contains (IsTimedPlan machine) s.plans of.p a.legal_before.timed of.there in
    let some = timed.some in
    let kept : kept_of ask ≡ length of.p.acts = ap kept_of (sym of.is) in
    let same = change-is (s.now + machine.lead) ask.sheet plans a.legal.in_order in
    let can' : CanPlanOn machine s.now (map (freed (s.now + machine.lead) ask.sheet) plans) = subst (CanPlanOn machine s.now) same can in
    let low = least-freed machine s.now ask plans a.legal (subst (λ n. KeepsHorizon machine n plans) now a.horizon) (omega (arith, some, kept)) can'.legal (subst (λ n. IsLeast machine n (follows_front ask) plans) now least) in
    least-stays machine s.now (planned machine ask plans s).state.plans can (subst (IsLeast machine s.now none_exempt) (sym same) low) settled is
