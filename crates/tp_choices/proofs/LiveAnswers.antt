-- From the live part to the whole schedule: an alternative on the live part, joined with what is forgotten, is one on the
-- whole.
use Rattle.std.proofs.Common.{◌≡◌, ◌⊎◌, inl, inr, Bool, true, false, not, List, map, filter, refl, ap, sym, arith, Contains, AllPairs, ◌∙◌, subst}
use Rattle.tp_machine.specs.declared.machine.Machine.{Machine}
use Rattle.tp_schedule.specs.declared.parts.Ask.{Ask}
use Rattle.tp_schedule.specs.declared.parts.Plan.{Plan}
use Rattle.tp_schedule.specs.declared.parts.SheetId.{SheetId}
use Rattle.tp_schedule.specs.Answers.{unmoved, follows_front, is_new, KeepsFixed, KeepsFloors, KeepsHorizon, IsAlternative}
use Rattle.tp_schedule.specs.Plans.{plan_of, without, point, is_same_copy, IsEarlier}
use Rattle.tp_schedule.proofs.CopyFacts.{plan_of-itself, before-asym}
use Rattle.std.proofs.lemmas.List.Kept.{AllPairs-filter}
use Rattle.tp_schedule.proofs.Pairs.{AllPairs-map}
use Rattle.tp_schedule.proofs.Membership.{Contains-filter, Contains-filter_from}
use Rattle.tp_choices.specs.LiveParts.{less, only, MayForget, MayAskBeside, LiveAnswers}
use Rattle.tp_choices.proofs.LiveOrders.{others_of, joined-legal, joined-orders}
use Rattle.tp_choices.proofs.Parts.{parts-equal}
use Rattle.tp_choices.proofs.PointFacts.{past-fixed, past-released}
use Rattle.tp_choices.proofs.PlansLeft.{staying, plan_of-staying, without-staying, unmoved-staying}
use Rattle.tp_choices.proofs.LiveJoins.{planned, acts-are, joins}

module _ (machine : Machine) (plans new : List Plan) (ask : Ask) (gone : SheetId → Bool) (f : MayForget machine ask.now plans gone) (b : MayAskBeside machine plans ask gone)
    (in_order : AllPairs IsEarlier new) (past_part : only gone new ≡ only gone plans) (a : IsAlternative machine (less gone plans) ask (less gone new)) where
  -- the plans but for their points, and without the asked copy
  others-same : map unmoved (without ask.sheet new) ≡ map unmoved (without ask.sheet plans)
  others-same = parts-equal IsEarlier (λ p q before after. (let back = before-asym p.sheet q.sheet before in cc)) (λ p. gone p.sheet) (map unmoved (without ask.sheet new)) (map unmoved (without ask.sheet plans))
      (in-order-of new in_order) (in-order-of plans f.legal.in_order) some others where
        in-order-of : (ps : List Plan) → AllPairs IsEarlier ps → AllPairs IsEarlier (map unmoved (without ask.sheet ps))
        in-order-of ps order = AllPairs-map IsEarlier IsEarlier (λ _. Unit {0}) unmoved (without ask.sheet ps) (λ k d within. tt) (AllPairs-filter IsEarlier (λ p. not (is_same_copy p.sheet ask.sheet)) ps order) (λ x y _ _ e. e)

        by-part : (g : SheetId → Bool) (ps : List Plan) → filter (λ p. g p.sheet) (map unmoved (without ask.sheet ps)) ≡ map unmoved (without ask.sheet (staying g ps))
        by-part g ps = sym (unmoved-staying g (without ask.sheet ps)) ∙ ap (map unmoved) (sym (without-staying g ask.sheet ps))

        some : filter (λ p. gone p.sheet) (map unmoved (without ask.sheet new)) ≡ filter (λ p. gone p.sheet) (map unmoved (without ask.sheet plans))
        some = by-part gone new ∙ ap (λ ps. map unmoved (without ask.sheet ps)) past_part ∙ sym (by-part gone plans)

        others : filter (λ p. not (gone p.sheet)) (map unmoved (without ask.sheet new)) ≡ filter (λ p. not (gone p.sheet)) (map unmoved (without ask.sheet plans))
        others = by-part (others_of gone) new ∙ a.others ∙ sym (by-part (others_of gone) plans)

  -- a plan of the new schedule is forgotten, and then what it was, or it is of the live part
  new-cases : (p : Plan) → Contains new p → (Contains plans p × (gone p.sheet ≡ true)) ⊎ Contains (less gone new) p
  new-cases p in' = go (gone p.sheet) refl where
    go : (c : Bool) → gone p.sheet ≡ c → (Contains plans p × (gone p.sheet ≡ true)) ⊎ Contains (less gone new) p
    go true e = inl ((Contains-filter_from (λ r. gone r.sheet) plans p (subst (λ ps. Contains ps p) past_part (Contains-filter (λ r. gone r.sheet) new p in' e))).0, e)
    go false e = inr (Contains-filter (λ r. not (gone r.sheet)) new p in' (rw e refl))

  joined_answer : (c : IsAlternative machine plans ask new) × (c.plan ≡ a.plan)
  joined_answer = (
    record {
      legal_before = f.legal;
      legal = joined-legal machine ask.now gone plans new (is_new ask) (joins machine plans new ask gone f b in_order past_part a);
      others = others-same;
      plan = a.plan;
      planned = planned machine plans new ask gone f b in_order past_part a;
      answers = record {
        sheet = a.answers.sheet;
        name = a.answers.name;
        want = a.answers.want;
        goal = a.answers.goal;
        whole = a.answers.whole;
        route = a.answers.route;
        acts = acts-are machine plans new ask gone f b in_order past_part a;
        is_route = a.answers.is_route;
        allowed = a.answers.allowed;
        released = a.answers.released;
      };
      fixed = fixed-all;
      orders = joined-orders machine ask.now gone plans new (is_new ask) (joins machine plans new ask gone f b in_order past_part a);
      floors = floors-all;
      horizon = horizon-all;
    },
    refl,
  ) where
    fixed-all : KeepsFixed plans new
    fixed-all p p' in' planned-p i is within = go (gone p.sheet) refl where
      go : (c : Bool) → gone p.sheet ≡ c → point p' i ≡ point p i
      go true e =
          let now-there : Contains new p = (Contains-filter_from (λ r. gone r.sheet) new p (subst (λ ps. Contains ps p) (sym past_part) (Contains-filter (λ r. gone r.sheet) plans p in' e))).0 in
          let itself = plan_of-itself new p in_order now-there in
          let same : p' ≡ p = let other = planned-p in cc in
          ap (λ r. point r i) same
      go false e = a.fixed p p' (Contains-filter (λ r. not (gone r.sheet)) plans p in' (rw e refl)) (plan_of-staying (others_of gone) p.sheet new (rw e refl) ∙ planned-p) i is within

    floors-all : KeepsFloors machine ask.now (follows_front ask) new
    floors-all p in' free i unreleased within = elim (new-cases p in') [
      | inl past ↦ absurd (let released = past-released machine ask.now plans gone f p past.0 past.1 in omega arith)
      | inr live ↦ a.floors p live free i unreleased within
    ]

    horizon-all : KeepsHorizon machine ask.now new
    horizon-all p in' i within free = elim (new-cases p in') [
      | inl past ↦ absurd (let fixed = past-fixed machine ask.now plans gone f p past.0 past.1 i within in cc)
      | inr live ↦ a.horizon p live i within free
    ]

pub live_answers : LiveAnswers
live_answers machine plans live new ask gone f b joined =
    subst (λ ps. (a : IsAlternative machine (less gone plans) ask ps) → (c : IsAlternative machine plans ask new) × (c.plan ≡ a.plan)) joined.live_part
    (λ a. joined_answer machine plans new ask gone f b joined.in_order joined.past_part a)
