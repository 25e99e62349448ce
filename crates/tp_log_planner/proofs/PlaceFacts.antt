-- A plan that is read and placed among the moved ones is what the items tell.
use Rattle.std.proofs.Common.{◌≡◌, ℕ, suc, ◌+◌, ◌^◌, ◌<◌, Bool, true, false, cond, List, [], ◌∷◌, drop, length, map, refl, sym, ap, subst, ◌∙◌, arith, Some, None}
use Rattle.std.proofs.lemmas.List.{length-map}
use Rattle.std.proofs.lemmas.Option.{same_Some}
use Rattle.tp_log.specs.declared.item.Item.{Item}
use Rattle.tp_log.specs.declared.item.Item.TheVariants.{Note}
use Rattle.tp_machine.specs.declared.machine.Machine.{Machine}
use Rattle.tp_schedule.specs.Answers.{IsAskedFrom, NoneBefore}
use Rattle.tp_schedule.specs.PlannerAnswers.{CanAsk, HasTimeFrom}
use Rattle.tp_schedule.specs.Plans.{end_of_plan, is_same_copy, plan_of, put_plan, without}
use Rattle.tp_schedule.specs.declared.parts.Ask.{Ask}
use Rattle.tp_schedule.specs.declared.parts.Origin.{Origin}
use Rattle.tp_schedule.specs.declared.parts.Origin.TheVariants.{Feeder as FromFeeder, Front as FromFront}
use Rattle.tp_schedule.specs.declared.parts.Plan.{Plan}
use Rattle.tp_schedule.specs.declared.parts.Reply.{Reply}
use Rattle.tp_schedule.specs.declared.parts.Reply.TheVariants.{Never, Planned, Spent}
use Rattle.tp_schedule.specs.declared.parts.SheetId.{SheetId}
use Rattle.tp_schedule.specs.declared.records.Record.{Record}
use Rattle.tp_bound_laws.specs.declared.claim.Claim.TheVariants.{Earliest}
use Rattle.tp_schedule_check.specs.Faults.{IsRight, exempt_of}
use Rattle.tp_log_planner.specs.TakenAnswers.{DoTellPlan, TakesAnswer}
use Rattle.tp_log_planner.specs.ToldMoves.{DoTellMoves, IsKeptPlan, TakesMoves}
use Rattle.tp_log_planner.specs.ToldPlans.{IsOnlyPlan, TellsNoPlan}
use Rattle.tp_log_planner.specs.DueTrees.{BeginsWithTree}
use Rattle.tp_log_planner.specs.ToldAnswers.{Tells, behind_asides, is_other}
use Rattle.tp_log_planner.proofs.AnswerFacts.{IsIt, enough, found, is-it, it-only, it-tells, kept-or-none, moves-or-none, planned-so}

pub first-is : (told : Record) (later : List Item) → is_other told ≡ false → behind_asides (Note told ∷ later) ≡ Note told ∷ later
first-is told later e = go (is_other told) e where
  go : (b : Bool) → b ≡ false → cond b (behind_asides later) (Note told ∷ later) ≡ Note told ∷ later
  go true f = absurd cc
  go false f = refl

-- a copy without a plan has none in a schedule of the same copies
same-none : (copy : SheetId) (xs ys : List Plan) → map (λ (p : Plan). p.sheet) xs ≡ map (λ (p : Plan). p.sheet) ys → plan_of copy xs ≡ None → plan_of copy ys ≡ None
same-none copy [] [] e none = refl
same-none copy [] (y ∷ ys) e none = absurd cc
same-none copy (x ∷ xs) [] e none = absurd cc
same-none copy (x ∷ xs) (y ∷ ys) e none =
    let sheet : x.sheet ≡ y.sheet = cc in
    let rest : map (λ (p : Plan). p.sheet) xs ≡ map (λ (p : Plan). p.sheet) ys = cc in
    go (is_same_copy x.sheet copy) (is_same_copy y.sheet copy) (ap (λ c. is_same_copy c copy) sheet) none (same-none copy xs ys rest) where
      go : (b c : Bool) → b ≡ c → cond b (Some x) (plan_of copy xs) ≡ None → (plan_of copy xs ≡ None → plan_of copy ys ≡ None) → cond c (Some y) (plan_of copy ys) ≡ None
      go true c f some later = absurd cc
      go false true f none' later = absurd cc
      go false false f none' later = later none'

pub few-left : (machine : Machine) (plans mid : List Plan) (ask : Ask) → CanAsk machine plans ask → map (λ (p : Plan). p.sheet) mid ≡ map (λ (p : Plan). p.sheet) plans → plan_of ask.sheet mid ≡ None → length mid + 1 < 2 ^ 32
few-left machine plans mid ask can sheets none = go ask.origin can.asked can.has_time where
  long : length mid ≡ length plans
  long = sym (length-map mid (λ (p : Plan). p.sheet)) ∙ ap length sheets ∙ length-map plans (λ (p : Plan). p.sheet)

  go : (o : Origin) → IsAskedFrom machine plans ask o → HasTimeFrom plans ask.now o → length mid + 1 < 2 ^ 32
  go FromFeeder asked time = subst (λ n. n + 1 < 2 ^ 32) (sym long) time
  go (FromFront state end count) asked time = let no = same-none ask.sheet mid plans sheets none in let some = asked.1 in absurd cc

module _ (machine : Machine) (plans : List Plan) (ask : Ask) (can : CanAsk machine plans ask) where
  pub no-plan-told : (told : Record) (later : List Item) → is_other told ≡ false → TellsNoPlan machine plans ask told → DoTellPlan machine plans ask (Note told ∷ later) → ⊥
  no-plan-told told later other none told-it =
      let so = planned-so machine plans ask can.plan_on.legal told later told-it.0 told-it.1.0 (first-is told later other) told-it.1.1 in
      none so.plan so.timed so.told_plan

  module _ (told : Record) (later : List Item) (other : is_other told ≡ false) (plan : Plan) (only : IsOnlyPlan machine plans ask told plan) where
    pub breaks-none : (IsKeptPlan machine ask.now (exempt_of ask) plan → ⊥) → DoTellPlan machine plans ask (Note told ∷ later) → ⊥
    breaks-none breaks told-it = kept-or-none machine plans ask can.plan_on.legal can.named told later (first-is told later other) plan only breaks told-it.0 told-it.1.0 told-it.1.1

    pub tells-moves-too : DoTellPlan machine plans ask (Note told ∷ later) → DoTellMoves machine ask.now (Some ask.sheet) plans later
    tells-moves-too told-it = (can.named, moves-or-none machine plans ask can.plan_on.legal can.named told later (first-is told later other) plan only told-it.0 told-it.1.0 told-it.1.1)

    module _ (mid : List Plan) (taken : ℕ) (takes : TakesMoves machine ask.now (Some ask.sheet) plans mid later taken) (after : List Plan) (is : after ≡ put_plan plan (without plan.sheet mid)) where
      it-of : (told-it : DoTellPlan machine plans ask (Note told ∷ later)) → IsIt machine plans ask can.plan_on.legal can.named told later (first-is told later other) plan only mid taken takes after is told-it.0 told-it.1.0
      it-of told-it = is-it machine plans ask can.plan_on.legal can.named told later (first-is told later other) plan only mid taken takes after is told-it.0 told-it.1.0 told-it.1.1

      pub right-too : DoTellPlan machine plans ask (Note told ∷ later) → IsRight machine plans ask after
      right-too told-it = let it = it-of told-it in subst (IsRight machine plans ask) it.same it.right

      pub tree-too : DoTellPlan machine plans ask (Note told ∷ later) → BeginsWithTree machine plans ask (Earliest (end_of_plan plan)) (drop taken later)
      tree-too told-it = let it = it-of told-it in record { tree = it.tree; later = told-it.1.0; is = it.there; shows = it.shows }

      module _ (right : IsRight machine plans ask after) (begins : BeginsWithTree machine plans ask (Earliest (end_of_plan plan)) (drop taken later)) (before : NoneBefore machine plans ask (end_of_plan plan)) where
        behind : drop ((taken + 1) + 1) (Note told ∷ later) ≡ drop (taken + 1) later
        behind = ap (λ n. drop n (Note told ∷ later)) (more taken) where
          more : (n : ℕ) → (n + 1) + 1 ≡ suc (n + 1)
          more n = omega arith

        one : (reply : Reply) (others : List Plan) (rest : List Item) → Tells machine plans ask (Note told ∷ later) reply others rest → (reply ≡ Planned) × (others ≡ after) × (rest ≡ drop ((taken + 1) + 1) (Note told ∷ later))
        one Planned others rest tells =
            let it = it-only machine plans ask can.plan_on.legal can.named told later (first-is told later other) plan only mid taken takes after is right begins others rest tells in
            (refl, it.0, it.1 ∙ sym behind)
        one Never others rest tells = let e = sym (first-is told later other) ∙ tells.told in let f = only.told_plan.is in absurd cc
        one (Spent bound) others rest tells = let e = sym (first-is told later other) ∙ tells.told in let f = only.told_plan.is in absurd cc

        pub placed : TakesAnswer machine plans ask (Note told ∷ later) Planned after ((taken + 1) + 1)
        placed =
            let few = enough machine plans ask can.plan_on.legal can.named told later (first-is told later other) plan only mid taken takes after is right begins in
            let there = found machine plans ask can.plan_on.legal can.named told later (first-is told later other) plan only mid taken takes after is right begins in
            let same : right.alternative.plan ≡ plan = same_Some right.alternative.plan plan (sym right.alternative.planned ∙ there) in
            record {
              within = omega (arith, few);
              told = subst (Tells machine plans ask (Note told ∷ later) Planned after) (sym behind)
                  (it-tells machine plans ask can.plan_on.legal can.named told later (first-is told later other) plan only mid taken takes after is right begins);
              only = one;
              answer = (record { alternative = right.alternative; first = subst (λ p. NoneBefore machine plans ask (end_of_plan p)) (sym same) before }, right.least);
            }
