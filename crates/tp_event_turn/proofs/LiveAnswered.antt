-- A right answer on the live part, joined with what is past, is right on the whole schedule, and the same is reported.
use Rattle.std.proofs.Common.{◌≡◌, ℕ, Bool, true, false, not, List, ◌++◌, map, filter, refl, sym, ap, ◌∙◌, Contains, subst}
use Rattle.std.proofs.lemmas.Bool.{not-true, not_from_false}
use Rattle.tp_machine.specs.declared.machine.Machine.{Machine}
use Rattle.tp_schedule.specs.Answers.{IsAlternative, IsAsked, IsAskedFrom, IsEarliest, IsLeast, follows_front, kept_of, unmoved}
use Rattle.tp_schedule.specs.Legality.{IsLegal}
use Rattle.tp_schedule.specs.LivePlans.{is_live}
use Rattle.tp_schedule.specs.PlannerAnswers.{IsAnswer}
use Rattle.tp_schedule.specs.Plans.{is_same_copy, plan_of, without}
use Rattle.tp_schedule.specs.SpentBudget.{FewListsOpen, IsSpent}
use Rattle.tp_schedule.specs.declared.parts.Ask.{Ask}
use Rattle.tp_schedule.specs.declared.parts.Origin.{Origin}
use Rattle.tp_schedule.specs.declared.parts.Origin.TheVariants.{Feeder as FromFeeder, Front as FromFront}
use Rattle.tp_schedule.specs.declared.parts.Plan.{Plan}
use Rattle.tp_schedule.specs.declared.parts.Reply.{Reply}
use Rattle.tp_schedule.specs.declared.parts.Reply.TheVariants.{Planned, Never, Spent}
use Rattle.tp_schedule.specs.declared.parts.SheetId.{SheetId}
use Rattle.tp_schedule.proofs.CopyFacts.{same_copy-is}
use Rattle.tp_schedule.proofs.Membership.{Contains-filter_from}
use Rattle.tp_choices.specs.LiveParts.{IsJoined, MayAskBeside, MayForget, less, only}
use Rattle.tp_choices.proofs.RejoinedPlans.{join_exists}
use Rattle.tp_choices.proofs.LiveBounds.{live_has_none, live_is_earliest}
use Rattle.tp_choices.proofs.LiveOrders.{others_of}
use Rattle.tp_choices.proofs.LiveSpent.{live_spends}
use Rattle.tp_choices.proofs.FewLists.{live_has_few}
use Rattle.tp_choices.proofs.LiveTimes.{whole_is_least}
use Rattle.tp_choices.proofs.PlansLeft.{plan_of-staying, without-staying}
use Rattle.tp_event_rules.specs.AnswerRecords.{moves, told_of_planned, told_of_reply}
use Rattle.tp_event_rules.proofs.AnsweredPlans.{other-from, unmoved-sheet}
use Rattle.tp_event_turn.specs.LiveAnswers.{AnswersPassOn, CanAskLive, IsAnswerOnWhole, LiveAnswersHold, LiveBudgetsHold, SpentPassesOn, live_at, spent_of}
use Rattle.tp_event_turn.proofs.LiveAhead.{new-ahead, new-live}
use Rattle.tp_event_turn.proofs.LiveJoined.{each-joined, forgets-joined, live-parts}
use Rattle.tp_event_turn.proofs.LiveMoves.{moves-less}
use Rattle.tp_event_turn.proofs.LivePast.{both-parts, gone-is, gone_at, may-ask, may-forget}

-- on live plans, an alternative joined with what is past
module _ (machine : Machine) (plans : List Plan) (ask : Ask) (gone : SheetId → Bool) (f : MayForget machine ask.now plans gone) (b : MayAskBeside machine plans ask gone)
    (each : (p : Plan) → Contains plans p → gone p.sheet ≡ not (is_live machine ask.now p)) (live new : List Plan) (joined : IsJoined gone plans live new) (a : IsAlternative machine (less gone plans) ask live) where
  asked-stays : not (gone ask.sheet) ≡ true
  asked-stays = not_from_false (gone ask.sheet) b.stays

  asked-live : IsAsked machine (less gone plans) ask
  asked-live = go ask.origin b.asked where
    go : (o : Origin) → IsAskedFrom machine plans ask o → IsAskedFrom machine (less gone plans) ask o
    go FromFeeder none = plan_of-staying (others_of gone) ask.sheet plans asked-stays ∙ none
    go (FromFront state end count) (p, is, front) = (p, plan_of-staying (others_of gone) ask.sheet plans asked-stays ∙ is, front)

  alive : (q : Plan) → Contains live q → is_live machine ask.now q ≡ true
  alive = new-live machine (less gone plans) ask live a asked-live b.ends_ahead (live-parts machine ask.now plans gone each)

  pub each-answered : (p : Plan) → Contains new p → gone p.sheet ≡ not (is_live machine ask.now p)
  each-answered = each-joined machine ask.now plans gone each live new joined alive

  pub forgets-answered : IsLegal machine new → MayForget machine ask.now new gone
  forgets-answered legal = forgets-joined machine ask.now plans gone each live new joined alive f (new-ahead machine (less gone plans) ask live a asked-live b.ends_ahead) legal

  pub least-answered : IsLegal machine new → IsLeast machine ask.now (follows_front ask) live → IsLeast machine ask.now (follows_front ask) new
  least-answered legal least =
      whole_is_least machine ask.now (follows_front ask) new gone
      (forgets-joined machine ask.now plans gone each live new joined alive f (new-ahead machine (less gone plans) ask live a asked-live b.ends_ahead) legal)
      (subst (IsLeast machine ask.now (follows_front ask)) (sym joined.live_part) least)

  pub told-answered : map unmoved (without ask.sheet new) ≡ map unmoved (without ask.sheet plans)
      → told_of_reply machine (less gone plans) ask Planned live ≡ told_of_reply machine plans ask Planned new
  told-answered same =
      let stays : (g : SheetId → Bool) (ps : List Plan) → without ask.sheet (filter (λ p. g p.sheet) ps) ≡ filter (λ p. g p.sheet) (without ask.sheet ps) = λ g ps. without-staying g ask.sheet ps in
      let plan : plan_of ask.sheet live ≡ plan_of ask.sheet new = ap (plan_of ask.sheet) (sym joined.live_part) ∙ plan_of-staying (others_of gone) ask.sheet new asked-stays in
      let past : only gone (without ask.sheet new) ≡ only gone (without ask.sheet plans) = sym (stays gone new) ∙ ap (without ask.sheet) joined.past_part ∙ stays gone plans in
      let moved : moves (without ask.sheet (less gone plans)) (without ask.sheet live) ≡ moves (without ask.sheet plans) (without ask.sheet new) =
      ap (moves (without ask.sheet (less gone plans))) (ap (without ask.sheet) (sym joined.live_part) ∙ stays (others_of gone) new)
      ∙ ap (λ ps. moves ps (less gone (without ask.sheet new))) (stays (others_of gone) plans)
      ∙ moves-less gone (without ask.sheet plans) (without ask.sheet new) same past in
      λ i. told_of_planned machine (kept_of ask) (plan i) ++ moved i

-- the plans of an alternative on the live part are of copies that stay
pub stays-of : (machine : Machine) (plans : List Plan) (ask : Ask) (gone : SheetId → Bool) (live : List Plan) → gone ask.sheet ≡ false → IsAlternative machine (less gone plans) ask live
    → (q : Plan) → Contains live q → gone q.sheet ≡ false
stays-of machine plans ask gone live stays a q in' = go (is_same_copy q.sheet ask.sheet) refl where
  go : (c : Bool) → is_same_copy q.sheet ask.sheet ≡ c → gone q.sheet ≡ false
  go true e = subst (λ c. gone c ≡ false) (sym (same_copy-is q.sheet ask.sheet e)) stays
  go false e =
      let from = other-from machine (less gone plans) ask live a q in' e in
      let there = Contains-filter_from (λ p. not (gone p.sheet)) plans from.0 from.1 in
      subst (λ c. gone c ≡ false) (sym (unmoved-sheet q from.0 from.2)) (not-true (gone from.0.sheet) there.1)

answer-joined : (spent : Machine → List Plan → Ask → ℕ → Type 0) (machine : Machine) (plans : List Plan) (ask : Ask) (live : List Plan) (gone : SheetId → Bool) → MayForget machine ask.now plans gone → MayAskBeside machine plans ask gone
    → ((p : Plan) → Contains plans p → gone p.sheet ≡ not (is_live machine ask.now p))
    → IsEarliest machine (less gone plans) ask live → IsLeast machine ask.now (follows_front ask) live → IsAnswerOnWhole spent machine plans ask Planned live
answer-joined spent machine plans ask live gone f b each earliest least =
    let a = earliest.alternative in
    let join = join_exists gone plans live f.legal.in_order a.legal.in_order (stays-of machine plans ask gone live b.stays a) in
    let whole = live_is_earliest machine plans live join.0 ask gone f b join.1 earliest in
    let before = both-parts machine ask.now gone plans each in
    let after = both-parts machine ask.now gone join.0 (each-answered machine plans ask gone f b each live join.0 join.1 a) in
    record {
      whole = join.0;
      answer = (whole, least-answered machine plans ask gone f b each live join.0 join.1 a whole.alternative.legal least);
      live_part = sym after.0 ∙ join.1.live_part;
      past_part = sym after.1 ∙ join.1.past_part ∙ before.1;
      told = subst (λ ps. told_of_reply machine ps ask Planned live ≡ told_of_reply machine plans ask Planned join.0) before.0
          (told-answered machine plans ask gone f b each live join.0 join.1 a whole.alternative.others);
    }

module _ (machine : Machine) (plans : List Plan) (ask : Ask) (can : CanAskLive machine plans ask) where
  f : MayForget machine ask.now plans (gone_at machine ask.now plans)
  f = may-forget machine ask.now plans can.legal can.floors

  b : MayAskBeside machine plans ask (gone_at machine ask.now plans)
  b = may-ask machine plans ask can

  each : (p : Plan) → Contains plans p → gone_at machine ask.now plans p.sheet ≡ not (is_live machine ask.now p)
  each p in' = gone-is machine ask.now plans can.legal.in_order p in'

  part : live_at machine ask.now plans ≡ less (gone_at machine ask.now plans) plans
  part = sym (both-parts machine ask.now (gone_at machine ask.now plans) plans each).0

  answer-on : (on_live on_whole : Machine → List Plan → Ask → ℕ → Type 0) (live : List Plan) → SpentPassesOn on_live on_whole machine
      → (reply : Reply) → IsAnswer on_live machine (live_at machine ask.now plans) ask reply live → IsAnswerOnWhole on_whole machine plans ask reply live
  answer-on on_live on_whole live on Planned (earliest, least) = answer-joined on_whole machine plans ask live (gone_at machine ask.now plans) f b each (subst (λ ps. IsEarliest machine ps ask live) part earliest) least
  answer-on on_live on_whole live on Never (same, none) = record {
    whole = plans;
    answer = (refl, live_has_none machine plans ask (gone_at machine ask.now plans) f b.stays (subst (λ ps. (other : List Plan) → ¬ IsAlternative machine ps ask other) part none));
    live_part = sym same;
    past_part = refl;
    told = refl;
  }
  answer-on on_live on_whole live on (Spent bound) (same, spent) = record {
    whole = plans;
    answer = (refl, on plans ask bound can spent);
    live_part = sym same;
    past_part = refl;
    told = refl;
  }

  budget-on : (nodes bound : ℕ) → spent_of nodes machine (live_at machine ask.now plans) ask bound → spent_of nodes machine plans ask bound
  budget-on nodes bound spent = live_spends machine plans ask (gone_at machine ask.now plans) nodes bound f b (subst (λ ps. IsSpent machine ps ask nodes bound) part spent)

  -- where few lists are open on the live part, few are on the whole schedule
  pub few-on : (most : ℕ) → FewListsOpen machine (live_at machine ask.now plans) ask most → FewListsOpen machine plans ask most
  few-on most few = live_has_few machine plans ask (gone_at machine ask.now plans) most f b (subst (λ ps. FewListsOpen machine ps ask most) part few)

pub answers-pass_on : AnswersPassOn
answers-pass_on on_live on_whole machine plans ask reply live on can answer = answer-on machine plans ask can on_live on_whole live on reply answer

pub live-budgets_hold : LiveBudgetsHold
live-budgets_hold nodes machine plans ask bound can spent = budget-on machine plans ask can nodes bound spent

pub live-answers_hold : LiveAnswersHold
live-answers_hold nodes machine plans ask reply live can answer =
    answers-pass_on (spent_of nodes) (spent_of nodes) machine plans ask reply live (live-budgets_hold nodes machine) can answer
