-- A right answer on the whole schedule is right on its live part, and the same is reported.
use Rattle.std.proofs.Common.{◌≡◌, ℕ, ◌<◌, Bool, true, not, nat_lt, List, refl, sym, ap, ◌∙◌, arith, Contains, subst}
use Rattle.std.proofs.lemmas.Bool.{and_parts}
use Rattle.std.proofs.lemmas.Bool.Decides.{nat_tests}
use Rattle.std.proofs.lemmas.List.Elements.{All-filter}
use Rattle.tp_machine.specs.declared.machine.Machine.{Machine}
use Rattle.tp_schedule.specs.Answers.{IsAlternative, IsEarliest, IsLeast, NoneBefore, follows_front, kept_of}
use Rattle.tp_schedule.specs.LivePlans.{is_live}
use Rattle.tp_schedule.specs.PlannerAnswers.{IsAnswer, IsSettled, none_exempt}
use Rattle.tp_schedule.specs.Plans.{IsTimedPlan, end_of_plan, is_same_copy}
use Rattle.tp_schedule.specs.declared.parts.Ask.{Ask}
use Rattle.tp_schedule.specs.declared.parts.Plan.{Plan}
use Rattle.tp_schedule.specs.declared.parts.Reply.{Reply}
use Rattle.tp_schedule.specs.declared.parts.Reply.TheVariants.{Planned, Never, Spent}
use Rattle.tp_schedule.specs.declared.parts.SheetId.{SheetId}
use Rattle.tp_choices.specs.LiveParts.{MayAskBeside, MayForget, less}
use Rattle.tp_choices.proofs.RejoinedPlans.{join_exists, live_is_least}
use Rattle.tp_choices.proofs.LiveAnswers.{live_answers}
use Rattle.tp_choices.proofs.WholeAnswers.{whole_answers, whole_retimes}
use Rattle.tp_event_rules.proofs.AnsweredPlans.{mine-is}
use Rattle.tp_event_rules.specs.AnswerRecords.{moves, told_of_reply}
use Rattle.tp_event_turn.specs.LiveAnswers.{AnswersPassBack, CanAskLive, IsAnswerOnLive, IsSettledOnLive, SpentPassesBack, WholeSettlesHold, live_at, past_at}
use Rattle.tp_event_turn.proofs.LiveAhead.{retimed-ahead, retimed-live}
use Rattle.tp_event_turn.proofs.LiveAnswered.{each-answered, forgets-answered, stays-of, told-answered}
use Rattle.tp_event_turn.proofs.LiveJoined.{each-joined, forgets-joined, live-parts}
use Rattle.tp_event_turn.proofs.LiveMoves.{moves-less}
use Rattle.tp_event_turn.proofs.LivePast.{both-parts, gone-is, gone_at, may-ask, may-forget}

module _ (machine : Machine) (plans : List Plan) (ask : Ask) (gone : SheetId → Bool) (f : MayForget machine ask.now plans gone) (b : MayAskBeside machine plans ask gone)
    (each : (p : Plan) → Contains plans p → gone p.sheet ≡ not (is_live machine ask.now p)) where
  -- an alternative on the live part ends as one on the whole does
  pub on-whole : (other : List Plan) (c : IsAlternative machine (less gone plans) ask other) → (new : List Plan) × ((d : IsAlternative machine plans ask new) × (d.plan ≡ c.plan))
  on-whole other c =
      let join = join_exists gone plans other f.legal.in_order c.legal.in_order (stays-of machine plans ask gone other b.stays c) in
      (join.0, live_answers machine plans other join.0 ask gone f b join.1 c)

  planned-back : (spent : Machine → List Plan → Ask → ℕ → Type 0) (whole : List Plan) → IsEarliest machine plans ask whole → IsLeast machine ask.now (follows_front ask) whole → IsAnswerOnLive spent machine plans ask Planned whole
  planned-back spent whole earliest least =
      let a = earliest.alternative in
      let back = whole_answers machine plans whole ask gone f b.stays a in
      let joined = back.0 in
      let live = back.1.0 in
      let before = both-parts machine ask.now gone plans each in
      let after = both-parts machine ask.now gone whole (each-answered machine plans ask gone f b each (less gone whole) whole joined live) in
      let forgets = forgets-answered machine plans ask gone f b each (less gone whole) whole joined live a.legal in
      let released : (p : Plan) → Contains whole p → follows_front ask p ≡ true → 0 < p.released = λ p in' e.
      let parts = and_parts (is_same_copy p.sheet ask.sheet) (nat_lt 0 (kept_of ask)) e in
      let some : 0 < kept_of ask = positive (kept_of ask) parts.1 in
      subst (λ (q : Plan). 0 < q.released) (sym (mine-is machine plans ask whole a p in' parts.0)) (subst (λ n. 0 < n) (sym a.answers.released) some) in
      let first : NoneBefore machine (less gone plans) ask (end_of_plan live.plan) = λ other c.
      let on = on-whole other c in
      let sooner = earliest.first on.0 on.1.0 in
      let one : end_of_plan live.plan ≡ end_of_plan a.plan = ap end_of_plan back.1.1 in
      let two : end_of_plan on.1.0.plan ≡ end_of_plan c.plan = ap end_of_plan on.1.1 in
      omega arith in
      record {
        answer = subst (λ ps. IsAnswer spent machine ps ask Planned (live_at machine ask.now whole)) before.0
            (subst (λ ps. IsAnswer spent machine (less gone plans) ask Planned ps) after.0
            (record { alternative = live; first = first }, live_is_least machine ask.now (follows_front ask) whole gone forgets (λ p points. refl) released least));
        past_part = sym after.1 ∙ joined.past_part ∙ before.1;
        told = subst (λ ps. told_of_reply machine ps ask Planned (live_at machine ask.now whole) ≡ told_of_reply machine plans ask Planned whole) before.0
            (subst (λ ps. told_of_reply machine (less gone plans) ask Planned ps ≡ told_of_reply machine plans ask Planned whole) after.0
            (told-answered machine plans ask gone f b each (less gone whole) whole joined live a.others));
      } where
        positive : (n : ℕ) → nat_lt 0 n ≡ true → 0 < n
        positive n e = grind (arith, nat_tests)

module _ (machine : Machine) (plans : List Plan) (ask : Ask) (can : CanAskLive machine plans ask) where
  f : MayForget machine ask.now plans (gone_at machine ask.now plans)
  f = may-forget machine ask.now plans can.legal can.floors

  b : MayAskBeside machine plans ask (gone_at machine ask.now plans)
  b = may-ask machine plans ask can

  each : (p : Plan) → Contains plans p → gone_at machine ask.now plans p.sheet ≡ not (is_live machine ask.now p)
  each p in' = gone-is machine ask.now plans can.legal.in_order p in'

  part : live_at machine ask.now plans ≡ less (gone_at machine ask.now plans) plans
  part = sym (both-parts machine ask.now (gone_at machine ask.now plans) plans each).0

  answer-back : (on_live on_whole : Machine → List Plan → Ask → ℕ → Type 0) (whole : List Plan) → SpentPassesBack on_live on_whole machine
      → (reply : Reply) → IsAnswer on_whole machine plans ask reply whole → IsAnswerOnLive on_live machine plans ask reply whole
  answer-back on_live on_whole whole back Planned (earliest, least) = planned-back machine plans ask (gone_at machine ask.now plans) f b each on_live whole earliest least
  answer-back on_live on_whole whole back Never (same, none) = record {
    answer = (
      ap (live_at machine ask.now) same,
      λ other c. let on = on-whole machine plans ask (gone_at machine ask.now plans) f b each other (subst (λ ps. IsAlternative machine ps ask other) part c) in none on.0 on.1.0,
    );
    past_part = ap (past_at machine ask.now) same;
    told = refl;
  }
  answer-back on_live on_whole whole back (Spent bound) (same, spent) = record {
    answer = (ap (live_at machine ask.now) same, back plans ask bound can spent);
    past_part = ap (past_at machine ask.now) same;
    told = refl;
  }

pub answers-pass_back : AnswersPassBack
answers-pass_back on_live on_whole machine plans ask reply whole back can answer = answer-back machine plans ask can on_live on_whole whole back reply answer

settled-back : (machine : Machine) (now : ℕ) (plans whole : List Plan) (gone : SheetId → Bool) → MayForget machine now plans gone → ((p : Plan) → Contains plans p → gone p.sheet ≡ not (is_live machine now p))
    → IsSettled machine now plans whole → IsSettledOnLive machine now plans whole
settled-back machine now plans whole gone f each settled =
    let back = whole_retimes machine now none_exempt plans whole gone f settled.retimed in
    let joined = back.0 in
    let r = back.1 in
    let timed = All-filter (λ p. not (gone p.sheet)) (IsTimedPlan machine) plans f.legal.timed in
    let alive = retimed-live machine now (less gone plans) (less gone whole) timed r (live-parts machine now plans gone each) in
    let before = both-parts machine now gone plans each in
    let after = both-parts machine now gone whole (each-joined machine now plans gone each (less gone whole) whole joined alive) in
    let forgets = forgets-joined machine now plans gone each (less gone whole) whole joined alive f (retimed-ahead machine now (less gone plans) (less gone whole) timed r) settled.retimed.legal in
    record {
      settles = subst (λ ps. IsSettled machine now ps (live_at machine now whole)) before.0
          (subst (λ ps. IsSettled machine now (less gone plans) ps) after.0
          (record { retimed = r; least = live_is_least machine now none_exempt whole gone forgets (λ p points. refl) (λ p in' e. absurd (cc)) settled.least }));
      past_part = sym after.1 ∙ joined.past_part ∙ before.1;
      told = ap (λ ps. moves ps (live_at machine now whole)) (sym before.0) ∙ ap (moves (less gone plans)) (sym after.0) ∙ moves-less gone plans whole settled.retimed.same joined.past_part;
    }

pub whole-settles_hold : WholeSettlesHold
whole-settles_hold machine now plans whole legal floors settled =
    settled-back machine now plans whole (gone_at machine now plans) (may-forget machine now plans legal floors) (gone-is machine now plans legal.in_order) settled
