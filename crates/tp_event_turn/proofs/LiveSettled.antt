-- Times that are settled on the live part, joined with what is past, are settled on the whole schedule, and the same is reported.
use Rattle.std.proofs.Common.{◌≡◌, ℕ, Bool, false, not, List, refl, sym, ap, ◌∙◌, Contains, subst}
use Rattle.std.proofs.lemmas.Bool.{not-true}
use Rattle.std.proofs.lemmas.List.Elements.{All-filter}
use Rattle.tp_machine.specs.declared.machine.Machine.{Machine}
use Rattle.tp_schedule.specs.Answers.{IsLeast, IsRetimed}
use Rattle.tp_schedule.specs.LivePlans.{is_live}
use Rattle.tp_schedule.specs.PlannerAnswers.{IsSettled, none_exempt}
use Rattle.tp_schedule.specs.Plans.{IsTimedPlan}
use Rattle.tp_schedule.specs.declared.parts.Plan.{Plan}
use Rattle.tp_schedule.specs.declared.parts.SheetId.{SheetId}
use Rattle.tp_schedule.proofs.Membership.{Contains-filter_from}
use Rattle.tp_choices.specs.LiveParts.{MayForget, less}
use Rattle.tp_choices.proofs.RejoinedPlans.{join_exists}
use Rattle.tp_choices.proofs.LiveTimes.{live_retimes, whole_is_least}
use Rattle.tp_choices.proofs.Unmoved.{unmoved-found}
use Rattle.tp_event_rules.specs.AnswerRecords.{moves}
use Rattle.tp_event_turn.specs.LiveAnswers.{IsSettledOnWhole, LiveSettlesHold}
use Rattle.tp_event_turn.proofs.LiveAhead.{retimed-ahead, retimed-live}
use Rattle.tp_event_turn.proofs.LiveJoined.{each-joined, forgets-joined, live-parts}
use Rattle.tp_event_turn.proofs.LiveMoves.{moves-less}
use Rattle.tp_event_turn.proofs.LivePast.{both-parts, gone-is, gone_at, may-forget}

-- the plans of a retimed live part are of copies that stay
pub stays-of : (machine : Machine) (now : ℕ) (plans live : List Plan) (gone : SheetId → Bool) → IsRetimed machine now none_exempt (less gone plans) live
    → (q : Plan) → Contains live q → gone q.sheet ≡ false
stays-of machine now plans live gone r q in' =
    let found = unmoved-found (less gone plans) live q (sym r.same) in' in
    let there = Contains-filter_from (λ p. not (gone p.sheet)) plans found.0 found.1 in
    subst (λ c. gone c ≡ false) (ap (λ (p : Plan). p.sheet) found.2) (not-true (gone found.0.sheet) there.1)

settled-joined : (machine : Machine) (now : ℕ) (plans live : List Plan) (gone : SheetId → Bool) → MayForget machine now plans gone
    → ((p : Plan) → Contains plans p → gone p.sheet ≡ not (is_live machine now p)) → IsSettled machine now (less gone plans) live → IsSettledOnWhole machine now plans live
settled-joined machine now plans live gone f each settled =
    let r = settled.retimed in
    let join = join_exists gone plans live f.legal.in_order r.legal.in_order (stays-of machine now plans live gone r) in
    let whole = live_retimes machine now none_exempt plans live join.0 gone f (λ p points. refl) (λ p in' e. absurd (cc)) join.1 r in
    let timed = All-filter (λ p. not (gone p.sheet)) (IsTimedPlan machine) plans f.legal.timed in
    let alive = retimed-live machine now (less gone plans) live timed r (live-parts machine now plans gone each) in
    let before = both-parts machine now gone plans each in
    let after = both-parts machine now gone join.0 (each-joined machine now plans gone each live join.0 join.1 alive) in
    record {
      whole = join.0;
      settles = record {
        retimed = whole;
        least = whole_is_least machine now none_exempt join.0 gone
            (forgets-joined machine now plans gone each live join.0 join.1 alive f (retimed-ahead machine now (less gone plans) live timed r) whole.legal)
            (subst (IsLeast machine now none_exempt) (sym join.1.live_part) settled.least);
      };
      live_part = sym after.0 ∙ join.1.live_part;
      past_part = sym after.1 ∙ join.1.past_part ∙ before.1;
      told = ap (λ ps. moves ps live) (sym before.0) ∙ ap (moves (less gone plans)) (sym join.1.live_part) ∙ moves-less gone plans join.0 whole.same join.1.past_part;
    }

pub live-settles_hold : LiveSettlesHold
live-settles_hold machine now plans live legal floors settled =
    let each = gone-is machine now plans legal.in_order in
    settled-joined machine now plans live (gone_at machine now plans) (may-forget machine now plans legal floors) each
    (subst (λ ps. IsSettled machine now ps live) (sym (both-parts machine now (gone_at machine now plans) plans each).0) settled)
