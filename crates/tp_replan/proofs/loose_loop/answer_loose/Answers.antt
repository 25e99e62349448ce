-- The ask that is due can be put, and what follows it is reported and done.
use Rattle.std.proofs.Common.{[], IsSomeAnd, sym, subst}
use Rattle.tp_schedule.specs.Plans.{IsTimedPlan, plan_of}
use Rattle.tp_schedule.specs.PlannerAnswers.{IsAnswer}
use Rattle.tp_schedule.specs.declared.parts.Plan.{Plan}
use Rattle.std.specs.Prelude.{List}
use Rattle.tp_event_rules.specs.LiveStates.{seen}
use Rattle.tp_event_rules.specs.Loops.{after_reply, not_planned}
use Rattle.tp_event_rules.specs.Planners.{right_steps}
use Rattle.tp_replan.specs.Meanings.{Leads}
use Rattle.tp_replan.specs.Open.{CanFall}
use Rattle.tp_replan.specs.Displacement.{CanGiveUp}
use Rattle.tp_replan.proofs.AnswerSteps.{answered-with, asked-known, asked-timed, planned-timed, refused-leads, refused-stays}
use Rattle.tp_replan.proofs.GivesUp.{asked-can_give_up}
use Rattle.tp_replan.proofs.InLoop.{due-ask}
use Rattle.tp_replan.proofs.loose_loop.answer_loose.Goals as goal

pub ask_planner-requires-clause-can_ask : goal.ask_planner-requires-clause-can_ask
ask_planner-requires-clause-can_ask g c =
    due-ask c.args.machine.now (seen c.args.state.now) c.args.ask.now c.requires.can c.requires.is_due

pub release-requires-clause-planned : goal.release-requires-clause-planned
release-requires-clause-planned g c =
    let m = c.args.machine.now in
    let plans = c.args.state.now.schedule.plans in
    let ask = c.args.ask.now in
    let plans' = c.ask_planner.new.schedule.plans in
    planned-timed m plans ask plans'
    (subst (λ r. IsAnswer (g.P.Planner.rules.spent c.args.planner.now) m plans ask r plans') c.in-Planned.is c.in_ok-ask_planner.ensures.answers.0).0.alternative

pub release-requires-clause-job : goal.release-requires-clause-job
release-requires-clause-job g c =
    asked-known c.args.machine.now (seen c.args.state.now) c.args.ask.now c.requires.can c.requires.is_due

pub not_planned-requires : goal.not_planned-requires
not_planned-requires g c =
    let m = c.args.machine.now in
    let s = seen c.args.state.now in
    let ask = c.args.ask.now in
    let same = sym (refused-stays (g.P.Planner.rules.spent c.args.planner.now) m s.plans ask c.in_ok-ask_planner.field-0
    c.ask_planner.new.schedule.plans c.in_ok-ask_planner.ensures.answers.0 c.in-Never.is) in
    record {
      planned = subst (λ ps. IsSomeAnd (plan_of ask.sheet ps) (IsTimedPlan m)) same (asked-timed m s ask c.requires.can c.requires.is_due);
      known = asked-known m s ask c.requires.can c.requires.is_due;
      can = subst (λ (ps : List Plan). CanFall (record s { plans = ps }) []) same c.requires.can.fall;
      can_give = λ tray. subst (λ (ps : List Plan). CanGiveUp ask (record s { plans = ps })) same
          (asked-can_give_up m s ask c.requires.can c.requires.is_due tray);
    }

pub returns-in-Ok-clause-answered : goal.returns-in-Ok-clause-answered
returns-in-Ok-clause-answered g c =
    let m = c.args.machine.now in
    let s = seen c.args.state.now in
    let t = seen c.release.new.state in
    let ask = c.args.ask.now in
    let plans = c.ask_planner.new.schedule.plans in
    let notes = c.ask_planner.new.notes.items in
    answered-with (right_steps g.P.Planner.rules m) m s c.args.planner.now
    c.args.notes.now.items ask c.in_ok-ask_planner.field-0 plans c.ask_planner.new.planner notes c.release.new.notes.items t
    c.requires.is_due c.in_ok-ask_planner.ensures.answers c.in_ok-ask_planner.ensures.told
    (subst (λ r. Leads (after_reply m ask r plans s) notes c.release.new.notes.items t) (sym c.in-Planned.is)
    (record { told = c.in-Ok.ensures.told; state = c.in-Ok.ensures.state }))

pub returns-in-Ok-not_planned : goal.returns-in-Ok-not_planned
returns-in-Ok-not_planned g c =
    let m = c.args.machine.now in
    let s = seen c.args.state.now in
    let t = seen c.not_planned.new.state in
    let ask = c.args.ask.now in
    let plans = c.ask_planner.new.schedule.plans in
    let notes = c.ask_planner.new.notes.items in
    let last = c.not_planned.new.notes.items in
    let same = refused-stays (g.P.Planner.rules.spent c.args.planner.now) m s.plans ask c.in_ok-ask_planner.field-0 plans
    c.in_ok-ask_planner.ensures.answers.0 c.in-Never.is in
    let leads = subst (λ (ps : List Plan). Leads (not_planned m ask ask.goal (record s { plans = ps })) notes last t) same c.in-Ok-not_planned.ensures.leads in
    record {
      answered =
          answered-with (right_steps g.P.Planner.rules m) m s c.args.planner.now
          c.args.notes.now.items ask c.in_ok-ask_planner.field-0 plans c.ask_planner.new.planner notes last t
          c.requires.is_due c.in_ok-ask_planner.ensures.answers c.in_ok-ask_planner.ensures.told
          (refused-leads m s ask c.in_ok-ask_planner.field-0 plans notes last t c.in-Never.is leads);
      stopped = λ e. absurd cc;
      keeps = record {
        stops_only = tt;
        counted = c.in_ok-ask_planner.ensures.keeps.counted;
        still_serves = c.in_ok-ask_planner.ensures.keeps.still_serves;
        lasts = c.in_ok-ask_planner.ensures.keeps.lasts;
      };
      marked = c.in-Ok-not_planned.ensures.marked;
    }
