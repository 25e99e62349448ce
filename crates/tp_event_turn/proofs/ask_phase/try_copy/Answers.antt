-- The copy is reported full, or it is asked, and waits no more where it is planned.
use Rattle.std.proofs.Common.{◌≡◌, ◌∙◌, ◌+◌, inl, inr, true, false, refl, sym, ap}
use Rattle.tp_event_rules.specs.LiveStates.{seen}
use Rattle.tp_event_rules.specs.Planners.{right_steps}
use Rattle.tp_event_rules.specs.Ready.{last_copy}
use Rattle.tp_event_turn.specs.Phases.{is_planned}
use Rattle.tp_event_turn.proofs.TurnFacts.{can-ask-made, full-turn, asked-turn, after-planned, after-refused, refused-stays}
use Rattle.tp_event_turn.proofs.ask_phase.try_copy.Goals as goal

pub returns-then-is_full-clause-tried : goal.returns-then-is_full-clause-tried
returns-then-is_full-clause-tried g c =
    let s = seen c.args.state.now in
    full-turn (right_steps g.P.Planner.rules c.args.machine.now) c.args.machine.now s c.args.planner.now c.args.copy c.args.notes.now.items _
    c.name_of.result c.label-sheet.result c.requires.waits c.name_of.ensures c.label-sheet.ensures
    (sym c.is_full.ensures ∙ c.if-is_full.true) c.in-Ok.ensures

pub ask_copy-requires-clause-can_ask : goal.ask_copy-requires-clause-can_ask
ask_copy-requires-clause-can_ask g c =
    let s = seen c.args.state.now in
    can-ask-made c.args.machine.now (last_copy + 1) s c.args.copy c.make_ask-ask.result c.requires.can c.requires.waits c.make_ask-ask.ensures
    (sym c.is_full.ensures ∙ c.if-is_full.false)

pub returns-in-Planned-clause-tried : goal.returns-in-Planned-clause-tried
returns-in-Planned-clause-tried g c =
    let s = seen c.args.state.now in
    asked-turn (right_steps g.P.Planner.rules c.args.machine.now) c.args.machine.now s c.args.planner.now c.args.copy c.args.notes.now.items c.ask_copy.new.notes.items
    c.make_ask-ask.result c.in_ok-ask_copy.field-0 true _ c.ask_copy.new.planner c.requires.waits c.make_ask-ask.ensures
    (sym c.is_full.ensures ∙ c.if-is_full.false)
    c.in_ok-ask_copy.ensures.answers c.in_ok-ask_copy.ensures.told
    (sym (ap is_planned c.in-Planned.is))
    (after-planned s c.args.state.now.lines.kept c.args.copy c.in_ok-ask_copy.field-0 c.ask_copy.new.schedule.plans c.taken.new.self c.in-Planned.is c.taken.ensures)

pub returns-in-Never : goal.returns-in-Never
returns-in-Never g c =
    let s = seen c.args.state.now in
    let refused : is_planned c.in_ok-ask_copy.field-0 ≡ false = elim c.in-Never.is [
      | inl never ↦ ap is_planned never
      | inr spent ↦ ap is_planned spent.1
    ] in
    record {
      tried =
          asked-turn (right_steps g.P.Planner.rules c.args.machine.now) c.args.machine.now s c.args.planner.now c.args.copy c.args.notes.now.items c.ask_copy.new.notes.items
          c.make_ask-ask.result c.in_ok-ask_copy.field-0 false _ c.ask_copy.new.planner c.requires.waits c.make_ask-ask.ensures
          (sym c.is_full.ensures ∙ c.if-is_full.false)
          c.in_ok-ask_copy.ensures.answers c.in_ok-ask_copy.ensures.told
          (sym refused)
          (λ w same. after-refused s c.in_ok-ask_copy.field-0 c.ask_copy.new.schedule.plans refused
          (refused-stays (g.P.Planner.rules.spent c.args.planner.now) c.args.machine.now s.plans c.make_ask-ask.result
          c.in_ok-ask_copy.field-0 c.ask_copy.new.schedule.plans c.in_ok-ask_copy.ensures.answers.0 refused) w);
      left = c.in_ok-ask_copy.ensures.left;
      stopped = λ e. absurd (cc);
      keeps = record {
        stops_only = tt;
        counted = c.in_ok-ask_copy.ensures.keeps.counted;
        still_serves = c.in_ok-ask_copy.ensures.keeps.still_serves;
        lasts = c.in_ok-ask_copy.ensures.keeps.lasts;
      };
      marked = refl;
      refills = refl;
    }
