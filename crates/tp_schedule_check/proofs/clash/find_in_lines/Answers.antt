use Rattle.std.proofs.Common.{◌∙◌, ap, sym, find, refl}
use Rattle.tp_schedule.proofs.LawFacts.{one_holder_is_apart}
use Rattle.tp_schedule_check.specs.Clashes.{is_late}
use Rattle.tp_schedule_check.proofs.LineFacts.{late-illegal, late-of, rise-in-time}
use Rattle.tp_schedule_check.proofs.clash.find_in_lines.Goals as goal

pub returns-in-Some-clause-legal : goal.returns-in-Some-clause-legal
returns-in-Some-clause-legal c =
    let plans = c.args.schedule.now.plans in
    let pair = c.in-Some.pair in
    let is = sym (c.in-Some.ensures ∙ ap (find is_late) (c.as_slice.ensures.value ∙ c.in_ok-pairs.ensures)) in
    (λ e. absurd cc, λ legal. absurd (late-illegal c.args.machine.now plans pair.0.sheet pair.1.sheet pair.0.tick pair.1.tick (late-of plans c.requires.in_order pair is) legal))

pub returns-in-Some-clause-clash : goal.returns-in-Some-clause-clash
returns-in-Some-clause-clash c =
    let is = sym (c.in-Some.ensures ∙ ap (find is_late) (c.as_slice.ensures.value ∙ c.in_ok-pairs.ensures)) in
    late-of c.args.schedule.now.plans c.requires.in_order c.in-Some.pair is

pub returns-clause-legal : goal.returns-clause-legal
returns-clause-legal c =
    let machine = c.args.machine.now in
    let plans = c.args.schedule.now.plans in
    let is = sym (c.in-None.ensures ∙ ap (find is_late) (c.as_slice.ensures.value ∙ c.in_ok-pairs.ensures)) in (
      λ e. record {
        in_order = c.requires.in_order;
        timed = c.requires.timed;
        single = λ r tick. ((one_holder_is_apart machine plans r c.requires.in_order c.requires.timed).1 (c.requires.apart r)).0 tick;
        spread = λ r tick. ((one_holder_is_apart machine plans r c.requires.in_order c.requires.timed).1 (c.requires.apart r)).1 tick;
        rise = rise-in-time plans c.requires.in_order is;
      },
      λ legal. refl,
    )
