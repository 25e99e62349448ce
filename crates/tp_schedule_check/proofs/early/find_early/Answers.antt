use Rattle.std.proofs.Common.{◌∙◌, ◌+◌, ap, subst, sym, length}
use Rattle.std.specs.Prelude.{MatchOption, vec_len}
use Rattle.tp_schedule.specs.Spots.{ticks_of}
use Rattle.tp_constraints.specs.Laws.{IsLoadable, plans_gaps}
use Rattle.tp_constraints.specs.Numbers.{table_of}
use Rattle.tp_schedule_check.specs.Early.{AreMarked, IsUnmarkedAt, is_exempt}
use Rattle.tp_schedule_check.specs.Marks.{IsSpread}
use Rattle.tp_schedule_check.proofs.EarlyFacts.{exempt-ignores, found-early, found-least, steps-within}
use Rattle.tp_schedule_check.proofs.NumberFacts.{marks-count, table-count}
use Rattle.tp_schedule_check.proofs.early.find_early.Goals as goal

pub spread-requires : goal.spread-requires
spread-requires c =
    let machine = c.args.machine.now in
    let plans = c.args.schedule.now.plans in
    steps-within (table_of plans) (ticks_of plans) (plans_gaps machine plans) c.in_ok-steps.steps.items (vec_len c.in_ok-marks.marks)
    (table-count plans ∙ sym (ap length c.in_ok-marks.ensures ∙ marks-count (c.args.now + machine.lead) (is_exempt c.args.exempt) plans) ∙ sym c.in_ok-marks.marks.ok.0) c.in_ok-steps.ensures

pub find_unmarked-requires : goal.find_unmarked-requires
find_unmarked-requires c =
    ap length c.as_slice.ensures.value ∙ c.in_ok-spread.ensures.count ∙ ap length c.in_ok-marks.ensures ∙ marks-count (c.args.now + c.args.machine.now.lead) (is_exempt c.args.exempt) c.args.schedule.now.plans

pub returns-clause-least : goal.returns-clause-least
returns-clause-least c =
    let machine = c.args.machine.now in
    let plans = c.args.schedule.now.plans in
    let exempt = is_exempt c.args.exempt in
    let after = c.spread.new.marks.items in
    let load : IsLoadable machine c.args.now exempt plans = record { legal = c.requires.legal; floors = c.requires.floors } in
    found-least machine c.args.now exempt plans load (exempt-ignores c.args.exempt) c.requires.horizon c.in_ok-steps.steps.items c.in_ok-steps.ensures after
    (subst (λ ms. IsSpread c.in_ok-steps.steps.items ms after) c.in_ok-marks.ensures c.in_ok-spread.ensures) c.find_unmarked.result
    (subst (λ ms. MatchOption c.find_unmarked.result (AreMarked ms 0 plans) (IsUnmarkedAt ms 0 plans)) c.as_slice.ensures.value c.find_unmarked.ensures)

pub returns-clause-early : goal.returns-clause-early
returns-clause-early c =
    let machine = c.args.machine.now in
    let plans = c.args.schedule.now.plans in
    let exempt = is_exempt c.args.exempt in
    let after = c.spread.new.marks.items in
    let load : IsLoadable machine c.args.now exempt plans = record { legal = c.requires.legal; floors = c.requires.floors } in
    found-early machine c.args.now exempt plans load (exempt-ignores c.args.exempt) c.requires.horizon c.in_ok-steps.steps.items c.in_ok-steps.ensures after
    (subst (λ ms. IsSpread c.in_ok-steps.steps.items ms after) c.in_ok-marks.ensures c.in_ok-spread.ensures) c.find_unmarked.result
    (subst (λ ms. MatchOption c.find_unmarked.result (AreMarked ms 0 plans) (IsUnmarkedAt ms 0 plans)) c.as_slice.ensures.value c.find_unmarked.ensures)
