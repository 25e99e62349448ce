use Rattle.std.proofs.Common.{◌≡◌, ◌∙◌, ◌++◌, ap, subst, sym, flat_map, append_assoc}
use Rattle.tp_schedule.specs.Spots.{ticks_of}
use Rattle.tp_constraints.specs.Laws.{plans_gaps}
use Rattle.tp_constraints.specs.Numbers.{table_of}
use Rattle.tp_schedule_check.specs.Early.{AreTightSteps, chain_steps, pair_steps, plans_steps}
use Rattle.tp_schedule_check.specs.Lines.{line_pairs}
use Rattle.tp_schedule_check.proofs.EarlyFacts.{gathered-tight}
use Rattle.tp_schedule_check.proofs.early.tight_steps.Goals as goal

pub returns : goal.returns
returns c =
    let machine = c.args.machine.now in
    let plans = c.args.schedule.now.plans in
    let holds = c.in_ok-holds.holds.items in
    let durations = plans_steps machine 0 plans in
    let lines = flat_map pair_steps (line_pairs 0 plans) in
    let v = c.as_slice.ensures.value ∙ c.in_ok-pairs.ensures in
    let w = c.as_slice-2.ensures.value in
    let d : c.add_durations.new.steps.items ≡ durations = c.in_ok-add_durations.ensures ∙ ap (λ xs. xs ++ durations) c.new-steps.ensures.items in
    let l : c.add_lines.new.steps.items ≡ durations ++ lines = c.in_ok-add_lines.ensures ∙ (λ i. d i ++ flat_map pair_steps (v i)) in
    let e : c.add_chains.new.steps.items ≡ (durations ++ lines) ++ chain_steps machine holds = c.in_ok-add_chains.ensures ∙ (λ i. l i ++ chain_steps machine (w i)) in
    subst (AreTightSteps (table_of plans) (ticks_of plans) (plans_gaps machine plans)) (sym (e ∙ append_assoc durations lines (chain_steps machine holds)))
    (gathered-tight machine plans c.requires holds c.in_ok-holds.ensures.moved c.in_ok-holds.ensures.sorted)
