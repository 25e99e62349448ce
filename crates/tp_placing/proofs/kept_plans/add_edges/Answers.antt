use Rattle.std.proofs.Common.{◌++◌, [], append-nil, refl, sym, length, arith}
use Rattle.tp_placing.specs.Causes.{step_causes}
use Rattle.tp_placing.specs.LoadedNet.{plans_edges, lines_edges, chains_edges, holds_on}
use Rattle.tp_placing.proofs.LoadEdges.{first-fits, rest-left}
use Rattle.tp_placing.proofs.kept_plans.add_edges.Goals as goal

pub add_durations-requires-clause-space : goal.add_durations-requires-clause-space
add_durations-requires-clause-space c =
    let plans = plans_edges c.args.machine.now 0 c.args.plans.now in
    let timelines = lines_edges 0 c.args.plans.now in
    let chains = chains_edges c.args.machine.now step_causes (holds_on c.args.held.now c.args.timelines.now.orders) (length c.args.machine.now.resources) in
    let base = c.args.edges.now in
    first-fits base.items base.items plans (timelines ++ chains) _ _ _ _ _ _ base.ok.0 base.ok.0 refl refl c.requires.space (omega arith)

pub add_lines-requires-clause-space : goal.add_lines-requires-clause-space
add_lines-requires-clause-space c =
    let plans = plans_edges c.args.machine.now 0 c.args.plans.now in
    let timelines = lines_edges 0 c.args.plans.now in
    let chains = chains_edges c.args.machine.now step_causes (holds_on c.args.held.now c.args.timelines.now.orders) (length c.args.machine.now.resources) in
    let base = c.args.edges.now in
    let a = c.add_durations.ensures in
    let left = rest-left base.items _ plans (timelines ++ chains) _ _ a.added refl refl in
    first-fits _ base.items timelines chains _ _ _ _ _ _ c.add_durations.new.edges.ok.0 base.ok.0 left refl c.requires.space a.space

pub add_chains-requires-clause-space : goal.add_chains-requires-clause-space
add_chains-requires-clause-space c =
    let plans = plans_edges c.args.machine.now 0 c.args.plans.now in
    let timelines = lines_edges 0 c.args.plans.now in
    let chains = chains_edges c.args.machine.now step_causes (holds_on c.args.held.now c.args.timelines.now.orders) (length c.args.machine.now.resources) in
    let base = c.args.edges.now in
    let a = c.add_durations.ensures in
    let b = c.add_lines.ensures in
    let left = rest-left _ _ timelines chains _ _ b.added refl (rest-left base.items _ plans (timelines ++ chains) _ _ a.added refl refl) in
    let wide = a.space in
    let wider = b.space in
    rw (c.len.ensures.len, c.requires.causes) (first-fits _ base.items chains [] _ _ _ _ _ _ c.add_lines.new.edges.ok.0 base.ok.0 left (sym (append-nil chains)) c.requires.space (omega arith))
