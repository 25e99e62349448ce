use Rattle.std.proofs.Common.{arith, drop}
use Rattle.std.proofs.lemmas.List.{length-map, length-drop}
use Rattle.tp_stn_undo.specs.declared.point_state.SavedState.{SavedState}
use Rattle.tp_stn_undo.specs.Flags.{points_in}
use Rattle.tp_stn_undo.proofs.FlagFacts.{held_few}
use Rattle.tp_stn_undo.proofs.changes.make_short.Goals as goal

pub returns-clause-few : goal.returns-clause-few
returns-clause-few c =
    let rest = drop c.args.from c.leave_firsts.new.entries.items in
    let few = held_few c.leave_firsts.new.noted (points_in rest) c.leave_firsts.ensures.held in
    let l = length-map rest (λ (s : SavedState). s.point.0) in
    let d = length-drop c.args.from c.leave_firsts.new.entries.items in
    let n = c.leave_firsts.ensures.len in
    omega arith
