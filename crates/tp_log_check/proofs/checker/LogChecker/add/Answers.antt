use Rattle.std.proofs.Common.{◌≡◌, [], ◌∷◌, ◌++◌, List, None, sym, subst, arith}
use Rattle.std.proofs.lemmas.Grind.{common_steps}
use Rattle.std.specs.Prelude.{option_map}
use Rattle.tp_log_check.specs.Gathered.{lines_of}
use Rattle.tp_log.specs.LogLines.{AreInOrder}
use Rattle.tp_log.specs.declared.log_line.LogLine.{LogLine}
use Rattle.tp_event_rules.specs.LiveStates.{seen}
use Rattle.tp_log_check.specs.CheckerState.{HasTaken, underway}
use Rattle.tp_log_check.proofs.RefusedLogs.{if-false, taken-off}
use Rattle.tp_log_check.proofs.checker.LogChecker.add.Goals as goal

pub returns-clause-refused : goal.returns-clause-refused
returns-clause-refused c =
    let p = c.in-Some.pending in
    let inside = c.self.inside in
    if-false (lines_of c.add.new.self ≡ lines_of p ++ c.args.told ∷ []) (AreInOrder (lines_of p ++ c.args.told ∷ []) → ⊥)
    ((before : List LogLine) → HasTaken c.args.self.now before → (c.args.self.now.under ≡ None → before ≡ []) → AreInOrder (before ++ c.args.told ∷ []) → ⊥)
    c.add.result c.add.ensures.lines (λ off before h none order.
    let seen_h = subst (λ v. HasTaken v before) (sym c.self.view_is) h in
    let with_p = subst (λ o. HasTaken (record { machine = inside.machine; state = seen inside.state; under = option_map underway o; events = inside.events; lines = inside.lines; counts = inside.counts; flaw = inside.flaw }) before) c.in-Some.is seen_h in
    taken-off inside.machine (seen inside.state) inside.events inside.lines inside.counts inside.flaw p c.args.told off before with_p order)

pub add-requires-clause-pending : goal.add-requires-clause-pending
add-requires-clause-pending c = grind (arith, common_steps)

pub add-requires-clause-line : goal.add-requires-clause-line
add-requires-clause-line c = grind (arith, common_steps)

pub add-requires-clause-plain : goal.add-requires-clause-plain
add-requires-clause-plain c = grind (arith, common_steps)

pub returns-clause-taken : goal.returns-clause-taken
returns-clause-taken c = grind (arith, common_steps)

pub returns-clause-begun : goal.returns-clause-begun
returns-clause-begun c = grind (arith, common_steps)
