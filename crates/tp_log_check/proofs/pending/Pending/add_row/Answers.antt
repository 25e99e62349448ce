use Rattle.std.proofs.Common.{sym, ◌∙◌}
use Rattle.tp_log.specs.declared.log_line.LogLine.TheVariants as line
use Rattle.tp_log_check.proofs.PendingFacts.{pending_of, row_gathered, row_lines, row_off}
use Rattle.tp_log_check.proofs.pending.Pending.add_row.Goals as goal

pub returns-then-not-takes_row-clause-lines : goal.returns-then-not-takes_row-clause-lines
returns-then-not-takes_row-clause-lines c = row_off c.args.self.now c.requires.pending c.args.row (sym c.takes_row.ensures ∙ c.if-not-takes_row.true)

pub returns-clause-pending : goal.returns-clause-pending
returns-clause-pending c =
    pending_of _ (line.Room c.args.row) c.requires.pending.plain (row_gathered c.args.self.now c.requires.pending c.args.row c.requires.line (sym c.takes_row.ensures ∙ c.if-not-takes_row.false) c.push.new.self c.in_ok-push.ensures.ok) c.behind_row-self.ensures

pub returns-clause-lines : goal.returns-clause-lines
returns-clause-lines c = row_lines c.args.self.now c.requires.pending c.args.row c.requires.line (sym c.takes_row.ensures ∙ c.if-not-takes_row.false) c.push.new.self c.in_ok-push.ensures.ok
