use Rattle.std.proofs.Common.{sym, ◌∙◌}
use Rattle.tp_log.specs.declared.log_line.LogLine.TheVariants as line
use Rattle.tp_log_check.proofs.PendingFacts.{node_gathered, node_off, pending_of}
use Rattle.tp_log_check.proofs.pending.Pending.add_node.Goals as goal

pub returns-then-not-takes_node-clause-lines : goal.returns-then-not-takes_node-clause-lines
returns-then-not-takes_node-clause-lines c = node_off c.args.self.now c.requires.pending c.args.node (sym c.takes_node.ensures ∙ c.if-not-takes_node.true)

pub returns-clause-pending : goal.returns-clause-pending
returns-clause-pending c =
    pending_of _ (line.Node c.args.node) c.requires.pending.plain (node_gathered c.args.self.now c.requires.pending c.args.node c.requires.line (sym c.takes_node.ensures ∙ c.if-not-takes_node.false) c.push.new.self c.in_ok-push.ensures.ok) c.behind_node-self.ensures
