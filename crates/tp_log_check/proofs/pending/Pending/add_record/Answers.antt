use Rattle.std.proofs.Common.{ap, ◌∷◌, subst, sym}
use Rattle.tp_log.specs.declared.item.Item.TheVariants.{Event}
use Rattle.tp_log.specs.declared.log_line.LogLine.TheVariants as line
use Rattle.tp_log_check.specs.Gathered.{ArePlain}
use Rattle.tp_log_check.proofs.PendingFacts.{pending_of, plain_closed, plain_record, record_gathered}
use Rattle.tp_log_check.proofs.pending.Pending.add_record.Goals as goal

pub returns-clause-pending : goal.returns-clause-pending
returns-clause-pending c =
    pending_of _ (line.Note c.args.told)
    (plain_record _ _ c.args.told c.push_reserved.ensures.items
    (plain_closed c.reserve.new.self.event c.end_tree.new.self.event c.reserve.new.self.items.items c.end_tree.new.self.items.items c.reserve.new.self.tree c.end_tree.ensures.items
    (subst ArePlain (sym c.reserve.ensures.same.items) c.requires.pending.plain)))
    (record_gathered c.args.self.now c.requires.pending c.reserve.new.self c.reserve.ensures.same c.args.told c.requires.line _ _ _ c.end_tree.ensures.items (ap (λ is. Event c.end_tree.new.self.event ∷ is) c.push_reserved.ensures.items) c.end_tree.ensures.tree)
    c.behind_record-self.ensures
