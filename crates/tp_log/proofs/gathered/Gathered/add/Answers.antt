use Rattle.std.proofs.Common.{refl, sym, ◌∙◌}
use Rattle.tp_log.proofs.GatherFacts.{lines_with_row, not_in_order, with_event, with_node, with_record, with_row}
use Rattle.tp_log.proofs.gathered.Gathered.add.Goals as goal

pub returns-then-not-allows-clause-lines : goal.returns-then-not-allows-clause-lines
returns-then-not-allows-clause-lines c =
    not_in_order c.args.self.now.items.items c.args.self.now.tree c.args.self.now.next c.args.told c.requires.gathered (sym c.allows.ensures ∙ c.if-not-allows.true)

pub returns-in_ok-push_item-in-Event-clause-gathered : goal.returns-in_ok-push_item-in-Event-clause-gathered
returns-in_ok-push_item-in-Event-clause-gathered c =
    with_event c.args.self.now.items.items c.args.self.now.tree c.args.self.now.next c.requires.gathered c.args.told c.requires.line (sym c.allows.ensures ∙ c.if-not-allows.false) c.in-Event.event c.in-Event.is
    c.push_item.new.self.items.items _ c.push_item.new.self.tree c.push_item.new.self.next c.in_ok-push_item-in-Event.ensures.items refl c.in_ok-push_item-in-Event.ensures.tree (c.push_item.ensures.next ∙ c.behind-self.ensures)

pub returns-in_ok-push_item-in-Note-clause-gathered : goal.returns-in_ok-push_item-in-Note-clause-gathered
returns-in_ok-push_item-in-Note-clause-gathered c =
    with_record c.args.self.now.items.items c.args.self.now.tree c.args.self.now.next c.requires.gathered c.args.told c.requires.line (sym c.allows.ensures ∙ c.if-not-allows.false) c.in-Note.rec c.in-Note.is
    c.push_item-in-Note.new.self.items.items _ c.push_item-in-Note.new.self.tree c.push_item-in-Note.new.self.next c.in_ok-push_item-in-Note.ensures.items refl c.in_ok-push_item-in-Note.ensures.tree (c.push_item-in-Note.ensures.next ∙ c.behind-self.ensures)

pub returns-in_ok-push-in-Room-clause-gathered : goal.returns-in_ok-push-in-Room-clause-gathered
returns-in_ok-push-in-Room-clause-gathered c =
    with_row c.args.self.now.items.items c.args.self.now.tree c.args.self.now.next c.requires.gathered c.args.told c.requires.line (sym c.allows.ensures ∙ c.if-not-allows.false) c.in-Room.row c.in-Room.is
    c.push.new.self c.behind-self.result c.in_ok-push-in-Room.ensures.ok c.behind-self.ensures

pub returns-in_ok-push-in-Room-clause-lines : goal.returns-in_ok-push-in-Room-clause-lines
returns-in_ok-push-in-Room-clause-lines c =
    lines_with_row c.args.self.now.items.items c.args.self.now.tree c.args.self.now.next c.requires.gathered c.args.told c.requires.line (sym c.allows.ensures ∙ c.if-not-allows.false) c.in-Room.row c.in-Room.is
    c.push.new.self c.in_ok-push-in-Room.ensures.ok

pub returns-in_ok-push-in-Node-clause-gathered : goal.returns-in_ok-push-in-Node-clause-gathered
returns-in_ok-push-in-Node-clause-gathered c =
    with_node c.args.self.now.items.items c.args.self.now.tree c.args.self.now.next c.requires.gathered c.args.told c.requires.line (sym c.allows.ensures ∙ c.if-not-allows.false) c.in-Node.node c.in-Node.is
    c.push-in-Node.new.self c.behind-self.result c.in_ok-push-in-Node.ensures.ok c.behind-self.ensures
