use Rattle.std.proofs.Common.{subst}
use Rattle.tp_search.specs.HeldLists.{IsOver}
use Rattle.tp_search.proofs.HoldFacts.{since-known, since-undone}
use Rattle.tp_search.proofs.held_list.take_off.Goals as goal

pub returns-in_default : goal.returns-in_default
returns-in_default g c = record { back = λ b machine ask over. subst (IsOver g.N.Network.reading b c.args.board.now machine ask) c.in_default.is over }

pub undo_to-requires : goal.undo_to-requires
undo_to-requires g c =
    let over = c.requires.over in
    since-known g.N.Network.reading over.0 c.args.board.now over.1 over.2 c.in-Some.list.base.0 c.in-Some.list.root (subst (IsOver g.N.Network.reading over.0 c.args.board.now over.1 over.2) c.in-Some.is over.3)

pub returns : goal.returns
returns g c =
    let u = c.undo_to.ensures in
    record {
      back = λ b machine ask over. since-undone g.N.Network.reading g.N.Undo.untouched c.marks_keep_boards.ensures.back b c.args.board.now c.undo_to.new.self machine ask c.in-Some.list.base.0 c.in-Some.list.root
          (subst (IsOver g.N.Network.reading b c.args.board.now machine ask) c.in-Some.is over) (record { content_then = u.content; past_less = u.past; untouched_same = u.untouched; room_same = u.capacity });
    }
