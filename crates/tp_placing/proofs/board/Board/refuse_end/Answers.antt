use Rattle.std.proofs.Common.{Some}
use Rattle.tp_placing.specs.Boards.{suffix_after}
use Rattle.tp_placing.specs.Inside.{board_of}
use Rattle.tp_placing.proofs.CauseFacts.{keeps-all}
use Rattle.tp_placing.proofs.ReasonFacts.{refuses-here, end-known, end-late, end-reason, point-room}
use Rattle.tp_placing.proofs.StandFacts.{and-some, stands-still}
use Rattle.tp_placing.proofs.board.Board.refuse_end.Goals as goal

pub refuse_by-limit-requires-clause-capacity : goal.refuse_by-limit-requires-clause-capacity
refuse_by-limit-requires-clause-capacity g c =
    let h = refuses-here g.N.Network.reading _ c.args.last (rw (← c.self.view_is) at c.requires.below) (rw (← c.self.view_is) at c.requires.open) in
    point-room g.N.Network.reading _ c.args.last h (g.N.Network.reading.max_points c.self.inside.net) c.self.invariant.capacity.points

pub refuse_by-limit-requires-clause-known : goal.refuse_by-limit-requires-clause-known
refuse_by-limit-requires-clause-known g c =
    let h = refuses-here g.N.Network.reading _ c.args.last (rw (← c.self.view_is) at c.requires.below) (rw (← c.self.view_is) at c.requires.open) in
    end-known g.N.Network.reading _ c.args.last h

pub refuse_by-limit-requires-clause-late : goal.refuse_by-limit-requires-clause-late
refuse_by-limit-requires-clause-late g c =
    let h = refuses-here g.N.Network.reading _ c.args.last (rw (← c.self.view_is) at c.requires.below) (rw (← c.self.view_is) at c.requires.open) in
    end-late g.N.Network.reading _ c.args.last h c.solutions_are_ticks.ensures.board

pub returns-clause-shown : goal.returns-clause-shown
returns-clause-shown g c m st' =
    let a = c.self.inside in
    let st = rw (← c.self.view_is) at st' in
    let h = refuses-here g.N.Network.reading _ c.args.last (rw (← c.self.view_is) at c.requires.below) (rw (← c.self.view_is) at c.requires.open) in
    and-some (suffix_after a.steps.items) h.x _ h.suffix (and-some a.ask st.0 _ st.1.asked
    (end-reason g.N.Network.reading (board_of a.net a.timelines a.held.items a.plans.items a.firsts.items a.last a.floor a.horizon a.ask a.steps.items a.marks.items a.made_for a.causes a.limit a.settled)
    m st.0 st.1 h.x h.suffix c.args.last g.N.Network.refutes c.refuse_by-limit.new.net c.refuse_by-limit.result c.refuse_by-limit.ensures.limit c.refuse_by-limit.ensures.refused))

pub returns-clause-stands : goal.returns-clause-stands
returns-clause-stands g c m st' =
    let a = c.self.inside in
    let st = rw (← c.self.view_is) at st' in
    let b = board_of a.net a.timelines a.held.items a.plans.items a.firsts.items a.last a.floor a.horizon a.ask a.steps.items a.marks.items a.made_for a.causes a.limit a.settled in (
      st.0,
      stands-still g.N.Network.reading b c.refuse_by-limit.new.net a.causes (Some c.refuse_by-limit.result) m st.0 st.1 c.refuse_by-limit.ensures.same c.refuse_by-limit.ensures.past
          (keeps-all _ _),
    )
