-- The goal can be opened, and is in time.
use Rattle.std.proofs.Common.{◌≡◌, false, ap, sym, ◌∙◌}
use Rattle.tp_constraints.specs.Suffixes.{with_goal}
use Rattle.tp_placing.specs.Boards.{suffix_of}
use Rattle.tp_placing.specs.declared.parts.Change.TheVariants.{Goal as Open}
use Rattle.tp_search.specs.Again.{after_again, has_goal}
use Rattle.tp_search.proofs.AgainSteps.{goal-none, in-time}
use Rattle.tp_search.proofs.replay.goal_again.Goals as goal

pub unreachable-requires : goal.unreachable-requires
unreachable-requires g c =
    let can = c.requires.can in
    let no : has_goal c.args.reached ≡ false = sym c.has_goal.ensures ∙ c.if-has_goal.false in
    let none = goal-none (suffix_of c.args.board.now) c.args.reached can.1.reached_so no in
    in-time g.N.Network.reading can.0 c.args.board.now (Open c.args.room) c.args.reached can.1 (with_goal c.args.room) (ap (λ o. after_again o (Open c.args.room)) none) (c.in-Err.ensures.late can.0 can.1.stands)
