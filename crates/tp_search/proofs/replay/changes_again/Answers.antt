-- The next change can be made, since all can.
use Rattle.std.proofs.Common.{arith, ◌+◌, ◌<◌, length, get_or, ap, sym, ◌∙◌, subst}
use Rattle.tp_placing.specs.Boards.{suffix_of}
use Rattle.tp_placing.specs.declared.parts.Change.TheVariants.{Goal as Open}
use Rattle.tp_placing.proofs.StandFacts.{and-some}
use Rattle.tp_search.specs.Again.{CanCarryIf, after_again}
use Rattle.tp_search.proofs.AgainFacts.{again-next, carried-part}
use Rattle.tp_search.proofs.replay.changes_again.Goals as goal

pub change_again-reached-requires : goal.change_again-reached-requires
change_again-reached-requires g c =
    let machine = c.args.machine.now in
    let ask = c.args.ask.now in
    let inv = c.changes.invariant in
    let changes = c.args.changes.now in
    let less : c.changes.at < length changes = let test = c.changes-test.true in omega (arith, test) in
    let change = get_or changes c.changes.at (Open 0) in
    let all = carried-part machine c.args.board.now.plans ask changes (c.changes.at + 1) c.requires.can in
    let next = subst (CanCarryIf machine c.args.board.now.plans ask) (again-next changes c.changes.at less ∙ ap (λ o. after_again o change) (sym inv.suffix)) all in
    let here = subst (λ ps. CanCarryIf machine ps ask (after_again (suffix_of c.changes.board) change)) (sym inv.same.loaded.plans) next in
    record {
      can = record {
        stands = inv.stands;
        reached_so = inv.reached_so;
        can = and-some c.changes.board.ask ask _ (inv.same.loaded.ask ∙ c.requires.ready.asked) here;
      };
    }
