use Rattle.std.proofs.Common.{arith, ◌<◌, length, ap, subst, sym, ◌∙◌}
use Rattle.std.proofs.lemmas.List.{get_or-map, length-map}
use Rattle.std.proofs.lemmas.List.Elements.{All-get_or}
use Rattle.tp_base.specs.Grows.{IsKnown}
use Rattle.tp_stn_undo.specs.declared.link.Link.{Link}
use Rattle.tp_stn_undo.specs.LiveState.{LiveState}
use Rattle.tp_stn_undo.specs.States.{edges_of, lows_of}
use Rattle.tp_stn_undo.proofs.RaiseFacts.{lows_len}
use Rattle.tp_stn_undo.proofs.network.LiveNetNetwork.edge.Goals as goal

pub returns-clause-known : goal.returns-clause-known
returns-clause-known c =
    let states = c.self.inside.states.items in
    let links = c.self.inside.links.items in
    let link = c.index.result.now in
    let edge_of = λ (l : Link). l.edge in
    let few : c.args.number < length (edges_of links) = subst (λ (s : LiveState). c.args.number < length s.net.edges) (sym c.self.view_is) c.requires in
    let l = length-map links edge_of in
    let read = get_or-map edge_of links c.args.number link link.edge (omega arith) ∙ ap edge_of (sym c.index.ensures) in
    let known = subst (IsKnown (length states)) read (All-get_or (IsKnown (length states)) (edges_of links) c.args.number link.edge few c.self.invariant.sound.known) in
    let in_net : IsKnown (length (lows_of states)) link.edge = rw (lows_len states) known in
    subst (λ (s : LiveState). IsKnown (length s.net.lows) link.edge) c.self.view_is in_net
