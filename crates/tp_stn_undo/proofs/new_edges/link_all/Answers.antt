use Rattle.std.proofs.Common.{arith, ◌+◌, true, length, get_or, take, refl, ap, ◌∙◌, subst, sym}
use Rattle.std.proofs.lemmas.List.{length-set}
use Rattle.tp_base.specs.Grows.{IsKnown}
use Rattle.tp_stn_undo.specs.AddedEdges.{AllWait, newest_link}
use Rattle.tp_stn_undo.proofs.CauseFacts.{no_link}
use Rattle.tp_stn_undo.proofs.LinkedFacts.{links_pushed, same_links}
use Rattle.tp_stn_undo.proofs.AddFacts.{linked_next, waits_next}
use Rattle.tp_stn_undo.proofs.new_edges.link_all.Goals as goal

pub each-preserved : goal.each-preserved
each-preserved c =
    let edges = c.args.edges.now in
    let i = c.each.edge-index in
    let e = get_or edges i no_link.edge in
    let test = c.each-test.true in
    let inv = c.each.invariant in
    let k : IsKnown (length c.args.heads.now) e = c.requires.known i no_link.edge test in
    let from = k.from in
    let waits = c.requires.waits in
    let same = inv.waits in
    let l = newest_link c.each.heads e in
    record {
      added = linked_next c.args.links.now.items c.each.links.items c.link.new.links.items l edges i no_link.edge test refl c.link.ensures.links inv.added;
      linked = same_links _ _ _ _ _ _ c.link.ensures.links c.link.ensures.heads refl (links_pushed c.each.links.items c.each.heads (length c.args.heads.now) l inv.linked from refl);
      wait = subst (AllWait (take (i + 1) edges) c.args.waiting.now.flags) (sym c.push.ensures.flags) (waits_next edges c.args.waiting.now.flags c.each.waiting.flags i no_link.edge test (omega arith) inv.wait);
      below = λ b. c.push.ensures.known (length c.args.heads.now) from (inv.below b);
      waits = ap length c.push.ensures.flags ∙ length-set c.each.waiting.flags e.from.0 true ∙ inv.waits;
      capacity = c.link.ensures.capacity ∙ inv.capacity;
    }
