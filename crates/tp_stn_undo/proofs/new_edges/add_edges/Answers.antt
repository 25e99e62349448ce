use Rattle.std.proofs.Common.{arith, [], ◌∷◌, length, get_or, refl, ap, ◌∙◌, subst, sym, take, ◌++◌, List}
use Rattle.std.proofs.lemmas.List.{length-append, length-take-le, take-append-le, take_all}
use Rattle.tp_stn_undo.specs.Marks.{AreLinks}
use Rattle.tp_stn_undo.specs.Flags.{AreKnown}
use Rattle.tp_stn_undo.specs.AddedEdges.{newest_link, Adds}
use Rattle.tp_stn_undo.proofs.CauseFacts.{no_link}
use Rattle.tp_stn_undo.proofs.LinkedFacts.{same_links}
use Rattle.tp_stn_undo.proofs.NoteFacts.{same_saves}
use Rattle.tp_stn_undo.proofs.AddFacts.{linked_len, adds_next, refuted_next, unlinked}
use Rattle.std.proofs.Math.Seq.{take-append_seam}
use Rattle.tp_base.specs.declared.edges.Edge.{Edge}
use Rattle.tp_stn_undo.proofs.new_edges.add_edges.Goals as goal

pub returns-in-Err-clause-linked : goal.returns-in-Err-clause-linked
returns-in-Err-clause-linked c =
    let a = c.each.invariant.added in
    let n = linked_len c.args.links.now.items c.each.links.items _ a.linked in
    let l = newest_link c.each.heads (get_or c.args.edges.now c.each.edge-index no_link.edge) in
    let m = ap length c.add_edge.ensures.links ∙ length-append c.each.links.items (l ∷ []) in
    let b = c.len-before.ensures in
    let ok = c.args.links.now.ok.0 in
    same_links _ _ _ _ _ _ c.unlink.ensures.links c.unlink.ensures.heads (sym a.len) (unlinked c.add_edge.new.links.items c.add_edge.new.heads (length c.each.states) c.len-before.result (omega arith) c.add_edge.ensures.linked)

pub returns-in-Err-clause-refuted : goal.returns-in-Err-clause-refuted
returns-in-Err-clause-refuted c =
    let edges = c.args.edges.now in
    let i = c.each.edge-index in
    let l = newest_link c.each.heads (get_or edges i no_link.edge) in
    refuted_next edges c.args.caps.now c.args.links.now.items c.each.links.items c.add_edge.new.links.items c.args.states.now c.each.states c.add_edge.new.states c.each.working.changes.entries c.add_edge.new.working.changes.entries l i no_link.edge c.each-test.true refl c.each.invariant.added c.add_edge.ensures.links
    c.in-Err.kept c.add_edge.new.working.path.items c.in-Err.ensures.refuted

pub each-preserved : goal.each-preserved
each-preserved c =
    let edges = c.args.edges.now in
    let i = c.each.edge-index in
    let l = newest_link c.each.heads (get_or edges i no_link.edge) in
    let inv = c.each.invariant in
    let r = inv.ready in
    let e = c.add_edge.ensures in
    let len = e.back.len in
    let w1 = e.sizes.waits in
    let w2 = r.capacity.waits in
    let n1 = e.sizes.noted.capacity in
    let n2 = r.capacity.noted in
    let p1 = e.sizes.path in
    let p2 = r.capacity.path in
    let p3 = inv.sizes.path in
    let q1 = e.sizes.places in
    let q2 = r.capacity.places in
    let q3 = inv.sizes.places in
    let s = r.small in
    record {
      added = adds_next edges c.args.caps.now c.args.links.now.items c.each.links.items c.add_edge.new.links.items c.args.states.now c.each.states c.add_edge.new.states c.each.working.changes.entries c.add_edge.new.working.changes.entries l i no_link.edge c.each-test.true refl inv.added e.links
          e.back c.in-Ok.ensures.sound;
      ready = record {
        sound = c.in-Ok.ensures.sound;
        linked = subst (AreLinks c.add_edge.new.links.items c.add_edge.new.heads) (sym len) e.linked;
        small = omega arith;
        capacity = record { waits = omega arith; noted = omega arith; path = omega arith; places = omega arith };
        idle = c.in-Ok.ensures.quiet.idle;
        none = c.in-Ok.ensures.quiet.none;
        zeros = e.zeros;
      };
      sizes = record { waits = w1 ∙ inv.sizes.waits; noted = same_saves inv.sizes.noted e.sizes.noted; path = omega arith; places = omega arith };
      capacity = e.capacity ∙ inv.capacity;
    }

pub put_back-requires : goal.put_back-requires
put_back-requires c =
    let a = c.each.invariant.added in
    let e = c.add_edge.ensures.back in
    subst (λ n. AreKnown n c.add_edge.new.working.changes.entries) (sym e.len) (e.known (subst (λ n. AreKnown n c.each.working.changes.entries) (sym a.len) a.known))

pub add_edge-requires-clause-room : goal.add_edge-requires-clause-room
add_edge-requires-clause-room c =
    let inv = c.each.invariant in
    let n = linked_len c.args.links.now.items c.each.links.items _ inv.added.linked in
    let i = c.each-test.true in
    let t = length-take-le c.each.edge-index c.args.edges.now (omega arith) in
    let k = inv.capacity in
    let fits = c.requires.room.fits in
    let few = c.requires.room.few in
    record { fits = omega arith; few = omega arith }

pub unlink-requires : goal.unlink-requires
unlink-requires c =
    let n = linked_len c.args.links.now.items c.each.links.items _ c.each.invariant.added.linked in
    let l = newest_link c.each.heads (get_or c.args.edges.now c.each.edge-index no_link.edge) in
    let m = ap length c.add_edge.ensures.links ∙ length-append c.each.links.items (l ∷ []) in
    let b = c.len-before.ensures in
    let ok = c.args.links.now.ok.0 in
    omega arith

pub returns-in-Err-clause-taken_back : goal.returns-in-Err-clause-taken_back
returns-in-Err-clause-taken_back c =
    let links = c.args.links.now.items in
    let added = c.each.invariant.added in
    let l = newest_link c.each.heads (get_or c.args.edges.now c.each.edge-index no_link.edge) in
    let n = linked_len links c.each.links.items _ added.linked in
    let count = c.len-before.ensures ∙ c.args.links.now.ok.0 in
    record {
      same_links = c.unlink.ensures.links
          ∙ ap (take c.len-before.result) c.add_edge.ensures.links
          ∙ take-append-le c.len-before.result c.each.links.items (l ∷ []) (omega arith)
          ∙ ap (take c.len-before.result) added.linked.after
          ∙ ap (λ k. take k (links ++ added.linked.more)) count
          ∙ take-append_seam links added.linked.more;
      same_states = c.put_back.ensures.states ∙ c.add_edge.ensures.back.back ∙ added.back;
      none = c.put_back.ensures.entries;
    }

pub returns-clause-added : goal.returns-clause-added
returns-clause-added c =
    let end = c.each-test.false in
    subst (λ (es : List Edge). Adds es c.args.caps.now c.args.links.now.items c.each.links.items c.args.states.now c.each.states c.each.working.changes.entries) (take_all c.each.edge-index c.args.edges.now (omega arith)) c.each.invariant.added
