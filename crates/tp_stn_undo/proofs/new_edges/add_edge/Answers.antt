use Rattle.std.proofs.Common.{arith, ◌≡◌, ℕ, ◌-◌, ◌∷◌, [], List, length, slice_index, take, sym, refl, ap, ◌∙◌, subst}
use Rattle.std.proofs.lemmas.List.{length-append}
use Rattle.tp_stn_undo.specs.declared.link.Link.{Link}
use Rattle.tp_stn_undo.specs.States.{times_of, edges_of, lows_of}
use Rattle.tp_stn_undo.specs.Marks.{AreLinks}
use Rattle.tp_stn_undo.specs.Propagation.{AreKept}
use Rattle.tp_stn_undo.specs.AddedEdges.{newest_link}
use Rattle.tp_stn_undo.proofs.LinkedFacts.{links_pushed, same_links}
use Rattle.tp_stn_undo.proofs.SoundFacts.{supported_more, kept_before, known_more, numbered_longer, within_of, edges_more}
use Rattle.tp_stn_undo.proofs.ChangeFacts.{sound_edges}
use Rattle.tp_stn_undo.proofs.AddFacts.{both_ok, known_one}
use Rattle.tp_stn_undo.specs.Spread.{CanSpread, NoneWaits}
use Rattle.tp_base.specs.Kept.{net_of, KeptRefutes}
use Rattle.std.specs.Prelude.{OnOk, IfErr}
use Rattle.tp_base.specs.declared.edges.Edge.{Edge}
use Rattle.tp_stn_undo.proofs.new_edges.add_edge.Goals as goal
use Rattle.tp_stn_undo.proofs.new_edges.add_edge.Goals.{After-link}

linked : (c : After-link) → AreLinks c.link.new.links.items c.link.new.heads (length c.args.states.now)
linked c =
    let r = c.requires.ready in
    same_links _ _ _ _ _ _ c.link.ensures.links c.link.ensures.heads refl
    (links_pushed c.args.links.now.items c.args.heads.now (length c.args.states.now) (newest_link c.args.heads.now c.args.edge.now) r.linked c.requires.known.from refl)

pub settle-requires-clause-heads : goal.settle-requires-clause-heads
settle-requires-clause-heads c = rw c.deref.ensures.value (linked (goal.at.settle-requires-clause-heads c).After-link)

pub settle-requires-clause-kept : goal.settle-requires-clause-kept
settle-requires-clause-kept c =
    let l = newest_link c.args.heads.now c.args.edge.now in
    let links = c.args.links.now.items in
    let t = slice_index (times_of c.args.states.now) in
    let flags = c.args.working.now.waiting.flags in
    let n : c.len.result - 1 ≡ length links = omega (arith, ap length c.link.ensures.links, length-append links (l ∷ [])) in
    subst (λ (m : ℕ). AreKept (take m (edges_of c.deref.result.now)) t flags) (sym n)
    (subst (λ (ls : List Link). AreKept (take (length links) (edges_of ls)) t flags) (sym (c.deref.ensures.value ∙ c.link.ensures.links))
    (kept_before links l t flags c.requires.ready.sound.least.solution.keeps))

pub returns-clause-linked : goal.returns-clause-linked
returns-clause-linked c = linked (goal.at.returns-clause-linked c).After-link

pub overflow_cast-len : goal.overflow_cast-len
overflow_cast-len c =
    let few = c.requires.room.few in
    let n = ap length c.link.ensures.links ∙ length-append c.args.links.now.items (newest_link c.args.heads.now c.args.edge.now ∷ []) in
    let w = c.len.ensures in
    let ok = c.link.new.links.ok.0 in
    omega arith

pub settle-requires-clause-some : goal.settle-requires-clause-some
settle-requires-clause-some c =
    let n = ap length c.link.ensures.links ∙ length-append c.args.links.now.items (newest_link c.args.heads.now c.args.edge.now ∷ []) in
    let w = c.len.ensures in
    let ok = c.link.new.links.ok.0 in
    omega arith

pub settle-requires-clause-ready : goal.settle-requires-clause-ready
settle-requires-clause-ready c =
    let links = c.args.links.now.items in
    let states = c.args.states.now in
    let ready = c.requires.ready in
    let s = ready.sound in
    let l = newest_link c.args.heads.now c.args.edge.now in
    subst (λ (ls : List Link). CanSpread c.args.caps.now ls states c.args.working.now) (sym (c.deref.ensures.value ∙ c.link.ensures.links)) (record {
      bounded = record {
        known = known_more links (l ∷ []) (length states) s.known (known_one (length states) c.args.edge.now c.requires.known);
        all_capped = s.caps;
        below = within_of (record { states = states; caps = c.args.caps.now; links = links }) s;
      };
      supported = supported_more links (l ∷ []) states s.numbered s.supported;
      numbered = numbered_longer links (l ∷ []) states s.numbered;
      small = ready.small;
      capacity = ready.capacity;
      zeros = ready.zeros;
    })

pub returns-clause-sound : goal.returns-clause-sound
returns-clause-sound c =
    let l = newest_link c.args.heads.now c.args.edge.now in
    let links = c.args.links.now.items in
    let e = c.deref.ensures.value ∙ c.link.ensures.links in
    let s = rw e at c.settle.ensures in
    rw c.link.ensures.links (both_ok c.settle.result
    (λ d _. sound_edges c.args.states.now c.settle.new.states c.args.caps.now links (l ∷ []) c.args.working.now.changes.entries c.settle.new.working.changes.entries c.requires.ready.sound
    (known_one (length c.args.states.now) c.args.edge.now c.requires.known) s.back d.rises s.below d.kept) s.settled s.settled)

pub returns-clause-quiet : goal.returns-clause-quiet
returns-clause-quiet c =
    let q : OnOk c.settle.result (NoneWaits c.settle.new.working.waiting) = both_ok c.settle.result (λ d _. record { idle = d.idle; none = d.none }) c.settle.ensures.settled c.settle.ensures.settled in
    q

pub returns-clause-refuted : goal.returns-clause-refuted
returns-clause-refuted c =
    let l = newest_link c.args.heads.now c.args.edge.now in
    let links = c.args.links.now.items in
    let e = ap edges_of (c.deref.ensures.value ∙ c.link.ensures.links) ∙ edges_more links (l ∷ []) in
    subst (λ (es : List Edge). IfErr c.settle.result (λ kept. KeptRefutes (net_of (lows_of c.args.states.now) c.args.caps.now es) kept c.settle.new.working.path.items)) e c.settle.ensures.refuted
