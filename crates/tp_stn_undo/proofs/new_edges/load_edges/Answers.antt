use Rattle.std.proofs.Common.{arith, ◌++◌, List, length, slice_index, refl, inl, sym, ap, ◌∙◌, subst}
use Rattle.std.specs.List.{All}
use Rattle.tp_base.specs.declared.edges.Edge.{Edge}
use Rattle.tp_base.specs.Net.{HasNoSolution}
use Rattle.tp_base.specs.Grows.{IsKnown}
use Rattle.tp_base.specs.Kept.{net_of}
use Rattle.tp_base.proofs.RisenFacts.{kept_refutes}
use Rattle.tp_stn_undo.specs.declared.link.Link.{Link}
use Rattle.tp_stn_undo.specs.declared.point_state.SavedState.{SavedState}
use Rattle.tp_stn_undo.specs.States.{IsSound, lows_of, times_of, edges_of}
use Rattle.tp_stn_undo.specs.Saved.{restored}
use Rattle.tp_stn_undo.specs.Propagation.{LeadsBack, KeptFrom}
use Rattle.tp_stn_undo.proofs.SoundFacts.{supported_more, known_more, numbered_longer, within_of}
use Rattle.tp_stn_undo.proofs.ChangeFacts.{sound_edges}
use Rattle.tp_stn_undo.proofs.AddFacts.{linked_edges, kept_waiting}
use Rattle.tp_stn_undo.specs.Spread.{CanSpread}
use Rattle.tp_stn_undo.proofs.new_edges.load_edges.Goals as goal

pub spread-requires-clause-kept : goal.spread-requires-clause-kept
spread-requires-clause-kept c =
    let t = slice_index (times_of c.args.states.now) in
    let e = c.link_all.ensures in
    subst (λ (ls : List Link). KeptFrom (edges_of ls) t c.link_all.new.waiting.flags (length c.args.states.now) 0) (sym c.deref.ensures.value)
    (λ k d g f _. kept_waiting c.args.links.now.items c.link_all.new.links.items c.args.edges.now t c.args.working.now.waiting.flags c.link_all.new.waiting.flags e.added c.requires.ready.sound.least.solution.keeps e.wait k d g f)

pub unreachable-requires : goal.unreachable-requires
unreachable-requires c =
    let e = ap edges_of c.deref.ensures.value ∙ linked_edges c.args.links.now.items c.link_all.new.links.items c.args.edges.now c.link_all.ensures.added in
    let none : HasNoSolution (net_of (lows_of c.args.states.now) c.args.caps.now (edges_of c.deref.result.now)) = kept_refutes _ c.in-Err.field-0 c.spread.new.working.path.items c.in-Err.ensures.refuted in
    let sol = c.requires.solution in
    subst (λ (es : List Edge). HasNoSolution (net_of (lows_of c.args.states.now) c.args.caps.now es)) e none sol.0 sol.1

pub returns-clause-added : goal.returns-clause-added
returns-clause-added c =
    let links = c.args.links.now.items in
    let states = c.args.states.now in
    let states' = c.spread.new.states in
    let a = c.link_all.ensures.added in
    let e = c.deref.ensures.value ∙ a.after in
    let s = rw e at c.spread.ensures in
    let o = rw e at c.in-Ok.ensures in
    let k = o.settled in
    let b : LeadsBack (links ++ a.more) states states' c.args.working.now.changes.entries c.spread.new.working.changes.entries = s.back in
    let none = ap length c.requires.unchanged in
    record {
      linked = a;
      sound = subst (λ (ls : List Link). IsSound (record { states = states'; caps = c.args.caps.now; links = ls })) (sym a.after)
          (sound_edges states states' c.args.caps.now links a.more c.args.working.now.changes.entries c.spread.new.working.changes.entries c.requires.ready.sound
          (subst (All (IsKnown (length states))) (sym a.edges_are) c.requires.known) b k.rises s.below k.kept);
      lows = b.lows;
      len = b.len;
      back = b.back ∙ ap (λ (es : List SavedState). restored es states) c.requires.unchanged;
      known = b.known (λ i d h. absurd (omega arith));
    }

pub spread-requires-clause-reached : goal.spread-requires-clause-reached
spread-requires-clause-reached c = inl refl

pub spread-requires-clause-ready : goal.spread-requires-clause-ready
spread-requires-clause-ready c =
    let links = c.args.links.now.items in
    let states = c.args.states.now in
    let ready = c.requires.ready in
    let s = ready.sound in
    let a = c.link_all.ensures.added in
    let w = ready.capacity.waits in
    let w2 = c.link_all.ensures.waits in
    subst (λ (ls : List Link). CanSpread c.args.caps.now ls states (record c.args.working.now { waiting = c.link_all.new.waiting })) (sym (c.deref.ensures.value ∙ a.after)) (record {
      bounded = record {
        known = known_more links a.more (length states) s.known (subst (All (IsKnown (length states))) (sym a.edges_are) c.requires.known);
        all_capped = s.caps;
        below = within_of (record { states = states; caps = c.args.caps.now; links = links }) s;
      };
      supported = supported_more links a.more states s.numbered s.supported;
      numbered = numbered_longer links a.more states s.numbered;
      small = ready.small;
      capacity = record { waits = omega arith; noted = ready.capacity.noted; path = ready.capacity.path; places = ready.capacity.places };
      zeros = ready.zeros;
    })
