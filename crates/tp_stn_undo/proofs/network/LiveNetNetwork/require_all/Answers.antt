use Rattle.std.proofs.Common.{arith, ◌++◌, length, ap, subst, sym, refl, ◌∙◌}
use Rattle.std.specs.Vec.{with_items}
use Rattle.tp_base.specs.Net.{HasNoSolution, with_edges}
use Rattle.tp_base.specs.Kept.{net_of}
use Rattle.tp_base.proofs.LeastFacts.{mut_items}
use Rattle.tp_base.proofs.RisenFacts.{kept_refutes}
use Rattle.tp_stn_undo.specs.declared.live_net.LiveNet.TheInside.{Inside}
use Rattle.tp_stn_undo.specs.States.{lows_of, edges_of}
use Rattle.tp_stn_undo.specs.Marks.{nets_of}
use Rattle.tp_stn_undo.specs.LiveState.{LiveState}
use Rattle.tp_stn_undo.specs.AddedEdges.{Adds}
use Rattle.tp_stn_undo.proofs.SoundFacts.{links_len}
use Rattle.tp_stn_undo.proofs.LinkedFacts.{same_links}
use Rattle.tp_stn_undo.proofs.ChangeFacts.{stack_of, can_save, stack_by, past_by}
use Rattle.tp_stn_undo.proofs.AddFacts.{linked_len}
use Rattle.tp_stn_undo.proofs.ChangedFacts.{IsChanged, HoldsTogether, as_it_was, changed_live, changed_past, added_holds}
use Rattle.tp_stn_undo.proofs.network.LiveNetNetwork.require_all.Goals as goal
use Rattle.tp_stn_undo.proofs.network.LiveNetNetwork.require_all.Goals.{In-Ok, After-save_changes}

added : (c : In-Ok) → Adds c.args.edges.now c.self.inside.caps.items c.self.inside.links.items c.add_edges.new.links.items c.self.inside.states.items c.add_edges.new.states c.add_edges.new.working.changes.entries
added c = rw (c.deref.ensures.value, c.deref_mut-2.ensures.value) at c.in-Ok.ensures.added

pub save_changes-requires : goal.save_changes-requires
save_changes-requires c =
    let k = (goal.at.save_changes-requires c).In-Ok in
    let a = c.self.inside in
    let inv = c.self.invariant in
    record { ready = rw c.deref-in-Ok.ensures.value (can_save a inv c.add_edges.new.working.changes (length a.states.items) (length a.links.items) c.add_edges.ensures.sizes.noted inv.points (stack_of a inv (length a.links.items) (omega arith)) (added k).known) }

abbrev after : After-save_changes → Inside
after c = record {
  max_points = c.self.inside.max_points;
  max_edges = c.self.inside.max_edges;
  max_marks = c.self.inside.max_marks;
  states = with_items c.self.inside.states c.add_edges.new.states;
  caps = c.self.inside.caps;
  links = c.add_edges.new.links;
  heads = with_items c.self.inside.heads c.add_edges.new.heads;
  working = record { waiting = c.add_edges.new.working.waiting; changes = c.save_changes.new.changes; path = c.add_edges.new.working.path; places = c.add_edges.new.working.places };
  kept = c.self.inside.kept;
  marks = c.self.inside.marks;
}

changed : (c : After-save_changes) → IsChanged c.self.inside (after c) c.add_edges.new.states c.self.inside.caps.items c.add_edges.new.links.items c.add_edges.new.heads
changed c =
    let a = c.self.inside in
    let e = c.add_edges.ensures in
    let s = c.save_changes.ensures in
    record {
      states = mut_items a.states.len c.add_edges.new.states _ (c.add_edges.auto.states ∙ ap length c.deref_mut-2.ensures.value ∙ sym a.states.ok.0);
      caps = refl;
      links = refl;
      heads = mut_items a.heads.len c.add_edges.new.heads _ (c.add_edges.auto.heads ∙ ap length c.deref_mut.ensures.value ∙ sym a.heads.ok.0);
      marks = refl;
      points_same = refl;
      edges_same = refl;
      marks_same = refl;
      states_capacity = refl;
      caps_capacity = refl;
      links_capacity = e.capacity;
      heads_capacity = refl;
      marks_capacity = refl;
      waits = e.sizes.waits;
      noted = s.capacity ∙ e.sizes.noted.capacity;
      most = s.most ∙ e.sizes.noted.most;
      path = e.sizes.path;
      places = e.sizes.places;
      rest = record { idle = e.quiet.idle; none = e.quiet.none; unchanged = s.none; zeros = e.zeros };
    }

holds : (c : After-save_changes) → HoldsTogether c.self.inside c.add_edges.new.states c.self.inside.caps.items c.add_edges.new.links.items c.add_edges.new.heads c.save_changes.new.changes.older
holds c =
    let a = c.self.inside in
    let k = (goal.at.invariant_of-self c).In-Ok in
    let ad = added k in
    let n = linked_len a.links.items c.add_edges.new.links.items c.args.edges.now ad.linked in
    let v = ap (λ (s : LiveState). length s.net.edges) c.self.view_is in
    let r = ap (λ (s : LiveState). s.max_edges) c.self.view_is in
    let l = links_len a.links.items in
    let q = c.requires.spare in
    added_holds a c.self.invariant a.states.items c.add_edges.new.states a.caps.items c.add_edges.new.links.items a.heads.items c.args.edges.now c.add_edges.new.working.changes.entries c.save_changes.new.changes.older
    (as_it_was a c.self.invariant) ad (omega arith) c.add_edges.new.heads (rw c.deref_mut-2.ensures.value at c.add_edges.ensures.linked) (stack_by a.marks.items _ a.working.changes c.add_edges.new.working.changes c.save_changes.new.changes.older c.deref-in-Ok.ensures.value c.add_edges.ensures.sizes.noted c.save_changes.ensures.stack) (past_by a.marks.items _ a.working.changes c.add_edges.new.working.changes c.save_changes.new.changes.older c.deref-in-Ok.ensures.value c.add_edges.ensures.sizes.noted c.save_changes.ensures.past)

pub invariant_of-self : goal.invariant_of-self
invariant_of-self c = changed_live c.self.inside c.self.invariant (after c) c.add_edges.new.states c.self.inside.caps.items c.add_edges.new.links.items c.add_edges.new.heads (changed c) (holds c)

pub returns-in-Ok-clause-solved : goal.returns-in-Ok-clause-solved
returns-in-Ok-clause-solved c = (_, (invariant_of-self c).sound.least)

pub returns-in-Ok-clause-past : goal.returns-in-Ok-clause-past
returns-in-Ok-clause-past c = ap nets_of (changed_past c.self.inside c.self.invariant (after c) c.add_edges.new.states c.self.inside.caps.items c.add_edges.new.links.items c.add_edges.new.heads (changed c) (holds c)) ∙ ap (λ (s : LiveState). s.past) c.self.view_is

pub invariant_of-self-in-Err : goal.invariant_of-self-in-Err
invariant_of-self-in-Err c =
    let a = c.self.inside in
    let inv = c.self.invariant in
    let e = c.add_edges.ensures in
    let f = c.in-Err.ensures in
    changed_live a inv _ a.states.items a.caps.items a.links.items c.add_edges.new.heads
    (record {
      states = mut_items a.states.len c.add_edges.new.states _ (c.add_edges.auto.states ∙ ap length c.deref_mut-2.ensures.value ∙ sym a.states.ok.0) ∙ f.taken_back.same_states ∙ c.deref_mut-2.ensures.value;
      caps = refl;
      links = f.taken_back.same_links;
      heads = mut_items a.heads.len c.add_edges.new.heads _ (c.add_edges.auto.heads ∙ ap length c.deref_mut.ensures.value ∙ sym a.heads.ok.0);
      marks = refl;
      points_same = refl;
      edges_same = refl;
      marks_same = refl;
      states_capacity = refl;
      caps_capacity = refl;
      links_capacity = e.capacity;
      heads_capacity = refl;
      marks_capacity = refl;
      waits = e.sizes.waits;
      noted = e.sizes.noted.capacity;
      most = e.sizes.noted.most;
      path = e.sizes.path;
      places = e.sizes.places;
      rest = record { idle = e.quiet.idle; none = e.quiet.none; unchanged = f.taken_back.none; zeros = e.zeros };
    })
    (subst (HoldsTogether a a.states.items a.caps.items a.links.items c.add_edges.new.heads) (sym e.sizes.noted.older) (record {
      points = inv.points;
      edges = inv.edges;
      stack = stack_of a inv (length a.links.items) (omega arith);
      past = refl;
      linked = same_links _ _ _ _ _ _ (sym f.taken_back.same_links) refl (sym (ap length c.deref_mut-2.ensures.value)) e.linked;
      sound = inv.sound;
    }))

pub returns-in-Err-clause-late : goal.returns-in-Err-clause-late
returns-in-Err-clause-late c =
    let a = c.self.inside in
    let r = rw (c.deref.ensures.value, c.deref_mut-2.ensures.value) at c.in-Err.ensures.refuted in
    subst (λ (s : LiveState). HasNoSolution (with_edges s.net c.args.edges.now)) c.self.view_is
    (kept_refutes (net_of (lows_of a.states.items) a.caps.items (edges_of a.links.items ++ c.args.edges.now)) c.in-Err.kept c.add_edges.new.working.path.items r)
