use Rattle.std.proofs.Common.{arith, ◌≡◌, ◌+◌, ◌-◌, refl, length, take, ap, sym, ◌∙◌}
use Rattle.std.specs.List.{slice_get}
use Rattle.std.specs.Option.{option_map}
use Rattle.std.proofs.lemmas.List.{length-map, take-map}
use Rattle.std.proofs.lemmas.Option.{slice_get-map}
use Rattle.tp_stn_undo.specs.declared.live_net.LiveNet.TheInside.{Inside}
use Rattle.tp_stn_undo.specs.Marks.{core_at, nets_of}
use Rattle.tp_stn_undo.specs.States.{net_of_core}
use Rattle.tp_stn_undo.specs.Live.{past_in}
use Rattle.tp_stn_undo.specs.LiveState.{LiveState}
use Rattle.tp_stn_undo.proofs.ChangeFacts.{stack_of}
use Rattle.tp_stn_undo.proofs.BackFacts.{WentBack, back_past, back_content, back_live}
use Rattle.tp_stn_undo.specs.Restored.{Lists}
use Rattle.tp_stn_undo.proofs.live_net.LiveNet.undo_last.Goals as goal
use Rattle.tp_stn_undo.proofs.live_net.LiveNet.undo_last.Goals.{After-restore}

pub restore-requires-clause-stack : goal.restore-requires-clause-stack
restore-requires-clause-stack c = (length c.self.inside.links.items, c.self.inside.working.changes.capacity, stack_of c.self.inside c.self.invariant (length c.self.inside.links.items) (omega arith))

left : (c : After-restore) → length c.args.self.now.past - 1 ≡ length c.self.inside.marks.items - 1
left c =
    let a = c.self.inside in
    let v = ap (λ (s : LiveState). length s.past) c.self.view_is in
    let l = length-map a.marks.items (core_at a.working.changes.older a.states.items a.caps.items a.links.items) in
    let m = length-map (past_in a) net_of_core in
    omega arith

some : (c : After-restore) → length c.self.inside.marks.items - 1 + 1 ≡ length c.self.inside.marks.items
some c =
    let a = c.self.inside in
    let r = c.requires in
    let v = ap (λ (s : LiveState). length s.past) c.self.view_is in
    let l = length-map a.marks.items (core_at a.working.changes.older a.states.items a.caps.items a.links.items) in
    let m = length-map (past_in a) net_of_core in
    omega arith

abbrev net : (c : After-restore) → Inside
net c = record {
  max_points = c.self.inside.max_points;
  max_edges = c.self.inside.max_edges;
  max_marks = c.self.inside.max_marks;
  states = c.restore.new.states;
  caps = c.restore.new.caps;
  links = c.restore.new.links;
  heads = c.restore.new.heads;
  working = record { waiting = c.self.inside.working.waiting; changes = c.restore.new.changes; path = c.self.inside.working.path; places = c.self.inside.working.places };
  kept = c.self.inside.kept;
  marks = c.restore.new.marks;
}

went : (c : After-restore) → WentBack c.self.inside (net c) (length c.self.inside.marks.items - 1)
went c =
    let e = c.restore.ensures in
    record {
      last = some c;
      points_same = refl;
      edges_same = refl;
      marks_same = refl;
      waiting_same = refl;
      path_same = refl;
      places_same = refl;
      noted = e.cleared.capacity;
      most = e.cleared.most;
      unchanged = e.cleared.none;
      states = λ m g. ap (λ (l : Lists). l.states) (e.back m g);
      caps = λ m g. ap (λ (l : Lists). l.caps) (e.back m g);
      links = λ m g. ap (λ (l : Lists). l.links) (e.back m g);
      heads = λ m g. ap (λ (l : Lists). l.heads) (e.back m g);
      saved = λ m g. ap (λ (l : Lists). l.saved) (e.back m g);
      marks = e.marks;
      states_capacity = e.states_capacity;
      caps_capacity = e.caps_capacity;
      links_capacity = e.links_capacity;
      heads_capacity = e.heads_capacity;
      marks_capacity = e.marks_capacity;
    }

pub invariant_of-self : goal.invariant_of-self
invariant_of-self c = back_live c.self.inside (net c) _ c.self.invariant (went c)

pub returns-clause-content : goal.returns-clause-content
returns-clause-content c =
    let k = (goal.at.returns-clause-content c).After-restore in
    let n = length c.self.inside.marks.items - 1 in
    ap (slice_get c.args.self.now.past) (left k)
    ∙ ap (λ (s : LiveState). slice_get s.past n) (sym c.self.view_is)
    ∙ slice_get-map net_of_core (past_in c.self.inside) n
    ∙ ap (option_map net_of_core) (back_content c.self.inside (net k) n c.self.invariant (went k))

pub returns-clause-past : goal.returns-clause-past
returns-clause-past c =
    let k = (goal.at.returns-clause-past c).After-restore in
    let n = length c.self.inside.marks.items - 1 in
    ap nets_of (back_past c.self.inside (net k) n c.self.invariant (went k))
    ∙ sym (take-map net_of_core n (past_in c.self.inside))
    ∙ ap (λ (s : LiveState). take n s.past) c.self.view_is
    ∙ ap (λ i. take i c.args.self.now.past) (sym (left k))

pub restore-requires-clause-newest : goal.restore-requires-clause-newest
restore-requires-clause-newest c =
    let a = c.self.inside in
    let r = c.requires in
    let v = ap (λ (s : LiveState). length s.past) c.self.view_is in
    let l = length-map a.marks.items (core_at a.working.changes.older a.states.items a.caps.items a.links.items) in
    let n = length-map (past_in a) net_of_core in
    record { some = omega arith; edges_below = λ m g. c.self.invariant.stacked.edges_below (length a.marks.items - 1) m g }
