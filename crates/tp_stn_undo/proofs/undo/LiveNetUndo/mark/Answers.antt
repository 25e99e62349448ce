use Rattle.std.proofs.Common.{arith, ◌≡◌, ◌+◌, ◌*◌, [], ◌∷◌, length, ap, ◌∙◌, ◌<◌, vec_capacity, List, ◌++◌, vec_len}
use Rattle.std.proofs.lemmas.List.{length-append, length-map, map-append}
use Rattle.std.proofs.lemmas.List.Elements.{All-push}
use Rattle.tp_stn_undo.specs.declared.marks.LiveMark.{LiveMark}
use Rattle.tp_stn_undo.specs.Marks.{core_at, past_of, nets_of}
use Rattle.tp_stn_undo.specs.States.{IsSound, net_of_core}
use Rattle.tp_stn_undo.specs.LiveState.{LiveState}
use Rattle.tp_stn_undo.proofs.StackFacts.{stacked_marked}
use Rattle.tp_stn_undo.proofs.KeepFacts.{saved_marked}
use Rattle.tp_stn_undo.proofs.PastFacts.{past_marked}
use Rattle.tp_stn_undo.specs.Live.{core_in}
use Rattle.tp_stn_undo.proofs.undo.LiveNetUndo.mark.Goals as goal

pub invariant_of-self : goal.invariant_of-self
invariant_of-self c =
    let inv = c.self.invariant in
    let a = c.self.inside in
    let m : LiveMark = record { points = c.len.result; edges = c.len-2.result; saved = c.saved.result } in
    let e = c.push_reserved.ensures.items in
    let n = ap length e ∙ length-append a.marks.items (m ∷ []) in
    let q = c.requires in
    let v1 = ap (λ (s : LiveState). length s.past) c.self.view_is in
    let v2 = ap (λ (s : LiveState). s.max_marks) c.self.view_is in
    let v3 = length-map a.marks.items (core_at a.working.changes.older a.states.items a.caps.items a.links.items) in
    let v4 = length-map (past_of a.marks.items a.working.changes.older a.states.items a.caps.items a.links.items) net_of_core in
    let p : length c.push_reserved.new.self.items * a.working.changes.capacity ≡ (length a.marks.items + 1) * a.working.changes.capacity = ap (λ k. k * a.working.changes.capacity) n in
    let s1 = inv.saved in
    let s3 = inv.marks in
    let r2 = inv.capacity.marks in
    let k = c.push_reserved.ensures.capacity in
    let mp = c.len.ensures ∙ a.states.ok.0 in
    let me = c.len-2.ensures ∙ a.links.ok.0 in
    let ms = c.saved.ensures in
    record {
      points = inv.points;
      edges = inv.edges;
      marks = omega arith;
      saved = omega arith;
      capacity = record {
        states = inv.capacity.states;
        caps = inv.capacity.caps;
        links = inv.capacity.links;
        heads = inv.capacity.heads;
        working = inv.capacity.working;
        saved = inv.capacity.saved;
        marks = omega arith;
        narrow = inv.capacity.narrow;
      };
      rest = inv.rest;
      stacked = rw e (stacked_marked a.marks.items (length a.states.items) (length a.links.items) (length a.working.changes.older) a.working.changes.capacity m mp me ms inv.stacked inv.saved);
      kept = rw e (saved_marked a.marks.items a.working.changes.older (length a.states.items) m mp ms inv.kept);
      linked = inv.linked;
      sound = inv.sound;
      past = rw (e, past_marked a.marks.items a.working.changes.older a.states.items a.caps.items a.links.items a.working.changes.capacity inv.stacked m mp me ms inv.sound.caps) (All-push IsSound _ _ inv.past inv.sound);
    }

pub push_reserved-requires : goal.push_reserved-requires
push_reserved-requires c =
    let a = c.self.inside in
    let v1 = ap (λ (s : LiveState). length s.past) c.self.view_is in
    let v3 = length-map a.marks.items (core_at a.working.changes.older a.states.items a.caps.items a.links.items) in
    let v4 = length-map (past_of a.marks.items a.working.changes.older a.states.items a.caps.items a.links.items) net_of_core in
    let v2 = ap (λ (s : LiveState). s.max_marks) c.self.view_is in
    let q = c.requires in
    let r = c.self.invariant.capacity.marks in
    let h : vec_len a.marks < vec_capacity a.marks = omega (arith, a.marks.ok.0) in
    h

pub returns-clause-number : goal.returns-clause-number
returns-clause-number c =
    let a = c.self.inside in
    let v1 = ap (λ (s : LiveState). length s.past) c.self.view_is in
    let v3 = length-map a.marks.items (core_at a.working.changes.older a.states.items a.caps.items a.links.items) in
    let v4 = length-map (past_of a.marks.items a.working.changes.older a.states.items a.caps.items a.links.items) net_of_core in
    omega (arith, c.len-number.ensures, a.marks.ok.0)

pub returns-clause-past : goal.returns-clause-past
returns-clause-past c =
    let a = c.self.inside in
    let inv = c.self.invariant in
    let m : LiveMark = record { points = c.len.result; edges = c.len-2.result; saved = c.saved.result } in
    let past = past_of a.marks.items a.working.changes.older a.states.items a.caps.items a.links.items in
    ap (λ (ms : List LiveMark). nets_of (past_of ms a.working.changes.older a.states.items a.caps.items a.links.items)) c.push_reserved.ensures.items
    ∙ ap nets_of (past_marked a.marks.items a.working.changes.older a.states.items a.caps.items a.links.items a.working.changes.capacity inv.stacked m (c.len.ensures ∙ a.states.ok.0) (c.len-2.ensures ∙ a.links.ok.0) c.saved.ensures inv.sound.caps)
    ∙ map-append net_of_core past (core_in a ∷ [])
    ∙ ap (λ (s : LiveState). s.past ++ s.net ∷ []) c.self.view_is
