use Rattle.std.proofs.Common.{arith, ◌≡◌, ◌+◌, ◌*◌, [], ◌∷◌, length, ap, ◌∙◌}
use Rattle.std.proofs.lemmas.List.{length-append, length-map}
use Rattle.std.proofs.lemmas.List.Elements.{All-push}
use Rattle.tp_stn_core.specs.declared.marks.PlainMark.{PlainMark}
use Rattle.tp_stn_core.specs.Marks.{net_at}
use Rattle.tp_stn_core.specs.Sound.{IsSound}
use Rattle.tp_stn_core.specs.PlainState.{PlainState}
use Rattle.tp_stn_core.proofs.StackFacts.{stacked_marked}
use Rattle.tp_stn_core.proofs.KeepFacts.{saved_marked}
use Rattle.tp_stn_core.proofs.PastFacts.{past_marked}
use Rattle.tp_stn_core.proofs.undo.PlainNetUndo.mark.Goals as goal

pub invariant_of-self : goal.invariant_of-self
invariant_of-self c =
    let inv = c.self.invariant in
    let a = c.self.inside in
    let m : PlainMark = record { points = c.len.result; edges = c.len-2.result; saved = c.len-3.result } in
    let e = c.push_reserved.ensures.items in
    let n = ap length e ∙ length-append a.marks.items (m ∷ []) in
    let q = c.requires in
    let v1 = ap (λ (s : PlainState). length s.past) c.self.view_is in
    let v2 = ap (λ (s : PlainState). s.max_marks) c.self.view_is in
    let v3 = length-map a.marks.items (net_at a.saved.items a.lows.items a.caps.items a.edges.items) in
    let p : length c.push_reserved.new.self.items * a.max_points ≡ (length a.marks.items + 1) * a.max_points = ap (λ k. k * a.max_points) n in
    let s1 = inv.saved in
    let s3 = inv.marks in
    let r2 = inv.capacity.marks in
    let k = c.push_reserved.ensures.capacity in
    let mp = c.len.ensures ∙ a.lows.ok.0 in
    let me = c.len-2.ensures ∙ a.edges.ok.0 in
    let ms = c.len-3.ensures ∙ a.saved.ok.0 in
    record {
      points = inv.points;
      edges = inv.edges;
      marks = omega arith;
      saved = omega arith;
      capacity = record {
        lows = inv.capacity.lows;
        caps = inv.capacity.caps;
        edges = inv.capacity.edges;
        times = inv.capacity.times;
        working = inv.capacity.working;
        path = inv.capacity.path;
        saved = inv.capacity.saved;
        newest = inv.capacity.newest;
        marks = omega arith;
      };
      stacked = rw e (stacked_marked a.marks.items (length a.lows.items) (length a.edges.items) (length a.saved.items) a.max_points m mp me ms inv.stacked inv.saved);
      links = rw e (saved_marked a.marks.items a.saved.items a.newest.items (length a.lows.items) m mp ms inv.links);
      sound = inv.sound;
      times = inv.times;
      least = inv.least;
      past = rw (e, past_marked a.marks.items a.saved.items a.lows.items a.caps.items a.edges.items a.max_points inv.stacked m mp me ms inv.sound.caps) (All-push IsSound _ _ inv.past inv.sound);
    }
