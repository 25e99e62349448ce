use Rattle.std.proofs.Common.{arith, [], ◌∷◌, ◌++◌, length, ap, subst, sym, ◌∙◌, slice_index}
use Rattle.std.proofs.lemmas.List.{length-append}
use Rattle.std.specs.List.{All}
use Rattle.tp_base.specs.Net.{IsLeast}
use Rattle.tp_base.proofs.LeastFacts.{point_within, point_known, point_least}
use Rattle.tp_stn_core.specs.Marks.{past_of}
use Rattle.tp_stn_core.specs.Sound.{IsSound}
use Rattle.tp_base.specs.Kept.{net_of}
use Rattle.tp_stn_core.specs.PlainState.{PlainState}
use Rattle.tp_stn_core.proofs.StackFacts.{stacked_grown}
use Rattle.tp_stn_core.proofs.KeepFacts.{saved_pointed}
use Rattle.tp_stn_core.proofs.PastFacts.{past_point}
use Rattle.tp_stn_core.proofs.network.PlainNetNetwork.point.Goals as goal
use Rattle.tp_stn_core.proofs.network.PlainNetNetwork.point.Goals.{After-push_reserved-4}

solved : (c : After-push_reserved-4) → IsLeast (net_of c.push_reserved.new.self.items c.push_reserved-2.new.self.items c.self.inside.edges.items) (slice_index c.push_reserved-3.new.self.items)
solved c =
    let inv = c.self.invariant in
    let a = c.self.inside in
    rw (c.push_reserved.ensures.items, c.push_reserved-2.ensures.items, c.push_reserved-3.ensures.items)
    (point_least a.lows.items a.caps.items a.times.items a.edges.items c.args.low c.args.cap inv.sound.caps inv.times c.requires inv.sound.known inv.least)

pub returns-clause-solved : goal.returns-clause-solved
returns-clause-solved c = (slice_index c.push_reserved-3.new.self.items, solved c)

pub returns-clause-past : goal.returns-clause-past
returns-clause-past c =
    let a = c.self.inside in
    let inv = c.self.invariant in
    ap (λ ls. past_of a.marks.items a.saved.items ls c.push_reserved-2.new.self.items a.edges.items) c.push_reserved.ensures.items
    ∙ ap (λ cs. past_of a.marks.items a.saved.items (a.lows.items ++ c.args.low ∷ []) cs a.edges.items) c.push_reserved-2.ensures.items
    ∙ past_point a.marks.items a.saved.items a.lows.items a.caps.items a.edges.items a.max_points inv.stacked c.args.low c.args.cap inv.sound.caps
    ∙ ap (λ (s : PlainState). s.past) c.self.view_is

pub invariant_of-self : goal.invariant_of-self
invariant_of-self c =
    let inv = c.self.invariant in
    let a = c.self.inside in
    let el = c.push_reserved.ensures.items in
    let ec = c.push_reserved-2.ensures.items in
    let nl = ap length el ∙ length-append a.lows.items (c.args.low ∷ []) in
    let nc = ap length ec ∙ length-append a.caps.items (c.args.cap ∷ []) in
    let nt = ap length c.push_reserved-3.ensures.items ∙ length-append a.times.items (c.args.low ∷ []) in
    let n = inv.sound.caps in
    let m = inv.times in
    let p = inv.points in
    let full = c.if-len-self.false in
    let len = c.len.ensures in
    let ok = a.lows.ok.0 in
    let k1 = c.push_reserved.ensures.capacity in
    let k2 = c.push_reserved-2.ensures.capacity in
    let k3 = c.push_reserved-3.ensures.capacity in
    let k4 = c.push_reserved-4.ensures.capacity in
    let r1 = inv.capacity.lows in
    let r2 = inv.capacity.caps in
    let r3 = inv.capacity.times in
    let r4 = inv.capacity.newest in
    record {
      points = omega arith;
      edges = inv.edges;
      marks = inv.marks;
      saved = inv.saved;
      capacity = record {
        lows = omega arith;
        caps = omega arith;
        edges = inv.capacity.edges;
        times = omega arith;
        working = inv.capacity.working;
        path = inv.capacity.path;
        saved = inv.capacity.saved;
        newest = omega arith;
        marks = inv.capacity.marks;
      };
      stacked = stacked_grown a.marks.items _ _ _ _ _ _ _ (omega arith) (omega arith) (omega arith) inv.stacked;
      links = rw (c.push_reserved-4.ensures.items, nl) (saved_pointed a.marks.items a.saved.items a.newest.items (length a.lows.items) inv.links);
      sound = record {
        caps = omega arith;
        within = rw (ec, el) (point_within a.lows.items a.caps.items a.times.items a.edges.items c.args.low c.args.cap n m c.requires inv.sound.known inv.sound.within);
        known = rw el (point_known a.lows.items a.caps.items a.times.items a.edges.items c.args.low c.args.cap n m c.requires inv.sound.known);
        solved = (slice_index c.push_reserved-3.new.self.items, solved c);
      };
      times = omega arith;
      least = solved c;
      past = subst (All IsSound) (sym (ap (λ ls. past_of a.marks.items a.saved.items ls c.push_reserved-2.new.self.items a.edges.items) el
          ∙ ap (λ cs. past_of a.marks.items a.saved.items (a.lows.items ++ c.args.low ∷ []) cs a.edges.items) ec
          ∙ past_point a.marks.items a.saved.items a.lows.items a.caps.items a.edges.items a.max_points inv.stacked c.args.low c.args.cap n)) inv.past;
    }
