use Rattle.std.proofs.Common.{arith, ℕ, ◌≡◌, ◌<◌, ◌≤◌, List, [], length, ap, subst, sym, ◌∙◌, slice_index, set, refl}
use Rattle.std.proofs.lemmas.List.{length-map, length-set, nil_from_length}
use Rattle.std.proofs.lemmas.List.Elements.{All-nil}
use Rattle.std.specs.List.{All}
use Rattle.tp_base.specs.Net.{IsEarliest, IsLeast, with_bounds_at}
use Rattle.tp_base.proofs.BoundFacts.{moved_least}
use Rattle.tp_stn_core.specs.declared.marks.PlainMark.{PlainMark}
use Rattle.tp_stn_core.specs.Marks.{net_at, past_of}
use Rattle.tp_stn_core.specs.Plain.{net_in}
use Rattle.tp_stn_core.specs.PlainState.{PlainState}
use Rattle.tp_stn_core.specs.Sound.{IsSound}
use Rattle.tp_stn_core.proofs.network.PlainNetNetwork.set_bounds.Goals as goal
use Rattle.tp_stn_core.proofs.network.PlainNetNetwork.set_bounds.Goals.{After-index_mut-2}

none : (c : After-index_mut-2) → c.self.inside.marks.items ≡ []
none c =
    let a = c.self.inside in
    let v = ap (λ (s : PlainState). length s.past) c.self.view_is in
    let l = length-map a.marks.items (net_at a.saved.items a.lows.items a.caps.items a.edges.items) in
    let e = ap length c.requires.unmarked in
    nil_from_length a.marks.items (omega arith)

known : (c : After-index_mut-2) → c.args.point.0 < length c.self.inside.lows.items
known c = let v = ap (λ (s : PlainState). length s.net.lows) c.self.view_is in let k = c.requires.known in omega arith

-- a least solution stays one
moved : (c : After-index_mut-2) (x : ℕ → ℕ) → IsLeast (net_in c.self.inside) x → IsLeast (with_bounds_at (net_in c.self.inside) c.args.point.0 c.args.low c.args.cap) x
moved c x is =
    let p = c.args.point.0 in
    let more = subst (λ (s : PlainState). slice_index s.net.lows p ≤ c.args.low) (sym c.self.view_is) c.requires.more in
    let around = c.requires.around (x p) (subst (λ (s : PlainState). IsEarliest s.net p (x p)) c.self.view_is (x, is, refl)) in
    moved_least (net_in c.self.inside) p c.args.low c.args.cap x c.self.invariant.sound.caps (known c) more around.0 around.1 is

pub returns-clause-same_least : goal.returns-clause-same_least
returns-clause-same_least c x is = moved (goal.at.returns-clause-same_least c).After-index_mut-2 x (subst (λ (s : PlainState). IsLeast s.net x) (sym c.self.view_is) is)

pub invariant_of-self : goal.invariant_of-self
invariant_of-self c =
    let k = (goal.at.invariant_of-self c).After-index_mut-2 in
    let a = c.self.inside in
    let inv = c.self.invariant in
    let n = length-set a.lows.items c.args.point.0 c.args.low in
    let m = length-set a.caps.items c.args.point.0 c.args.cap in
    let least = moved k (slice_index a.times.items) inv.least in
    let p = inv.points in
    let t = inv.times in
    let s = inv.sound.caps in
    record {
      points = omega arith;
      edges = inv.edges;
      marks = inv.marks;
      saved = inv.saved;
      capacity = record {
        lows = inv.capacity.lows;
        caps = inv.capacity.caps;
        edges = inv.capacity.edges;
        times = inv.capacity.times;
        working = inv.capacity.working;
        path = inv.capacity.path;
        saved = inv.capacity.saved;
        newest = inv.capacity.newest;
        marks = inv.capacity.marks;
      };
      stacked = rw n inv.stacked;
      links = rw n inv.links;
      sound = record {
        caps = m ∙ s ∙ sym n;
        within = λ i inside. (
            let above = least.solution.above_low i (omega arith) in
            let below = least.solution.below_cap i (omega arith) in
            omega arith);
        known = rw n inv.sound.known;
        solved = (slice_index a.times.items, least);
      };
      times = t ∙ sym n;
      least = least;
      past = subst (λ (ms : List PlainMark). All IsSound (past_of ms a.saved.items (set a.lows.items c.args.point.0 c.args.low) (set a.caps.items c.args.point.0 c.args.cap) a.edges.items)) (sym (none k)) (All-nil IsSound);
    }
