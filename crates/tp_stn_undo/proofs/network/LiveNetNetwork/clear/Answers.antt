use Rattle.std.proofs.Common.{arith, ◌≡◌, ◌+◌, ◌*◌, [], List, length, ap}
use Rattle.std.proofs.lemmas.List.{length-map, nil_from_length}
use Rattle.tp_stn_undo.specs.declared.marks.LiveMark.{LiveMark}
use Rattle.tp_stn_undo.specs.Marks.{core_at, past_of, nets_of}
use Rattle.tp_stn_undo.specs.States.{net_of_core}
use Rattle.tp_stn_undo.specs.Live.{past_in}
use Rattle.tp_stn_undo.specs.LiveState.{LiveState}
use Rattle.tp_stn_undo.proofs.LiveFacts.{live_empty}
use Rattle.tp_stn_undo.proofs.network.LiveNetNetwork.clear.Goals as goal
use Rattle.tp_stn_undo.proofs.network.LiveNetNetwork.clear.Goals.{After-clear-5}

none : (c : After-clear-5) → c.self.inside.marks.items ≡ []
none c =
    let a = c.self.inside in
    let v = ap (λ (s : LiveState). length s.past) c.self.view_is in
    let l = length-map a.marks.items (core_at a.working.changes.older a.states.items a.caps.items a.links.items) in
    let m = length-map (past_in a) net_of_core in
    let e = ap length c.back_to.ensures.past in
    nil_from_length a.marks.items (omega arith)

pub invariant_of-self : goal.invariant_of-self
invariant_of-self c =
    let a = c.self.inside in
    let inv = c.self.invariant in
    let r = inv.capacity in
    let k1 = c.clear.ensures.capacity in
    let k2 = c.clear-2.ensures.capacity in
    let k3 = c.clear-3.ensures.capacity in
    let k4 = c.clear-4.ensures.capacity in
    let k5 = c.clear-5.ensures.capacity in
    let k6 = c.clear-5.ensures.most in
    let m1 : (a.max_marks + 1) * c.clear-5.new.self.capacity ≡ (a.max_marks + 1) * a.working.changes.capacity = ap (λ i. (a.max_marks + 1) * i) k5 in
    let v2 = r.working.noted in
    let s1 = r.states in
    let s2 = r.caps in
    let s3 = r.links in
    let s4 = r.heads in
    let s5 = r.saved in
    live_empty _ c.clear.ensures.items c.clear-2.ensures.items c.clear-3.ensures.items c.clear-4.ensures.items c.clear-5.ensures.older (none c)
    (record {
      states = omega arith;
      caps = omega arith;
      links = omega arith;
      heads = omega arith;
      working = record { waits = r.working.waits; noted = omega arith; path = r.working.path; places = r.working.places };
      saved = omega arith;
      marks = r.marks;
      narrow = r.narrow;
    })
    (record { idle = inv.rest.idle; none = inv.rest.none; unchanged = c.clear-5.ensures.entries; zeros = inv.rest.zeros })

pub returns-clause-past : goal.returns-clause-past
returns-clause-past c = ap (λ (ms : List LiveMark). nets_of (past_of ms c.clear-5.new.self.older c.clear.new.self.items c.clear-2.new.self.items c.clear-3.new.self.items)) (none c)
