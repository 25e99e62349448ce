use Rattle.std.proofs.Common.{arith, ◌≡◌, [], ◌∷◌, ◌++◌, length, ap, subst, sym, ◌∙◌, slice_index}
use Rattle.std.proofs.lemmas.List.{length-append}
use Rattle.std.specs.List.{All}
use Rattle.tp_stn_undo.specs.declared.point_state.PointState.{PointState}
use Rattle.tp_stn_undo.specs.States.{IsSound, times_of}
use Rattle.tp_stn_undo.specs.Marks.{past_of, nets_of}
use Rattle.tp_stn_undo.specs.LiveState.{LiveState}
use Rattle.tp_stn_undo.proofs.StackFacts.{stacked_grown}
use Rattle.tp_stn_undo.proofs.KeepFacts.{saved_pointed}
use Rattle.tp_stn_undo.proofs.LinkedFacts.{links_pointed}
use Rattle.tp_stn_undo.proofs.PastFacts.{past_point}
use Rattle.tp_stn_undo.proofs.SoundFacts.{sound_pushed}
use Rattle.tp_stn_undo.proofs.network.LiveNetNetwork.point.Goals as goal
use Rattle.tp_stn_undo.proofs.network.LiveNetNetwork.point.Goals.{After-push_point}

sound : (c : After-push_point) → IsSound (record { states = c.push_point.new.states.items; caps = c.push_point.new.caps.items; links = c.self.inside.links.items })
sound c =
    let a = c.self.inside in
    rw (c.push_point.ensures.states, c.push_point.ensures.caps) (sound_pushed a.states.items a.caps.items a.links.items c.args.low c.args.cap c.self.invariant.sound c.requires)

pub returns-clause-solved : goal.returns-clause-solved
returns-clause-solved c = (slice_index (times_of c.push_point.new.states.items), (sound (goal.at.returns-clause-solved c).After-push_point).least)

past_is : (c : After-push_point) → past_of c.self.inside.marks.items c.self.inside.working.changes.older c.push_point.new.states.items c.push_point.new.caps.items c.self.inside.links.items ≡ past_of c.self.inside.marks.items c.self.inside.working.changes.older c.self.inside.states.items c.self.inside.caps.items c.self.inside.links.items
past_is c =
    let a = c.self.inside in
    let inv = c.self.invariant in
    let s : PointState = record { low = c.args.low; time = c.args.low; cause = 0 } in
    ap (λ ls. past_of a.marks.items a.working.changes.older ls c.push_point.new.caps.items a.links.items) c.push_point.ensures.states
    ∙ ap (λ cs. past_of a.marks.items a.working.changes.older (a.states.items ++ s ∷ []) cs a.links.items) c.push_point.ensures.caps
    ∙ past_point a.marks.items a.working.changes.older a.states.items a.caps.items a.links.items a.working.changes.capacity inv.stacked s c.args.cap inv.sound.caps

pub returns-clause-past : goal.returns-clause-past
returns-clause-past c = ap nets_of (past_is (goal.at.returns-clause-past c).After-push_point) ∙ ap (λ (s : LiveState). s.past) c.self.view_is

pub invariant_of-self : goal.invariant_of-self
invariant_of-self c =
    let k = (goal.at.invariant_of-self c).After-push_point in
    let inv = c.self.invariant in
    let a = c.self.inside in
    let s : PointState = record { low = c.args.low; time = c.args.low; cause = 0 } in
    let el = c.push_point.ensures.states in
    let nl = ap length el ∙ length-append a.states.items (s ∷ []) in
    let p = inv.points in
    let full = c.if-len-self.false in
    let len = c.len.ensures in
    let ok = a.states.ok.0 in
    let k1 = c.push_point.ensures.states_kept in
    let k2 = c.push_point.ensures.caps_kept in
    let k3 = c.push_point.ensures.heads_kept in
    let r1 = inv.capacity.states in
    let r2 = inv.capacity.caps in
    let r3 = inv.capacity.heads in
    record {
      points = omega arith;
      edges = inv.edges;
      marks = inv.marks;
      saved = inv.saved;
      capacity = record {
        states = omega arith;
        caps = omega arith;
        links = inv.capacity.links;
        heads = omega arith;
        working = inv.capacity.working;
        saved = inv.capacity.saved;
        marks = inv.capacity.marks;
        narrow = inv.capacity.narrow;
      };
      rest = inv.rest;
      stacked = stacked_grown a.marks.items _ _ _ _ _ _ _ (omega arith) (omega arith) (omega arith) inv.stacked;
      kept = rw nl (saved_pointed a.marks.items a.working.changes.older (length a.states.items) inv.kept);
      linked = rw (c.push_point.ensures.heads, nl) (links_pointed a.links.items a.heads.items (length a.states.items) inv.sound.known inv.linked);
      sound = sound k;
      past = subst (All IsSound) (sym (past_is k)) inv.past;
    }
