use Rattle.std.proofs.Common.{arith, ◌∙◌, ◌-◌, length, slice_index, get_or, sym, subst}
use Rattle.std.proofs.lemmas.Int.{ints}
use Rattle.std.proofs.lemmas.List.{length-map}
use Rattle.tp_stn_undo.specs.declared.link.Link.{Link}
use Rattle.tp_stn_undo.specs.States.{times_of, edges_of}
use Rattle.tp_stn_undo.specs.Flags.{AreBelow}
use Rattle.tp_stn_undo.proofs.CauseFacts.{no_link}
use Rattle.tp_stn_undo.proofs.RaiseFacts.{time_at, met_same, known}
use Rattle.tp_stn_undo.proofs.SpreadFacts.{kept_newest, kept_begun, reached_newest, all_kept}
use Rattle.tp_stn_undo.proofs.propagation.settle.Goals as goal

pub bounds-states-edge : goal.bounds-states-edge
bounds-states-edge c = (known c.args.links.now c.args.states.now c.args.number c.requires.some (omega arith) c.requires.ready.bounded.known).from

pub bounds-states-edge-2 : goal.bounds-states-edge-2
bounds-states-edge-2 c = (known c.args.links.now c.args.states.now c.args.number c.requires.some (omega arith) c.requires.ready.bounded.known).to

pub overflow_add-reach : goal.overflow_add-reach
overflow_add-reach c =
    let k = known c.args.links.now c.args.states.now c.args.number c.requires.some (omega arith) c.requires.ready.bounded.known in
    let a = k.least in
    let b = k.most in
    omega (arith, ints)

pub returns-then-reach-from-clause-settled : goal.returns-then-reach-from-clause-settled
returns-then-reach-from-clause-settled c =
    let links = c.args.links.now in
    let states = c.args.states.now in
    let flags = c.args.working.now.waiting.flags in
    let w = known c.args.links.now c.args.states.now c.args.number c.requires.some (omega arith) c.requires.ready.bounded.known in
    let least = w.least in
    let most = w.most in
    let d = (get_or links (c.args.number - 1) no_link).edge in
    let at_from = time_at states d.from.0 w.from in
    let at_to = time_at states d.to.0 w.to in
    let test = c.if-reach-from.true in
    let met = met_same links states c.args.number c.requires.some (omega arith) c.requires.ready.bounded.known flags (omega (arith, ints)) in
    let all = all_kept (edges_of links) (slice_index (times_of states)) flags
    (kept_newest (edges_of links) (slice_index (times_of states)) flags c.args.number (c.requires.newest ∙ sym (length-map links (λ (l : Link). l.edge))) (λ k e g f _. c.requires.kept k e g f) met) c.requires.quiet.idle in
    record {
      rises = record { supported = λ lows n s. s; rises = λ i h. omega arith; below = λ y k h i g. h i g };
      kept = all;
      idle = c.requires.quiet.idle;
      none = c.requires.quiet.none;
    }

pub spread-requires-clause-kept : goal.spread-requires-clause-kept
spread-requires-clause-kept c =
    kept_begun c.args.links.now (slice_index (times_of c.args.states.now)) c.args.working.now.waiting.flags c.args.number c.requires.some c.requires.newest c.requires.kept

pub spread-requires-clause-reached : goal.spread-requires-clause-reached
spread-requires-clause-reached c = reached_newest c.args.links.now c.args.number c.requires.some c.requires.newest

pub spread-requires-clause-waiting : goal.spread-requires-clause-waiting
spread-requires-clause-waiting c = subst (AreBelow (length c.args.states.now)) (sym c.requires.quiet.none) (λ k d h. absurd (omega arith))
