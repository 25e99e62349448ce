-- One name after another is a machine's.
use Rattle.std.proofs.Common.{◌≡◌, ◌+◌, ◌<◌, [], ◌∷◌, ◌++◌, length, take, sym, subst, ◌∙◌, arith}
use Rattle.std.specs.List.{AllZip}
use Rattle.tp_outside.proofs.Parts.{IsCounted-more}
use Rattle.tp_words.specs.Parts.{shown}
use Rattle.tp_program.specs.FarmEnds.{BeginsOn}
use Rattle.tp_program.proofs.FarmEndFacts.{All-pushed, machines-amiss, machines-refused, map-pushed, one-begins, stays-more}
use Rattle.tp_program.proofs.machines.find_sessions.Goals as goal

pub returns-in-Err-clause-none : goal.returns-in-Err-clause-none
returns-in-Err-clause-none g c =
    let inside : c.loop-place.place < length c.args.names.now = omega arith in
    machines-refused (g.H.Shelf.known c.args.shelf.now) (g.H.Shelf.known c.loop-place.shelf) c.args.names.now c.loop-place.place (record { ref_ptr = (0, 0); now = [] }) inside
    c.args.settings.budget c.args.settings.bounds _ c.loop-place.invariant.known c.loop-place.invariant.begin c.in-Err.status c.of_machine.result c.of_machine.ensures c.in-Err.ensures.none

pub returns-in-Err-clause-amiss : goal.returns-in-Err-clause-amiss
returns-in-Err-clause-amiss g c =
    let inside : c.loop-place.place < length c.args.names.now = omega arith in
    machines-amiss (g.H.Shelf.known c.args.shelf.now) (g.H.Shelf.known c.loop-place.shelf) c.args.names.now c.loop-place.place (record { ref_ptr = (0, 0); now = [] }) inside
    c.args.settings.budget c.args.settings.bounds _ c.loop-place.invariant.known c.loop-place.invariant.begin
    (g.H.Shelf.amiss c.args.shelf.now) (g.H.Shelf.amiss c.loop-place.shelf) (g.H.Shelf.amiss c.find_session.new.shelf)
    c.in-Err.status c.of_machine.result c.of_machine.ensures c.loop-place.invariant.not_amiss c.in-Err.ensures.amiss

pub loop-place-preserved : goal.loop-place-preserved
loop-place-preserved g c =
    let inside : c.loop-place.place < length c.args.names.now = omega arith in
    record {
      begin =
          subst (AllZip (BeginsOn (g.H.Shelf.known c.args.shelf.now) c.args.settings.budget c.args.settings.bounds) (take (c.loop-place.place + 1) (shown c.args.names.now)))
          (sym (map-pushed c.loop-place.sessions.items c.push.new.self.items c.in-Ok.session (λ s. s.standing) c.in-Ok-push.ensures.items))
          (one-begins (g.H.Shelf.known c.args.shelf.now) (g.H.Shelf.known c.loop-place.shelf) c.args.names.now c.loop-place.place (record { ref_ptr = (0, 0); now = [] }) inside
          c.args.settings.budget c.args.settings.bounds _ c.loop-place.invariant.known c.loop-place.invariant.begin c.in-Ok.session.standing c.in-Ok.ensures.begins);
      fresh = All-pushed c.loop-place.sessions.items c.push.new.self.items c.in-Ok.session (λ s. (s.text ≡ []) × (s.answered ≡ 0)) c.in-Ok-push.ensures.items c.loop-place.invariant.fresh c.in-Ok.ensures.fresh;
      known = c.find_session.ensures.known_stays ∙ c.loop-place.invariant.known;
      counted = IsCounted-more _ _ _ c.loop-place.invariant.counted c.find_session.ensures.counted;
      not_amiss = stays-more (g.H.Shelf.known c.args.shelf.now) (g.H.Shelf.known c.loop-place.shelf) _ _ _ c.loop-place.invariant.known c.loop-place.invariant.not_amiss c.in-Ok.ensures.not_amiss;
    }
