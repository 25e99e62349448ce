use Rattle.std.proofs.Common.{◌∙◌, ap, sym, refl, arith, pos}
use Rattle.tp_machine.specs.declared.parts.Anchor.TheVariants.{Start}
use Rattle.tp_machine.specs.declared.parts.HoldRule.{HoldRule}
use Rattle.tp_bound_check.specs.Founds.{track_of}
use Rattle.tp_constraints.proofs.Steps.{put_places-none}
use Rattle.tp_bound_check.proofs.TrackFacts.{places-few, places-more}
use Rattle.tp_bound_check.proofs.found.Track.put_places.Goals as goal

-- what an index reads beyond the end
abbrev nothing : HoldRule
nothing = record { resource = record { 0 = 0 }; begin = Start; begin_off = pos 0; end = Start; end_off = pos 0; mode = 0 }

pub places-init : goal.places-init
places-init c = record {
  order = λ order is. is ∙ ap (track_of c.args.ends.now.before c.args.ends.now.after) (sym (put_places-none c.args.resource c.args.leg.now.from c.args.leg.now.to c.args.rules.now order));
  len = omega arith;
  track = c.requires.track;
}

pub places-preserved : goal.places-preserved
places-preserved c =
    let m = c.min-count.ensures in let t = c.places-test.true in let l = c.places.invariant.len in let n = c.put_place-track.ensures.len in
    record {
      order = λ order is.
          places-more c.args.ends.now.before c.args.ends.now.after c.args.resource c.args.leg.now.from c.args.leg.now.to c.args.rules.now c.args.places.now c.places.at _ _ order c.places.track c.put_place-track.result nothing
          (omega arith) (omega arith) refl refl (c.places.invariant.order order is) c.put_place-track.ensures.order;
      len = omega arith;
      track = c.put_place-track.ensures.track;
    }

pub returns-clause-order : goal.returns-clause-order
returns-clause-order c = λ order is.
    let m = c.min-count.ensures in let t = c.places-test.false in
    c.places.invariant.order order is
    ∙ ap (track_of c.args.ends.now.before c.args.ends.now.after) (places-few c.args.resource c.args.leg.now.from c.args.leg.now.to c.args.rules.now c.args.places.now c.places.at order (omega arith))
