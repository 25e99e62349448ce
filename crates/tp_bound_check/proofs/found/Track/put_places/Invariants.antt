use Rattle.std.proofs.Common.{◌≡◌, ◌+◌, ◌≤◌, List, take}
use Rattle.tp_schedule.specs.Choices.{put_places}
use Rattle.tp_schedule.specs.Spots.{Slot}
use Rattle.tp_bound_check.specs.Founds.{IsTrack, track_of}
use Rattle.tp_bound_check.proofs.found.Track.put_places.Given as goal

abbrev pub invariant-places : goal.invariant-places
invariant-places l = record {
  order : (order : List Slot) → l.fn.self ≡ track_of l.ends.before l.ends.after order → l.track ≡ track_of l.ends.before l.ends.after (put_places l.resource l.leg.from l.leg.to l.rules (take l.at l.places) order);
  len : l.track.len ≤ l.fn.self.len + l.at;
  track : IsTrack l.track;
}
