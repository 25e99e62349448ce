use Rattle.std.proofs.Common.{◌≡◌, ◌+◌, ◌*◌, ◌<◌, ◌^◌}
use Rattle.tp_bound_check.specs.Founds.{IsTrack, track_of}
use Rattle.tp_bound_check.specs.Stands.{order_until}
use Rattle.tp_bound_check.proofs.orders.CheckScene.track_from.Given as goal

abbrev pub invariant-choices : goal.invariant-choices
invariant-choices l = record {
  order : l.track ≡ track_of l.ends.before l.ends.after (order_until l.self.rows.machine.now l.self.plans.now l.branch l.resource l.at);
  track : IsTrack l.track;
  few : l.track.len < 2 ^ 32 + 4 * l.at;
}
