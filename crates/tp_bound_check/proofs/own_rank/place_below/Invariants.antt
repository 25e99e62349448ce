use Rattle.std.proofs.Common.{◌≡◌, ◌≤◌, List, length, take, false}
use Rattle.tp_bound_check.specs.Ranks.{is_kept_point, rank_at}
use Rattle.tp_schedule.specs.Choices.{put_places}
use Rattle.tp_schedule.specs.Spots.{Slot, Spot}
use Rattle.tp_bound_check.proofs.own_rank.place_below.Given as goal

abbrev pub invariant-places : goal.invariant-places
invariant-places l = record {
  rules : l.at ≤ length l.rules;
  places : l.at ≤ length l.places;
  same : (from to : Spot) (order : List Slot) → is_kept_point from ≡ false → rank_at l.place (put_places l.resource from to l.rules l.places order) ≡ rank_at l.left (put_places l.resource from to l.rules (take l.at l.places) order);
}

abbrev pub decreases-places : goal.decreases-places
decreases-places l = l.at
