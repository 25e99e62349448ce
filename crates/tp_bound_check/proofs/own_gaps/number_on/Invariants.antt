use Rattle.std.proofs.Common.{◌≡◌, List, take}
use Rattle.tp_schedule.specs.Choices.{put_places}
use Rattle.tp_schedule.specs.Spots.{Slot, Spot}
use Rattle.tp_bound_check.proofs.own_gaps.number_on.Given as goal

abbrev pub invariant-rules : goal.invariant-rules
invariant-rules l = (from to : Spot) (order : List Slot) → put_places l.resource from to l.rules (take l.number l.places) order ≡ order
