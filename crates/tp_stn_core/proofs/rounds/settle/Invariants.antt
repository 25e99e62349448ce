use Rattle.std.proofs.Common.{◌≤◌, vec_capacity}
use Rattle.tp_base.specs.Grows.{Rises, AreWithin, slack}
use Rattle.tp_stn_core.proofs.rounds.settle.Given as goal

abbrev pub invariant-rounds : goal.invariant-rounds
invariant-rounds l = record {
  rises : Rises l.edges l.initial.times l.initial.causes l.times l.causes;
  within : AreWithin l.caps l.times;
  path_kept : vec_capacity l.initial.path ≤ vec_capacity l.path;
  places_kept : vec_capacity l.initial.places ≤ vec_capacity l.places;
}

abbrev pub decreases-rounds : goal.decreases-rounds
decreases-rounds l = slack l.caps l.times
