use Rattle.std.proofs.Common.{◌≡◌, ◌<◌, None, take, slice_index, length}
use Rattle.std.specs.Prelude.{IsSome, IfSome}
use Rattle.std.specs.List.{All}
use Rattle.tp_base.specs.Net.{Keeps}
use Rattle.tp_base.specs.Grows.{Rises, AreWithin, slack}
use Rattle.tp_stn_core.proofs.rounds.round.Given as goal

abbrev pub invariant-edges : goal.invariant-edges
invariant-edges l = record {
  rises : Rises l.edges l.initial.times l.initial.causes l.times l.causes;
  within : AreWithin l.caps l.times;
  keeps : l.last ≡ None → All (Keeps (slice_index l.times)) (take l.edge-index l.edges);
  same : l.last ≡ None → l.times ≡ l.initial.times;
  less : IsSome l.last → slack l.caps l.times < slack l.caps l.initial.times;
  known_last : IfSome l.last (λ p. p.0 < length l.times);
}
