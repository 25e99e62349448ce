use Rattle.std.proofs.Common.{◌≡◌, ◌≤◌, ◌-◌, Some}
use Rattle.std.specs.Prelude.{pos}
use Rattle.tp_constraints.specs.Suffixes.{Suffix}
use Rattle.tp_placing.specs.Boards.{suffix_of}
use Rattle.tp_bound_make.specs.Ranges.{IsRange}
use Rattle.tp_bound_make.specs.TreeProgress.{IsBack}
use Rattle.tp_bound_make.proofs.widest_places.widest.Given as goal

-- the range so far, which may reach no further than this
abbrev pub invariant-wider : goal.invariant-wider
invariant-wider g l = record {
  range : (x : Suffix) → suffix_of l.fn.board ≡ Some x → IsRange l.scene.machine.now l.fn.board.plans l.scene.ask.now (pos l.scene.limit) x l.places.rule l.places.lo l.places.lo l.places.last l.range;
  most : l.most ≤ l.places.last;
  back : IsBack g.N.Network.reading l.fn.board l.board l.scene.machine.now;
}

abbrev pub decreases-wider : goal.decreases-wider
decreases-wider g l = l.most - l.range.hi
