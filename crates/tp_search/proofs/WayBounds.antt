-- The bound of a way, and a complete way as one that can be committed.
use Rattle.std.proofs.Common.{subst, arith}
use Rattle.tp_schedule.specs.Choices.{OpensTo}
use Rattle.tp_constraints.specs.Suffixes.{list_of}
use Rattle.tp_constraints.proofs.WayLists.{opened-times, way-list, way-opens_to}
use Rattle.tp_search.specs.WayLaws.{WayBound, WayCommit}

pub way-bound : WayBound
way-bound machine plans ask goal first x tick way placed l = record {
  opens = subst (λ end. OpensTo machine plans ask (list_of goal x) end) l.there (way-opens_to machine plans ask goal first x way placed l.ticks l.are_times);
  least = λ end o. let below = l.least o.ticks (opened-times machine plans ask goal first x way.rooms way.allowed end o) in omega (arith, below, o.ends);
}

pub way-commit : WayCommit
way-commit machine plans ask goal first x way placed complete some start = record {
  goal = goal;
  first = first;
  rooms = way.rooms;
  starts = start;
  is_list = way-list machine plans ask goal first x way placed;
  complete = complete;
  some = some;
}
