-- A complete list that a board carries, and that ends by a bound, was found.
use Rattle.std.proofs.Common.{◌≡◌, ℕ, ◌≤◌, List, sym, subst}
use Rattle.tp_base.specs.Readings.{Reading}
use Rattle.tp_machine.specs.declared.parts.State.{State}
use Rattle.tp_machine.specs.declared.machine.Machine.{Machine}
use Rattle.tp_schedule.specs.Choices.{Choice, going}
use Rattle.tp_schedule.specs.Routes.{IsStart}
use Rattle.tp_schedule.specs.Spots.Spot.{own}
use Rattle.tp_schedule.specs.declared.parts.Ask.{Ask}
use Rattle.tp_schedule.specs.declared.parts.Origin.TheVariants.{Feeder as FromFeeder}
use Rattle.tp_placing.specs.Boards.{BoardValue, suffix_of}
use Rattle.tp_placing.specs.Ticks.{HasLeastTick}
use Rattle.tp_placing.proofs.StandFacts.{and-some}
use Rattle.tp_search.specs.Boards.{IsFurther, IsLaid}
use Rattle.tp_search.specs.Children.{HasFound}
use Rattle.tp_search.specs.StoredLists.{HasList, IsWayTo}
use Rattle.tp_constraints.specs.Ways.{IsPlaced}
use Rattle.tp_search.proofs.BoardSteps.{the-way}
use Rattle.tp_search.proofs.ChildBoards.{going-of, laid-bound, laid-complete}

module _ {N : Type 0} (reading : Reading N) where
  -- a board carries the list of its choices
  pub laid-list : (b : BoardValue N) (machine : Machine) (ask : Ask) (goal first : State) (choices : List Choice) → IsLaid reading b machine ask goal first choices → IsPlaced machine choices
      → HasList reading b machine ask first (going goal choices)
  laid-list b machine ask goal first choices l placed =
      let w = the-way reading b machine ask goal first choices l in
      record {
        stands = l.stands;
        asked = l.asked;
        way = and-some (suffix_of b) w.x (IsWayTo machine b.plans ask first (going goal choices)) w.suffix
            (record { way = w.is.way; placed = subst (IsPlaced machine) (sym w.is.same) placed; same = going-of goal choices w.x w.is.same w.is.going });
      }

  -- that of a new copy is complete where it begins at a start state
  pub found-laid : (b b' : BoardValue N) (machine : Machine) (ask : Ask) (goal first : State) (choices : List Choice) (bound tick : ℕ) → IsFurther reading b b' → IsLaid reading b' machine ask goal first choices → IsPlaced machine choices
      → ask.origin ≡ FromFeeder → IsStart machine ask first → HasLeastTick machine b' (own 0) tick → tick ≤ bound → HasFound reading b b' machine ask bound
  found-laid b b' machine ask goal first choices bound tick further l placed new starts least in-time = record {
    further = further;
    first = first;
    list = going goal choices;
    end = tick;
    laid = laid-list b' machine ask goal first choices l placed;
    complete = (laid-complete reading b' machine ask goal first choices l).0 (new, starts);
    is_bound = laid-bound reading b' machine ask goal first choices tick l placed least;
    in_time = in-time;
  }
