-- What an ask that can be put on a schedule brings a search: its origin is known, and so are the bounds that there can be.
use Rattle.std.proofs.Common.{◌≡◌, ℕ, ◌+◌, ◌≤◌, List, subst, sym, arith}
use Rattle.tp_machine.specs.declared.machine.Machine.{Machine}
use Rattle.tp_schedule.specs.Answers.{IsAsked, IsAskedFrom}
use Rattle.tp_schedule.specs.Choices.{start_floor}
use Rattle.tp_schedule.specs.PlannerAnswers.{HasTimeFrom}
use Rattle.tp_schedule.specs.declared.parts.Ask.{Ask}
use Rattle.tp_schedule.specs.declared.parts.Origin.{Origin}
use Rattle.tp_schedule.specs.declared.parts.Origin.TheVariants.{Feeder as FromFeeder, Front as FromFront}
use Rattle.tp_schedule.specs.declared.parts.Plan.{Plan}
use Rattle.tp_routes.specs.Tables.{IsKnownOrigin}
use Rattle.tp_routes.proofs.RoomFacts.{fresh_start_known}
use Rattle.tp_search.specs.Limits.{HasNoLimit}
use Rattle.tp_search.specs.SearchProgress.{AreOpenGoals, IsSearching}
use Rattle.tp_search.specs.Stores.{HasBounds, StoreValue}
use Rattle.tp_search.specs.declared.goals.OpenGoal.{OpenGoal}
use Rattle.tp_search.specs.declared.store.Limit.{Limit}
use Rattle.tp_search.proofs.SearchBegins.{empty_under, searching-begins}
use Rattle.tp_search.proofs.StateFacts.{walk_within}

-- a front has led to a location of the machine
pub asked-known : (machine : Machine) (plans : List Plan) (ask : Ask) → IsAsked machine plans ask → IsKnownOrigin machine ask.origin
asked-known machine plans ask asked = go ask.origin asked where
  go : (o : Origin) → IsAskedFrom machine plans ask o → IsKnownOrigin machine o
  go FromFeeder is = tt
  go (FromFront state end count) (p, there, front) = walk_within machine ask.want p.acts front.start state (fresh_start_known machine ask.want front.start front.starts) front.leads

-- the start floor is no earlier than the moment
floor-later : (machine : Machine) (plans : List Plan) (now : ℕ) (o : Origin) → HasTimeFrom plans now o → now ≤ start_floor machine now o
floor-later machine plans now FromFeeder time = omega arith
floor-later machine plans now (FromFront state end count) time = omega arith

-- the search begins with the goals that are open
pub begins-with : (machine : Machine) (plans : List Plan) (ask : Ask) (goals : List OpenGoal) (s : StoreValue) (room width : ℕ) (limit : Limit) (plans' : List Plan) → HasNoLimit limit → AreOpenGoals machine plans ask goals
    → s ≡ empty_under room ask.now width limit → width ≡ machine.window + 1 → HasTimeFrom plans' ask.now ask.origin → IsSearching machine plans ask goals s 0
begins-with machine plans ask goals s room width limit plans' none are is wide time =
    searching-begins machine plans ask goals s room ask.now width limit none are is
    (subst (HasBounds machine ask) (sym is) (floor-later machine plans' ask.now ask.origin time, omega arith))
