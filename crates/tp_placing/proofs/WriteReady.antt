-- A board that is ready to be committed.
use Rattle.std.proofs.Common.{◌≡◌, suc, ◌+◌, ◌-◌, List, length, ap, ◌∙◌, Some, IsSomeAnd, All}
use Rattle.std.specs.List.{slice_get}
use Rattle.std.proofs.lemmas.List.Elements.{All-contains}
use Rattle.tp_base.specs.Readings.{Reading}
use Rattle.tp_base.specs.Net.{Net}
use Rattle.tp_machine.specs.declared.machine.Machine.{Machine}
use Rattle.tp_schedule.specs.Answers.{IsAsked, IsAskedFrom, kept_acts, kept_from, kept_of, acts_in}
use Rattle.tp_schedule.specs.Plans.{IsFormed, IsTimedPlan}
use Rattle.tp_schedule.specs.declared.parts.Ask.{Ask}
use Rattle.tp_schedule.specs.declared.parts.Origin.{Origin}
use Rattle.tp_schedule.specs.declared.parts.Origin.TheVariants.{Feeder as FromFeeder, Front as FromFront}
use Rattle.tp_schedule.specs.declared.parts.Plan.{Plan}
use Rattle.tp_schedule.proofs.Membership.{All-from_contains}
use Rattle.tp_constraints.specs.Numbers.{table_of, ticks_by}
use Rattle.tp_constraints.specs.Suffixes.{Suffix}
use Rattle.tp_constraints.proofs.PointNumbers.{number-at}
use Rattle.tp_placing.specs.declared.parts.Step.{Step}
use Rattle.tp_placing.specs.Boards.{BoardValue, suffix_after}
use Rattle.tp_placing.specs.LoadedBoard.{IsAtHand, IsAtWith, StandsOn, board_table}
use Rattle.tp_placing.specs.Commits.{AreLeastTicks, CanCommit}
use Rattle.tp_placing.proofs.StandFacts.{at-suffix, length-lows, some-and}

pub record IsReady {N : Type 0} (net : N → Net) (b : BoardValue N) (machine : Machine) (ask : Ask) (newest : Step) : Type 0 where
  pub x : Suffix
  pub suffix : suffix_after b.steps ≡ Some x
  pub complete : CanCommit machine b.plans ask x
  pub at : IsAtWith machine b.plans ask (Some x) b.steps (net b.net) b.orders.orders b.held
  pub first : newest.first.0 ≡ length (table_of b.plans) + length x.choices
  pub lows : length (net b.net).lows ≡ length (table_of b.plans) + suc (length x.choices)

module _ {N : Type 0} (reading : Reading N) where
  pub ready : (b : BoardValue N) (m : Machine) (ask : Ask) (newest : Step) → StandsOn reading b m ask → IsSomeAnd (suffix_after b.steps) (CanCommit m b.plans ask) → slice_get b.steps (length b.steps - 1) ≡ Some newest
      → IsReady reading.net b m ask newest
  ready b m ask newest s complete last =
      let y = some-and (suffix_after b.steps) (CanCommit m b.plans ask) complete in
      let at = at-suffix reading b m ask y.0 s y.1 in
      let hand : IsAtHand (length (table_of b.plans)) (Some y.0) newest = at.at_hand newest last in
      record { x = y.0; suffix = y.1; complete = y.2; at = at; first = hand.1; lows = length-lows m b.plans ask y.0 b.steps (reading.net b.net) b.orders.orders b.held at }

-- the least ticks of all its points
pub ready-ticks : (m : Machine) (plans : List Plan) (ask : Ask) (x : Suffix) (steps : List Step) (n : Net) (timelines : _) (holds : _) (at : IsAtWith m plans ask (Some x) steps n timelines holds) → AreLeastTicks n (board_table plans (Some x)) (ticks_by (board_table plans (Some x)) at.solved.0)
ready-ticks m plans ask x steps n timelines holds at = record {
  solution = at.solved.0;
  least = at.solved.1;
  there = λ i s e. ap at.solved.0 (number-at (board_table plans (Some x)) at.net.is_table.differ i s e);
}

-- as many actions are kept as the ask says
pub kept-count : (m : Machine) (plans : List Plan) (ask : Ask) → IsAsked m plans ask → length (kept_acts ask.sheet plans) ≡ kept_of ask
kept-count m plans ask asked = by ask.origin asked where
  by : (o : Origin) → IsAskedFrom m plans ask o → length (kept_acts ask.sheet plans) ≡ kept_from o
  by FromFeeder none = ap (λ p. length (acts_in p)) none
  by (FromFront state end count) (p, planned, front) = ap (λ q. length (acts_in q)) planned ∙ front.acts

pub timed-formed : (m : Machine) (plans : List Plan) → All (IsTimedPlan m) plans → All IsFormed plans
timed-formed m plans timed = All-from_contains IsFormed plans (λ p in'. (let one = All-contains (IsTimedPlan m) plans p timed in' in record { some = one.some; one_more = one.one_more; released = one.released }))
