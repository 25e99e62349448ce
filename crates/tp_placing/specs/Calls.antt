-- What the calls of a board say.
use Rattle.std.specs.Prelude.{◌≡◌, ℕ, ◌+◌, ◌<◌, ◌≤◌, IsFalse, List, ◌∷◌, length, slice_get, Some, IsSomeAnd}
use Rattle.tp_machine.specs.ModuleUse.{action_at}
use Rattle.tp_machine.specs.declared.parts.HoldRule.{HoldRule}
use Rattle.tp_machine.specs.declared.machine.Machine.{Machine}
use Rattle.tp_schedule.specs.Answers.{kept_of}
use Rattle.tp_schedule.specs.Choices.{Choice}
use Rattle.tp_schedule.specs.Holders.{holds_of_act}
use Rattle.tp_schedule.specs.Limits.{most_acts}
use Rattle.tp_schedule.specs.declared.parts.Ask.{Ask}
use Rattle.tp_schedule.specs.declared.parts.Plan.{Plan}
use Rattle.tp_schedule.specs.Spots.{Ticks}
use Rattle.tp_constraints.specs.Suffixes.{Suffix, SuffixTimes, order_in}
use Rattle.tp_placing.specs.Boards.{BoardValue}

-- the loaded plans and the suffix have times under the loaded ask, or they have none
abbrev pub HasTimes : {N : Type 0} → Machine → BoardValue N → Suffix → Type 0
HasTimes machine b x = IsSomeAnd b.ask (λ ask. (t : Ticks) × SuffixTimes machine b.plans ask x t)

abbrev pub HasNoTimes : {N : Type 0} → Machine → BoardValue N → Suffix → Type 0
HasNoTimes machine b x = IsSomeAnd b.ask (λ ask. (t : Ticks) → ¬ SuffixTimes machine b.plans ask x t)

-- the same is loaded
pub record IsSameLoad {N : Type 0} (b b' : BoardValue N) : Type 0 where
  pub made_for : b'.made_for ≡ b.made_for
  pub plans : b'.plans ≡ b.plans
  pub ask : b'.ask ≡ b.ask

-- one action more may come before the suffix: it isn't stopped, and its actions and the kept ones are fewer than 64
pub record CanGoOn (ask : Ask) (x : Suffix) : Type 0 where
  pub going : IsFalse x.stopped
  pub fewer : kept_of ask + length x.choices < most_acts

-- the hold is the first of the newest choice that isn't placed, and the order of its resource has the place
pub record CanPlace (machine : Machine) (plans : List Plan) (x : Suffix) (hold place : ℕ) : Type 0 where
  pub choice : Choice
  pub choices : List Choice
  pub newest : x.choices ≡ choice ∷ choices
  pub next : hold ≡ length choice.places
  pub rule : HoldRule
  pub is_rule : slice_get (holds_of_act (action_at machine choice.act.0)) hold ≡ Some rule
  pub within : place ≤ length (order_in machine plans x rule.resource.0)
