-- The next hold of the newest action, and a hold that was put into its order.
use Rattle.std.specs.Prelude.{◌≡◌, ℕ, ◌-◌, List, [], ◌∷◌, ◌++◌, insert, length, slice_get, slice_set, Some, IsSomeAnd}
use Rattle.tp_machine.specs.Modes.{gap_at}
use Rattle.tp_machine.specs.ModuleUse.{action_at}
use Rattle.tp_machine.specs.declared.machine.Machine.{Machine}
use Rattle.tp_schedule.specs.Holders.{holds_of_act}
use Rattle.tp_timelines.specs.Orders.{Orders, order_on}
use Rattle.tp_placing.specs.Boards.{BoardValue}
use Rattle.tp_placing.specs.Causes.{step_tag}
use Rattle.tp_placing.specs.declared.candidates.Candidate.{Candidate}
use Rattle.tp_placing.specs.declared.parts.Change.TheVariants.{Place}
use Rattle.tp_placing.specs.declared.parts.Held.{Held}
use Rattle.tp_placing.specs.declared.parts.Step.{Step}

-- it is the newest action's hold of this number, with the gap of its resource and the tag of its first edge
pub record IsCandidate {N : Type 0} (b : BoardValue N) (machine : Machine) (hold : ℕ) (c : Candidate) : Type 0 where
  pub newest : slice_get b.steps (length b.steps - 1) ≡ Some c.newest
  pub rule : IsSomeAnd c.newest.newest (λ act. slice_get (holds_of_act (action_at machine act.0)) hold ≡ Some c.hold.rule)
  pub start : c.hold.start ≡ c.newest.first
  pub end : c.hold.end.0 ≡ c.newest.first.0 - 1
  pub gap : c.gap ≡ gap_at machine c.hold.rule.resource.0
  pub tag : c.tag ≡ step_tag (length b.steps)

-- the step that places a hold of the newest action
abbrev pub place_step : Step → ℕ → Step
place_step newest place = record { change = Place place; newest = newest.newest; first = newest.first }

-- the hold was put at a place of its order, and the step is the last one
pub record HasInserted (newest : Step) (hold : Held) (place : ℕ) (timelines timelines' : Orders) (holds holds' : List Held) (taken taken' : List Step) : Type 0 where
  pub orders : timelines'.orders ≡ slice_set timelines.orders hold.rule.resource.0 (insert (order_on timelines.orders hold.rule.resource.0) place (length holds))
  pub past : timelines'.past ≡ timelines.past
  pub hold_capacity : timelines'.hold_capacity ≡ timelines.hold_capacity
  pub max_marks : timelines'.max_marks ≡ timelines.max_marks
  pub held : holds' ≡ holds ++ hold ∷ []
  pub steps : taken' ≡ taken ++ place_step newest place ∷ []
