-- What a board holds: plans and an ask, and the steps that were taken since they were loaded.
use Rattle.std.specs.Prelude.{ℕ, Bool, List, [], ◌∷◌, take, fold, Option, Some, None}
use Rattle.tp_base.specs.Net.{Net}
use Rattle.tp_base.specs.Readings.{Reading}
use Rattle.tp_timelines.specs.Orders.{Orders, Sizes, sizes_of}
use Rattle.tp_schedule.specs.declared.parts.Ask.{Ask}
use Rattle.tp_schedule.specs.declared.parts.Plan.{Plan}
use Rattle.tp_constraints.specs.Suffixes.{Suffix, with_goal, with_action, with_place, with_stop}
use Rattle.tp_base.specs.declared.edges.PointId.{PointId}
use Rattle.tp_placing.specs.declared.causes.EdgeCause.{EdgeCause}
use Rattle.tp_placing.specs.declared.parts.BoardMark.{BoardMark}
use Rattle.tp_placing.specs.declared.parts.Held.{Held}
use Rattle.tp_placing.specs.declared.parts.MadeFor.{MadeFor}
use Rattle.tp_placing.specs.declared.parts.Step.{Step}
use Rattle.tp_placing.specs.declared.parts.Change.{Change}
use Rattle.tp_placing.specs.declared.parts.Change.TheVariants.{Goal, Action, Place, Stop}

-- the network, the orders of the holds by their numbers, the plans, the ask, the steps since they were loaded, why the
-- network's edges stand, and whether the plans are known to have their least ticks
pub record BoardValue (N : Type 0) : Type 0 where
  pub net : N
  pub orders : Orders
  pub held : List Held
  pub plans : List Plan
  pub firsts : List PointId
  pub last : PointId
  pub floor : ℕ
  pub horizon : ℕ
  pub ask : Option Ask
  pub steps : List Step
  pub marks : List BoardMark
  pub made_for : MadeFor
  pub causes : List EdgeCause
  pub limit : Option PointId
  pub settled : Bool

-- the suffix after a change
abbrev pub after_change : Option Suffix → Change → Option Suffix
after_change None (Goal room) = Some (with_goal room)
after_change None (Action act room) = None
after_change None (Place place) = None
after_change None Stop = None
after_change (Some x) (Goal room) = Some x
after_change (Some x) (Action act room) = Some (with_action act room x)
after_change (Some x) (Place place) = Some (with_place place x)
after_change (Some x) Stop = Some (with_stop x)

-- the suffix so far, if a goal is open
abbrev pub suffix_after : List Step → Option Suffix
suffix_after steps = fold (λ x s. after_change x s.change) None steps

abbrev pub suffix_of : {N : Type 0} → BoardValue N → Option Suffix
suffix_of b = suffix_after b.steps

-- what a mark keeps
pub record BoardContent : Type 0 where
  pub net : Net
  pub orders : List (List ℕ)
  pub held : List Held
  pub steps : List Step

-- what marks leave alone
pub record BoardUntouched (A : Type 0) : Type 0 where
  pub net : A
  pub sizes : Sizes
  pub plans : List Plan
  pub firsts : List PointId
  pub last : PointId
  pub floor : ℕ
  pub horizon : ℕ
  pub ask : Option Ask
  pub made_for : MadeFor
  pub causes : List EdgeCause
  pub limit : Option PointId
  pub settled : Bool

abbrev pub content_of : {N : Type 0} → Reading N → BoardValue N → BoardContent
content_of reading b = record { net = reading.net b.net; orders = b.orders.orders; held = b.held; steps = b.steps }

abbrev pub untouched_of : {N A : Type 0} → (N → A) → BoardValue N → BoardUntouched A
untouched_of untouched b = record {
  net = untouched b.net;
  sizes = sizes_of b.orders;
  plans = b.plans;
  firsts = b.firsts;
  last = b.last;
  floor = b.floor;
  horizon = b.horizon;
  ask = b.ask;
  made_for = b.made_for;
  causes = b.causes;
  limit = b.limit;
  settled = b.settled;
}

-- the contents at the marks: what the network and the orders were, and the first so many holds and steps
abbrev pub side_by_side : List Held → List Step → List Net → List (List (List ℕ)) → List BoardMark → List BoardContent
side_by_side held steps [] orders marks = []
side_by_side held steps (c ∷ cs) [] marks = []
side_by_side held steps (c ∷ cs) (o ∷ orders) [] = []
side_by_side held steps (c ∷ cs) (o ∷ orders) (m ∷ marks) = record { net = c; orders = o; held = take m.held held; steps = take m.steps steps } ∷ side_by_side held steps cs orders marks

abbrev pub past_of : {N : Type 0} → Reading N → BoardValue N → List BoardContent
past_of reading b = side_by_side b.held b.steps (reading.past b.net) b.orders.past b.marks
