-- A dive: from a list on a board to a complete one, by one choice more at each step.
use Rattle.std.specs.Prelude.{◌≡◌, ℕ, suc, ◌≤◌, List, ◌∷◌, length}
use Rattle.tp_base.specs.Readings.{Reading}
use Rattle.tp_machine.specs.ModuleUse.{action_at}
use Rattle.tp_machine.specs.declared.parts.ActId.{ActId}
use Rattle.tp_machine.specs.declared.parts.State.{State}
use Rattle.tp_machine.specs.declared.machine.Machine.{Machine}
use Rattle.tp_schedule.specs.Choices.{Choice}
use Rattle.tp_schedule.specs.Holders.{holds_of_act}
use Rattle.tp_schedule.specs.Spots.Spot.{own}
use Rattle.tp_schedule.specs.declared.parts.Ask.{Ask}
use Rattle.tp_placing.specs.Boards.{BoardValue}
use Rattle.tp_placing.specs.Ticks.{HasLeastTick}
use Rattle.tp_search.specs.Boards.{IsFurther, IsLaid}
use Rattle.tp_search.specs.declared.stored_list.Laid.{Laid}
use Rattle.tp_constraints.specs.Ways.{IsPlaced}

-- the asked copy ends by the bound at the earliest
abbrev pub EndsBy : {N : Type 0} → Machine → BoardValue N → ℕ → Type 0
EndsBy machine b bound = (tick : ℕ) × HasLeastTick machine b (own 0) tick × (tick ≤ bound)

module _ {N : Type 0} (reading : Reading N) where
  -- the board carries a list of placed choices, which begins in this state and has so many of them
  pub record CanDive (b : BoardValue N) (machine : Machine) (ask : Ask) (list : Laid) : Type 0 where
    pub goal : State
    pub choices : List Choice
    pub laid : IsLaid reading b machine ask goal list.first choices
    pub placed : IsPlaced machine choices
    pub count : list.count ≡ length choices

  -- the same, where of the newest choice, which is of this action, only so many holds have their places
  pub record IsPlacing (b : BoardValue N) (machine : Machine) (ask : Ask) (act : ActId) (hold : ℕ) (list : Laid) : Type 0 where
    pub goal : State
    pub choices : List Choice
    pub places : List ℕ
    pub laid : IsLaid reading b machine ask goal list.first (record { act = act; places = places } ∷ choices)
    pub placed : IsPlaced machine choices
    pub next : hold ≡ length places
    pub within : hold ≤ length (holds_of_act (action_at machine act.0))
    pub count : list.count ≡ suc (length choices)

  -- the second board is further, and carries a list of placed choices that ends by the bound
  pub record IsDeeper (b b' : BoardValue N) (machine : Machine) (ask : Ask) (bound : ℕ) (list : Laid) : Type 0 where
    pub further : IsFurther reading b b'
    pub carries : CanDive b' machine ask list
    pub in_time : EndsBy machine b' bound
