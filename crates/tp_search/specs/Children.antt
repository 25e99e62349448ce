-- Opening a list on a board: what the board carries, and the child that is tried.
use Rattle.std.specs.Prelude.{◌≡◌, ℕ, ◌<◌, ◌≤◌, ◌↔◌, length, Some, IsTrue}
use Rattle.tp_base.specs.Readings.{Reading}
use Rattle.tp_machine.specs.ModuleUse.{action_at}
use Rattle.tp_machine.specs.declared.parts.State.{State}
use Rattle.tp_machine.specs.declared.machine.Machine.{Machine}
use Rattle.tp_pool.specs.Entries.{choices_before}
use Rattle.tp_schedule.specs.Choices.{ChoiceList, IsBound, IsComplete}
use Rattle.tp_schedule.specs.Holders.{holds_of_act}
use Rattle.tp_schedule.specs.Routes.{IsStart}
use Rattle.tp_schedule.specs.declared.parts.Ask.{Ask}
use Rattle.tp_schedule.specs.declared.parts.Origin.TheVariants.{Feeder}
use Rattle.tp_placing.specs.Boards.{BoardValue}
use Rattle.tp_search.specs.Boards.{IsFurther, IsLaid}
use Rattle.tp_search.specs.StoredLists.{HasList}
use Rattle.tp_search.specs.OpenedLists.{IsFresh}
use Rattle.tp_search.specs.Stored.{choices_by}
use Rattle.tp_search.specs.Stores.{HasBounds, StoreValue}
use Rattle.tp_constraints.specs.Ways.{IsPlaced}
use Rattle.tp_search.specs.declared.children.Child.{Child}
use Rattle.tp_search.specs.declared.opening.Opening.{Opening}

-- the child's choice is of its action and leads to the goal, so many of the holds have their places, and it is complete where
-- it begins in a state in which a new copy starts
pub record IsNewChild (machine : Machine) (ask : Ask) (end : State) (c : Child) (count : ℕ) : Type 0 where
  pub act : c.choice.act ≡ Some c.act
  pub four : length c.choice.places ≡ 4
  pub known : c.act.0 < length machine.actions
  pub hold : count ≤ length (holds_of_act (action_at machine c.act.0))
  pub goal : c.choice.goal ≡ end
  pub complete : IsTrue c.complete ↔ ((ask.origin ≡ Feeder) × IsStart machine ask c.first)

module _ {N : Type 0} (reading : Reading N) where
  -- the second board is further, and carries a complete list that ends by the bound
  pub record HasFound (b b' : BoardValue N) (machine : Machine) (ask : Ask) (bound : ℕ) : Type 0 where
    pub further : IsFurther reading b b'
    pub first : State
    pub list : ChoiceList
    pub end : ℕ
    pub laid : HasList reading b' machine ask first list
    pub complete : IsComplete machine ask list
    pub is_bound : IsBound machine b'.plans ask list end
    pub in_time : end ≤ bound

  -- the board carries the list that is opened, from this first state on, and no list that was stored before is its child
  pub record CarriesOpened (b : BoardValue N) (machine : Machine) (ask : Ask) (o : Opening) (s : StoreValue) (first : State) : Type 0 where
    pub laid : IsLaid reading b machine ask o.goal first (choices_by machine (choices_before s.entries o.parent))
    pub placed : IsPlaced machine (choices_by machine (choices_before s.entries o.parent))
    pub fresh : IsFresh machine ask o s
    pub bounds : HasBounds machine ask s
