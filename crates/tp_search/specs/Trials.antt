-- What a trial is: its board carries an earliest plan, laid since a mark. And what holds where there is no plan.
use Rattle.std.specs.Prelude.{◌≡◌, ℕ, ◌-◌, List, [], ◌∷◌, ◌++◌, length, Some, IsSomeAnd}
use Rattle.std.specs.Borrow.{GName}
use Rattle.tp_base.specs.Readings.{Reading}
use Rattle.tp_machine.specs.declared.machine.Machine.{Machine}
use Rattle.tp_schedule.specs.Answers.{IsAlternative, IsEarliest, NoneBefore}
use Rattle.tp_schedule.specs.Plans.{end_of_plan}
use Rattle.tp_schedule.specs.SpentBudget.{FewListsOpen, IsSpent}
use Rattle.tp_schedule.specs.Spots.Spot.{own}
use Rattle.tp_schedule.specs.declared.parts.Ask.{Ask}
use Rattle.tp_schedule.specs.declared.parts.Plan.{Plan}
use Rattle.tp_placing.specs.Boards.{BoardContent, BoardValue, content_of, past_of, suffix_of}
use Rattle.tp_placing.specs.Calls.{IsSameLoad}
use Rattle.tp_placing.specs.LoadedBoard.{Stands}
use Rattle.tp_placing.specs.Ticks.{HasLeastTick}
use Rattle.tp_placing.specs.Commits.{CanCommit}
use Rattle.tp_search.specs.Boards.{IsReady}
use Rattle.tp_search.specs.declared.trial.NoPlan.{NoPlan}
use Rattle.tp_search.specs.declared.trial.NoPlan.TheVariants.{Never, Spent}
use Rattle.tp_search.specs.declared.trial.Trial.{Trial}

-- this schedule is an earliest one, and its plan of the asked copy ends at this tick
pub record IsEarliestTo (machine : Machine) (plans : List Plan) (ask : Ask) (end : ℕ) (plans' : List Plan) : Type 0 where
  pub earliest : IsEarliest machine plans ask plans'
  pub ends : end_of_plan earliest.alternative.plan ≡ end

-- the earliest plans end at this tick
abbrev pub EndsEarliest : Machine → List Plan → Ask → ℕ → Type 0
EndsEarliest machine plans ask end = (plans' : List Plan) × IsEarliestTo machine plans ask end plans'

-- no alternative exists, nor more open lists with choices than nodes; or the budget of so many nodes is spent
abbrev pub IsNoPlan : Machine → List Plan → Ask → ℕ → NoPlan → Type 0
IsNoPlan machine plans ask nodes Never = ((plans' : List Plan) → ¬ IsAlternative machine plans ask plans') × FewListsOpen machine plans ask nodes
IsNoPlan machine plans ask nodes (Spent bound) = IsSpent machine plans ask nodes bound

-- the board that a trial borrows, as it is now, the name of the borrow, and the end of the asked copy
abbrev pub board_in : {N : Type 0} → Trial N → BoardValue N
board_in trial = trial.board.now

abbrev pub borrow_in : {N : Type 0} → Trial N → GName
borrow_in trial = trial.board.ghost_name

abbrev pub end_in : {N : Type 0} → Trial N → ℕ
end_in trial = trial.end

-- the trial is as before: it borrows the same board, which carries the same choices, and it ends at the same tick
pub record IsSameTrial {N : Type 0} (trial trial' : Trial N) : Type 0 where
  pub end : end_in trial' ≡ end_in trial
  pub loaded : IsSameLoad (board_in trial) (board_in trial')
  pub carries : suffix_of (board_in trial') ≡ suffix_of (board_in trial)

module _ {N : Type 0} (reading : Reading N) where
  -- the trial's board carries a plan of its ask that can be committed and ends as the trial tells, and no alternative ends
  -- before. It was laid since the trial's mark, which was made on the first board, a board without choices and without a mark in
  -- force
  pub record IsTrial (b : BoardValue N) (machine : Machine) (trial : Trial N) : Type 0 where
    pub unmarked : past_of reading b ≡ []
    pub number : trial.base.0 ≡ length (past_of reading b)
    pub kept : List BoardContent
    pub past_more : past_of reading (board_in trial) ≡ past_of reading b ++ content_of reading b ∷ kept
    pub loaded : IsSameLoad b (board_in trial)
    pub marks : reading.max_marks (board_in trial).net - 1 ≡ reading.max_marks b.net - 1
    pub stands : Stands reading (board_in trial) machine
    pub ask : Ask
    pub asked : (board_in trial).ask ≡ Some ask
    pub ready : IsReady reading b machine ask
    pub complete : IsSomeAnd (suffix_of (board_in trial)) (CanCommit machine (board_in trial).plans ask)
    pub ends : HasLeastTick machine (board_in trial) (own 0) trial.end
    pub none_before : NoneBefore machine (board_in trial).plans ask trial.end
