-- The least ticks that a board tells.
use Rattle.std.specs.Prelude.{◌≡◌, ℕ, ◌≤◌, false, List, Option, Some, None, IsSomeAnd}
use Rattle.tp_machine.specs.declared.machine.Machine.{Machine}
use Rattle.tp_schedule.specs.Spots.{Spot, Ticks}
use Rattle.tp_schedule.specs.declared.parts.Ask.{Ask}
use Rattle.tp_schedule.specs.declared.parts.Plan.{Plan}
use Rattle.tp_constraints.specs.Laws.{LoadedTimes}
use Rattle.tp_constraints.specs.Suffixes.{Suffix, SuffixTimes}
use Rattle.tp_placing.specs.Boards.{BoardValue, suffix_of}

-- the loaded plans, and the suffix if a goal is open, may have these ticks
abbrev pub TimesOf : Machine → List Plan → Ask → Option Suffix → Ticks → Type 0
TimesOf machine plans ask None t = LoadedTimes machine ask.now (λ _. false) plans t
TimesOf machine plans ask (Some x) t = SuffixTimes machine plans ask x t

-- the least tick of a point among all ticks that they may have
pub record IsLeastTick (times : Ticks → Type 0) (point : Spot) (tick : ℕ) : Type 0 where
  pub ticks : Ticks
  pub are_times : times ticks
  pub there : ticks point ≡ tick
  pub least : (others : Ticks) → times others → tick ≤ others point

abbrev pub HasLeastTick : {N : Type 0} → Machine → BoardValue N → Spot → ℕ → Type 0
HasLeastTick machine b point tick = IsSomeAnd b.ask (λ ask. IsLeastTick (TimesOf machine b.plans ask (suffix_of b)) point tick)
