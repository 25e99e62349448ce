-- A schedule that goes on to another moment: no plan moves, and each is released as far as before or further.
use Rattle.std.specs.Prelude.{◌≡◌, ℕ, ◌+◌, ◌<◌, ◌≤◌, List, [], ◌∷◌, ◌++◌, drop, length, take}
use Rattle.tp_base.specs.Net.{Net}
use Rattle.tp_machine.specs.declared.machine.Machine.{Machine}
use Rattle.tp_schedule.specs.Plans.{point}
use Rattle.tp_schedule.specs.declared.parts.Plan.{Plan}

-- the second plan is the first one, released as far or further, and each start that is not released is above now + lead
pub record IsFurther (machine : Machine) (now : ℕ) (p p' : Plan) : Type 0 where
  pub same : p' ≡ record p { released = p'.released }
  pub further : p.released ≤ p'.released
  pub within : p'.released ≤ length p.acts
  pub floor : (i : ℕ) → p'.released ≤ i → i < length p.acts → now + machine.lead < point p i

-- so it is with these plans, one by one
abbrev pub AreFurther : Machine → ℕ → List Plan → List Plan → Type 0
AreFurther machine now [] [] = Unit {0}
AreFurther machine now [] (q ∷ qs) = ⊥
AreFurther machine now (p ∷ ps) [] = ⊥
AreFurther machine now (p ∷ ps) (q ∷ qs) = IsFurther machine now p q × AreFurther machine now ps qs

-- a list with these in place of as many from a number on, and a net with these bounds
abbrev pub replaced : ℕ → List ℕ → List ℕ → List ℕ
replaced first new xs = take first xs ++ (new ++ drop (first + length new) xs)

abbrev pub with_bounds_from : ℕ → List ℕ → List ℕ → Net → Net
with_bounds_from first lows caps net = record { lows = replaced first lows net.lows; caps = replaced first caps net.caps; edges = net.edges }
