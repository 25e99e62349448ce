-- The script of a case: twelve rounds, in each a job and a move of the clock.
use Rattle.std.specs.Prelude.{ℕ, ◌+◌, ◌==◌, List, [], ◌∷◌, ◌++◌, codes, decimal, fold, if◌then◌else◌}
use Rattle.tp_machine.specs.declared.parts.Face.TheVariants.{Front}
use Rattle.tp_machine.specs.declared.parts.Want.{Want}
use Rattle.tp_machine.specs.declared.parts.Want.TheVariants.{Blank, Mono, Colour}
use Rattle.tp_script.specs.Form.{GroupForm}
use Rattle.tp_script.specs.Printed.{IsWhole}
use Rattle.tp_script.specs.declared.event.Event.{Event}
use Rattle.tp_script.specs.declared.event.Event.TheVariants.{Job, Clock, Jam, On}
use Rattle.tp_soak.specs.Draws.{next, drawn}

-- a want by a draw of 2
abbrev pub want_by : ℕ → Want
want_by n = if n == 0 then Mono else Colour

-- 1 to 3 sheets of one kind, by two draws
abbrev pub group : ℕ → ℕ → GroupForm
group x y = record { count = 1 + drawn 3 x; front = want_by (drawn 2 y); back = Blank; face = Front }

abbrev pub job : ℕ → GroupForm → Event
job number sheets = Job (codes "j" ++ decimal number) (codes "t") (codes "plain") (sheets ∷ [])

-- in round 6 the first engine jams, and in round 8 it is on again
abbrev pub outage : ℕ → List Event
outage number = if number == 6 then Jam (codes "ENG1") ∷ [] else (if number == 8 then On (codes "ENG1") ∷ [] else [])

-- the state of the draws, the last value of the clock, and the events so far
pub record Standing : Type 0 where
  pub state : ℕ
  pub clock : ℕ
  pub events : List Event

abbrev pub standing : ℕ → ℕ → List Event → Standing
standing state clock events = record { state = state; clock = clock; events = events }

abbrev pub third : ℕ → ℕ
third x = next (next (next x))

-- a round draws the job's count and kind, and how far the clock moves
abbrev pub clock_after : Standing → ℕ
clock_after s = s.clock + (1 + drawn 20 (third s.state))

abbrev pub round : Standing → ℕ → Standing
round s number =
    standing (third s.state) (clock_after s)
    (s.events ++ job number (group (next s.state) (next (next s.state))) ∷ (outage number ++ Clock (clock_after s) ∷ []))

abbrev pub rounds : ℕ → Standing
rounds x = fold round (standing x 0 []) (1 ∷ 2 ∷ 3 ∷ 4 ∷ 5 ∷ 6 ∷ 7 ∷ 8 ∷ 9 ∷ 10 ∷ 11 ∷ 12 ∷ [])

-- the events by draws from a state: the rounds, and a last move of the clock by 400 ticks
unfoldable pub script : ℕ → List Event
script x = (rounds x).events ++ Clock ((rounds x).clock + 400) ∷ []

-- the events of a script are jobs, moves of the clock, and a module that jams and comes back, each with a line of its own
abbrev pub IsScripted : Event → Type 0
IsScripted (Job name tray media groups) = IsWhole (Job name tray media groups)
IsScripted (Clock to) = IsWhole (Clock to)
IsScripted (Jam name) = IsWhole (Jam name)
IsScripted (On name) = IsWhole (On name)
IsScripted _ = ⊥
