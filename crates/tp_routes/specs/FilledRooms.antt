-- How far a table of rooms is filled.
use Rattle.std.specs.Prelude.{◌≡◌, ◌⊎◌, ℕ, ◌+◌, ◌*◌, ◌<◌, ◌≤◌, Bool, true, List, length, slice_set, slice_get, Option, Some, None, nat_lt, nat_eq, filter, not, ◌==◌, sum_by, IsTrue, IsFalse, if◌then◌else◌}
use Rattle.std.specs.List.{list_any, IsDistinct}
use Rattle.tp_machine.specs.Limits.{longest}
use Rattle.tp_machine.specs.Steps.{step_of}
use Rattle.tp_machine.specs.ModuleUse.{action_at}
use Rattle.tp_machine.specs.declared.parts.ActId.{ActId}
use Rattle.tp_machine.specs.declared.parts.Action.{Action}
use Rattle.tp_machine.specs.declared.parts.Feeder.{Feeder}
use Rattle.tp_machine.specs.declared.parts.State.{State}
use Rattle.tp_machine.specs.declared.machine.Machine.{Machine}
use Rattle.tp_schedule.specs.LocationSets.{has}
use Rattle.tp_schedule.specs.Routes.{IsStart, fresh, Reaches, AreAllowed, is_act_allowed, least_sum}
use Rattle.tp_schedule.specs.declared.parts.Ask.{Ask}
use Rattle.tp_routes.specs.Numbers.{number_of, state_at}
use Rattle.tp_routes.specs.Tables.{sum_at}

-- a sum is below what stands there
abbrev pub is_lower : ℕ → Option ℕ → Bool
is_lower sum None = true
is_lower sum (Some old) = nat_lt sum old

-- the table with this sum at a number, where it is lower
abbrev pub lowered : List (Option ℕ) → ℕ → ℕ → List (Option ℕ)
lowered sums n sum = if is_lower sum (sum_at sums n) then slice_set sums n (Some sum) else sums

-- the number waits
abbrev pub Waits : List ℕ → ℕ → Type 0
Waits waiting n = list_any (nat_eq n) waiting ≡ true

-- the numbers that wait, but for this one
abbrev pub without_number : ℕ → List ℕ → List ℕ
without_number n waiting = filter (λ x. not (x == n)) waiting

-- the numbers that wait are different, and below the number of states
pub record IsQueue (waiting : List ℕ) (states : ℕ) : Type 0 where
  pub different : IsDistinct nat_eq waiting
  pub known : (n : ℕ) → Waits waiting n → n < states

-- some allowed actions with this sum lead from a start state of the ask to the state
pub record IsSum (machine : Machine) (ask : Ask) (s : State) (sum : ℕ) : Type 0 where
  pub acts : List ActId
  pub allowed : AreAllowed machine ask.outs acts
  pub reaches : Reaches machine ask acts s
  pub sums : least_sum machine acts ≡ sum

abbrev pub AreSums : Machine → Ask → List (Option ℕ) → Type 0
AreSums machine ask sums = (n sum : ℕ) → n < length sums → sum_at sums n ≡ Some sum → IsSum machine ask (state_at n) sum

-- the table has at most this sum for the state
abbrev pub HasAtMost : List (Option ℕ) → State → ℕ → Type 0
HasAtMost sums s sum = (v : ℕ) × (sum_at sums (number_of s) ≡ Some v) × (v ≤ sum)

-- each start state has the sum 0
abbrev pub StartsAreIn : Machine → Ask → List (Option ℕ) → Type 0
StartsAreIn machine ask sums = (s : State) → IsStart machine ask s → HasAtMost sums s 0

-- the steps of an action of this number from the state are in the table, where the action is allowed
abbrev pub IsStepIn : Machine → Ask → List (Option ℕ) → State → ℕ → ℕ → Type 0
IsStepIn machine ask sums s sum act = (a : Action) (s' : State) → action_at machine act ≡ Some a → IsTrue (is_act_allowed machine ask.outs (record { 0 = act })) →
    step_of a ask.want s ≡ Some s' → HasAtMost sums s' (sum + a.least)

abbrev pub one_if_some : Option ℕ → ℕ
one_if_some None = 0
one_if_some (Some sum) = 1

-- how many states have a sum
abbrev pub filled : List (Option ℕ) → ℕ
filled sums = sum_by one_if_some sums

-- what is left to fill, so that each lower sum leaves less
abbrev pub worth : Option ℕ → ℕ
worth None = 4294967296
worth (Some sum) = sum

abbrev pub left_to_fill : List (Option ℕ) → List ℕ → ℕ
left_to_fill sums waiting = 2 * sum_by worth sums + length waiting

-- each state's steps are in the table or the state waits, but of the busy state only those of the first so many actions
abbrev pub IsSpreadTo : Machine → Ask → List (Option ℕ) → List ℕ → ℕ → ℕ → Type 0
IsSpreadTo machine ask sums waiting busy count = (n sum : ℕ) → n < length sums → sum_at sums n ≡ Some sum →
    Waits waiting n ⊎ ((act : ℕ) → (n ≡ busy → act < count) → IsStepIn machine ask sums (state_at n) sum act)

-- a table that is being filled
pub record IsFilling (machine : Machine) (ask : Ask) (sums : List (Option ℕ)) (waiting : List ℕ) : Type 0 where
  pub states : length sums ≡ 8 * length machine.locations
  pub queue : IsQueue waiting (length sums)
  pub reached : AreSums machine ask sums
  pub small : (n sum : ℕ) → n < length sums → sum_at sums n ≡ Some sum → sum ≤ longest * filled sums

-- a lower sum may take the place of this one
pub record Lowers (sums sums' : List (Option ℕ)) : Type 0 where
  pub same : length sums' ≡ length sums
  pub falls : (s : State) (sum : ℕ) → HasAtMost sums s sum → HasAtMost sums' s sum

-- the new sheets at the first so many of these feeders that have the ask's media and aren't empty are in the table
abbrev pub StartsUpTo : List Feeder → Ask → List (Option ℕ) → ℕ → Type 0
StartsUpTo feeders ask sums count = (k : ℕ) (f : Feeder) → k < count → slice_get feeders k ≡ Some f → f.media ≡ ask.want.media → IsFalse (has ask.empty f.loc) → HasAtMost sums (fresh f.loc) 0
