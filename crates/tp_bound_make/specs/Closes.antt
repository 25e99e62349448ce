-- Closes that are right wherever a branch of a suffix stands.
use Rattle.std.specs.Prelude.{◌≡◌, ℕ, ◌+◌, ◌<◌, ◌≤◌, List, [], length, Some, None, ℤ, pos, ◌≤ℤ◌, IsFalse}
use Rattle.tp_base.specs.Net.{Net}
use Rattle.tp_bounds.specs.declared.tree.Close.{Close}
use Rattle.tp_bounds.specs.declared.tree.Head.{Head}
use Rattle.tp_bounds.specs.declared.tree.TreeRow.{TreeRow}
use Rattle.tp_machine.specs.declared.machine.Machine.{Machine}
use Rattle.tp_schedule.specs.Limits.{most_acts}
use Rattle.tp_schedule.specs.declared.parts.Ask.{Ask}
use Rattle.tp_schedule.specs.declared.parts.Plan.{Plan}
use Rattle.tp_constraints.specs.Suffixes.{IsInFlight, Suffix, with_stop}
use Rattle.tp_placing.specs.Boards.{BoardValue, suffix_of}
use Rattle.tp_placing.specs.Reasons.{HasEndReason, HasReason}
use Rattle.tp_bound_laws.specs.Places.{Branch}
use Rattle.tp_bound_laws.specs.Once.{PassesOnce}
use Rattle.tp_bound_laws.specs.Short.{hops_in, most_hops}
use Rattle.tp_bound_laws.specs.Trees.{close_look}
use Rattle.tp_bound_laws.specs.Trees.Look.{due}

-- the close has few hops, and closes each node that stands on a branch of this suffix, where it passes no point twice
abbrev pub Closes : Machine → List Plan → Ask → ℤ → Suffix → Close → Type 0
Closes machine plans ask limit x close = (hops_in close ≤ most_hops) × ((rows : List TreeRow) (b : Branch) (head : Head) → b.x ≡ x → close_look machine plans ask rows limit (record { branch = b; span = None }) head close ≡ due [])
    × ((b : Branch) → b.x ≡ x → PassesOnce machine plans ask limit (record { branch = b; span = None }) close)

-- the limit is no later than the horizon
abbrev pub IsLimit : Machine → Ask → ℤ → Type 0
IsLimit machine ask limit = limit ≤ℤ pos (ask.now + machine.window)

module _ {N : Type 0} (refutes : N → Net → Type 0) (machine : Machine) (b : BoardValue N) where
  -- a suffix that goes on was refused, or its end by a tick; and the stop of the suffix that the board carries
  pub record IsRefused (x : Suffix) : Type 0 where
    pub going : IsFalse x.stopped
    pub few : length x.choices ≤ most_acts
    pub shown : HasReason refutes machine b x

  pub record IsEndRefused (x : Suffix) (last : ℕ) : Type 0 where
    pub going : IsFalse x.stopped
    pub few : length x.choices ≤ most_acts
    pub shown : HasEndReason refutes machine b x last

  pub record IsStopRefused (x : Suffix) : Type 0 where
    pub carried : suffix_of b ≡ Some x
    pub few : length x.choices ≤ most_acts
    pub shown : HasReason refutes machine b (with_stop x)

  -- the close is right where the suffix was refused
  abbrev pub ClosesRefused : Close → Type 0
  ClosesRefused close = (ask : Ask) (x : Suffix) (limit : ℤ) → b.ask ≡ Some ask → IsRefused x → IsLimit machine ask limit → Closes machine b.plans ask limit x close

  abbrev pub ClosesEnd : ℕ → Close → Type 0
  ClosesEnd last close = (ask : Ask) (x : Suffix) → b.ask ≡ Some ask → IsEndRefused x last → IsLimit machine ask (pos last) → Closes machine b.plans ask (pos last) x close

  abbrev pub ClosesStop : Close → Type 0
  ClosesStop close = (ask : Ask) (x : Suffix) (limit : ℤ) → b.ask ≡ Some ask → IsStopRefused x → IsInFlight ask.origin → 0 < length x.choices → IsLimit machine ask limit → Closes machine b.plans ask limit (with_stop x) close
