-- What a failure says: nothing where memory ran out; where it is a stop, that something is not so.
use Rattle.std.specs.Prelude.{Bool, true, false}
use Rattle.tp_bound_laws.specs.declared.claim.TreeFlaw.{TreeFlaw}
use Rattle.tp_bound_laws.specs.declared.claim.TreeFlaw.TheVariants.{Memory as NoMemory}
use Rattle.tp_log_planner.specs.declared.failure.Failure.{Failure}
use Rattle.tp_log_planner.specs.declared.failure.Failure.TheVariants.{Memory, Stop}
use Rattle.tp_log_planner.specs.declared.failure.Reason.TheVariants.{Tree}

abbrev pub Denies : Type 0 → Failure → Type 0
Denies P Memory = Unit {0}
Denies P (Stop stop) = P → ⊥

-- what is wrong with a tree, as a failure
abbrev pub failure_of : TreeFlaw → Failure
failure_of NoMemory = Memory
failure_of flaw = Stop (record { left = 0; reason = Tree flaw })

abbrev pub is_stop : Failure → Bool
is_stop Memory = false
is_stop (Stop stop) = true
