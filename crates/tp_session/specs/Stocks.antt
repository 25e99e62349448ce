-- What is left at a feeder of a session.
use Rattle.std.specs.Prelude.{◌≡◌, ℕ, ℤ, pos, Option, option_and_then, option_map}
use Rattle.tp_machine.specs.declared.parts.LocId.{LocId}
use Rattle.tp_machine.specs.declared.machine.Machine.{Machine}
use Rattle.tp_stock.specs.Stock.{feeder_at, free_stock}
use Rattle.tp_event_rules.specs.States.{SessionState}
use Rattle.tp_session.specs.Sessions.{Standing}

-- the free stock of the feeder at a location; none where no feeder is there or its stock is endless
abbrev pub free_at : Machine → SessionState → LocId → Option ℤ
free_at machine s loc = option_and_then (free_stock machine s.refills s.plans) (feeder_at machine loc.0)

abbrev pub IsFreeOf : Machine → SessionState → LocId → Option ℕ → Type 0
IsFreeOf machine s loc told = option_map pos told ≡ free_at machine s loc

abbrev pub IsFree : Standing → LocId → Option ℕ → Type 0
IsFree standing loc told = IsFreeOf standing.machine standing.state loc told
