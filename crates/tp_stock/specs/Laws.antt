-- What forgetting leaves of the stock.
use Rattle.std.specs.Prelude.{◌≡◌, Bool, not, List, filter, Contains, ℤ}
use Rattle.tp_machine.specs.declared.parts.Feeder.{Feeder}
use Rattle.tp_machine.specs.declared.machine.Machine.{Machine}
use Rattle.tp_schedule.specs.declared.parts.Plan.{Plan}
use Rattle.tp_stock.specs.Stock.{empties, free_stock, less_taken}

-- where plans are forgotten and what they took is taken off the refills, the free stock of each feeder is as before
abbrev pub ForgettingKeepsStock : Type 0
ForgettingKeepsStock = (machine : Machine) (refills : List ℤ) (plans : List Plan) (stays : Plan → Bool) (f : Feeder) → Contains machine.feeders f
    → free_stock machine (less_taken machine (filter (λ p. not (stays p)) plans) refills) (filter stays plans) f ≡ free_stock machine refills plans f

-- and the same feeders are empty
abbrev pub ForgettingKeepsEmpties : Type 0
ForgettingKeepsEmpties = (machine : Machine) (refills : List ℤ) (plans : List Plan) (stays : Plan → Bool)
    → empties machine (less_taken machine (filter (λ p. not (stays p)) plans) refills) (filter stays plans) ≡ empties machine refills plans
