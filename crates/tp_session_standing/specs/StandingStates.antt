-- Where a live state stands, and the state that a standing tells.
use Rattle.std.specs.Prelude.{ℕ, ℤ, pos, negsuc, ◌+ℤ◌, ◌-ℤ◌, ◌==◌, List, [], ◌∷◌, map, Option, Some, None, option_map, if◌then◌else◌}
use Rattle.tp_machine.specs.declared.machine.Machine.{Machine}
use Rattle.tp_machine.specs.declared.parts.Feeder.{Feeder}
use Rattle.tp_stock.specs.Stock.{by_location, free_stock, taken_at}
use Rattle.tp_jobs.specs.declared.standing.Standing.{Standing}
use Rattle.tp_event_rules.specs.Seen.{fronts_of}
use Rattle.tp_event_rules.specs.States.{SessionState}

-- a number as a count
abbrev pub count_of : ℤ → ℕ
count_of (pos n) = n
count_of (negsuc n) = 0

-- how many sheets are free at a feeder; an endless one has no such number
abbrev pub free_sheets : Machine → SessionState → Feeder → Option ℕ
free_sheets machine s f = option_map count_of (free_stock machine s.refills s.plans f)

-- where a live state stands: all that is kept of it
abbrev pub standing_of : Machine → SessionState → Standing
standing_of machine s = record {
  now = s.now;
  outs = s.outs;
  stock = map (free_sheets machine s) machine.feeders;
  jobs = s.jobs;
  waiting = s.waiting;
  plans = s.plans;
}

-- the refills by which so much of a stock is free where so many sheets were taken
abbrev pub refill_by : ℕ → Option ℕ → Option ℕ → ℤ
refill_by taken (Some stock) (Some free) = (pos free +ℤ pos taken) -ℤ pos stock
refill_by taken (Some stock) None = pos 0
refill_by taken None free = pos 0

abbrev pub refill_at : ℕ → ℕ → List Feeder → List (Option ℕ) → ℤ
refill_at taken loc [] stock = pos 0
refill_at taken loc (f ∷ feeders) [] = pos 0
refill_at taken loc (f ∷ feeders) (free ∷ stock) =
    if f.loc.0 == loc then refill_by taken f.stock free else (refill_at taken loc feeders stock)

abbrev pub standing_refills : Machine → Standing → List ℤ
standing_refills machine t = by_location (λ loc. refill_at (taken_at machine t.plans loc) loc machine.feeders t.stock)

-- the state that a standing tells: the copies whose plans aren't whole are lost, and as much as it says is free
abbrev pub standing_state : Machine → Standing → SessionState
standing_state machine t = record {
  now = t.now;
  plans = t.plans;
  lost = fronts_of t.plans;
  jobs = t.jobs;
  waiting = t.waiting;
  outs = t.outs;
  refills = standing_refills machine t;
}
