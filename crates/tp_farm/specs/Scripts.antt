-- A script that a farm answers, line by line.
use Rattle.std.specs.Prelude.{ℕ, List, Option}
use Rattle.tp_script.specs.declared.event.Event.{Event}
use Rattle.tp_stream.specs.Scripts.{NoRefusal, line_bytes, most_lines}
use Rattle.tp_stream.specs.Takes.{IsReadFrom, Stops, TakesAll, place_of}
use Rattle.tp_stream.specs.declared.stop.Stop.{Stop}
use Rattle.tp_stream.specs.declared.probe.Probe.{Probe}
use Rattle.tp_farm.specs.Farms.{AnswersLine, FarmState}

module _ {S : Type 0} (tells : S → Event → List ℕ → S → Type 0) (probes : S → Event → Probe → Type 0) where
  -- from the start all lines of what the source gave were answered
  abbrev pub IsTaken : FarmState S → Option (List ℕ) → Option (List ℕ) → Option (List ℕ) → Option (List ℕ) → Type 0
  IsTaken start left taken left' taken' = (bytes : List ℕ) × IsReadFrom left bytes left'
      × ((farm : FarmState S) × TakesAll (AnswersLine tells probes) line_bytes most_lines (place_of start 0 taken) bytes farm taken')

  -- or the first lines, and then the farm stopped for this cause
  abbrev pub IsStopped : FarmState S → Option (List ℕ) → Option (List ℕ) → Stop → Option (List ℕ) → Option (List ℕ) → Type 0
  IsStopped start left taken stop left' taken' = (bytes : List ℕ) × IsReadFrom left bytes left'
      × ((farm : FarmState S) × Stops (AnswersLine tells probes) NoRefusal line_bytes most_lines left left' (place_of start 0 taken) bytes stop farm taken')
