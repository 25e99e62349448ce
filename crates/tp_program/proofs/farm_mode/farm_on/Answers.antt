-- The farm's answers are those of a farm of sessions on the machines.
use Rattle.tp_stream.specs.declared.stop.Stop.TheVariants.{Memory, Source, Sink, Line, Lines}
use Rattle.tp_program.proofs.FarmEndFacts.{farm_done, farm_stops}
use Rattle.tp_program.proofs.farm_mode.farm_on.Goals as goal

pub returns-in-Ok-clause-ends : goal.returns-in-Ok-clause-ends
returns-in-Ok-clause-ends g c = λ machines budget bounds same.
    (farm_done machines budget bounds _ _ _ _ _ same (c.farms_are_lawful.ensures.whole machines budget bounds) c.in-Ok.ensures.all, c.in-Ok.ensures.end)

pub returns-in-Err-Memory-clause-ends : goal.returns-in-Err-Memory-clause-ends
returns-in-Err-Memory-clause-ends g c = λ machines budget bounds same.
    farm_stops machines budget bounds _ _ _ _ _ same _ Memory c.in-Err-Memory.field-0-is (c.farms_are_lawful.ensures.stopped machines budget bounds) c.in-Err-Memory.ensures.stops

pub returns-in-Err-Source-clause-ends : goal.returns-in-Err-Source-clause-ends
returns-in-Err-Source-clause-ends g c = λ machines budget bounds same.
    farm_stops machines budget bounds _ _ _ _ _ same _ Source c.in-Err-Source.field-0-is (c.farms_are_lawful.ensures.stopped machines budget bounds) c.in-Err-Source.ensures.stops

pub returns-in-Err-Sink-clause-ends : goal.returns-in-Err-Sink-clause-ends
returns-in-Err-Sink-clause-ends g c = λ machines budget bounds same.
    farm_stops machines budget bounds _ _ _ _ _ same _ Sink c.in-Err-Sink.field-0-is (c.farms_are_lawful.ensures.stopped machines budget bounds) c.in-Err-Sink.ensures.stops

pub returns-in-Err-Line-clause-ends : goal.returns-in-Err-Line-clause-ends
returns-in-Err-Line-clause-ends g c = λ machines budget bounds same.
    farm_stops machines budget bounds _ _ _ _ _ same _ (Line c.in-Err-Line.n) c.in-Err-Line.field-0-is (c.farms_are_lawful.ensures.stopped machines budget bounds) c.in-Err-Line.ensures.stops

pub returns-in-Err-Lines-clause-ends : goal.returns-in-Err-Lines-clause-ends
returns-in-Err-Lines-clause-ends g c = λ machines budget bounds same.
    farm_stops machines budget bounds _ _ _ _ _ same _ Lines c.in-Err-Lines.field-0-is (c.farms_are_lawful.ensures.stopped machines budget bounds) c.in-Err-Lines.ensures.stops
