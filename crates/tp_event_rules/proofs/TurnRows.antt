-- Rows as turns of the planner that reads its answers from a list.
use Rattle.std.proofs.Common.{List, [], ◌∷◌, codes, Some, None}
use Rattle.tp_schedule.specs.declared.parts.Reply.TheVariants.{Never as NoWay}
use Rattle.tp_schedule.specs.declared.records.Cause.TheVariants.{Back}
use Rattle.tp_schedule.specs.declared.records.Record.TheVariants.{Never, Lost, Cut, Stuck, Refused}
use Rattle.tp_script.specs.declared.event.Event.TheVariants.{Clock, Off}
use Rattle.tp_event_rules.specs.Turns.{Turn}
use Rattle.tp_event_rules.proofs.ClockRows.{at_one, clock_back}
use Rattle.tp_event_rules.proofs.Machines.{duo}
use Rattle.tp_event_rules.proofs.OffRows.{to_dump, stuck_front, all_out, no_way_at_all}
use Rattle.tp_event_rules.proofs.Replay.{Given, answers, settles, listed}
use Rattle.tp_event_rules.proofs.Replayed.{turn-of_row}
use Rattle.tp_event_rules.proofs.RowParts.{j1}

pub refused_turn : Turn listed duo (Clock 0) at_one [] (Refused (Back 1) ∷ []) at_one []
refused_turn = turn-of_row duo (Clock 0) at_one [] (Refused (Back 1) ∷ []) at_one clock_back

abbrev pub no_way : List Given
no_way = answers NoWay (stuck_front ∷ []) ∷ settles (stuck_front ∷ []) ∷ answers NoWay (stuck_front ∷ []) ∷ []

pub stuck_turn : Turn listed duo (Off (codes "DUMP")) to_dump no_way
    (Cut (j1 1 1) ∷ Never (j1 1 1) None ∷ Stuck (j1 1 1) (codes "ENG2") ∷ Lost (j1 1 1) ∷ Never (j1 1 2) (Some (codes "t")) ∷ []) all_out []
stuck_turn = turn-of_row duo (Off (codes "DUMP")) to_dump no_way _ all_out no_way_at_all
