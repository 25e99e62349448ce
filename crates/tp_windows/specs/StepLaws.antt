-- Each step that may run stands in the rows of its holds.
use Rattle.std.specs.Prelude.{ℕ, List}
use Rattle.tp_machine.specs.ModuleUse.{action_at}
use Rattle.tp_machine.specs.declared.machine.Machine.{Machine}
use Rattle.tp_machine.specs.declared.parts.ActId.{ActId}
use Rattle.tp_schedule.specs.Holders.{holds_of_act}
use Rattle.tp_schedule.specs.declared.parts.Plan.{Plan}
use Rattle.tp_windows.specs.KeptRows.{AreRowsOf}
use Rattle.tp_windows.specs.Rows.{AllStandIn}
use Rattle.tp_windows.specs.Ways.{MayRun}
use Rattle.tp_windows.specs.Windows.{Windows}
use Rattle.tp_windows.specs.declared.gaps.KeptHold.{KeptHold}

-- where an action may run, each of its holds stands in a gap of its row
abbrev pub RowLaw : Type 0
RowLaw = (machine : Machine) (plans : List Plan) (w : Windows) (rows : List (List KeptHold)) (act : ActId) (start end : ℕ) → AreRowsOf machine plans w rows → MayRun machine plans w act start end
    → AllStandIn machine rows (holds_of_act (action_at machine act.0)) start end
