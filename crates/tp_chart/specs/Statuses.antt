-- The number and the line of each status.
use Rattle.std.specs.Prelude.{ℕ, List, ◌++◌, codes}
use Rattle.std.specs.Fmt.{decimal}
use Rattle.tp_machine_text.specs.declared.machine_reader.MachineFault.{MachineFault}
use Rattle.tp_machine_text.specs.declared.machine_reader.MachineFault.TheVariants as fault
use Rattle.tp_snapshot.specs.declared.fault.SnapFault.{SnapFault}
use Rattle.tp_snapshot.specs.declared.fault.SnapFault.TheVariants as snap
use Rattle.tp_chart.specs.declared.chart_status.ChartStatus.{ChartStatus}
use Rattle.tp_chart.specs.declared.chart_status.ChartStatus.TheVariants as status

abbrev pub status_number : ChartStatus → ℕ
status_number status.Done = 0
status_number status.Memory = 1
status_number status.Usage = 2
status_number (status.Machine f) = 3
status_number status.Shelf = 4
status_number status.Source = 5
status_number status.Sink = 6
status_number (status.TooLong what) = 7
status_number (status.Line n) = 8
status_number (status.Snapshot f) = 9

abbrev pub fault_line : MachineFault → List ℕ
fault_line fault.Memory = codes "out of memory"
fault_line fault.NotToml = codes "not TOML"
fault_line (fault.Rule n) = codes "rule " ++ decimal n

abbrev pub snapshot_line : SnapFault → List ℕ
snapshot_line snap.Memory = codes "out of memory"
snapshot_line snap.NotJson = codes "not JSON"
snapshot_line (snap.Rule n) = codes "rule " ++ decimal n

abbrev pub status_line : ChartStatus → List ℕ
status_line status.Done = codes ""
status_line status.Memory = codes "chart: out of memory"
status_line status.Usage = codes "chart: usage: chart [--sheets] [--html] [--from T] [--at T] [--machine K] MACHINE"
status_line (status.Machine f) = codes "chart: machine: " ++ fault_line f
status_line status.Shelf = codes "chart: cannot read the machine text"
status_line status.Source = codes "chart: cannot read the input"
status_line status.Sink = codes "chart: cannot write the output"
status_line (status.TooLong what) = codes "chart: input too long"
status_line (status.Line n) = codes "chart: line " ++ decimal n ++ codes ": not a line of a log"
status_line (status.Snapshot f) = codes "chart: snapshot: " ++ snapshot_line f
