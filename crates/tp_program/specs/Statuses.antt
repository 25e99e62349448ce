-- The number and the line of each status.
use Rattle.std.specs.Prelude.{ℕ, List, ◌++◌, codes}
use Rattle.std.specs.Fmt.{decimal}
use Rattle.tp_machine_text.specs.declared.machine_reader.MachineFault.{MachineFault}
use Rattle.tp_machine_text.specs.declared.machine_reader.MachineFault.TheVariants as fault
use Rattle.tp_compose.specs.declared.rack_machine.RackFault.{RackFault}
use Rattle.tp_compose.specs.declared.rack_machine.RackFault.TheVariants as rack
use Rattle.tp_log_check.specs.FlawText.{flaw_text}
use Rattle.tp_snapshot.specs.declared.fault.SnapFault.{SnapFault}
use Rattle.tp_snapshot.specs.declared.fault.SnapFault.TheVariants as snap
use Rattle.tp_program.specs.declared.farm_fault.FarmFault.{FarmFault}
use Rattle.tp_program.specs.declared.farm_fault.FarmFault.TheVariants as farm
use Rattle.tp_program.specs.declared.status.Status.{Status}
use Rattle.tp_program.specs.declared.status.Status.TheVariants as status

abbrev pub status_number : Status → ℕ
status_number status.Done = 0
status_number status.Memory = 1
status_number status.Usage = 2
status_number (status.Machine f) = 3
status_number status.Shelf = 4
status_number status.Source = 5
status_number status.Sink = 6
status_number (status.TooLong what) = 7
status_number (status.Rejected f) = 8
status_number (status.Snapshot f) = 9
status_number (status.Rack f) = 10
status_number (status.Farm f) = 11

abbrev pub fault_line : MachineFault → List ℕ
fault_line fault.Memory = codes "out of memory"
fault_line fault.NotToml = codes "not TOML"
fault_line (fault.Rule n) = codes "rule " ++ decimal n

abbrev pub snapshot_line : SnapFault → List ℕ
snapshot_line snap.Memory = codes "out of memory"
snapshot_line snap.NotJson = codes "not JSON"
snapshot_line (snap.Rule n) = codes "rule " ++ decimal n

abbrev pub rack_line : RackFault → List ℕ
rack_line rack.Memory = codes "out of memory"
rack_line rack.NotToml = codes "not TOML"
rack_line (rack.Rule n) = codes "rule " ++ decimal n
rack_line (rack.Flat n) = codes "flat rule " ++ decimal n

abbrev pub farm_line : FarmFault → List ℕ
farm_line farm.Lines = codes "lines"
farm_line (farm.Name n) = codes "name " ++ decimal n
farm_line (farm.Machine at fault.Memory) = codes "machine " ++ decimal at ++ codes ": out of memory"
farm_line (farm.Machine at fault.NotToml) = codes "machine " ++ decimal at ++ codes ": not TOML"
farm_line (farm.Machine at (fault.Rule n)) = codes "machine " ++ decimal at ++ codes ": rule " ++ decimal n

abbrev pub status_line : Status → List ℕ
status_line status.Done = codes ""
status_line status.Memory = codes "printer: out of memory"
status_line status.Usage = codes "printer: usage: printer MODE ARG [--bounds] [--budget N]"
status_line (status.Machine f) = codes "printer: machine: " ++ fault_line f
status_line status.Shelf = codes "printer: cannot read the machine text"
status_line status.Source = codes "printer: cannot read the input"
status_line status.Sink = codes "printer: cannot write the output"
status_line (status.TooLong what) = codes "printer: input too long"
status_line (status.Rejected f) = codes "printer: " ++ flaw_text f
status_line (status.Snapshot f) = codes "printer: snapshot: " ++ snapshot_line f
status_line (status.Rack f) = codes "printer: rack: " ++ rack_line f
status_line (status.Farm f) = codes "printer: farm: " ++ farm_line f
