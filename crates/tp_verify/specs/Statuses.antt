-- The number and the line of each status.
use Rattle.std.specs.Prelude.{ℕ, List, ◌++◌, codes}
use Rattle.std.specs.Fmt.{decimal}
use Rattle.tp_log_check.specs.FlawText.{flaw_text}
use Rattle.tp_machine_text.specs.declared.machine_reader.MachineFault.{MachineFault}
use Rattle.tp_machine_text.specs.declared.machine_reader.MachineFault.TheVariants as fault
use Rattle.tp_verify.specs.declared.verify_status.VerifyStatus.{VerifyStatus}
use Rattle.tp_verify.specs.declared.verify_status.VerifyStatus.TheVariants as status

abbrev pub status_number : VerifyStatus → ℕ
status_number status.Done = 0
status_number status.Memory = 1
status_number status.Usage = 2
status_number (status.Machine f) = 3
status_number status.Shelf = 4
status_number status.Source = 5
status_number status.Sink = 6
status_number (status.TooLong what) = 7
status_number (status.Rejected f) = 8

abbrev pub fault_line : MachineFault → List ℕ
fault_line fault.Memory = codes "out of memory"
fault_line fault.NotToml = codes "not TOML"
fault_line (fault.Rule n) = codes "rule " ++ decimal n

abbrev pub status_line : VerifyStatus → List ℕ
status_line status.Done = codes ""
status_line status.Memory = codes "verify: out of memory"
status_line status.Usage = codes "verify: usage: verify MACHINE"
status_line (status.Machine f) = codes "verify: machine: " ++ fault_line f
status_line status.Shelf = codes "verify: cannot read the machine text"
status_line status.Source = codes "verify: cannot read the input"
status_line status.Sink = codes "verify: cannot write the output"
status_line (status.TooLong what) = codes "verify: input too long"
status_line (status.Rejected f) = codes "verify: " ++ flaw_text f
