-- The number and the line of each status.
use Rattle.std.specs.Prelude.{ℕ, List, codes}
use Rattle.tp_why.specs.declared.why_status.WhyStatus.{WhyStatus}
use Rattle.tp_why.specs.declared.why_status.WhyStatus.TheVariants as status

abbrev pub status_number : WhyStatus → ℕ
status_number status.Done = 0
status_number status.Memory = 1
status_number status.Usage = 2
status_number status.Shelf = 4
status_number status.Sink = 6
status_number status.TooLong = 7

abbrev pub status_line : WhyStatus → List ℕ
status_line status.Done = codes ""
status_line status.Memory = codes "why: out of memory"
status_line status.Usage = codes "why: usage: why machine MACHINE"
status_line status.Shelf = codes "why: cannot read the text"
status_line status.Sink = codes "why: cannot write the output"
status_line status.TooLong = codes "why: input too long"
