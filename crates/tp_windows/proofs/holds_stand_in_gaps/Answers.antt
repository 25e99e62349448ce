use Rattle.tp_windows.proofs.InGaps.{first_gap_law, gap_law, last_gap_law}
use Rattle.tp_windows.proofs.holds_stand_in_gaps.Goals as goal

pub returns-clause-gap : goal.returns-clause-gap
returns-clause-gap c = gap_law

pub returns-clause-last : goal.returns-clause-last
returns-clause-last c = last_gap_law

pub returns-clause-first : goal.returns-clause-first
returns-clause-first c = first_gap_law
