-- A new shelf has no file.
use Rattle.std.specs.Ordering.{nat_cmp}
use Rattle.std.specs.Cmp.Lexicographic.{slice_cmp}
use Rattle.std.specs.FinMap.{get-empty}
use Rattle.rows_cases.proofs.case_run.shelf_of.Goals as goal

pub add-requires : goal.add-requires
add-requires g c = rw c.new-own.ensures.files (get-empty (slice_cmp nat_cmp) _)
