-- A flaw as it is reported.
use Rattle.std.specs.Prelude.{ℕ, List, ◌++◌, codes}
use Rattle.std.specs.Fmt.{decimal, signed_decimal}
use Rattle.tp_bound_laws.specs.declared.claim.TreeFlaw.{TreeFlaw}
use Rattle.tp_bound_laws.specs.declared.claim.TreeFlaw.TheVariants as tree
use Rattle.tp_log_check.specs.declared.flaw.Flaw.{Flaw}
use Rattle.tp_log_check.specs.declared.flaw.Flaw.TheVariants.{Memory, Text, Due, Illegal, NotLeast, Tree}

-- what is wrong with a tree
abbrev pub tree_reason : TreeFlaw → List ℕ
tree_reason tree.Memory = codes "out of memory"
tree_reason (tree.RoomRow row) = codes "room row " ++ decimal row
tree_reason (tree.Uncovered node) = codes "uncovered"
tree_reason (tree.NoSuchHop node hop) = codes "no such hop " ++ decimal hop
tree_reason (tree.Weak node reach cap) = codes "reach " ++ signed_decimal reach ++ codes " cap " ++ signed_decimal cap
tree_reason (tree.NotDead node) = codes "not dead"

-- `line N: REASON`
abbrev pub flaw_text : Flaw → List ℕ
flaw_text Memory = codes "out of memory"
flaw_text (Text line) = codes "line " ++ decimal line ++ codes ": text"
flaw_text (Due line) = codes "line " ++ decimal line ++ codes ": due"
flaw_text (Illegal line first second) = codes "line " ++ decimal line ++ codes ": clash " ++ signed_decimal first ++ codes " " ++ signed_decimal second
flaw_text (NotLeast line given least) = codes "line " ++ decimal line ++ codes ": point " ++ decimal given ++ codes " least " ++ decimal least
flaw_text (Tree line flaw) = codes "line " ++ decimal line ++ codes ": tree " ++ tree_reason flaw
