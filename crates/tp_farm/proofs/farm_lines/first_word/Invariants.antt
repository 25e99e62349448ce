use Rattle.std.proofs.Common.{◌≡◌, ◌≤◌, length}
use Rattle.tp_script.specs.Script.{words_of_line}
use Rattle.tp_farm.proofs.farm_lines.first_word.Given as goal

abbrev pub invariant-words : goal.invariant-words
invariant-words l = (words_of_line l.line ≡ words_of_line l.rest) × (length l.rest ≤ length l.line)

abbrev pub decreases-words : goal.decreases-words
decreases-words l = length l.rest
