use Rattle.std.proofs.Common.{◌≡◌, ◌+◌, ◌<◌, ◌≤◌, ◌^◌, ◌++◌, length}
use Rattle.std.specs.List.{All}
use Rattle.tp_words.specs.Texts.{lines_of}
use Rattle.tp_log.specs.GatheredItems.{IsGathered, lines_so_far}
use Rattle.tp_log.proofs.LogLines.{text_of}
use Rattle.tp_log.proofs.log_reader.read_log.Given as goal

abbrev pub invariant-lines : goal.invariant-lines
invariant-lines l = record {
  gathered : IsGathered l.gathered;
  whole : l.text ≡ text_of (lines_so_far l.gathered) ++ l.rest;
  count : l.number ≡ length (lines_so_far l.gathered);
  room : l.number + length l.rest ≤ length l.text;
  long : All (λ line. length line + 1 < 2 ^ 32) (lines_of l.rest);
}

abbrev pub decreases-lines : goal.decreases-lines
decreases-lines l = length l.rest
