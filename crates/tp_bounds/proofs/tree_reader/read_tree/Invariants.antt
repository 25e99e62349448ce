use Rattle.std.proofs.Common.{◌≡◌, ◌+◌, ◌<◌, ◌≤◌, ◌^◌, ◌++◌, length}
use Rattle.std.specs.List.{All}
use Rattle.tp_bounds.specs.Lines.{IsNode, IsRow}
use Rattle.tp_words.specs.Texts.{lines_of}
use Rattle.tp_bounds.specs.Trees.{tree_text}
use Rattle.tp_bounds.proofs.tree_reader.read_tree.Given as goal

abbrev pub invariant-lines : goal.invariant-lines
invariant-lines l = record {
  rows : All IsRow l.rows;
  nodes : All IsNode l.nodes;
  whole : l.text ≡ tree_text (record { rows = l.rows; nodes = l.nodes }) ++ l.rest;
  long : All (λ line. length line + 1 < 2 ^ 32) (lines_of l.rest);
  counted : l.number ≡ length l.rows + length l.nodes;
  room : l.number + length l.rest ≤ length l.text;
}

abbrev pub decreases-lines : goal.decreases-lines
decreases-lines l = length l.rest
