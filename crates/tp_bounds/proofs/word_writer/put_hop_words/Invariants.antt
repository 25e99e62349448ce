use Rattle.std.proofs.Common.{◌≡◌, ◌++◌, map, take}
use Rattle.std.specs.List.{All}
use Rattle.tp_bounds.specs.Lines.{behind_spaces}
use Rattle.tp_bounds.specs.Words.{IsHop, hop_text}
use Rattle.tp_bounds.proofs.word_writer.put_hop_words.Given as goal

abbrev pub invariant-loop-hop : goal.invariant-loop-hop
invariant-loop-hop l = record {
  written : l.out.items ≡ l.fn.out.items ++ behind_spaces (map hop_text (take l.hop-index l.hops));
  spelled : All IsHop (take l.hop-index l.hops);
}
