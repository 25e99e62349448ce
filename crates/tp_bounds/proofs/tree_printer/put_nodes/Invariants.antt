use Rattle.std.proofs.Common.{◌≡◌, ◌++◌, take}
use Rattle.std.specs.List.{All, flat_map}
use Rattle.tp_bounds.specs.Lines.{IsNode, node_text}
use Rattle.tp_bounds.proofs.tree_printer.put_nodes.Given as goal

abbrev pub invariant-loop-node : goal.invariant-loop-node
invariant-loop-node l = record {
  written : l.out.items ≡ l.fn.out.items ++ flat_map node_text (take l.node-index l.nodes);
  spelled : All IsNode (take l.node-index l.nodes);
}
