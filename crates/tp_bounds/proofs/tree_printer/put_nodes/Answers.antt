use Rattle.tp_bounds.specs.Lines.{IsNode, node_text}
use Rattle.tp_bounds.proofs.More.{all_more, text_more}
use Rattle.tp_bounds.proofs.tree_printer.put_nodes.Goals as goal

pub loop-node-preserved : goal.loop-node-preserved
loop-node-preserved c =
    let item = c.node-item.result in
    let lt = c.loop-node-test.true in
    record {
      written = text_more node_text c.args.nodes.now c.loop-node.node-index item item c.args.out.now.items c.loop-node.out.items c.put_node.new.out.items lt c.node-item.is c.loop-node.invariant.written c.in_ok-put_node.ensures.written;
      spelled = all_more IsNode c.args.nodes.now c.loop-node.node-index item item lt c.node-item.is c.loop-node.invariant.spelled c.in_ok-put_node.ensures.spelled;
    }
