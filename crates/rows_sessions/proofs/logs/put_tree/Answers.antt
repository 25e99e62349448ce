use Rattle.std.proofs.Common.{◌<◌, List, [], ◌∷◌}
use Rattle.std.specs.List.{AllByRecursion}
use Rattle.std.proofs.lemmas.List.Elements.{All-from_recursion, recursion_from_All}
use Rattle.tp_bounds.specs.Lines.{IsClose, IsNode}
use Rattle.tp_bounds.specs.Trees.{HasHops}
use Rattle.tp_bounds.specs.declared.tree.Close.{Close}
use Rattle.tp_bounds.specs.declared.tree.Close.TheVariants.{Split, Dead, Chain, Loop}
use Rattle.tp_bounds.specs.declared.tree.Node.{Node}
use Rattle.rows_sessions.proofs.logs.put_tree.Goals as goal

-- a loop that a line tells has a hop
has_hops : (close : Close) → IsClose close → HasHops close
has_hops Split is = tt
has_hops Dead is = tt
has_hops (Chain first hops) is = tt
has_hops (Loop first hops) is = is.1.1

all_have_hops : (nodes : List Node) → AllByRecursion IsNode nodes → AllByRecursion (λ n. HasHops n.close) nodes
all_have_hops [] h = tt
all_have_hops (n ∷ nodes) h = (has_hops n.close h.0.close, all_have_hops nodes h.1)

pub print_tree-requires : goal.print_tree-requires
print_tree-requires c =
    let nodes = c.args.tree.now.nodes in
    (c.requires.0, All-from_recursion (λ n. HasHops n.close) nodes (all_have_hops nodes (recursion_from_All IsNode nodes c.requires.1.1)))
