use Rattle.std.proofs.Common.{◌≡◌, ◌<◌, ◌≤◌, length}
use Rattle.tp_pool.specs.Entries.{choices_of, choice_made}
use Rattle.tp_pool.specs.Nodes.{entries_of}
use Rattle.tp_pool.proofs.pool.choice_up.Given as goal

abbrev pub invariant-up : goal.invariant-up
invariant-up l = record {
  there : l.at < length l.nodes;
  above : l.depth ≤ length (choices_of (entries_of l.nodes) l.at);
  same : choice_made (choices_of (entries_of l.nodes) l.at) l.depth ≡ choice_made (choices_of (entries_of l.nodes) l.node) l.depth;
}

abbrev pub decreases-up : goal.decreases-up
decreases-up l = l.at
