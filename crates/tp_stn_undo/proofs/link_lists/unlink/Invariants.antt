use Rattle.std.proofs.Common.{◌≡◌, ◌≤◌, length, take, drop, vec_capacity}
use Rattle.tp_stn_undo.specs.Saved.{relinked}
use Rattle.tp_stn_undo.proofs.link_lists.unlink.Given as goal

abbrev pub invariant-back : goal.invariant-back
invariant-back l = record {
  links : l.links.items ≡ take (length l.links.items) l.initial.links.items;
  to : l.to ≤ length l.links.items;
  heads : relinked (drop l.to l.links.items) l.heads ≡ relinked (drop l.to l.initial.links.items) l.initial.heads;
  capacity : vec_capacity l.links ≡ vec_capacity l.initial.links;
}

abbrev pub decreases-back : goal.decreases-back
decreases-back l = length l.links.items
