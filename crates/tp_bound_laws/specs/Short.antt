-- How long the lines of a tree are, where its chains and loops pass no more points than there can be.
use Rattle.std.specs.Prelude.{ℕ, ◌≤◌, List, length, All}
use Rattle.tp_bounds.specs.Trees.{IsTree, tree_lines}
use Rattle.tp_bounds.specs.declared.tree.BoundTree.{BoundTree}
use Rattle.tp_bounds.specs.declared.tree.Close.{Close}
use Rattle.tp_bounds.specs.declared.tree.Close.TheVariants.{Split, Dead, Chain, Loop}
use Rattle.tp_bounds.specs.declared.tree.Node.{Node}
use Rattle.tp_machine.specs.declared.machine.Machine.{Machine}
use Rattle.tp_schedule.specs.declared.parts.Ask.{Ask}
use Rattle.tp_schedule.specs.declared.parts.Plan.{Plan}
use Rattle.tp_bound_laws.specs.Claims.{IsTreeFor, limit_of, live_part}
use Rattle.tp_bound_laws.specs.Once.{IsSimple}
use Rattle.tp_bound_laws.specs.declared.claim.Claim.{Claim}

-- the most hops of a node: more than 256 live plans of 64 actions and the asked copy have points
abbrev pub most_hops : ℕ
most_hops = 20000

-- the most bytes of a line, with its LF
abbrev pub most_bytes : ℕ
most_bytes = 4194304

abbrev pub hops_in : Close → ℕ
hops_in Split = 0
hops_in Dead = 0
hops_in (Chain first hops) = length hops
hops_in (Loop first hops) = length hops

abbrev pub IsOfFewHops : Node → Type 0
IsOfFewHops n = hops_in n.close ≤ most_hops

abbrev pub HasFewHops : BoundTree → Type 0
HasFewHops tree = All IsOfFewHops tree.nodes

-- the tree is one for the claim on the live part, has few hops, and no chain or loop passes a point twice
abbrev pub IsShortTreeFor : Machine → List Plan → Ask → Claim → BoundTree → Type 0
IsShortTreeFor machine plans ask claim tree = IsTreeFor machine plans ask claim tree × HasFewHops tree × IsSimple machine (live_part machine ask plans) ask (limit_of machine ask claim) tree

-- where hops are few, no line is longer
abbrev pub FewHopsMakeShortLines : Type 0
FewHopsMakeShortLines = (tree : BoundTree) → IsTree tree → HasFewHops tree → All (λ line. length line ≤ most_bytes) (tree_lines tree)
