-- The trees of a turn have lines: an ask of a turn has a goal state or a start state, and no loop of a bound tree is empty.
use Rattle.std.proofs.Common.{◌≡◌, ◌+◌, ◌<◌, Bool, true, false, ◌||◌, ◌==◌, List, [], ◌∷◌, ◌++◌, length, map, Option, Some, None, refl, sym, subst, All, arith}
use Rattle.std.specs.Prelude.{IsTrue, find, if◌then◌else◌, option_map, ℤ, pos}
use Rattle.std.proofs.lemmas.List.Elements.{All-cons, All-nil}
use Rattle.tp_bounds.specs.Trees.{HasALine, HasHops, IsPrintable}
use Rattle.tp_bounds.specs.declared.tree.BoundTree.{BoundTree}
use Rattle.tp_bounds.specs.declared.tree.Close.{Close}
use Rattle.tp_bounds.specs.declared.tree.Close.TheVariants.{Split, Dead, Chain, Loop}
use Rattle.tp_bounds.specs.declared.tree.Head.{Head}
use Rattle.tp_bounds.specs.declared.tree.Node.{Node}
use Rattle.tp_bounds.specs.declared.tree.TreeRow.{TreeRow}
use Rattle.tp_machine.specs.declared.parts.LocId.{LocId}
use Rattle.tp_machine.specs.declared.parts.State.{State}
use Rattle.tp_machine.specs.declared.machine.Machine.{Machine}
use Rattle.tp_constraints.specs.Numbers.{is_same_spot}
use Rattle.tp_schedule.specs.PlannerAnswers.{Deed}
use Rattle.tp_schedule.specs.PlannerAnswers.Deed.{replied, settled}
use Rattle.tp_schedule.specs.Plans.{end_of_plan}
use Rattle.tp_schedule.specs.Routes.{IsStartFrom}
use Rattle.tp_schedule.specs.Spots.{Spot}
use Rattle.tp_schedule.specs.declared.parts.Ask.{Ask}
use Rattle.tp_schedule.specs.declared.parts.Goal.{Goal}
use Rattle.tp_schedule.specs.declared.parts.Goal.TheVariants.{Tray, Purge}
use Rattle.tp_schedule.specs.declared.parts.Origin.{Origin}
use Rattle.tp_schedule.specs.declared.parts.Origin.TheVariants.{Feeder as FromFeeder, Front as FromFront}
use Rattle.tp_schedule.specs.declared.parts.Plan.{Plan}
use Rattle.tp_schedule.specs.declared.parts.Reply.{Reply}
use Rattle.tp_schedule.specs.declared.parts.Reply.TheVariants.{Planned, Never, Spent}
use Rattle.tp_bound_laws.specs.Chains.{spot_of}
use Rattle.tp_bound_laws.specs.Claims.{IsTreeFor, limit_of, live_part}
use Rattle.tp_bound_laws.specs.Places.{Due, Stand, due_behind, goal_states, stand_of}
use Rattle.tp_bound_laws.specs.Places.Due.{goal}
use Rattle.tp_bound_laws.specs.Rows.{HasRow}
use Rattle.tp_bound_laws.specs.Trees.{Covers, IsBoundTree, close_look, goals_due, loop_look, reach_look, stand_look, with_behind}
use Rattle.tp_bound_laws.specs.Trees.Look.{due, wrong}
use Rattle.tp_bound_laws.specs.Trees.Wrong.{no_such_hop, uncovered}
use Rattle.tp_bound_laws.specs.declared.claim.Claim.{Claim}
use Rattle.tp_bound_laws.specs.declared.claim.Claim.TheVariants.{Earliest, Never as NeverClaim}
use Rattle.tp_event_rules.specs.Logs.{TakesTrees}
use Rattle.tp_event_rules.specs.Loops.{ask_in_flight, is_loose, next_ask}
use Rattle.tp_event_rules.specs.Moments.{is_to_tray}
use Rattle.tp_event_rules.specs.States.{SessionState}
use Rattle.tp_run_laws.specs.CarriedTurns.{IsOfTurn, is_from_front}
use Rattle.tp_run_laws.specs.Runs.{tree_claims}

-- ---- asks of a turn

or-true : (b : Bool) → (b || true) ≡ true
or-true true = refl
or-true false = refl

-- the ask for a loose copy is of one in flight
pub of-turn : (machine : Machine) (s : SessionState) (ask : Ask) (reply : Reply) → next_ask machine s ≡ Some ask → IsOfTurn (replied ask reply)
of-turn machine s ask reply e = go (find (is_loose s) s.plans) e where
  go : (o : Option Plan) → option_map (ask_in_flight machine s) o ≡ Some ask → IsOfTurn (replied ask reply)
  go None e = absurd cc
  go (Some p) e =
      let is : ask_in_flight machine s p ≡ ask = cc in
      subst (λ a. IsOfTurn (replied a reply)) is (or-true (is_to_tray p.goal))

-- ---- bound trees

module _ (machine : Machine) (plans : List Plan) (ask : Ask) (rows : List TreeRow) (limit : ℤ) where
  -- a loop without hops takes no time
  no-time : (from : Spot) (b : Bool) (behind more : List Due) → with_behind machine plans ask rows limit behind (if b then reach_look (pos 0) (pos 0) else wrong (no_such_hop 0)) ≡ due more → ⊥
  no-time from true behind more e = cc
  no-time from false behind more e = cc

  no-loop : (s : Stand) (o : Option Spot) (behind more : List Due) → with_behind machine plans ask rows limit behind (loop_look machine plans ask rows limit s o []) ≡ due more → ⊥
  no-loop s None behind more e = cc
  no-loop s (Some from) behind more e = no-time from (is_same_spot from from) behind more e

  has-hops : (s : Stand) (head : Head) (close : Close) (behind more : List Due) → with_behind machine plans ask rows limit behind (close_look machine plans ask rows limit s head close) ≡ due more → HasHops close
  has-hops s head Split behind more e = tt
  has-hops s head Dead behind more e = tt
  has-hops s head (Chain first hops) behind more e = tt
  has-hops s head (Loop first []) behind more e = absurd (no-loop s (spot_of plans (length s.branch.x.choices) first) behind more e)
  has-hops s head (Loop first (h ∷ hops)) behind more e = omega arith

  node-hops : (d : Due) (n : Node) (more : List Due) (o : Option Stand) → stand_look machine plans ask rows limit d n o ≡ due more → HasHops n.close
  node-hops d n more None e = absurd cc
  node-hops d n more (Some s) e = go (n.depth == s.branch.depth) e where
    go : (b : Bool) → (if b then with_behind machine plans ask rows limit (due_behind machine plans ask rows d n.head) (close_look machine plans ask rows limit s n.head n.close) else wrong uncovered) ≡ due more → HasHops n.close
    go true e = has-hops s n.head n.close (due_behind machine plans ask rows d n.head) more e
    go false e = absurd cc

  all-hops : (ds : List Due) (nodes : List Node) → Covers machine plans ask rows limit ds nodes → All (λ (node : Node). HasHops node.close) nodes
  all-hops ds [] covers = All-nil (λ (node : Node). HasHops node.close)
  all-hops [] (n ∷ nodes) covers = absurd covers
  all-hops (d ∷ ds) (n ∷ nodes) (more, e, rest) =
      All-cons (λ (node : Node). HasHops node.close) n nodes (node-hops d n more (stand_of machine plans ask rows d n.head) e) (all-hops (more ++ ds) nodes rest)

  -- a tray has a goal state
  some-node : (t : LocId) (nodes : List Node) → Covers machine plans ask rows limit (map (λ s. goal s) (goal_states machine ask.want (Tray t))) nodes → 0 < length rows + length nodes
  some-node t [] covers = absurd covers
  some-node t (n ∷ nodes) covers = omega arith

some-line : (machine : Machine) (plans : List Plan) (ask : Ask) (limit : ℤ) (tree : BoundTree) → IsTrue (is_to_tray ask.goal || is_from_front ask.origin) → IsBoundTree machine plans ask limit tree → HasALine tree
some-line machine plans ask limit tree of_turn is = by-goal ask.goal ask.origin of_turn is.nodes is.rows.starts where
  by-goal : (g : Goal) (o : Origin) → IsTrue (is_to_tray g || is_from_front o) → Covers machine plans ask tree.rows limit (map (λ s. goal s) (goal_states machine ask.want g)) tree.nodes
      → ((s : State) → IsStartFrom machine ask o s → HasRow machine tree.rows s 0) → HasALine tree
  by-goal (Tray t) o of_turn covers starts = some-node machine plans ask tree.rows limit t tree.nodes covers
  by-goal Purge FromFeeder of_turn covers starts = absurd cc
  by-goal Purge (FromFront state end count) of_turn covers starts = let (r, in', same, zero-room) = starts state refl in omega (arith, in'.1)

-- a tree of an ask of a turn has lines
tree-lines : (machine : Machine) (plans : List Plan) (ask : Ask) (claim : Claim) (tree : BoundTree) → IsTrue (is_to_tray ask.goal || is_from_front ask.origin) → IsTreeFor machine plans ask claim tree → IsPrintable tree
tree-lines machine plans ask claim tree of_turn is = (
  some-line machine (live_part machine ask plans) ask (limit_of machine ask claim) tree of_turn is,
  all-hops machine (live_part machine ask plans) ask tree.rows (limit_of machine ask claim) (goals_due machine (live_part machine ask plans) ask tree.rows (limit_of machine ask claim)) tree.nodes is.nodes,
)

-- and so has each tree that a deed of a turn takes
pub lines-taken : (machine : Machine) (bounds : Bool) (now later : List BoundTree) (plans plans' : List Plan) (deed : Deed) → IsOfTurn deed
    → TakesTrees tree_claims machine bounds now plans deed plans' later → All IsPrintable later → All IsPrintable now
lines-taken machine bounds now later plans plans' (settled at) of_turn takes lines = subst (All IsPrintable) takes lines
lines-taken machine false now later plans plans' (replied ask reply) of_turn takes lines = subst (All IsPrintable) takes lines
lines-taken machine true now later plans plans' (replied ask Planned) of_turn (tree, (p, planned, claim, is)) lines =
    subst (All IsPrintable) (sym is) (All-cons IsPrintable tree later (tree-lines machine plans ask (Earliest (end_of_plan p)) tree of_turn claim.0) lines)
lines-taken machine true now later plans plans' (replied ask Never) of_turn (tree, claim, is) lines =
    subst (All IsPrintable) (sym is) (All-cons IsPrintable tree later (tree-lines machine plans ask NeverClaim tree of_turn claim.0) lines)
lines-taken machine true now later plans plans' (replied ask (Spent bound)) of_turn takes lines = subst (All IsPrintable) takes lines
