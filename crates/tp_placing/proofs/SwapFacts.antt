-- A network with the same edges in another order.
use Rattle.std.proofs.Common.{◌≡◌, ℕ, List, ◌++◌, length, map, arith, Some, All, Contains}
use Rattle.std.proofs.lemmas.List.{length-append}
use Rattle.std.proofs.lemmas.List.Elements.{All-append, All-map, All-contains_itself, Contains-append_left, Contains-append_right}
use Rattle.tp_base.specs.declared.edges.Edge.{Edge}
use Rattle.tp_base.specs.Net.{Net, IsSolution, HasLeast, HasNoSolution, Keeps, with_edges}
use Rattle.tp_machine.specs.declared.machine.Machine.{Machine}
use Rattle.tp_schedule.specs.Spots.{Spot, Ticks}
use Rattle.tp_schedule.specs.declared.parts.Ask.{Ask}
use Rattle.tp_schedule.specs.declared.parts.Plan.{Plan}
use Rattle.tp_choices.proofs.Lists.{All-map_from}
use Rattle.tp_constraints.specs.Gaps.{KeepsGap}
use Rattle.tp_constraints.specs.Numbers.{IsEdgeOf, IsNetFor, gap_by}
use Rattle.tp_constraints.specs.Suffixes.{Suffix}
use Rattle.tp_constraints.proofs.Lists.{All-split, all-by}
use Rattle.tp_placing.specs.declared.causes.EdgeCause.{EdgeCause}
use Rattle.tp_placing.specs.declared.parts.Held.{Held}
use Rattle.tp_placing.specs.declared.parts.Step.{Step}
use Rattle.tp_placing.specs.Boards.{suffix_after}
use Rattle.tp_placing.specs.Causes.{IsNamedHop, IsSafe}
use Rattle.tp_placing.specs.Reasons.{IsShown}
use Rattle.tp_placing.specs.LoadedBoard.{AreCaused, IsAtWith, choices_of}

pub swapped : (xs ys : List Edge) → All (Contains (ys ++ xs)) (xs ++ ys)
swapped xs ys = All-append (Contains (ys ++ xs)) xs ys
    (λ k d w. Contains-append_right ys xs _ (All-contains_itself xs k d w))
    (λ k d w. Contains-append_left ys xs _ (All-contains_itself ys k d w))

module _ (n : Net) (es fs : List Edge) (there : All (Contains es) fs) where
  -- what holds of all edges
  pub all-there : (P : Edge → Type 0) → All P (n.edges ++ es) → All P (n.edges ++ fs)
  all-there P all = let s = All-split P n.edges es all in All-append P n.edges fs s.0 (all-by P fs es there s.1)

  pub solution-there : (x : ℕ → ℕ) → IsSolution (with_edges n es) x → IsSolution (with_edges n fs) x
  solution-there x s = record { above_low = s.above_low; below_cap = s.below_cap; keeps = all-there (Keeps x) s.keeps }

  -- so what has no solution with some of the edges has none with all
  pub none-there : HasNoSolution (with_edges n fs) → HasNoSolution (with_edges n es)
  none-there none x s = none x (solution-there x s)

  gaps-there : (t : Ticks) (table : List Spot) → All (KeepsGap t) (map (gap_by table) (n.edges ++ es)) → All (KeepsGap t) (map (gap_by table) (n.edges ++ fs))
  gaps-there t table all =
      All-map (KeepsGap t) (gap_by table) (n.edges ++ fs) (all-there (λ e. KeepsGap t (gap_by table e)) (All-map_from (KeepsGap t) (gap_by table) (n.edges ++ es) all))

  pub shown-there : {N : Type 0} (refutes : N → Net → Type 0) (k : N) → IsShown refutes k (with_edges n fs) → IsShown refutes k (with_edges n es)
  shown-there refutes k s = record {
    late = s.late;
    shown = s.shown;
    part = record {
      points = s.part.points;
      lows = s.part.lows;
      caps = s.part.caps;
      edges = all-by (Contains (n.edges ++ es)) s.late.edges (n.edges ++ fs) s.part.edges (all-there (Contains (n.edges ++ es)) (All-contains_itself (n.edges ++ es)));
    };
  }

module _ (n : Net) (es fs : List Edge) (there : All (Contains es) fs) (back : All (Contains fs) es) where
  pub least-swapped : HasLeast (with_edges n es) → HasLeast (with_edges n fs)
  least-swapped l = (l.0, record { solution = solution-there n es fs there l.0 l.1.solution; least = λ y s. l.1.least y (solution-there n fs es back y s) })

  pub net-swapped : (known : Spot → Type 0) (low cap : Spot → ℕ) (times : Ticks → Type 0) (table : List Spot) → IsNetFor known low cap times table (with_edges n es) → IsNetFor known low cap times table (with_edges n fs)
  net-swapped known low cap times table is = record {
    is_table = is.is_table;
    lows = is.lows;
    caps = is.caps;
    edges = all-there n es fs there (IsEdgeOf table) is.edges;
    says = λ t. (
      λ h. let k = (is.says t).0 h in (k.0, gaps-there n es fs there t table k.1),
      λ k. (is.says t).1 (k.0, gaps-there n fs es back t table k.1),
    );
  }

  pub at-swapped : (m : Machine) (plans : List Plan) (ask : Ask) (x : Suffix) (steps : List Step) (timelines : List (List ℕ)) (holds : List Held) → length fs ≡ length es → IsAtWith m plans ask (Some x) steps (with_edges n es) timelines holds
      → IsAtWith m plans ask (Some x) steps (with_edges n fs) timelines holds
  at-swapped m plans ask x steps timelines holds same at =
      let few = at.few_edges in
      let a = length-append n.edges es in
      let b = length-append n.edges fs in
      record {
        net = net-swapped _ _ _ _ _ at.net;
        says = tt;
        solved = least-swapped at.solved;
        orders = at.orders;
        at_hand = at.at_hand;
        few_steps = at.few_steps;
        few_edges = omega (arith, few, a, b, same);
        few_holds = at.few_holds;
        all_held = at.all_held;
        small = at.small;
      }

  pub caused-swapped : (m : Machine) (plans : List Plan) (ask : Ask) (causes : List EdgeCause) (steps : List Step) → AreCaused m plans ask causes steps (with_edges n es) → AreCaused m plans ask causes steps (with_edges n fs)
  caused-swapped m plans ask causes steps c = record {
    hops = all-there n es fs there (IsNamedHop m plans ask (choices_of (suffix_after steps)) causes) c.hops;
    safe = all-there n es fs there (IsSafe (length steps)) c.safe;
  }
