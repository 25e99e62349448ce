-- A board whose plans are released further, and whose points have the bounds of a later moment, is loaded at that moment.
use Rattle.std.proofs.Common.{◌≡◌, ◌∙◌, ℕ, ◌+◌, ◌<◌, ◌≤◌, false, List, [], ◌∷◌, All, ap, arith, length, refl, subst, sym}
use Rattle.std.specs.List.{flat_map}
use Rattle.std.specs.Prelude.{slice_index, Vec, vec_capacity}
use Rattle.std.specs.declared.alloc.Global.{Global}
use Rattle.std.proofs.lemmas.List.{length-map}
use Rattle.std.proofs.lemmas.List.Elements.{All-weaker}
use Rattle.tp_base.specs.Net.{IsLeast, Net}
use Rattle.tp_base.specs.declared.edges.Edge.{Edge}
use Rattle.tp_base.specs.declared.edges.PointId.{PointId}
use Rattle.tp_machine.specs.declared.machine.Machine.{Machine}
use Rattle.tp_schedule.specs.PlannerAnswers.{last_tick}
use Rattle.tp_schedule.specs.Plans.{IsTimedPlan, point}
use Rattle.tp_schedule.specs.declared.parts.Plan.{Plan}
use Rattle.tp_timelines.specs.Orders.{Orders, order_on}
use Rattle.tp_constraints.specs.Moments.{SayGaps}
use Rattle.tp_constraints.proofs.SayFacts.{says_loaded, shape_says}
use Rattle.tp_constraints.specs.Gaps.{cap_at, low_at}
use Rattle.tp_constraints.specs.Hops.{no_choices}
use Rattle.tp_constraints.specs.Laws.{no_own}
use Rattle.tp_constraints.specs.Numbers.{table_of}
use Rattle.tp_placing.specs.Boards.{side_by_side}
use Rattle.tp_placing.specs.Causes.{IsNamedHop, IsSafe}
use Rattle.tp_placing.specs.Inside.{IsBoard}
use Rattle.tp_placing.specs.Loaded.{CanLoad, IsLoaded}
use Rattle.tp_placing.specs.LoadedNet.{caps_of, lows_of, point_count}
use Rattle.tp_placing.specs.ClockMove.{AreFurther}
use Rattle.tp_placing.specs.LoadedBoard.{AreSlots, loaded_edges}
use Rattle.tp_placing.specs.declared.causes.EdgeCause.{EdgeCause}
use Rattle.tp_placing.specs.declared.parts.Begin.{Begin}
use Rattle.tp_placing.specs.declared.parts.BoardMark.{BoardMark}
use Rattle.tp_placing.specs.declared.parts.Held.{Held}
use Rattle.tp_placing.specs.declared.parts.MadeFor.{MadeFor}
use Rattle.tp_placing.specs.declared.parts.Step.{Step}
use Rattle.tp_placing.proofs.LoadTable.{length-table-of}
use Rattle.tp_placing.proofs.LoadedTicks.{caps-map, lows-map}
use Rattle.tp_placing.proofs.MovedPlans.{further-count, further-firsts, further-hops, further-loads, further-lows, further-orders, further-shapes, further-table}

-- plans that can be loaded rise
pub loads-rise : (machine : Machine) (now : ℕ) (plans : List Plan) → CanLoad machine now plans → All (λ (p : Plan). (i : ℕ) → i < length p.acts → point p i < point p (i + 1)) plans
loads-rise machine now plans can = All-weaker (IsTimedPlan machine) (λ (p : Plan). (i : ℕ) → i < length p.acts → point p i < point p (i + 1)) (λ p t. t.rise) plans can.loadable.legal.timed

module _ (machine : Machine) (before now : ℕ) (plans : List Plan) (net : Net) (timelines : List (List ℕ)) (held : List Held) (firsts : List PointId) (causes : List EdgeCause) (can : CanLoad machine before plans)
    (loaded : IsLoaded machine before plans net timelines held firsts causes) where
  -- how many points there are, and the least ticks of the points before
  pub points-are : length net.lows ≡ point_count plans
  points-are = ap length loaded.net.lows ∙ length-map (table_of plans) (low_at (before + machine.lead) (λ _. false) plans no_own) ∙ length-table-of plans

  pub caps-count : length net.caps ≡ length net.lows
  caps-count =
      ap length loaded.net.caps ∙ length-map (table_of plans) (cap_at (before + machine.window) plans) ∙ sym (length-map (table_of plans) (low_at (before + machine.lead) (λ _. false) plans no_own)) ∙ ap length (sym loaded.net.lows)

  lows-are : net.lows ≡ flat_map (lows_of (before + machine.lead)) plans
  lows-are = loaded.net.lows ∙ lows-map machine before plans can

  module _ (plans' : List Plan) (later : before ≤ now) (last : now ≤ last_tick) (is : AreFurther machine now plans plans') where
    pub moved-loads : CanLoad machine now plans'
    moved-loads = further-loads machine before now plans plans' later is last can

    pub moved-points : point_count plans' ≡ length net.lows
    moved-points = further-count machine before now plans plans' later is ∙ sym points-are

    pub moved-more : (i : ℕ) → i < point_count plans' → slice_index net.lows i ≤ slice_index (flat_map (lows_of (now + machine.lead)) plans') i
    moved-more i within = subst (λ (ls : List ℕ). slice_index ls i ≤ slice_index (flat_map (lows_of (now + machine.lead)) plans') i) (sym lows-are) (further-lows machine before now plans plans' later is can i within)

    -- with the bounds of the moment the board is loaded
    pub moved-loaded : (net' : Net) → net'.lows ≡ flat_map (lows_of (now + machine.lead)) plans' → net'.caps ≡ flat_map (caps_of (now + machine.window)) plans' → net'.edges ≡ net.edges → ((x : ℕ → ℕ) → IsLeast net x → IsLeast net' x)
        → IsLoaded machine now plans' net' timelines held firsts causes
    moved-loaded net' lows caps edges least =
        let old : SayGaps machine plans net'.edges = subst (SayGaps machine plans) (sym edges) loaded.says in
        let says : SayGaps machine plans' net'.edges = shape_says machine plans plans' net'.edges (further-shapes machine before now plans plans' later is) (further-orders machine before now plans plans' later is) old in
        record {
          net = says_loaded machine now plans' net' moved-loads.loadable says (lows ∙ sym (lows-map machine now plans' moved-loads)) (caps ∙ sym (caps-map machine now plans' moved-loads));
          says = says;
          solved = (loaded.solved.0, least loaded.solved.0 loaded.solved.1);
          hops = λ ask. subst (λ (es : List Edge). All (IsNamedHop machine plans' ask no_choices causes) es) (sym edges) (further-hops machine before now plans plans' later is ask causes net.edges (loaded.hops ask));
          safe = subst (λ (es : List Edge). All (IsSafe 0) es) (sym edges) loaded.safe;
          plain = loaded.plain;
          orders = λ r below. (
              let t = sym (further-table machine before now plans plans' later is) in
              let o = sym (further-orders machine before now plans plans' later is r) in
              coe 0 1 (i. AreSlots (t i) held (order_on timelines r) (o i)) (loaded.orders r below));
          few_edges = subst (λ (es : List Edge). length es ≤ loaded_edges) (sym edges) loaded.few_edges;
          few_holds = loaded.few_holds;
          all_held = loaded.all_held;
          small = loaded.small;
          at_firsts = further-firsts machine before now plans plans' later is firsts loaded.at_firsts;
        }

-- where nothing stands at the marks of the board, none is in force on the network
pub none-marked : (held : List Held) (steps : List Step) (cs : List Net) (os : List (List (List ℕ))) (ms : List BoardMark) → length os ≡ length cs → length ms ≡ length cs → side_by_side held steps cs os ms ≡ [] → cs ≡ []
none-marked held steps [] os ms n k none = refl
none-marked held steps (c ∷ cs) [] ms n k none = absurd (omega (arith, n))
none-marked held steps (c ∷ cs) (o ∷ os) [] n k none = absurd (omega (arith, k))
none-marked held steps (c ∷ cs) (o ∷ os) (m ∷ ms) n k none = absurd cc

-- the fields of a board with other plans, and with a network without marks
pub board-moved : (pasts max_marks max_points max_edges edge_capacity : ℕ) (timelines : Orders) (held : Vec Held Global) (begins : Vec Begin Global) (plans plans' : Vec Plan Global) (firsts : Vec PointId Global) (steps : Vec Step Global) (marks : Vec BoardMark Global) (made : Vec Edge Global) (made_for : MadeFor)
    → IsBoard pasts max_marks max_points max_edges edge_capacity timelines held begins plans firsts steps marks made made_for → (pasts' max_marks' max_points' max_edges' : ℕ)
    → pasts' ≡ pasts → max_marks' ≡ max_marks → max_points' ≡ max_points → max_edges' ≡ max_edges → vec_capacity plans ≤ vec_capacity plans'
    → IsBoard pasts' max_marks' max_points' max_edges' edge_capacity timelines held begins plans' firsts steps marks made made_for
board-moved pasts max_marks max_points max_edges edge_capacity timelines held begins plans plans' firsts steps marks made made_for b pasts' max_marks' max_points' max_edges' p m n e wide =
    let i = b.marked in
    let r = b.capacity in
    let spare = i.spare in
    let line_marks = i.line_marks in
    let line_capacity = i.line_capacity in
    let board_marks = i.board_marks in
    let mark_space = i.mark_space in
    let for_steps = i.for_steps in
    let points = r.points in
    let edges = r.edges in
    let all_edges = r.all_edges in
    let space = r.plan_space in
    record {
      marked = record {
        spare = omega arith;
        for_steps = omega arith;
        line_marks = omega arith;
        line_capacity = omega arith;
        board_marks = omega arith;
        mark_space = omega arith;
        at_marks = i.at_marks;
      };
      capacity = record {
        points = omega arith;
        edges = omega arith;
        all_edges = omega arith;
        resources = r.resources;
        holds = r.holds;
        held_few = r.held_few;
        held_space = r.held_space;
        begin_space = r.begin_space;
        steps_few = r.steps_few;
        steps_space = r.steps_space;
        plan_space = omega arith;
        first_space = r.first_space;
        edge_space = r.edge_space;
      };
    }
