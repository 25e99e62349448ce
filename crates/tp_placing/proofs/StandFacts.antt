-- What a board stands on, and that it stands after a step.
use Rattle.std.proofs.Common.{◌≡◌, ℕ, suc, ◌+◌, ◌<◌, ◌≤◌, List, [], ◌∷◌, length, refl, ap, sym, ◌∙◌, subst, arith, Option, Some, None, IsSomeAnd, Contains}
use Rattle.std.proofs.lemmas.List.{length-map}
use Rattle.std.proofs.lemmas.Option.{same_Some}
use Rattle.tp_base.specs.Readings.{Reading}
use Rattle.tp_base.specs.Net.{Net}
use Rattle.tp_machine.specs.declared.machine.Machine.{Machine}
use Rattle.tp_schedule.specs.declared.parts.Ask.{Ask}
use Rattle.tp_schedule.specs.declared.parts.Plan.{Plan}
use Rattle.tp_timelines.specs.Orders.{Orders}
use Rattle.tp_constraints.specs.Numbers.{table_of, ticks_by}
use Rattle.tp_constraints.specs.Nets.{BoardSolutions}
use Rattle.tp_schedule.specs.Spots.{Ticks}
use Rattle.tp_constraints.specs.Suffixes.{Suffix, SuffixTimes, suffix_low}
use Rattle.tp_base.specs.declared.edges.PointId.{PointId}
use Rattle.tp_placing.specs.declared.causes.EdgeCause.{EdgeCause}
use Rattle.tp_placing.specs.declared.parts.Held.{Held}
use Rattle.tp_placing.specs.declared.parts.Step.{Step}
use Rattle.tp_placing.specs.Boards.{BoardValue, suffix_after, past_of, side_by_side}
use Rattle.tp_placing.specs.Inside.{most_steps}
use Rattle.tp_placing.specs.LoadedBoard.{AreCaused, IsAtWith, IsAt, StandsOn, table_with, step_edges, loaded_edges}
use Rattle.tp_placing.proofs.CauseFacts.{Keeps, caused-kept, plain-kept}
use Rattle.tp_placing.proofs.PastFacts.{short-past}
use Rattle.tp_placing.proofs.TableFacts.{length-table}

pub some-and : {X : Type 0} (o : Option X) (P : X → Type 0) → IsSomeAnd o P → (x : X) × (o ≡ Some x) × P x
some-and None P h = absurd h
some-and (Some x) P h = (x, refl, h)

pub and-some : {X : Type 0} (o : Option X) (x : X) (P : X → Type 0) → o ≡ Some x → P x → IsSomeAnd o P
and-some {X} o x P e p = subst (λ (q : Option X). IsSomeAnd q P) (sym e) p

-- the number at which an option's value has a property
pub some-at : {X : Type 0} (o : Option X) (P : X → ℕ → Type 0) → IsSomeAnd o (λ x. (k : ℕ) × P x k) → (k : ℕ) × IsSomeAnd o (λ x. P x k)
some-at None P h = absurd h
some-at (Some x) P h = h

-- the points of a network with a suffix
pub length-lows : (m : Machine) (plans : List Plan) (ask : Ask) (x : Suffix) (steps : List Step) (n : Net) (timelines : List (List ℕ)) (holds : List Held) → IsAtWith m plans ask (Some x) steps n timelines holds
    → length n.lows ≡ length (table_of plans) + suc (length x.choices)
length-lows m plans ask x steps n timelines holds at =
    ap length at.net.lows ∙ length-map (table_with plans (suc (length x.choices))) (suffix_low m plans ask x) ∙ length-table plans (suc (length x.choices))

-- a network with a solution has times
pub has-times : (m : Machine) (plans : List Plan) (ask : Ask) (x : Suffix) (steps : List Step) (n : Net) (timelines : List (List ℕ)) (holds : List Held) → BoardSolutions → IsAtWith m plans ask (Some x) steps n timelines holds
    → (t : Ticks) × SuffixTimes m plans ask x t
has-times m plans ask x steps n timelines holds law at =
    let table = table_with plans (suc (length x.choices)) in
    (ticks_by table at.solved.0, (law m plans ask x table n at.net at.solved.0).0 at.solved.1.solution)

-- room for one edge more, and for those of an opened goal
pub edge-room : (steps : List Step) (edges room : ℕ) → length steps ≤ most_steps → edges ≤ loaded_edges + step_edges steps → 100000 ≤ room → edges + 2 < room
edge-room [] edges room few e h = omega arith
edge-room (s ∷ steps) edges room few e h = omega arith

module _ {N : Type 0} (reading : Reading N) where
  -- at a suffix, the board is at it, with what the last step keeps at hand
  pub at-suffix : (b : BoardValue N) (m : Machine) (ask : Ask) (x : Suffix) → StandsOn reading b m ask → suffix_after b.steps ≡ Some x → IsAtWith m b.plans ask (Some x) b.steps (reading.net b.net) b.orders.orders b.held
  at-suffix b m ask x s e = subst (λ y. IsAtWith m b.plans ask y b.steps (reading.net b.net) b.orders.orders b.held) e s.now

  abbrev pub grown : BoardValue N → N → Orders → List Held → List Step → List EdgeCause → BoardValue N
  grown b n orders held steps causes = record b { net = n; orders = orders; held = held; steps = steps; causes = causes; limit = None }

  -- the board stands after a change that leaves what stood at its marks
  pub stands-after : (b : BoardValue N) (n : N) (orders : Orders) (held : List Held) (steps : List Step) (causes : List EdgeCause) (m : Machine) (ask : Ask) (x : Suffix) → StandsOn reading b m ask
      → past_of reading (grown b n orders held steps causes) ≡ past_of reading b → suffix_after steps ≡ Some x
      → IsAtWith m b.plans ask (Some x) steps (reading.net n) orders.orders held → Keeps (length b.steps) b.causes causes → AreCaused m b.plans ask causes steps (reading.net n)
      → StandsOn reading (grown b n orders held steps causes) m ask
  stands-after b n orders held steps causes m ask x s same e at keeps caused = record {
    made = s.made;
    asked = s.asked;
    floor = s.floor;
    horizon = s.horizon;
    small_horizon = s.small_horizon;
    loadable = s.loadable;
    origin = s.origin;
    last = s.last;
    firsts = s.firsts;
    few_points = s.few_points;
    few_plans = s.few_plans;
    on_time = s.on_time;
    now = subst (λ y. IsAtWith m b.plans ask y steps (reading.net n) orders.orders held) (sym e) at;
    before = λ y c. s.before y (subst (λ xs. Contains xs y) same c);
    plain = plain-kept (length b.steps) b.causes causes keeps s.plain;
    caused = caused;
    caused_before = λ y c. (
        let there = subst (λ xs. Contains xs y) same c in
        caused-kept m b.plans ask (length b.steps) b.causes causes y.steps y.net keeps (short-past b.held b.steps (reading.past b.net) b.orders.past b.marks y there) (s.caused_before y there));
    settled = s.settled;
  }

  -- and after a refusal, which leaves the network's net
  pub stands-still : (b : BoardValue N) (n : N) (causes : List EdgeCause) (limit : Option PointId) (m : Machine) (ask : Ask) → StandsOn reading b m ask
      → reading.net n ≡ reading.net b.net → reading.past n ≡ reading.past b.net → Keeps (length b.steps) b.causes causes → StandsOn reading (record b { net = n; causes = causes; limit = limit }) m ask
  stands-still b n causes limit m ask s same before keeps = record {
    made = s.made;
    asked = s.asked;
    floor = s.floor;
    horizon = s.horizon;
    small_horizon = s.small_horizon;
    loadable = s.loadable;
    origin = s.origin;
    last = s.last;
    firsts = s.firsts;
    few_points = s.few_points;
    few_plans = s.few_plans;
    on_time = s.on_time;
    now = subst (λ k. IsAt m b.plans ask b.steps k b.orders.orders b.held) (sym same) s.now;
    before = λ y c. s.before y (subst (λ cs. Contains (side_by_side b.held b.steps cs b.orders.past b.marks) y) before c);
    plain = plain-kept (length b.steps) b.causes causes keeps s.plain;
    caused = caused-kept m b.plans ask (length b.steps) b.causes causes b.steps (reading.net n) keeps (omega arith) (subst (AreCaused m b.plans ask b.causes b.steps) (sym same) s.caused);
    caused_before = λ y c. (
        let there = subst (λ cs. Contains (side_by_side b.held b.steps cs b.orders.past b.marks) y) before c in
        caused-kept m b.plans ask (length b.steps) b.causes causes y.steps y.net keeps (short-past b.held b.steps (reading.past b.net) b.orders.past b.marks y there) (s.caused_before y there));
    settled = s.settled;
  }

  -- the ask that the board stands on is the one that it keeps
  pub stands-ask : (b : BoardValue N) (m : Machine) (ask : Ask) → (other : Ask) × StandsOn reading b m other → b.ask ≡ Some ask → StandsOn reading b m ask
  stands-ask b m ask s e = subst (StandsOn reading b m) (same_Some s.0 ask (sym s.1.asked ∙ e)) s.1
