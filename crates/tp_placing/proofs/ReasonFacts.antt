-- An end that can't come by a tick.
use Rattle.std.proofs.Common.{◌≡◌, ℕ, suc, ◌<◌, ◌≤◌, List, [], ◌∷◌, length, refl, ap, sym, ◌∙◌, subst, arith, pos, Option, Some, None, IsSome, All}
use Rattle.std.specs.Prelude.{slice_get}
use Rattle.std.proofs.lemmas.Int.{ints}
use Rattle.std.proofs.lemmas.List.{length-append, length-map, get_or_at, get_or_append_left}
use Rattle.std.proofs.lemmas.List.Elements.{All-head}
use Rattle.tp_base.specs.Readings.{Reading}
use Rattle.tp_base.specs.declared.edges.PointId.{PointId}
use Rattle.tp_base.specs.Net.{Net, IsSolution, HasNoSolution, Keeps}
use Rattle.tp_machine.specs.declared.machine.Machine.{Machine}
use Rattle.tp_schedule.specs.Spots.Spot.{own}
use Rattle.tp_schedule.specs.declared.parts.Ask.{Ask}
use Rattle.tp_schedule.specs.declared.parts.Plan.{Plan}
use Rattle.tp_constraints.specs.Nets.{BoardSolutions}
use Rattle.tp_constraints.specs.Numbers.{ticks_by}
use Rattle.tp_constraints.specs.Suffixes.{Suffix, SuffixTimes, suffix_cap, suffix_low}
use Rattle.tp_constraints.proofs.Lists.{All-split}
use Rattle.tp_constraints.proofs.PointNumbers.{number-at}
use Rattle.tp_placing.specs.declared.parts.Held.{Held}
use Rattle.tp_placing.specs.declared.parts.Step.{Step}
use Rattle.tp_placing.specs.Boards.{BoardValue, suffix_after}
use Rattle.tp_placing.specs.Causes.{IsNamedHop, limit_tag}
use Rattle.tp_placing.specs.Edges.{edge_of}
use Rattle.tp_placing.specs.Reasons.{IsEndReason, with_limit}
use Rattle.tp_placing.specs.LoadedBoard.{choices_of, IsAtWith, Stands, StandsOn, table_with}
use Rattle.tp_placing.specs.Ticks.{HasLeastTick, IsLeastTick, TimesOf}
use Rattle.tp_placing.proofs.PartFacts.{whole-is-part}
use Rattle.tp_placing.proofs.ReadFacts.{end-point, known-point}
use Rattle.tp_placing.proofs.StandFacts.{at-suffix, length-lows, some-and, stands-ask}

-- a solution with the limit is one without it, in which the point comes by the tick
module _ (net : Net) (point : PointId) (last : ℕ) (same : length net.caps ≡ length net.lows) (x : ℕ → ℕ) (s : IsSolution (with_limit net point last) x) where
  abbrev limit : PointId
  limit = record { 0 = length net.lows }

  pub without-limit : IsSolution net x
  without-limit = record {
    above_low = λ i w.
        let l = length-append net.lows (0 ∷ []) in
        let e = get_or_append_left net.lows (0 ∷ []) 0 i w in
        let a = s.above_low i (omega arith) in
        omega arith;
    below_cap = λ i w.
        let l = length-append net.lows (0 ∷ []) in
        let e = get_or_append_left net.caps (last ∷ []) 0 i (omega arith) in
        let b = s.below_cap i (omega arith) in
        omega arith;
    keeps = (All-split (Keeps x) net.edges (edge_of point limit (pos 0) limit_tag ∷ []) s.keeps).0;
  }

  pub by-limit : x point.0 ≤ last
  by-limit =
      let l = length-append net.lows (0 ∷ []) in
      let e = get_or_at net.caps last [] 0 (length net.lows) same in
      let b = s.below_cap (length net.lows) (omega arith) in
      let k = All-head (Keeps x) (edge_of point limit (pos 0) limit_tag) [] (All-split (Keeps x) net.edges (edge_of point limit (pos 0) limit_tag ∷ []) s.keeps).1 in
      omega (arith, ints)

pub limit-late : (m : Machine) (plans : List Plan) (ask : Ask) (x : Suffix) (steps : List Step) (n : Net) (timelines : List (List ℕ)) (holds : List Held) → IsAtWith m plans ask (Some x) steps n timelines holds → BoardSolutions
    → (end : PointId) → slice_get (table_with plans (suc (length x.choices))) end.0 ≡ Some (own 0) → (bound last : ℕ) → IsLeastTick (SuffixTimes m plans ask x) (own 0) bound → last < bound
    → HasNoSolution (with_limit n end last)
limit-late m plans ask x steps n timelines holds at law end there bound last least below sol s =
    let table = table_with plans (suc (length x.choices)) in
    let caps = ap length at.net.caps ∙ length-map table (suffix_cap m plans ask) ∙ sym (ap length at.net.lows ∙ length-map table (suffix_low m plans ask x)) in
    let times = (law m plans ask x table n at.net sol).0 (without-limit n end last caps sol s) in
    let is : ticks_by table sol (own 0) ≡ sol end.0 = ap sol (number-at table at.net.is_table.differ end.0 (own 0) there) in
    let a = least.least (ticks_by table sol) times in
    let b = by-limit n end last caps sol s in
    omega arith

some-is : {X : Type 0} (o : Option X) → IsSome o → (x : X) × (o ≡ Some x)
some-is None h = absurd cc
some-is (Some x) h = (x, refl)

-- what is known of a board where an end is refused
pub record RefusesHere {N : Type 0} (reading : Reading N) (b : BoardValue N) (last : ℕ) : Type 0 where
  pub machine : Machine
  pub ask : Ask
  pub x : Suffix
  pub suffix : suffix_after b.steps ≡ Some x
  pub stands : StandsOn reading b machine ask
  pub at : IsAtWith machine b.plans ask (Some x) b.steps (reading.net b.net) b.orders.orders b.held
  pub bound : ℕ
  pub least : IsLeastTick (SuffixTimes machine b.plans ask x) (own 0) bound
  pub below : last < bound
  pub there : slice_get (table_with b.plans (suc (length x.choices))) b.last.0 ≡ Some (own 0)

pub refuses-here : {N : Type 0} (reading : Reading N) (b : BoardValue N) (last : ℕ)
    → (m : Machine) × (bound : ℕ) × Stands reading b m × HasLeastTick m b (own 0) bound × (last < bound) → IsSome (suffix_after b.steps) → RefusesHere reading b last
refuses-here reading b last (m, bound, s, least, below) is_open =
    let x = some-is (suffix_after b.steps) is_open in
    let y = some-and b.ask (λ ask. IsLeastTick (TimesOf m b.plans ask (suffix_after b.steps)) (own 0) bound) least in
    let stands = stands-ask reading b m y.0 s y.1 in
    record {
      machine = m;
      ask = y.0;
      x = x.0;
      suffix = x.1;
      stands = stands;
      at = at-suffix reading b m y.0 x.0 stands x.1;
      bound = bound;
      least = subst (λ o. IsLeastTick (TimesOf m b.plans y.0 o) (own 0) bound) x.1 y.2;
      below = below;
      there = end-point b.plans (Some x.0) refl b.last.0 stands.last;
    }

module _ {N : Type 0} (reading : Reading N) (b : BoardValue N) (last : ℕ) (h : RefusesHere reading b last) where
  pub end-known : b.last.0 < length (reading.net b.net).lows
  end-known = known-point h.machine b.plans h.ask (Some h.x) b.steps (reading.net b.net) b.orders.orders b.held h.at b.last.0 (own 0) h.there

  pub point-room : (room : ℕ) → 16642 ≤ room → length (reading.net b.net).lows < room
  point-room room big =
      let l = length-lows h.machine b.plans h.ask h.x b.steps (reading.net b.net) b.orders.orders b.held h.at in
      let p = h.stands.few_points in
      let e = h.stands.last in
      let few = h.at.few_steps.1 in
      omega arith

  pub end-late : BoardSolutions → HasNoSolution (with_limit (reading.net b.net) b.last last)
  end-late law = limit-late h.machine b.plans h.ask h.x b.steps (reading.net b.net) b.orders.orders b.held h.at law b.last h.there h.bound last h.least h.below

-- what the refusal of an end shows, where the board stands on a machine
module _ {N : Type 0} (reading : Reading N) (b : BoardValue N) (m : Machine) (ask : Ask) (s : StandsOn reading b m ask) (x : Suffix) (suffix : suffix_after b.steps ≡ Some x) (last : ℕ) where
  pub end-reason : (refutes : N → Net → Type 0) (n : N) (point : PointId) → point ≡ record { 0 = length (reading.net b.net).lows } → refutes n (with_limit (reading.net b.net) b.last last)
      → IsEndReason refutes (record b { net = n; causes = b.causes; limit = Some point }) m ask x last
  end-reason refutes n point is shown = record {
    net = reading.net b.net;
    is_net = (at-suffix reading b m ask x s suffix).net;
    hops = subst (λ y. All (IsNamedHop m b.plans ask y b.causes) (reading.net b.net).edges) (ap choices_of suffix) s.caused.hops;
    end = b.last;
    is_end = end-point b.plans (Some x) refl b.last.0 s.last;
    limit = ap Some is;
    limit_cause = s.plain.limit;
    shown = record { late = with_limit (reading.net b.net) b.last last; shown = shown; part = whole-is-part (with_limit (reading.net b.net) b.last last) };
  }
