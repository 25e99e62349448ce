-- Ticks of a suffix keep the hops that are allowed where its stop is due, and leave them their time.
use Rattle.std.proofs.Common.{◌≡◌, ℕ, suc, ◌+◌, ◌≤◌, Bool, true, false, cond, List, [], ◌∷◌, length, refl, ◌∙◌, subst, arith, All, Option, Some, None}
use Rattle.std.specs.Prelude.{ℤ, pos, ◌+ℤ◌, ◌≤ℤ◌}
use Rattle.std.proofs.lemmas.Int.{ints}
use Rattle.std.proofs.lemmas.List.Elements.{All-head, All-tail}
use Rattle.tp_base.specs.declared.edges.Edge.{Edge}
use Rattle.tp_base.specs.Refute.{Leads, total_weight}
use Rattle.tp_bounds.specs.declared.hops.Hop.{Hop}
use Rattle.tp_bounds.specs.declared.hops.Hop.TheVariants.{Duration, Line, «Resource» as Res}
use Rattle.tp_machine.specs.Modes.{gap_at}
use Rattle.tp_machine.specs.declared.machine.Machine.{Machine}
use Rattle.tp_schedule.specs.Choices.{start_floor}
use Rattle.tp_schedule.specs.Legality.{IsLegal}
use Rattle.tp_schedule.specs.Spots.{Spot, Ticks}
use Rattle.tp_schedule.specs.declared.parts.Ask.{Ask}
use Rattle.tp_schedule.specs.declared.parts.Plan.{Plan}
use Rattle.tp_choices.proofs.CompletePlans.{ChoicesLast-rise}
use Rattle.tp_constraints.specs.Gaps.{Gap, IsPoint, Within, gap}
use Rattle.tp_constraints.specs.Numbers.{is_same_spot}
use Rattle.tp_constraints.specs.Suffixes.{Suffix, SuffixTimes, order_in, room_of, suffix_cap, suffix_low, with_stop}
use Rattle.tp_constraints.proofs.Bounds.{within-all, within-from_times}
use Rattle.tp_constraints.proofs.PointNumbers.{same_spot-is}
use Rattle.tp_placing.specs.Causes.{numbered}
use Rattle.tp_placing.specs.declared.causes.EdgeCause.{EdgeCause}
use Rattle.tp_bound_laws.specs.Chains.{duration_gap, from_here, gap_in, gap_of, hold_gap, line_gap, or_else, point_gap, spot_of, start_of}
use Rattle.tp_bound_laws.specs.Places.{Branch, Stand}
use Rattle.tp_bound_laws.proofs.DurationHops.{IsKeptHop, duration-hop}
use Rattle.tp_bound_laws.proofs.KnownPoints.{held-known}
use Rattle.tp_bound_laws.proofs.LineHops.{line-hop}
use Rattle.tp_bound_laws.proofs.OrderHops.{IsKeptGap, order-kept}
use Rattle.tp_bound_make.specs.TellableReasons.{IsTold, tell}
use Rattle.tp_bound_make.proofs.FollowedEdges.{IsAllowed}

module _ (machine : Machine) (plans : List Plan) (ask : Ask) (limit : ℤ) (legal : IsLegal machine plans) (x : Suffix) (t : Ticks) (times : SuffixTimes machine plans ask x t) (b : Branch) (stopped : b.x ≡ with_stop x) where
  -- the branch with the stop
  abbrev here : Stand
  here = record { branch = record { depth = b.depth; first = b.first; x = with_stop x }; span = None }

  abbrev Kept : Gap → Type 0
  Kept g = IsKeptGap plans (suc (length x.choices)) t g

  abbrev KeptHop : Spot → Gap → Type 0
  KeptHop from g = IsKeptHop plans (suc (length x.choices)) t from g

  resource-kept : (resource : ℕ) (before after : Spot) (g : Gap) → or_else (gap_in (gap_at machine resource) before after (order_in machine plans x resource)) None ≡ Some g → Kept g
  resource-kept resource before after g e = go (gap_in (gap_at machine resource) before after (order_in machine plans x resource)) refl e where
    go : (o : Option Gap) → gap_in (gap_at machine resource) before after (order_in machine plans x resource) ≡ o → or_else o None ≡ Some g → Kept g
    go None u h = absurd cc
    go (Some k) u h = order-kept plans (suc (length x.choices)) t (gap_at machine resource) before after (order_in machine plans x resource) g (times.apart resource) (held-known machine plans x resource) (u ∙ h)

  hold-kept : (r : Option ℕ) (before after : Option Spot) (g : Gap) → hold_gap machine plans ask limit here r before after ≡ Some g → Kept g
  hold-kept None before after g e = absurd cc
  hold-kept (Some r) None after g e = absurd cc
  hold-kept (Some r) (Some before) None g e = absurd cc
  hold-kept (Some r) (Some before) (Some after) g e = resource-kept r before after g e

  here-kept : (from : Spot) (o : Option Gap) (g : Gap) → ((k : Gap) → o ≡ Some k → Kept k) → from_here from o ≡ Some g → KeptHop from g
  here-kept from None g kept-all e = absurd cc
  here-kept from (Some k) g kept-all e = go (is_same_spot k.from from) refl e where
    go : (c : Bool) → is_same_spot k.from from ≡ c → cond c (Some k) None ≡ Some g → KeptHop from g
    go false u h = absurd cc
    go true u h =
        let r = kept-all k refl in
        let same : k ≡ g = cc in
        subst (KeptHop from) same (record { keeps = r.keeps; known = r.known; here = same_spot-is k.from from u })

  point-kept : (f : Spot → Spot → Option Gap) (from : Spot) (o : Option Spot) (g : Gap) → ((to : Spot) → f from to ≡ Some g → KeptHop from g) → point_gap machine plans ask limit here f from o ≡ Some g → KeptHop from g
  point-kept f from None g each e = absurd cc
  point-kept f from (Some to) g each e = each to e

  hop-kept : (from : Spot) (h : Hop) (g : Gap) → gap_of machine plans ask limit here from h ≡ Some g → KeptHop from g
  hop-kept from (Duration to) g e = point-kept (duration_gap machine plans x.choices) from (spot_of plans (length x.choices) to) g (λ q. duration-hop machine plans ask x t times from q g) e
  hop-kept from (Line to) g e = point-kept (line_gap ask plans) from (spot_of plans (length x.choices) to) g (λ q. line-hop machine plans ask x t times legal from q g) e
  hop-kept from (Res name before after) g e = here-kept from _ g (hold-kept _ (start_of plans (length x.choices) before) (start_of plans (length x.choices) after)) e

  -- edges that are named take no more than the ticks leave
  pub edges-kept : (causes : List EdgeCause) (es : List Edge) (a z : ℕ) → All (IsAllowed machine plans ask limit here causes) es → All (IsTold (tell machine plans causes)) es → Leads a es z
      → (pos (t (numbered plans a)) +ℤ total_weight es) ≤ℤ pos (t (numbered plans z))
  edges-kept causes [] a z allowed told leads = subst (λ q. (pos (t (numbered plans a)) +ℤ pos 0) ≤ℤ pos (t (numbered plans q))) leads (omega (arith, ints))
  edges-kept causes (e ∷ es) a z allowed told leads =
      let rest = edges-kept causes es e.to.0 z (All-tail (IsAllowed machine plans ask limit here causes) e es allowed) (All-tail (IsTold (tell machine plans causes)) e es told) leads.1 in
      let h = All-head (IsTold (tell machine plans causes)) e es told in
      let k = hop-kept (numbered plans e.from.0) h.0 (gap (numbered plans e.from.0) (numbered plans e.to.0) e.weight) (All-head (IsAllowed machine plans ask limit here causes) e es allowed h.0 h.1) in
      let step : (pos (t (numbered plans a)) +ℤ e.weight) ≤ℤ pos (t (numbered plans e.to.0)) = subst (λ q. (pos (t (numbered plans q)) +ℤ e.weight) ≤ℤ pos (t (numbered plans e.to.0))) leads.0 k.keeps in
      omega (arith, ints)

  pub points-within : Within (IsPoint plans (suc (length x.choices))) (suffix_low machine plans ask x) (suffix_cap machine plans ask) t
  points-within =
      within-all plans (suc (length x.choices)) (ask.now + machine.lead) (ask.now + machine.window) (λ _. false) (λ n. start_floor machine ask.now ask.origin + room_of x.rooms n) t legal.in_order (within-from_times machine ask.now (λ _. false) plans t times.keeps)
      (λ n below. let r = ChoicesLast-rise machine t x.choices times.lasts n (omega arith) in let last = times.last in (times.lows n (omega arith), omega (arith, r.1, last)))

  -- the start floor is no later than the horizon
  pub floor-early : start_floor machine ask.now ask.origin ≤ ask.now + machine.window
  floor-early = let low = times.lows 0 (omega arith) in let last = times.last in omega (arith, low, last)
