-- Where a whole list goes through a node, each hop that is allowed there is kept by the list's ticks.
use Rattle.std.proofs.Common.{◌≡◌, ℕ, suc, ◌≤◌, Bool, true, false, cond, ◌==◌, List, [], ◌∷◌, length, refl, ◌∙◌, subst, arith, Option, Some, None}
use Rattle.std.specs.Prelude.{ℤ, pos, ◌+ℤ◌, ◌≤ℤ◌}
use Rattle.std.proofs.lemmas.Bool.Decides.{nat_tests}
use Rattle.std.proofs.lemmas.Int.{ints}
use Rattle.tp_bounds.specs.declared.hops.Hop.{Hop}
use Rattle.tp_bounds.specs.declared.hops.Hop.TheVariants.{Duration, Line, «Resource» as Res}
use Rattle.tp_bounds.specs.declared.tree.TreeRow.{TreeRow}
use Rattle.tp_machine.specs.Modes.{gap_at}
use Rattle.tp_machine.specs.declared.machine.Machine.{Machine}
use Rattle.tp_schedule.specs.Answers.{IsAsked}
use Rattle.tp_schedule.specs.Legality.{IsLegal}
use Rattle.tp_schedule.specs.Spots.{Spot, Ticks}
use Rattle.tp_schedule.specs.declared.parts.Ask.{Ask}
use Rattle.tp_schedule.specs.declared.parts.Plan.{Plan}
use Rattle.tp_constraints.specs.Gaps.{Gap, IsPoint}
use Rattle.tp_constraints.specs.Numbers.{is_same_spot}
use Rattle.tp_constraints.specs.Suffixes.{Suffix, SuffixTimes, order_in, with_place}
use Rattle.tp_constraints.proofs.PointNumbers.{same_spot-is}
use Rattle.tp_bound_laws.specs.Chains.{duration_gap, follow, from_here, gap_in, gap_of, hold_gap, led_on, line_gap, or_else, point_gap, resource_gap, span_gap, spot_of, spanned, start_of}
use Rattle.tp_bound_laws.specs.Chains.Led.{led}
use Rattle.tp_bound_laws.specs.Places.{Branch, Span, Stand, next_rule}
use Rattle.tp_bound_laws.proofs.DurationHops.{IsKeptHop, duration-hop}
use Rattle.tp_bound_laws.proofs.KnownPoints.{held-known}
use Rattle.tp_bound_laws.proofs.LineHops.{line-hop}
use Rattle.tp_bound_laws.proofs.OrderHops.{IsKeptGap, order-kept, spanned-apart, spanned-known}
use Rattle.tp_bound_laws.proofs.Ways.{Way, way-times}
use Rattle.tp_bound_laws.proofs.Ways.Way.{by_place}

module _ (machine : Machine) (plans : List Plan) (ask : Ask) (rows : List TreeRow) where
  -- the list goes on from the branch by one of the places of the next hold
  pub record SitsIn (X : Suffix) (b : Branch) (span : Span) : Type 0 where
    pub next : next_rule machine b.x ≡ Some span.rule
    pub going : b.x.stopped ≡ false
    pub place : ℕ
    pub from : span.lo ≤ place
    pub until : place ≤ span.hi
    pub within : span.hi ≤ length (order_in machine plans b.x span.rule.resource.0)
    pub way : Way machine plans ask rows X b.first (with_place place b.x)

  -- the list goes through the node
  abbrev pub SitsAt : Suffix → Branch → Option Span → Type 0
  SitsAt X b None = Way machine plans ask rows X b.first b.x
  SitsAt X b (Some span) = SitsIn X b span

  abbrev pub Sits : Suffix → Stand → Type 0
  Sits X s = SitsAt X s.branch s.span

  module _ (asked : IsAsked machine plans ask) (legal : IsLegal machine plans) (X : Suffix) (t : Ticks) (all : SuffixTimes machine plans ask X t) where
    pub branch-times : (b : Branch) (o : Option Span) → SitsAt X b o → SuffixTimes machine plans ask b.x t
    branch-times b None way = way-times machine plans ask rows asked t X all b.first b.x way
    branch-times b (Some span) sits =
        way-times machine plans ask rows asked t X all b.first b.x (by_place span.rule sits.place b.first b.x sits.next sits.going (let u = sits.until in let w = sits.within in omega arith) sits.way)

    pub times-of : (s : Stand) → Sits X s → SuffixTimes machine plans ask s.branch.x t
    times-of s sits = branch-times s.branch s.span sits

    -- the orders
    abbrev Kept : ℕ → Gap → Type 0
    Kept n g = IsKeptGap plans (suc n) t g

    span-kept : (b : Branch) (o : Option Span) (resource : ℕ) (before after : Spot) (g : Gap) → SitsAt X b o → span_gap machine b.x o resource before after (order_in machine plans b.x resource) ≡ Some g → Kept (length b.x.choices) g
    span-kept b None resource before after g sits e = absurd cc
    span-kept b (Some span) resource before after g sits e = go (span.rule.resource.0 == resource) refl e where
      go : (c : Bool) → (span.rule.resource.0 == resource) ≡ c → cond c (gap_in (gap_at machine resource) before after (spanned b.x span (order_in machine plans b.x resource))) None ≡ Some g → Kept (length b.x.choices) g
      go false u h = absurd cc
      go true u h =
          let same : resource ≡ span.rule.resource.0 = grind (arith, nat_tests) in
          let f = sits.from in
          let l = sits.until in
          let placed-times = way-times machine plans ask rows asked t X all b.first (with_place sits.place b.x) sits.way in
          let apart = spanned-apart machine plans t span.rule sits.place span.lo span.hi b.x.choices sits.next sits.from sits.until sits.within (placed-times.apart span.rule.resource.0) in
          let known = spanned-known machine plans t span.rule sits.place span.lo span.hi b.x sits.next (omega arith) sits.within in
          order-kept plans (suc (length b.x.choices)) t (gap_at machine span.rule.resource.0) before after (spanned b.x span (order_in machine plans b.x span.rule.resource.0)) g apart known
          (subst (λ r. gap_in (gap_at machine r) before after (spanned b.x span (order_in machine plans b.x r)) ≡ Some g) same h)

    module _ (limit : ℤ) (s : Stand) (sits : Sits X s) where
      abbrev x : Suffix
      x = s.branch.x

      abbrev times : SuffixTimes machine plans ask s.branch.x t
      times = times-of s sits

      resource-kept : (resource : ℕ) (before after : Spot) (g : Gap) → resource_gap machine plans ask limit s resource before after ≡ Some g → Kept (length x.choices) g
      resource-kept resource before after g e = go (gap_in (gap_at machine resource) before after (order_in machine plans x resource)) refl e where
        go : (o : Option Gap) → gap_in (gap_at machine resource) before after (order_in machine plans x resource) ≡ o → or_else o (span_gap machine x s.span resource before after (order_in machine plans x resource)) ≡ Some g → Kept (length x.choices) g
        go None u h = span-kept s.branch s.span resource before after g sits h
        go (Some k) u h = order-kept plans (suc (length x.choices)) t (gap_at machine resource) before after (order_in machine plans x resource) g (times.apart resource) (held-known machine plans x resource) (u ∙ h)

      hold-kept : (r : Option ℕ) (before after : Option Spot) (g : Gap) → hold_gap machine plans ask limit s r before after ≡ Some g → Kept (length x.choices) g
      hold-kept None before after g e = absurd cc
      hold-kept (Some r) None after g e = absurd cc
      hold-kept (Some r) (Some before) None g e = absurd cc
      hold-kept (Some r) (Some before) (Some after) g e = resource-kept r before after g e

      here-kept : (from : Spot) (o : Option Gap) (g : Gap) → ((k : Gap) → o ≡ Some k → Kept (length x.choices) k) → from_here from o ≡ Some g → IsKeptHop plans (suc (length x.choices)) t from g
      here-kept from None g kept-all e = absurd cc
      here-kept from (Some k) g kept-all e = go (is_same_spot k.from from) refl e where
        go : (b : Bool) → is_same_spot k.from from ≡ b → cond b (Some k) None ≡ Some g → IsKeptHop plans (suc (length x.choices)) t from g
        go false u h = absurd cc
        go true u h =
            let r = kept-all k refl in
            let same : k ≡ g = cc in
            subst (IsKeptHop plans (suc (length x.choices)) t from) same (record { keeps = r.keeps; known = r.known; here = same_spot-is k.from from u })

      point-kept : (f : Spot → Spot → Option Gap) (from : Spot) (o : Option Spot) (g : Gap) → ((to : Spot) → f from to ≡ Some g → IsKeptHop plans (suc (length x.choices)) t from g) → point_gap machine plans ask limit s f from o ≡ Some g → IsKeptHop plans (suc (length x.choices)) t from g
      point-kept f from None g each e = absurd cc
      point-kept f from (Some to) g each e = each to e

      pub hop-kept : (from : Spot) (h : Hop) (g : Gap) → gap_of machine plans ask limit s from h ≡ Some g → IsKeptHop plans (suc (length x.choices)) t from g
      hop-kept from (Duration to) g e =
          point-kept (duration_gap machine plans x.choices) from (spot_of plans (length x.choices) to) g (λ q. duration-hop machine plans ask x t times from q g) e
      hop-kept from (Line to) g e = point-kept (line_gap ask plans) from (spot_of plans (length x.choices) to) g (λ q. line-hop machine plans ask x t times legal from q g) e
      hop-kept from (Res name before after) g e =
          here-kept from _ g (hold-kept _ (start_of plans (length x.choices) before) (start_of plans (length x.choices) after)) e

      -- hops take no more than the ticks leave
      pub follow-kept : (hops : List Hop) (k : ℕ) (from to : Spot) (sum sum' : ℤ) → IsPoint plans (suc (length x.choices)) from → follow machine plans ask limit s k from sum hops ≡ led to sum'
          → ((pos (t from) +ℤ sum') ≤ℤ (pos (t to) +ℤ sum)) × IsPoint plans (suc (length x.choices)) to
      follow-kept [] k from to sum sum' known e =
          let same : from ≡ to = cc in
          let as-much : sum ≡ sum' = cc in
          subst (λ q. ((pos (t from) +ℤ sum') ≤ℤ (pos (t q) +ℤ sum)) × IsPoint plans (suc (length x.choices)) q) same (rw as-much (omega (arith, ints)), known)
      follow-kept (h ∷ hops) k from to sum sum' known e = go (gap_of machine plans ask limit s from h) refl e (λ g. follow-kept hops (suc k) g.to to (sum +ℤ g.weight) sum') where
        go : (o : Option Gap) → gap_of machine plans ask limit s from h ≡ o → led_on k (λ g. follow machine plans ask limit s (suc k) g.to (sum +ℤ g.weight) hops) o ≡ led to sum'
            → ((g : Gap) → IsPoint plans (suc (length x.choices)) g.to → follow machine plans ask limit s (suc k) g.to (sum +ℤ g.weight) hops ≡ led to sum' → ((pos (t g.to) +ℤ sum') ≤ℤ (pos (t to) +ℤ (sum +ℤ g.weight))) × IsPoint plans (suc (length x.choices)) to)
            → ((pos (t from) +ℤ sum') ≤ℤ (pos (t to) +ℤ sum)) × IsPoint plans (suc (length x.choices)) to
        go None u v rest = absurd cc
        go (Some g) u v rest =
            let kept-g = hop-kept from h g u in
            let more = rest g kept-g.known v in
            let far = more.0 in
            let step : (pos (t from) +ℤ g.weight) ≤ℤ pos (t g.to) = subst (λ q. (pos (t q) +ℤ g.weight) ≤ℤ pos (t g.to)) kept-g.here kept-g.keeps in
            (omega (arith, ints), more.1)
