-- A schedule is its constraints.
use Rattle.std.proofs.Common.{◌≡◌, inl, inr, ℕ, ◌+◌, Bool, List, ◌++◌, length, arith, All, Contains, get_or}
use Rattle.std.proofs.lemmas.List.Elements.{All-nil, All-append, All-contains, Contains-get_or}
use Rattle.tp_machine.specs.Modes.{gap_at}
use Rattle.tp_machine.specs.ModuleUse.{action_at}
use Rattle.tp_machine.specs.declared.machine.Machine.{Machine}
use Rattle.tp_schedule.specs.Plans.{IsTimedPlan, point}
use Rattle.tp_schedule.specs.declared.parts.Plan.{Plan}
use Rattle.tp_schedule.specs.Spots.{Ticks, Slot, slot_order}
use Rattle.tp_schedule.specs.Times.{KeepsTimes}
use Rattle.tp_constraints.specs.Gaps.{Gap, KeepsGap, KeepsGaps, plan_gaps, duration_gaps, chain_gaps, all_chains, line_gaps}
use Rattle.tp_constraints.specs.Laws.{IsLoadable, no_own, GapsLaw}
use Rattle.std.proofs.lemmas.Bool.{cases_lt}
use Rattle.tp_constraints.proofs.Lists.{All-split}
use Rattle.tp_constraints.proofs.DurationGaps.{some-from_lasts, ActsKnown, acts-from_gaps, gaps-from_acts, each-from_flat, flat-from_each}
use Rattle.tp_constraints.proofs.OrderGaps.{apart-from_gaps, gaps-from_apart, chains-each, chains-all}
use Rattle.tp_constraints.proofs.LineGaps.{rise-from_gaps, gaps-from_rise}
use Rattle.tp_constraints.proofs.Bounds.{PlansWithin, within-from_times, within-all, within-each, fixed-at, floors-at, horizon-at}
use Rattle.tp_constraints.proofs.HeldSlots.{IsOn, order-on, none-on, PlansLast, order-sound}

module _ (machine : Machine) (now : ℕ) (exempt : Plan → Bool) (plans : List Plan) (t : Ticks) (load : IsLoadable machine now exempt plans) where
  -- a legal schedule's actions are the machine's
  acts-known : (p : Plan) → Contains plans p → ActsKnown machine p.acts
  acts-known p in' i act is =
      let timed : IsTimedPlan machine p = All-contains (IsTimedPlan machine) plans p load.legal.timed in' in
      some-from_lasts t (action_at machine act.0) (point p i) (point p (i + 1)) (timed.lasts i act is)

  pub lasts-from_gaps : KeepsGaps t (duration_gaps machine plans) → PlansLast machine plans t
  lasts-from_gaps keeps p in' i act is =
      acts-from_gaps machine t p.sheet 0 p.acts (acts-known p in') (All-contains (λ q. KeepsGaps t (plan_gaps machine q)) plans p (each-from_flat t (plan_gaps machine) plans keeps) in') i i act (omega arith) is

  pub gaps-from_lasts : PlansLast machine plans t → KeepsGaps t (duration_gaps machine plans)
  gaps-from_lasts lasts = flat-from_each t (plan_gaps machine) plans (λ k d within.
      gaps-from_acts machine t (get_or plans k d).sheet 0 (get_or plans k d).acts (λ i j act e is. let same : j ≡ i = omega arith in rw same (lasts (get_or plans k d) (Contains-get_or plans k d within) i act is)))

  pub times-from : PlansWithin machine now exempt plans t → KeepsGaps t (duration_gaps machine plans) → KeepsGaps t (line_gaps plans) → KeepsTimes machine now exempt plans t
  times-from within durations lines = record {
    lasts = lasts-from_gaps durations;
    fixed = λ p in' i e le. fixed-at machine now exempt plans t load.floors within p in' i e le;
    floors = λ p in' free i from to. floors-at machine now exempt plans t load.floors within p in' free i from to;
    horizon = λ p in' i le e. horizon-at machine now exempt plans t load.floors within p in' i le e;
    rise = rise-from_gaps t plans lines;
  }

  -- chains of all resources give what is apart on each
  pub apart-all : (orders : ℕ → List Slot) → ((r : ℕ) → All (IsOn machine r) (orders r)) → KeepsGaps t (all_chains machine orders (length machine.resources)) → (r : ℕ) → KeepsGaps t (chain_gaps (gap_at machine r) (orders r))
  apart-all orders on keeps r = elim (cases_lt r (length machine.resources)) [
    | inl l ↦ chains-each machine t orders (length machine.resources) keeps r l
    | inr out ↦ let e = none-on machine r (orders r) (on r) out in rw e (All-nil (KeepsGap t))
  ]

pub gaps_law : GapsLaw
gaps_law machine now exempt plans t load = (
  λ h. (
    within-all plans 0 (now + machine.lead) (now + machine.window) exempt no_own t load.legal.in_order (within-from_times machine now exempt plans t h.0) (λ n below. absurd (omega (arith, below))),
    All-append (KeepsGap t) (duration_gaps machine plans) (line_gaps plans ++ chains) (gaps-from_lasts machine now exempt plans t load h.0.lasts)
        (All-append (KeepsGap t) (line_gaps plans) chains (gaps-from_rise t plans h.0.rise) (chains-all machine t (slot_order machine plans) (length machine.resources) (λ r. gaps-from_apart (gap_at machine r) t (slot_order machine plans r) (h.1 r)))),
  ),
  λ k.
      let a = All-split (KeepsGap t) (duration_gaps machine plans) (line_gaps plans ++ chains) k.1 in
      let b = All-split (KeepsGap t) (line_gaps plans) chains a.1 in
      let within = within-each plans 0 (now + machine.lead) (now + machine.window) exempt no_own t load.legal.in_order k.0 in
      let times = times-from machine now exempt plans t load within a.0 b.0 in (
        times,
        λ r. apart-from_gaps (gap_at machine r) t (slot_order machine plans r) (order-sound machine t r plans times.lasts)
            (apart-all machine now exempt plans t load (slot_order machine plans) (λ q. order-on machine q plans) b.1 r),
      ),
) where
  chains : List Gap
  chains = all_chains machine (slot_order machine plans) (length machine.resources)
