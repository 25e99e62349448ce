-- A session that goes on from a standing answers by a run from the state that this tells.
use Rattle.std.proofs.Common.{◌≡◌, ℕ, ◌<◌, pos, ◌-ℤ◌, Bool, true, false, cond, not, List, [], ◌∷◌, map, filter, refl, ap, ◌∙◌, arith, All}
use Rattle.std.specs.Prelude.{ℤ}
use Rattle.std.specs.List.{range_with_len}
use Rattle.std.proofs.lemmas.Int.{ints}
use Rattle.std.proofs.lemmas.List.FromFn.{fill_by_all, get_or-map-range_with_len, length-map-range_with_len}
use Rattle.std.proofs.lemmas.List.Elements.{All-head, All-tail}
use Rattle.tp_machine.specs.declared.machine.Machine.{Machine}
use Rattle.tp_script.specs.declared.event.Event.{Event}
use Rattle.tp_jobs.specs.declared.standing.Standing as kept
use Rattle.tp_schedule.specs.LivePlans.{is_live}
use Rattle.tp_schedule.specs.declared.parts.Plan.{Plan}
use Rattle.tp_stock.specs.Stock.{by_location, drawn_at, less_taken, taken_at}
use Rattle.tp_stock.proofs.StockFacts.{at-location, drawn-few}
use Rattle.tp_choices.proofs.Lists.{filter-all}
use Rattle.tp_stream.specs.Tellers.{TellsAll}
use Rattle.tp_event_rules.specs.StateInvariants.{is_planned_among}
use Rattle.tp_event_rules.specs.Seen.{fronts_of}
use Rattle.tp_event_rules.specs.States.{SessionState}
use Rattle.tp_event_turn.proofs.LiveFacts.{lost-part}
use Rattle.tp_session_standing.specs.Sound.{IsSound}
use Rattle.tp_session_standing.specs.StandingStates.{refill_at, standing_state, standing_refills}
use Rattle.tp_session_standing.proofs.GoesOn.{goes-on}
use Rattle.tp_run_laws.specs.Continuations.{GoesOn}
use Rattle.tp_run_laws.specs.Wholes.{IsWhole}
use Rattle.tp_run_laws.proofs.Lawful.{events_go_on}
use Rattle.tp_session.specs.Sessions.{Standing, Tells}
use Rattle.tp_session.proofs.Lawfully.{all_events, at_state, starts}

by-same : (f g : ℕ → ℤ) → ((loc : ℕ) → loc < 256 → f loc ≡ g loc) → by_location f ≡ by_location g
unfolding by_location
by-same f g each = fill_by_all g (map f (range_with_len 0 256)) 256 (pos 0) (length-map-range_with_len f 0 256)
    (λ loc within. get_or-map-range_with_len f 0 256 loc loc (pos 0) within (omega arith) ∙ each loc within)

less-none : (r : ℤ) → r -ℤ pos 0 ≡ r
less-none r = omega (arith, ints)

-- nothing is taken off for no plans
less-nothing : (machine : Machine) (f : ℕ → ℤ) → less_taken machine [] (by_location f) ≡ by_location f
less-nothing machine f = by-same _ f (λ loc within. ap (λ r. r -ℤ pos (drawn_at machine [] loc)) (at-location f loc (pos 0) within) ∙ ap (λ n. f loc -ℤ pos n) (none loc) ∙ less-none (f loc)) where
  none : (loc : ℕ) → drawn_at machine [] loc ≡ 0
  none loc = let few = drawn-few machine [] loc in omega (arith, few)

none-fails : (test : Plan → Bool) (plans : List Plan) → All (λ p. test p ≡ true) plans → filter (λ p. not (test p)) plans ≡ []
none-fails test [] all = refl
none-fails test (p ∷ plans) all = go (test p) (All-head (λ q. test q ≡ true) p plans all) (none-fails test plans (All-tail (λ q. test q ≡ true) p plans all)) where
  go : (b : Bool) → b ≡ true → filter (λ q. not (test q)) plans ≡ [] → cond (not b) (p ∷ filter (λ q. not (test q)) plans) (filter (λ q. not (test q)) plans) ≡ []
  go true e rest = rest
  go false e rest = absurd (cc)

module _ (machine : Machine) (t : kept.Standing) (sound : IsSound machine t) where
  all-live : All (λ p. is_live machine t.now p ≡ true) t.plans
  all-live = (goes-on machine t sound).can.kept.live

  same-plans : filter (is_live machine t.now) t.plans ≡ t.plans
  same-plans = filter-all (is_live machine t.now) t.plans all-live

  same-lost : filter (is_planned_among (filter (is_live machine t.now) t.plans)) (fronts_of t.plans) ≡ fronts_of t.plans
  same-lost = lost-part (is_live machine t.now) t.plans sound.legal.in_order ∙ ap fronts_of same-plans

  same-refills : less_taken machine (filter (λ p. not (is_live machine t.now p)) t.plans) (standing_refills machine t) ≡ standing_refills machine t
  same-refills = ap (λ gone. less_taken machine gone (standing_refills machine t)) (none-fails (is_live machine t.now) t.plans all-live) ∙ less-nothing machine (λ loc. refill_at (taken_at machine t.plans loc) loc machine.feeders t.stock)

  -- the state that a sound standing tells is its own live part
  pub told-whole : IsWhole machine (standing_state machine t) (standing_state machine t)
  told-whole =
      let k = (goes-on machine t sound).can.kept in
      record {
        through = record {
          jobs = k.jobs;
          plans = record { now_at_most = k.now_at_most; legal = k.plans.legal; floors = k.plans.floors; horizon = k.plans.horizon };
          lines = k.lines;
          broken = k.broken;
          older = k.older;
          purges = k.purges;
        };
        live = λ i. record (standing_state machine t) { plans = same-plans i; lost = same-lost i; refills = same-refills i };
      }

module _ (machine : Machine) (nodes : ℕ) (bounds : Bool) (whole live : SessionState) (behind : IsWhole machine whole live) where
  pub events_from : (events : List Event) (text : List ℕ) (s : Standing) → TellsAll Tells (at_state machine nodes bounds live) events text s → GoesOn machine nodes bounds whole events text s.state
  events_from events text s h =
      events_go_on machine nodes bounds events text whole live s.state behind (all_events machine nodes bounds events text (at_state machine nodes bounds live) s (starts machine nodes bounds live) h).tells
