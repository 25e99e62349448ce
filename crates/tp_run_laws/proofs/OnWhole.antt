-- A turn on the live part of a state is one of right answers on the whole.
use Rattle.std.proofs.Common.{◌≡◌, ℕ, Bool, List, [], refl, sym, subst, IsTrue}
use Rattle.tp_bounds.specs.declared.tree.BoundTree.{BoundTree}
use Rattle.tp_machine.specs.declared.machine.Machine.{Machine}
use Rattle.tp_schedule.specs.PlannerAnswers.{PlannerRules}
use Rattle.tp_schedule.specs.declared.records.Record.{Record}
use Rattle.tp_script.specs.declared.event.Event.{Event}
use Rattle.tp_script.specs.declared.event.Event.TheVariants.{Bad, Job as NewJob, Clock, Jam, Off, On, Refill}
use Rattle.tp_event_rules.specs.StateInvariants.{live_part}
use Rattle.tp_event_rules.specs.Laws.{IsNoClock, IsNoOutage, is_outage}
use Rattle.tp_event_rules.specs.Planners.{PlannerSteps, right_steps}
use Rattle.tp_event_rules.specs.States.{SessionState}
use Rattle.tp_event_rules.specs.Turns.{Turn}
use Rattle.tp_event_turn.specs.Events.{LiveTurn}
use Rattle.tp_event_turn.specs.LiveTurns.{AnswersAlone, SettlesRightly}
use Rattle.tp_event_turn.proofs.LiveAlone.{live-clock_holds, live-outages_hold, live-turns_hold}
use Rattle.tp_run_laws.specs.CarriedTurns.{KeepsNodes, ShowsTrees}
use Rattle.tp_run_laws.specs.Wholes.{HasWholeTurn, IsWhole, TurnsOnWhole}
use Rattle.tp_run_laws.proofs.Carry.{right_turns}
use Rattle.tp_run_laws.proofs.ThroughTurns.{through-turn}

module _ {P : Type 0} (rules : PlannerRules P) (machine : Machine) where
  abbrev right : PlannerSteps P
  right = right_steps rules machine

  -- a turn on the whole state is one of right answers, and keeps what it kept
  on-whole : (nodes : P → ℕ) (bounds : P → Bool) (trees : P → List BoundTree) → KeepsNodes rules machine nodes → ShowsTrees rules machine bounds trees → (event : Event) (whole whole' s s' : SessionState) (records : List Record) (p p' : P)
      → IsWhole machine whole s → trees p ≡ [] → Turn right machine event whole p records whole' p' → live_part machine whole' ≡ s'
      → HasWholeTurn machine (nodes p) (bounds p) event whole records (trees p') s' × (nodes p' ≡ nodes p)
  on-whole nodes bounds trees keeps shows event whole whole' s s' records p p' w empty turn live =
      let (told, same) = right_turns rules machine nodes bounds trees keeps shows event whole whole' records p p' empty turn in (
        (
          whole',
          told,
          record {
            through = through-turn right machine rules.spent (λ p plans deed plans' p' does. does.0) event whole p records whole' p' tt turn w.through;
            live = live;
          },
        ),
        same,
      )

  module _ (nodes : P → ℕ) (bounds : P → Bool) (trees : P → List BoundTree) (alone : AnswersAlone right machine nodes) (settles : SettlesRightly right machine) (keeps : KeepsNodes rules machine nodes)
      (shows : ShowsTrees rules machine bounds trees)
      (whole s s' : SessionState) (records : List Record) (p p' : P) (w : IsWhole machine whole s) (empty : trees p ≡ []) where
    quiet : (event : Event) → IsNoOutage event → IsNoClock event → Turn right machine event s p records s' p' → HasWholeTurn machine (nodes p) (bounds p) event whole records (trees p') s' × (nodes p' ≡ nodes p)
    quiet event no_outage no_clock turn =
        let (whole', t, live) = live-turns_hold right machine nodes event whole p records s' p' alone w.through.plans w.through.lines no_outage no_clock
        (subst (λ x. Turn right machine event x p records s' p') (sym w.live) turn) in
        on-whole nodes bounds trees keeps shows event whole whole' s s' records p p' w empty t live

    outage : (event : Event) → IsTrue (is_outage event) → Turn right machine event s p records s' p' → HasWholeTurn machine (nodes p) (bounds p) event whole records (trees p') s' × (nodes p' ≡ nodes p)
    outage event is turn =
        let (whole', t, live) = live-outages_hold right machine settles nodes event whole p records s' p' alone w.through is
        (subst (λ x. Turn right machine event x p records s' p') (sym w.live) turn) in
        on-whole nodes bounds trees keeps shows event whole whole' s s' records p p' w empty t live

    by-event : (event : Event) → LiveTurn right machine event s p records s' p' → HasWholeTurn machine (nodes p) (bounds p) event whole records (trees p') s' × (nodes p' ≡ nodes p)
    by-event Bad turn = quiet Bad refl refl turn
    by-event (NewJob name tray media groups) turn = quiet (NewJob name tray media groups) refl refl turn
    by-event (Clock to) turn =
        let (whole', t, live) = live-clock_holds right machine nodes to whole p records s' p' alone w.through.plans w.through.lines
        (subst (λ x. LiveTurn right machine (Clock to) x p records s' p') (sym w.live) turn) in
        on-whole nodes bounds trees keeps shows (Clock to) whole whole' s s' records p p' w empty t live
    by-event (Jam name) turn = outage (Jam name) refl turn
    by-event (Off name) turn = outage (Off name) refl turn
    by-event (On name) turn = quiet (On name) refl refl turn
    by-event (Refill name count) turn = quiet (Refill name count) refl refl turn

  pub turns-on_whole : TurnsOnWhole rules machine
  turns-on_whole nodes bounds trees alone settles keeps shows event whole s s' records p p' w empty turn = by-event nodes bounds trees alone settles keeps shows whole s s' records p p' w empty event turn
