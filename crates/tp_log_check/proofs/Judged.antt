-- What a turn over the planner that is given an event's items says of them: where another record is due, or the planner stops, no turn of right
-- answers tells them.
use Rattle.std.proofs.Common.{◌≡◌, ◌↔◌, ℕ, Bool, false, List, [], ◌∷◌, ◌++◌, Option, Some, None, map, take, drop, refl, sym, ap, subst, ◌∙◌}
use Rattle.std.specs.Prelude.{IsNone, MatchOption}
use Rattle.tp_bounds.specs.declared.tree.BoundTree.{BoundTree}
use Rattle.tp_log.specs.declared.item.Item.{Item}
use Rattle.tp_log.specs.declared.item.Item.TheVariants.{Event, Tree}
use Rattle.tp_log_laws.specs.EntryTurns.{LawfulTurnsAccepted, NeverStops, TurnsTell, told_steps}
use Rattle.tp_machine.specs.declared.machine.Machine.{Machine}
use Rattle.tp_run_laws.specs.Proved.{records_in}
use Rattle.tp_run_laws.specs.Runs.{is_of_plan, items_with, trees_behind}
use Rattle.tp_run_laws.specs.Wholes.{IsWhole}
use Rattle.tp_schedule.specs.declared.records.Record.{Record}
use Rattle.tp_script.specs.declared.event.Event.{Event as AnEvent}
use Rattle.tp_log_planner.specs.ToldAnswers.{ToldValue, ahead}
use Rattle.tp_event_rules.specs.StateInvariants.{live_part}
use Rattle.tp_event_rules.specs.Ready.{CanTakeEvents}
use Rattle.tp_event_rules.specs.States.{SessionState}
use Rattle.tp_event_turn.specs.Events.{LiveTurn}
use Rattle.tp_event_turn.specs.Stops.{LiveStop}
use Rattle.tp_log_check.specs.EventEntry.{trees_in}
use Rattle.tp_log_check.specs.Lawful.{HasNoTurn, HasTurn, LeadsTo}
use Rattle.tp_log_check.proofs.TakenTrees.{trees-behind}

-- the records of an entry's items are its own
records-trees : (trees : List BoundTree) (items : List Item) → records_in (map (λ t. Tree t) trees ++ items) ≡ records_in items
records-trees [] items = refl
records-trees (t ∷ trees) items = records-trees trees items

pub records-with : (b : Bool) (records : List Record) (trees : List BoundTree) → records_in (items_with b records trees) ≡ records
records-with b [] trees = refl
records-with b (r ∷ records) trees =
    let n = trees_behind b r records in
    ap (λ l. r ∷ l) (records-trees (take n trees) (items_with (is_of_plan b r) records (drop n trees)) ∙ records-with (is_of_plan b r) records (drop n trees))

module _ (machine : Machine) (law : LawfulTurnsAccepted machine) (copies : ℕ) (s : SessionState) (can : CanTakeEvents machine copies s) (event : AnEvent) (p : ToldValue) (at : p.at ≡ 0) where
  -- a turn of right answers that tells the items, and what the told planner does then
  record Follows (whole' : SessionState) : Type 0 where
    records : List Record
    are : records_in p.items ≡ records
    tells : TurnsTell machine event s p records (live_part machine whole')
    never : NeverStops machine event s p

  follows : (whole whole' : SessionState) → IsWhole machine whole s → HasTurn machine event p.items whole whole' → Follows whole'
  follows whole whole' w h =
      let e = h.entry in
      let whole-items : Event e.event ∷ items_with false e.records e.trees ≡ Event event ∷ p.items = h.are in
      let same : e.event ≡ event = cc in
      let items : items_with false e.records e.trees ≡ p.items = cc in
      let both = law copies e whole s whole' p can w h.turn (ap (λ n. drop n p.items) at ∙ sym items) in
      record {
        records = e.records;
        are = ap records_in (sym items) ∙ records-with false e.records e.trees;
        tells = subst (λ x. TurnsTell machine x s p e.records (live_part machine whole')) same both.0;
        never = subst (λ x. NeverStops machine x s p) same both.1;
      }

  -- where the turn was done
  pub judged-done : {A : Type 0} (notes : List Record) (s' : SessionState) (p' : ToldValue) → LiveTurn (told_steps machine) machine event s p notes s' p'
      → (found : Option A) → IsNone found ↔ ((notes ≡ records_in p.items) × (trees_in (ahead p') ≡ []))
      → MatchOption found (LeadsTo machine s event p.items s') (λ stop. HasNoTurn machine s event p.items)
  judged-done notes s' p' turn None right = λ whole whole' w h. sym ((follows whole whole' w h).tells notes s' p' turn).1
  judged-done notes s' p' turn (Some x) right = λ whole whole' w h. (
      let f = follows whole whole' w h in
      let told = f.tells notes s' p' turn in
      let none = right.1 (told.0 ∙ sym f.are, sym (trees-behind (ahead p')) ∙ ap trees_in told.2) in
      cc)

  -- where the planner stopped
  pub judged-stopped : (notes : List Record) (p' : ToldValue) → LiveStop (told_steps machine) machine event s p notes p' → HasNoTurn machine s event p.items
  judged-stopped notes p' stops = λ whole whole' w h. (follows whole whole' w h).never notes p' stops
