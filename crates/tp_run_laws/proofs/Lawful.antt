-- Answered lines make a lawful run.
use Rattle.std.proofs.Common.{◌≡◌, ℕ, ℤ, Bool, true, List, [], ◌∷◌, ◌++◌, map, Option, Some, None, refl, sym, ap, ap₂, subst, ◌∙◌, append_assoc}
use Rattle.std.specs.List.{All, filter_map, flat_map}
use Rattle.std.specs.Option.{MatchOption}
use Rattle.std.proofs.lemmas.Grind.{flat_map-append}
use Rattle.std.proofs.lemmas.List.{map-append}
use Rattle.std.proofs.lemmas.List.Elements.{All-append, All-nil}
use Rattle.tp_bounds.specs.declared.tree.BoundTree.{BoundTree}
use Rattle.tp_bounds.specs.Lines.{node_text, node_words, row_text, row_words}
use Rattle.tp_machine.specs.declared.machine.Machine.{Machine}
use Rattle.tp_script.specs.Lines.{line_event}
use Rattle.tp_words.specs.Texts.{spaced}
use Rattle.tp_script.specs.Script.{event_text}
use Rattle.tp_script.specs.declared.event.Event.{Event}
use Rattle.tp_log.specs.Logs.{IsItem, item_text, log_text}
use Rattle.tp_log.specs.Records.{record_words}
use Rattle.tp_log.specs.declared.item.Item.{Item}
use Rattle.tp_log.specs.declared.item.Item.TheVariants as item
use Rattle.tp_event_rules.specs.Logs.{Entry, Run}
use Rattle.tp_event_rules.specs.States.{SessionState, empty_state}
use Rattle.tp_headline.proofs.Headline.{order-empty}
use Rattle.tp_outage_laws.proofs.OutagesKeep.{through}
use Rattle.tp_stream.specs.Answers.{AnswersAll}
use Rattle.tp_stream.specs.Takes.{ends_whole}
use Rattle.tp_stream.proofs.Lines.{ends_append, ends_line}
use Rattle.tp_stream.specs.Tellers.{TellsAll}
use Rattle.tp_run_laws.specs.EventRuns.{EventsAreLawful, TellsEvent, TurnsTellLines}
use Rattle.tp_run_laws.specs.Continuations.{EventsGoOn, FirstRunsAreLawful, LinesGoOn, RunsJoin}
use Rattle.tp_run_laws.specs.Runs.{entry_of, items_in, items_of, run_text, spent_by, tree_claims}
use Rattle.tp_run_laws.proofs.TreePlaces.{in_place}
use Rattle.tp_run_laws.specs.Wholes.{IsWhole, LinesAreLawful, TellsLine, TellsTurn}
use Rattle.tp_stock.proofs.StockFacts.{less-none}

log_text-append : (a b : List Item) → log_text (a ++ b) ≡ log_text a ++ log_text b
log_text-append [] b = refl
log_text-append (x ∷ a) b = ap (λ t. item_text x ++ t) (log_text-append a b) ∙ sym (append_assoc (item_text x) (log_text a) (log_text b))

module _ (machine : Machine) (nodes : ℕ) (bounds : Bool) where
  abbrev Runs : SessionState → List (Entry BoundTree) → SessionState → Type 0
  Runs = Run tree_claims bounds (spent_by nodes) machine

  record IsRun (events : List Event) (text : List ℕ) (whole : SessionState) (s' : SessionState) : Type 0 where
    log : List (Entry BoundTree)
    whole' : SessionState
    run : Runs whole log whole'
    answers : map (λ e. e.event) log ≡ events
    items : All IsItem (items_in log)
    is_text : text ≡ run_text log
    behind : IsWhole machine whole' s'

  run_over : (events : List Event) (text : List ℕ) (s s' whole : SessionState) → IsWhole machine whole s → TellsAll (TellsEvent machine nodes bounds) s events text s' → IsRun events text whole s'
  run_over [] text s s' whole behind h = record {
    log = [];
    whole' = whole;
    run = refl;
    answers = refl;
    items = All-nil IsItem;
    is_text = h.0;
    behind = subst (IsWhole machine whole) (sym h.1) behind;
  }
  run_over (event ∷ events) text s s' whole behind (told, (mid, (rest, one, others, same))) =
      let (whole', turn, behind') = one.turn.on_whole whole behind in
      let r = run_over events rest mid s' whole' behind' others in
      let entry = entry_of event one.records one.trees in
      record {
        log = entry ∷ r.log;
        whole' = r.whole';
        run = (whole', turn, r.run);
        answers = ap (λ es. event ∷ es) r.answers;
        items = All-append IsItem (items_of entry) (items_in r.log) one.turn.has_text r.items;
        is_text = same ∙ ap₂ (λ a b. a ++ b) one.is_text r.is_text ∙ sym (log_text-append (items_of entry) (items_in r.log));
        behind = r.behind;
      }

  -- lines are answered as their events are
  one_more : (line : List ℕ) (lines : List (List ℕ)) (text told rest : List ℕ) (s mid s' : SessionState) → text ≡ told ++ rest
      → (o : Option Event) → line_event line ≡ o → MatchOption o ((told ≡ []) × (mid ≡ s)) (λ event. TellsTurn machine nodes bounds event s told mid)
      → TellsAll (TellsEvent machine nodes bounds) mid (filter_map line_event lines) rest s' → TellsAll (TellsEvent machine nodes bounds) s (filter_map line_event (line ∷ lines)) text s'
  one_more line lines text told rest s mid s' same None e one others =
      let events = filter_map line_event lines in
      let here = subst (λ x. TellsAll (TellsEvent machine nodes bounds) x events rest s') one.1 others in
      rw e (subst (λ t. TellsAll (TellsEvent machine nodes bounds) s events t s') (sym (same ∙ ap (λ t. t ++ rest) one.0)) here)
  one_more line lines text told rest s mid s' same (Some event) e one others = rw e (told, (mid, (rest, one, others, same)))

  events_of_lines : (lines : List (List ℕ)) (text : List ℕ) (s s' : SessionState) → AnswersAll (TellsLine machine nodes bounds) s lines text s'
      → TellsAll (TellsEvent machine nodes bounds) s (filter_map line_event lines) text s'
  events_of_lines [] text s s' h = h
  events_of_lines (line ∷ lines) text s s' (told, (mid, (rest, one, others, same))) =
      one_more line lines text told rest s mid s' same (line_event line) refl one (events_of_lines lines rest mid s' others)

  pub whole-empty : IsWhole machine empty_state empty_state
  whole-empty = record { through = through machine [] empty_state (order-empty machine); live = ap (λ (refills : List ℤ). record empty_state { refills = refills }) (less-none machine [] (λ loc. refl)) }

-- ---- runs that go on

pub events_go_on : (machine : Machine) (nodes : ℕ) (bounds : Bool) → EventsGoOn machine nodes bounds
events_go_on machine nodes bounds events text whole s s' behind h =
    let r = run_over machine nodes bounds events text s s' whole behind h in
    record {
      log = r.log;
      last = r.whole';
      run = record { answers = r.answers; run = r.run; has_text = (in_place r.log, r.items) };
      is_text = r.is_text;
      behind = r.behind;
    }

pub lines_go_on : (machine : Machine) (nodes : ℕ) (bounds : Bool) → LinesGoOn machine nodes bounds
lines_go_on machine nodes bounds lines text whole s s' behind h =
    events_go_on machine nodes bounds (filter_map line_event lines) text whole s s' behind (events_of_lines machine nodes bounds lines text s s' h)

pub first_runs_lawful : (machine : Machine) (nodes : ℕ) (bounds : Bool) → FirstRunsAreLawful machine nodes bounds
first_runs_lawful machine nodes bounds events log last r = record { lawful = record { answers = r.answers; last = last; run = r.run }; has_text = r.has_text }

-- one run behind another
run-join : (machine : Machine) (nodes : ℕ) (bounds : Bool) (log more : List (Entry BoundTree)) (start mid last : SessionState)
    → Runs machine nodes bounds start log mid → Runs machine nodes bounds mid more last → Runs machine nodes bounds start (log ++ more) last
run-join machine nodes bounds [] more start mid last is behind = subst (λ s. Runs machine nodes bounds s more last) is behind
run-join machine nodes bounds (entry ∷ log) more start mid last (next, turn, rest) behind = (next, turn, run-join machine nodes bounds log more next mid last rest behind)

pub run_text-append : (log more : List (Entry BoundTree)) → run_text (log ++ more) ≡ run_text log ++ run_text more
run_text-append log more = ap log_text (flat_map-append items_of log more) ∙ log_text-append (items_in log) (items_in more)

pub runs_join : (machine : Machine) (nodes : ℕ) (bounds : Bool) → RunsJoin machine nodes bounds
runs_join machine nodes bounds start mid last events more log behind first second = record {
  answers = map-append (λ e. e.event) log behind ∙ ap₂ (λ a b. a ++ b) first.answers second.answers;
  run = run-join machine nodes bounds log behind start mid last first.run second.run;
  has_text = (in_place (log ++ behind), subst (All IsItem) (sym (flat_map-append items_of log behind)) (All-append IsItem (items_in log) (items_in behind) first.has_text.1 second.has_text.1));
}

-- ---- runs from the empty state

pub events_lawful : (machine : Machine) (nodes : ℕ) (bounds : Bool) → EventsAreLawful machine nodes bounds
events_lawful machine nodes bounds events text s h =
    let r = events_go_on machine nodes bounds events text empty_state empty_state s (whole-empty machine nodes bounds) h in
    record { log = r.log; lawful = first_runs_lawful machine nodes bounds events r.log r.last r.run; is_text = r.is_text }

pub lines_lawful : (machine : Machine) (nodes : ℕ) (bounds : Bool) → LinesAreLawful machine nodes bounds
lines_lawful machine nodes bounds lines text whole s s' behind h =
    let r = lines_go_on machine nodes bounds lines text whole s s' behind h in
    record { log = r.log; last = r.last; run = r.run; is_text = r.is_text }

-- ---- each item is written in whole lines

ends_each : {X : Type 0} (f : X → List ℕ) → ((x : X) → ends_whole (f x) ≡ true) → (xs : List X) → ends_whole (flat_map f xs) ≡ true
ends_each f one [] = refl
ends_each f one (x ∷ xs) = ends_append (f x) (flat_map f xs) (one x) (ends_each f one xs)

ends_item : (x : Item) → ends_whole (item_text x) ≡ true
ends_item (item.Event event) = ends_line (62 ∷ 32 ∷ event_text event)
ends_item (item.Note told) = ends_line (spaced (record_words told))
ends_item (item.Tree tree) =
    ends_append (flat_map row_text tree.rows) (flat_map node_text tree.nodes) (ends_each row_text (λ row. ends_line (spaced (row_words row))) tree.rows)
    (ends_each node_text (λ node. ends_line (spaced (node_words node))) tree.nodes)

pub turns_tell_lines : (machine : Machine) (nodes : ℕ) (bounds : Bool) → TurnsTellLines machine nodes bounds
turns_tell_lines machine nodes bounds event s s' text h =
    subst (λ t. ends_whole t ≡ true) (sym h.is_text) (ends_each item_text ends_item (items_of (entry_of event h.records h.trees)))
