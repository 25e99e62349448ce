-- Where an event's items leave no turn open, no lawful log begins with the lines that were read.
use Rattle.std.proofs.Common.{◌≡◌, true, List, [], ◌∷◌, ◌++◌, All, map, take, drop, refl, sym, ap, subst, ◌∙◌, append_assoc, Bool, false}
use Rattle.std.specs.Prelude.{IsFalse}
use Rattle.std.proofs.lemmas.List.Elements.{All-cons, All-head, All-nil, All-tail}
use Rattle.tp_bounds.specs.declared.tree.BoundTree.{BoundTree}
use Rattle.tp_log.specs.GatheredItems.{log_lines}
use Rattle.tp_log.specs.Logs.{IsLog, is_echo}
use Rattle.tp_log.specs.declared.item.Item.{Item}
use Rattle.tp_log.specs.declared.item.Item.TheVariants.{Event, Note, Tree}
use Rattle.tp_log.specs.declared.log_line.LogLine.{LogLine}
use Rattle.tp_machine.specs.declared.machine.Machine.{Machine}
use Rattle.tp_schedule.specs.declared.records.Record.{Record}
use Rattle.tp_script.specs.declared.event.Event.{Event as AnEvent}
use Rattle.tp_event_rules.specs.Logs.{Entry, Run, right_answers, spent_on_trust}
use Rattle.tp_event_rules.specs.States.{SessionState, empty_state}
use Rattle.tp_run_laws.specs.Runs.{is_of_plan, items_in, items_with, trees_behind}
use Rattle.tp_run_laws.specs.Runs as runs
use Rattle.tp_run_laws.specs.Wholes.{IsWhole}
use Rattle.tp_run_laws.proofs.Lawful.{whole-empty}
use Rattle.tp_run_laws.proofs.ThroughTurns.{through-turn}
use Rattle.tp_log_laws.specs.AcceptedEntries.{bound_claims}
use Rattle.tp_log_check.specs.CheckerState.{LeadOn, Section, items_of, section_items}
use Rattle.tp_log_check.specs.Gathered.{ArePlain}
use Rattle.tp_log_check.specs.Lawful.{EndEvent, HasNoTurn, IsLawfulLog}
use Rattle.tp_log_check.proofs.CutLines.{BeginEvent, begins-with, same-cut}

-- no event is among the items of records and trees
plain-trees : (trees : List BoundTree) (items : List Item) → ArePlain items → ArePlain (map (λ t. Tree t) trees ++ items)
plain-trees [] items plain = plain
plain-trees (t ∷ trees) items plain = All-cons (λ item. IsFalse (is_echo item)) (Tree t) (map (λ t. Tree t) trees ++ items) refl (plain-trees trees items plain)

plain-with : (b : Bool) (records : List Record) (trees : List BoundTree) → ArePlain (items_with b records trees)
plain-with b [] trees = All-nil (λ item. IsFalse (is_echo item))
plain-with b (r ∷ records) trees =
    let n = trees_behind b r records in
    All-cons (λ item. IsFalse (is_echo item)) (Note r) (map (λ t. Tree t) (take n trees) ++ items_with (is_of_plan b r) records (drop n trees)) refl
    (plain-trees (take n trees) (items_with (is_of_plan b r) records (drop n trees)) (plain-with (is_of_plan b r) records (drop n trees)))

begins-log : (log : List (Entry BoundTree)) → BeginEvent (items_in log)
begins-log [] = tt
begins-log (e ∷ log) = refl

begins-sections : (sections : List Section) (rest : List Item) → BeginEvent rest → BeginEvent (items_of sections ++ rest)
begins-sections [] rest event = event
begins-sections (s ∷ sections) rest event = refl

module _ (machine : Machine) where
  abbrev Runs : SessionState → List (Entry BoundTree) → SessionState → Type 0
  Runs = Run bound_claims true spent_on_trust machine

  -- the entry's items are those of the section
  same-entry : (e : Entry BoundTree) (event : AnEvent) (items : List Item) (rest other : List Item) → ArePlain items → BeginEvent rest → BeginEvent other
      → runs.items_of e ++ rest ≡ (Event event ∷ items) ++ other → (runs.items_of e ≡ Event event ∷ items) × (rest ≡ other)
  same-entry e event items rest other plain br bo same =
      let whole : Event e.event ∷ (items_with false e.records e.trees ++ rest) ≡ Event event ∷ (items ++ other) = same in
      let first : Event e.event ≡ Event event = cc in
      let others : items_with false e.records e.trees ++ rest ≡ items ++ other = cc in
      let h = same-cut (items_with false e.records e.trees) items rest other (plain-with false e.records e.trees) plain br bo others in
      (λ k. first k ∷ h.0 k, h.1)

  -- a run whose items begin with those of the sections: what is left of it behind them
  record IsLeft (whole : SessionState) (log : List (Entry BoundTree)) (last : SessionState) (s' : SessionState) (rest : List Item) : Type 0 where
    here : SessionState
    later : List (Entry BoundTree)
    behind : IsWhole machine here s'
    run : Runs here later last
    are : items_in later ≡ rest

  walk : (sections : List Section) → All (λ s. ArePlain s.items) sections → (s s' : SessionState) → LeadOn machine s sections s' → (whole : SessionState) (log : List (Entry BoundTree)) (last : SessionState) → IsWhole machine whole s → Runs whole log last
      → (rest : List Item) → BeginEvent rest → items_in log ≡ items_of sections ++ rest → IsLeft whole log last s' rest
  walk [] plain s s' on whole log last w run rest event e = record { here = whole; later = log; behind = subst (IsWhole machine whole) (sym on) w; run = run; are = e }
  walk (section ∷ sections) plain s s' on whole [] last w run rest event e = absurd (cc)
  walk (section ∷ sections) plain s s' (mid, leads, on) whole (entry ∷ log) last w (next, turn, run) rest event e =
      let whole-items : items_in (entry ∷ log) ≡ section_items section ++ (items_of sections ++ rest) = e ∙ append_assoc (section_items section) (items_of sections) rest in
      let h = same-entry entry section.event section.items (items_in log) (items_of sections ++ rest) (All-head (λ s. ArePlain s.items) section sections plain) (begins-log log) (begins-sections sections rest event) whole-items in
      let live = leads whole next w (record { entry = entry; are = h.0; turn = turn }) in
      let kept = through-turn (right_answers bound_claims true spent_on_trust machine) machine (λ q. spent_on_trust) (λ q plans deed plans' q' does. does.0) entry.event whole entry.trees entry.records next [] tt turn w.through in
      let left = walk sections (All-tail (λ s. ArePlain s.items) section sections plain) mid s' on next log last (record { through = kept; live = live }) run rest event h.1 in
      record { here = left.here; later = left.later; behind = left.behind; run = left.run; are = left.are }

  -- no lawful log has these lines, and ends there or goes on with an event's
  pub none-lawful : (sections : List Section) → All (λ s. ArePlain s.items) sections → (s : SessionState) → LeadOn machine empty_state sections s → (event : AnEvent) (items : List Item) → ArePlain items → IsLog (items_of sections ++ Event event ∷ items)
      → HasNoTurn machine s event items → (told more : List LogLine) → told ≡ log_lines (items_of sections ++ Event event ∷ items) → EndEvent more → IsLawfulLog machine (told ++ more) → ⊥
  none-lawful sections plain s on event items plain-items log none told more lines cut lawful =
      let known = items_of sections ++ Event event ∷ items in
      let all : log_lines (items_in lawful.log) ≡ log_lines known ++ more = sym lawful.lines ∙ ap (λ ls. ls ++ more) lines in
      let b = begins-with (items_in lawful.log) known more lawful.is_log log cut all in
      let are : items_in lawful.log ≡ items_of sections ++ ((Event event ∷ items) ++ b.rest) = b.are ∙ append_assoc (items_of sections) (Event event ∷ items) b.rest in
      let left = walk sections plain empty_state s on empty_state lawful.log lawful.lawful.last (whole-empty machine 0 true) lawful.lawful.run ((Event event ∷ items) ++ b.rest) refl are in
      last left.here left.later lawful.lawful.last left.behind left.run b.rest b.event left.are where
        last : (here : SessionState) (later : List (Entry BoundTree)) (end : SessionState) → IsWhole machine here s → Runs here later end → (rest : List Item) → BeginEvent rest → items_in later ≡ (Event event ∷ items) ++ rest → ⊥
        last here [] end w run rest be e = cc
        last here (entry ∷ later) end w (next, turn, run) rest be e =
            let h = same-entry entry event items (items_in later) rest plain-items (begins-log later) be e in
            none here next w (record { entry = entry; are = h.0; turn = turn })
