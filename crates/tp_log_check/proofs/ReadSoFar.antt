-- What a checker has read, with one line more, and at the end.
use Rattle.std.proofs.Common.{◌≡◌, ℕ, List, [], ◌∷◌, ◌++◌, ◌+◌, All, Option, None, refl, sym, ap, subst, ◌∙◌}
use Rattle.std.proofs.lemmas.List.{append-nil}
use Rattle.std.proofs.lemmas.List.Elements.{All-append, All-head, All-nil, All-tail}
use Rattle.tp_log_check.specs.LogCounts.{counts_of}
use Rattle.tp_log_check.specs.declared.counts.Counts.{Counts}
use Rattle.tp_log.specs.GatheredItems.{log_lines}
use Rattle.tp_log.specs.Logs.{AreInPlace, IsItem, IsLog, StandEach}
use Rattle.tp_log.specs.declared.item.Item.{Item}
use Rattle.tp_log.specs.declared.item.Item.TheVariants.{Event, Note, Tree}
use Rattle.tp_log.specs.declared.log_line.LogLine.{LogLine}
use Rattle.tp_log_laws.proofs.Lawful.{logs_lawful}
use Rattle.tp_machine.specs.declared.machine.Machine.{Machine}
use Rattle.tp_run_laws.specs.Runs.{items_in}
use Rattle.tp_event_rules.specs.States.{SessionState}
use Rattle.tp_log_check.specs.Lawful.{AreInPlaces}
use Rattle.tp_log_check.specs.CheckerState.{CheckerValue, HasTaken, IsAcceptedLog, Section, Underway, entries_of, items_of, lines_under, section_items}
use Rattle.tp_log_check.specs.declared.flaw.Flaw.{Flaw}

-- only the machine, the state and the event that is under way matter
pub same-taken : (machine : Machine) (state : SessionState) (under : Option Underway) (events events' lines lines' : ℕ) (counts counts' : Counts) (flaw flaw' : Option Flaw) (told : List LogLine)
    → HasTaken (record { machine = machine; state = state; under = under; events = events; lines = lines; counts = counts; flaw = flaw }) told
    → HasTaken (record { machine = machine; state = state; under = under; events = events'; lines = lines'; counts = counts'; flaw = flaw' }) told
same-taken machine state under events events' lines lines' counts counts' flaw flaw' told h = record { sections = h.sections; logs = h.logs; plain = h.plain; places = h.places; accepted = h.accepted; only = h.only; lines = h.lines; number = h.number }

-- ---- the sections of a log are a log

stand-on : (before : Item) (xs ys : List Item) → StandEach before xs → AreInPlace ys → StandEach before (xs ++ ys)
stand-on before [] [] h k = tt
stand-on before [] (Event e ∷ ys) h k = (tt, k.1)
stand-on before [] (Note r ∷ ys) h k = absurd cc
stand-on before [] (Tree t ∷ ys) h k = absurd cc
stand-on before (x ∷ xs) ys h k = (h.0, stand-on x xs ys h.1 k)

-- and so are the items of two logs
pub log-more : (xs ys : List Item) → IsLog xs → IsLog ys → IsLog (xs ++ ys)
log-more [] ys h k = k
log-more (x ∷ xs) ys h k = ((h.0.0, stand-on x xs ys h.0.1 k.0), All-append IsItem (x ∷ xs) ys h.1 k.1)

pub sections-log : (sections : List Section) → All (λ s. IsLog (section_items s)) sections → IsLog (items_of sections)
sections-log [] h = (tt, All-nil IsItem)
sections-log (s ∷ sections) h =
    let first = All-head (λ (s : Section). IsLog (section_items s)) s sections h in
    let others = sections-log sections (All-tail (λ (s : Section). IsLog (section_items s)) s sections h) in
    ((refl, stand-on (Event s.event) s.items (items_of sections) first.0.1 others.0), All-append IsItem (section_items s) (items_of sections) first.1 others.1)

-- the items of their entries are theirs
entry-items : (sections : List Section) → All (λ s. AreInPlaces s.items) sections → items_in (entries_of sections) ≡ items_of sections
entry-items [] places = refl
entry-items (s ∷ sections) places =
    let first = All-head (λ (s : Section). AreInPlaces s.items) s sections places in
    let others = entry-items sections (All-tail (λ (s : Section). AreInPlaces s.items) s sections places) in
    (λ k. (Event s.event ∷ sym first k) ++ others k)

pub read-log : (c : CheckerValue) (told : List LogLine) (counts : Counts) → HasTaken c told → c.under ≡ None → counts ≡ counts_of told → IsAcceptedLog c.machine told counts
read-log c told counts h none counted = record {
  sections = h.sections;
  log = sections-log h.sections h.logs;
  lines = h.lines ∙ ap (λ u. log_lines (items_of h.sections) ++ lines_under u) none ∙ append-nil (log_lines (items_of h.sections));
  lawful = logs_lawful c.machine (entries_of h.sections) c.state h.accepted;
  counted = counted;
  places = record {
    log = entries_of h.sections;
    is_log = subst IsLog (sym (entry-items h.sections h.places)) (sections-log h.sections h.logs);
    lines = h.lines ∙ ap (λ u. log_lines (items_of h.sections) ++ lines_under u) none ∙ append-nil (log_lines (items_of h.sections)) ∙ ap log_lines (sym (entry-items h.sections h.places));
    lawful = logs_lawful c.machine (entries_of h.sections) c.state h.accepted;
  };
}
