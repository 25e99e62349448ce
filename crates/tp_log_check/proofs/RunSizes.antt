-- What a run with bounds writes keeps the sizes of a check, if it has not too many bytes in all.
use Rattle.std.proofs.Common.{◌≡◌, ℕ, ◌+◌, ◌≤◌, Bool, true, false, cond, List, [], ◌∷◌, ◌++◌, length, map, take, drop, Option, Some, None, refl, sym, ap, ◌∙◌, arith}
use Rattle.std.specs.Prelude.{◌==◌}
use Rattle.std.specs.List.{All, count_by, filter_map}
use Rattle.std.proofs.lemmas.List.{length-map}
use Rattle.std.proofs.lemmas.List.Concat.{flat_map-append}
use Rattle.std.proofs.lemmas.List.Elements.{All-cons, All-head, All-nil, All-tail}
use Rattle.std.proofs.lemmas.List.Sums.{sum_by-append, sum_by-cons}
use Rattle.tp_bounds.specs.declared.tree.BoundTree.{BoundTree}
use Rattle.tp_bounds.specs.declared.tree.Node.{Node}
use Rattle.tp_bounds.specs.declared.tree.TreeRow.{TreeRow}
use Rattle.tp_event_rules.specs.Logs.{Entry}
use Rattle.tp_event_rules.specs.States.{SessionState}
use Rattle.tp_log.specs.GatheredItems.{item_lines, log_lines}
use Rattle.tp_log.specs.LogLines.{is_event, log_line_text}
use Rattle.tp_log.specs.declared.item.Item.{Item}
use Rattle.tp_log.specs.declared.item.Item.TheVariants as item
use Rattle.tp_log.specs.declared.log_line.LogLine.{LogLine}
use Rattle.tp_log.specs.declared.log_line.LogLine.TheVariants as line
use Rattle.tp_log.proofs.Items.{log_known, text_of-log}
use Rattle.tp_log.proofs.LogLines.{lines_whole}
use Rattle.tp_log_check.specs.CheckerState.{events_in}
use Rattle.tp_log_check.specs.Sizes.{KeepsSizes, begins_event, event_lines, most_bytes}
use Rattle.tp_log_check.specs.Sizes as sizes
use Rattle.tp_log_check.proofs.FedLines.{begins}
use Rattle.tp_machine.specs.declared.machine.Machine.{Machine}
use Rattle.tp_run_laws.specs.Runs.{is_of_plan, items_in, items_of, items_with, trees_behind}
use Rattle.tp_run_laws.specs.ShortRuns.{BoundRunsAreShort}
use Rattle.tp_run_laws.specs.Wholes.{IsRunOver}
use Rattle.tp_schedule.specs.declared.records.Record.{Record}
use Rattle.tp_script.specs.Lines.{line_event}
use Rattle.tp_script.specs.declared.event.Event.{Event}
use Rattle.tp_stream.specs.Scripts.{line_bytes, most_lines}
use Rattle.tp_stream.specs.Takes.{FitsIn, body_of}
use Rattle.tp_words.specs.Texts.{lines_of}

-- ---- lines of events

-- a line of a log begins with `> ` exactly if it is an event's
counted : (lines : List LogLine) → count_by begins_event (map log_line_text lines) ≡ count_by is_event lines
counted [] = refl
counted (told ∷ lines) =
    let text = sum_by-cons sizes.events_in (log_line_text told) (map log_line_text lines) in
    let line = sum_by-cons events_in told lines in
    let same : sizes.events_in (log_line_text told) ≡ events_in told = ap (λ b. cond b 1 0) (begins told) in
    omega (arith, text, line, same, counted lines)

nodes-none : (nodes : List Node) → count_by is_event (map (λ n. line.Node n) nodes) ≡ 0
nodes-none [] = refl
nodes-none (n ∷ nodes) = omega (arith, sum_by-cons events_in (line.Node n) (map (λ n. line.Node n) nodes), nodes-none nodes)

rows-none : (rows : List TreeRow) → count_by is_event (map (λ r. line.Room r) rows) ≡ 0
rows-none [] = refl
rows-none (r ∷ rows) = omega (arith, sum_by-cons events_in (line.Room r) (map (λ r. line.Room r) rows), rows-none rows)

tree-none : (tree : BoundTree) → count_by is_event (item_lines (item.Tree tree)) ≡ 0
tree-none tree =
    omega (arith, sum_by-append events_in (map (λ r. line.Room r) tree.rows) (map (λ n. line.Node n) tree.nodes), rows-none tree.rows, nodes-none tree.nodes)

behind : (i : Item) (items : List Item) → count_by is_event (log_lines (i ∷ items)) ≡ count_by is_event (item_lines i) + count_by is_event (log_lines items)
behind i items = sum_by-append events_in (item_lines i) (log_lines items)

both : (items more : List Item) → count_by is_event (log_lines (items ++ more)) ≡ count_by is_event (log_lines items) + count_by is_event (log_lines more)
both items more = ap (count_by is_event) (flat_map-append item_lines items more) ∙ sum_by-append events_in (log_lines items) (log_lines more)

trees-none : (trees : List BoundTree) → count_by is_event (log_lines (map (λ t. item.Tree t) trees)) ≡ 0
trees-none [] = refl
trees-none (t ∷ trees) = omega (arith, behind (item.Tree t) (map (λ t. item.Tree t) trees), tree-none t, trees-none trees)

-- no event stands among the records and trees of one
with-none : (of_plan : Bool) (records : List Record) (trees : List BoundTree) → count_by is_event (log_lines (items_with of_plan records trees)) ≡ 0
with-none of_plan [] trees = refl
with-none of_plan (r ∷ records) trees =
    let n = trees_behind of_plan r records in
    let rest = items_with (is_of_plan of_plan r) records (drop n trees) in
    let first = behind (item.Note r) (map (λ t. item.Tree t) (take n trees) ++ rest) in
    let note : count_by is_event (item_lines (item.Note r)) ≡ 0 = sum_by-cons events_in (line.Note r) [] in
    omega (arith, first, note, both (map (λ t. item.Tree t) (take n trees)) rest, trees-none (take n trees), with-none (is_of_plan of_plan r) records (drop n trees))

entries-count : (log : List (Entry BoundTree)) → count_by is_event (log_lines (items_in log)) ≡ length log
entries-count [] = refl
entries-count (e ∷ log) =
    let rest = items_with false e.records e.trees in
    let echo : count_by is_event (item_lines (item.Event e.event)) ≡ 1 = sum_by-cons events_in (line.Event e.event) [] in
    omega (arith, both (items_of e) (items_in log), behind (item.Event e.event) rest, echo, with-none false e.records e.trees, entries-count log)

-- a script has no more events than lines
few-events : (lines : List (List ℕ)) → length (filter_map line_event lines) ≤ length lines
few-events [] = omega arith
few-events (l ∷ lines) = go (line_event l) refl (few-events lines)
  where
    go : (o : Option Event) → line_event l ≡ o → length (filter_map line_event lines) ≤ length lines → length (filter_map line_event (l ∷ lines)) ≤ length (l ∷ lines)
    go None e few = rw e (omega (arith, few))
    go (Some event) e few = rw e (omega (arith, few))

-- ---- lengths

body-shorter : (line : List ℕ) → length (body_of line) ≤ length line
body-shorter [] = omega arith
body-shorter (byte ∷ line) = go (byte == 10) (body-shorter line)
  where
    go : (b : Bool) → length (body_of line) ≤ length line → length (cond b [] (byte ∷ body_of line)) ≤ length (byte ∷ line)
    go true shorter = omega arith
    go false shorter = omega (arith, shorter)

abbrev IsShort : List ℕ → Type 0
IsShort line = length line ≤ 4194304

all-fit : (lines : List (List ℕ)) → All IsShort lines → All (FitsIn sizes.line_bytes) lines
all-fit [] all = All-nil (FitsIn sizes.line_bytes)
all-fit (l ∷ lines) all =
    All-cons (FitsIn sizes.line_bytes) l lines (omega (arith, body-shorter l, All-head IsShort l lines all)) (all-fit lines (All-tail IsShort l lines all))

-- ---- runs

pub runs-keep-sizes : (machine : Machine) (nodes : ℕ) → BoundRunsAreShort machine nodes → (start : SessionState) (script text : List ℕ) → All (FitsIn line_bytes) (lines_of script)
    → length (lines_of script) ≤ most_lines → IsRunOver machine nodes true start (lines_of script) text → length text ≤ most_bytes → KeepsSizes text
runs-keep-sizes machine nodes short start script text fit few over bytes =
    let items = items_in over.log in
    let lines = ap lines_of (over.is_text ∙ sym (text_of-log items)) ∙ lines_whole (log_lines items) (log_known items over.run.has_text.1) in
    let events = ap (count_by begins_event) lines ∙ counted (log_lines items) ∙ entries-count over.log in
    let answered = sym (length-map over.log (λ e. e.event)) ∙ ap length over.run.answers in
    record {
      lines = all-fit (lines_of text) (short start script text fit over);
      bytes = bytes;
      events = omega (arith, events, answered, few-events (lines_of script), few);
    }
