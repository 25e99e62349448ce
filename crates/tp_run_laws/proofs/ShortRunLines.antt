-- No line of a run with bounds is long.
use Rattle.std.proofs.Common.{◌≡◌, ℕ, ◌+◌, ◌*◌, ◌≤◌, Bool, true, false, List, [], ◌∷◌, ◌++◌, length, map, take, drop, refl, sym, ap, subst, ◌∙◌, arith, length-append}
use Rattle.std.specs.List.{All, filter_map, flat_map}
use Rattle.std.proofs.lemmas.List.{map-append}
use Rattle.std.proofs.lemmas.List.Elements.{All-append, All-cons, All-drop, All-head, All-map, All-nil, All-tail, All-take}
use Rattle.tp_bounds.specs.Lines.{node_text, row_text}
use Rattle.tp_bounds.specs.declared.tree.BoundTree.{BoundTree}
use Rattle.tp_bounds.specs.declared.tree.Node.{Node}
use Rattle.tp_bounds.specs.declared.tree.TreeRow.{TreeRow}
use Rattle.tp_bound_laws.specs.Short.{HasFewHops, most_bytes}
use Rattle.tp_bound_laws.proofs.ShortLines.{few-short, spaced-short}
use Rattle.tp_event_rules.specs.Logs.{Entry}
use Rattle.tp_event_rules.specs.States.{SessionState}
use Rattle.tp_log.specs.GatheredItems.{item_lines, log_lines}
use Rattle.tp_log.specs.Grammar.{IsRecord, echo_text}
use Rattle.tp_log.specs.LogLines.{log_line_text}
use Rattle.tp_log.specs.Logs.{IsItem, log_text}
use Rattle.tp_log.specs.Records.{record_text, record_words}
use Rattle.tp_log.specs.declared.item.Item.{Item}
use Rattle.tp_log.specs.declared.item.Item.TheVariants as item
use Rattle.tp_log.specs.declared.log_line.LogLine.TheVariants as line
use Rattle.tp_log.proofs.Items.{log_known, text_of-log}
use Rattle.tp_log.proofs.LogLines.{lines_whole}
use Rattle.tp_machine.specs.declared.machine.Machine.{Machine}
use Rattle.tp_schedule.specs.declared.records.Record.{Record}
use Rattle.tp_script.specs.Lines.{line_event}
use Rattle.tp_script.specs.Printed.{IsEchoed}
use Rattle.tp_script.specs.Script.{event_text, event_words}
use Rattle.tp_script.specs.declared.event.Event.{Event}
use Rattle.tp_stream.specs.Scripts.{line_bytes}
use Rattle.tp_stream.specs.Takes.{FitsIn}
use Rattle.tp_words.specs.Texts.{lines_of, spaced}
use Rattle.tp_run_laws.specs.Runs.{is_of_plan, items_in, items_of, items_with, trees_behind}
use Rattle.tp_run_laws.specs.ShortRuns.{BoundRunsAreShort}
use Rattle.tp_run_laws.proofs.ToldRecords.{IsTold}
use Rattle.tp_run_laws.specs.Wholes.{IsRunOver}
use Rattle.tp_run_laws.proofs.FewGroups.{HasFewGroups, few-groups}
use Rattle.tp_run_laws.proofs.FewHops.{few-hops}
use Rattle.tp_run_laws.proofs.RunLines.{runs-tell}
use Rattle.tp_run_laws.proofs.ShortWords.{echo-few, echo-short, record-few, record-short}

abbrev IsShort : List ℕ → Type 0
IsShort line = length line ≤ most_bytes

-- ---- items

-- what keeps the lines of an item short
abbrev IsBrief : Item → Type 0
IsBrief (item.Event event) = HasFewGroups event
IsBrief (item.Note told) = IsTold told
IsBrief (item.Tree tree) = HasFewHops tree

abbrev AreBrief : List Item → Type 0
AreBrief items = All IsBrief items

one-line : (text : List ℕ) → IsShort text → All IsShort (text ∷ [])
one-line text short = All-cons IsShort text [] short (All-nil IsShort)

echo-line : (event : Event) → IsEchoed event → HasFewGroups event → IsShort (echo_text event)
echo-line event is few =
    omega (arith, spaced-short (event_words event) (echo-short event is), echo-few event, few, length-append (event_text event) (10 ∷ []))

record-line : (told : Record) → IsRecord told → IsTold told → IsShort (record_text told)
record-line told is brief =
    omega (arith, spaced-short (record_words told) (record-short told is.0), record-few told brief, length-append (spaced (record_words told)) (10 ∷ []))

row-lines : (rows : List TreeRow) → map log_line_text (map (λ r. line.Room r) rows) ≡ map row_text rows
row-lines [] = refl
row-lines (r ∷ rows) = ap (λ ls. row_text r ∷ ls) (row-lines rows)

node-lines : (nodes : List Node) → map log_line_text (map (λ n. line.Node n) nodes) ≡ map node_text nodes
node-lines [] = refl
node-lines (n ∷ nodes) = ap (λ ls. node_text n ∷ ls) (node-lines nodes)

item-short : (i : Item) → IsItem i → IsBrief i → All IsShort (map log_line_text (item_lines i))
item-short (item.Event event) is brief = one-line (echo_text event) (echo-line event is brief)
item-short (item.Note told) is brief = one-line (record_text told) (record-line told is brief)
item-short (item.Tree tree) is brief =
    let parts = map-append log_line_text (map (λ r. line.Room r) tree.rows) (map (λ n. line.Node n) tree.nodes) in
    let rows = ap (λ ls. ls ++ map log_line_text (map (λ n. line.Node n) tree.nodes)) (row-lines tree.rows) in
    let nodes = ap (λ ls. map row_text tree.rows ++ ls) (node-lines tree.nodes) in
    subst (All IsShort) (sym (parts ∙ rows ∙ nodes)) (few-short tree is brief)

items-short : (items : List Item) → All IsItem items → AreBrief items → All IsShort (map log_line_text (log_lines items))
items-short [] is brief = All-nil IsShort
items-short (i ∷ items) is brief =
    subst (All IsShort) (sym (map-append log_line_text (item_lines i) (log_lines items)))
    (All-append IsShort (map log_line_text (item_lines i)) (map log_line_text (log_lines items)) (item-short i (All-head IsItem i items is) (All-head IsBrief i items brief))
    (items-short items (All-tail IsItem i items is) (All-tail IsBrief i items brief)))

-- ---- entries

trees-brief : (trees : List BoundTree) → All HasFewHops trees → AreBrief (map (λ t. item.Tree t) trees)
trees-brief trees few = All-map IsBrief (λ t. item.Tree t) trees few

with-brief : (of_plan : Bool) (records : List Record) (trees : List BoundTree) → All IsTold records → All HasFewHops trees → AreBrief (items_with of_plan records trees)
with-brief of_plan [] trees told few = All-nil IsBrief
with-brief of_plan (r ∷ records) trees told few =
    let n = trees_behind of_plan r records in
    All-cons IsBrief (item.Note r) (map (λ t. item.Tree t) (take n trees) ++ items_with (is_of_plan of_plan r) records (drop n trees)) (All-head IsTold r records told)
    (All-append IsBrief (map (λ t. item.Tree t) (take n trees)) (items_with (is_of_plan of_plan r) records (drop n trees)) (trees-brief (take n trees) (All-take HasFewHops n trees few))
    (with-brief (is_of_plan of_plan r) records (drop n trees) (All-tail IsTold r records told) (All-drop HasFewHops n trees few)))

abbrev TellFew : Entry BoundTree → Type 0
TellFew e = All IsTold e.records

abbrev ShowFew : Entry BoundTree → Type 0
ShowFew e = All HasFewHops e.trees

entries-brief : (log : List (Entry BoundTree)) → All TellFew log → All ShowFew log → All HasFewGroups (map (λ e. e.event) log) → AreBrief (items_in log)
entries-brief [] told few groups = All-nil IsBrief
entries-brief (e ∷ log) told few groups =
    All-append IsBrief (items_of e) (items_in log)
    (All-cons IsBrief (item.Event e.event) (items_with false e.records e.trees) (All-head HasFewGroups e.event (map (λ e. e.event) log) groups)
    (with-brief false e.records e.trees (All-head TellFew e log told) (All-head ShowFew e log few)))
    (entries-brief log (All-tail TellFew e log told) (All-tail ShowFew e log few) (All-tail HasFewGroups e.event (map (λ e. e.event) log) groups))

-- ---- runs

pub bound-runs-short : (machine : Machine) (nodes : ℕ) → BoundRunsAreShort machine nodes
bound-runs-short machine nodes start script text fit over =
    let run = over.run in
    let told = runs-tell machine nodes true start over.log over.last run.run in
    let few = few-hops machine nodes start over.log over.last run.run in
    let groups = subst (All HasFewGroups) (sym run.answers) (few-groups script fit) in
    let items = items_in over.log in
    let known = run.has_text.1 in
    let brief = entries-brief over.log told few groups in
    let lines = ap lines_of (over.is_text ∙ sym (text_of-log items)) ∙ lines_whole (log_lines items) (log_known items known) in
    subst (All IsShort) (sym lines) (items-short items known brief)
