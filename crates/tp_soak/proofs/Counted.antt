-- A log echoes each of its events once.
use Rattle.std.proofs.Common.{◌≡◌, ℕ, ◌+◌, Bool, true, false, List, [], ◌∷◌, ◌++◌, length, map, take, drop, cond, Option, refl, sym, ap, subst, ◌∙◌, arith}
use Rattle.std.specs.Prelude.{IfOk, Result, unwrap_or}
use Rattle.std.specs.List.{count_by}
use Rattle.std.proofs.lemmas.List.{length-map}
use Rattle.std.proofs.lemmas.List.Sums.{sum_by-append, sum_by-cons}
use Rattle.std.proofs.lemmas.Result.{IfOk-weaker}
use Rattle.tp_base.specs.declared.errors.Memory.{Memory}
use Rattle.tp_bounds.specs.declared.tree.BoundTree.{BoundTree}
use Rattle.tp_log.specs.Logs.{IsLog, log_text}
use Rattle.tp_log.specs.declared.item.Item.{Item}
use Rattle.tp_log.specs.declared.item.Item.TheVariants as item
use Rattle.tp_machine.specs.declared.machine.Machine.{Machine}
use Rattle.tp_run_laws.specs.Runs.{is_of_plan, items_in, items_with, trees_behind}
use Rattle.tp_run_laws.specs.EventRuns.{IsRunOf}
use Rattle.tp_schedule.specs.declared.records.Record.{Record}
use Rattle.tp_script.specs.declared.event.Event.{Event}
use Rattle.tp_script.specs.declared.event.Event.TheVariants as event
use Rattle.tp_session.specs.Sessions.{SessionsTellLawful, Standing, Tells, start_of}
use Rattle.tp_stream.specs.Tellers.{TellsAll}
use Rattle.tp_event_rules.specs.Logs.{Entry}
use Rattle.tp_soak.specs.SoakCounts.{counts_of, tells}
use Rattle.tp_soak.specs.Summaries.{IsCountedRun, IsLogText}
use Rattle.tp_soak.specs.declared.record_counts.RecordCounts.{RecordCounts}
use Rattle.tp_soak.specs.declared.record_counts.ItemKind.TheVariants as kind

count-append : (xs ys : List Item) → count_by (tells kind.Event) (xs ++ ys) ≡ count_by (tells kind.Event) xs + count_by (tells kind.Event) ys
count-append xs ys = sum_by-append (λ x. cond (tells kind.Event x) 1 0) xs ys

count-cons : (x : Item) (xs : List Item) → count_by (tells kind.Event) (x ∷ xs) ≡ cond (tells kind.Event x) 1 0 + count_by (tells kind.Event) xs
count-cons x xs = sum_by-cons (λ x. cond (tells kind.Event x) 1 0) x xs

no-echo_trees : (trees : List BoundTree) → count_by (tells kind.Event) (map (λ t. item.Tree t) trees) ≡ 0
no-echo_trees [] = refl
no-echo_trees (t ∷ trees) = count-cons (item.Tree t) (map (λ t. item.Tree t) trees) ∙ omega (arith, no-echo_trees trees)

-- the records and trees echo nothing
no-echo : (of_plan : Bool) (records : List Record) (trees : List BoundTree) → count_by (tells kind.Event) (items_with of_plan records trees) ≡ 0
no-echo of_plan [] trees = refl
no-echo of_plan (r ∷ records) trees =
    let n = trees_behind of_plan r records in
    let own = map (λ t. item.Tree t) (take n trees) in
    let later = items_with (is_of_plan of_plan r) records (drop n trees) in
    let first = count-cons (item.Note r) (own ++ later) in
    let parts = count-append own later in
    let none = no-echo_trees (take n trees) in
    let others = no-echo (is_of_plan of_plan r) records (drop n trees) in
    omega (arith, first, parts, none, others)

pub echoes-in : (log : List (Entry BoundTree)) → count_by (tells kind.Event) (items_in log) ≡ length log
echoes-in [] = refl
echoes-in (e ∷ log) =
    let told = items_with false e.records e.trees in
    let first = count-cons (item.Event e.event) (told ++ items_in log) in
    let parts = count-append told (items_in log) in
    let none = no-echo false e.records e.trees in
    let others = echoes-in log in
    omega (arith, first, parts, none, others)

-- the log of a run has as many events as were answered
pub events_counted : (machine : Machine) (budget : ℕ) (events : List Event) (counts : RecordCounts) → IsCountedRun machine budget events counts → counts.events ≡ length events
events_counted machine budget events counts run =
    ap (λ (c : RecordCounts). c.events) run.counted ∙ echoes-in run.log ∙ sym (length-map run.log (λ e. e.event)) ∙ ap length run.lawful.lawful.answers

-- ---- what a session told from its start is the log of a run

module _ (machine : Machine) (budget : Option ℕ) (events : List Event) (text piece : List ℕ) (same : piece ≡ text) (start last : Standing) (law : SessionsTellLawful machine budget true)
    (begins : start ≡ start_of machine budget true) (told : TellsAll Tells start events text last) where
  run_of : IsRunOf machine (unwrap_or budget machine.budget) true events text
  run_of = law events text last (subst (λ s. TellsAll Tells s events text last) begins told)

  pub is_log_text : IsLogText piece
  is_log_text = (items_in run_of.log, run_of.lawful.has_text, same ∙ run_of.is_text)

  pub counted_run : (result : Result RecordCounts Memory) → ((items : List Item) → IsLog items → piece ≡ log_text items → IfOk result (λ counts. counts ≡ counts_of items))
      → IfOk result (IsCountedRun machine (unwrap_or budget machine.budget) events)
  counted_run result counts =
      IfOk-weaker result _ _ (λ c are. record { log = run_of.log; lawful = run_of.lawful; counted = are }) (counts (items_in run_of.log) run_of.lawful.has_text (same ∙ run_of.is_text))

-- ---- what a script has can be echoed
