-- The action at the place is recalled, or is not.
use Rattle.std.proofs.Common.{◌≤◌, ◌<◌, ◌+◌, ◌++◌, ◌∷◌, ◌∙◌, [], ap, arith, filter, get_or, map}
use Rattle.std.proofs.lemmas.Option.{get_or_from_slice_get, slice_get-get_or}
use Rattle.tp_machine.specs.declared.parts.ActId.{ActId}
use Rattle.tp_schedule.specs.Holders.{Run, runs_of}
use Rattle.tp_schedule.specs.Plans.{point}
use Rattle.tp_schedule.specs.declared.records.Record.{Record}
use Rattle.tp_schedule.specs.declared.records.Record.TheVariants.{Recall}
use Rattle.tp_event_rules.specs.Labels.{label}
use Rattle.tp_event_rules.specs.Moments.{is_recalled}
use Rattle.tp_replan.proofs.DueRuns.{run_at}
use Rattle.tp_replan.proofs.RunFacts.{keeps-at, noted-next, recalls-at, run-at, runs-whole, unnoted-next}
use Rattle.tp_replan.proofs.fate_records.tell_recalls.Goals as goal
use Rattle.tp_replan.proofs.fate_records.tell_recalls.Goals.{then-at-plan+then-now-get+in_ok-push, else-at-plan, else-at-plan-via-then-at-plan+else-now-get, else-at-plan-via-else-at-plan}

pub loop-at-preserved : goal.loop-at-preserved
loop-at-preserved c =
    let p = c.args.plan.now in
    let now = c.args.now in
    let i = c.loop-at.at in
    let old = c.args.notes.now.items in
    let tells : Run → Record = λ run. Recall (label c.args.lines.now.jobs p.sheet) run.number in
    let none : ActId = record { 0 = 0 } in
    let act = get_or p.acts i none in
    let is = run-at p i act c.requires.formed (slice_get-get_or p.acts i none (omega (arith, c.loop-at-test.true, c.len-at-end.ensures.len))) in
    elim c.if-at-plan.branch [
      | then-at-plan+then-now-get+in_ok-push w ↦ rw w.notes-is (
          let start = get_or_from_slice_get p.points i w.get.result 0 w.get.ensures in
          let starts : now < point p i = omega (arith, start, w.if-now-get.true) in
          noted-next (is_recalled now p) tells (runs_of p) i (run_at p i act) old c.loop-at.notes.items w.push.new.self.items is
          (recalls-at now p i act w.if-at-plan.true starts) c.loop-at.invariant
          (w.in_ok-push.ensures.items ∙ ap (λ sheet. c.loop-at.notes.items ++ Recall sheet (i + 1) ∷ []) w.label.ensures))
      | else-at-plan w ↦ rw w.notes-is (elim w.else-at-plan.branch [
        | else-at-plan-via-then-at-plan+else-now-get v ↦
            let start = get_or_from_slice_get p.points i v.get.result 0 v.get.ensures in
            let started : point p i ≤ now = omega (arith, start, v.if-now-get.false) in
            unnoted-next (is_recalled now p) tells (runs_of p) i (run_at p i act) old c.loop-at.notes.items is
            (keeps-at now p i act (λ _. started)) c.loop-at.invariant
        | else-at-plan-via-else-at-plan v ↦
            unnoted-next (is_recalled now p) tells (runs_of p) i (run_at p i act) old c.loop-at.notes.items is
            (keeps-at now p i act (λ low. absurd (omega (arith, low, v.if-at-plan.false)))) c.loop-at.invariant
      ])
    ]

pub returns : goal.returns
returns c =
    let p = c.args.plan.now in
    let tells : Run → Record = λ run. Recall (label c.args.lines.now.jobs p.sheet) run.number in
    c.loop-at.invariant
    ∙ ap (λ runs. c.args.notes.now.items ++ map tells (filter (is_recalled c.args.now p) runs))
    (runs-whole p c.loop-at.at c.requires.formed (omega (arith, c.loop-at-test.false, c.loop-at.auto.at-end, c.len-at-end.ensures.len)))
