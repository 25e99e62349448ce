-- One action more is reported of where it is due, and none is due that is released.
use Rattle.std.proofs.Common.{◌≡◌, ◌∙◌, ◌++◌, ap, sym, arith, map}
use Rattle.std.proofs.lemmas.List.{append-nil}
use Rattle.std.proofs.lemmas.Option.{get_or_from_slice_get}
use Rattle.tp_schedule.specs.Plans.{IsFormed, point}
use Rattle.tp_event_rules.specs.Clock.{release_of}
use Rattle.tp_release.proofs.DueRuns.{due-none, due-skips, due-whole, told-more}
use Rattle.tp_release.proofs.plan_records.tell_releases.Goals as goal
use Rattle.tp_release.proofs.plan_records.tell_releases.Goals.{then-start-last+in_ok-push, else-start-last}

pub loop-at-init : goal.loop-at-init
loop-at-init c = sym (ap (λ due. c.args.told.now.items ++ map (release_of c.args.machine.now) due) (due-none c.args.last c.args.plan.now) ∙ append-nil c.args.told.now.items)

pub overflow_sub-start : goal.overflow_sub-start
overflow_sub-start c =
    let start : point c.args.plan.now c.loop-at.at ≡ c.get-start.result = get_or_from_slice_get c.args.plan.now.points c.loop-at.at c.get-start.result 0 c.get-start.ensures in
    let len = c.len-at-end.ensures.len in
    let within = c.loop-at-test.true in
    let high = c.loop-at.auto.at in
    let low = c.requires.floors c.loop-at.at (omega arith) (omega arith) in
    omega arith

pub loop-at-preserved : goal.loop-at-preserved
loop-at-preserved c =
    let p = c.args.plan.now in
    let formed : IsFormed p = record { some = c.requires.timed.some; one_more = c.requires.timed.one_more; released = c.requires.timed.released } in
    let start : point p c.loop-at.at ≡ c.get-start.result = get_or_from_slice_get p.points c.loop-at.at c.get-start.result 0 c.get-start.ensures in
    let len = c.len-at-end.ensures.len in
    let within = c.loop-at-test.true in
    let high = c.loop-at.auto.at in
    elim c.if-start-last.branch [
      | then-start-last+in_ok-push w ↦ (
          rw w.told-is (
          w.in_ok-push.ensures.items
          ∙ told-more c.args.machine.now c.args.last p c.loop-at.at w.get.result c.get-start.result w.get-then-start-last.result c.args.told.now.items c.loop-at.told.items formed (omega arith)
          w.get.ensures c.get-start.ensures w.get-then-start-last.ensures w.if-start-last.true c.loop-at.invariant))
      | else-start-last w ↦ (
          let late = w.if-start-last.false in
          rw w.told-is (c.loop-at.invariant ∙ ap (λ due. c.args.told.now.items ++ map (release_of c.args.machine.now) due) (sym (due-skips c.args.last p c.loop-at.at formed (omega arith) (omega arith) (omega arith)))))
    ]

pub returns : goal.returns
returns c =
    let p = c.args.plan.now in
    let formed : IsFormed p = record { some = c.requires.timed.some; one_more = c.requires.timed.one_more; released = c.requires.timed.released } in
    let len = c.len-at-end.ensures.len in
    let done = c.loop-at-test.false in
    let fits = c.requires.timed.released in
    let end = c.loop-at.auto.at-end in
    c.loop-at.invariant ∙ ap (λ due. c.args.told.now.items ++ map (release_of c.args.machine.now) due) (due-whole c.args.last p c.loop-at.at formed (omega arith))
