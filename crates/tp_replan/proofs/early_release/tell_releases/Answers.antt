-- The action at the place is released, or is not.
use Rattle.std.proofs.Common.{◌≡◌, ◌+◌, ◌++◌, ◌∙◌, ap, sym, arith, length, map}
use Rattle.std.proofs.lemmas.List.{append-nil}
use Rattle.std.proofs.lemmas.Option.{get_or_from_slice_get}
use Rattle.tp_base.proofs.SliceFacts.{All-at}
use Rattle.tp_schedule.specs.Holders.{Run}
use Rattle.tp_schedule.specs.Plans.{IsFormed, point}
use Rattle.tp_schedule.specs.declared.records.Record.{Record}
use Rattle.tp_event_records.specs.RecordNames.{IsKnown}
use Rattle.tp_event_records.proofs.NameFacts.{acts-known}
use Rattle.tp_event_rules.specs.Clock.{record_of, release_of}
use Rattle.tp_replan.proofs.DueRuns.{count-takes, due-none, due-skips, due-whole}
use Rattle.tp_replan.proofs.RunFacts.{release-told}
use Rattle.tp_replan.proofs.early_release.tell_releases.Goals as goal
use Rattle.tp_replan.proofs.early_release.tell_releases.Goals.{then-start-last+in_ok-push, else-start-last}

pub loop-at-init : goal.loop-at-init
loop-at-init c =
    let due = due-none c.args.last c.args.plan.now in
    let none = ap length due in
    let tells : Run → Record = λ run. record_of c.args.machine.now c.args.lines.now.jobs (release_of c.args.machine.now run).tell in
    record {
      count = omega arith;
      few = omega arith;
      told = sym (append-nil c.args.notes.now.items) ∙ ap (λ runs. c.args.notes.now.items ++ map tells runs) (sym due);
    }

pub action_name-requires : goal.action_name-requires
action_name-requires c =
    All-at (IsKnown c.args.machine.now) c.args.plan.now.acts c.loop-at.at c.get.result
    (acts-known c.args.machine.now c.args.plan.now c.requires.timed) c.get.ensures

pub loop-at-preserved : goal.loop-at-preserved
loop-at-preserved c =
    let m = c.args.machine.now in
    let jobs = c.args.lines.now.jobs in
    let p = c.args.plan.now in
    let last = c.args.last in
    let i = c.loop-at.at in
    let old = c.args.notes.now.items in
    let t = c.requires.timed in
    let formed : IsFormed p = record { some = t.some; one_more = t.one_more; released = t.released } in
    let start : point p i ≡ c.get-start.result = get_or_from_slice_get p.points i c.get-start.result 0 c.get-start.ensures in
    let len = c.len-at-end.ensures.len in
    let within = c.loop-at-test.true in
    let high = c.loop-at.auto.at in
    let count = c.loop-at.invariant.count in
    let few = c.loop-at.invariant.few in
    elim c.if-start-last.branch [
      | then-start-last+in_ok-push w ↦ (
          let early = w.if-start-last.true in
          let more = count-takes last p i formed (omega arith) (omega arith) (omega arith) in
          let is = w.released-is in
          record {
            count = omega arith;
            few = omega arith;
            told = rw w.notes-is (
                release-told m jobs last p i w.get.result w.label.result w.action_name.result c.get-start.result w.get-then-start-last.result
                old c.loop-at.notes.items w.push.new.self.items formed (omega arith) w.get.ensures c.get-start.ensures
                w.get-then-start-last.ensures early w.label.ensures w.action_name.ensures c.loop-at.invariant.told w.in_ok-push.ensures.items);
          })
      | else-start-last w ↦ (
          let late = w.if-start-last.false in
          let skips = due-skips last p i formed (omega arith) (omega arith) (omega arith) in
          let same = ap length skips in
          let is = w.released-is in
          let tells : Run → Record = λ run. record_of m jobs (release_of m run).tell in
          record {
            count = omega arith;
            few = omega arith;
            told = rw w.notes-is (c.loop-at.invariant.told ∙ ap (λ runs. old ++ map tells runs) (sym skips));
          })
    ]

pub returns-clause-count : goal.returns-clause-count
returns-clause-count c =
    let t = c.requires.timed in
    let formed : IsFormed c.args.plan.now = record { some = t.some; one_more = t.one_more; released = t.released } in
    c.loop-at.invariant.count
    ∙ ap (λ due. c.args.plan.now.released + length due)
    (due-whole c.args.last c.args.plan.now c.loop-at.at formed
    (omega (arith, c.len-at-end.ensures.len, c.loop-at-test.false, t.released, c.loop-at.auto.at-end)))

pub returns-clause-told : goal.returns-clause-told
returns-clause-told c =
    let t = c.requires.timed in
    let formed : IsFormed c.args.plan.now = record { some = t.some; one_more = t.one_more; released = t.released } in
    let tells : Run → Record = λ run. record_of c.args.machine.now c.args.lines.now.jobs (release_of c.args.machine.now run).tell in
    c.loop-at.invariant.told
    ∙ ap (λ runs. c.args.notes.now.items ++ map tells runs)
    (due-whole c.args.last c.args.plan.now c.loop-at.at formed
    (omega (arith, c.len-at-end.ensures.len, c.loop-at-test.false, t.released, c.loop-at.auto.at-end)))
