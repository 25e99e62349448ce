-- One more is reported of.
use Rattle.std.proofs.Common.{◌≡◌, ◌<◌, ◌++◌, ◌∷◌, ◌∙◌, [], ap, sym, subst, arith, drop, length}
use Rattle.std.proofs.lemmas.List.{append-nil}
use Rattle.std.proofs.lemmas.Option.{get_or_from_slice_get}
use Rattle.tp_base.proofs.SliceFacts.{All-at, found}
use Rattle.tp_schedule.specs.declared.parts.SheetId.{SheetId}
use Rattle.tp_schedule.specs.declared.records.Record.TheVariants.{Drop}
use Rattle.tp_event_rules.specs.Fates.{told_of}
use Rattle.tp_event_rules.specs.Labels.{label}
use Rattle.tp_event_rules.specs.Seen.{HasNextCopy}
use Rattle.tp_replan.specs.Meanings.{IsKnown, told_by_copy}
use Rattle.tp_replan.specs.declared.fate.Fate.TheVariants.{Stays}
use Rattle.tp_replan.proofs.FateFacts.{fate-at}
use Rattle.tp_replan.proofs.MergeFacts.{copy-there, copy-told-at, none-left, plan-there, plan-told-at}
use Rattle.tp_replan.proofs.job_break.tell_by_copy.Goals as goal
use Rattle.tp_replan.proofs.job_break.tell_by_copy.Goals.{then-is_copy_next+in_ok-tell_drop, else-is_copy_next+in_ok-tell_fate}

pub bounds-fates-at : goal.bounds-fates-at
bounds-fates-at c =
    let there = plan-there c.args.copies.now c.args.state.now.schedule.plans c.loop-turn.next c.loop-turn.at c.if-is_copy_next.ensures c.loop-turn.invariant.next
    (omega (arith, c.loop-turn-test.true, c.loop-turn.invariant.turn, c.len.ensures.len)) in
    omega (arith, c.requires.each)

pub plan_at-plan-requires : goal.plan_at-plan-requires
plan_at-plan-requires c =
    plan-there c.args.copies.now c.args.state.now.schedule.plans c.loop-turn.next c.loop-turn.at c.if-is_copy_next.ensures c.loop-turn.invariant.next
    (omega (arith, c.loop-turn-test.true, c.loop-turn.invariant.turn, c.len.ensures.len))

pub tell_fate-requires-clause-known : goal.tell_fate-requires-clause-known
tell_fate-requires-clause-known c =
    All-at (IsKnown c.args.state.now.lines.jobs) c.args.state.now.schedule.plans c.loop-turn.at c.plan_at-plan.result.now c.requires.known c.plan_at-plan.ensures.plan

pub tell_fate-requires-clause-next : goal.tell_fate-requires-clause-next
tell_fate-requires-clause-next c =
    All-at (λ p. HasNextCopy p.sheet) c.args.state.now.schedule.plans c.loop-turn.at c.plan_at-plan.result.now c.requires.next c.plan_at-plan.ensures.plan

pub overflow_add-at : goal.overflow_add-at
overflow_add-at c =
    let there = plan-there c.args.copies.now c.args.state.now.schedule.plans c.loop-turn.next c.loop-turn.at c.if-is_copy_next.ensures c.loop-turn.invariant.next
    (omega (arith, c.loop-turn-test.true, c.loop-turn.invariant.turn, c.len.ensures.len)) in
    omega (arith, c.ordered.ensures.fits)

pub bounds-copies-next : goal.bounds-copies-next
bounds-copies-next c = copy-there c.args.copies.now (drop c.loop-turn.at c.args.state.now.schedule.plans) c.loop-turn.next c.if-is_copy_next.ensures

pub tell_drop-requires : goal.tell_drop-requires
tell_drop-requires c =
    let copies = c.args.copies.now in
    let n = c.loop-turn.next in
    let there = found copies n (copy-there copies (drop c.loop-turn.at c.args.state.now.schedule.plans) n c.if-is_copy_next.ensures) in
    let none : SheetId = record { job = 0; number = 0; copy = 0 } in
    let known = λ (x : SheetId). x.job < length c.args.state.now.lines.jobs in
    subst known (sym (get_or_from_slice_get copies n there.0 none there.1)) (All-at known copies n there.0 c.requires.of_jobs there.1)

pub loop-turn-preserved : goal.loop-turn-preserved
loop-turn-preserved c =
    let copies = c.args.copies.now in
    let plans = c.args.state.now.schedule.plans in
    let n = c.loop-turn.next in
    let a = c.loop-turn.at in
    let jobs = c.args.state.now.lines.jobs in
    let now = c.args.state.now.moment in
    let inv = c.loop-turn.invariant in
    let earlier = c.ordered.ensures.ordered.in_order in
    elim c.if-is_copy_next.branch [
      | then-is_copy_next+in_ok-tell_drop w ↦ (
          let low = copy-there copies (drop a plans) n w.if-is_copy_next.ensures in
          let there = found copies n low in
          let none : SheetId = record { job = 0; number = 0; copy = 0 } in
          let told : w.tell_drop.new.notes.items ≡ c.loop-turn.notes.items ++ Drop (label jobs there.0) ∷ [] =
          w.in_ok-tell_drop.ensures ∙ ap (λ (x : SheetId). c.loop-turn.notes.items ++ Drop (label jobs x) ∷ []) (get_or_from_slice_get copies n there.0 none there.1) in
          let next-is = w.next-is in
          let at-is = w.at-is in
          record {
            turn = omega (arith, inv.turn);
            next = omega arith;
            at = omega (arith, inv.at);
            told = λ rule e. rw (w.notes-is, w.next-is, w.at-is) (
                copy-told-at jobs now rule copies plans n a there.0 c.loop-turn.notes.items w.tell_drop.new.notes.items _ c.requires.in_order earlier there.1 w.if-is_copy_next.ensures told (inv.told rule e));
          })
      | else-is_copy_next+in_ok-tell_fate w ↦ (
          let p = w.plan_at-plan.result.now in
          let low = plan-there copies plans n a w.if-is_copy_next.ensures inv.next (omega (arith, c.loop-turn-test.true, inv.turn, c.len.ensures.len)) in
          let next-is = w.next-is in
          let at-is = w.at-is in
          record {
            turn = omega (arith, inv.turn);
            next = omega (arith, inv.next);
            at = omega arith;
            told = λ rule e. rw (w.notes-is, w.next-is, w.at-is) (
                plan-told-at jobs now rule copies plans n a p c.loop-turn.notes.items w.tell_fate.new.notes.items _ c.requires.in_order earlier w.plan_at-plan.ensures.plan w.if-is_copy_next.ensures
                (w.in_ok-tell_fate.ensures ∙ ap (λ f. c.loop-turn.notes.items ++ told_of jobs now p f) (fate-at rule plans c.args.fates.now e a p Stays w.plan_at-plan.ensures.plan))
                (inv.told rule e));
          })
    ]

pub returns : goal.returns
returns c = λ rule e.
    let inv = c.loop-turn.invariant in
    let h = c.loop-turn-test.false in
    let all = none-left c.args.copies.now c.loop-turn.next (omega (arith, inv.turn, inv.next, inv.at, c.len.ensures.len)) in
    let all' = none-left c.args.state.now.schedule.plans c.loop-turn.at (omega (arith, inv.turn, inv.next, inv.at, c.len.ensures.len)) in
    sym (append-nil c.loop-turn.notes.items)
    ∙ sym (λ k. c.loop-turn.notes.items ++ told_by_copy c.args.state.now.lines.jobs c.args.state.now.moment rule (all k) (all' k))
    ∙ inv.told rule e
