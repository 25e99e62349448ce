-- The copy and the plan at their places are compared.
use Rattle.std.proofs.Common.{◌∙◌, not, ap, sym, arith}
use Rattle.tp_base.proofs.SliceFacts.{found}
use Rattle.std.proofs.lemmas.Option.{get_or_from_slice_get}
use Rattle.tp_schedule.specs.Plans.{is_before}
use Rattle.tp_replan.specs.Meanings.{is_copy_next}
use Rattle.tp_replan.proofs.LeftFacts.{drop_from}
use Rattle.tp_replan.proofs.MergeFacts.{none-left}
use Rattle.tp_replan.proofs.job_break.is_copy_next.Goals as goal

pub returns-then-at-len : goal.returns-then-at-len
returns-then-at-len c =
    let copies = c.args.copies.now in
    let there = found copies c.args.next (omega (arith, c.if-next-copies.false)) in
    sym ((λ k. is_copy_next (drop_from copies c.args.next there.0 there.1 k) (none-left c.args.schedule.now.plans c.args.at (omega (arith, c.if-at-len.true, c.len.ensures.len)) k)))

pub returns : goal.returns
returns c =
    let copies = c.args.copies.now in
    let there = found copies c.args.next (omega (arith, c.if-next-copies.false)) in
    let plans = c.args.schedule.now.plans in
    let p = c.plan_at.result.now in
    ap not (c.is_earlier.ensures ∙ ap (is_before p.sheet) (get_or_from_slice_get copies c.args.next there.0 _ there.1))
    ∙ sym ((λ k. is_copy_next (drop_from copies c.args.next there.0 there.1 k) (drop_from plans c.args.at p c.plan_at.ensures.plan k)))
