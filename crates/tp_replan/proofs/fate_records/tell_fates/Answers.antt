-- The copy at the place is reported of.
use Rattle.std.proofs.Common.{◌++◌, ◌∙◌, List, ap, arith, flat_map}
use Rattle.std.proofs.lemmas.List.{take_all}
use Rattle.tp_base.proofs.SliceFacts.{All-at}
use Rattle.tp_schedule.specs.declared.parts.Plan.{Plan}
use Rattle.tp_event_rules.specs.Fates.{told_of}
use Rattle.tp_event_rules.specs.LiveStates.{seen}
use Rattle.tp_event_rules.specs.Seen.{HasNextCopy}
use Rattle.tp_replan.proofs.FateFacts.{told-next, fate-at}
use Rattle.tp_replan.specs.Meanings.{IsKnown}
use Rattle.tp_replan.specs.declared.fate.Fate.TheVariants.{Stays}
use Rattle.tp_replan.proofs.fate_records.tell_fates.Goals as goal

pub loop-at-preserved : goal.loop-at-preserved
loop-at-preserved c = λ rule e.
    let s = seen c.args.state.now in
    let p = c.plan_at-plan.result.now in
    let at = c.plan_at-plan.ensures.plan in
    let its = fate-at rule s.plans c.args.fates.now e c.loop-at.at p Stays at in
    told-next (λ q. told_of s.jobs s.now q (rule q)) s.plans c.loop-at.at p _ c.args.notes.now.items c.loop-at.notes.items
    c.tell_fate.new.notes.items at (ap (told_of s.jobs s.now p) its) (c.loop-at.invariant rule e) c.in_ok-tell_fate.ensures

pub bounds-fates-at : goal.bounds-fates-at
bounds-fates-at c = omega (arith, c.loop-at-test.true, c.len-at-end.ensures.len, c.requires.each)

pub tell_fate-requires : goal.tell_fate-requires
tell_fate-requires c =
    let plans = c.args.state.now.schedule.plans in
    let p = c.plan_at-plan.result.now in
    let at = c.plan_at-plan.ensures.plan in
    record {
      formed = c.plan_at-plan.ensures.formed;
      known = All-at (IsKnown c.args.state.now.lines.jobs) plans c.loop-at.at p c.requires.known at;
      next = All-at (λ (q : Plan). HasNextCopy q.sheet) plans c.loop-at.at p c.requires.next at;
    }

pub returns : goal.returns
returns c = λ rule e.
    let s = seen c.args.state.now in
    c.loop-at.invariant rule e
    ∙ ap (λ (ps : List Plan). c.args.notes.now.items ++ flat_map (λ q. told_of s.jobs s.now q (rule q)) ps) (take_all c.loop-at.at s.plans (omega (arith, c.loop-at-test.false, c.len-at-end.ensures.len)))
