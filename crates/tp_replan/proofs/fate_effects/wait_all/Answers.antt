-- One copy after another has its turn to wait.
use Rattle.std.proofs.Common.{◌≡◌, ◌+◌, ◌∙◌, ap, arith, sym, subst, drop, get_or, length}
use Rattle.std.proofs.lemmas.List.{length-append}
use Rattle.tp_jobs.specs.Backlogs.{Backlog}
use Rattle.tp_event_rules.specs.Fates.{waits_for}
use Rattle.tp_event_rules.specs.Lines.{put_all_waiting}
use Rattle.tp_replan.specs.Meanings.{CanAllWait, meant, waits_in}
use Rattle.tp_replan.specs.declared.fate.Fate.TheVariants.{Stays}
use Rattle.tp_replan.proofs.FateFacts.{can-first, can-later, length-put_all, put-append, waits-next}
use Rattle.tp_replan.proofs.fate_effects.wait_all.Goals as goal

pub wait_one-requires-clause-can_wait : goal.wait_one-requires-clause-can_wait
wait_one-requires-clause-can_wait c =
    let plans = c.args.schedule.now.plans in
    let fates = c.args.fates.now in
    let at = c.loop-at.at in
    let p = c.plan_at.result.now in
    let waiting = c.loop-at.lines.waiting in
    can-first waiting (waits_for p (meant (get_or fates at Stays))) (waits_in (drop (at + 1) plans) (drop (at + 1) fates))
    (subst (CanAllWait waiting) (waits-next plans fates c.requires.each at p Stays c.plan_at.ensures.plan) c.loop-at.invariant.can_wait)

pub loop-at-preserved : goal.loop-at-preserved
loop-at-preserved c =
    let plans = c.args.schedule.now.plans in
    let fates = c.args.fates.now in
    let at = c.loop-at.at in
    let p = c.plan_at.result.now in
    let waiting = c.loop-at.lines.waiting in
    let its = waits_for p (meant (get_or fates at Stays)) in
    let rest = waits_in (drop (at + 1) plans) (drop (at + 1) fates) in
    let next = waits-next plans fates c.requires.each at p Stays c.plan_at.ensures.plan in
    let waits : c.wait_one.new.lines.waiting ≡ put_all_waiting waiting its = ap (λ (b : Backlog). b.waiting) c.in_ok-wait_one.ensures.waits in
    record {
      jobs = ap (λ (b : Backlog). b.jobs) c.in_ok-wait_one.ensures.waits ∙ c.loop-at.invariant.jobs;
      kept = ap (λ (b : Backlog). b.kept) c.in_ok-wait_one.ensures.waits ∙ c.loop-at.invariant.kept;
      room = let put = length-put_all waiting its in
          let both = length-append its rest in
          let all = ap length next in
          let new = ap length waits in
          omega (arith, c.loop-at.invariant.room);
      can_wait = subst (λ ws. CanAllWait ws rest) (sym waits) (can-later waiting its rest (subst (CanAllWait waiting) next c.loop-at.invariant.can_wait));
      waiting = ap (λ ws. put_all_waiting ws rest) waits ∙ sym (put-append waiting its rest) ∙ ap (put_all_waiting waiting) (sym next) ∙ c.loop-at.invariant.waiting;
    }
