-- The copies have their turns in their order.
use Rattle.std.proofs.Common.{◌≡◌, ◌∙◌, ◌++◌, ◌∷◌, ◌==◌, [], Some, cond, ap, sym, arith, filter, length, map}
use Rattle.tp_base.proofs.SliceFacts.{found}
use Rattle.tp_jobs.specs.Backlogs.{Backlog, unmarked}
use Rattle.tp_jobs.specs.NextTry.{next_to_try}
use Rattle.tp_jobs.specs.WaitingCopies.{without_waiting}
use Rattle.tp_jobs.specs.declared.parts.WaitingCopy.{WaitingCopy}
use Rattle.tp_event_rules.specs.Lines.{is_of_job}
use Rattle.tp_schedule.specs.declared.parts.SheetId.{SheetId}
use Rattle.tp_replan.proofs.TakenCopies.{last-next, left-next, left-whole, next-at, take-whole, taken-next}
use Rattle.tp_replan.proofs.job_break.take_job.Goals as goal
use Rattle.tp_replan.proofs.job_break.take_job.Goals.{in-Some+in_ok-take_one, in_default}

pub loop-turn-preserved : goal.loop-turn-preserved
loop-turn-preserved c =
    let ws = c.args.lines.now.waiting in
    let jobs = c.loop-turn.lines.jobs in
    let job = c.args.job in
    let i = c.loop-turn._turn in
    let there = found ws i (omega (arith, c.loop-turn-test.true, c.waiting-turn-end.ensures)) in
    let w = there.0 in
    let inv = c.loop-turn.invariant in
    let marks = c.none-none.result in
    let tried : next_to_try c.loop-turn.lines c.loop-turn.last marks ≡ Some w.sheet =
    (λ k. next_to_try (unmarked jobs (inv.waiting k)) (inv.last k) marks) ∙ next-at jobs marks job i ws w c.kept.ensures.in_order c.none-none.ensures there.1 in
    elim c.match-next_to_try.branch [
      | in-Some+in_ok-take_one b ↦ (
          let copy = b.in-Some.copy in
          let is : Some copy ≡ Some w.sheet = b.in-Some.ensures.next ∙ tried in
          let same : copy ≡ w.sheet = cc in
          record {
            jobs = rw b.lines-is (ap (λ (l : Backlog). l.jobs) b.in_ok-take_one.ensures.lines ∙ inv.jobs);
            waiting = rw b.lines-is (ap (λ (l : Backlog). l.waiting) b.in_ok-take_one.ensures.lines
                ∙ (λ k. cond ((same k).job == job) (without_waiting (same k) (inv.waiting k)) (inv.waiting k))
                ∙ left-next job i ws w c.kept.ensures.in_order there.1);
            kept = rw b.lines-is (ap (λ (l : Backlog). l.kept) b.in_ok-take_one.ensures.lines ∙ inv.kept);
            copies = rw b.copies-is (b.in_ok-take_one.ensures.copies
                ∙ ap (λ (s : SheetId). c.loop-turn.copies.items ++ cond (s.job == job) (s ∷ []) []) same
                ∙ taken-next job i ws w c.loop-turn.copies.items there.1 inv.copies);
            last = rw b.last-is (is ∙ sym (last-next i ws w there.1));
          })
      | in_default b ↦ (let none = b.in_default.ensures.next ∙ tried in absurd cc)
    ]

pub returns-clause-copies : goal.returns-clause-copies
returns-clause-copies c =
    let ws = c.args.lines.now.waiting in
    let end : c.loop-turn._turn ≡ length ws = omega (arith, c.loop-turn-test.false, c.loop-turn.auto._turn-end, c.waiting-turn-end.ensures) in
    c.loop-turn.invariant.copies ∙ ap (λ vs. map (λ (v : WaitingCopy). v.sheet) (filter (is_of_job c.args.job) vs)) (take-whole ws c.loop-turn._turn end)

pub returns-clause-lines : goal.returns-clause-lines
returns-clause-lines c =
    let ws = c.args.lines.now.waiting in
    let end : c.loop-turn._turn ≡ length ws = omega (arith, c.loop-turn-test.false, c.loop-turn.auto._turn-end, c.waiting-turn-end.ensures) in
    let waiting = c.loop-turn.invariant.waiting ∙ left-whole c.args.job c.loop-turn._turn ws end in
    λ k. record { jobs = c.loop-turn.invariant.jobs k; waiting = waiting k; kept = c.loop-turn.invariant.kept k }
