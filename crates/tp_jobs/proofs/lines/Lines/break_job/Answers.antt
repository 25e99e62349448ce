-- The job at the place is broken, and remembered.
use Rattle.std.proofs.Common.{◌∙◌, length, take, ap, sym, subst, arith}
use Rattle.tp_jobs.proofs.BrokenFacts.{keeps-broken, length-broken}
use Rattle.tp_jobs.specs.Backlogs.{Backlog, mark_broken}
use Rattle.tp_jobs.specs.LineInvariants.{Keeps}
use Rattle.tp_jobs.proofs.lines.Lines.break_job.Goals as goal

pub invariant_of-self : goal.invariant_of-self
invariant_of-self c =
    let lines = c.self.inside in
    let kept = c.self.invariant in
    let done = c.break_in.ensures in
    record {
      now = subst (λ jobs. Keeps lines.names.keys jobs lines.waiting.items) (sym done.jobs) (keeps-broken lines.names.keys lines.jobs.items lines.waiting.items c.args.job kept.now);
      then = subst (λ jobs. Keeps (take lines.kept_jobs lines.names.keys) jobs lines.kept_waiting.items) (sym (done.kept lines.kept_jobs)) kept.then;
      came = omega (arith, kept.came, ap length done.jobs, length-broken c.args.job lines.jobs.items);
      to_break = done.room;
      to_wait = kept.to_wait;
    }

pub returns : goal.returns
returns c =
    let lines = c.self.inside in
    (λ k. record {
      jobs = c.break_in.ensures.jobs k;
      waiting = lines.waiting.items;
      kept = record { jobs = c.break_in.ensures.kept lines.kept_jobs k; waiting = lines.kept_waiting.items };
    })
    ∙ ap (λ (b : Backlog). record b { jobs = mark_broken c.args.job b.jobs }) c.self.view_is
