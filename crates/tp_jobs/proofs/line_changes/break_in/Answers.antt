-- The job at the place is written, broken, where it wasn't.
use Rattle.std.proofs.Common.{◌∙◌, ap, sym}
use Rattle.tp_jobs.proofs.BrokenFacts.{broken-written}
use Rattle.tp_jobs.proofs.WholeFacts.{broken-twice, then-broken}
use Rattle.tp_jobs.specs.LineInvariants.{jobs_then}
use Rattle.tp_jobs.specs.declared.parts.Job.{Job}
use Rattle.tp_jobs.proofs.line_changes.break_in.Goals as goal

pub returns-then-not-index-clause-jobs : goal.returns-then-not-index-clause-jobs
returns-then-not-index-clause-jobs c = broken-written c.args.jobs.now.items c.args.job c.index_mut.result.now c.requires.job c.index_mut.ensures.value

pub returns-then-not-index-clause-kept : goal.returns-then-not-index-clause-kept
returns-then-not-index-clause-kept c came =
    let jobs = c.args.jobs.now.items in
    (λ k. jobs_then came (c.push_reserved.ensures.items k) (broken-written jobs c.args.job c.index_mut.result.now c.requires.job c.index_mut.ensures.value k))
    ∙ then-broken came c.args.job c.args.broken.now.items jobs c.index.result.now c.requires.job (ap (λ (j : Job). j.broken) (sym c.index.ensures) ∙ c.if-not-index.true)

pub returns-else-not-index-clause-jobs : goal.returns-else-not-index-clause-jobs
returns-else-not-index-clause-jobs c =
    broken-twice c.args.job c.args.jobs.now.items c.index.result.now c.requires.job (ap (λ (j : Job). j.broken) (sym c.index.ensures) ∙ c.if-not-index.false)
