-- Each job that was passed has a name, so that all have.
use Rattle.std.proofs.Common.{◌≡◌, inl, inr, arith, ◌∙◌, subst, slice_index_or}
use Rattle.std.proofs.lemmas.Bool.{cases_lt}
use Rattle.std.proofs.lemmas.List.{get_or_default}
use Rattle.tp_jobs.specs.declared.parts.Job.{Job}
use Rattle.tp_words.specs.Fields.{IsName}
use Rattle.tp_snapshot.proofs.standing_rules.jobs_law.Goals as goal

pub loop-job-preserved : goal.loop-job-preserved
loop-job-preserved c k d within = elim (cases_lt k c.loop-job.job-index) [
  | inl earlier ↦ c.loop-job.invariant k d earlier
  | inr above ↦
      let same : c.loop-job.job-index ≡ k = omega (arith, within, above) in
      subst (λ n. IsName (slice_index_or c.args.jobs.now n d).name) same
      (subst (λ (j : Job). IsName j.name) (c.job-item.is ∙ get_or_default c.args.jobs.now c.loop-job.job-index c.job-item.result d c.loop-job-test.true) c.job_law.ensures)
]

pub returns : goal.returns
returns c k d within = c.loop-job.invariant k d (omega (arith, within, c.loop-job-test.false))
