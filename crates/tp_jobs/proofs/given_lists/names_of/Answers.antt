-- One more name is put in, which is a new one.
use Rattle.std.proofs.Common.{◌≡◌, ◌∙◌, ◌++◌, ◌∷◌, [], cond, get_or, ap, arith, rules}
use Rattle.std.specs.List.{list_any}
use Rattle.std.specs.Str.{bytes_eq}
use Rattle.tp_jobs.proofs.GivenJobs.{next-name}
use Rattle.tp_jobs.specs.declared.parts.Job.{Job}
use Rattle.tp_jobs.proofs.given_lists.names_of.Goals as goal

pub loop-job-preserved : goal.loop-job-preserved
loop-job-preserved c =
    let names = c.loop-job.names.keys in
    let job : Job = c.job-item.result in
    let is : job ≡ get_or c.args.jobs.now c.loop-job.job-index job = search rules in
    record {
      names =
          c.in_ok-insert.ensures.keys
          ∙ ap (λ (j : Job). cond (list_any (bytes_eq j.name) names) names (names ++ j.name ∷ [])) is
          ∙ next-name c.args.jobs.now c.loop-job.job-index job names (omega (arith, c.loop-job-test.true)) c.requires c.loop-job.invariant.names;
      distinct = c.in_ok-insert.ensures.unique;
    }
