use Rattle.std.proofs.Common.{◌≡◌, true, arith}
use Rattle.std.proofs.lemmas.Grind.{common_steps}
use Rattle.std.specs.List.{list_any}
use Rattle.std.specs.Str.{bytes_eq}
use Rattle.tp_snapshot.proofs.Names.{name-twice, names-all, names-apart, there-by}
use Rattle.tp_snapshot.proofs.job_names.names_of.Goals as goal

pub returns-then-not-branch-clause-none : goal.returns-then-not-branch-clause-none
returns-then-not-branch-clause-none c =
    let there : list_any (bytes_eq c.job-item.result.name) c.loop-job.names.keys ≡ true =
    there-by (list_any (bytes_eq c.job-item.result.name) c.loop-job.names.keys) c.in_ok-insert.field-0 c.in_ok-insert.ensures.added c.if-not-branch.true in
    λ _. name-twice c.args.jobs.now c.loop-job.job-index c.job-item.result c.loop-job.names.keys c.loop-job-test.true c.job-item.is there c.loop-job.invariant.names

pub returns-clause-differ : goal.returns-clause-differ
returns-clause-differ c = names-apart c.args.jobs.now c.loop-job.names.keys (names-all c.args.jobs.now c.loop-job.job-index c.loop-job.names.keys c.loop-job-test.false c.loop-job.invariant.names) c.loop-job.invariant.distinct

pub loop-job-preserved : goal.loop-job-preserved
loop-job-preserved c = record {
  names = grind (arith, common_steps);
  distinct = grind (arith, common_steps);
}
