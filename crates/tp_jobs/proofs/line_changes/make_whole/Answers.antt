-- The job at the place is written, whole.
use Rattle.std.proofs.Common.{◌≡◌, ◌∙◌, ap, sym, get_or, length, vec_len, Vec, Global, arith, rules}
use Rattle.tp_jobs.proofs.WholeFacts.{whole-beyond, whole-next, whole-written}
use Rattle.tp_jobs.specs.LineInvariants.{mark_all_whole, mark_whole}
use Rattle.tp_jobs.specs.declared.parts.Job.{Job}
use Rattle.tp_jobs.proofs.line_changes.make_whole.Goals as goal
use Rattle.tp_jobs.proofs.line_changes.make_whole.Goals.{then-place-len, else-place-len}

pub loop-job-preserved : goal.loop-job-preserved
loop-job-preserved c =
    let jobs = c.loop-job.jobs.items in
    let job = get_or c.args.broken.now c.loop-job.job-index 0 in
    let many : length jobs ≡ vec_len c.loop-job.jobs = search rules in
    let is : c.if-place-len.jobs.items ≡ mark_whole job jobs = elim c.if-place-len.branch [
      | then-place-len w ↦
          ap (λ (v : Vec Job Global). v.items) w.jobs-is
          ∙ whole-written jobs job w.index_mut.result.now (let within = w.if-place-len.true in omega arith) w.index_mut.ensures.value
      | else-place-len w ↦
          ap (λ (v : Vec Job Global). v.items) w.jobs-is
          ∙ sym (whole-beyond jobs job (let beyond = w.if-place-len.false in omega arith))
    ] in
    whole-next c.args.broken.now c.loop-job.job-index jobs c.if-place-len.jobs.items (mark_all_whole c.args.broken.now c.args.jobs.now.items) c.loop-job-test.true is c.loop-job.invariant
