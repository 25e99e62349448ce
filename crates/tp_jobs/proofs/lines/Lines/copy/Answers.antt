-- The copy has room as well.
use Rattle.std.proofs.Common.{◌≡◌, length, not, vec_len, take, ap, sym, arith, rules}
use Rattle.std.proofs.lemmas.List.Sums.{count_by-le-length}
use Rattle.tp_jobs.proofs.KeptFacts.{same-keeps}
use Rattle.tp_jobs.specs.LineInvariants.{jobs_then}
use Rattle.tp_jobs.specs.declared.parts.Job.{Job}
use Rattle.tp_jobs.proofs.lines.Lines.copy.Goals as goal

pub invariant_of-result : goal.invariant_of-result
invariant_of-result c =
    let lines = c.self.inside in
    let kept = c.self.invariant in
    let jobs : c.in_ok-from_slice.field-0.items ≡ lines.jobs.items = search rules in
    let names : c.in_ok-copy_names.field-0.keys ≡ lines.names.keys = c.in_ok-copy_names.ensures in
    let waiting : c.in_ok-waiting.waiting.items ≡ lines.waiting.items = c.in_ok-waiting.ensures.waits in
    let waited : c.in_ok-from_slice-2.field-0.items ≡ lines.kept_waiting.items = search rules in
    let broken : c.in_ok-broken.broken.items ≡ lines.broken.items = search rules in
    let jobs-len : vec_len lines.jobs ≡ length lines.jobs.items = search rules in
    let waited-len : vec_len lines.kept_waiting ≡ length lines.kept_waiting.items = search rules in
    record {
      now = same-keeps _ _ _ _ _ _ (sym names) (sym jobs) (sym waiting) kept.now;
      then = same-keeps _ _ _ _ _ _ (ap (take lines.kept_jobs) (sym names)) (λ k. jobs_then lines.kept_jobs (sym broken k) (sym jobs k)) (sym waited) kept.then;
      came = omega (arith, kept.came, ap length jobs);
      to_break = omega (arith, count_by-le-length (λ (j : Job). not j.broken) c.in_ok-from_slice.field-0.items, ap length jobs, c.in_ok-broken.ensures.room);
      to_wait = omega (arith, ap length waited, c.in_ok-waiting.ensures.room);
    }
