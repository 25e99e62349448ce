-- The parts fit one another, and nothing is kept of a mark.
use Rattle.std.proofs.Common.{◌≡◌, [], length, not, vec_len, ap, sym, arith, rules}
use Rattle.std.proofs.lemmas.List.Sums.{count_by-le-length}
use Rattle.tp_jobs.proofs.GivenJobs.{keeps-none}
use Rattle.tp_jobs.proofs.KeptFacts.{same-keeps}
use Rattle.tp_jobs.specs.Backlogs.{names_of}
use Rattle.tp_jobs.specs.LineInvariants.{Keeps, jobs_then}
use Rattle.tp_jobs.specs.declared.parts.Job.{Job}
use Rattle.tp_jobs.proofs.lines.Lines.rebuild.Goals as goal

pub invariant_of-result : goal.invariant_of-result
invariant_of-result c =
    let names = c.in_ok-names_of.field-0.keys in
    let jobs : c.in_ok-from_slice.field-0.items ≡ c.args.jobs.now = search rules in
    let waiting : c.from_vec.result.items ≡ c.args.waiting.now = search rules in
    let broken : c.reserve.new.self.items ≡ [] = search rules in
    let none : c.new.result.items ≡ [] = search rules in
    let slice : c.as_slice-jobs.result.now ≡ c.args.jobs.now = search rules in
    let many : vec_len c.reserve.new.self ≡ length c.reserve.new.self.items = search rules in
    let of-names : names ≡ names_of c.args.jobs.now = search rules in
    let keeps : Keeps names c.args.jobs.now c.args.waiting.now =
    record { of_names = of-names; distinct = c.in_ok-names_of.ensures.distinct; in_order = c.requires.in_order; of_jobs = c.requires.of_jobs; few_jobs = c.requires.few_jobs; few_waiting = c.requires.few_waiting } in
    record {
      now = same-keeps _ _ _ _ _ _ (λ k. names) (sym jobs) (sym waiting) keeps;
      then = same-keeps _ _ _ _ _ _ (λ k. []) (λ k. jobs_then 0 (sym broken k) c.in_ok-from_slice.field-0.items) (sym none) keeps-none;
      came = omega arith;
      to_break = omega (arith, many, ap length broken, ap length slice, count_by-le-length (λ (j : Job). not j.broken) c.in_ok-from_slice.field-0.items, ap length jobs, c.in_ok-reserve.ensures.ok);
      to_wait = omega (arith, ap length none);
    }
