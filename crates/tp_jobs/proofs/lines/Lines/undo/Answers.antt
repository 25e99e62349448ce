-- What is left are the parts of the mark.
use Rattle.std.proofs.Common.{◌≡◌, ◌∙◌, [], length, take, vec_len, ap, refl, sym, arith, rules}
use Rattle.std.proofs.lemmas.List.{length-take-le, take-take}
use Rattle.tp_jobs.proofs.KeptFacts.{same-keeps}
use Rattle.tp_jobs.proofs.MarkFacts.{count-then, then-then}
use Rattle.tp_jobs.proofs.WholeFacts.{length-all_whole}
use Rattle.tp_jobs.specs.LineInvariants.{jobs_then, mark_all_whole, whole_count}
use Rattle.tp_jobs.proofs.lines.Lines.undo.Goals as goal

pub invariant_of-self : goal.invariant_of-self
invariant_of-self c =
    let lines = c.self.inside in
    let kept = c.self.invariant in
    let came = lines.kept_jobs in
    let names = c.truncate.ensures.keys in
    let jobs : c.make_whole.new.jobs.items ≡ jobs_then came lines.broken.items lines.jobs.items =
    c.make_whole.ensures.jobs ∙ (λ k. mark_all_whole (c.as_slice.ensures.value k) (c.truncate-2.ensures.items k)) in
    let waiting : c.wait_again.new.waiting.items ≡ lines.kept_waiting.items = search rules in
    let none : c.clear.new.self.items ≡ [] = c.clear.ensures.items in
    let then-names = take-take came came lines.names.keys (omega arith) in
    let many = ap length jobs ∙ length-all_whole lines.broken.items (take came lines.jobs.items) ∙ length-take-le came lines.jobs.items kept.came in
    let broke : length lines.broken.items ≡ vec_len lines.broken = search rules in
    record {
      now = same-keeps _ _ _ _ _ _ (sym names) (sym jobs) (sym waiting) kept.then;
      then =
          same-keeps _ _ _ _ _ _ (sym (ap (take came) names ∙ then-names))
          (sym ((λ k. jobs_then came (none k) (jobs k)) ∙ then-then came lines.broken.items lines.jobs.items kept.came)) refl kept.then;
      came = omega arith;
      to_break = omega (arith, c.clear.ensures.len, c.clear.ensures.capacity, kept.to_break, ap whole_count jobs, count-then came lines.broken.items lines.jobs.items);
      to_wait = omega (arith, kept.to_wait, c.wait_again.ensures.room);
    }
