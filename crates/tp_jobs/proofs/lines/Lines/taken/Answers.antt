-- The copy that was found is taken out.
use Rattle.std.proofs.Common.{◌≡◌, ◌∙◌, remove, sym, subst, arith, rules}
use Rattle.tp_jobs.proofs.KeptFacts.{keeps-without}
use Rattle.tp_jobs.specs.LineInvariants.{Keeps}
use Rattle.tp_jobs.specs.WaitingCopies.{without_waiting}
use Rattle.tp_jobs.proofs.lines.Lines.taken.Goals as goal

pub invariant_of-self : goal.invariant_of-self
invariant_of-self c =
    let lines = c.self.inside in
    let kept = c.self.invariant in
    let removed : c.remove.new.self.items ≡ remove lines.waiting.items c.place_of-at.result = search rules in
    let waiting : c.remove.new.self.items ≡ without_waiting c.args.sheet lines.waiting.items = removed ∙ c.place_of-at.ensures.without in
    record {
      now = subst (Keeps lines.names.keys lines.jobs.items) (sym waiting) (keeps-without lines.names.keys lines.jobs.items lines.waiting.items c.args.sheet kept.now);
      then = kept.then;
      came = kept.came;
      to_break = kept.to_break;
      to_wait = omega (arith, kept.to_wait, c.remove.ensures.capacity);
    }
