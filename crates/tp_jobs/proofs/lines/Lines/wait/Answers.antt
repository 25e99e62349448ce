-- The copy is put in its place.
use Rattle.std.proofs.Common.{◌≡◌, ap, sym, subst, insert, ◌∙◌, arith}
use Rattle.tp_jobs.proofs.PlaceFacts.{insert-put_waiting}
use Rattle.tp_jobs.proofs.KeptFacts.{keeps-put}
use Rattle.tp_jobs.specs.Backlogs.{Backlog}
use Rattle.tp_jobs.specs.LineInvariants.{Keeps, jobs_then}
use Rattle.tp_jobs.specs.WaitingCopies.{put_waiting}
use Rattle.tp_jobs.proofs.lines.Lines.wait.Goals as goal

put : (c : goal.In_ok-insert) → c.insert.new.self.items ≡ put_waiting c.self.inside.waiting.items (record { sheet = c.args.sheet; want = c.args.want })
put c =
    c.in_ok-insert.ensures.items
    ∙ ap (λ at. insert c.self.inside.waiting.items at (record { sheet = c.args.sheet; want = c.args.want })) c.place_behind-at.ensures.place
    ∙ insert-put_waiting (record { sheet = c.args.sheet; want = c.args.want }) c.self.inside.waiting.items

pub invariant_of-self-2 : goal.invariant_of-self-2
invariant_of-self-2 c =
    let kept = c.self.invariant in
    record {
      now =
          subst (Keeps c.self.inside.names.keys c.self.inside.jobs.items) (sym (put c))
          (keeps-put c.self.inside.names.keys c.self.inside.jobs.items c.self.inside.waiting.items (record { sheet = c.args.sheet; want = c.args.want }) kept.now
          (rw (← c.self.view_is) at c.requires.job) (rw (← c.self.view_is) at c.requires.new_copy) (rw (← c.self.view_is) at c.requires.room));
      then = kept.then;
      came = kept.came;
      to_break = kept.to_break;
      to_wait = omega (arith, kept.to_wait, c.in_ok-insert.ensures.capacity);
    }

pub returns-clause-waits : goal.returns-clause-waits
returns-clause-waits c =
    let lines = c.self.inside in
    (λ k. record { jobs = lines.jobs.items; waiting = put c k; kept = record { jobs = jobs_then lines.kept_jobs lines.broken.items lines.jobs.items; waiting = lines.kept_waiting.items } })
    ∙ ap (λ (b : Backlog). record b { waiting = put_waiting b.waiting (record { sheet = c.args.sheet; want = c.args.want }) }) c.self.view_is
