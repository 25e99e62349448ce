-- The new job's name is the last, and its copies wait behind all others.
use Rattle.std.proofs.Common.{◌≡◌, ◌+◌, ◌<◌, ◌≤◌, ◌^◌, ◌++◌, ◌∷◌, [], length, false, not, refl, ap, sym, take, ◌∙◌, arith, rules}
use Rattle.std.proofs.lemmas.List.{length-append}
use Rattle.std.proofs.lemmas.List.Sums.{count_by-le-length}
use Rattle.tp_jobs.proofs.FirstCopies.{length-sheets_of}
use Rattle.tp_jobs.proofs.KeptFacts.{keeps-job, same-keeps}
use Rattle.tp_jobs.proofs.MarkFacts.{keeps-then_job, with-job}
use Rattle.tp_jobs.proofs.RefusalFacts.{accepted}
use Rattle.tp_jobs.specs.Backlogs.{Backlog}
use Rattle.tp_jobs.specs.LineInvariants.{jobs_then, whole_count}
use Rattle.tp_jobs.specs.JobRefusals.{sheet_count, tray_named}
use Rattle.tp_jobs.specs.WaitingCopies.{first_copies, given_tray, new_job, sheets_of, with_job}
use Rattle.tp_jobs.specs.declared.parts.Job.{Job}
use Rattle.tp_jobs.proofs.lines.Lines.add.Goals as goal

pub put_job-requires : goal.put_job-requires
put_job-requires c =
    let ok = accepted c.args.machine.now c.args.self.now.jobs (length c.args.self.now.waiting) c.args.name c.args.tray c.args.media c.args.groups.now c.in_ok-tray.ensures.refused in
    rw c.self.invariant.now.of_names (rw (← c.self.view_is) at ok.new)

pub invariant_of-self : goal.invariant_of-self
invariant_of-self c =
    let kept = c.self.invariant in
    let names = c.in_err-put_job.ensures.same_names in
    let jobs = c.in_err-put_job.ensures.same_jobs in
    let waiting = c.in_err-put_job.ensures.same_waiting in
    let broken = c.put_job.ensures.broken in
    record {
      now = same-keeps _ _ _ _ _ _ (sym names) (sym jobs) (sym waiting) kept.now;
      then = same-keeps _ _ _ _ _ _ (ap (take c.self.inside.kept_jobs) (sym names)) (λ k. jobs_then c.self.inside.kept_jobs (sym broken k) (sym jobs k)) refl kept.then;
      came = omega (arith, kept.came, ap length jobs);
      to_break = omega (arith, kept.to_break, ap whole_count jobs, c.put_job.ensures.len, c.put_job.ensures.to_break);
      to_wait = omega (arith, kept.to_wait, c.put_job.ensures.to_wait);
    }

pub invariant_of-self-2 : goal.invariant_of-self-2
invariant_of-self-2 c =
    let ok = accepted c.args.machine.now c.args.self.now.jobs (length c.args.self.now.waiting) c.args.name c.args.tray c.args.media c.args.groups.now c.in_ok-tray.ensures.refused in
    let job : Job = record { name = c.args.name; tray = c.in_ok-tray.tray; broken = false } in
    let keys = c.in_ok-put_job.ensures.names.0 in
    let jobs : c.put_job.new.jobs.items ≡ c.self.inside.jobs.items ++ job ∷ [] = c.in_ok-put_job.ensures.jobs in
    let waiting : c.put_job.new.waiting.items ≡ c.self.inside.waiting.items ++ first_copies (length c.self.inside.jobs.items) 1 (sheets_of c.args.media c.args.groups.now) = search rules in
    let room : length c.self.inside.jobs.items + 1 < 2 ^ 32 = rw (← c.self.view_is) at c.requires.jobs in
    let few : length c.self.inside.waiting.items + sheet_count c.args.groups.now ≤ 4096 = rw (← c.self.view_is) at ok.few in
    let all =
    keeps-job c.self.inside.names.keys c.self.inside.jobs.items c.self.inside.waiting.items job (sheets_of c.args.media c.args.groups.now) c.put_job.new.names.keys c.self.invariant.now keys c.in_ok-put_job.ensures.names.1
    room (omega (arith, length-sheets_of c.args.media c.args.groups.now)) in
    let kept = c.self.invariant in
    let names = c.self.inside.names.keys in
    let jobs-were = c.self.inside.jobs.items in
    let waited = c.self.inside.kept_waiting.items in
    let broken = c.put_job.ensures.broken in
    let then =
    keeps-then_job c.self.inside.kept_jobs c.self.inside.broken.items names jobs-were c.self.inside.waiting.items waited c.args.name job kept.now kept.came kept.then in
    record {
      now = same-keeps _ _ _ _ _ _ refl (sym jobs) (sym waiting) all;
      then = same-keeps _ _ _ _ _ _ (ap (take c.self.inside.kept_jobs) (sym keys)) (λ k. jobs_then c.self.inside.kept_jobs (sym broken k) (sym jobs k)) refl then;
      came = omega (arith, kept.came, ap length jobs, length-append jobs-were (job ∷ []));
      to_break = omega (arith, count_by-le-length (λ (j : Job). not j.broken) c.put_job.new.jobs.items, c.in_ok-put_job.ensures.room);
      to_wait = omega (arith, kept.to_wait, c.put_job.ensures.to_wait);
    }

pub returns-clause-added : goal.returns-clause-added
returns-clause-added c =
    let lines = c.self.inside in
    let job = new_job c.args.machine.now c.args.name c.args.tray c.args.groups.now in
    let wants = sheets_of c.args.media c.args.groups.now in
    let tray : c.in_ok-tray.tray ≡ given_tray (tray_named c.args.machine.now c.args.tray) = sym (ap given_tray c.in_ok-tray.ensures.tray) in
    let jobs : c.put_job.new.jobs.items ≡ lines.jobs.items ++ job ∷ [] =
    c.in_ok-put_job.ensures.jobs ∙ (λ k. lines.jobs.items ++ record { name = c.args.name; tray = tray k; broken = false } ∷ []) in
    let waiting : c.put_job.new.waiting.items ≡ lines.waiting.items ++ first_copies (length lines.jobs.items) 1 wants = search rules in
    with-job lines.kept_jobs lines.broken.items c.put_job.new.broken.items lines.jobs.items c.put_job.new.jobs.items lines.waiting.items c.put_job.new.waiting.items lines.kept_waiting.items job wants c.self.invariant.came
    c.put_job.ensures.broken jobs waiting
    ∙ ap (λ (b : Backlog). with_job job wants b) c.self.view_is
