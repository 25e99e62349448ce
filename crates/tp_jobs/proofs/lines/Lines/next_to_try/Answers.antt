-- From the place behind the last one tried on, the first copy whose line is not blocked is found.
use Rattle.std.proofs.Common.{◌≡◌, ◌<◌, length, drop, find, IsSome, All, AllPairs, ap, sym, subst, ◌∙◌}
use Rattle.std.specs.Option.{option_map, IfSome}
use Rattle.std.specs.List.{position_or_len}
use Rattle.tp_jobs.proofs.NextFacts.{found-from, next-of_job, next-waits}
use Rattle.tp_jobs.proofs.PlaceFacts.{is_behind}
use Rattle.tp_jobs.specs.Backlogs.{Backlog, IsOfJob, WaitsBefore}
use Rattle.tp_jobs.specs.WaitingCopies.{find_waiting}
use Rattle.tp_schedule.specs.declared.parts.SheetId.{SheetId}
use Rattle.tp_jobs.specs.NextTry.{is_open, next_to_try}
use Rattle.tp_jobs.proofs.lines.Lines.next_to_try.Goals as goal
use Rattle.tp_jobs.proofs.lines.Lines.next_to_try.Goals.{in-Some, in-None}

-- what is found among the copies from the place on
found : (c : goal.After-first_open) → c.first_open.result ≡ option_map (λ w. w.sheet) (find (is_open c.args.self.now.jobs c.args.blocked.now) (drop c.match-after.from c.args.self.now.waiting))
found c =
    c.first_open.ensures
    ∙ (λ k. option_map (λ w. w.sheet) (find (is_open (c.as_slice.ensures.value k) c.args.blocked.now) (drop c.match-after.from c.self.inside.waiting.items)))
    ∙ ap (λ (b : Backlog). option_map (λ w. w.sheet) (find (is_open b.jobs c.args.blocked.now) (drop c.match-after.from b.waiting))) c.self.view_is

is-next : (c : goal.After-first_open) → c.first_open.result ≡ next_to_try c.args.self.now c.args.after c.args.blocked.now
is-next c = elim c.match-after.branch [
  | in-Some w ↦
      found c
      ∙ found-from c.args.self.now c.args.blocked.now w.in-Some.last c.match-after.from (subst (λ (b : Backlog). AllPairs WaitsBefore b.waiting) c.self.view_is c.self.invariant.now.in_order)
      (w.from-is ∙ w.place_behind-from.ensures.place ∙ ap (λ (b : Backlog). position_or_len (is_behind w.in-Some.last) b.waiting) c.self.view_is)
      ∙ (λ k. next_to_try c.args.self.now (sym w.in-Some.is k) c.args.blocked.now)
  | in-None w ↦
      found c
      ∙ ap (λ i. option_map (λ v. v.sheet) (find (is_open c.args.self.now.jobs c.args.blocked.now) (drop i c.args.self.now.waiting))) w.from-is
      ∙ (λ k. next_to_try c.args.self.now (sym w.in-None.is k) c.args.blocked.now)
]

pub returns-clause-next : goal.returns-clause-next
returns-clause-next c = is-next c

pub returns-clause-waits : goal.returns-clause-waits
returns-clause-waits c =
    subst (λ r. IfSome r (λ (copy : SheetId). IsSome (find_waiting copy c.args.self.now.waiting))) (sym (is-next c)) (next-waits c.args.self.now c.args.after c.args.blocked.now)

pub returns-clause-job : goal.returns-clause-job
returns-clause-job c =
    subst (λ r. IfSome r (λ (copy : SheetId). copy.job < length c.args.self.now.jobs)) (sym (is-next c))
    (next-of_job c.args.self.now c.args.after c.args.blocked.now (subst (λ (b : Backlog). All (IsOfJob b.jobs) b.waiting) c.self.view_is c.self.invariant.now.of_jobs))
