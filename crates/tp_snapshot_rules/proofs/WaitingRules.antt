-- The rule on copies that wait is its tests.
use Rattle.std.proofs.Common.{◌≡◌, ◌↔◌, ◌∙◌, ℕ, ◌+◌, ◌≤◌, Bool, true, not, ◌&&◌, length, count_by, AllPairs, IsTrue}
use Rattle.std.specs.List.{list_all}
use Rattle.std.proofs.lemmas.Bool.{and_from, and_parts}
use Rattle.tp_machine.specs.declared.machine.Machine.{Machine}
use Rattle.tp_jobs.specs.JobRefusals.{has_media}
use Rattle.tp_jobs.specs.declared.parts.WaitingCopy.{WaitingCopy}
use Rattle.tp_jobs.specs.declared.standing.Standing.{Standing}
use Rattle.tp_event_rules.specs.StateInvariants.{is_planned_among, is_to_arrive}
use Rattle.tp_event_rules.specs.Lines.{is_job_broken}
use Rattle.tp_snapshot_rules.proofs.TestFacts.{all-test, not-test}
use Rattle.tp_snapshot_rules.specs.Rules.{CanWait, KeepsWaiting, WaitsBefore}
use Rattle.tp_snapshot_rules.specs.Tests.{can_wait}

wait-test : (machine : Machine) (t : Standing) (w : WaitingCopy) → (can_wait machine t w ≡ true) ↔ CanWait machine t w
unfolding can_wait
wait-test machine t w =
    let media : Bool = has_media machine w.want.media in
    let planned : Bool = is_planned_among t.plans w.sheet in
    let broken : Bool = is_job_broken t.jobs w.sheet.job in (
      λ e. (let (two, c) = and_parts (media && not planned) (not broken) e in
          let (a, b) = and_parts media (not planned) two in
          record { media = a; unplanned = (not-test planned).0 b; whole = (not-test broken).0 c }),
      λ is. and_from (media && not planned) (not broken) (and_from media (not planned) is.media ((not-test planned).1 is.unplanned)) ((not-test broken).1 is.whole),
    )

-- the tests one after another
pub rule-can : (machine : Machine) (t : Standing) → KeepsWaiting machine t → list_all (can_wait machine t) t.waiting ≡ true
rule-can machine t rule = (all-test (can_wait machine t) (CanWait machine t) (wait-test machine t) t.waiting).1 rule.can_wait

pub rule-few : (machine : Machine) (t : Standing) (c : Bool) → AllPairs WaitsBefore t.waiting → list_all (can_wait machine t) t.waiting ≡ true → (IsTrue c ↔ (length t.waiting + count_by (is_to_arrive t.now) t.plans ≤ 4352)) → IsTrue c ↔ KeepsWaiting machine t
rule-few machine t c order all few = (
  λ e. record { in_order = order; can_wait = (all-test (can_wait machine t) (CanWait machine t) (wait-test machine t) t.waiting).0 all; few_open = few.0 e },
  λ rule. few.1 rule.few_open,
)
