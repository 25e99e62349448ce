use Rattle.std.proofs.Common.{◌≡◌, ◌∙◌, ◌+◌, true, ℕ, List, length, count_by, AllPairs, ap, sym, subst, arith}
use Rattle.std.specs.List.{list_all}
use Rattle.tp_jobs.specs.declared.parts.WaitingCopy.{WaitingCopy}
use Rattle.tp_event_rules.specs.StateInvariants.{is_to_arrive}
use Rattle.tp_snapshot_rules.proofs.WaitingRules.{rule-can, rule-few}
use Rattle.tp_snapshot_rules.specs.Rules.{WaitsBefore}
use Rattle.tp_snapshot_rules.specs.Tests.{can_wait}
use Rattle.tp_snapshot_rules.proofs.waiting_rules.keeps_waiting.Goals as goal

pub returns-then-not-are_waiting_in_order : goal.returns-then-not-are_waiting_in_order
returns-then-not-are_waiting_in_order c = (
  λ t. absurd cc,
  λ rule. (let kept = c.are_waiting_in_order.ensures.1 (subst (λ (ws : List WaitingCopy). AllPairs WaitsBefore ws) (sym c.as_slice-waiting.ensures) rule.in_order) in
      let not = c.if-not-are_waiting_in_order.true in
      absurd cc),
)

pub returns-then-not-can_all_wait : goal.returns-then-not-can_all_wait
returns-then-not-can_all_wait c = (
  λ t. absurd cc,
  λ rule. (let all = rule-can c.args.machine.now c.args.standing.now rule in
      let test = c.can_all_wait.ensures ∙ ap (list_all (can_wait c.args.machine.now c.args.standing.now)) c.as_slice-waiting.ensures in
      let not = c.if-not-can_all_wait.true in
      absurd cc),
)

pub returns : goal.returns
returns c =
    let m = c.args.machine.now in
    let t = c.args.standing.now in
    let order = subst (λ (ws : List WaitingCopy). AllPairs WaitsBefore ws) c.as_slice-waiting.ensures (c.are_waiting_in_order.ensures.0 c.if-not-are_waiting_in_order.false) in
    let all : list_all (can_wait m t) t.waiting ≡ true = ap (list_all (can_wait m t)) (sym c.as_slice-waiting.ensures) ∙ sym c.can_all_wait.ensures ∙ c.if-not-can_all_wait.false in
    let size : length c.as_slice-waiting.result.now ≡ length t.waiting = ap length c.as_slice-waiting.ensures in
    let count : c.count_to_arrive-arriving.result ≡ count_by (is_to_arrive t.now) t.plans = c.count_to_arrive-arriving.ensures.count ∙ ap (count_by (is_to_arrive t.now)) c.as_slice.ensures in
    rule-few m t c.is_few.result order all
    (λ e. (let le = c.is_few.ensures.0 e in omega (arith, le, size, count)), λ le. c.is_few.ensures.1 (omega (arith, le, size, count)))
