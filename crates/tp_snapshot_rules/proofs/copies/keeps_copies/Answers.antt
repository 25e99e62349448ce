use Rattle.std.proofs.Common.{◌≡◌, ◌∙◌, ◌↔◌, true, List, AllPairs, ap, sym, subst}
use Rattle.std.specs.List.{list_all}
use Rattle.tp_jobs.specs.declared.parts.WaitingCopy.{WaitingCopy}
use Rattle.tp_snapshot_rules.proofs.CopyRules.{rule-apart, rule-plans, rule-waiting, waits}
use Rattle.tp_snapshot_rules.specs.Rules.{AreOfOthers}
use Rattle.tp_snapshot_rules.specs.Tests.{is_plan_kept, is_waiting_kept}
use Rattle.tp_snapshot_rules.proofs.copies.keeps_copies.Goals as goal

pub returns-then-not-are_waiting_apart : goal.returns-then-not-are_waiting_apart
returns-then-not-are_waiting_apart c = (
  λ t. absurd cc,
  λ rule. (let kept = c.are_waiting_apart.ensures.1 (subst (λ (ws : List WaitingCopy). AllPairs AreOfOthers (waits ws)) (sym c.as_slice-waiting.ensures) (rule-apart c.args.standing.now rule)) in
      let not = c.if-not-are_waiting_apart.true in
      absurd cc),
)

pub returns-then-not-is_all_waiting_kept : goal.returns-then-not-is_all_waiting_kept
returns-then-not-is_all_waiting_kept c = (
  λ t. absurd cc,
  λ rule. (let all = rule-waiting c.args.standing.now rule in
      let test = c.is_all_waiting_kept.ensures ∙ ap (list_all (is_waiting_kept c.args.standing.now)) c.as_slice-waiting.ensures in
      let not = c.if-not-is_all_waiting_kept.true in
      absurd cc),
)

pub returns : goal.returns
returns c =
    let apart = subst (λ (ws : List WaitingCopy). AllPairs AreOfOthers (waits ws)) c.as_slice-waiting.ensures (c.are_waiting_apart.ensures.0 c.if-not-are_waiting_apart.false) in
    let waiting : list_all (is_waiting_kept c.args.standing.now) c.args.standing.now.waiting ≡ true = ap (list_all (is_waiting_kept c.args.standing.now)) (sym c.as_slice-waiting.ensures) ∙ sym c.is_all_waiting_kept.ensures ∙ c.if-not-is_all_waiting_kept.false in
    let rule = rule-plans c.args.standing.now c.requires.plans apart waiting in
    let test : c.is_each_plan_kept.result ≡ list_all (is_plan_kept c.args.standing.now) c.args.standing.now.plans = c.is_each_plan_kept.ensures ∙ ap (list_all (is_plan_kept c.args.standing.now)) c.as_slice.ensures in
    (λ e. rule.0 (sym test ∙ e), λ kept. test ∙ rule.1 kept)
