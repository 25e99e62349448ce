use Rattle.std.proofs.Common.{◌≡◌, ◌∙◌, inl, inr, sym}
use Rattle.serde_json.specs.View.{view}
use Rattle.tp_snapshot.proofs.PassedFacts.{breaks-rule}
use Rattle.tp_snapshot.proofs.snapshot_reader.opened_in.Goals as goal

pub returns-in-Ok-Some-clause-rule : goal.returns-in-Ok-Some-clause-rule
returns-in-Ok-Some-clause-rule c =
    let has = rw c.in-Ok-Some.field-0-is at c.in-Ok-Some.ensures.some in
    breaks-rule (view c.args.value.now) c.in-Ok-Some.machine (sym c.has_keys.ensures ∙ c.if-not-has_keys.false) has c.opened_with.result c.opened_with.ensures.rule

pub returns-in-Ok-None-clause-rule : goal.returns-in-Ok-None-clause-rule
returns-in-Ok-None-clause-rule c = λ n is.
    (let two : n ≡ 2 = cc in
    inr (inl (record { second = two; keys = sym c.has_keys.ensures ∙ c.if-not-has_keys.false; broken = c.in-Ok-None.ensures.none c.in-Ok-None.field-0-is })))
