use Rattle.std.proofs.Common.{◌≡◌, lit≤, subst}
use Rattle.serde_json.specs.View.{view}
use Rattle.tp_snapshot.proofs.RuleFacts.{breaks-later}
use Rattle.tp_snapshot.proofs.Soundness.{few-plans, keeps-floors, moment-at-most}
use Rattle.tp_snapshot.specs.Rules.{BreaksOf}
use Rattle.tp_snapshot.proofs.snapshot_reader.sound_in.Goals as goal

pub first_broken-requires-clause-moment : goal.first_broken-requires-clause-moment
first_broken-requires-clause-moment c = moment-at-most 6 c.args.machine.now (view c.args.value.now) c.args.standing (lit≤ tt) c.requires

pub first_broken-requires-clause-few : goal.first_broken-requires-clause-few
first_broken-requires-clause-few c = few-plans 6 c.args.machine.now (view c.args.value.now) c.args.standing (lit≤ tt) c.requires

pub first_broken-requires-clause-plans : goal.first_broken-requires-clause-plans
first_broken-requires-clause-plans c = (c.requires.plans (lit≤ tt)).in_order

pub first_broken-requires-clause-waiting : goal.first_broken-requires-clause-waiting
first_broken-requires-clause-waiting c = (c.requires.waiting (lit≤ tt)).keeps.in_order

pub first_broken-requires-clause-floors : goal.first_broken-requires-clause-floors
first_broken-requires-clause-floors c = keeps-floors 6 c.args.machine.now (view c.args.value.now) c.args.standing (lit≤ tt) c.requires

pub returns-in-Ok-Some-clause-rule : goal.returns-in-Ok-Some-clause-rule
returns-in-Ok-Some-clause-rule c = λ n e.
    (let first = rw c.in-Ok-Some.field-0-is at c.in-Ok-Some.ensures.broken in
    let same : c.in-Ok-Some.rule ≡ n = cc in
    subst (λ k. BreaksOf k c.args.machine.now (view c.args.value.now)) same (breaks-later c.args.machine.now (view c.args.value.now) c.in-Ok-Some.rule c.args.standing c.requires first))
