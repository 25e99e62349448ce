use Rattle.std.proofs.Common.{◌≤◌, ◌∷◌, [], Some, None, length, refl, sym, ◌∙◌, arith, length-append}
use Rattle.tp_snapshot.specs.Plans.{plan_of}
use Rattle.tp_snapshot.proofs.Seen.{few-all, read-all, read-none, read-stop, read-turn}
use Rattle.tp_snapshot.proofs.plans.plans_in.Goals as goal

pub loop-value-init : goal.loop-value-init
loop-value-init c = record {
  reads = read-none (plan_of c.args.machine.now c.args.now c.args.jobs.now) c.args.values.now c.new-plans.result c.new-plans.ensures;
  many = rw c.new-plans.ensures refl;
}

pub returns-in-None : goal.returns-in-None
returns-in-None c =
    let few : length c.args.values.now ≤ 256 = omega arith in
    let stop = read-stop (plan_of c.args.machine.now c.args.now c.args.jobs.now) c.args.values.now c.loop-value.plans c.loop-value.value-index c.value-item.result c.loop-value-test.true c.value-item.is (sym c.read_plan.ensures ∙ c.in-None.is) c.loop-value.invariant.reads in
    sym (few-all (plan_of c.args.machine.now c.args.now c.args.jobs.now) 256 c.args.values.now None few stop)

pub loop-value-preserved : goal.loop-value-preserved
loop-value-preserved c = record {
  reads = rw c.in_ok-push-in-Some.ensures.ok (read-turn (plan_of c.args.machine.now c.args.now c.args.jobs.now) c.args.values.now c.loop-value.plans c.loop-value.value-index c.value-item.result c.in-Some.plan c.loop-value-test.true c.value-item.is (sym c.read_plan.ensures ∙ c.in-Some.is) c.loop-value.invariant.reads);
  many = rw c.in_ok-push-in-Some.ensures.ok (omega (arith, length-append c.loop-value.plans (c.in-Some.plan ∷ []), c.loop-value.invariant.many));
}

pub returns : goal.returns
returns c =
    let few : length c.args.values.now ≤ 256 = omega arith in
    sym (few-all (plan_of c.args.machine.now c.args.now c.args.jobs.now) 256 c.args.values.now (Some c.loop-value.plans) few (read-all (plan_of c.args.machine.now c.args.now c.args.jobs.now) c.args.values.now c.loop-value.plans c.loop-value.value-index c.loop-value-test.false c.loop-value.invariant.reads))
