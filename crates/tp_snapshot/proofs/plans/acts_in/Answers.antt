use Rattle.std.proofs.Common.{◌≤◌, ◌∷◌, [], Some, None, length, refl, sym, ◌∙◌, arith, length-append}
use Rattle.tp_snapshot.specs.Plans.{act_in}
use Rattle.tp_snapshot.proofs.Seen.{few-all, read-all, read-none, read-stop, read-turn}
use Rattle.tp_snapshot.proofs.plans.acts_in.Goals as goal

pub loop-value-init : goal.loop-value-init
loop-value-init c = record {
  reads = read-none (act_in c.args.machine.now) c.args.values.now c.new-acts.result c.new-acts.ensures;
  many = rw c.new-acts.ensures refl;
}

pub returns-in-None : goal.returns-in-None
returns-in-None c =
    let few : length c.args.values.now ≤ 64 = omega arith in
    let stop = read-stop (act_in c.args.machine.now) c.args.values.now c.loop-value.acts c.loop-value.value-index c.value-item.result c.loop-value-test.true c.value-item.is (sym c.read_act.ensures ∙ c.in-None.is) c.loop-value.invariant.reads in
    sym (few-all (act_in c.args.machine.now) 64 c.args.values.now None few stop)

pub loop-value-preserved : goal.loop-value-preserved
loop-value-preserved c = record {
  reads = rw c.push.ensures.pushed (read-turn (act_in c.args.machine.now) c.args.values.now c.loop-value.acts c.loop-value.value-index c.value-item.result c.in-Some.act c.loop-value-test.true c.value-item.is (sym c.read_act.ensures ∙ c.in-Some.is) c.loop-value.invariant.reads);
  many = rw c.push.ensures.pushed (omega (arith, length-append c.loop-value.acts (c.in-Some.act ∷ []), c.loop-value.invariant.many));
}

pub returns : goal.returns
returns c =
    let few : length c.args.values.now ≤ 64 = omega arith in
    sym (few-all (act_in c.args.machine.now) 64 c.args.values.now (Some c.loop-value.acts) few (read-all (act_in c.args.machine.now) c.args.values.now c.loop-value.acts c.loop-value.value-index c.loop-value-test.false c.loop-value.invariant.reads))
