use Rattle.std.proofs.Common.{◌≤◌, ◌∷◌, [], Some, None, length, refl, sym, ◌∙◌, arith, length-append}
use Rattle.tp_snapshot.specs.Values.{whole_of}
use Rattle.tp_snapshot.proofs.Seen.{few-all, read-all, read-none, read-stop, read-turn}
use Rattle.tp_snapshot.proofs.plans.points_in.Goals as goal

pub loop-value-init : goal.loop-value-init
loop-value-init c = record {
  reads = read-none (whole_of 2000000000) c.args.values.now c.new-points.result c.new-points.ensures;
  many = rw c.new-points.ensures refl;
}

pub returns-in-None : goal.returns-in-None
returns-in-None c =
    let few : length c.args.values.now ≤ 65 = omega arith in
    let stop = read-stop (whole_of 2000000000) c.args.values.now c.loop-value.points c.loop-value.value-index c.value-item.result c.loop-value-test.true c.value-item.is (sym c.read_whole.ensures.whole ∙ c.in-None.is) c.loop-value.invariant.reads in
    sym (few-all (whole_of 2000000000) 65 c.args.values.now None few stop)

pub loop-value-preserved : goal.loop-value-preserved
loop-value-preserved c = record {
  reads = rw c.push.ensures.pushed (read-turn (whole_of 2000000000) c.args.values.now c.loop-value.points c.loop-value.value-index c.value-item.result c.in-Some.point c.loop-value-test.true c.value-item.is (sym c.read_whole.ensures.whole ∙ c.in-Some.is) c.loop-value.invariant.reads);
  many = rw c.push.ensures.pushed (omega (arith, length-append c.loop-value.points (c.in-Some.point ∷ []), c.loop-value.invariant.many));
}

pub returns : goal.returns
returns c =
    let few : length c.args.values.now ≤ 65 = omega arith in
    sym (few-all (whole_of 2000000000) 65 c.args.values.now (Some c.loop-value.points) few (read-all (whole_of 2000000000) c.args.values.now c.loop-value.points c.loop-value.value-index c.loop-value-test.false c.loop-value.invariant.reads))
