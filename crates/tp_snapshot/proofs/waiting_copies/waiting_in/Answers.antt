use Rattle.std.proofs.Common.{◌≤◌, ◌∷◌, [], Some, None, length, refl, sym, ◌∙◌, arith, length-append}
use Rattle.tp_snapshot.specs.WaitingCopies.{wait_of}
use Rattle.tp_snapshot.proofs.Seen.{few-all, read-all, read-none, read-stop, read-turn}
use Rattle.tp_snapshot.proofs.waiting_copies.waiting_in.Goals as goal

pub loop-value-init : goal.loop-value-init
loop-value-init c = record {
  reads = read-none (wait_of c.args.names.now.keys) c.args.values.now c.new-waiting.result c.new-waiting.ensures;
  many = rw c.new-waiting.ensures refl;
}

pub returns-in-None : goal.returns-in-None
returns-in-None c =
    let few : length c.args.values.now ≤ 4352 = omega arith in
    let stop = read-stop (wait_of c.args.names.now.keys) c.args.values.now c.loop-value.waiting c.loop-value.value-index c.value-item.result c.loop-value-test.true c.value-item.is (sym c.read_wait.ensures ∙ c.in-None.is) c.loop-value.invariant.reads in
    sym (few-all (wait_of c.args.names.now.keys) 4352 c.args.values.now None few stop)

pub loop-value-preserved : goal.loop-value-preserved
loop-value-preserved c = record {
  reads = rw c.in_ok-push-in-Some.ensures.ok (read-turn (wait_of c.args.names.now.keys) c.args.values.now c.loop-value.waiting c.loop-value.value-index c.value-item.result c.in-Some.row c.loop-value-test.true c.value-item.is (sym c.read_wait.ensures ∙ c.in-Some.is) c.loop-value.invariant.reads);
  many = rw c.in_ok-push-in-Some.ensures.ok (omega (arith, length-append c.loop-value.waiting (c.in-Some.row ∷ []), c.loop-value.invariant.many));
}

pub returns : goal.returns
returns c =
    let few : length c.args.values.now ≤ 4352 = omega arith in
    sym (few-all (wait_of c.args.names.now.keys) 4352 c.args.values.now (Some c.loop-value.waiting) few (read-all (wait_of c.args.names.now.keys) c.args.values.now c.loop-value.waiting c.loop-value.value-index c.loop-value-test.false c.loop-value.invariant.reads))
