use Rattle.std.proofs.Common.{◌<◌, ◌∷◌, [], length, length-append, sym, ap, ◌∙◌, arith}
use Rattle.serde_json.specs.View.{view}
use Rattle.tp_machine.specs.declared.parts.Feeder.{Feeder}
use Rattle.tp_snapshot.proofs.Outs.{stock-end, stock-stop, stock-turn, stock-unequal}
use Rattle.tp_snapshot.specs.Moments.{free_in}
use Rattle.tp_snapshot.proofs.moments.stock_in.Goals as goal

pub returns-then-feeders-values : goal.returns-then-feeders-values
returns-then-feeders-values c = sym (stock-unequal c.args.feeders.now c.args.values.now (λ same. omega arith))

pub returns-in-None : goal.returns-in-None
returns-in-None c =
    let lf : c.feeders.at < length c.args.feeders.now = omega arith in
    let lv : c.feeders.at < length c.args.values.now = omega arith in
    sym (stock-stop c.args.feeders.now c.args.values.now c.feeders.stock c.feeders.at c.index-feeders-at.result c.index-values-at.result lf lv c.index-feeders-at.is c.index-values-at.is (ap (λ (f : Feeder). free_in f.stock (view c.index-values-at.result)) c.index-feeders-at.is ∙ sym c.read_free.ensures ∙ c.in-None.is)) ∙ c.feeders.invariant.reads

pub feeders-preserved : goal.feeders-preserved
feeders-preserved c =
    let lf : c.feeders.at < length c.args.feeders.now = omega arith in
    let lv : c.feeders.at < length c.args.values.now = omega arith in
    record {
      reads = rw c.in_ok-push-in-Some.ensures.ok
          (sym (stock-turn c.args.feeders.now c.args.values.now c.feeders.stock c.feeders.at c.index-feeders-at.result c.index-values-at.result c.in-Some.free lf lv c.index-feeders-at.is c.index-values-at.is (ap (λ (f : Feeder). free_in f.stock (view c.index-values-at.result)) c.index-feeders-at.is ∙ sym c.read_free.ensures ∙ c.in-Some.is)) ∙ c.feeders.invariant.reads);
      many = rw c.in_ok-push-in-Some.ensures.ok (omega (arith, length-append c.feeders.stock (c.in-Some.free ∷ []), c.feeders.invariant.many));
    }

pub returns : goal.returns
returns c = sym (stock-end c.args.feeders.now c.args.values.now c.feeders.stock c.feeders.at (omega arith) (omega arith)) ∙ c.feeders.invariant.reads
