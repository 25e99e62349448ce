use Rattle.std.proofs.Common.{◌<◌, length, sym, ◌∙◌, arith}
use Rattle.tp_snapshot.proofs.Outs.{out-passed, out-taken, outs-all, outs-more, passed-none}
use Rattle.tp_snapshot.proofs.moments.outs_in.Goals as goal
use Rattle.tp_snapshot.proofs.moments.outs_in.Goals.{then-taken-values+then-is_text, else-taken-values, else-taken-values-via-then-taken-values+else-is_text, else-taken-values-via-else-taken-values}

pub modules-preserved : goal.modules-preserved
modules-preserved c =
    elim c.if-taken-values.branch [
      | then-taken-values+then-is_text w ↦
          let lt : c.modules.taken < length c.args.values.now = omega (arith, w.if-taken-values.true) in
          record {
            reads = rw (w.outs-is, w.put_out-outs.ensures, w.taken-is)
                (sym (out-taken c.modules.at c.modules.taken c.args.modules.now w.get.result w.index-values-taken.result c.args.values.now c.modules.outs w.get.ensures lt w.index-values-taken.is (sym w.is_text.ensures ∙ w.if-is_text.true)) ∙ c.modules.invariant.reads);
            within = omega (arith, w.taken-is, lt);
          }
      | else-taken-values w ↦
          elim w.else-taken-values.branch [
            | else-taken-values-via-then-taken-values+else-is_text w' ↦
                let lt : c.modules.taken < length c.args.values.now = omega (arith, w'.if-taken-values.true) in
                record {
                  reads = rw (w.outs-is, w.taken-is)
                      (sym (out-passed c.modules.at c.modules.taken c.args.modules.now w'.get.result w'.index-values-taken.result c.args.values.now c.modules.outs w'.get.ensures lt w'.index-values-taken.is (sym w'.is_text.ensures ∙ w'.if-is_text.false)) ∙ c.modules.invariant.reads);
                  within = omega (arith, w.taken-is, c.modules.invariant.within);
                }
            | else-taken-values-via-else-taken-values w' ↦
                record {
                  reads = rw (w.outs-is, w.taken-is)
                      (sym (passed-none c.modules.at c.modules.taken c.args.modules.now c.args.values.now c.modules.outs (omega (arith, w'.if-taken-values.false))) ∙ c.modules.invariant.reads);
                  within = omega (arith, w.taken-is, c.modules.invariant.within);
                }
          ]
    ]

pub returns-then-taken-values-2 : goal.returns-then-taken-values-2
returns-then-taken-values-2 c = sym (outs-all c.modules.at c.modules.taken c.args.modules.now c.args.values.now c.modules.outs (omega arith)) ∙ c.modules.invariant.reads

pub returns-else-taken-values-2 : goal.returns-else-taken-values-2
returns-else-taken-values-2 c = sym (outs-more c.modules.at c.modules.taken c.args.modules.now c.args.values.now c.modules.outs (omega arith) (omega (arith, c.modules.invariant.within))) ∙ c.modules.invariant.reads
