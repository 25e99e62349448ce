use Rattle.std.proofs.Common.{Vec, Global, map, sym, ap, ◌∙◌, arith}
use Rattle.serde_json.specs.Data.{string}
use Rattle.serde_json.specs.declared.value.Value.{Value}
use Rattle.tp_snapshot.proofs.Outs.{out-left, out-written}
use Rattle.tp_snapshot.specs.Written.{out_names}
use Rattle.tp_snapshot.proofs.moments.outs_value.Goals as goal
use Rattle.tp_snapshot.proofs.moments.outs_value.Goals.{then-contains+in_ok-name_value+in_ok-push, else-contains}

pub modules-preserved : goal.modules-preserved
modules-preserved c =
    elim c.if-contains.branch [
      | then-contains+in_ok-name_value+in_ok-push w ↦
          out-written c.args.outs c.modules.at c.args.modules.now w.get.result c.modules.array.items c.if-contains.array.items w.in_ok-name_value.field-0 (map string (out_names c.args.outs 0 c.args.modules.now)) w.get.ensures (sym c.contains.ensures ∙ w.if-contains.true) w.in_ok-name_value.ensures
          (ap (λ (a : Vec Value Global). a.items) w.array-is ∙ w.in_ok-push.ensures.items) c.modules.invariant
      | else-contains w ↦
          out-left c.args.outs c.modules.at c.args.modules.now c.modules.array.items c.if-contains.array.items (map string (out_names c.args.outs 0 c.args.modules.now)) (omega arith) (sym c.contains.ensures ∙ w.if-contains.false)
          (ap (λ (a : Vec Value Global). a.items) w.array-is) c.modules.invariant
    ]
