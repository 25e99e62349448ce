-- A module that is out has one more outage, and another one none.
use Rattle.std.proofs.Common.{Vec, Global, sym, ap, ◌∙◌, arith}
use Rattle.tp_chart.specs.Starts.{out_spans}
use Rattle.tp_chart.specs.declared.out_span.OutSpan.{OutSpan}
use Rattle.tp_chart.proofs.OutSpans.{span_added, span_left}
use Rattle.tp_chart.proofs.start.outages_of.Goals as goal
use Rattle.tp_chart.proofs.start.outages_of.Goals.{then-contains+in_ok-push, else-contains}

pub modules-preserved : goal.modules-preserved
modules-preserved c =
    elim c.if-contains.branch [
      | then-contains+in_ok-push w ↦
          span_added c.args.outs c.args.moment c.modules.at c.args.modules.now c.modules.outages.items c.if-contains.outages.items (out_spans c.args.outs c.args.moment 0 c.args.modules.now) (omega arith) (sym c.contains.ensures ∙ w.if-contains.true)
          (ap (λ (a : Vec OutSpan Global). a.items) w.outages-is ∙ w.in_ok-push.ensures.items) c.modules.invariant
      | else-contains w ↦
          span_left c.args.outs c.args.moment c.modules.at c.args.modules.now c.modules.outages.items c.if-contains.outages.items (out_spans c.args.outs c.args.moment 0 c.args.modules.now) (omega arith) (sym c.contains.ensures ∙ w.if-contains.false)
          (ap (λ (a : Vec OutSpan Global). a.items) w.outages-is) c.modules.invariant
    ]
