use Rattle.std.proofs.Common.{ap, length, subst, sym, ◌∙◌, All}
use Rattle.tp_base.proofs.LeastFacts.{mut_items}
use Rattle.tp_base.specs.Net.{Keeps}
use Rattle.tp_windows.specs.Arrays.{IsBetween}
use Rattle.tp_windows.specs.Links.{edges_of}
use Rattle.tp_windows.proofs.RangeFacts.{true_unless}
use Rattle.tp_windows.proofs.ranges.keep_sooner.Goals as goal

pub returns-clause-kept : goal.returns-clause-kept
returns-clause-kept c = λ y keeps before less.
    let is = mut_items c.args.ranges.now.highs.len c.lower.new.highs c.args.ranges.now.highs.items (c.lower.auto.highs ∙ ap length c.deref_mut.ensures.value ∙ sym c.args.ranges.now.highs.ok.0) in
    let keeps' = subst (λ ls. All (Keeps y) (edges_of ls)) (sym c.links.ensures.links) (subst (All (Keeps y)) (sym c.requires.edges.1.all) keeps) in
    let before' = subst (λ a. IsBetween y a c.deref_mut.result.now) (sym c.deref.ensures.value) (subst (λ b. IsBetween y c.args.ranges.now.lows.items b) (sym c.deref_mut.ensures.value) before) in (
      true_unless c.lower.result (λ e. c.lower.ensures.refused e y keeps' before' less),
      subst (λ b. IsBetween y c.args.ranges.now.lows.items b) (sym is) (subst (λ a. IsBetween y a c.lower.new.highs) c.deref.ensures.value (c.lower.ensures.between y keeps' before' less)),
    )
