use Rattle.std.proofs.Common.{ap, length, subst, sym, ◌∙◌, All}
use Rattle.tp_base.proofs.LeastFacts.{mut_items}
use Rattle.tp_base.specs.Net.{Keeps}
use Rattle.tp_windows.specs.Arrays.{IsBetween}
use Rattle.tp_windows.specs.Links.{edges_of}
use Rattle.tp_windows.proofs.RangeFacts.{true_unless}
use Rattle.tp_windows.proofs.ranges.keep_later.Goals as goal

pub returns-clause-kept : goal.returns-clause-kept
returns-clause-kept c = λ y keeps before more.
    let is = mut_items c.args.ranges.now.lows.len c.raise.new.lows c.args.ranges.now.lows.items (c.raise.auto.lows ∙ ap length c.deref_mut.ensures.value ∙ sym c.args.ranges.now.lows.ok.0) in
    let keeps' = subst (λ ls. All (Keeps y) (edges_of ls)) (sym c.links.ensures.links) keeps in
    let before' = subst (λ a. IsBetween y a c.deref.result.now) (sym c.deref_mut.ensures.value) (subst (λ b. IsBetween y c.args.ranges.now.lows.items b) (sym c.deref.ensures.value) before) in (
      true_unless c.raise.result (λ e. c.raise.ensures.refused e y keeps' before' more),
      subst (λ a. IsBetween y a c.args.ranges.now.highs.items) (sym is) (subst (λ b. IsBetween y c.raise.new.lows b) c.deref.ensures.value (c.raise.ensures.between y keeps' before' more)),
    )
