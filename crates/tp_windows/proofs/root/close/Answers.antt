use Rattle.std.proofs.Common.{ap, length, subst, sym, ◌∙◌, All}
use Rattle.tp_base.proofs.LeastFacts.{mut_items}
use Rattle.tp_base.specs.Net.{Keeps}
use Rattle.tp_windows.specs.Arrays.{IsBetween}
use Rattle.tp_windows.specs.Links.{edges_of}
use Rattle.tp_windows.proofs.root.close.Goals as goal

pub returns-clause-kept : goal.returns-clause-kept
returns-clause-kept c = λ y keeps before.
    let highs = c.args.ranges.now.highs in
    let lows = c.args.ranges.now.lows.items in
    let is = mut_items highs.len c.spread_down.new.highs highs.items (c.spread_down.auto.highs ∙ ap length c.deref_mut.ensures.value ∙ sym highs.ok.0) in
    let keeps' = subst (λ ls. All (Keeps y) (edges_of ls)) (sym c.links.ensures.links) (subst (All (Keeps y)) (sym c.requires.edges.1.all) keeps) in
    let before' = subst (λ a. IsBetween y a c.deref_mut.result.now) (sym c.deref.ensures.value) (subst (λ b. IsBetween y lows b) (sym c.deref_mut.ensures.value) before) in
    subst (λ b. IsBetween y lows b) (sym is) (subst (λ a. IsBetween y a c.spread_down.new.highs) c.deref.ensures.value (c.spread_down.ensures.between y keeps' before'))
