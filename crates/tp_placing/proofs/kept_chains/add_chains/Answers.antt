use Rattle.std.proofs.Common.{◌∙◌, ◌-◌, ◌++◌, refl, sym, ap, arith, length}
use Rattle.std.proofs.lemmas.List.{append_assoc, length-append}
use Rattle.tp_placing.specs.LoadedNet.{chain_causes, chains_causes, holds_on}
use Rattle.tp_placing.proofs.LoadEdges.{first-fits, rest-left}
use Rattle.tp_placing.proofs.LoadChains.{chains-more, causes-more}
use Rattle.tp_placing.proofs.kept_chains.add_chains.Goals as goal

pub add_chain-requires-clause-space : goal.add_chain-requires-clause-space
add_chain-requires-clause-space c =
    let v = c.loop-left.invariant in
    let e = chains-more c.args.machine.now _ (length c.loop-left.causes) _ (holds_on c.args.held.now c.args.timelines.now.orders) c.loop-left.left c.loop-left-test.true c.gap_at-gap.ensures.gap refl in
    first-fits _ _ _ _ _ _ _ _ _ _ c.loop-left.edges.ok.0 c.args.edges.now.ok.0 v.all e c.requires.space v.space

pub add_chain-requires-clause-few : goal.add_chain-requires-clause-few
add_chain-requires-clause-few c =
    let orders = holds_on c.args.held.now c.args.timelines.now.orders in
    let left = c.loop-left.left in
    let here = ap (λ zs. length (c.loop-left.causes ++ zs)) (sym (causes-more (holds_on c.args.held.now c.args.timelines.now.orders) c.loop-left.left c.loop-left-test.true)) ∙ ap length c.loop-left.invariant.causes in
    let a = length-append c.loop-left.causes (chain_causes (orders (left - 1)) ++ chains_causes orders (left - 1)) in
    let b = length-append (chain_causes (orders (left - 1))) (chains_causes orders (left - 1)) in
    let l = length-append c.args.causes.now (chains_causes orders c.args.resources) in
    let room = c.requires.capacity in
    omega arith

pub loop-left-preserved : goal.loop-left-preserved
loop-left-preserved c =
    let v = c.loop-left.invariant in
    let orders = holds_on c.args.held.now c.args.timelines.now.orders in
    let left = c.loop-left.left in
    let a = c.add_chain.ensures in
    let next = ap length a.causes ∙ length-append c.loop-left.causes (chain_causes (orders (left - 1))) in
    let e = chains-more c.args.machine.now _ (length c.loop-left.causes) (length c.add_chain.new.causes) (holds_on c.args.held.now c.args.timelines.now.orders) c.loop-left.left c.loop-left-test.true c.gap_at-gap.ensures.gap next in
    let wide = v.space in
    let wider = a.space in
    record {
      within = let w = v.within in omega arith;
      all = rest-left _ _ _ _ _ _ a.added e v.all;
      causes = ap (λ zs. zs ++ chains_causes orders (left - 1)) a.causes ∙ append_assoc c.loop-left.causes (chain_causes (orders (left - 1))) (chains_causes orders (left - 1))
          ∙ ap (λ zs. c.loop-left.causes ++ zs) (sym (causes-more orders left c.loop-left-test.true)) ∙ v.causes;
      space = omega arith;
    }
