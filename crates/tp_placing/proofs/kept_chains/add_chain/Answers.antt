use Rattle.std.proofs.Common.{◌∙◌, ◌+◌, ◌≤◌, [], ◌∷◌, refl, sym, ap, arith, ◌++◌, length, append-nil, vec_len, vec_capacity}
use Rattle.std.proofs.lemmas.List.{length-append, length_push}
use Rattle.tp_timelines.specs.Orders.{order_on}
use Rattle.tp_placing.specs.LoadedNet.{chain_causes, holds_on}
use Rattle.tp_placing.proofs.LoadEdges.{first-fits, rest-left}
use Rattle.tp_placing.proofs.LoadChains.{two-read, edges-read, causes-read, cause-fits, none-left}
use Rattle.tp_placing.proofs.kept_chains.add_chain.Goals as goal

pub push-tag-requires : goal.push-tag-requires
push-tag-requires c =
    let two = two-read c.args.held.now (order_on c.args.timelines.now.orders c.args.resource.0) c.loop-place.place _ _ _ c.requires.ids c.loop-place.auto.place c.at.ensures c.at-in-loop-place.ensures in
    let l = length-append c.args.causes.now (chain_causes (holds_on c.args.held.now c.args.timelines.now.orders c.args.resource.0)) in
    let few = c.requires.few in
    record { capacity = cause-fits _ _ _ _ two c.loop-place.causes _ c.between.result _ c.between.ensures c.loop-place.invariant.causes (omega arith) }

pub push_reserved-requires : goal.push_reserved-requires
push_reserved-requires c =
    let v = c.loop-place.invariant in
    let two = two-read c.args.held.now (order_on c.args.timelines.now.orders c.args.resource.0) c.loop-place.place _ _ _ c.requires.ids c.loop-place.auto.place c.at.ensures c.at-in-loop-place.ensures in
    let e = edges-read _ _ _ _ two c.args.gap (length c.loop-place.causes) _ (length c.loop-place.causes + 1) c.following.result c.following.ensures c.push-tag.ensures.tag refl in
    let f : vec_len c.loop-place.edges + 1 ≤ vec_capacity c.loop-place.edges = first-fits _ _ (c.following.result ∷ []) _ _ _ _ _ _ _ c.loop-place.edges.ok.0 c.args.edges.now.ok.0 v.all e c.requires.space v.space in
    omega arith

pub loop-place-preserved : goal.loop-place-preserved
loop-place-preserved c =
    let v = c.loop-place.invariant in
    let two = two-read c.args.held.now (order_on c.args.timelines.now.orders c.args.resource.0) c.loop-place.place _ _ _ c.requires.ids c.loop-place.auto.place c.at.ensures c.at-in-loop-place.ensures in
    let added = c.push-tag.ensures.added in
    let next = ap length added ∙ length_push c.loop-place.causes c.between.result in
    let e = edges-read _ _ _ _ two c.args.gap (length c.loop-place.causes) _ (length c.push-tag.new.self) c.following.result c.following.ensures c.push-tag.ensures.tag next in
    let a = c.push_reserved.ensures in
    let wide = v.space in
    let wider = a.capacity in
    record {
      all = rest-left _ _ _ _ _ _ a.items e v.all;
      causes = causes-read _ _ _ _ two c.loop-place.causes c.push-tag.new.self c.between.result c.between.ensures added ∙ v.causes;
      space = omega arith;
    }

pub returns-clause-added : goal.returns-clause-added
returns-clause-added c =
    let end = c.loop-place-test.false in
    let len = c.len-place-end.ensures.len in
    let none = none-left c.args.gap c.args.held.now (order_on c.args.timelines.now.orders c.args.resource.0) c.loop-place.place (length c.loop-place.causes) c.requires.ids c.loop-place.auto.place (omega arith) in
    sym (append-nil c.loop-place.edges.items) ∙ ap (λ es. c.loop-place.edges.items ++ es) (sym none.0) ∙ c.loop-place.invariant.all

pub returns-clause-causes : goal.returns-clause-causes
returns-clause-causes c =
    let end = c.loop-place-test.false in
    let len = c.len-place-end.ensures.len in
    let none = none-left c.args.gap c.args.held.now (order_on c.args.timelines.now.orders c.args.resource.0) c.loop-place.place (length c.loop-place.causes) c.requires.ids c.loop-place.auto.place (omega arith) in
    sym (append-nil c.loop-place.causes) ∙ ap (λ zs. c.loop-place.causes ++ zs) (sym none.1) ∙ c.loop-place.invariant.causes
