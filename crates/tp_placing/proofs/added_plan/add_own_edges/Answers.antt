use Rattle.std.proofs.Common.{◌≡◌, ◌∙◌, ◌+◌, ◌*◌, ◌<◌, ◌≤◌, ◌++◌, ◌∷◌, [], List, Option, ap, arith, length, subst, sym, Some, None}
use Rattle.std.specs.Prelude.{pos, slice_get, slice_index_or}
use Rattle.std.proofs.lemmas.List.{append-nil, append_assoc, length-append}
use Rattle.std.proofs.lemmas.Option.{same_Some, slice_get-get_or, slice_get_within}
use Rattle.tp_base.specs.declared.edges.Edge.{Edge}
use Rattle.tp_base.specs.declared.edges.PointId.{PointId}
use Rattle.tp_placing.specs.Causes.{line_tag}
use Rattle.tp_placing.specs.Edges.{edge_of}
use Rattle.tp_placing.specs.AddedEdges.{IsLineEnd, behind_edge}
use Rattle.tp_placing.specs.LoadedNet.{acts_edges, point_id}
use Rattle.tp_placing.proofs.LoadHops.{acts-count}
use Rattle.tp_placing.proofs.added_plan.add_own_edges.Goals as goal
use Rattle.tp_placing.proofs.added_plan.add_own_edges.Goals.{After-as_slice}

abbrev first : After-as_slice → PointId
first c = slice_index_or c.args.firsts.now c.args.at (record { 0 = 0 })

read : (c : After-as_slice) → slice_get c.args.firsts.now c.args.at ≡ Some (first c)
read c = slice_get-get_or c.args.firsts.now c.args.at (record { 0 = 0 }) c.requires.firsts

fits : (c : After-as_slice) → (first c).0 + length c.args.plan.now.acts < 4294967296
fits c = c.requires.fits c.args.at (first c) c.args.plan.now (read c) c.requires.is

edges-few : (c : After-as_slice) → length (acts_edges c.args.machine.now (first c).0 c.as_slice.result.now) ≤ 2 * length c.args.plan.now.acts
edges-few c = let a = acts-count c.args.machine.now (first c).0 c.as_slice.result.now in let l = ap length c.as_slice.ensures.items in omega arith

pub add_acts-requires-clause-space : goal.add_acts-requires-clause-space
add_acts-requires-clause-space c = let few = edges-few c in let space = c.requires.space in omega arith

pub add_acts-requires-clause-fits : goal.add_acts-requires-clause-fits
add_acts-requires-clause-fits c = let f = fits c in let l = ap length c.as_slice.ensures.items in omega arith

pub overflow_add-end : goal.overflow_add-end
overflow_add-end c = let f = fits (goal.at.overflow_add-end c).After-as_slice in let l = c.len.ensures.len in omega arith

pub line_end-requires-clause-there : goal.line_end-requires-clause-there
line_end-requires-clause-there c = slice_get_within c.args.plans.now c.args.at c.args.plan.now c.requires.is

pub push_reserved-requires : goal.push_reserved-requires
push_reserved-requires c =
    let few = edges-few (goal.at.push_reserved-requires c).After-as_slice in
    let added = ap length c.add_acts.ensures.added in
    let l = length-append c.args.edges.now.items (acts_edges c.args.machine.now (slice_index_or c.args.firsts.now c.args.at (record { 0 = 0 })).0 c.as_slice.result.now) in
    let space = c.requires.space in
    let wide = c.add_acts.ensures.space in
    let old = c.args.edges.now.ok.0 in
    let new = c.add_acts.new.edges.ok.0 in
    omega arith

-- one edge more
pushed : (base acts next all : List Edge) (e : Edge) (before end : PointId) → all ≡ next ++ e ∷ [] → next ≡ base ++ acts → e ≡ edge_of before end (pos 1) line_tag → all ≡ base ++ (acts ++ behind_edge (Some before) end)
pushed base acts next all e before end more is made = more ∙ (λ i. is i ++ made i ∷ []) ∙ append_assoc base acts (edge_of before end (pos 1) line_tag ∷ [])

pub returns-in-Some-clause-added : goal.returns-in-Some-clause-added
returns-in-Some-clause-added c f at =
    let k = (goal.at.returns-in-Some-clause-added c).After-as_slice in
    let same : first k ≡ f = same_Some (first k) f (sym (read k) ∙ at) in
    let number = ap (λ (x : PointId). x.0) same in
    let acts = c.as_slice.ensures.items in
    let count = c.len.ensures.len in
    let ends = subst (λ (o : Option PointId). IsLineEnd c.args.plans.now c.args.firsts.now c.args.at c.args.plan.now o) c.in-Some.is (c.line_end.ensures c.args.plan.now c.requires.is) in (
      Some c.in-Some.before,
      ends,
      pushed _ _ _ _ _ _ _ c.push_reserved.ensures.items c.add_acts.ensures.added c.edge_between.ensures
          ∙ (λ i. c.args.edges.now.items ++ (acts_edges c.args.machine.now (number i) (acts i) ++ behind_edge (Some c.in-Some.before) (point_id (number i + count i)))),
    )

pub returns-in-None-clause-added : goal.returns-in-None-clause-added
returns-in-None-clause-added c f at =
    let k = (goal.at.returns-in-None-clause-added c).After-as_slice in
    let same : first k ≡ f = same_Some (first k) f (sym (read k) ∙ at) in
    let number = ap (λ (x : PointId). x.0) same in
    let acts = c.as_slice.ensures.items in (
      None,
      subst (λ (o : Option PointId). IsLineEnd c.args.plans.now c.args.firsts.now c.args.at c.args.plan.now o) c.in-None.is (c.line_end.ensures c.args.plan.now c.requires.is),
      c.add_acts.ensures.added ∙ (λ i. c.args.edges.now.items ++ acts_edges c.args.machine.now (number i) (acts i)) ∙ ap (λ es. c.args.edges.now.items ++ es) (sym (append-nil (acts_edges c.args.machine.now f.0 c.args.plan.now.acts))),
    )
