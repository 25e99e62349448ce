-- Each hop of a board's reason but a stop and a limit has a name in a tree.
use Rattle.std.proofs.Common.{◌≡◌, ℕ, zero, suc, ◌<◌, List, [], ◌∷◌, length, refl, ◌∙◌, ap, arith, Some}
use Rattle.std.specs.Prelude.{slice_get, option_map, option_and_then}
use Rattle.std.proofs.lemmas.List.Elements.{All-contains}
use Rattle.tp_bounds.specs.declared.hops.Hop.TheVariants.{Duration, Line, «Resource» as Res}
use Rattle.tp_schedule.specs.Spots.{Slot}
use Rattle.tp_constraints.specs.Gaps.{end_spot}
use Rattle.tp_constraints.specs.Hops.IsHop.{by_least, by_most, by_line, by_end, by_order, by_stop}
use Rattle.tp_constraints.specs.Suffixes.{order_in}
use Rattle.tp_constraints.proofs.Lists.{contains-get}
use Rattle.tp_bound_laws.specs.Told.{HopsAreTold, hold_name, resource_hop}
use Rattle.tp_bound_laws.proofs.AllowedHops.{named-point}
use Rattle.tp_bound_laws.proofs.AllowedOrderHops.{IsNamedHold, named-holds}
use Rattle.tp_bound_laws.proofs.AllowedLineHops.{end-told, more-points, run-known}

-- there is an element at each place of a list
at-place : {X : Type 0} (xs : List X) (i : ℕ) → i < length xs → (x : X) × (slice_get xs i ≡ Some x)
at-place [] i within = absurd (omega (arith, within))
at-place (x ∷ xs) zero within = (x, refl)
at-place (x ∷ xs) (suc i) within = at-place xs i (omega (arith, within))

pub hops_told : HopsAreTold
hops_told machine plans ask b _ legal named (by_least a from to run) has =
    let p = named-point plans (length b.x.choices) to legal.in_order named (run-known machine plans b a from to run).1 in
    (Duration p.name, ap (option_map (λ q. Duration q)) p.told)
hops_told machine plans ask b _ legal named (by_most a from to run) has =
    let p = named-point plans (length b.x.choices) from legal.in_order named (run-known machine plans b a from to run).0 in
    (Duration p.name, ap (option_map (λ q. Duration q)) p.told)
hops_told machine plans ask b _ legal named (by_line p q in-p in-q before same) has =
    let n = named-point plans (length b.x.choices) (end_spot q) legal.in_order named (q, in-q, refl, omega arith) in
    (Line n.name, ap (option_map (λ r. Line r)) n.told)
hops_told machine plans ask b _ legal named (by_end g in-g) has =
    let e = end-told ask plans legal.in_order g in-g in
    let n = named-point plans (length b.x.choices) g.to legal.in_order named (more-points plans 1 (suc (length b.x.choices)) g.to (omega arith) e.1) in
    (Line n.name, ap (option_map (λ r. Line r)) n.told)
hops_told machine plans ask b _ legal named (by_order resource i j x y below at-x at-y) has =
    let Named = λ (s : Slot). IsNamedHold plans (length b.x.choices) s.from in
    let all = named-holds plans (length b.x.choices) legal.in_order named machine b.x resource (omega arith) in
    let nx = All-contains Named (order_in machine plans b.x resource) x all (contains-get (order_in machine plans b.x resource) i x at-x) in
    let ny = All-contains Named (order_in machine plans b.x resource) y all (contains-get (order_in machine plans b.x resource) j y at-y) in
    let r = at-place machine.resources resource has in (
      Res r.0.name nx.name ny.name,
      ap (option_and_then (resource_hop plans x.from y.from)) r.1
          ∙ ap (option_and_then (λ p. option_map (λ q. Res r.0.name p q) (hold_name plans y.from))) nx.told
          ∙ ap (option_map (λ q. Res r.0.name nx.name q)) ny.told,
    )
hops_told machine plans ask b _ legal named (by_stop stopped) has = absurd has
