use Rattle.std.proofs.Common.{◌≡◌, ◌∙◌, ap, sym, subst, map, length}
use Rattle.tp_machine.specs.declared.parts.Action.{Action}
use Rattle.tp_bound_check.specs.Links.{AreBelow}
use Rattle.tp_bound_check.proofs.LinkFacts.{below-map}
use Rattle.tp_bound_check.proofs.links.by_start.Goals as goal

pub new-requires-clause-known : goal.new-requires-clause-known
new-requires-clause-known c =
    let m = c.args.machine.now in
    let known = below-map (λ (a : Action). a.from.0) m.actions (length m.locations) (λ k a at. (c.machine_law.ensures.ways k a at).from_known) in
    let are : c.in_ok-locations.locations.items ≡ map (λ (a : Action). a.from.0) m.actions = c.in_ok-locations.ensures ∙ ap (map (λ (a : Action). a.from.0)) c.as_slice.ensures in
    subst (λ n. AreBelow n c.in_ok-locations.locations.items) (sym c.len.ensures) (subst (AreBelow (length m.locations)) (sym are) known)
