-- The edges of a board's network can be named, and their names are allowed.
use Rattle.std.proofs.Common.{◌≡◌, ℕ, ◌<◌, false, ◌==◌, List, length, map, refl, arith, Option, Some, None}
use Rattle.std.specs.Prelude.{ℤ, slice_get}
use Rattle.std.proofs.lemmas.Bool.Decides.{nat_tests}
use Rattle.std.proofs.lemmas.List.Elements.{All-contains}
use Rattle.tp_base.specs.declared.edges.Edge.{Edge}
use Rattle.tp_base.specs.declared.edges.PointId.{PointId}
use Rattle.tp_machine.specs.Machines.{AreDifferent}
use Rattle.tp_machine.specs.declared.machine.Machine.{Machine}
use Rattle.tp_schedule.specs.Legality.{IsLegal}
use Rattle.tp_schedule.specs.Plans.{AreNamed}
use Rattle.tp_schedule.specs.Spots.{Slot, slot_order}
use Rattle.tp_schedule.specs.declared.parts.Ask.{Ask}
use Rattle.tp_schedule.specs.declared.parts.Plan.{Plan}
use Rattle.tp_constraints.specs.Hops.{Hop, IsHop}
use Rattle.tp_constraints.specs.Hops.IsHop.{by_least, by_most, by_line, by_end, by_order, by_stop}
use Rattle.tp_constraints.specs.Suffixes.{Suffix, order_in}
use Rattle.tp_constraints.proofs.HeldSlots.{IsOn, order-on, own-on, placed-All}
use Rattle.tp_constraints.proofs.Lists.{contains-get}
use Rattle.tp_placing.specs.Causes.{IsNamedHop, hop_by, named_point, numbered, spot_name}
use Rattle.tp_placing.specs.declared.causes.EdgeCause.{EdgeCause}
use Rattle.tp_bound_laws.specs.Places.{Branch}
use Rattle.tp_bound_laws.specs.Told.{CanBeTold}
use Rattle.tp_bound_laws.proofs.AllowedLineHops.{hops_allowed}
use Rattle.tp_bound_laws.proofs.HopsTold.{hops_told}
use Rattle.tp_bound_make.specs.TellableReasons.{CanTell, IsTellable, IsTold, tell}
use Rattle.tp_bound_make.proofs.FollowedEdges.{IsAllowed}

module _ (machine : Machine) (plans : List Plan) (ask : Ask) where
  -- a resource with a hold is one of the machine's
  pub known-order : (x : Suffix) (resource i : ℕ) (a : Slot) → slice_get (order_in machine plans x resource) i ≡ Some a → resource < length machine.resources
  known-order x resource i a at =
      All-contains (IsOn machine resource) (order_in machine plans x resource) a
      (placed-All (IsOn machine resource) machine resource (slot_order machine plans resource) x.choices (own-on machine resource x.choices) (order-on machine resource plans))
      (contains-get (order_in machine plans x resource) i a at)

  pub may-tell : (x : Suffix) (last : Option PointId) (to : PointId) (h : Hop) → named_point plans last to ≡ spot_name plans (numbered plans to.0) → IsHop machine plans ask x h → CanTell machine plans last to h.kind
  may-tell x last to _ here (by_least a from end run) = here
  may-tell x last to _ here (by_most a from end run) = here
  may-tell x last to _ here (by_line p q in-p in-q before same) = here
  may-tell x last to _ here (by_end g in-g) = here
  may-tell x last to _ here (by_order resource i j a b below at-a at-b) = known-order x resource i a at-a
  may-tell x last to _ here (by_stop stopped) = tt

  can-tell : (x : Suffix) (h : Hop) → x.stopped ≡ false → IsHop machine plans ask x h → CanBeTold machine h.kind
  can-tell x _ going (by_least a from end run) = tt
  can-tell x _ going (by_most a from end run) = tt
  can-tell x _ going (by_line p q in-p in-q before same) = tt
  can-tell x _ going (by_end g in-g) = tt
  can-tell x _ going (by_order resource i j a b below at-a at-b) = known-order x resource i a at-a
  can-tell x _ going (by_stop stopped) = absurd cc

  -- the point has its own name, where it is not that of a limit behind all
  pub own-named : (last : Option PointId) (to : PointId) → last ≡ None → named_point plans last to ≡ spot_name plans (numbered plans to.0)
  own-named last to e = rw e refl

  pub before-limit : (last : Option PointId) (l to : PointId) → last ≡ Some l → to.0 < l.0 → named_point plans last to ≡ spot_name plans (numbered plans to.0)
  before-limit last l to e below = let no : (l.0 == to.0) ≡ false = grind (arith, nat_tests) in rw (e, no) refl

  module _ (b : Branch) (causes : List EdgeCause) where
    pub tellable : (last : Option PointId) (e : Edge) → named_point plans last e.to ≡ spot_name plans (numbered plans e.to.0) → IsNamedHop machine plans ask b.x causes e → IsTellable machine plans causes last e
    tellable last e here n = record { tag = n.tag; can = may-tell b.x last e.to (hop_by plans causes e) here n.is_hop }

    pub named-allowed : (limit : ℤ) → IsLegal machine plans → AreNamed plans → AreDifferent (map (λ r. r.name) machine.resources) → (e : Edge) → IsNamedHop machine plans ask b.x causes e
        → IsAllowed machine plans ask limit (record { branch = b; span = None }) causes e
    named-allowed limit legal named differ e n k told = hops_allowed machine plans ask limit b (hop_by plans causes e) k legal named differ n.is_hop told

    pub named-told : IsLegal machine plans → AreNamed plans → b.x.stopped ≡ false → (e : Edge) → IsNamedHop machine plans ask b.x causes e → IsTold (tell machine plans causes) e
    named-told legal named going e n = hops_told machine plans ask b (hop_by plans causes e) legal named n.is_hop (can-tell b.x (hop_by plans causes e) going n.is_hop)
