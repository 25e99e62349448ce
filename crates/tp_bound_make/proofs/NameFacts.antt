-- The names of a board's points, holds and causes are those of a tree.
use Rattle.std.proofs.Common.{◌≡◌, ℕ, ◌+◌, List, refl, sym, ◌∙◌, ap, subst, Option, Some, None}
use Rattle.std.specs.Prelude.{slice_get, option_map, option_and_then}
use Rattle.tp_base.specs.declared.edges.PointId.{PointId}
use Rattle.tp_bounds.specs.declared.hops.Hop.TheVariants.{Duration, Line, «Resource» as Res}
use Rattle.tp_bounds.specs.declared.hops.TreeHold.{TreeHold}
use Rattle.tp_bounds.specs.declared.hops.TreeHold.TheVariants.{Kept as KeptHold}
use Rattle.tp_bounds.specs.declared.hops.TreePoint.{TreePoint}
use Rattle.tp_bounds.specs.declared.hops.TreePoint.TheVariants.{Kept as KeptPoint}
use Rattle.tp_machine.specs.declared.parts.Resource.{Resource}
use Rattle.tp_machine.specs.declared.machine.Machine.{Machine}
use Rattle.tp_schedule.specs.Plans.{plan_of}
use Rattle.tp_schedule.specs.Spots.{Spot}
use Rattle.tp_schedule.specs.Spots.Spot.{kept, own}
use Rattle.tp_schedule.specs.declared.parts.Plan.{Plan}
use Rattle.tp_constraints.specs.Hops.{HopKind}
use Rattle.tp_constraints.specs.Hops.HopKind.{forward, back, line, order, stop, limit}
use Rattle.tp_placing.specs.Causes.{grip_name, name_of_plan, named_point, numbered, spot_name, why_name}
use Rattle.tp_placing.specs.declared.reason_names.Grip.{Grip}
use Rattle.tp_placing.specs.declared.reason_names.Grip.TheVariants.{Kept as KeptGrip}
use Rattle.tp_placing.specs.declared.reason_names.Spot.TheVariants.{Kept as KeptSpot}
use Rattle.tp_placing.specs.declared.reason_names.Why.{Why}
use Rattle.tp_placing.specs.declared.reason_names.Why.TheVariants.{Forward as WhyForward, Back as WhyBack, Line as WhyLine, Resource as WhyResource, Stop as WhyStop, Limit as WhyLimit}
use Rattle.tp_bound_laws.specs.Told.{hold_name, point_name, resource_hop, sheet_name, told_by}
use Rattle.tp_bound_make.specs.TellableReasons.{CanTell, IsKnownWhy, IsNameOf, hold_by, point_by, told_why}

module _ (plans : List Plan) where
  pub points-by : (s : Spot) → point_name plans s ≡ option_map point_by (spot_name plans s)
  points-by (own n) = refl
  points-by (kept c i) = go (plan_of c plans) where
    go : (o : Option Plan) → option_map (λ p. KeptPoint (sheet_name p) i) o ≡ option_map point_by (option_map (λ p. KeptSpot (name_of_plan p) i) o)
    go None = refl
    go (Some p) = refl

  holds-by : (s : Spot) → hold_name plans s ≡ option_map hold_by (grip_name plans s)
  holds-by (own n) = refl
  holds-by (kept c i) = go (plan_of c plans) where
    go : (o : Option Plan) → option_map (λ p. KeptHold (sheet_name p) (i + 1)) o ≡ option_map hold_by (option_map (λ p. KeptGrip (name_of_plan p) (i + 1)) o)
    go None = refl
    go (Some p) = refl

  -- the names of the two holds of a cause
  record AreGrips (resource : ℕ) (before after : Spot) (w : Why) : Type 0 where
    one : Grip
    other : Grip
    is_one : grip_name plans before ≡ Some one
    is_other : grip_name plans after ≡ Some other
    is : WhyResource (record { 0 = resource }) one other ≡ w

  are-grips : (resource : ℕ) (before after : Spot) (w : Why) → why_name plans (order resource before after) ≡ Some w → AreGrips resource before after w
  are-grips resource before after w e = go (grip_name plans before) (grip_name plans after) refl refl e where
    go : (x y : Option Grip) → grip_name plans before ≡ x → grip_name plans after ≡ y → option_and_then (λ a. option_map (λ b. WhyResource (record { 0 = resource }) a b) y) x ≡ Some w → AreGrips resource before after w
    go None y u v h = absurd cc
    go (Some a) None u v h = absurd cc
    go (Some a) (Some b) u v h = record { one = a; other = b; is_one = u; is_other = v; is = cc }

module _ (machine : Machine) (plans : List Plan) (last : Option PointId) (to : PointId) where
  pub own-name : (p : TreePoint) → named_point plans last to ≡ spot_name plans (numbered plans to.0) → IsNameOf plans last to p → point_name plans (numbered plans to.0) ≡ Some p
  own-name p can name = points-by plans (numbered plans to.0) ∙ ap (option_map point_by) (sym can) ∙ name

  pub known-why : (kind : HopKind) (w : Why) → why_name plans kind ≡ Some w → CanTell machine plans last to kind → IsKnownWhy machine w
  known-why forward w e can = let same : WhyForward ≡ w = cc in subst (IsKnownWhy machine) same tt
  known-why back w e can = let same : WhyBack ≡ w = cc in subst (IsKnownWhy machine) same tt
  known-why line w e can = let same : WhyLine ≡ w = cc in subst (IsKnownWhy machine) same tt
  known-why (order resource before after) w e can = subst (IsKnownWhy machine) (are-grips plans resource before after w e).is can
  known-why stop w e can = let same : WhyStop ≡ w = cc in subst (IsKnownWhy machine) same tt
  known-why limit w e can = let same : WhyLimit ≡ w = cc in subst (IsKnownWhy machine) same tt

  pub why-told : (p : TreePoint) (kind : HopKind) (w : Why) → why_name plans kind ≡ Some w → CanTell machine plans last to kind → IsNameOf plans last to p
      → told_by machine plans kind (numbered plans to.0) ≡ told_why machine w (Some p)
  why-told p forward w e can name =
      let same : WhyForward ≡ w = cc in
      subst (λ v. told_by machine plans forward (numbered plans to.0) ≡ told_why machine v (Some p)) same (ap (option_map (λ q. Duration q)) (own-name p can name))
  why-told p back w e can name =
      let same : WhyBack ≡ w = cc in
      subst (λ v. told_by machine plans back (numbered plans to.0) ≡ told_why machine v (Some p)) same (ap (option_map (λ q. Duration q)) (own-name p can name))
  why-told p line w e can name =
      let same : WhyLine ≡ w = cc in
      subst (λ v. told_by machine plans line (numbered plans to.0) ≡ told_why machine v (Some p)) same (ap (option_map (λ q. Line q)) (own-name p can name))
  why-told p (order resource before after) w e can name =
      let g = are-grips plans resource before after w e in
      let x : hold_name plans before ≡ Some (hold_by g.one) = holds-by plans before ∙ ap (option_map hold_by) g.is_one in
      let y : hold_name plans after ≡ Some (hold_by g.other) = holds-by plans after ∙ ap (option_map hold_by) g.is_other in
      subst (λ v. told_by machine plans (order resource before after) (numbered plans to.0) ≡ told_why machine v (Some p)) g.is (go (hold_by g.one) (hold_by g.other) (slice_get machine.resources resource) x y) where
        go : (a b : TreeHold) (o : Option Resource) → hold_name plans before ≡ Some a → hold_name plans after ≡ Some b → option_and_then (resource_hop plans before after) o ≡ option_map (λ r. Res r.name a b) o
        go a b None x y = refl
        go a b (Some r) x y = ap (option_and_then (λ q. option_map (λ s. Res r.name q s) (hold_name plans after))) x ∙ ap (option_map (λ s. Res r.name a s)) y
  why-told p stop w e can name = let same : WhyStop ≡ w = cc in subst (λ v. told_by machine plans stop (numbered plans to.0) ≡ told_why machine v (Some p)) same refl
  why-told p limit w e can name = let same : WhyLimit ≡ w = cc in subst (λ v. told_by machine plans limit (numbered plans to.0) ≡ told_why machine v (Some p)) same refl
