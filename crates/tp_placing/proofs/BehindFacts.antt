-- The plan that is to be added is the last one, and the first point of it is the board's last.
use Rattle.std.proofs.Common.{◌≡◌, ◌∙◌, ℕ, ◌+◌, ◌<◌, ◌≤◌, ◌^◌, List, ap, arith, length, subst, sym, Some, Option, None}
use Rattle.std.specs.Prelude.{slice_get}
use Rattle.std.proofs.lemmas.List.{length-append}
use Rattle.std.proofs.lemmas.Option.{same_Some, slice_get_within}
use Rattle.tp_base.proofs.SliceFacts.{slice_get_last}
use Rattle.tp_base.specs.Net.{Net}
use Rattle.tp_base.specs.declared.edges.PointId.{PointId}
use Rattle.tp_machine.specs.declared.machine.Machine.{Machine}
use Rattle.tp_schedule.specs.declared.parts.Plan.{Plan}
use Rattle.tp_constraints.specs.Numbers.{table_of}
use Rattle.tp_constraints.specs.AddedPlan.{with_plan}
use Rattle.tp_placing.specs.AddedEdges.{IsBehind, behind_edge, own_edges}
use Rattle.tp_placing.specs.Loaded.{CanLoad}
use Rattle.tp_placing.specs.LoadedNet.{acts_edges, point_count, point_id}
use Rattle.tp_placing.specs.LoadedBoard.{AreFirsts}
use Rattle.tp_placing.specs.declared.causes.EdgeCause.{EdgeCause}
use Rattle.tp_placing.specs.declared.parts.Held.{Held}
use Rattle.tp_placing.proofs.LoadHops.{acts-count}
use Rattle.tp_placing.proofs.LoadTable.{length-table-of}
use Rattle.tp_placing.proofs.TableFacts.{begins-at, length-firsts}

module _ (machine : Machine) (now : ℕ) (all : List Plan) (n : Net) (timelines : List (List ℕ)) (held : List Held) (firsts : List PointId) (last : ℕ) (causes : List EdgeCause) (b : IsBehind machine now all n timelines held firsts last causes) where
  pub as-many : length firsts ≡ length b.plans
  as-many = length-firsts 0 b.plans firsts b.loaded.at_firsts

  pub newest-at : slice_get all (length firsts) ≡ Some b.newest
  newest-at = ap (λ ps. slice_get ps (length firsts)) b.are ∙ ap (slice_get (with_plan b.plans b.newest)) as-many ∙ slice_get_last b.plans b.newest

  pub one-behind : length firsts < length all
  one-behind = slice_get_within all (length firsts) b.newest newest-at

  module _ (p : Plan) (at : slice_get all (length firsts) ≡ Some p) where
    is-newest : b.newest ≡ p
    is-newest = same_Some b.newest p (sym newest-at ∙ at)

    pub with-it : all ≡ with_plan b.plans p
    with-it = b.are ∙ ap (with_plan b.plans) is-newest

    pub can-with : CanLoad machine now (with_plan b.plans p)
    can-with = subst (λ q. CanLoad machine now (with_plan b.plans q)) is-newest b.can

-- the last point of each plan has a small number
pub ends-fit : (plans : List Plan) (firsts : List PointId) → AreFirsts 0 plans firsts → point_count plans ≤ 16640 → (k : ℕ) (f : PointId) (q : Plan) → slice_get firsts k ≡ Some f → slice_get plans k ≡ Some q → f.0 + length q.acts < 2 ^ 32
ends-fit plans firsts are few k f q at here =
    let b = begins-at 0 plans firsts k q f are here at in
    let e = b.1 in
    let w = slice_get_within (table_of plans) (b.0 + length q.acts) _ (b.2.get (length q.acts) (omega arith)) in
    let l = length-table-of plans in
    omega arith

-- the edges of a plan are few
pub own-count : (machine : Machine) (first : PointId) (p : Plan) (o : Option PointId) → length p.acts ≤ 64 → length (own_edges machine first p o) ≤ 129
own-count machine first p o few =
    let a = acts-count machine first.0 p.acts in
    let l = length-append (acts_edges machine first.0 p.acts) (behind_edge o (point_id (first.0 + length p.acts))) in
    let one = go o in
    omega arith where
      go : (q : Option PointId) → length (behind_edge q (point_id (first.0 + length p.acts))) ≤ 1
      go None = omega arith
      go (Some x) = omega arith
