-- What a tree tells of the edges of a board's reason.
use Rattle.std.specs.Prelude.{◌≡◌, ℕ, ◌+◌, ◌<◌, ◌≤◌, ◌⊎◌, List, [], ◌∷◌, ◌++◌, length, take, drop, All, Option, Some, None, option_map, slice_get}
use Rattle.tp_base.specs.declared.edges.Edge.{Edge}
use Rattle.tp_base.specs.declared.edges.PointId.{PointId}
use Rattle.tp_base.specs.declared.edges.Proof.{Proof}
use Rattle.tp_base.specs.declared.edges.Proof.TheVariants.{Chain, Circle}
use Rattle.tp_base.specs.Net.{Net}
use Rattle.tp_base.specs.Refute.{Refutes}
use Rattle.tp_bounds.specs.declared.hops.Hop.{Hop as TreeHop}
use Rattle.tp_bounds.specs.declared.hops.Hop.TheVariants.{Duration, Line, «Resource» as Res}
use Rattle.tp_bounds.specs.declared.hops.TreeHold.{TreeHold}
use Rattle.tp_bounds.specs.declared.hops.TreeHold.TheVariants.{Own as OwnHold, Kept as KeptHold}
use Rattle.tp_bounds.specs.declared.hops.TreePoint.{TreePoint}
use Rattle.tp_bounds.specs.declared.hops.TreePoint.TheVariants.{Own as OwnPoint, Kept as KeptPoint}
use Rattle.tp_bounds.specs.declared.tree.Close.{Close}
use Rattle.tp_bounds.specs.declared.tree.Close.TheVariants.{Chain as ChainClose, Loop as LoopClose}
use Rattle.tp_machine.specs.declared.machine.Machine.{Machine}
use Rattle.tp_schedule.specs.declared.parts.Plan.{Plan}
use Rattle.tp_constraints.specs.Hops.{HopKind}
use Rattle.tp_constraints.specs.Hops.HopKind.{forward, back, line, order, stop, limit}
use Rattle.tp_placing.specs.Boards.{BoardValue}
use Rattle.tp_placing.specs.Causes.{hop_by, kind_of, named_point, numbered, spot_name}
use Rattle.tp_placing.specs.Reasons.{IsShown}
use Rattle.tp_placing.specs.declared.causes.EdgeCause.{EdgeCause}
use Rattle.tp_placing.specs.declared.reason_names.Grip.{Grip}
use Rattle.tp_placing.specs.declared.reason_names.Grip.TheVariants.{Own as OwnGrip, Kept as KeptGrip}
use Rattle.tp_placing.specs.declared.reason_names.Spot.{Spot as SpotName}
use Rattle.tp_placing.specs.declared.reason_names.Spot.TheVariants.{Own as OwnSpot, Kept as KeptSpot, Limit as LimitSpot}
use Rattle.tp_placing.specs.declared.reason_names.Why.{Why}
use Rattle.tp_placing.specs.declared.reason_names.Why.TheVariants.{Forward as WhyForward, Back as WhyBack, Line as WhyLine, Resource as WhyResource, Stop as WhyStop, Limit as WhyLimit}
use Rattle.tp_bound_laws.specs.Short.{hops_in, most_hops}
use Rattle.tp_bound_laws.specs.Told.{told}

-- the names of a board as those of a tree. The limit of a claimed end stands for the end
abbrev pub point_by : SpotName → TreePoint
point_by (OwnSpot n) = OwnPoint n
point_by (KeptSpot sheet i) = KeptPoint sheet i
point_by LimitSpot = OwnPoint 0

abbrev pub hold_by : Grip → TreeHold
hold_by (OwnGrip n) = OwnHold n
hold_by (KeptGrip sheet i) = KeptHold sheet i

-- what a tree tells of why an edge stands that leads to a point
abbrev pub told_why : Machine → Why → Option TreePoint → Option TreeHop
told_why machine WhyForward to = option_map (λ p. Duration p) to
told_why machine WhyBack to = option_map (λ p. Duration p) to
told_why machine WhyLine to = option_map (λ p. Line p) to
told_why machine (WhyResource resource before after) to = option_map (λ r. Res r.name (hold_by before) (hold_by after)) (slice_get machine.resources resource.0)
told_why machine WhyStop to = None
told_why machine WhyLimit to = None

-- a resource by which an edge stands is one of the machine's
abbrev pub IsKnownWhy : Machine → Why → Type 0
IsKnownWhy machine (WhyResource resource before after) = resource.0 < length machine.resources
IsKnownWhy machine WhyForward = Unit {0}
IsKnownWhy machine WhyBack = Unit {0}
IsKnownWhy machine WhyLine = Unit {0}
IsKnownWhy machine WhyStop = Unit {0}
IsKnownWhy machine WhyLimit = Unit {0}

-- an edge can be named, or is a stop or a limit: its resource is known, or it leads to a point that has its own name
abbrev pub CanTell : Machine → List Plan → Option PointId → PointId → HopKind → Type 0
CanTell machine plans last to forward = named_point plans last to ≡ spot_name plans (numbered plans to.0)
CanTell machine plans last to back = named_point plans last to ≡ spot_name plans (numbered plans to.0)
CanTell machine plans last to line = named_point plans last to ≡ spot_name plans (numbered plans to.0)
CanTell machine plans last to (order resource before after) = resource < length machine.resources
CanTell machine plans last to stop = Unit {0}
CanTell machine plans last to limit = Unit {0}

-- hops that are named, up to the first edge without a name
abbrev pub told_then : Option TreeHop → List TreeHop → List TreeHop
told_then None more = []
told_then (Some h) more = h ∷ more

abbrev pub told_until : (Edge → Option TreeHop) → List Edge → List TreeHop
told_until f [] = []
told_until f (e ∷ es) = told_then (f e) (told_until f es)

abbrev pub IsTold : (Edge → Option TreeHop) → Edge → Type 0
IsTold f e = (h : TreeHop) × (f e ≡ Some h)

-- the first edge without a name
pub record IsFirstUntold (f : Edge → Option TreeHop) (edges : List Edge) (at : ℕ) : Type 0 where
  pub edge : Edge
  pub within : at < length edges
  pub there : slice_get edges at ≡ Some edge
  pub untold : f edge ≡ None
  pub before : All (IsTold f) (take at edges)

-- what a tree tells of an edge with its cause
abbrev pub tell : Machine → List Plan → List EdgeCause → Edge → Option TreeHop
tell machine plans causes e = told machine plans (hop_by plans causes e)

abbrev pub IsNameOf : List Plan → Option PointId → PointId → TreePoint → Type 0
IsNameOf plans last point name = option_map point_by (named_point plans last point) ≡ Some name

pub record IsTellable (machine : Machine) (plans : List Plan) (causes : List EdgeCause) (last : Option PointId) (e : Edge) : Type 0 where
  pub tag : e.tag < length causes
  pub can : CanTell machine plans last e.to (kind_of plans (slice_get causes e.tag))

module _ (machine : Machine) (plans : List Plan) (causes : List EdgeCause) (last : Option PointId) where
  -- all edges of a circle are named, and their loop is the close
  pub record IsLoopOf (edges : List Edge) (close : Close) : Type 0 where
    pub all : All (IsTold (tell machine plans causes)) edges
    pub edge : Edge
    pub there : slice_get edges 0 ≡ Some edge
    pub first : TreePoint
    pub named : IsNameOf plans last edge.from first
    pub is : close ≡ LoopClose first (told_until (tell machine plans causes) edges)

  -- the close is the chain round from the end of the first edge without a name
  pub record IsCutOf (edges : List Edge) (close : Close) : Type 0 where
    pub at : ℕ
    pub cut : IsFirstUntold (tell machine plans causes) edges at
    pub first : TreePoint
    pub named : IsNameOf plans last cut.edge.to first
    pub is : close ≡ ChainClose first (told_until (tell machine plans causes) (drop (at + 1) edges) ++ told_until (tell machine plans causes) (take at edges))

  pub record IsChainOf (point : PointId) (edges : List Edge) (close : Close) : Type 0 where
    pub first : TreePoint
    pub named : IsNameOf plans last point first
    pub is : close ≡ ChainClose first (told_until (tell machine plans causes) edges)

  -- the close that tells of a proof
  abbrev pub IsCloseOf : Proof → Close → Type 0
  IsCloseOf (Chain first edges) close = IsChainOf first edges.now close
  IsCloseOf (Circle edges) close = IsLoopOf edges.now close ⊎ IsCutOf edges.now close

-- what is kept of the last refusal is of this net, all of whose edges can be named, or are stops or limits
pub record IsTellableReason {N : Type 0} (refutes : N → Net → Type 0) (machine : Machine) (b : BoardValue N) : Type 0 where
  pub net : Net
  pub shown : IsShown refutes b.net net
  pub edges : All (IsTellable machine b.plans b.causes b.limit) net.edges
  pub ends : All (λ e. e.to.0 < length net.lows) net.edges
  pub few : length net.lows ≤ most_hops

-- the close tells of a proof that refutes all that the last refusal shows, and passes no more points than there can be
pub record IsToldReason {N : Type 0} (refutes : N → Net → Type 0) (machine : Machine) (b : BoardValue N) (close : Close) : Type 0 where
  pub proof : Proof
  pub refuted : (late : Net) → refutes b.net late → Refutes late proof
  pub tells : IsCloseOf machine b.plans b.causes b.limit proof close
  pub few : hops_in close ≤ most_hops
