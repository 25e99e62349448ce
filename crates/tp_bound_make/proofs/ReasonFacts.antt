-- The edges of a proof are few and can be named, where those of its network can.
use Rattle.std.proofs.Common.{◌≡◌, ◌⊎◌, inl, inr, ℕ, zero, suc, ◌+◌, ◌<◌, ◌≤◌, Bor, List, [], ◌∷◌, length, length-drop, drop, take, sym, subst, ap, arith, All, Contains, Option, Result, Ok, Err}
use Rattle.std.specs.Result.{IfOk, OnOk}
use Rattle.std.specs.Prelude.{pos, ◌<ℤ◌, slice_index}
use Rattle.std.proofs.lemmas.Int.{ints}
use Rattle.std.proofs.lemmas.List.{length-append, length-map, length-take-le}
use Rattle.std.proofs.lemmas.List.Elements.{All-head, All-tail}
use Rattle.tp_base.specs.declared.edges.Edge.{Edge}
use Rattle.tp_base.specs.declared.edges.PointId.{PointId}
use Rattle.tp_base.specs.declared.edges.Proof.{Proof}
use Rattle.tp_base.specs.declared.edges.Proof.TheVariants.{Chain, Circle}
use Rattle.tp_base.specs.Net.{Net}
use Rattle.tp_base.specs.Refute.{IsLateChain, IsLateCircle, Refutes, ends_of, total_weight}
use Rattle.tp_base.proofs.TraceFacts.{apart-short}
use Rattle.tp_machine.specs.declared.machine.Machine.{Machine}
use Rattle.tp_constraints.proofs.Lists.{all-by}
use Rattle.tp_placing.specs.Boards.{BoardValue}
use Rattle.tp_base.specs.declared.errors.Memory.{Memory}
use Rattle.tp_bounds.specs.declared.tree.Close.{Close}
use Rattle.tp_placing.specs.Reasons.{IsShown}
use Rattle.tp_placing.proofs.PartFacts.{shown-whole}
use Rattle.tp_schedule.specs.declared.parts.Plan.{Plan}
use Rattle.tp_placing.specs.declared.causes.EdgeCause.{EdgeCause}
use Rattle.tp_bounds.specs.declared.hops.Hop.{Hop as TreeHop}
use Rattle.tp_bound_laws.specs.Short.{hops_in, most_hops}
use Rattle.tp_bound_make.specs.TellableReasons.{IsChainOf, IsCloseOf, IsCutOf, IsLoopOf, IsTellable, IsTellableReason, IsToldReason, tell, told_until}
use Rattle.tp_bound_make.proofs.TellFacts.{told-few}

ends-below : (n : ℕ) (es : List Edge) → All (λ (e : Edge). e.to.0 < n) es → (i : ℕ) → i < length (ends_of es) → slice_index (ends_of es) i < n
ends-below n [] all i below = absurd (omega (arith, below))
ends-below n (e ∷ es) all zero below = All-head (λ (e : Edge). e.to.0 < n) e es all
ends-below n (e ∷ es) all (suc i) below = ends-below n es (All-tail (λ (e : Edge). e.to.0 < n) e es all) i (omega (arith, below))

some-edges : (es : List Edge) → pos 0 <ℤ total_weight es → 0 < length es
some-edges [] positive = absurd (omega (arith, ints))
some-edges (e ∷ es) positive = omega arith

module _ {N : Type 0} (refutes : N → Net → Type 0) (machine : Machine) (b : BoardValue N) (reason : IsTellableReason refutes machine b) where
  abbrev Tellable : Edge → Type 0
  Tellable = IsTellable machine b.plans b.causes b.limit

  -- what a caller of the names is to know of edges
  pub record AreFit (edges : List Edge) : Type 0 where
    pub tellable : All (IsTellable machine b.plans b.causes b.limit) edges
    pub few : length edges < 4294967294
    pub short : length edges ≤ most_hops

  ends : (edges : List Edge) → All (Contains reason.net.edges) edges → (i : ℕ) → i < length (ends_of edges) → slice_index (ends_of edges) i < length reason.net.lows
  ends edges in' = ends-below (length reason.net.lows) edges (all-by (λ (e : Edge). e.to.0 < length reason.net.lows) edges reason.net.edges in' reason.ends)

  pub chain-fits : (first : ℕ) (edges : List Edge) → IsLateChain reason.net first edges → AreFit edges
  chain-fits first edges late =
      let short = apart-short (first ∷ ends_of edges) (length reason.net.lows) late.apart below in
      let count = length-map edges (λ (e : Edge). e.to.0) in
      let few = reason.few in
      record { tellable = all-by Tellable edges reason.net.edges late.in_net reason.edges; few = omega arith; short = omega arith } where
        below : (i : ℕ) → i < length (first ∷ ends_of edges) → slice_index (first ∷ ends_of edges) i < length reason.net.lows
        below zero h = late.known
        below (suc i) h = ends edges late.in_net i (omega (arith, h))

  pub circle-fits : (edges : List Edge) → IsLateCircle reason.net edges → AreFit edges × (0 < length edges)
  circle-fits edges late =
      let short = apart-short (ends_of edges) (length reason.net.lows) late.apart (ends edges late.in_net) in
      let count = length-map edges (λ (e : Edge). e.to.0) in
      let few = reason.few in
      (record { tellable = all-by Tellable edges reason.net.edges late.in_net reason.edges; few = omega arith; short = omega arith }, some-edges edges late.positive)

pub chain-late : (net : Net) (p : Proof) (first : PointId) (edges : Bor (List Edge)) → p ≡ Chain first edges → Refutes net p → IsLateChain net first.0 edges.now
chain-late net p first edges is late = subst (Refutes net) is late

pub circle-late : (net : Net) (p : Proof) (edges : Bor (List Edge)) → p ≡ Circle edges → Refutes net p → IsLateCircle net edges.now
circle-late net p edges is late = subst (Refutes net) is late

pub ok-map : {X E : Type 0} (P Q : X → Type 0) (r : Result X E) → ((x : X) → P x → Q x) → IfOk r P → IfOk r Q
ok-map P Q (Ok x) f h = f x h
ok-map P Q (Err e) f h = tt

-- a close tells no more hops than its proof has edges
module _ (machine : Machine) (plans : List Plan) (causes : List EdgeCause) (last : Option PointId) (edges : List Edge) (close : Close) (short : length edges ≤ most_hops) where
  abbrev tells : Edge → Option TreeHop
  tells = tell machine plans causes

  pub chain-short : (point : PointId) → IsChainOf machine plans causes last point edges close → hops_in close ≤ most_hops
  chain-short point told = omega (arith, ap hops_in told.is, told-few tells edges, short)

  pub circle-short : IsLoopOf machine plans causes last edges close ⊎ IsCutOf machine plans causes last edges close → hops_in close ≤ most_hops
  circle-short (inl told) = omega (arith, ap hops_in told.is, told-few tells edges, short)
  circle-short (inr told) =
      let behind = told-few tells (drop (told.at + 1) edges) in
      let before = told-few tells (take told.at edges) in
      let rest = length-drop (told.at + 1) edges in
      let front = length-take-le told.at edges (omega (arith, told.cut.within)) in
      let both = length-append (told_until tells (drop (told.at + 1) edges)) (told_until tells (take told.at edges)) in
      omega (arith, ap hops_in told.is, told.cut.within, behind, before, rest, front, both, short)

pub told-reason : {N : Type 0} (refutes : N → Net → Type 0) (machine : Machine) (b : BoardValue N) (p q : Proof) → ((net : Net) → IsShown refutes b.net net → Refutes net p) → p ≡ q
    → ((close : Close) → IsCloseOf machine b.plans b.causes b.limit q close → hops_in close ≤ most_hops) → (r : Result Close Memory) → IfOk r (IsCloseOf machine b.plans b.causes b.limit q) → IfOk r (IsToldReason refutes machine b)
told-reason refutes machine b p q refuted is few r tells = ok-map (IsCloseOf machine b.plans b.causes b.limit q) (IsToldReason refutes machine b) r (λ close h. record {
  proof = p;
  refuted = λ late shown. refuted late (shown-whole refutes b.net late shown);
  tells = subst (λ o. IsCloseOf machine b.plans b.causes b.limit o close) (sym is) h;
  few = few close h;
}) tells

pub on-map : {X E : Type 0} (P Q : Type 0) (r : Result X E) → (P → Q) → OnOk r P → OnOk r Q
on-map P Q (Ok x) f h = f h
on-map P Q (Err e) f h = tt
