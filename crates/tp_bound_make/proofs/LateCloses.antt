-- What tells of the refusal of a branch that is not stopped closes its node.
use Rattle.std.proofs.Common.{◌≡◌, inl, inr, ℕ, suc, ◌+◌, ◌<◌, false, List, [], ◌∷◌, ◌++◌, length, map, refl, sym, ◌∙◌, ap, subst, arith, All, Contains, Option, Some, None}
use Rattle.std.specs.Prelude.{ℤ, pos, ◌≤ℤ◌, ◌<ℤ◌, ◌+ℤ◌, slice_get, slice_index}
use Rattle.std.proofs.lemmas.Int.{ints}
use Rattle.std.proofs.lemmas.List.{append-nil}
use Rattle.std.proofs.lemmas.List.Elements.{All-contains}
use Rattle.tp_base.specs.declared.edges.Edge.{Edge}
use Rattle.tp_base.specs.declared.edges.PointId.{PointId}
use Rattle.tp_base.specs.declared.edges.Proof.{Proof}
use Rattle.tp_base.specs.declared.edges.Proof.TheVariants.{Chain, Circle}
use Rattle.tp_base.specs.Net.{Net}
use Rattle.tp_base.specs.Refute.{Leads, Refutes, total_weight}
use Rattle.tp_bounds.specs.declared.hops.TreePoint.{TreePoint}
use Rattle.tp_bounds.specs.declared.tree.Close.{Close}
use Rattle.tp_bounds.specs.declared.tree.Head.{Head}
use Rattle.tp_bounds.specs.declared.tree.TreeRow.{TreeRow}
use Rattle.tp_machine.specs.Machines.{AreDifferent}
use Rattle.tp_machine.specs.declared.machine.Machine.{Machine}
use Rattle.tp_schedule.specs.Legality.{IsLegal}
use Rattle.tp_schedule.specs.Plans.{AreNamed}
use Rattle.tp_schedule.specs.Spots.{Spot}
use Rattle.tp_schedule.specs.declared.parts.Ask.{Ask}
use Rattle.tp_schedule.specs.declared.parts.Plan.{Plan}
use Rattle.tp_constraints.specs.Nets.{IsBoardNet}
use Rattle.tp_constraints.specs.Numbers.{IsEdgeOf}
use Rattle.tp_constraints.proofs.Lists.{all-by, contains-get}
use Rattle.tp_placing.specs.Causes.{IsNamedHop, numbered}
use Rattle.tp_placing.specs.Reasons.{IsPart}
use Rattle.tp_placing.specs.LoadedBoard.{table_with}
use Rattle.tp_placing.specs.declared.causes.EdgeCause.{EdgeCause}
use Rattle.tp_bound_laws.specs.Chains.{low, spot_of}
use Rattle.tp_bound_laws.specs.Once.{PassesOnce}
use Rattle.tp_bound_laws.specs.Places.{Branch, Stand}
use Rattle.tp_bound_laws.specs.Trees.{chain_look, close_look, loop_look}
use Rattle.tp_bound_laws.specs.Trees.Look.{due}
use Rattle.tp_bound_make.specs.TellableReasons.{IsCloseOf, IsNameOf, IsTold, tell, told_until}
use Rattle.tp_bound_make.proofs.FollowedEdges.{IsAllowed, IsWhole, walked}
use Rattle.tp_bound_make.proofs.OnceFacts.{AreEdges, chain-passes, loop-passes}
use Rattle.tp_bound_make.proofs.HopFacts.{named-allowed, named-told, own-named}
use Rattle.tp_bound_make.proofs.NetFrames.{IsFrame, chain-closes, loop-closes, name-found, net-frame, table-length}

-- the edge is one of those
pub cut-in : (before behind es : List Edge) (e : Edge) → es ≡ before ++ e ∷ behind → Contains es e
cut-in before behind es e parts = subst (λ xs. Contains xs e) (sym parts) (inside before) where
  inside : (xs : List Edge) → Contains (xs ++ e ∷ behind) e
  inside [] = (0, omega arith, refl)
  inside (y ∷ xs) = let h = inside xs in (suc h.0, omega (arith, h.1), h.2)

module _ (machine : Machine) (plans : List Plan) (ask : Ask) (rows : List TreeRow) (limit : ℤ) (s : Stand) (causes : List EdgeCause) (late : Net) (points : ℕ) (frame : IsFrame machine plans ask rows limit s late points) where
  abbrev count : ℕ
  count = length s.branch.x.choices

  -- a chain all of whose edges are named
  pub whole-closes : (first last : ℕ) (edges : List Edge) (name : TreePoint) → IsWhole machine plans ask limit s causes first last edges → first < points → last < points
      → pos (slice_index late.caps last) <ℤ (pos (slice_index late.lows first) +ℤ total_weight edges) → spot_of plans count name ≡ Some (numbered plans first)
      → chain_look machine plans ask rows limit s (spot_of plans count name) (told_until (tell machine plans causes) edges) ≡ due []
  whole-closes first last edges name w a b passes found =
      let least = frame.lows first a in
      let most = frame.caps last b in
      chain-closes machine plans ask rows limit s name (numbered plans first) (numbered plans last) (pos (low machine plans ask limit s (numbered plans first)) +ℤ total_weight edges) (told_until (tell machine plans causes) edges) found
      (w.leads 0 (pos (low machine plans ask limit s (numbered plans first)))) (omega (arith, ints))

  -- a loop
  pub loop-whole : (first : ℕ) (edges : List Edge) (name : TreePoint) → IsWhole machine plans ask limit s causes first first edges → pos 0 <ℤ total_weight edges → spot_of plans count name ≡ Some (numbered plans first)
      → loop_look machine plans ask rows limit s (spot_of plans count name) (told_until (tell machine plans causes) edges) ≡ due []
  loop-whole first edges name w positive found =
      loop-closes machine plans ask rows limit s name (numbered plans first) (pos 0 +ℤ total_weight edges) (told_until (tell machine plans causes) edges) found (w.leads 0 (pos 0)) (omega (arith, ints))

-- where a circle begins
pub circle-first : (edges : List Edge) (e : Edge) (first : ℕ) → slice_get edges 0 ≡ Some e → Leads first edges first → e.from.0 ≡ first
circle-first [] e first at leads = absurd cc
circle-first (d ∷ edges) e first at leads = let same : d ≡ e = cc in subst (λ (q : Edge). q.from.0 ≡ first) same leads.0

module _ (machine : Machine) (plans : List Plan) (ask : Ask) (rows : List TreeRow) (limit : ℤ) (b : Branch) (causes : List EdgeCause) where
  abbrev alone : Stand
  alone = record { branch = b; span = None }

  pub record IsSetting : Type 0 where
    pub legal : IsLegal machine plans
    pub named : AreNamed plans
    pub differ : AreDifferent (map (λ r. r.name) machine.resources)
    pub by : limit ≤ℤ pos (ask.now + machine.window)

  pub late-closes : (net late : Net) (last : Option PointId) (proof : Proof) (close : Close) (head : Head) → IsSetting → b.x.stopped ≡ false → last ≡ None
      → IsBoardNet machine plans ask b.x (table_with plans (suc (length b.x.choices))) net → All (IsNamedHop machine plans ask b.x causes) net.edges → IsPart late net
      → Refutes late proof → IsCloseOf machine plans causes last proof close → close_look machine plans ask rows limit alone head close ≡ due []
  late-closes net late last proof close head set going none is hops part = of proof where
    table : List Spot
    table = table_with plans (suc (length b.x.choices))

    frame : IsFrame machine plans ask rows limit alone late (length (table_with plans (suc (length b.x.choices))))
    frame = net-frame machine plans ask rows limit alone net late is part set.by (λ u. absurd cc)

    size : length late.lows ≡ length (table_with plans (suc (length b.x.choices)))
    size = part.points ∙ table-length machine plans ask rows limit alone net is

    named-in : (edges : List Edge) → All (Contains late.edges) edges → All (IsNamedHop machine plans ask b.x causes) edges
    named-in edges in' = all-by (IsNamedHop machine plans ask b.x causes) edges net.edges (all-by (Contains net.edges) edges late.edges in' part.edges) hops

    allowed-in : (edges : List Edge) → All (IsNamedHop machine plans ask b.x causes) edges → All (IsAllowed machine plans ask limit alone causes) edges
    allowed-in edges all k d w = named-allowed machine plans ask b causes limit set.legal set.named set.differ _ (all k d w)

    told-in : (edges : List Edge) (e : Edge) → All (IsNamedHop machine plans ask b.x causes) edges → Contains edges e → tell machine plans causes e ≡ None → ⊥
    told-in edges e all in' untold = let t = named-told machine plans ask b causes set.legal set.named going e (All-contains (IsNamedHop machine plans ask b.x causes) edges e all in') in let h = t.1 in absurd cc

    found : (point : PointId) (name : TreePoint) → point.0 < length (table_with plans (suc (length b.x.choices))) → IsNameOf plans last point name → spot_of plans (length b.x.choices) name ≡ Some (numbered plans point.0)
    found point name below told = name-found machine plans ask rows limit alone set.legal.in_order set.named last point name (frame.known point.0 below) (own-named machine plans ask last point none) told

    from-known : (edges : List Edge) → All (Contains late.edges) edges → (e : Edge) → Contains edges e → e.from.0 < length (table_with plans (suc (length b.x.choices)))
    from-known edges in' e has = (All-contains (IsEdgeOf table) edges e (all-by (IsEdgeOf table) edges net.edges (all-by (Contains net.edges) edges late.edges in' part.edges) is.edges) has).0

    of : (proof : Proof) → Refutes late proof → IsCloseOf machine plans causes last proof close → close_look machine plans ask rows limit alone head close ≡ due []
    of (Chain first edges) r c =
        let all = named-in edges.now r.in_net in
        let a = r.known in
        let z = r.last_known in
        let n = size in
        ap (close_look machine plans ask rows limit alone head) c.is ∙ elim (walked machine plans ask limit alone causes edges.now first.0 r.last (allowed-in edges.now all) r.leads) [
          | inl w ↦ whole-closes machine plans ask rows limit alone causes late (length (table_with plans (suc (length b.x.choices)))) frame first.0 r.last edges.now c.first w (omega arith) (omega arith) r.passes (found first c.first (omega arith) c.named)
          | inr k ↦ absurd (told-in edges.now k.edge all (cut-in k.before k.behind edges.now k.edge k.parts) k.untold)
        ]
    of (Circle edges) r c =
        let all = named-in edges.now r.in_net in
        elim c [
          | inl l ↦
              let begins = circle-first edges.now l.edge r.first l.there r.leads in
              ap (close_look machine plans ask rows limit alone head) l.is ∙ elim (walked machine plans ask limit alone causes edges.now r.first r.first (allowed-in edges.now all) r.leads) [
                | inl w ↦
                    loop-whole machine plans ask rows limit alone causes late (length (table_with plans (suc (length b.x.choices)))) frame r.first edges.now l.first w r.positive
                    (subst (λ q. spot_of plans (length b.x.choices) l.first ≡ Some (numbered plans q)) begins (found l.edge.from l.first (from-known edges.now r.in_net l.edge (contains-get edges.now 0 l.edge l.there)) l.named))
                | inr k ↦ absurd (told-in edges.now k.edge all (cut-in k.before k.behind edges.now k.edge k.parts) k.untold)
              ]
          | inr k ↦ absurd (told-in edges.now k.cut.edge all (contains-get edges.now k.at k.cut.edge k.cut.there) k.cut.untold)
        ]

  -- its hops pass no point twice
  pub late-once : (net late : Net) (last : Option PointId) (proof : Proof) (close : Close) → IsSetting → b.x.stopped ≡ false → last ≡ None
      → IsBoardNet machine plans ask b.x (table_with plans (suc (length b.x.choices))) net → All (IsNamedHop machine plans ask b.x causes) net.edges → IsPart late net
      → Refutes late proof → IsCloseOf machine plans causes last proof close → PassesOnce machine plans ask limit alone close
  late-once net late last proof close set going none is hops part = of proof where
    frame : IsFrame machine plans ask rows limit alone late (length (table_with plans (suc (length b.x.choices))))
    frame = net-frame machine plans ask rows limit alone net late is part set.by (λ u. absurd cc)

    size : length late.lows ≡ length (table_with plans (suc (length b.x.choices)))
    size = part.points ∙ table-length machine plans ask rows limit alone net is

    edges-in : (edges : List Edge) (a z : ℕ) → All (Contains late.edges) edges → Leads a edges z → AreEdges machine plans ask limit alone causes is.is_table.differ a z edges
    edges-in edges a z in' leads =
        let inside = all-by (Contains net.edges) edges late.edges in' part.edges in
        let all = all-by (IsNamedHop machine plans ask b.x causes) edges net.edges inside hops in
        record {
          known = λ k d w. (all-by (IsEdgeOf (table_with plans (suc (length b.x.choices)))) edges net.edges inside is.edges k d w).1;
          allowed = λ k d w. named-allowed machine plans ask b causes limit set.legal set.named set.differ _ (all k d w);
          told = λ k d w. named-told machine plans ask b causes set.legal set.named going _ (all k d w);
          leads = leads;
        }

    found : (point : PointId) (name : TreePoint) → point.0 < length (table_with plans (suc (length b.x.choices))) → IsNameOf plans last point name → spot_of plans (length b.x.choices) name ≡ Some (numbered plans point.0)
    found point name below told = name-found machine plans ask rows limit alone set.legal.in_order set.named last point name (frame.known point.0 below) (own-named machine plans ask last point none) told

    of : (proof : Proof) → Refutes late proof → IsCloseOf machine plans causes last proof close → PassesOnce machine plans ask limit alone close
    of (Chain first edges) r c =
        let a = r.known in
        let n = size in
        subst (PassesOnce machine plans ask limit alone) (sym c.is)
        (chain-passes machine plans ask limit alone causes is.is_table.differ c.first first.0 r.last edges.now [] edges.now (sym (append-nil edges.now)) (edges-in edges.now first.0 r.last r.in_net r.leads) refl r.apart (omega arith) (found first c.first (omega arith) c.named))
    of (Circle edges) r c =
        let known = edges-in edges.now r.first r.first r.in_net r.leads in
        elim c [
          | inl l ↦
              let begins = circle-first edges.now l.edge r.first l.there r.leads in
              let below = (all-by (IsEdgeOf (table_with plans (suc (length b.x.choices)))) edges.now net.edges (all-by (Contains net.edges) edges.now late.edges r.in_net part.edges) is.edges) in
              let from = (All-contains (IsEdgeOf (table_with plans (suc (length b.x.choices)))) edges.now l.edge below (contains-get edges.now 0 l.edge l.there)).0 in
              subst (PassesOnce machine plans ask limit alone) (sym l.is)
              (loop-passes machine plans ask limit alone causes is.is_table.differ l.first r.first r.first edges.now known r.apart (subst (λ q. spot_of plans (length b.x.choices) l.first ≡ Some (numbered plans q)) begins (found l.edge.from l.first from l.named)))
          | inr k ↦ let t = All-contains (IsTold (tell machine plans causes)) edges.now k.cut.edge known.told (contains-get edges.now k.at k.cut.edge k.cut.there) in let yes = t.1 in let no = k.cut.untold in absurd cc
        ]
