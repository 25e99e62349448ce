-- What tells of the refusal of an end by the limit closes the node of a branch that is not stopped.
use Rattle.std.proofs.Common.{◌≡◌, ◌⊎◌, inl, inr, ℕ, zero, suc, ◌<◌, ◌≤◌, false, List, [], ◌∷◌, ◌++◌, length, refl, sym, ◌∙◌, ap, subst, arith, All, Contains, Option, Some, None}
use Rattle.std.specs.Prelude.{pos, ◌<ℤ◌, ◌+ℤ◌, slice_get, slice_index}
use Rattle.std.proofs.lemmas.Int.{ints}
use Rattle.std.proofs.lemmas.List.{append-nil, length-append, length-map}
use Rattle.std.proofs.lemmas.List.Elements.{All-append, All-cons, All-nil, All-contains, All-head, All-tail}
use Rattle.tp_base.specs.declared.edges.Edge.{Edge}
use Rattle.tp_base.specs.declared.edges.PointId.{PointId}
use Rattle.tp_base.specs.declared.edges.Proof.{Proof}
use Rattle.tp_base.specs.declared.edges.Proof.TheVariants.{Chain, Circle}
use Rattle.tp_base.specs.Net.{Net}
use Rattle.tp_base.specs.Refute.{AreApart, Leads, Refutes, ends_of, total_weight}
use Rattle.tp_bounds.specs.declared.hops.TreePoint.{TreePoint}
use Rattle.tp_bounds.specs.declared.tree.Close.{Close}
use Rattle.tp_bounds.specs.declared.tree.Head.{Head}
use Rattle.tp_bounds.specs.declared.tree.TreeRow.{TreeRow}
use Rattle.tp_machine.specs.declared.machine.Machine.{Machine}
use Rattle.tp_schedule.specs.Spots.Spot.{own}
use Rattle.tp_schedule.specs.declared.parts.Ask.{Ask}
use Rattle.tp_schedule.specs.declared.parts.Plan.{Plan}
use Rattle.tp_constraints.specs.Nets.{IsBoardNet}
use Rattle.tp_constraints.specs.Numbers.{IsEdgeOf}
use Rattle.tp_constraints.specs.Suffixes.{suffix_cap}
use Rattle.tp_constraints.proofs.Lists.{All-split, all-by, contains-get}
use Rattle.tp_placing.specs.Causes.{IsNamedHop, kind_of, limit_tag, numbered}
use Rattle.tp_placing.specs.Edges.{edge_of}
use Rattle.tp_placing.specs.Reasons.{IsPart, with_limit}
use Rattle.tp_placing.specs.LoadedBoard.{table_with}
use Rattle.tp_placing.specs.declared.causes.EdgeCause.{EdgeCause}
use Rattle.tp_placing.specs.declared.causes.EdgeCause.TheVariants.{Limit}
use Rattle.tp_placing.proofs.CauseFacts.{numbered-in}
use Rattle.tp_bound_laws.specs.Chains.{low, spot_of}
use Rattle.tp_bound_laws.specs.Chains.Led.{led}
use Rattle.tp_bound_laws.specs.Once.{PassesOnce}
use Rattle.tp_bound_laws.specs.Places.{Branch, Stand}
use Rattle.tp_bound_laws.specs.Trees.{chain_look, close_look}
use Rattle.tp_bound_laws.specs.Trees.Look.{due}
use Rattle.tp_bound_laws.specs.Told.{told_by}
use Rattle.tp_bound_make.specs.TellableReasons.{IsCloseOf, IsNameOf, IsTold, tell, told_then, told_until}
use Rattle.tp_bound_make.proofs.FollowedEdges.{IsAllowed, IsCut, walked}
use Rattle.tp_bound_make.proofs.OnceFacts.{AreEdges, apart-front, chain-passes, ends-append, loop-passes}
use Rattle.tp_bound_make.proofs.HopFacts.{before-limit, named-allowed, named-told}
use Rattle.tp_bound_make.proofs.LateCloses.{IsSetting, circle-first, cut-in, loop-whole, whole-closes}
use Rattle.tp_bound_make.proofs.TellFacts.{get-within}
use Rattle.tp_bound_make.proofs.NetFrames.{IsFrame, chain-closes, name-found, table-length, table-point, cap-below}

-- one number is below another or not
pub nat-cases : (a b : ℕ) → (a < b) ⊎ (b ≤ a)
nat-cases zero zero = inr (omega arith)
nat-cases zero (suc b) = inl (omega arith)
nat-cases (suc a) zero = inr (omega arith)
nat-cases (suc a) (suc b) = elim (nat-cases a b) [ inl h ↦ inl (omega (arith, h)) | inr h ↦ inr (omega (arith, h)) ]

-- behind the last of a list
index-behind : (xs : List ℕ) (x : ℕ) → slice_index (xs ++ x ∷ []) (length xs) ≡ x
index-behind [] x = refl
index-behind (y ∷ xs) x = index-behind xs x

index-before : (xs : List ℕ) (x i : ℕ) → i < length xs → slice_index (xs ++ x ∷ []) i ≡ slice_index xs i
index-before [] x i below = absurd (omega (arith, below))
index-before (y ∷ xs) x zero below = refl
index-before (y ∷ xs) x (suc i) below = index-before xs x i (omega (arith, below))

module _ (machine : Machine) (plans : List Plan) (ask : Ask) (rows : List TreeRow) (b : Branch) (causes : List EdgeCause) (final : ℕ) where
  abbrev alone : Stand
  alone = record { branch = b; span = None }

  abbrev points : ℕ
  points = length (table_with plans (suc (length b.x.choices)))

  abbrev Named : Edge → Type 0
  Named = IsNamedHop machine plans ask b.x causes

  module _ (net : Net) (end : PointId) (set : IsSetting machine plans ask rows (pos final) b causes) (going : b.x.stopped ≡ false) (caused : slice_get causes limit_tag ≡ Some Limit)
      (is : IsBoardNet machine plans ask b.x (table_with plans (suc (length b.x.choices))) net) (hops : All (IsNamedHop machine plans ask b.x causes) net.edges)
      (is_end : slice_get (table_with plans (suc (length b.x.choices))) end.0 ≡ Some (own 0)) where
    abbrev whole : Net
    whole = with_limit net end final

    abbrev limit_edge : Edge
    limit_edge = edge_of end (record { 0 = length net.lows }) (pos 0) limit_tag

    size : length net.lows ≡ points
    size = table-length machine plans ask rows (pos final) alone net is

    -- an edge of the network with the limit: one of the board's, between its points, or the limit's
    abbrev Either : Edge → Type 0
    Either e = (IsNamedHop machine plans ask b.x causes e × IsEdgeOf (table_with plans (suc (length b.x.choices))) e) ⊎ (limit_edge ≡ e)

    either-all : All Either whole.edges
    either-all = All-append Either net.edges (limit_edge ∷ []) (λ k d w. inl (hops k d w, is.edges k d w)) (All-cons Either limit_edge [] (inr refl) (All-nil Either))

    -- the limit has no name
    limit-untold : tell machine plans causes limit_edge ≡ None
    limit-untold = ap (λ o. told_by machine plans (kind_of plans o) (numbered plans (length net.lows))) caused

    allowed : (e : Edge) → Either e → IsAllowed machine plans ask (pos final) alone causes e
    allowed e (inl h) = named-allowed machine plans ask b causes (pos final) set.legal set.named set.differ e h.0
    allowed e (inr same) = subst (IsAllowed machine plans ask (pos final) alone causes) same (λ k told. let no = limit-untold in absurd cc)

    -- no edge begins at the limit's point
    from-known : (e : Edge) → Either e → e.from.0 < points
    from-known e (inl h) = h.1.0
    from-known e (inr same) = let h = get-within (table_with plans (suc (length b.x.choices))) end.0 (own 0) is_end in subst (λ (q : Edge). q.from.0 < points) same h

    rest-none : (es : List Edge) (z : ℕ) → All Either es → Leads (length net.lows) es z → (es ≡ []) × (length net.lows ≡ z)
    rest-none [] z all leads = (refl, leads)
    rest-none (e ∷ es) z all leads = let h = from-known e (All-head Either e es all) in let n = size in let l = leads.0 in absurd (omega (arith, h, n, l))

    -- told edges lead to points of the board
    ends-known : (es : List Edge) (a z : ℕ) → All Either es → All (IsTold (tell machine plans causes)) es → Leads a es z → a < points → z < points
    ends-known [] a z all told leads below = subst (λ q. q < points) leads below
    ends-known (e ∷ es) a z all told leads below =
        ends-known es e.to.0 z (All-tail Either e es all) (All-tail (IsTold (tell machine plans causes)) e es told) leads.1 (go (All-head Either e es all) (All-head (IsTold (tell machine plans causes)) e es told)) where
          go : Either e → IsTold (tell machine plans causes) e → e.to.0 < points
          go (inl h) t = h.1.1
          go (inr same) t = let no : tell machine plans causes e ≡ None = subst (λ q. tell machine plans causes q ≡ None) same limit-untold in let yes = t.1 in absurd cc

    begins-known : (es : List Edge) (a z : ℕ) → All Either es → pos 0 <ℤ total_weight es → Leads a es z → a < points
    begins-known [] a z all positive leads = absurd (omega (arith, ints))
    begins-known (e ∷ es) a z all positive leads = subst (λ q. q < points) leads.0 (from-known e (All-head Either e es all))

    module _ (late : Net) (part : IsPart late whole) where
      longer : length late.lows ≡ suc points
      longer = let a = part.points in let n = length-append net.lows (0 ∷ []) in let s = size in omega (arith, a, n, s)

      low-at : (i : ℕ) → i < points → slice_index late.lows i ≤ slice_index net.lows i
      low-at i below = let n = longer in let s = size in let l = part.lows i (omega (arith, n, below)) in let same = index-before net.lows 0 i (omega (arith, s, below)) in omega (arith, l, same)

      caps-at : (i : ℕ) → i < points → slice_index late.caps i ≡ slice_index net.caps i
      caps-at i below = ap (λ l. slice_index l i) part.caps ∙ index-before net.caps final i (let s = same-caps in omega (arith, s, below)) where
        same-caps : length net.caps ≡ points
        same-caps = ap length is.caps ∙ length-map (table_with plans (suc (length b.x.choices))) (suffix_cap machine plans ask)

      -- the limit's point
      limit-low : slice_index late.lows points ≤ 0
      limit-low =
          let n = longer in
          let l = part.lows points (omega (arith, n)) in
          let same : slice_index (net.lows ++ 0 ∷ []) points ≡ 0 = subst (λ q. slice_index (net.lows ++ 0 ∷ []) q ≡ 0) size (index-behind net.lows 0) in
          omega (arith, l, same)

      limit-cap : slice_index late.caps points ≡ final
      limit-cap =
          let same : length net.caps ≡ points = ap length is.caps ∙ length-map (table_with plans (suc (length b.x.choices))) (suffix_cap machine plans ask) in
          ap (λ l. slice_index l points) part.caps ∙ subst (λ q. slice_index (net.caps ++ final ∷ []) q ≡ final) same (index-behind net.caps final)

      frame : IsFrame machine plans ask rows (pos final) alone late points
      frame = record {
        enough = let n = longer in omega (arith, n);
        known = λ i below. (table-point machine plans ask rows (pos final) alone net is i below).known;
        lows = λ i below. let p = (table-point machine plans ask rows (pos final) alone net is i below).low in let l = low-at i below in omega (arith, p, l);
        caps = λ i below. let p = (table-point machine plans ask rows (pos final) alone net is i below).cap in let c = caps-at i below in let e = cap-below machine plans ask rows (pos final) alone (numbered plans i) set.by (λ u. absurd cc) in omega (arith, ints);
      }

      either-in : (edges : List Edge) → All (Contains late.edges) edges → All Either edges
      either-in edges in' = all-by Either edges whole.edges (all-by (Contains whole.edges) edges late.edges in' part.edges) either-all

      allowed-in : (edges : List Edge) → All Either edges → All (IsAllowed machine plans ask (pos final) alone causes) edges
      allowed-in edges all k d w = allowed _ (all k d w)

      -- a late chain begins at a point of the board
      first-known : (edges : List Edge) (first last : ℕ) → All Either edges → Leads first edges last → first < length late.lows → pos (slice_index late.caps last) <ℤ (pos (slice_index late.lows first) +ℤ total_weight edges) → first < points
      first-known edges first last all leads below passes = go (nat-cases first points) where
        go : (first < points) ⊎ (points ≤ first) → first < points
        go (inl h) = h
        go (inr h) =
            let n = longer in
            let s = size in
            let at : length net.lows ≡ first = omega (arith, n, s, h, below) in
            let r = rest-none edges last all (subst (λ q. Leads q edges last) (sym at) leads) in
            let none : total_weight edges ≡ pos 0 = ap total_weight r.0 in
            let here : first ≡ points = omega (arith, at, s) in
            let there : last ≡ points = omega (arith, r.1, s) in
            let low : slice_index late.lows first ≤ 0 = subst (λ q. slice_index late.lows q ≤ 0) (sym here) limit-low in
            absurd (omega (arith, ints))

      found : (last : Option PointId) → last ≡ Some (record { 0 = length net.lows }) → (point : PointId) (name : TreePoint) → point.0 < points → IsNameOf plans last point name → spot_of plans (length b.x.choices) name ≡ Some (numbered plans point.0)
      found last some point name below told =
          name-found machine plans ask rows (pos final) alone set.legal.in_order set.named last point name (frame.known point.0 below)
          (before-limit machine plans ask last (record { 0 = length net.lows }) point some (let s = size in omega (arith, s, below))) told

      -- an edge without a name is the limit's
      is-limit : (e : Edge) → Either e → tell machine plans causes e ≡ None → limit_edge ≡ e
      is-limit e (inl h) untold = let t = named-told machine plans ask b causes set.legal set.named going e h.0 in let yes = t.1 in absurd cc
      is-limit e (inr same) untold = same

      pub end-closes : (last : Option PointId) (proof : Proof) (close : Close) (head : Head) → last ≡ Some (record { 0 = length net.lows }) → Refutes late proof → IsCloseOf machine plans causes last proof close
          → close_look machine plans ask rows (pos final) alone head close ≡ due []
      end-closes last (Chain first edges) close head some r c =
          let all = either-in edges.now r.in_net in
          let below = first-known edges.now first.0 r.last all r.leads r.known r.passes in
          ap (close_look machine plans ask rows (pos final) alone head) c.is ∙ elim (walked machine plans ask (pos final) alone causes edges.now first.0 r.last (allowed-in edges.now all) r.leads) [
            | inl w ↦ whole-closes machine plans ask rows (pos final) alone causes late points frame first.0 r.last edges.now c.first w below (ends-known edges.now first.0 r.last all w.all r.leads below) r.passes (found last some first c.first below c.named)
            | inr k ↦
                let cut = is-limit k.edge (All-contains Either edges.now k.edge all (cut-in k.before k.behind edges.now k.edge k.parts)) k.untold in
                at-limit first edges.now r.last c.first below all r.passes (found last some first c.first below c.named) k cut
          ] where
            at-limit : (first : PointId) (edges : List Edge) (z : ℕ) (name : TreePoint) → first.0 < points → All Either edges → pos (slice_index late.caps z) <ℤ (pos (slice_index late.lows first.0) +ℤ total_weight edges)
                → spot_of plans (length b.x.choices) name ≡ Some (numbered plans first.0) → (k : IsCut machine plans ask (pos final) alone causes first.0 z edges) → limit_edge ≡ k.edge
                → chain_look machine plans ask rows (pos final) alone (spot_of plans (length b.x.choices) name) (told_until (tell machine plans causes) edges) ≡ due []
            at-limit first edges z name below all passes here k cut =
                let behind-all = All-tail Either k.edge k.behind (All-drop-front k.before (k.edge ∷ k.behind) (subst (All Either) k.parts all)) in
                let rest = rest-none k.behind z behind-all (subst (λ (e : Edge). Leads e.to.0 k.behind z) (sym cut) k.rest) in
                let s = size in
                let top : slice_index late.caps z ≡ final = subst (λ q. slice_index late.caps q ≡ final) (sym s ∙ rest.1) limit-cap in
                let none : total_weight k.behind ≡ pos 0 = ap total_weight rest.0 in
                let weight : k.edge.weight ≡ pos 0 = subst (λ (e : Edge). e.weight ≡ pos 0) cut refl in
                let total = k.total in
                let least = frame.lows first.0 below in
                let from : numbered plans k.edge.from.0 ≡ own 0 = subst (λ (e : Edge). numbered plans e.from.0 ≡ own 0) cut (numbered-in plans (suc (length b.x.choices)) end.0 (own 0) is_end) in
                chain-closes machine plans ask rows (pos final) alone name (numbered plans first.0) (own 0) (pos (low machine plans ask (pos final) alone (numbered plans first.0)) +ℤ total_weight k.before) (told_until (tell machine plans causes) edges) here
                (k.leads 0 (pos (low machine plans ask (pos final) alone (numbered plans first.0))) ∙ ap (λ p. led p (pos (low machine plans ask (pos final) alone (numbered plans first.0)) +ℤ total_weight k.before)) from) (omega (arith, ints)) where
                  All-drop-front : (xs ys : List Edge) → All Either (xs ++ ys) → All Either ys
                  All-drop-front xs ys h = (All-split Either xs ys h).1
      end-closes last (Circle edges) close head some r c =
          let all = either-in edges.now r.in_net in
          let below = begins-known edges.now r.first r.first all r.positive r.leads in
          elim c [
            | inl l ↦
                let begins = circle-first edges.now l.edge r.first l.there r.leads in
                ap (close_look machine plans ask rows (pos final) alone head) l.is ∙ elim (walked machine plans ask (pos final) alone causes edges.now r.first r.first (allowed-in edges.now all) r.leads) [
                  | inl w ↦
                      loop-whole machine plans ask rows (pos final) alone causes late points frame r.first edges.now l.first w r.positive
                      (subst (λ q. spot_of plans (length b.x.choices) l.first ≡ Some (numbered plans q)) begins (found last some l.edge.from l.first (subst (λ q. q < points) (sym begins) below) l.named))
                  | inr k ↦ absurd (round edges.now r.first all below k)
                ]
            | inr m ↦ elim (walked machine plans ask (pos final) alone causes edges.now r.first r.first (allowed-in edges.now all) r.leads) [
              | inl w ↦ let t = All-contains (IsTold (tell machine plans causes)) edges.now m.cut.edge w.all (contains-get edges.now m.at m.cut.edge m.cut.there) in let yes = t.1 in let no = m.cut.untold in absurd cc
              | inr k ↦ absurd (round edges.now r.first all below k)
            ]
          ] where
            round : (edges : List Edge) (first : ℕ) → All Either edges → first < points → IsCut machine plans ask (pos final) alone causes first first edges → ⊥
            round edges first all below k =
                let cut = is-limit k.edge (All-contains Either edges k.edge all (cut-in k.before k.behind edges k.edge k.parts)) k.untold in
                let behind-all = All-tail Either k.edge k.behind (All-split Either k.before (k.edge ∷ k.behind) (subst (All Either) k.parts all)).1 in
                let rest = rest-none k.behind first behind-all (subst (λ (e : Edge). Leads e.to.0 k.behind first) (sym cut) k.rest) in
                let s = size in
                let there = rest.1 in
                absurd (omega (arith, s, there, below))

      -- its hops pass no point twice
      told-ends : (es : List Edge) → All Either es → All (IsTold (tell machine plans causes)) es → All (λ e. e.to.0 < points) es
      told-ends es all told k d w = go _ (all k d w) (told k d w) where
        go : (e : Edge) → Either e → IsTold (tell machine plans causes) e → e.to.0 < points
        go e (inl h) t = h.1.1
        go e (inr same) t = let no : tell machine plans causes e ≡ None = subst (λ q. tell machine plans causes q ≡ None) same limit-untold in let yes = t.1 in absurd cc

      edges-of : (es : List Edge) (a z : ℕ) → All Either es → All (IsTold (tell machine plans causes)) es → Leads a es z → AreEdges machine plans ask (pos final) alone causes is.is_table.differ a z es
      edges-of es a z all told leads = record { known = told-ends es all told; allowed = allowed-in es all; told = told; leads = leads }

      no-circle : (edges : List Edge) (first : ℕ) → All Either edges → first < points → IsCut machine plans ask (pos final) alone causes first first edges → ⊥
      no-circle edges first all below k =
          let cut = is-limit k.edge (All-contains Either edges k.edge all (cut-in k.before k.behind edges k.edge k.parts)) k.untold in
          let behind-all = All-tail Either k.edge k.behind (All-split Either k.before (k.edge ∷ k.behind) (subst (All Either) k.parts all)).1 in
          let rest = rest-none k.behind first behind-all (subst (λ (e : Edge). Leads e.to.0 k.behind first) (sym cut) k.rest) in
          let s = size in
          let there = rest.1 in
          absurd (omega (arith, s, there, below))

      pub end-once : (last : Option PointId) (proof : Proof) (close : Close) → last ≡ Some (record { 0 = length net.lows }) → Refutes late proof → IsCloseOf machine plans causes last proof close → PassesOnce machine plans ask (pos final) alone close
      end-once last (Chain first edges) close some r c =
          let all = either-in edges.now r.in_net in
          let below = first-known edges.now first.0 r.last all r.leads r.known r.passes in
          let here = found last some first c.first below c.named in
          subst (PassesOnce machine plans ask (pos final) alone) (sym c.is) (elim (walked machine plans ask (pos final) alone causes edges.now first.0 r.last (allowed-in edges.now all) r.leads) [
            | inl w ↦ chain-passes machine plans ask (pos final) alone causes is.is_table.differ c.first first.0 r.last edges.now [] edges.now (sym (append-nil edges.now)) (edges-of edges.now first.0 r.last all w.all r.leads) refl r.apart below here
            | inr k ↦
                let parted = subst (All Either) k.parts all in
                let front = (All-split Either k.before (k.edge ∷ k.behind) parted).0 in
                let apart = subst AreApart (ap (λ ns. first.0 ∷ ns) (ap ends_of k.parts ∙ ends-append k.before (k.edge ∷ k.behind))) r.apart in
                chain-passes machine plans ask (pos final) alone causes is.is_table.differ c.first first.0 k.edge.from.0 k.before (k.edge ∷ k.behind) edges.now k.parts (edges-of k.before first.0 k.edge.from.0 front k.all k.first)
                (ap (λ o. told_then o (told_until (tell machine plans causes) k.behind)) k.untold) (apart-front (first.0 ∷ ends_of k.before) (ends_of (k.edge ∷ k.behind)) apart) below here
          ])
      end-once last (Circle edges) close some r c =
          let all = either-in edges.now r.in_net in
          let below = begins-known edges.now r.first r.first all r.positive r.leads in
          elim c [
            | inl l ↦
                let begins = circle-first edges.now l.edge r.first l.there r.leads in
                subst (PassesOnce machine plans ask (pos final) alone) (sym l.is)
                (loop-passes machine plans ask (pos final) alone causes is.is_table.differ l.first r.first r.first edges.now (edges-of edges.now r.first r.first all l.all r.leads) r.apart
                (subst (λ q. spot_of plans (length b.x.choices) l.first ≡ Some (numbered plans q)) begins (found last some l.edge.from l.first (subst (λ q. q < points) (sym begins) below) l.named)))
            | inr m ↦ elim (walked machine plans ask (pos final) alone causes edges.now r.first r.first (allowed-in edges.now all) r.leads) [
              | inl w ↦ let t = All-contains (IsTold (tell machine plans causes)) edges.now m.cut.edge w.all (contains-get edges.now m.at m.cut.edge m.cut.there) in let yes = t.1 in let no = m.cut.untold in absurd cc
              | inr k ↦ absurd (no-circle edges.now r.first all below k)
            ]
          ]
