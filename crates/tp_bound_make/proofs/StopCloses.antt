-- What tells of the refusal of a stop closes the node of the stopped branch: a chain that comes to the first point later than
-- the front's end, or one from the front's end on.
use Rattle.std.proofs.Common.{◌≡◌, inl, inr, ℕ, zero, suc, ◌+◌, ◌<◌, true, ◌==◌, List, [], ◌∷◌, ◌++◌, length, take, drop, refl, sym, ◌∙◌, ap, subst, arith, All, Contains, Option, Some, None}
use Rattle.std.specs.Prelude.{ℤ, pos, ◌<ℤ◌, ◌+ℤ◌, slice_index}
use Rattle.std.proofs.lemmas.Bool.Decides.{nat_tests}
use Rattle.std.proofs.lemmas.Int.{ints}
use Rattle.std.proofs.lemmas.List.{append-nil, take-append-drop}
use Rattle.std.proofs.lemmas.List.Elements.{All-append, All-contains, All-head, All-tail}
use Rattle.tp_base.specs.declared.edges.Edge.{Edge}
use Rattle.tp_base.specs.declared.edges.PointId.{PointId}
use Rattle.tp_base.specs.declared.edges.Proof.{Proof}
use Rattle.tp_base.specs.declared.edges.Proof.TheVariants.{Chain, Circle}
use Rattle.tp_base.specs.Net.{Net}
use Rattle.tp_base.specs.Refute.{AreApart, Leads, Refutes, ends_of, total_weight}
use Rattle.tp_bounds.specs.declared.hops.Hop.{Hop as TreeHop}
use Rattle.tp_bounds.specs.declared.hops.TreePoint.{TreePoint}
use Rattle.tp_bounds.specs.declared.tree.Close.{Close}
use Rattle.tp_bounds.specs.declared.tree.Head.{Head}
use Rattle.tp_bounds.specs.declared.tree.TreeRow.{TreeRow}
use Rattle.tp_machine.specs.declared.parts.State.{State}
use Rattle.tp_machine.specs.declared.machine.Machine.{Machine}
use Rattle.tp_schedule.specs.Answers.{IsAsked, kept_of}
use Rattle.tp_schedule.specs.Choices.{start_floor}
use Rattle.tp_schedule.specs.Spots.{Spot, Ticks}
use Rattle.tp_schedule.specs.Spots.Spot.{kept, own}
use Rattle.tp_schedule.specs.declared.parts.Ask.{Ask}
use Rattle.tp_schedule.specs.declared.parts.Plan.{Plan}
use Rattle.tp_constraints.specs.Gaps.{Gap}
use Rattle.tp_constraints.specs.Hops.{Hop}
use Rattle.tp_constraints.specs.Nets.{IsBoardNet}
use Rattle.tp_constraints.specs.Numbers.{IsEdgeOf}
use Rattle.tp_constraints.specs.Suffixes.{IsInFlight, Suffix, SuffixTimes, with_stop}
use Rattle.tp_constraints.proofs.EndLine.{front-tick}
use Rattle.tp_constraints.proofs.Lists.{All-split, all-by, contains-get, get-there}
use Rattle.tp_placing.specs.Causes.{IsNamedHop, numbered}
use Rattle.tp_placing.specs.Reasons.{IsPart}
use Rattle.tp_placing.specs.LoadedBoard.{table_with}
use Rattle.tp_placing.specs.declared.causes.EdgeCause.{EdgeCause}
use Rattle.tp_placing.proofs.CauseFacts.{numbered-in}
use Rattle.tp_bound_laws.specs.Chains.{cap, follow, gap_of, led_on, low, spot_of}
use Rattle.tp_bound_laws.specs.Chains.Led.{led}
use Rattle.tp_bound_laws.specs.Once.{PassesOnce, chain_once}
use Rattle.tp_bound_laws.specs.Places.{Branch, Stand}
use Rattle.tp_bound_laws.specs.Trees.{chain_look, close_look}
use Rattle.tp_bound_laws.specs.Trees.Look.{due}
use Rattle.tp_bound_make.specs.TellableReasons.{IsCloseOf, IsNameOf, IsTold, tell, told_then, told_until}
use Rattle.tp_bound_make.proofs.FollowedEdges.{IsAllowed, IsCut, IsWhole, walked}
use Rattle.tp_bound_make.proofs.OnceFacts.{AreEdges, apart-front, apart-turned, chain-passes, ends-append, leads-join, loop-passes, told-append}
use Rattle.tp_bound_make.proofs.HopFacts.{named-allowed, own-named}
use Rattle.tp_bound_make.proofs.KeptHops.{edges-kept, floor-early, points-within}
use Rattle.tp_bound_make.proofs.LateCloses.{IsSetting, circle-first, cut-in, loop-whole, whole-closes}
use Rattle.tp_bound_make.proofs.NetFrames.{IsFrame, chain-closes, name-found, net-frame, table-length, table-point}
use Rattle.tp_bound_make.proofs.StopFacts.{ends-once, front-low, leads-split, same-number, stop-or-told, total-split}
use Rattle.tp_bound_make.proofs.TellFacts.{drop-one}

-- hops that lead on, one list after another
module _ (machine : Machine) (plans : List Plan) (ask : Ask) (limit : ℤ) (s : Stand) where
  pub follow-append : (xs ys : List TreeHop) (k : ℕ) (p q z : Spot) (sum more all : ℤ) → follow machine plans ask limit s k p sum xs ≡ led q more → ((j : ℕ) → follow machine plans ask limit s j q more ys ≡ led z all)
      → follow machine plans ask limit s k p sum (xs ++ ys) ≡ led z all
  follow-append [] ys k p q z sum more all e rest =
      let same : p ≡ q = cc in
      let much : sum ≡ more = cc in
      subst (λ o. follow machine plans ask limit s k o sum ys ≡ led z all) (sym same) (subst (λ m. follow machine plans ask limit s k q m ys ≡ led z all) (sym much) (rest k))
  follow-append (h ∷ xs) ys k p q z sum more all e rest = go (gap_of machine plans ask limit s p h) e (λ g v. follow-append xs ys (suc k) g.to q z (sum +ℤ g.weight) more all v rest) where
    go : (o : Option Gap) → led_on k (λ g. follow machine plans ask limit s (suc k) g.to (sum +ℤ g.weight) xs) o ≡ led q more
        → ((g : Gap) → follow machine plans ask limit s (suc k) g.to (sum +ℤ g.weight) xs ≡ led q more → follow machine plans ask limit s (suc k) g.to (sum +ℤ g.weight) (xs ++ ys) ≡ led z all)
        → led_on k (λ g. follow machine plans ask limit s (suc k) g.to (sum +ℤ g.weight) (xs ++ ys)) o ≡ led z all
    go None v next = absurd cc
    go (Some g) v next = next g v

module _ (machine : Machine) (plans : List Plan) (ask : Ask) (rows : List TreeRow) (limit : ℤ) (depth : ℕ) (first : State) (x : Suffix) (causes : List EdgeCause) where
  abbrev b : Branch
  b = record { depth = depth; first = first; x = with_stop x }

  abbrev alone : Stand
  alone = record { branch = b; span = None }

  abbrev table : List Spot
  table = table_with plans (suc (length x.choices))

  abbrev Named : Edge → Type 0
  Named = IsNamedHop machine plans ask (with_stop x) causes

  abbrev floor : ℕ
  floor = start_floor machine ask.now ask.origin

  -- the first point of the stopped branch is to come by the front's end
  first-cap : 0 < length x.choices → cap machine plans ask limit alone (own (length x.choices)) ≡ pos floor
  first-cap some = go (length x.choices) refl some where
    go : (n : ℕ) → length x.choices ≡ n → 0 < n → cap machine plans ask limit alone (own n) ≡ pos floor
    go zero e h = absurd (omega (arith, h))
    go (suc n) e h = let t : (suc n == length x.choices) ≡ true = grind (arith, nat_tests) in rw t refl

  module _ (net late : Net) (set : IsSetting machine plans ask rows limit b causes) (asked : IsAsked machine plans ask) (flying : IsInFlight ask.origin) (some : 0 < length x.choices) (t : Ticks) (times : SuffixTimes machine plans ask x t)
      (is : IsBoardNet machine plans ask (with_stop x) table net) (hops : All (IsNamedHop machine plans ask (with_stop x) causes) net.edges) (part : IsPart late net) where
    frame : IsFrame machine plans ask rows limit alone late (length table)
    frame = net-frame machine plans ask rows limit alone net late is part set.by (λ _. floor-early machine plans ask limit set.legal x t times b refl)

    size : length late.lows ≡ length table
    size = part.points ∙ table-length machine plans ask rows limit alone net is

    -- an edge of the network: a hop with its cause, between its points
    abbrev Edged : Edge → Type 0
    Edged e = IsNamedHop machine plans ask (with_stop x) causes e × IsEdgeOf table e

    edged-in : (edges : List Edge) → All (Contains late.edges) edges → All Edged edges
    edged-in edges in' = all-by Edged edges net.edges (all-by (Contains net.edges) edges late.edges in' part.edges) (λ k d w. (hops k d w, is.edges k d w))

    allowed-in : (edges : List Edge) → All Edged edges → All (IsAllowed machine plans ask limit alone causes) edges
    allowed-in edges all k d w = named-allowed machine plans ask b causes limit set.legal set.named set.differ _ (all k d w).0

    found : (last : Option PointId) → last ≡ None → (point : PointId) (name : TreePoint) → point.0 < length table → IsNameOf plans last point name → spot_of plans (length x.choices) name ≡ Some (numbered plans point.0)
    found last none point name below told = name-found machine plans ask rows limit alone set.legal.in_order set.named last point name (frame.known point.0 below) (own-named machine plans ask last point none) told

    -- an edge without a name is the stop
    pub record IsStop (e : Edge) : Type 0 where
      pub from : numbered plans e.from.0 ≡ own (length x.choices)
      pub to : numbered plans e.to.0 ≡ kept ask.sheet (kept_of ask)
      pub weight : e.weight ≡ pos 0

    is-stop : (e : Edge) → Edged e → tell machine plans causes e ≡ None → IsStop e
    is-stop e edged untold = elim (stop-or-told machine plans ask b causes e set.legal set.named edged.0) [
      | inl h ↦ let yes = h.1 in absurd cc
      | inr h ↦ record { from = sym (ap (λ (q : Hop). q.gap.from) h); to = sym (ap (λ (q : Hop). q.gap.to) h); weight = sym (ap (λ (q : Hop). q.gap.weight) h) }
    ]

    -- there is one stop at most
    one-stop : (xs ys : List Edge) (e : Edge) → All Edged (xs ++ e ∷ ys) → AreApart (ends_of (xs ++ e ∷ ys)) → tell machine plans causes e ≡ None → (f : Edge) → Contains ys f → tell machine plans causes f ≡ None → ⊥
    one-stop xs ys e all apart untold f in' also =
        let split = (All-split Edged xs (e ∷ ys) all).1 in
        let x1 = All-head Edged e ys split in
        let x2 = All-contains Edged ys f (All-tail Edged e ys split) in' in
        let one = is-stop e x1 untold in
        let other = is-stop f x2 also in
        let g1 = get-there table e.to.0 x1.1.1 in
        let g2 = get-there table f.to.0 x2.1.1 in
        let s1 : g1.0 ≡ kept ask.sheet (kept_of ask) = sym (numbered-in plans (suc (length x.choices)) e.to.0 g1.0 g1.1) ∙ one.to in
        let s2 : g2.0 ≡ kept ask.sheet (kept_of ask) = sym (numbered-in plans (suc (length x.choices)) f.to.0 g2.0 g2.1) ∙ other.to in
        ends-once xs ys e f apart in' (same-number table e.to.0 f.to.0 (kept ask.sheet (kept_of ask)) is.is_table.differ (g1.1 ∙ ap (λ k. Some k) s1) (g2.1 ∙ ap (λ k. Some k) s2))

    -- all edges behind the stop are named
    all-behind : (xs ys : List Edge) (e : Edge) (m z : ℕ) → All Edged (xs ++ e ∷ ys) → AreApart (ends_of (xs ++ e ∷ ys)) → tell machine plans causes e ≡ None → Leads m ys z → IsWhole machine plans ask limit alone causes m z ys
    all-behind xs ys e m z all apart untold leads =
        let behind = All-tail Edged e ys (All-split Edged xs (e ∷ ys) all).1 in
        elim (walked machine plans ask limit alone causes ys m z (allowed-in ys behind) leads) [
          | inl w ↦ w
          | inr k ↦ absurd (one-stop xs ys e all apart untold k.edge (cut-in k.before k.behind ys k.edge k.parts) k.untold)
        ]

    front : t (kept ask.sheet (kept_of ask)) ≡ floor
    front = front-tick machine plans ask t asked flying times.keeps

    -- a late chain comes to the stop too late
    too-late : (edges : List Edge) (a z : ℕ) → All Edged edges → AreApart (ends_of edges) → a < length table → z < length table → pos (slice_index late.caps z) <ℤ (pos (slice_index late.lows a) +ℤ total_weight edges)
        → (k : IsCut machine plans ask limit alone causes a z edges) → pos floor <ℤ (pos (slice_index late.lows a) +ℤ total_weight k.before)
    too-late edges a z all apart below-a below-z passes k =
        let parted = subst (All Edged) k.parts all in
        let one = is-stop k.edge (All-head Edged k.edge k.behind (All-split Edged k.before (k.edge ∷ k.behind) parted).1) k.untold in
        let behind = All-tail Edged k.edge k.behind (All-split Edged k.before (k.edge ∷ k.behind) parted).1 in
        let w = all-behind k.before k.behind k.edge k.edge.to.0 z parted (subst (λ es. AreApart (ends_of es)) k.parts apart) k.untold k.rest in
        let rest = edges-kept machine plans ask limit set.legal x t times b refl causes k.behind k.edge.to.0 z (allowed-in k.behind behind) w.all k.rest in
        let here : t (numbered plans k.edge.to.0) ≡ floor = ap t one.to ∙ front in
        let top = (points-within machine plans ask limit set.legal x t times b refl (numbered plans z) (frame.known z below-z)).1 in
        let p = (table-point machine plans ask rows limit alone net is z below-z).cap in
        let c : slice_index late.caps z ≡ slice_index net.caps z = ap (λ l. slice_index l z) part.caps in
        let total = k.total in
        let weight = one.weight in
        omega (arith, ints)

    apart-behind : (a : ℕ) (edges : List Edge) → AreApart (a ∷ ends_of edges) → AreApart (ends_of edges)
    apart-behind a edges apart i j below within same = apart (suc i) (suc j) (omega (arith, below)) (omega (arith, within)) same

    of-chain : (last : Option PointId) (none : last ≡ None) (point : PointId) (edges : List Edge) (z : ℕ) (name : TreePoint) → All Edged edges → AreApart (ends_of edges) → Leads point.0 edges z → point.0 < length table → z < length table
        → pos (slice_index late.caps z) <ℤ (pos (slice_index late.lows point.0) +ℤ total_weight edges) → spot_of plans (length x.choices) name ≡ Some (numbered plans point.0)
        → chain_look machine plans ask rows limit alone (spot_of plans (length x.choices) name) (told_until (tell machine plans causes) edges) ≡ due []
    of-chain last none point edges z name all apart leads below-a below-z passes here = elim (walked machine plans ask limit alone causes edges point.0 z (allowed-in edges all) leads) [
      | inl w ↦ whole-closes machine plans ask rows limit alone causes late (length table) frame point.0 z edges name w below-a below-z passes here
      | inr k ↦
          let one = is-stop k.edge (All-contains Edged edges k.edge all (cut-in k.before k.behind edges k.edge k.parts)) k.untold in
          let late-there = too-late edges point.0 z all apart below-a below-z passes k in
          let least = frame.lows point.0 below-a in
          let top = first-cap some in
          let start = pos (low machine plans ask limit alone (numbered plans point.0)) in
          chain-closes machine plans ask rows limit alone name (numbered plans point.0) (own (length x.choices)) (start +ℤ total_weight k.before) (told_until (tell machine plans causes) edges) here
          (k.leads 0 start ∙ ap (λ p. led p (start +ℤ total_weight k.before)) one.from) (subst (λ q. q <ℤ (start +ℤ total_weight k.before)) (sym top) (omega (arith, ints)))
    ]

    -- the chain round a circle from the front's end on
    of-cut : (first' : ℕ) (xs ys : List Edge) (e : Edge) (name : TreePoint) → All Edged (xs ++ e ∷ ys) → AreApart (ends_of (xs ++ e ∷ ys)) → tell machine plans causes e ≡ None → All (IsTold (tell machine plans causes)) xs
        → Leads first' (xs ++ e ∷ ys) first' → pos 0 <ℤ total_weight (xs ++ e ∷ ys) → spot_of plans (length x.choices) name ≡ Some (numbered plans e.to.0)
        → chain_look machine plans ask rows limit alone (spot_of plans (length x.choices) name) (told_until (tell machine plans causes) ys ++ told_until (tell machine plans causes) xs) ≡ due []
    of-cut first' xs ys e name all apart untold told leads positive here =
        let s = All-split Edged xs (e ∷ ys) all in
        let one = is-stop e (All-head Edged e ys s.1) untold in
        let split = leads-split xs (e ∷ ys) first' first' leads in
        let w2 = all-behind xs ys e e.to.0 first' all apart untold split.2.1 in
        let start = pos (low machine plans ask limit alone (numbered plans e.to.0)) in
        let floor-low : low machine plans ask limit alone (numbered plans e.to.0) ≡ floor = ap (low machine plans ask limit alone) one.to ∙ front-low machine plans ask limit alone asked flying in
        let total = total-split xs (e ∷ ys) in
        let weight = one.weight in
        let top = first-cap some in
        let leads-on = follow-append machine plans ask limit alone (told_until (tell machine plans causes) ys) (told_until (tell machine plans causes) xs) 0 (numbered plans e.to.0) (numbered plans first') (numbered plans split.0) start (start +ℤ total_weight ys)
        ((start +ℤ total_weight ys) +ℤ total_weight xs) (w2.leads 0 start) (λ j. (told-whole xs first' split.0 s.0 told split.1).leads j (start +ℤ total_weight ys)) in
        chain-closes machine plans ask rows limit alone name (numbered plans e.to.0) (own (length x.choices)) ((start +ℤ total_weight ys) +ℤ total_weight xs) (told_until (tell machine plans causes) ys ++ told_until (tell machine plans causes) xs) here
        (leads-on ∙ ap (λ p. led p ((start +ℤ total_weight ys) +ℤ total_weight xs)) (ap (numbered plans) (sym split.2.0) ∙ one.from))
        (subst (λ q. q <ℤ ((start +ℤ total_weight ys) +ℤ total_weight xs)) (sym top) (omega (arith, ints))) where
          told-whole : (es : List Edge) (a z : ℕ) → All Edged es → All (IsTold (tell machine plans causes)) es → Leads a es z → IsWhole machine plans ask limit alone causes a z es
          told-whole es a z all-es told-es leads-es = elim (walked machine plans ask limit alone causes es a z (allowed-in es all-es) leads-es) [
            | inl w ↦ w
            | inr k ↦ let h = All-contains (IsTold (tell machine plans causes)) es k.edge told-es (cut-in k.before k.behind es k.edge k.parts) in let yes = h.1 in let no = k.untold in absurd cc
          ]

    pub stop-closes : (last : Option PointId) (proof : Proof) (close : Close) (head : Head) → last ≡ None → Refutes late proof → IsCloseOf machine plans causes last proof close → close_look machine plans ask rows limit alone head close ≡ due []
    stop-closes last (Chain point edges) close head none r c =
        let all = edged-in edges.now r.in_net in
        let n = size in
        let a = r.known in
        let z = r.last_known in
        ap (close_look machine plans ask rows limit alone head) c.is
        ∙ of-chain last none point edges.now r.last c.first all (apart-behind point.0 edges.now r.apart) r.leads (omega (arith, n, a)) (omega (arith, n, z)) r.passes (found last none point c.first (omega (arith, n, a)) c.named)
    stop-closes last (Circle edges) close head none r c =
        let all = edged-in edges.now r.in_net in
        elim c [
          | inl l ↦
              let begins = circle-first edges.now l.edge r.first l.there r.leads in
              let edged = All-contains Edged edges.now l.edge all (contains-get edges.now 0 l.edge l.there) in
              ap (close_look machine plans ask rows limit alone head) l.is ∙ elim (walked machine plans ask limit alone causes edges.now r.first r.first (allowed-in edges.now all) r.leads) [
                | inl w ↦
                    loop-whole machine plans ask rows limit alone causes late (length table) frame r.first edges.now l.first w r.positive
                    (subst (λ q. spot_of plans (length x.choices) l.first ≡ Some (numbered plans q)) begins (found last none l.edge.from l.first edged.1.0 l.named))
                | inr k ↦ let h = All-contains (IsTold (tell machine plans causes)) edges.now k.edge l.all (cut-in k.before k.behind edges.now k.edge k.parts) in let yes = h.1 in let no = k.untold in absurd cc
              ]
          | inr m ↦
              let e = m.cut.edge in
              let parts : edges.now ≡ take m.at edges.now ++ e ∷ drop (m.at + 1) edges.now = sym (take-append-drop m.at edges.now) ∙ ap (λ ys. take m.at edges.now ++ ys) (drop-one edges.now m.at e m.cut.there) in
              let edged = All-contains Edged edges.now e all (contains-get edges.now m.at e m.cut.there) in
              ap (close_look machine plans ask rows limit alone head) m.is
              ∙ of-cut r.first (take m.at edges.now) (drop (m.at + 1) edges.now) e m.first (subst (All Edged) parts all) (subst (λ es. AreApart (ends_of es)) parts r.apart) m.cut.untold m.cut.before
              (subst (λ es. Leads r.first es r.first) parts r.leads) (subst (λ es. pos 0 <ℤ total_weight es) parts r.positive) (found last none e.to m.first edged.1.1 m.named)
        ]

    -- its hops pass no point twice
    edges-of : (es : List Edge) (a z : ℕ) → All Edged es → All (IsTold (tell machine plans causes)) es → Leads a es z → AreEdges machine plans ask limit alone causes is.is_table.differ a z es
    edges-of es a z all told leads = record { known = λ k d w. (all k d w).1.1; allowed = allowed-in es all; told = told; leads = leads }

    chain-once : (first : ℕ) (edges : List Edge) (z : ℕ) (name : TreePoint) → All Edged edges → AreApart (first ∷ ends_of edges) → Leads first edges z → first < length table → spot_of plans (length x.choices) name ≡ Some (numbered plans first)
        → chain_once machine plans ask limit alone (spot_of plans (length x.choices) name) (told_until (tell machine plans causes) edges)
    chain-once first edges z name all apart leads below here = elim (walked machine plans ask limit alone causes edges first z (allowed-in edges all) leads) [
      | inl w ↦ chain-passes machine plans ask limit alone causes is.is_table.differ name first z edges [] edges (sym (append-nil edges)) (edges-of edges first z all w.all leads) refl apart below here
      | inr k ↦
          let front = (All-split Edged k.before (k.edge ∷ k.behind) (subst (All Edged) k.parts all)).0 in
          let apart' = subst AreApart (ap (λ ns. first ∷ ns) (ap ends_of k.parts ∙ ends-append k.before (k.edge ∷ k.behind))) apart in
          chain-passes machine plans ask limit alone causes is.is_table.differ name first k.edge.from.0 k.before (k.edge ∷ k.behind) edges k.parts (edges-of k.before first k.edge.from.0 front k.all k.first)
          (ap (λ o. told_then o (told_until (tell machine plans causes) k.behind)) k.untold) (apart-front (first ∷ ends_of k.before) (ends_of (k.edge ∷ k.behind)) apart') below here
    ]

    cut-once : (first' : ℕ) (xs ys : List Edge) (e : Edge) (name : TreePoint) → All Edged (xs ++ e ∷ ys) → AreApart (ends_of (xs ++ e ∷ ys)) → tell machine plans causes e ≡ None → All (IsTold (tell machine plans causes)) xs
        → Leads first' (xs ++ e ∷ ys) first' → spot_of plans (length x.choices) name ≡ Some (numbered plans e.to.0)
        → chain_once machine plans ask limit alone (spot_of plans (length x.choices) name) (told_until (tell machine plans causes) ys ++ told_until (tell machine plans causes) xs)
    cut-once first' xs ys e name all apart untold told leads here =
        let s = All-split Edged xs (e ∷ ys) all in
        let edged = All-head Edged e ys s.1 in
        let behind = All-tail Edged e ys s.1 in
        let split = leads-split xs (e ∷ ys) first' first' leads in
        let w2 = all-behind xs ys e e.to.0 first' all apart untold split.2.1 in
        let round = edges-of (ys ++ xs) e.to.0 split.0 (All-append Edged ys xs behind s.0) (All-append (IsTold (tell machine plans causes)) ys xs w2.all told) (leads-join ys xs e.to.0 first' split.0 split.2.1 split.1) in
        let turned = subst AreApart (ap (λ ns. e.to.0 ∷ ns) (sym (ends-append ys xs))) (apart-turned (ends_of xs) (ends_of (e ∷ ys)) (subst AreApart (ends-append xs (e ∷ ys)) apart)) in
        subst (λ hops. chain_once machine plans ask limit alone (spot_of plans (length x.choices) name) hops) (told-append machine plans ask limit alone causes ys xs w2.all)
        (chain-passes machine plans ask limit alone causes is.is_table.differ name e.to.0 split.0 (ys ++ xs) [] (ys ++ xs) (sym (append-nil (ys ++ xs))) round refl turned edged.1.1 here)

    pub stop-once : (last : Option PointId) (proof : Proof) (close : Close) → last ≡ None → Refutes late proof → IsCloseOf machine plans causes last proof close → PassesOnce machine plans ask limit alone close
    stop-once last (Chain point edges) close none r c =
        let all = edged-in edges.now r.in_net in
        let n = size in
        let a = r.known in
        subst (PassesOnce machine plans ask limit alone) (sym c.is) (chain-once point.0 edges.now r.last c.first all r.apart r.leads (omega (arith, n, a)) (found last none point c.first (omega (arith, n, a)) c.named))
    stop-once last (Circle edges) close none r c =
        let all = edged-in edges.now r.in_net in
        elim c [
          | inl l ↦
              let begins = circle-first edges.now l.edge r.first l.there r.leads in
              let edged = All-contains Edged edges.now l.edge all (contains-get edges.now 0 l.edge l.there) in
              subst (PassesOnce machine plans ask limit alone) (sym l.is)
              (loop-passes machine plans ask limit alone causes is.is_table.differ l.first r.first r.first edges.now (edges-of edges.now r.first r.first all l.all r.leads) r.apart
              (subst (λ q. spot_of plans (length x.choices) l.first ≡ Some (numbered plans q)) begins (found last none l.edge.from l.first edged.1.0 l.named)))
          | inr m ↦
              let e = m.cut.edge in
              let parts : edges.now ≡ take m.at edges.now ++ e ∷ drop (m.at + 1) edges.now = sym (take-append-drop m.at edges.now) ∙ ap (λ ys. take m.at edges.now ++ ys) (drop-one edges.now m.at e m.cut.there) in
              let edged = All-contains Edged edges.now e all (contains-get edges.now m.at e m.cut.there) in
              subst (PassesOnce machine plans ask limit alone) (sym m.is)
              (cut-once r.first (take m.at edges.now) (drop (m.at + 1) edges.now) e m.first (subst (All Edged) parts all) (subst (λ es. AreApart (ends_of es)) parts r.apart) m.cut.untold m.cut.before
              (subst (λ es. Leads r.first es r.first) parts r.leads) (found last none e.to m.first edged.1.1 m.named))
        ]
