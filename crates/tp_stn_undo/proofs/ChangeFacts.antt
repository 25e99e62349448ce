-- What a change makes of a network.
use Rattle.std.proofs.Common.{◌≡◌, ℕ, ◌+◌, ◌*◌, ◌<◌, ◌≤◌, Bool, List, ◌++◌, length, slice_index, set, sym, ap, ◌∙◌, subst, arith, inl, inr}
use Rattle.std.proofs.Math.Nat.{mul-le-mul_right}
use Rattle.std.proofs.lemmas.Bool.{cases_eq}
use Rattle.std.proofs.lemmas.List.{length-set, get_or-set_same, get_or-set_other}
use Rattle.std.specs.List.{All}
use Rattle.tp_base.specs.declared.edges.Edge.{Edge}
use Rattle.tp_base.specs.Net.{Keeps, IsSolution}
use Rattle.tp_base.specs.Grows.{IsKnown, IsSupported, AreWithin, cause_of}
use Rattle.tp_base.specs.Kept.{net_of}
use Rattle.tp_stn_undo.specs.declared.point_state.PointState.{PointState}
use Rattle.tp_stn_undo.specs.declared.link.Link.{Link}
use Rattle.tp_stn_undo.specs.declared.point_state.SavedState.{SavedState}
use Rattle.tp_stn_undo.specs.declared.marks.LiveMark.{LiveMark}
use Rattle.tp_stn_undo.specs.Saved.{restored}
use Rattle.tp_stn_undo.specs.Marks.{past_of}
use Rattle.tp_stn_undo.specs.declared.live_net.LiveNet.TheInside.{Inside}
use Rattle.tp_stn_undo.specs.States.{IsSound, lows_of, times_of, edges_of, causes_of}
use Rattle.tp_stn_undo.specs.Flags.{Noted, AreKnown, IsSameSave}
use Rattle.tp_stn_undo.specs.Stacks.{IsStack, CanSave}
use Rattle.tp_stn_undo.specs.Propagation.{StatesRise, LeadsBack}
use Rattle.tp_stn_undo.specs.RaisedBounds.{Lifts}
use Rattle.tp_stn_undo.specs.Live.{IsLive}
use Rattle.tp_stn_undo.proofs.StackFacts.{stacked_grown}
use Rattle.tp_stn_undo.proofs.RaiseFacts.{times_len, lows_len}
use Rattle.tp_stn_undo.proofs.FollowFacts.{risen_supported}
use Rattle.tp_stn_undo.proofs.SoundFacts.{edges_more, supported_more, numbered_longer, known_more, solution_less, sound_risen}

module _ (a : Inside) (inv : IsLive a) where
  pub stack_of : (edges : ℕ) → length a.links.items ≤ edges → IsStack a.marks.items a.working.changes.older (length a.states.items) edges a.working.changes.capacity
  stack_of edges h = record {
    stacked = stacked_grown a.marks.items _ _ _ _ _ _ _ (omega arith) h (omega arith) inv.stacked;
    kept = inv.kept;
    filled = inv.saved;
  }

  -- there is room to save a change of so many points, of which what is noted is known
  pub can_save : (w : Noted) (points edges : ℕ) → IsSameSave a.working.changes w → points ≤ a.max_points → IsStack a.marks.items a.working.changes.older points edges a.working.changes.capacity → AreKnown points w.entries → CanSave a.marks.items w
  can_save w points edges same fits stack known =
      let m : length a.marks.items + 1 ≤ a.max_marks + 1 = (let i = inv.marks in omega arith) in
      let p : (length a.marks.items + 1) * a.working.changes.capacity ≤ (a.max_marks + 1) * a.working.changes.capacity = mul-le-mul_right a.working.changes.capacity m in
      let s = inv.capacity.saved in
      let n = inv.capacity.working.noted in
      let e = same.most in
      let r = same.capacity in
      let q : (length a.marks.items + 1) * w.capacity ≡ (length a.marks.items + 1) * a.working.changes.capacity = ap (λ i. (length a.marks.items + 1) * i) r in
      record {
        points = points;
        edges = edges;
        stack = subst (λ (x : List SavedState). IsStack a.marks.items x points edges w.capacity) (sym same.older) (subst (IsStack a.marks.items a.working.changes.older points edges) (sym r) stack);
        known = known;
        fits = omega arith;
        enough = omega arith;
      }

-- what saving a change keeps, where nothing but what is noted was new before
module _ (marks ms : List LiveMark) (v w : Noted) (saved : List SavedState) (em : ms ≡ marks) (same : IsSameSave v w) where
  there : (points edges : ℕ) → IsStack marks v.older points edges v.capacity → IsStack ms w.older points edges w.capacity
  there points edges s =
      subst (λ (x : List LiveMark). IsStack x w.older points edges w.capacity) (sym em)
      (subst (λ (x : List SavedState). IsStack marks x points edges w.capacity) (sym same.older) (subst (IsStack marks v.older points edges) (sym same.capacity) s))

  pub stack_by : ((count edges : ℕ) → AreKnown count w.entries → IsStack ms w.older count edges w.capacity → IsStack ms saved count edges w.capacity)
      → (count edges : ℕ) → AreKnown count w.entries → IsStack marks v.older count edges v.capacity → IsStack marks saved count edges v.capacity
  stack_by f count edges k s =
      subst (IsStack marks saved count edges) same.capacity (subst (λ (x : List LiveMark). IsStack x saved count edges w.capacity) em (f count edges k (there count edges s)))

  pub past_by : ((states : List PointState) (caps : List ℕ) (links : List Link) (edges : ℕ) → IsStack ms w.older (length states) edges w.capacity → past_of ms saved states caps links ≡ past_of ms w.older (restored w.entries states) caps links)
      → (states : List PointState) (caps : List ℕ) (links : List Link) (edges : ℕ) → IsStack marks v.older (length states) edges v.capacity → past_of marks saved states caps links ≡ past_of marks v.older (restored w.entries states) caps links
  past_by f states caps links edges s =
      ap (λ (x : List LiveMark). past_of x saved states caps links) (sym em)
      ∙ f states caps links edges (there (length states) edges s)
      ∙ ap (λ (x : List LiveMark). past_of x w.older (restored w.entries states) caps links) em
      ∙ ap (λ (x : List SavedState). past_of marks x (restored w.entries states) caps links) same.older

-- edges are added, and points rise
module _ (states states' : List PointState) (caps : List ℕ) (links more : List Link) (noted noted' : List SavedState) (s : IsSound (record { states = states; caps = caps; links = links }))
    (k : All (IsKnown (length states)) (edges_of more)) (back : LeadsBack (links ++ more) states states' noted noted') (rises : StatesRise (links ++ more) states states')
    (within : AreWithin caps (times_of states')) (keeps : All (Keeps (slice_index (times_of states'))) (edges_of (links ++ more))) where
  nt : length (times_of states) ≡ length states
  nt = times_len states

  nl : length (lows_of states) ≡ length states
  nl = lows_len states

  below : (y : ℕ → ℕ) → IsSolution (net_of (lows_of states') caps (edges_of (links ++ more))) y → (i : ℕ) → i < length states → slice_index (times_of states') i ≤ y i
  below y sol i h =
      let sol1 : IsSolution (net_of (lows_of states) caps (edges_of (links ++ more))) y = subst (λ (ls : List ℕ). IsSolution (net_of ls caps (edges_of (links ++ more))) y) back.lows sol in
      let sol2 : IsSolution (net_of (lows_of states) caps (edges_of links ++ edges_of more)) y = subst (λ (es : List Edge). IsSolution (net_of (lows_of states) caps es) y) (edges_more links more) sol1 in
      let sol3 : IsSolution (net_of (lows_of states) caps (edges_of links)) y = solution_less (net_of (lows_of states) caps (edges_of links)) (edges_of more) y sol2 in
      let a = nt in
      let b = nl in
      rises.below y sol1.keeps (λ j g. s.least.least y sol3 j (omega arith)) i (omega arith)

  above : (i : ℕ) → i < length states → slice_index (lows_of states') i ≤ slice_index (times_of states') i
  above i h =
      let a = nt in
      let b = nl in
      let low = s.least.solution.above_low i (omega arith) in
      let up = rises.rises i (omega arith) in
      let e = ap (λ (ls : List ℕ). slice_index ls i) back.lows in
      omega arith

  pub sound_edges : IsSound (record { states = states'; caps = caps; links = links ++ more })
  sound_edges =
      sound_risen caps (links ++ more) states states' (λ i. i) s.caps back.len (known_more links more (length states) s.known k) (back.numbered (numbered_longer links more states s.numbered))
      (subst (λ (ls : List ℕ). IsSupported ls (edges_of (links ++ more)) (slice_index (times_of states')) (cause_of (causes_of (edges_of (links ++ more)) states'))) (sym back.lows) (risen_supported (links ++ more) states states' caps (supported_more links more states s.numbered s.supported) back.len rises))
      within keeps above below

-- a lower bound is raised, and points rise
module _ (states spots1 states' : List PointState) (caps : List ℕ) (links : List Link) (point low : ℕ) (flags flags' : List Bool) (noted noted' : List SavedState) (s : IsSound (record { states = states; caps = caps; links = links }))
    (known : point < length states) (more : slice_index (lows_of states) point ≤ low) (lifts : Lifts states spots1 point low flags flags') (back : LeadsBack links spots1 states' noted noted') (rises : StatesRise links spots1 states')
    (within : AreWithin caps (times_of states')) (keeps : All (Keeps (slice_index (times_of states'))) (edges_of links)) where
  lows_are : lows_of states' ≡ set (lows_of states) point low
  lows_are = back.lows ∙ lifts.lows

  n1 : length (times_of spots1) ≡ length states
  n1 = times_len spots1 ∙ lifts.len

  n0 : length (lows_of states) ≡ length states
  n0 = lows_len states

  ups : (i : ℕ) → i < length states → slice_index (times_of states) i ≤ slice_index (times_of states') i
  ups i h = (let a = n1 in let x = lifts.rises i h in let y = rises.rises i (omega arith) in omega arith)

  lift_above : (i : ℕ) → i < length states → slice_index (lows_of states') i ≤ slice_index (times_of states') i
  lift_above i h =
      let e = ap (λ (ls : List ℕ). slice_index ls i) lows_are in
      let a = n0 in
      let b = n1 in
      let up = ups i h in
      elim (cases_eq i point) [
        | inl q ↦ (
            let c = get_or-set_same (lows_of states) point low 0 (omega arith) in
            let d = ap (slice_index (set (lows_of states) point low)) q in
            let f = ap (slice_index (times_of states')) q in
            let r = lifts.reaches in
            let y = rises.rises point (omega arith) in
            omega arith)
        | inr q ↦ (let c = get_or-set_other (lows_of states) point i low 0 q in let l = s.least.solution.above_low i (omega arith) in omega arith)
      ]

  lift_below : (y : ℕ → ℕ) → IsSolution (net_of (lows_of states') caps (edges_of links)) y → (i : ℕ) → i < length states → slice_index (times_of states') i ≤ y i
  lift_below y sol i h =
      let a = n0 in
      let b = n1 in
      let ln = length-set (lows_of states) point low in
      let sol1 : IsSolution (net_of (set (lows_of states) point low) caps (edges_of links)) y = subst (λ (ls : List ℕ). IsSolution (net_of ls caps (edges_of links)) y) lows_are sol in
      let at : low ≤ y point = (let c = get_or-set_same (lows_of states) point low 0 (omega arith) in let d = sol1.above_low point (omega arith) in omega arith) in
      let sol0 : IsSolution (net_of (lows_of states) caps (edges_of links)) y = record {
        above_low = λ j g. elim (cases_eq j point) [
          | inl q ↦ (let e = ap (slice_index (lows_of states)) q in let f = ap y q in omega arith)
          | inr q ↦ (let c = get_or-set_other (lows_of states) point j low 0 q in let d = sol1.above_low j (omega arith) in omega arith)
        ];
        below_cap = λ j g. sol1.below_cap j (omega arith);
        keeps = sol1.keeps;
      } in
      rises.below y sol1.keeps (λ j g. lifts.below y (λ k m. s.least.least y sol0 k (omega arith)) at j (omega arith)) i (omega arith)

  pub sound_lift : IsSound (record { states = states'; caps = caps; links = links })
  sound_lift =
      sound_risen caps links states states' (λ i. i) s.caps (back.len ∙ lifts.len) s.known (back.numbered (lifts.numbered links s.numbered))
      (subst (λ (ls : List ℕ). IsSupported ls (edges_of links) (slice_index (times_of states')) (cause_of (causes_of (edges_of links) states'))) (sym back.lows) (risen_supported links spots1 states' caps (lifts.supported links s.supported) back.len rises))
      within keeps lift_above lift_below
