-- Points that have the times that they had.
use Rattle.std.proofs.Common.{◌≡◌, ℕ, ◌<◌, ◌≤◌, List, [], ◌∷◌, length, slice_index, get_or, set, take, drop, Some, sym, refl, ap, subst, ◌∙◌, arith, inl, inr}
use Rattle.std.proofs.lemmas.Bool.{cases_eq, cases_lt}
use Rattle.std.proofs.lemmas.List.{get_or-map, get_or_past, get_or-set_same, get_or-set_other, get_or-take, length-set, map-set, take-map, length-take-le}
use Rattle.std.proofs.lemmas.List.Elements.{All-head, All-tail}
use Rattle.std.proofs.lemmas.Option.{same_Some, slice_get-map}
use Rattle.std.specs.List.{All, slice_get}
use Rattle.std.specs.Option.{option_map}
use Rattle.tp_base.proofs.LeastFacts.{least_same}
use Rattle.tp_base.proofs.SliceFacts.{All-at}
use Rattle.tp_base.specs.Net.{Net, HaveSameTimes}
use Rattle.tp_stn_undo.specs.declared.point_state.PointState.{PointState}
use Rattle.tp_stn_undo.specs.declared.point_state.SavedState.{SavedState}
use Rattle.tp_stn_undo.specs.declared.link.Link.{Link}
use Rattle.tp_stn_undo.specs.declared.marks.LiveMark.{LiveMark}
use Rattle.tp_stn_undo.specs.declared.live_net.LiveNet.TheInside.{Inside}
use Rattle.tp_stn_undo.specs.Saved.{restored}
use Rattle.tp_stn_undo.specs.Live.{core_in, past_in, IsLive}
use Rattle.tp_stn_undo.specs.Marks.{core_at, nets_of}
use Rattle.tp_stn_undo.specs.States.{IsSound, net_of_core, times_of}
use Rattle.tp_stn_undo.specs.Times.{KeepTimes}
use Rattle.tp_stn_undo.proofs.SavedFacts.{length-restored, take-restored}
use Rattle.tp_stn_undo.proofs.CauseFacts.{no_state}
use Rattle.tp_stn_undo.proofs.RaiseFacts.{lows_len}

-- the entry is of the point's time, or of none of the first points, so many
abbrev pub IsOfNow : ℕ → List PointState → SavedState → Type 0
IsOfNow end states s = s.point.0 < end → slice_index (times_of states) s.point.0 ≡ s.state.time

-- the time of a point that is known
pub time_at : (states : List PointState) (p : ℕ) → p < length states → slice_index (times_of states) p ≡ (get_or states p no_state).time
time_at states p h = get_or-map (λ (s : PointState). s.time) states p no_state 0 h

-- a time written over by itself
time_set : (states : List PointState) (p i time : ℕ) (x : PointState) → slice_index (times_of states) i ≡ time → (p ≡ i → time ≡ x.time) → slice_index (times_of (set states p x)) i ≡ time
time_set states p i time x is same =
    let n = length-set (times_of states) p x.time in
    ap (λ (ts : List ℕ). slice_index ts i) (map-set (λ (s : PointState). s.time) states p x) ∙ elim (cases_eq i p) [
      | inl e ↦ elim (cases_lt p (length (times_of states))) [
        | inl h ↦ ap (slice_index (set (times_of states) p x.time)) e ∙ get_or-set_same (times_of states) p x.time 0 h ∙ sym (same (sym e))
        | inr h ↦ get_or_past (set (times_of states) p x.time) i 0 (omega arith) ∙ sym (get_or_past (times_of states) i 0 (omega arith)) ∙ is
      ]
      | inr ne ↦ get_or-set_other (times_of states) p i x.time 0 ne ∙ is
    ]

-- where each entry is of the time now, so are the points put back
pub times_kept : (entries : List SavedState) (end : ℕ) (states : List PointState) → All (IsOfNow end states) entries → KeepTimes end (restored entries states) states
times_kept [] end states now i h = refl
times_kept (s ∷ ss) end states now i h =
    time_set (restored ss states) s.point.0 i (slice_index (times_of states) i) s.state (times_kept ss end states (All-tail (IsOfNow end states) s ss now) i h)
    (λ e. ap (slice_index (times_of states)) (sym e) ∙ All-head (IsOfNow end states) s ss now (omega arith))

-- where the points put back have the times of now, the net at a mark has the times of the net now
pub same_times_at : (saved : List SavedState) (states : List PointState) (caps : List ℕ) (links : List Link) (m : LiveMark) (end : ℕ) → m.points ≤ length states → IsSound (core_at saved states caps links m) → IsSound (record { states = states; caps = caps; links = links })
    → KeepTimes end (restored (drop m.saved saved) states) states → HaveSameTimes end (net_of_core (core_at saved states caps links m)) (net_of_core (record { states = states; caps = caps; links = links }))
same_times_at saved states caps links m end within then now kept x y is is' i before known =
    let back = restored (drop m.saved saved) states in
    let old = restored (drop m.saved saved) (take m.points states) in
    let a = lows_len old in
    let b = lows_len states in
    let c = length-restored (drop m.saved saved) (take m.points states) in
    let d = length-take-le m.points states within in
    let cut : times_of old ≡ take m.points (times_of back) = ap times_of (sym (take-restored m.points (drop m.saved saved) states)) ∙ sym (take-map (λ (s : PointState). s.time) m.points back) in
    least_same (net_of_core (core_at saved states caps links m)) x (slice_index (times_of old)) is then.least i known
    ∙ ap (λ (ts : List ℕ). slice_index ts i) cut
    ∙ get_or-take m.points (times_of back) i 0 (omega arith)
    ∙ kept i before
    ∙ sym (least_same (net_of_core (record { states = states; caps = caps; links = links })) y (slice_index (times_of states)) is' now.least i (omega arith))

-- the oldest mark is one of the marks, and the nets there are sound
pub same_times_since : (a : Inside) (m : LiveMark) (end : ℕ) → IsLive a → slice_get a.marks.items 0 ≡ Some m → KeepTimes end (restored (drop m.saved a.working.changes.older) a.states.items) a.states.items
    → (old : Net) → slice_get (nets_of (past_in a)) 0 ≡ Some old → HaveSameTimes end old (net_of_core (core_in a))
same_times_since a m end inv at kept old is =
    let f = core_at a.working.changes.older a.states.items a.caps.items a.links.items in
    let core : slice_get (past_in a) 0 ≡ Some (f m) = slice_get-map f a.marks.items 0 ∙ ap (option_map f) at in
    let net : slice_get (nets_of (past_in a)) 0 ≡ Some (net_of_core (f m)) = slice_get-map net_of_core (past_in a) 0 ∙ ap (option_map net_of_core) core in
    subst (λ (n : Net). HaveSameTimes end n (net_of_core (core_in a))) (same_Some (net_of_core (f m)) old (sym net ∙ is))
    (same_times_at a.working.changes.older a.states.items a.caps.items a.links.items m end (inv.stacked.points_below 0 m at) (All-at IsSound (past_in a) 0 (f m) inv.past core) inv.sound kept)
