-- Noting what points were, and putting it back.
use Rattle.std.proofs.Common.{◌≡◌, ℕ, suc, ◌+◌, ◌-◌, ◌<◌, ◌≤◌, Bool, true, take, drop, drop-drop, take-suc, length-take-le, get_or, false, List, [], ◌∷◌, ◌++◌, length, set, subst, Some, sym, ap, ◌∙◌, arith}
use Rattle.std.proofs.lemmas.Option.{get_or_from_slice_get, slice_get_within}
use Rattle.std.proofs.lemmas.List.{set-set, set-get_or, get_or-map, length-map, map-append, drop-append-le, take_more_set, at_drop_more, get_or-drop, length-drop, length-set, drop-set-lt, take-set-le, take-append-drop}
use Rattle.std.proofs.lemmas.List.Elements.{All-push, All-append}
use Rattle.std.specs.List.{Contains, slice_get}
use Rattle.tp_base.proofs.SliceFacts.{found}
use Rattle.tp_stn_undo.specs.declared.point_state.PointState.{PointState}
use Rattle.tp_stn_undo.specs.declared.point_state.SavedState.{SavedState}
use Rattle.tp_stn_undo.specs.Saved.{restored}
use Rattle.tp_stn_undo.specs.Flags.{Noted, flag, points_in, AreHeld, AreKnown, IsSameSave}
use Rattle.tp_stn_undo.proofs.SavedFacts.{restored-append, restored_ignores}
use Rattle.tp_stn_undo.proofs.FlagFacts.{held_back, held_push}

pub set_same : (states : List PointState) (p : ℕ) (s : PointState) → slice_get states p ≡ Some s → set states p s ≡ states
set_same states p s g = ap (set states p) (sym (get_or_from_slice_get states p s s g)) ∙ set-get_or states p s

pub noted_first : (entries : List SavedState) (e : SavedState) (states : List PointState) (x : PointState) → slice_get states e.point.0 ≡ Some e.state → restored (entries ++ e ∷ []) (set states e.point.0 x) ≡ restored entries states
noted_first entries e states x g =
    restored-append entries (e ∷ []) (set states e.point.0 x)
    ∙ ap (restored entries) (set-set states e.point.0 x e.state ∙ set_same states e.point.0 e.state g)

pub noted_before : (entries : List SavedState) (p : ℕ) (states : List PointState) (x : PointState) → Contains (points_in entries) p → restored entries (set states p x) ≡ restored entries states
noted_before entries p states x c =
    let l = length-map entries (λ (s : SavedState). s.point.0) in
    let h = c.1 in
    let f = found entries c.0 (omega arith) in
    let k : c.0 < length entries = omega arith in
    let e : f.0.point.0 ≡ p = ap (λ (s : SavedState). s.point.0) (sym (get_or_from_slice_get entries c.0 f.0 f.0 f.1)) ∙ sym (get_or-map (λ (s : SavedState). s.point.0) entries c.0 f.0 p k) ∙ c.2 in
    restored_ignores entries states p x c.0 f.0 f.1 e

pub points_in-push : (entries : List SavedState) (e : SavedState) → points_in (entries ++ e ∷ []) ≡ points_in entries ++ e.point.0 ∷ []
points_in-push entries e = map-append (λ (s : SavedState). s.point.0) entries (e ∷ [])

pub held_popped : (flags : List Bool) (xs ys : List SavedState) (e : SavedState) → ys ≡ xs ++ e ∷ [] → AreHeld flags (points_in ys) → AreHeld (set flags e.point.0 false) (points_in xs)
held_popped flags xs ys e is a = held_back flags (points_in xs) e.point.0 (subst (AreHeld flags) (ap points_in is ∙ points_in-push xs e) a)

-- all are known that are known one by one
pub known_all : (entries : List SavedState) (points : ℕ) → ((j : ℕ) (s : SavedState) → slice_get entries j ≡ Some s → s.point.0 < points) → AreKnown points entries
known_all entries points known k d h = (
    let f = found entries k h in
    let e = ap (λ (x : SavedState). x.point.0) (get_or_from_slice_get entries k f.0 d f.1) in
    let b = known k f.0 f.1 in
    omega arith)

-- and one by one where all are
pub known_each : (entries : List SavedState) (points : ℕ) → AreKnown points entries → (j : ℕ) (s : SavedState) → slice_get entries j ≡ Some s → s.point.0 < points
known_each entries points known j s g = (
    let w = slice_get_within entries j s g in
    let b = known j s w in
    let e = ap (λ (x : SavedState). x.point.0) (get_or_from_slice_get entries j s s g) in
    omega arith)

pub same_saves : {a b c : Noted} → IsSameSave a b → IsSameSave b c → IsSameSave a c
same_saves g h = record { older = h.older ∙ g.older; capacity = h.capacity ∙ g.capacity; most = h.most ∙ g.most }

-- the last one put back
pub restored_popped : (xs ys : List SavedState) (e : SavedState) (states : List PointState) → ys ≡ xs ++ e ∷ [] → restored xs (set states e.point.0 e.state) ≡ restored ys states
restored_popped xs ys e states is = sym (ap (λ (zs : List SavedState). restored zs states) is ∙ restored-append xs (e ∷ []) states)

abbrev pub no_saved : SavedState
no_saved = record { point = record { 0 = 0 }; state = record { low = 0; time = 0; cause = 0 } }

-- the last of the first ones
pub last_of_first : (entries : List SavedState) (left : ℕ) → 0 < left → left ≤ length entries → take left entries ≡ take (left - 1) entries ++ get_or entries (left - 1) no_saved ∷ []
last_of_first entries left some within =
    let one_more : left ≡ suc (left - 1) = omega arith in
    ap (λ n. take n entries) one_more ∙ take-suc entries (left - 1) no_saved (omega arith)

-- ---- the first one of each point
-- the entries from one place up to another
abbrev pub part : ℕ → ℕ → List SavedState → List SavedState
part from to entries = drop from (take to entries)

-- one more of them, written over what stood there
pub part_more : (from left : ℕ) (entries : List SavedState) (e : SavedState) → from ≤ left → left < length entries → part from (left + 1) (set entries left e) ≡ part from left entries ++ e ∷ []
part_more from left entries e h g =
    let l = length-take-le left entries (omega arith) in
    ap (drop from) (take_more_set entries left e g) ∙ drop-append-le from (take left entries) (e ∷ []) (omega arith)

-- one more of the change that is left of the others
pub part_back : (from left at : ℕ) (entries old : List SavedState) (e : SavedState) (states : List PointState) → at < length old → get_or old at no_saved ≡ e
    → restored (part from left entries) (restored (drop at old) states) ≡ restored (drop from old) states → restored (part from left entries ++ e ∷ []) (restored (drop (at + 1) old) states) ≡ restored (drop from old) states
part_back from left at entries old e states h is back =
    restored-append (part from left entries) (e ∷ []) (restored (drop (at + 1) old) states)
    ∙ ap (restored (part from left entries)) (ap (λ (x : SavedState). set (restored (drop (at + 1) old) states) x.point.0 x.state) (sym is) ∙ sym (at_drop_more (λ (es : List SavedState). restored es states) old at no_saved h))
    ∙ back

-- one that is there already
pub part_skip : (from left at : ℕ) (entries old : List SavedState) (e : SavedState) (states : List PointState) → at < length old → get_or old at no_saved ≡ e → Contains (points_in (part from left entries)) e.point.0
    → restored (part from left entries) (restored (drop at old) states) ≡ restored (drop from old) states → restored (part from left entries) (restored (drop (at + 1) old) states) ≡ restored (drop from old) states
part_skip from left at entries old e states h is there back =
    sym (noted_before (part from left entries) e.point.0 (restored (drop (at + 1) old) states) e.state there)
    ∙ ap (restored (part from left entries)) (ap (λ (x : SavedState). set (restored (drop (at + 1) old) states) x.point.0 x.state) (sym is) ∙ sym (at_drop_more (λ (es : List SavedState). restored es states) old at no_saved h))
    ∙ back

-- so far the first ones are left from one place up to another, and the others are as they were
pub record IsLeft (from left at : ℕ) (entries old : List SavedState) (noted noted' : List Bool) : Type 0 where
  pub from_left : from ≤ left
  pub within : left ≤ at
  pub count : length entries ≡ length old
  pub rest : drop at entries ≡ drop at old
  pub before : take from entries ≡ take from old
  pub back : (states : List PointState) → restored (part from left entries) (restored (drop at old) states) ≡ restored (drop from old) states
  pub known : (count : ℕ) → AreKnown count (drop from old) → AreKnown count (part from left entries)
  pub held : AreHeld noted' (points_in (part from left entries))
  pub len : length noted' ≡ length noted

module _ (from left at : ℕ) (entries old : List SavedState) (noted noted' : List Bool) (l : IsLeft from left at entries old noted noted') (h : at < length old) (e : SavedState) (is : get_or entries at no_saved ≡ e) where
  old_is : get_or old at no_saved ≡ e
  old_is =
      let z : at + 0 ≡ at = omega arith in
      ap (λ k. get_or old k no_saved) (sym z) ∙ sym (get_or-drop at old 0 no_saved) ∙ ap (λ (xs : List SavedState). get_or xs 0 no_saved) (sym l.rest) ∙ get_or-drop at entries 0 no_saved ∙ ap (λ k. get_or entries k no_saved) z ∙ is

  pub left_known : (count : ℕ) → AreKnown count (drop from old) → e.point.0 < count
  left_known count all =
      let f = l.from_left in
      let w = l.within in
      let n = length-drop from old in
      let i = all (at - from) no_saved (omega arith) in
      let is : get_or (drop from old) (at - from) no_saved ≡ e = get_or-drop from old (at - from) no_saved ∙ ap (λ k. get_or old k no_saved) (omega arith) ∙ old_is in
      subst (λ (x : SavedState). x.point.0 < count) is i

  rest_on : drop (at + 1) entries ≡ drop (at + 1) old
  rest_on = sym (drop-drop 1 at entries) ∙ ap (drop 1) l.rest ∙ drop-drop 1 at old

  -- the one at hand is there already
  pub left_skip : flag noted' e.point.0 ≡ true → IsLeft from left (at + 1) entries old noted noted'
  left_skip there =
      let w = l.within in
      record {
        from_left = l.from_left;
        within = omega arith;
        count = l.count;
        rest = rest_on;
        before = l.before;
        back = λ states. part_skip from left at entries old e states h old_is (l.held.held e.point.0 there) (l.back states);
        known = l.known;
        held = l.held;
        len = l.len;
      }

  -- or it is the first one of its point
  pub left_keep : e.point.0 < length noted' → flag noted' e.point.0 ≡ false → IsLeft from (left + 1) (at + 1) (set entries left e) old noted (set noted' e.point.0 true)
  left_keep k new =
      let f = l.from_left in
      let w = l.within in
      let n = l.count in
      let more = part_more from left entries e f (omega arith) in
      record {
        from_left = omega arith;
        within = omega arith;
        count = length-set entries left e ∙ n;
        rest = drop-set-lt (at + 1) entries left e (omega arith) ∙ rest_on;
        before = take-set-le from entries left e f ∙ l.before;
        back = λ states. ap (λ (es : List SavedState). restored es (restored (drop (at + 1) old) states)) more ∙ part_back from left at entries old e states h old_is (l.back states);
        known = λ count all. subst (AreKnown count) (sym more) (All-push (λ (s : SavedState). s.point.0 < count) (part from left entries) e (l.known count all) (left_known count all));
        held = subst (λ (es : List SavedState). AreHeld (set noted' e.point.0 true) (points_in es)) (sym more) (subst (AreHeld (set noted' e.point.0 true)) (sym (points_in-push (part from left entries) e)) (held_push noted' (points_in (part from left entries)) e.point.0 k new l.held));
        len = length-set noted' e.point.0 true ∙ l.len;
      }

-- ---- a change is kept behind what was saved
pub all_known : (count before : ℕ) (entries : List SavedState) → AreKnown count (take before entries) → AreKnown count (drop before entries) → AreKnown count entries
all_known count before entries k n = subst (AreKnown count) (take-append-drop before entries) (All-append (λ (s : SavedState). s.point.0 < count) (take before entries) (drop before entries) k n)

-- what leads back through all leads back through the change, and then through what was saved
pub both_back : (from before : ℕ) (entries : List SavedState) → before ≤ length entries → from ≤ before → (states : List PointState) → restored (drop from entries) states ≡ restored (drop from (take before entries)) (restored (drop before entries) states)
both_back from before entries within h states =
    let l = length-take-le before entries within in
    ap (λ (es : List SavedState). restored (drop from es) states) (sym (take-append-drop before entries))
    ∙ ap (λ (es : List SavedState). restored es states) (drop-append-le from (take before entries) (drop before entries) (omega arith))
    ∙ restored-append (drop from (take before entries)) (drop before entries) states
