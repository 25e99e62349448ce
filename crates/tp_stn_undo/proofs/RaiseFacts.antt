-- One step along an edge that is named by its number.
use Rattle.std.proofs.Common.{◌≡◌, ℕ, suc, ◌+◌, ◌-◌, ◌*◌, ◌^◌, ◌<◌, ◌≤◌, Bool, true, false, List, length, slice_index, get_or, set, Option, Some, None, ℤ, pos, nat_abs, to_z, of_z, w64, ◌+ℤ◌, ◌≤ℤ◌, ◌<ℤ◌, sym, refl, ap, ◌∙◌, subst, arith, inl, inr}
use Rattle.std.proofs.lemmas.Bool.{cases_eq, true≢false}
use Rattle.std.proofs.lemmas.Int.{ints}
use Rattle.std.proofs.lemmas.Option.{same_Some, slice_get_within, get_or_from_slice_get}
use Rattle.std.proofs.lemmas.List.{length-map, length-set, map-set, get_or-map, get_or-set_same, get_or-set_other}
use Rattle.std.proofs.lemmas.List.Elements.{All-contains}
use Rattle.std.proofs.Math.Seq.{map-set_same}
use Rattle.std.proofs.Math.Nat.{mul-le-mul_right}
use Rattle.std.specs.List.{All, Contains, slice_get}
use Rattle.tp_base.specs.declared.edges.Edge.{Edge}
use Rattle.tp_base.specs.Net.{Keeps}
use Rattle.tp_base.specs.Grows.{IsKnown, Grows, Rises, PassesCap, AreWithin, cause_of, slack}
use Rattle.tp_base.proofs.GrowsFacts.{nat_abs-is, nat_abs-above, Grows-step, Changes-set, Changes-changed, changed, slack-set, still_kept}
use Rattle.tp_stn_undo.specs.declared.point_state.PointState.{PointState}
use Rattle.tp_stn_undo.specs.declared.link.Link.{Link}
use Rattle.tp_stn_undo.specs.States.{lows_of, times_of, edges_of, causes_of, numbered}
use Rattle.tp_stn_undo.specs.Flags.{flag}
use Rattle.tp_stn_undo.specs.Propagation.{AreNumbered, AsksFor, AsksMore, StatesRise, KeptFrom, IsMet}
use Rattle.tp_stn_undo.proofs.CauseFacts.{no_state, no_link, numbered_at, edge_at}

pub times_len : (states : List PointState) → length (times_of states) ≡ length states
times_len states = length-map states (λ (s : PointState). s.time)

pub lows_len : (states : List PointState) → length (lows_of states) ≡ length states
lows_len states = length-map states (λ (s : PointState). s.low)

pub causes_len : (links : List Link) (states : List PointState) → length (causes_of (edges_of links) states) ≡ length states
causes_len links states = length-map states (λ (s : PointState). numbered (edges_of links) s.cause)

pub time_at : (states : List PointState) (p : ℕ) → p < length states → slice_index (times_of states) p ≡ (get_or states p no_state).time
time_at states p h = get_or-map (λ (s : PointState). s.time) states p no_state 0 h

-- what is asked for, as a time
abbrev pub height : ℤ → ℕ
height reach = nat_abs (to_z w64 (of_z w64 reach))

pub record Pulls (from to : ℕ) (weight asked : ℤ) : Type 0 where
  pub is : pos (height asked) ≡ asked
  pub reach : pos (height asked) ≡ (pos from +ℤ weight)
  pub more : to < height asked

module _ (links : List Link) (states : List PointState) (number : ℕ) (some : 0 < number) (within : number ≤ length links) (all : All (IsKnown (length states)) (edges_of links)) where
  abbrev pub edge : Edge
  edge = (get_or links (number - 1) no_link).edge

  abbrev pub to : ℕ
  to = edge.to.0

  abbrev times : List ℕ
  times = times_of states

  abbrev causes : List (Option Edge)
  causes = causes_of (edges_of links) states

  pub is_edge : slice_get (edges_of links) (number - 1) ≡ Some edge
  is_edge = sym (numbered_at (edges_of links) number some) ∙ edge_at links number no_link some within

  pub in_list : Contains (edges_of links) edge
  in_list = (number - 1, slice_get_within (edges_of links) (number - 1) edge is_edge, get_or_from_slice_get (edges_of links) (number - 1) edge edge is_edge)

  pub known : IsKnown (length states) edge
  known = All-contains (IsKnown (length states)) (edges_of links) edge all in_list

  -- the point that the edge leads to, with that time
  abbrev pub raised : ℕ → PointState
  raised high = record { low = (get_or states to no_state).low; time = high; cause = number }

  abbrev pub after : ℕ → List PointState
  after high = set states to (raised high)

  times_after : (high : ℕ) → times_of (after high) ≡ set times to high
  times_after high = map-set (λ (s : PointState). s.time) states to (raised high)

  -- with its own time again
  pub times_same : times_of (after (get_or states to no_state).time) ≡ times
  times_same = map-set_same (λ (s : PointState). s.time) states to (raised (get_or states to no_state).time) no_state refl

  causes_after : (high : ℕ) → causes_of (edges_of links) (after high) ≡ set causes to (Some edge)
  causes_after high = map-set (λ (s : PointState). numbered (edges_of links) s.cause) states to (raised high) ∙ ap (set causes to) (edge_at links number no_link some within)

  pub lows_after : (high : ℕ) → lows_of (after high) ≡ lows_of states
  lows_after high = map-set_same (λ (s : PointState). s.low) states to (raised high) no_state refl

  pub numbered_after : (high : ℕ) → AreNumbered links states → AreNumbered links (after high)
  numbered_after high n k d h =
      let l = length-set states to (raised high) in
      let t = known.to in
      elim (cases_eq k to) [
        | inl e ↦ (let a = ap (λ (s : PointState). s.cause) (get_or-set_same states to (raised high) d t) in let b = ap (λ (i : ℕ). (get_or (after high) i d).cause) e in omega arith)
        | inr e ↦ (let a = ap (λ (s : PointState). s.cause) (get_or-set_other states to k (raised high) d e) in let b = n k d (omega arith) in omega arith)
      ]

  -- what the edge asks for is more than the time of its end
  pub pulls : (reach : ℤ) → AsksFor (edges_of links) number (slice_index times) reach → AsksMore (edges_of links) number (slice_index times) → reach <ℤ pos (2 ^ 63)
      → Pulls (slice_index times edge.from.0) (slice_index times to) edge.weight reach
  pulls reach for more fits =
      let sum = for edge (edge_at links number no_link some within) in
      let asks = more edge (edge_at links number no_link some within) in
      let least = known.least in
      let most = known.most in
      let from = time_at states edge.from.0 known.from in
      let end = time_at states to known.to in
      let z : ℤ = to_z w64 (of_z w64 reach) in
      let high : pos (nat_abs z) ≡ (pos (slice_index times edge.from.0) +ℤ edge.weight) = nat_abs-is z (pos (slice_index times edge.from.0) +ℤ edge.weight) (omega (arith, ints)) (omega (arith, ints)) in
      record { is = high ∙ sym sum; reach = high; more = nat_abs-above (slice_index times to) z (omega (arith, ints)) }

  module _ (high : ℕ) (reach : pos high ≡ (pos (slice_index times edge.from.0) +ℤ edge.weight)) (more : slice_index times to < high) where
    to_in : to < length times
    to_in = let t = known.to in let l = times_len states in omega arith

    from_in : edge.from.0 < length times
    from_in = let t = known.from in let l = times_len states in omega arith

    to_caused : to < length causes
    to_caused = let t = known.to in let l = causes_len links states in omega arith

    pub rises : StatesRise links states (after high)
    rises =
        subst (λ (ts : List ℕ). Rises (edges_of links) times causes ts (causes_of (edges_of links) (after high))) (sym (times_after high))
        (subst (λ (cs : List (Option Edge)). Rises (edges_of links) times causes (set times to high) cs) (sym (causes_after high))
        (Grows-step (length times) (edges_of links) (slice_index times) (slice_index (set times to high)) (cause_of causes) (cause_of (set causes to (Some edge))) edge high in_list from_in to_in reach more
        (Changes-set times to high 0 to_in) (Changes-set causes to (Some edge) None to_caused)))

    -- where it passes the upper bound, the time stays
    pub passes : (caps : List ℕ) (low : ℕ) → slice_index caps to < high → PassesCap caps (edges_of links) times causes (causes_of (edges_of links) (after low)) to
    passes caps low above =
        let dt = Changes-changed (slice_index times) to high in
        let at : changed (slice_index times) to high to ≡ high = dt.at in
        record {
          known = to_in;
          time = changed (slice_index times) to high;
          grows = subst (λ (cs : List (Option Edge)). Grows (length times) (edges_of links) (slice_index times) (cause_of causes) (changed (slice_index times) to high) (cause_of cs)) (sym (causes_after low))
              (Grows-step (length times) (edges_of links) (slice_index times) (changed (slice_index times) to high) (cause_of causes) (cause_of (set causes to (Some edge))) edge high in_list from_in to_in reach more dt (Changes-set causes to (Some edge) None to_caused));
          passes = omega arith;
        }

    pub below_after : (caps : List ℕ) → high ≤ slice_index caps to → AreWithin caps times → AreWithin caps (times_of (after high))
    below_after caps fits b i h =
        let e = times_after high in
        let l = length-set times to high in
        let le = ap length e in
        let ei = ap (λ (ts : List ℕ). slice_index ts i) e in
        elim (cases_eq i to) [
          | inl p ↦ (let a = get_or-set_same times to high 0 to_in in let q = ap (slice_index (set times to high)) p in let r = ap (slice_index caps) p in omega arith)
          | inr p ↦ (let a = get_or-set_other times to i high 0 p in let q = b i (omega arith) in omega arith)
        ]

    pub kept_after : (flags : List Bool) (edges : List Edge) (point left : ℕ) → to < length flags → KeptFrom edges (slice_index times) flags point left → KeptFrom edges (slice_index (times_of (after high))) (set flags to true) point left
    kept_after flags edges point left h k i e g f from =
        subst (λ (ts : List ℕ). Keeps (slice_index ts) e) (sym (times_after high)) (elim (cases_eq e.from.0 to) [
          | inl p ↦ absurd (true≢false (sym (ap (flag (set flags to true)) p ∙ get_or-set_same flags to true false h) ∙ f))
          | inr p ↦ still_kept (slice_index times) (slice_index (set times to high)) to high e (Changes-set times to high 0 to_in) (omega arith) p (k i e g (sym (get_or-set_other flags to e.from.0 true false p) ∙ f) from)
        ])

    pub met_after : (flags : List Bool) → to < length flags → IsMet (edges_of links) (slice_index (times_of (after high))) (set flags to true) (number - 1)
    met_after flags h e g f =
        let is : edge ≡ e = same_Some edge e (sym is_edge ∙ g) in
        subst (λ (ts : List ℕ). Keeps (slice_index ts) e) (sym (times_after high)) (subst (λ (x : Edge). Keeps (slice_index (set times to high)) x) is (elim (cases_eq edge.from.0 to) [
          | inl p ↦ absurd (true≢false (sym (ap (flag (set flags to true)) (sym (ap (λ (x : Edge). x.from.0) is) ∙ p) ∙ get_or-set_same flags to true false h) ∙ f))
          | inr p ↦ (let a = get_or-set_same times to high 0 to_in in let b = get_or-set_other times to edge.from.0 high 0 p in omega (arith, ints))
        ]))

    pub less_after : (caps : List ℕ) → length caps ≡ length states → high ≤ slice_index caps to → slack caps (times_of (after high)) < slack caps times
    less_after caps n fits = subst (λ (ts : List ℕ). slack caps ts < slack caps times) (sym (times_after high)) (slack-set caps times to high to_in (n ∙ sym (times_len states)) more fits)

  -- where the edge is kept already
  pub met_same : (flags : List Bool) → (pos (slice_index times edge.from.0) +ℤ edge.weight) ≤ℤ pos (slice_index times to) → IsMet (edges_of links) (slice_index times) flags (number - 1)
  met_same flags k e g f = subst (λ (x : Edge). Keeps (slice_index times) x) (same_Some edge e (sym is_edge ∙ g)) k

  pub asks_more : pos (slice_index times to) <ℤ (pos (slice_index times edge.from.0) +ℤ edge.weight) → AsksMore (edges_of links) number (slice_index times)
  asks_more h e g = subst (λ (x : Edge). pos (slice_index times x.to.0) <ℤ (pos (slice_index times x.from.0) +ℤ x.weight)) (same_Some edge e (sym (edge_at links number no_link some within) ∙ g)) h

-- less slack makes up for all that may wait
pub weight_less : (s s' n l l' : ℕ) → s' < s → l' ≤ n → s' * (n + 1) + l' ≤ s * (n + 1) + l
weight_less s s' n l l' h k =
    let m : suc s' * (n + 1) ≤ s * (n + 1) = mul-le-mul_right (n + 1) h in
    omega arith
