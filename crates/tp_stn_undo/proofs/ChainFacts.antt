-- Causes that never lead round: the way back from a point ends, and is the only one.
use Rattle.std.proofs.Common.{◌≡◌, ◌≢◌, ℕ, zero, suc, ◌+◌, ◌≤◌, List, [], ◌∷◌, ◌++◌, length, slice_index, reverse, Option, Some, None, ◌⊎◌, inl, inr, sym, refl, ap, ◌∙◌, subst, arith}
use Rattle.std.proofs.lemmas.Bool.{cases_eq}
use Rattle.std.proofs.lemmas.Int.{ints}
use Rattle.std.proofs.lemmas.Option.{none-some, same_Some}
use Rattle.std.proofs.lemmas.List.{length-append, length-reverse}
use Rattle.std.proofs.lemmas.List.Elements.{All-nil, All-cons, All-head, All-tail, All-push}
use Rattle.std.specs.List.{All, slice_get}
use Rattle.tp_base.specs.declared.edges.Edge.{Edge}
use Rattle.tp_base.specs.Grows.{cause_of}
use Rattle.tp_base.specs.Refute.{Leads, IsCaused, AreCauses, IsCauseChain}
use Rattle.tp_base.proofs.TraceFacts.{Back, Back-push, reverse-cons, IsWayBack, WayBack-push, WayBack-short, WayBack-chain, WayBack-circle}
use Rattle.tp_base.proofs.LeastFacts.{supported_causes, in_list, chain_gain, late_circle}
use Rattle.tp_base.proofs.RefuteFacts.{walk_gain, circle_refutes}
use Rattle.tp_stn_undo.specs.States.{Core, IsSound, net_of_core, lows_of, times_of, edges_of, causes_of}
use Rattle.tp_stn_undo.specs.Chains.{IsSupport, NeverRound}
use Rattle.tp_stn_undo.proofs.RaiseFacts.{lows_len, causes_len}

none_or_some : {X : Type 0} (o : Option X) → (o ≡ None) ⊎ ((x : X) × (o ≡ Some x))
none_or_some None = inl refl
none_or_some (Some x) = inr (x, refl)

-- no edge of the path ends at the point, or one does
passed_or_free : (path : List Edge) (at : ℕ) → (All (λ (e : Edge). e.to.0 ≢ at) path) ⊎ ((k : ℕ) × (e : Edge) × (slice_get path k ≡ Some e) × (e.to.0 ≡ at))
passed_or_free [] at = inl (All-nil (λ (e : Edge). e.to.0 ≢ at))
passed_or_free (e ∷ es) at = elim (cases_eq e.to.0 at) [
  | inl p ↦ inr (0, e, refl, p)
  | inr p ↦ elim (passed_or_free es at) [
    | inl a ↦ inl (All-cons (λ (e : Edge). e.to.0 ≢ at) e es p a)
    | inr w ↦ inr (suc w.0, w.1, w.2, w.3)
  ]
]

module _ (causes : List (Option Edge)) (from : ℕ) (never : NeverRound causes) where
  -- a way back comes to no point twice
  pub not_passed : (at : ℕ) (path : List Edge) → IsWayBack causes from path at → All (λ (e : Edge). e.to.0 ≢ at) path
  not_passed at path w = elim (passed_or_free path at) [
    | inl a ↦ a
    | inr p ↦ absurd (never _ (WayBack-circle causes from at path p.0 p.1 w p.2 p.3))
  ]

  -- a way back is a part of one that ends
  pub way_on : (n at : ℕ) (path : List Edge) → AreCauses causes → IsWayBack causes from path at → length causes ≤ n + length path → (first : ℕ) × (edges : List Edge) × IsCauseChain causes first edges from × (length path ≤ length edges)
  way_on zero at path c w h = absurd (let s = WayBack-short causes from at path w (not_passed at path w) in omega arith)
  way_on (suc n) at path c w h = elim (none_or_some (cause_of causes at)) [
    | inl none ↦ (at, reverse path, WayBack-chain causes from at path w (not_passed at path w) none, (let l = length-reverse path in omega arith))
    | inr some ↦ (
        let l = length-append path (some.0 ∷ []) in
        let i = way_on n some.0.from.0 (path ++ some.0 ∷ []) c (WayBack-push causes from at path some.0 w (not_passed at path w) c some.1) (omega arith) in
        (i.0, i.1, i.2, omega arith))
  ]

-- from a point there is one way back to where it ends
module _ (causes : List (Option Edge)) where
  -- a chain of causes, the last first, is a way back
  chain_back : (es : List Edge) (a b : ℕ) → Leads a es b → All (IsCaused causes) es → (Back b (reverse es) a) × (All (IsCaused causes) (reverse es))
  chain_back [] a b h all = (sym h, all)
  chain_back (e ∷ es) a b h all =
      let i = chain_back es e.to.0 b h.1 (All-tail (IsCaused causes) e es all) in
      rw (reverse-cons e es)
      (subst (Back b (reverse es ++ e ∷ [])) h.0 (Back-push (reverse es) b e.to.0 e i.0 refl), All-push (IsCaused causes) (reverse es) e i.1 (All-head (IsCaused causes) e es all))

  not_both : (from a : ℕ) (e : Edge) → from ≡ a → e.to.0 ≡ from → IsCaused causes e → cause_of causes a ≡ None → ⊥
  not_both from a e h k c none = none-some e (sym none ∙ ap (cause_of causes) (sym h ∙ sym k) ∙ c.1)

  pub one_way_back : (p q : List Edge) (from a b : ℕ) → Back from p a → Back from q b → All (IsCaused causes) p → All (IsCaused causes) q → cause_of causes a ≡ None → cause_of causes b ≡ None → length p ≡ length q
  one_way_back [] [] from a b h k cp cq na nb = refl
  one_way_back [] (e ∷ es) from a b h k cp cq na nb = absurd (not_both from a e h k.0 (All-head (IsCaused causes) e es cq) na)
  one_way_back (d ∷ ds) [] from a b h k cp cq na nb = absurd (not_both from b d k h.0 (All-head (IsCaused causes) d ds cp) nb)
  one_way_back (d ∷ ds) (e ∷ es) from a b h k cp cq na nb =
      let cd = All-head (IsCaused causes) d ds cp in
      let ce = All-head (IsCaused causes) e es cq in
      let same : d ≡ e = same_Some d e (sym cd.1 ∙ ap (cause_of causes) (h.0 ∙ sym k.0) ∙ ce.1) in
      let i = one_way_back ds es d.from.0 a b h.1 (subst (λ (x : Edge). Back x.from.0 es b) (sym same) k.1) (All-tail (IsCaused causes) d ds cp) (All-tail (IsCaused causes) e es cq) na nb in
      omega arith

  -- a way back that ends is as long as any chain of causes to its point
  pub way_is_chain : (path : List Edge) (from at : ℕ) → IsWayBack causes from path at → cause_of causes at ≡ None → (first : ℕ) (edges : List Edge) → IsCauseChain causes first edges from → length edges ≡ length path
  way_is_chain path from at w none first edges c =
      let q = chain_back edges first from c.leads c.caused in
      let i = one_way_back path (reverse edges) from at first w.back q.0 w.caused q.1 none c.root in
      let l = length-reverse edges in
      omega arith

-- ---- in a sound network
module _ (k : Core) (s : IsSound k) where
  abbrev causes : List (Option Edge)
  causes = causes_of (edges_of k.links) k.states

  same_len : length (lows_of k.states) ≡ length causes
  same_len = lows_len k.states ∙ sym (causes_len k.links k.states)

  pub sound_causes : AreCauses causes
  sound_causes = supported_causes (lows_of k.states) (edges_of k.links) (slice_index (times_of k.states)) causes s.supported same_len

  pub sound_never_round : NeverRound causes
  sound_never_round es c = circle_refutes (net_of_core k) es (late_circle (net_of_core k) (slice_index (times_of k.states)) causes es s.supported same_len c) (slice_index (times_of k.states)) s.least.solution

  pub sound_support : (first point : ℕ) (es : List Edge) → IsCauseChain causes first es point → IsSupport (net_of_core k) first es point
  sound_support first point es c =
      let t = slice_index (times_of k.states) in
      let listed = in_list (lows_of k.states) (edges_of k.links) t causes s.supported same_len es c.caused in
      let most = chain_gain (lows_of k.states) (edges_of k.links) t causes s.supported same_len first point es c in
      let least = walk_gain (edges_of k.links) t s.least.solution.keeps es first point c.leads listed in
      let n = same_len in
      let known = c.known in
      let low = s.supported.root first (omega arith) c.root in
      record {
        leads = c.leads;
        in_net = listed;
        known = omega arith;
        apart = c.apart;
        time = t point;
        earliest = (t, s.least, refl);
        sum = omega (arith, ints);
      }
