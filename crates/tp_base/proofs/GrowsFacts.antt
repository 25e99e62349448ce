-- One step along an edge, and steps one after another.
use Rattle.std.proofs.Common.{nat_abs, negsuc, [], ◌∷◌, get_or, set, suc, zero, ◌≡◌, ◌≢◌, ℕ, ◌+◌, ◌<◌, ◌≤◌, List, length, slice_index, Option, Some, ℤ, pos, ◌+ℤ◌, ◌≤ℤ◌, ◌<ℤ◌, sym, refl, ap, ◌∙◌, subst, arith, cond, eqb, ◌⊎◌, inl, inr}
use Rattle.std.proofs.lemmas.Bool.{cases_eq, eq-eqb, ne_eqb, true≢false}
use Rattle.std.proofs.lemmas.Option.{none-some, same_Some}
use Rattle.std.proofs.lemmas.Int.{ints}
use Rattle.std.proofs.lemmas.List.{get_or-set_same, get_or-set_other}
use Rattle.std.proofs.lemmas.List.Elements.{All-contains}
use Rattle.std.specs.List.{Contains}
use Rattle.tp_base.specs.declared.edges.Edge.{Edge}
use Rattle.tp_base.specs.Net.{Keeps}
use Rattle.tp_base.specs.Grows.{IsCause, IsSupported, Grows, slack, Rises, PassesCap}

-- f' is f with x at v
pub record Changes {X : Type 0} (f : ℕ → X) (v : ℕ) (x : X) (f' : ℕ → X) : Type 0 where
  pub at : f' v ≡ x
  pub others : (u : ℕ) → u ≢ v → f' u ≡ f u

pub Grows-trans : {count : ℕ} {edges : List Edge} {t1 t2 t3 : ℕ → ℕ} {c1 c2 c3 : ℕ → Option Edge} → Grows count edges t1 c1 t2 c2 → Grows count edges t2 c2 t3 c3 → Grows count edges t1 c1 t3 c3
Grows-trans a b = record {
  supported = λ lows n s. b.supported lows n (a.supported lows n s);
  rises = λ i h. omega (arith, a.rises i h, b.rises i h);
  below = λ y k h. b.below y k (a.below y k h);
}

-- another stamp at v
abbrev pub stamped : (ℕ → ℕ) → ℕ → ℕ → ℕ → ℕ
stamped stamp v n u = cond (eqb u v) n (stamp u)

stamped-same : (stamp : ℕ → ℕ) (v n : ℕ) → stamped stamp v n v ≡ n
stamped-same stamp v n = ap (λ b. cond b n (stamp v)) (eq-eqb v v refl)

stamped-other : (stamp : ℕ → ℕ) (v n u : ℕ) → u ≢ v → stamped stamp v n u ≡ stamp u
stamped-other stamp v n u h = ap (λ b. cond b n (stamp u)) (ne_eqb u v h)

-- a step along an edge that asks for more than the time of its end
module _ (count : ℕ) (edges : List Edge) (t t' : ℕ → ℕ) (cause cause' : ℕ → Option Edge) (e : Edge) (high : ℕ)
    (in_list : Contains edges e) (from : e.from.0 < count) (to : e.to.0 < count)
    (reach : pos high ≡ (pos (t e.from.0) +ℤ e.weight)) (more : t e.to.0 < high)
    (dt : Changes t e.to.0 high t') (dc : Changes cause e.to.0 (Some e) cause') where
  new_cause : (stamp : ℕ → ℕ) (next : ℕ) → ((v : ℕ) → v < count → stamp v < next) → IsCause count edges t' (stamped stamp e.to.0 next) e.to.0 e
  new_cause stamp next early =
      let at = dt.at in
      let at_to = stamped-same stamp e.to.0 next in
      elim (cases_eq e.from.0 e.to.0) [
        | inl p ↦ (
            let a : t' e.from.0 ≡ t' e.to.0 = ap t' p in
            let b : t e.from.0 ≡ t e.to.0 = ap t p in
            record { in_list = in_list; to = refl; from = from; at_most = omega (arith, ints); tie = λ h. absurd (omega (arith, ints)) })
        | inr p ↦ (
            let a : t' e.from.0 ≡ t e.from.0 = dt.others e.from.0 p in
            let b : stamped stamp e.to.0 next e.from.0 ≡ stamp e.from.0 = stamped-other stamp e.to.0 next e.from.0 p in
            let k = early e.from.0 from in
            record { in_list = in_list; to = refl; from = from; at_most = omega (arith, ints); tie = λ _. omega arith })
      ]

  kept_cause : (stamp : ℕ → ℕ) (next v : ℕ) (d : Edge) → v ≢ e.to.0 → IsCause count edges t stamp v d → IsCause count edges t' (stamped stamp e.to.0 next) v d
  kept_cause stamp next v d ne c =
      let at = dt.at in
      let tv : t' v ≡ t v = dt.others v ne in
      let sv : stamped stamp e.to.0 next v ≡ stamp v = stamped-other stamp e.to.0 next v ne in
      let le = c.at_most in
      elim (cases_eq d.from.0 e.to.0) [
        | inl p ↦ (
            let a : t' d.from.0 ≡ t' e.to.0 = ap t' p in
            let b : t d.from.0 ≡ t e.to.0 = ap t p in
            record { in_list = c.in_list; to = c.to; from = c.from; at_most = omega (arith, ints); tie = λ h. absurd (omega (arith, ints)) })
        | inr p ↦ (
            let a : t' d.from.0 ≡ t d.from.0 = dt.others d.from.0 p in
            let b : stamped stamp e.to.0 next d.from.0 ≡ stamp d.from.0 = stamped-other stamp e.to.0 next d.from.0 p in
            record {
              in_list = c.in_list;
              to = c.to;
              from = c.from;
              at_most = omega (arith, ints);
              tie = λ h. let k : pos (t v) ≡ (pos (t d.from.0) +ℤ d.weight) = omega (arith, ints) in let m = c.tie k in omega arith;
            })
      ]

  step_supported : (lows : List ℕ) → length lows ≡ count → IsSupported lows edges t cause → IsSupported lows edges t' cause'
  step_supported lows n s = record {
    stamp = stamped s.stamp e.to.0 s.next;
    next = s.next + 1;
    early = λ v h. elim (cases_eq v e.to.0) [
      | inl p ↦ (let a = stamped-same s.stamp e.to.0 s.next in let b = ap (stamped s.stamp e.to.0 s.next) p in omega arith)
      | inr p ↦ (let a = stamped-other s.stamp e.to.0 s.next v p in let b = s.early v h in omega arith)
    ];
    root = λ v h none. elim (cases_eq v e.to.0) [
      | inl p ↦ absurd (none-some e (sym none ∙ ap cause' p ∙ dc.at))
      | inr p ↦ dt.others v p ∙ s.root v h (sym (dc.others v p) ∙ none)
    ];
    caused = λ v d h some. elim (cases_eq v e.to.0) [
      | inl p ↦ (let q : e ≡ d = same_Some e d (sym dc.at ∙ sym (ap cause' p) ∙ some) in
          rw (n, p) (subst (λ d. IsCause count edges t' (stamped s.stamp e.to.0 s.next) e.to.0 d) q (new_cause s.stamp s.next (λ u k. s.early u (rw n k)))))
      | inr p ↦ rw n (kept_cause s.stamp s.next v d p (rw n at (s.caused v d h (sym (dc.others v p) ∙ some))))
    ];
  }

  pub Grows-step : Grows count edges t cause t' cause'
  Grows-step = record {
    supported = step_supported;
    rises = λ i h. elim (cases_eq i e.to.0) [
      | inl p ↦ (let a = dt.at in let b = ap t' p in let c = ap t p in omega arith)
      | inr p ↦ (let a = dt.others i p in omega arith)
    ];
    below = λ y keeps h i k. elim (cases_eq i e.to.0) [
      | inl p ↦ (let a = dt.at in let b = ap t' p in let c = ap y p in
          let d = h e.from.0 from in let f = All-contains (Keeps y) edges e keeps in_list in
          omega (arith, ints, f))
      | inr p ↦ (let a = dt.others i p in let b = h i k in omega arith)
    ];
  }

pub Changes-set : {X : Type 0} (xs : List X) (v : ℕ) (x d : X) → v < length xs → Changes (λ i. get_or xs i d) v x (λ i. get_or (set xs v x) i d)
Changes-set xs v x d h = record { at = get_or-set_same xs v x d h; others = λ u ne. get_or-set_other xs v u x d ne }

-- f' is f with x at v
abbrev pub changed : {X : Type 0} → (ℕ → X) → ℕ → X → ℕ → X
changed f v x u = cond (eqb u v) x (f u)

pub Changes-changed : {X : Type 0} (f : ℕ → X) (v : ℕ) (x : X) → Changes f v x (changed f v x)
Changes-changed f v x = record { at = ap (λ b. cond b x (f v)) (eq-eqb v v refl); others = λ u ne. ap (λ b. cond b x (f u)) (ne_eqb u v ne) }

-- a time that rises below its cap takes from the slack
pub slack-set : (caps times : List ℕ) (v high : ℕ) → v < length times → length caps ≡ length times → slice_index times v < high → high ≤ slice_index caps v → slack caps (set times v high) < slack caps times
slack-set [] [] v high h n m k = absurd (omega arith)
slack-set [] (t ∷ ts) v high h n m k = absurd (omega arith)
slack-set (c ∷ cs) [] v high h n m k = absurd (omega arith)
slack-set (c ∷ cs) (t ∷ ts) zero high h n m k = omega arith
slack-set (c ∷ cs) (t ∷ ts) (suc v) high h n m k =
    let i = slack-set cs ts v high (omega arith) (omega arith) m k in omega arith

-- a number that isn't negative, as a natural
pub nat_abs-is : (z w : ℤ) → pos 0 ≤ℤ z → z ≡ w → pos (nat_abs z) ≡ w
nat_abs-is (pos n) w h e = e
nat_abs-is (negsuc n) w h e = absurd (omega (arith, ints))

pub nat_abs-above : (n : ℕ) (z : ℤ) → pos n <ℤ z → n < nat_abs z
nat_abs-above n (pos m) h = omega (arith, ints)
nat_abs-above n (negsuc m) h = absurd (omega (arith, ints))

pub nat_abs-at_most : (z : ℤ) (n : ℕ) → pos 0 ≤ℤ z → z ≤ℤ pos n → nat_abs z ≤ n
nat_abs-at_most (pos m) n h k = omega (arith, ints)
nat_abs-at_most (negsuc m) n h k = absurd (omega (arith, ints))

pub Rises-trans : (edges : List Edge) (t0 t1 t2 : List ℕ) (c0 c1 c2 : List (Option Edge)) → length t1 ≡ length t0 → Rises edges t0 c0 t1 c1 → Rises edges t1 c1 t2 c2 → Rises edges t0 c0 t2 c2
Rises-trans edges t0 t1 t2 c0 c1 c2 n a b = Grows-trans a (rw n at b)

pub PassesCap-after : (caps : List ℕ) (edges : List Edge) (t0 t1 : List ℕ) (c0 c1 c2 : List (Option Edge)) (p : ℕ) → length t1 ≡ length t0 → Rises edges t0 c0 t1 c1 → PassesCap caps edges t1 c1 c2 p → PassesCap caps edges t0 c0 c2 p
PassesCap-after caps edges t0 t1 c0 c1 c2 p n a b = record {
  known = omega (arith, b.known);
  time = b.time;
  grows = Grows-trans a (rw n at b.grows);
  passes = b.passes;
}

-- for a worklist: an edge from elsewhere is still kept as a time rises
pub still_kept : (t t' : ℕ → ℕ) (v high : ℕ) (e : Edge) → Changes t v high t' → t v ≤ high → e.from.0 ≢ v → Keeps t e → Keeps t' e
still_kept t t' v high e d h ne k =
    let a = d.others e.from.0 ne in
    let at = d.at in
    elim (cases_eq e.to.0 v) [
      | inl p ↦ (let b = ap t' p in let c = ap t p in omega (arith, ints))
      | inr p ↦ (let b = d.others e.to.0 p in omega (arith, ints))
    ]
