-- From supported times to least solutions, and to what refutes a net.
use Rattle.std.proofs.Common.{◌≡◌, ℕ, ◌<◌, ◌≤◌, List, [], ◌∷◌, ◌++◌, length, slice_index, get_or, set, take, drop, Option, None, pos, ◌+ℤ◌, ◌≤ℤ◌, ◌<ℤ◌, sym, refl, ap, ◌∙◌, arith, inl, inr}
use Rattle.std.proofs.lemmas.Int.{ints}
use Rattle.std.proofs.lemmas.Option.{none-some}
use Rattle.std.proofs.lemmas.List.{length-set, get_or-set_same, get_or-set_other, take_at, length-append, get_or_append_left, get_or_at}
use Rattle.std.proofs.lemmas.Bool.{cases_lt, cases_eq}
use Rattle.std.proofs.lemmas.List.Elements.{All-head, All-tail, All-weaker}
use Rattle.std.specs.List.{All, Contains}
use Rattle.tp_base.specs.declared.edges.Edge.{Edge}
use Rattle.tp_base.specs.Net.{Net, Keeps, IsLeast, IsEarliest, with_low}
use Rattle.tp_base.specs.Grows.{IsKnown, IsCause, IsSupported, Rises, PassesCap, AreWithin, cause_of}
use Rattle.tp_base.specs.Refute.{Leads, total_weight, IsCaused, AreCauses, IsCauseChain, IsCauseCircle, IsLateChain, IsLateCircle}

-- with no causes, each time is the low
pub start_supported : (lows : List ℕ) (edges : List Edge) (causes : List (Option Edge)) → ((v : ℕ) → v < length lows → cause_of causes v ≡ None) → IsSupported lows edges (slice_index lows) (cause_of causes)
start_supported lows edges causes none = record {
  stamp = λ _. 0;
  next = 1;
  early = λ v h. omega arith;
  root = λ v h _. refl;
  caused = λ v e h some. absurd (none-some e (sym (none v h) ∙ some));
}

module _ (lows : List ℕ) (edges : List Edge) (t : ℕ → ℕ) (causes : List (Option Edge)) (s : IsSupported lows edges t (cause_of causes)) (n : length lows ≡ length causes) where
  pub supported_causes : AreCauses causes
  supported_causes v e h some =
      let c = s.caused v e (omega arith) some in
      let f = c.from in
      (c.to, omega arith)

  is_cause : (e : Edge) → IsCaused causes e → IsCause (length lows) edges t s.stamp e.to.0 e
  is_cause e h = let k = h.0 in s.caused e.to.0 e (omega arith) h.1

  pub in_list : (es : List Edge) → All (IsCaused causes) es → All (Contains edges) es
  in_list es a = All-weaker (IsCaused causes) (Contains edges) (λ e h. (is_cause e h).in_list) es a

  -- a way along causes adds at least what the time gains, and where it is no more, the stamps rise
  record Gains (a : ℕ) (es : List Edge) (b : ℕ) : Type 0 where
    at_most : pos (t b) ≤ℤ (pos (t a) +ℤ total_weight es)
    rises : pos (t b) ≡ (pos (t a) +ℤ total_weight es) → s.stamp a ≤ s.stamp b
    strict : pos (t b) ≡ (pos (t a) +ℤ total_weight es) → 0 < length es → s.stamp a < s.stamp b

  gains : (es : List Edge) (a b : ℕ) → Leads a es b → All (IsCaused causes) es → Gains a es b
  gains [] a b h all = let e = ap t h in let f = ap s.stamp h in record { at_most = omega (arith, ints); rises = λ _. omega arith; strict = λ _ k. absurd (omega arith) }
  gains (e ∷ es) a b h all =
      let i = gains es e.to.0 b h.1 (All-tail (IsCaused causes) e es all) in
      let c = is_cause e (All-head (IsCaused causes) e es all) in
      let p : t e.from.0 ≡ t a = ap t h.0 in
      let q : s.stamp e.from.0 ≡ s.stamp a = ap s.stamp h.0 in
      let u = i.at_most in
      let v = c.at_most in
      let strict : pos (t b) ≡ (pos (t a) +ℤ total_weight (e ∷ es)) → s.stamp a < s.stamp b = λ tie.
      (let x : pos (t b) ≡ (pos (t e.to.0) +ℤ total_weight es) = omega (arith, ints) in
      let y : pos (t e.to.0) ≡ (pos (t e.from.0) +ℤ e.weight) = omega (arith, ints) in
      let x1 = i.rises x in
      let y1 = c.tie y in
      omega arith) in
      record { at_most = omega (arith, ints); rises = λ tie. (let z = strict tie in omega arith); strict = λ tie _. strict tie }

  -- a circle of causes has a positive sum
  pub circle_positive : (es : List Edge) → IsCauseCircle causes es → pos 0 <ℤ total_weight es
  circle_positive es c =
      let g = gains es c.first c.first c.leads c.caused in
      let u = g.at_most in
      let v : pos (t c.first) ≡ (pos (t c.first) +ℤ total_weight es) → ⊥ = λ tie. (let k = g.strict tie c.some in omega arith) in
      let w : total_weight es ≡ pos 0 → ⊥ = λ z. v (omega (arith, ints)) in
      omega (arith, ints)

  -- a chain of causes adds at least what the time is above the low of its first point
  pub chain_gain : (first last : ℕ) (es : List Edge) → IsCauseChain causes first es last → pos (t last) ≤ℤ (pos (slice_index lows first) +ℤ total_weight es)
  chain_gain first last es c =
      let g = (gains es first last c.leads c.caused).at_most in
      let k = c.known in
      let e = s.root first (omega arith) c.root in
      omega (arith, ints)

pub late_chain : (net : Net) (t : ℕ → ℕ) (causes : List (Option Edge)) (first last : ℕ) (es : List Edge) → IsSupported net.lows net.edges t (cause_of causes) → length net.lows ≡ length causes → last < length net.lows → slice_index net.caps last < t last → IsCauseChain causes first es last → IsLateChain net first es
late_chain net t causes first last es s n last_known passes c =
    let g = chain_gain net.lows net.edges t causes s n first last es c in
    let k = c.known in
    record {
      last = last;
      leads = c.leads;
      in_net = in_list net.lows net.edges t causes s n es c.caused;
      known = omega arith;
      last_known = last_known;
      passes = omega (arith, ints);
      apart = c.apart;
    }

pub late_circle : (net : Net) (t : ℕ → ℕ) (causes : List (Option Edge)) (es : List Edge) → IsSupported net.lows net.edges t (cause_of causes) → length net.lows ≡ length causes → IsCauseCircle causes es → IsLateCircle net es
late_circle net t causes es s n c = record {
  first = c.first;
  leads = c.leads;
  in_net = in_list net.lows net.edges t causes s n es c.caused;
  positive = circle_positive net.lows net.edges t causes s n es c;
  apart = c.apart;
}

-- times that rose from the lows, keep each edge and pass no cap are the least
pub settled_least : (net : Net) (causes0 causes : List (Option Edge)) (times : List ℕ) → length times ≡ length net.lows → Rises net.edges net.lows causes0 times causes → AreWithin net.caps times → All (Keeps (slice_index times)) net.edges → IsLeast net (slice_index times)
settled_least net causes0 causes times n g within keeps = record {
  solution = record {
    above_low = λ i h. g.rises i h;
    below_cap = λ i h. within i (omega arith);
    keeps = keeps;
  };
  least = λ y sol i h. g.below y sol.keeps sol.above_low i h;
}

-- two least solutions are the same at each point
pub least_same : (net : Net) (x y : ℕ → ℕ) → IsLeast net x → IsLeast net y → (i : ℕ) → i < length net.lows → x i ≡ y i
least_same net x y f g i h = let a = f.least y g.solution i h in let b = g.least x f.solution i h in omega arith

-- the earliest time of a point is its time in each least solution
pub earliest-is : (net : Net) (sol : ℕ → ℕ) (p t : ℕ) → IsLeast net sol → p < length net.lows → IsEarliest net p t → t ≡ sol p
earliest-is net sol p t l within e = e.2 ∙ least_same net e.0 sol e.1 l p within

-- the times past the cap are supported too, and so is what was kept of them
pub passed_supported : (lows caps : List ℕ) (edges : List Edge) (causes0 causes : List (Option Edge)) (p : ℕ) → ((v : ℕ) → cause_of causes0 v ≡ None) → (k : PassesCap caps edges lows causes0 causes p) → IsSupported lows edges k.time (cause_of causes)
passed_supported lows caps edges causes0 causes p none k = k.grows.supported lows refl (start_supported lows edges causes0 (λ v _. none v))

-- what a slice of a whole vector leaves in it
pub mut_items : {X : Type 0} (n : ℕ) (xs ys : List X) → length xs ≡ n → take n (xs ++ drop (length xs) ys) ≡ xs
mut_items n xs ys h = take_at xs (drop (length xs) ys) n h

-- one more point, with no edges
module _ (lows caps times : List ℕ) (edges : List Edge) (low cap : ℕ) (n : length caps ≡ length lows) (m : length times ≡ length lows) (fits : low ≤ cap)
    (known : All (IsKnown (length lows)) edges) where
  pub point_within : AreWithin caps lows → AreWithin (caps ++ cap ∷ []) (lows ++ low ∷ [])
  point_within w i h =
      let l = length-append lows (low ∷ []) in
      elim (cases_lt i (length lows)) [
        | inl p ↦ (let a = get_or_append_left lows (low ∷ []) 0 i p in let b = get_or_append_left caps (cap ∷ []) 0 i (omega arith) in let d = w i p in omega arith)
        | inr p ↦ (let a = get_or_at lows low [] 0 i (omega arith) in let b = get_or_at caps cap [] 0 i (omega arith) in omega arith)
      ]

  pub point_known : All (IsKnown (length (lows ++ low ∷ []))) edges
  point_known k d h =
      let l = length-append lows (low ∷ []) in
      let e = known k d h in
      let f = e.from in
      let t = e.to in
      record { from = omega arith; to = omega arith; least = e.least; most = e.most }

  pub point_least : IsLeast (record { lows = lows; caps = caps; edges = edges }) (slice_index times) → IsLeast (record { lows = lows ++ low ∷ []; caps = caps ++ cap ∷ []; edges = edges }) (slice_index (times ++ low ∷ []))
  point_least s =
      let l = length-append lows (low ∷ []) in
      record {
        solution = record {
          above_low = λ i h. elim (cases_lt i (length lows)) [
            | inl p ↦ (let a = get_or_append_left lows (low ∷ []) 0 i p in let b = get_or_append_left times (low ∷ []) 0 i (omega arith) in let d = s.solution.above_low i p in omega arith)
            | inr p ↦ (let a = get_or_at lows low [] 0 i (omega arith) in let b = get_or_at times low [] 0 i (omega arith) in omega arith)
          ];
          below_cap = λ i h. elim (cases_lt i (length lows)) [
            | inl p ↦ (let a = get_or_append_left caps (cap ∷ []) 0 i (omega arith) in let b = get_or_append_left times (low ∷ []) 0 i (omega arith) in let d = s.solution.below_cap i p in omega arith)
            | inr p ↦ (let a = get_or_at caps cap [] 0 i (omega arith) in let b = get_or_at times low [] 0 i (omega arith) in omega arith)
          ];
          keeps = λ k d h. (
              let e = known k d h in
              let f = e.from in
              let t = e.to in
              let a = get_or_append_left times (low ∷ []) 0 (get_or edges k d).from.0 (omega arith) in
              let b = get_or_append_left times (low ∷ []) 0 (get_or edges k d).to.0 (omega arith) in
              let q = s.solution.keeps k d h in
              omega (arith, ints));
        };
        least = λ y sol i h. elim (cases_lt i (length lows)) [
          | inl p ↦ (let b = get_or_append_left times (low ∷ []) 0 i (omega arith) in
              let d = s.least y (record {
                above_low = λ j k. (let a = get_or_append_left lows (low ∷ []) 0 j k in let u = sol.above_low j (omega arith) in omega arith);
                below_cap = λ j k. (let a = get_or_append_left caps (cap ∷ []) 0 j (omega arith) in let u = sol.below_cap j (omega arith) in omega arith);
                keeps = sol.keeps;
              }) i p in omega arith)
          | inr p ↦ (let a = get_or_at lows low [] 0 i (omega arith) in let b = get_or_at times low [] 0 i (omega arith) in let u = sol.above_low i h in omega arith)
        ];
      }

-- a low past its cap
pub raised_chain : (net : Net) (p low : ℕ) → p < length net.lows → slice_index net.caps p < low → IsLateChain (with_low net p low) p []
raised_chain net p low known h =
    let l = length-set net.lows p low in
    let e : get_or (set net.lows p low) p 0 ≡ low = get_or-set_same net.lows p low 0 known in
    record {
      last = p;
      leads = refl;
      in_net = λ k d i. absurd (omega arith);
      known = omega arith;
      last_known = omega arith;
      passes = omega (arith, ints);
      apart = λ i j a b q. absurd (omega arith);
    }

pub raised_within : (lows caps : List ℕ) (p low : ℕ) → p < length lows → low ≤ slice_index caps p → AreWithin caps lows → AreWithin caps (set lows p low)
raised_within lows caps p low known h w i k =
    let l = length-set lows p low in
    elim (cases_eq i p) [
      | inl e ↦ (let a : get_or (set lows p low) p 0 ≡ low = get_or-set_same lows p low 0 known in let b = ap (λ j. get_or (set lows p low) j 0) e in let d = ap (λ j. get_or caps j 0) e in omega arith)
      | inr e ↦ (let a : get_or (set lows p low) i 0 ≡ get_or lows i 0 = get_or-set_other lows p i low 0 e in let b = w i (omega arith) in omega arith)
    ]
