-- Walking back along causes.
use Rattle.std.proofs.Common.{◌||◌, true, suc, zero, ◌≡◌, ◌≢◌, ℕ, ◌+◌, ◌-◌, ◌<◌, ◌≤◌, List, [], ◌∷◌, ◌++◌, length, slice_index, get_or, take, drop, reverse, map, Option, Some, None, sym, refl, ap, ◌∙◌, subst, arith, eqb, pos, inl, inr}
use Rattle.std.proofs.lemmas.Bool.{cases_lt, ne_eqb, false≢true}
use Rattle.std.proofs.lemmas.Option.{none-some, same_Some, slice_get_within}
use Rattle.std.proofs.lemmas.List.{reverse-append, length-reverse, length-append, length-map, map-append, get_or-map, get_or-reverse, get_or-drop, length-drop, drop-map, take-append-drop, take_at, get_or_append_left, get_or_at, get_or_default}
use Rattle.std.proofs.lemmas.List.Elements.{All-push, All-drop}
use Rattle.std.proofs.lemmas.Map.Steps.{length-le_from_distinct_below}
use Rattle.std.proofs.lemmas.Map.Keys.{IsDistinct-from_apart}
use Rattle.std.proofs.lemmas.Bool.Decides.{eqb_tells}
use Rattle.std.specs.List.{All, slice_get, list_any}
use Rattle.tp_base.specs.declared.edges.Edge.{Edge}
use Rattle.tp_base.specs.Grows.{cause_of}
use Rattle.tp_base.specs.Refute.{Leads, AreApart, ends_of, IsCaused, AreCauses, IsCauseChain, IsCauseCircle}

pub apart-push : (ps : List ℕ) (x : ℕ) → AreApart ps → ((i : ℕ) → i < length ps → slice_index ps i ≢ x) → AreApart (ps ++ x ∷ [])
apart-push ps x a n i j h k e =
    let l : length (ps ++ x ∷ []) ≡ length ps + 1 = length-append ps (x ∷ []) in
    let i_in : i < length ps = omega arith in
    let ei : get_or (ps ++ x ∷ []) i 0 ≡ get_or ps i 0 = get_or_append_left ps (x ∷ []) 0 i i_in in
    elim (cases_lt j (length ps)) [
      | inl p ↦ a i j h p (sym ei ∙ e ∙ get_or_append_left ps (x ∷ []) 0 j p)
      | inr p ↦ n i i_in (sym ei ∙ e ∙ get_or_at ps x [] 0 j (omega arith))
    ]

pub apart-reverse : (ps : List ℕ) → AreApart ps → AreApart (reverse ps)
apart-reverse ps a i j h k e =
    let l = length-reverse ps in
    let i_in : i < length ps = omega arith in
    let j_in : j < length ps = omega arith in
    a (length ps - 1 - j) (length ps - 1 - i) (omega arith) (omega arith)
    (sym (get_or-reverse ps j 0 j_in) ∙ sym e ∙ get_or-reverse ps i 0 i_in)

pub apart-drop : (k : ℕ) (ps : List ℕ) → AreApart ps → AreApart (drop k ps)
apart-drop k ps a i j h m e =
    let l = length-drop k ps in
    a (k + i) (k + j) (omega arith) (omega arith) (sym (get_or-drop k ps i 0) ∙ e ∙ get_or-drop k ps j 0)

-- ---- edges one after another
pub Leads-append : (es fs : List Edge) (a b c : ℕ) → Leads a es b → Leads b fs c → Leads a (es ++ fs) c
Leads-append [] fs a b c h k = subst (λ x. Leads x fs c) (sym h) k
Leads-append (e ∷ es) fs a b c h k = (h.0, Leads-append es fs e.to.0 b c h.1 k)

-- the edges lead, the last first, from one point back to another
abbrev pub Back : ℕ → List Edge → ℕ → Type 0
Back from [] at = from ≡ at
Back from (e ∷ es) at = (e.to.0 ≡ from) × Back e.from.0 es at

pub Back-push : (es : List Edge) (from at : ℕ) (e : Edge) → Back from es at → e.to.0 ≡ at → Back from (es ++ e ∷ []) e.from.0
Back-push [] from at e h k = (k ∙ sym h, refl)
Back-push (d ∷ es) from at e h k = (h.0, Back-push es d.from.0 at e h.1 k)

pub reverse-cons : {A : Type 0} (x : A) (xs : List A) → reverse (x ∷ xs) ≡ reverse xs ++ x ∷ []
reverse-cons x xs = reverse-append (x ∷ []) xs

pub Leads-reverse : (es : List Edge) (from at : ℕ) → Back from es at → Leads at (reverse es) from
Leads-reverse [] from at h = sym h
Leads-reverse (e ∷ es) from at h =
    rw (reverse-cons e es) (Leads-append (reverse es) (e ∷ []) at e.from.0 from (Leads-reverse es e.from.0 at h.1) (refl, h.0))

pub Back-drop : (es : List Edge) (k from at : ℕ) (e : Edge) → Back from es at → slice_get es k ≡ Some e → Back e.to.0 (drop k es) at
Back-drop [] k from at e h s = absurd (none-some e s)
Back-drop (d ∷ es) zero from at e h s =
    let q : d ≡ e = same_Some d e s in (ap (λ (d : Edge). d.to.0) q, h.1)
Back-drop (d ∷ es) (suc k) from at e h s = Back-drop es k d.from.0 at e h.1 s

All-reverse : {X : Type 0} (P : X → Type 0) (xs : List X) → All P xs → All P (reverse xs)
All-reverse P xs a k d h =
    let l = length-reverse xs in
    let k_in : k < length xs = omega arith in
    rw (get_or-reverse xs k d k_in) (a (length xs - 1 - k) d (omega arith))

map-reverse : {X Y : Type 0} (f : X → Y) (xs : List X) → map f (reverse xs) ≡ reverse (map f xs)
map-reverse f [] = refl
map-reverse f (x ∷ xs) = ap (map f) (reverse-cons x xs) ∙ map-append f (reverse xs) (x ∷ []) ∙ ap (λ ys. ys ++ f x ∷ []) (map-reverse f xs) ∙ sym (reverse-cons (f x) (map f xs))

-- ---- the way back from a point, so far
pub record IsWayBack (causes : List (Option Edge)) (from : ℕ) (path : List Edge) (at : ℕ) : Type 0 where
  pub back : Back from path at
  pub caused : All (IsCaused causes) path
  pub known : at < length causes
  pub apart : AreApart (ends_of path)

-- some edge, for what stands past a list's end
abbrev pub no_edge : Edge
no_edge = record { from = record { 0 = 0 }; to = record { 0 = 0 }; weight = pos 0; tag = 0 }

pub apart_ends : (path : List Edge) (at : ℕ) → AreApart (ends_of path) → All (λ e. e.to.0 ≢ at) path → AreApart (ends_of path ++ at ∷ [])
apart_ends path at a n = apart-push (ends_of path) at a (λ i h e.
    let l = length-map path (λ (e : Edge). e.to.0) in
    let i_in : i < length path = omega arith in
    n i no_edge i_in (sym (get_or-map (λ (e : Edge). e.to.0) path i no_edge 0 i_in) ∙ e))

below_any : (ps : List ℕ) (q : ℕ) → list_any (eqb q) ps ≡ true → (i : ℕ) × (i < length ps) × (slice_index ps i ≡ q)
below_any [] q h = absurd (false≢true h)
below_any (p ∷ ps) q h =
    elim (eqb_tells q p) [
      | inl e ↦ (0, omega arith, sym e.1)
      | inr e ↦ (let w = below_any ps q (subst (λ b. (b || list_any (eqb q) ps) ≡ true) e.0 h) in (suc w.0, omega arith, w.2))
    ]

-- numbers apart and below n are at most n
pub apart-short : (ps : List ℕ) (n : ℕ) → AreApart ps → ((i : ℕ) → i < length ps → slice_index ps i < n) → length ps ≤ n
apart-short ps n a b =
    length-le_from_distinct_below ps n
    (IsDistinct-from_apart eqb ps (λ i j d h k. ne_eqb _ _ (λ e. a i j h k (get_or_default ps i 0 d (omega arith) ∙ e ∙ get_or_default ps j d 0 k))))
    (λ q m. let w = below_any ps q m in rw (sym w.2) (b w.0 w.1))

pub WayBack-push : (causes : List (Option Edge)) (from at : ℕ) (path : List Edge) (e : Edge) → IsWayBack causes from path at → All (λ e. e.to.0 ≢ at) path → AreCauses causes → cause_of causes at ≡ Some e → IsWayBack causes from (path ++ e ∷ []) e.from.0
WayBack-push causes from at path e w n c some =
    let f = c at e w.known some in
    record {
      back = Back-push path from at e w.back f.0;
      caused = All-push (IsCaused causes) path e w.caused (subst (λ v. v < length causes) (sym f.0) w.known, ap (cause_of causes) f.0 ∙ some);
      known = f.1;
      apart = subst AreApart (sym (map-append (λ (e : Edge). e.to.0) path (e ∷ []) ∙ ap (λ x. ends_of path ++ x ∷ []) f.0)) (apart_ends path at w.apart n);
    }

pub WayBack-short : (causes : List (Option Edge)) (from at : ℕ) (path : List Edge) → IsWayBack causes from path at → All (λ e. e.to.0 ≢ at) path → length path < length causes
WayBack-short causes from at path w n =
    let l = length-map path (λ (e : Edge). e.to.0) in
    let m = length-append (ends_of path) (at ∷ []) in
    let k : length (ends_of path ++ at ∷ []) ≤ length causes =
    apart-short (ends_of path ++ at ∷ []) (length causes) (apart_ends path at w.apart n) (λ i h. elim (cases_lt i (length path)) [
      | inl p ↦ rw (get_or_append_left (ends_of path) (at ∷ []) 0 i (omega arith), get_or-map (λ (e : Edge). e.to.0) path i no_edge 0 p) (w.caused i no_edge p).0
      | inr p ↦ rw (get_or_at (ends_of path) at [] 0 i (omega arith)) w.known
    ]) in
    omega arith

-- where the point has no cause, the way is a chain
pub WayBack-chain : (causes : List (Option Edge)) (from at : ℕ) (path : List Edge) → IsWayBack causes from path at → All (λ e. e.to.0 ≢ at) path → cause_of causes at ≡ None → IsCauseChain causes at (reverse path) from
WayBack-chain causes from at path w n none = record {
  leads = Leads-reverse path from at w.back;
  caused = All-reverse (IsCaused causes) path w.caused;
  known = w.known;
  root = none;
  apart =
      let a : AreApart (reverse (ends_of path ++ at ∷ [])) = apart-reverse (ends_of path ++ at ∷ []) (apart_ends path at w.apart n) in
      let e : reverse (ends_of path ++ at ∷ []) ≡ at ∷ ends_of (reverse path) = reverse-append (ends_of path) (at ∷ []) ∙ ap (λ ps. at ∷ ps) (sym (map-reverse (λ (e : Edge). e.to.0) path)) in
      subst AreApart e a;
}

-- where the point was passed already, the way since then is a circle
pub WayBack-circle : (causes : List (Option Edge)) (from at : ℕ) (path : List Edge) (k : ℕ) (e : Edge) → IsWayBack causes from path at → slice_get path k ≡ Some e → e.to.0 ≡ at → IsCauseCircle causes (take (length path - k) (reverse path))
WayBack-circle causes from at path k e w s t =
    let k_in : k < length path = slice_get_within path k e s in
    let split : reverse path ≡ reverse (drop k path) ++ reverse (take k path) = ap reverse (sym (take-append-drop k path)) ∙ reverse-append (take k path) (drop k path) in
    let l = length-reverse (drop k path) in
    let m = length-drop k path in
    let cut : take (length path - k) (reverse path) ≡ reverse (drop k path) = ap (take (length path - k)) split ∙ take_at (reverse (drop k path)) (reverse (take k path)) (length path - k) (omega arith) in
    let circle : IsCauseCircle causes (reverse (drop k path)) = record {
      first = at;
      leads = subst (λ x. Leads at (reverse (drop k path)) x) t (Leads-reverse (drop k path) e.to.0 at (Back-drop path k from at e w.back s));
      some = omega arith;
      caused = All-reverse (IsCaused causes) (drop k path) (All-drop (IsCaused causes) k path w.caused);
      apart = subst AreApart (sym (map-reverse (λ (e : Edge). e.to.0) (drop k path)))
          (apart-reverse (ends_of (drop k path)) (subst AreApart (drop-map (λ (e : Edge). e.to.0) k path) (apart-drop k (ends_of path) w.apart)));
    } in
    subst (IsCauseCircle causes) (sym cut) circle
