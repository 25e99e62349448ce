-- Going through the edges that begin at a point.
use Rattle.std.proofs.Common.{◌≡◌, ℕ, ◌+◌, ◌-◌, ◌<◌, ◌≤◌, Bool, false, List, length, slice_index, get_or, set, take, Some, sym, refl, ap, ◌∙◌, subst, arith, inl, inr}
use Rattle.std.proofs.lemmas.Bool.{cases_eq, cases_lt}
use Rattle.std.proofs.lemmas.Option.{same_Some, slice_get_within, slice_get-map}
use Rattle.std.proofs.lemmas.List.{length-map, length-take-le, get_or-set_other}
use Rattle.std.specs.List.{All, slice_get}
use Rattle.std.specs.Option.{option_map}
use Rattle.tp_base.specs.declared.edges.Edge.{Edge}
use Rattle.tp_base.specs.Net.{Keeps}
use Rattle.tp_base.proofs.GrowsFacts.{Rises-trans}
use Rattle.tp_base.proofs.SliceFacts.{slice_get_take}
use Rattle.tp_stn_undo.specs.declared.point_state.PointState.{PointState}
use Rattle.tp_stn_undo.specs.declared.link.Link.{Link}
use Rattle.tp_stn_undo.specs.declared.point_state.SavedState.{SavedState}
use Rattle.tp_stn_undo.specs.States.{times_of, edges_of, causes_of}
use Rattle.tp_stn_undo.specs.Saved.{by_link, newest_of}
use Rattle.tp_stn_undo.specs.Marks.{AreLinks}
use Rattle.tp_stn_undo.specs.Flags.{AreIdle, AreKnown}
use Rattle.tp_stn_undo.specs.Propagation.{StatesRise, LeadsBack, KeptFrom, IsMet, AreKept, IsFrom, Reached}
use Rattle.tp_stn_undo.proofs.SavedFacts.{Names, newest_late, newest_names}
use Rattle.tp_stn_undo.proofs.LinkFacts.{slice_get_kept}
use Rattle.tp_stn_undo.proofs.CauseFacts.{no_link, slice_get_at}
use Rattle.tp_stn_undo.proofs.RaiseFacts.{times_len}

-- ---- one after another
pub States-trans : (links : List Link) (a b c : List PointState) → length b ≡ length a → StatesRise links a b → StatesRise links b c → StatesRise links a c
States-trans links a b c n g h = Rises-trans (edges_of links) (times_of a) (times_of b) (times_of c) (causes_of (edges_of links) a) (causes_of (edges_of links) b) (causes_of (edges_of links) c) (times_len b ∙ n ∙ sym (times_len a)) g h

pub LeadsBack-trans : (links : List Link) (a b c : List PointState) (x y z : List SavedState) → LeadsBack links a b x y → LeadsBack links b c y z → LeadsBack links a c x z
LeadsBack-trans links a b c x y z g h = record {
  back = h.back ∙ g.back;
  known = λ k. subst (λ (n : ℕ). AreKnown n z) g.len (h.known (subst (λ (n : ℕ). AreKnown n y) (sym g.len) (g.known k)));
  lows = h.lows ∙ g.lows;
  numbered = λ n. h.numbered (g.numbered n);
  len = h.len ∙ g.len;
}

-- ---- the edges of one point
-- the link of an edge
pub link_of : (links : List Link) (k : ℕ) (e : Edge) → slice_get (edges_of links) k ≡ Some e → (l : Link) × (slice_get links k ≡ Some l) × (l.edge ≡ e)
link_of links k e g =
    let w = slice_get_within (edges_of links) k e g in
    let n = length-map links (λ (l : Link). l.edge) in
    let at = slice_get_at links k no_link (omega arith) in
    let l = get_or links k no_link in
    (l, at, same_Some l.edge e (sym (slice_get-map (λ (l : Link). l.edge) links k ∙ ap (option_map (λ (l : Link). l.edge)) at) ∙ g))

from_names : (links : List Link) (point left : ℕ) → Names by_link 0 links point left → IsFrom links point left
from_names links point left n = let p = n.place_is in record { at = n.at; link = n.entry; get = n.get; begins = n.point; number_is = omega arith }

newest_reached : (links : List Link) (point : ℕ) → Reached links point (newest_of by_link links point)
newest_reached links point = elim (newest_names by_link links point) [
  | inl z ↦ inl z
  | inr n ↦ inr (from_names links point _ n)
]

-- the edge with the number begins at the point
pub reached_from : (links : List Link) (point left : ℕ) → Reached links point left → 0 < left → (get_or links (left - 1) no_link).edge.from.0 ≡ point
reached_from links point left r some = elim r [
  | inl z ↦ absurd (omega arith)
  | inr n ↦ (
      let p = n.number_is in
      let w = slice_get_within links n.at n.link n.get in
      let at : left - 1 ≡ n.at = omega arith in
      ap (λ (l : Link). l.edge.from.0) (ap (λ i. get_or links i no_link) at ∙ same_Some _ n.link (sym (slice_get_at links n.at no_link w) ∙ n.get)) ∙ n.begins)
]

pub reached_head : (links : List Link) (heads : List ℕ) (count point left : ℕ) → AreLinks links heads count → point < count → left ≡ slice_index heads point → Reached links point left
reached_head links heads count point left a h e = subst (Reached links point) (sym (e ∙ a.head_is point h)) (newest_reached links point)

pub kept_head : (links : List Link) (heads : List ℕ) (count point left : ℕ) (t : ℕ → ℕ) (flags : List Bool) → AreLinks links heads count → point < count → left ≡ slice_index heads point
    → AreKept (edges_of links) t flags → KeptFrom (edges_of links) t (set flags point false) point left
kept_head links heads count point left t flags a h is kept k e g f from = elim (cases_eq e.from.0 point) [
  | inl p ↦ absurd (
      let l = link_of links k e g in
      let late = newest_late by_link links point k l.0 l.1 (ap (λ (x : Edge). x.from.0) l.2 ∙ p) in
      let b = from p in
      let c = a.head_is point h in
      omega arith)
  | inr p ↦ kept k e g (sym (get_or-set_other flags point e.from.0 false false p) ∙ f)
]

-- the next one
pub record Next (links : List Link) (point left next : ℕ) : Type 0 where
  pub reached : Reached links point next
  pub less : next < left
  pub none : (k : ℕ) (l : Link) → slice_get links k ≡ Some l → l.edge.from.0 ≡ point → next ≤ k → k + 1 < left → ⊥

pub next_of : (links : List Link) (heads : List ℕ) (count point left next : ℕ) → AreLinks links heads count → Reached links point left → 0 < left → next ≡ (get_or links (left - 1) no_link).older → Next links point left next
next_of links heads count point left next a r some is = elim r [
  | inl z ↦ absurd (omega arith)
  | inr n ↦ (
      let p = n.number_is in
      let w = slice_get_within links n.at n.link n.get in
      let at : left - 1 ≡ n.at = omega arith in
      let entry : get_or links (left - 1) no_link ≡ n.link = ap (λ i. get_or links i no_link) at ∙ same_Some _ n.link (sym (slice_get_at links n.at no_link w) ∙ n.get) in
      let older : next ≡ newest_of by_link (take n.at links) point = is ∙ ap (λ (l : Link). l.older) entry ∙ a.linked n.at n.link n.get ∙ ap (newest_of by_link (take n.at links)) n.begins in
      let len = length-take-le n.at links (omega arith) in
      record {
        reached = subst (Reached links point) (sym older) (elim (newest_names by_link (take n.at links) point) [
          | inl z ↦ inl z
          | inr m ↦ inr (let q = m.place_is in record { at = m.at; link = m.entry; get = (slice_get_take n.at links m.at m.entry m.get).1; begins = m.point; number_is = omega arith })
        ]);
        less = elim (newest_names by_link (take n.at links) point) [
          | inl z ↦ omega arith
          | inr m ↦ (let q = m.place_is in let v = slice_get_within (take n.at links) m.at m.entry m.get in omega arith)
        ];
        none = λ k l g from le lt. (let late = newest_late by_link (take n.at links) point k l (slice_get_kept n.at links k (omega arith) ∙ g) from in omega arith);
      })
]

pub kept_next : (links : List Link) (point left next : ℕ) (t : ℕ → ℕ) (flags : List Bool) → Next links point left next → 0 < left → KeptFrom (edges_of links) t flags point left → IsMet (edges_of links) t flags (left - 1) → KeptFrom (edges_of links) t flags point next
kept_next links point left next t flags n some kept met k e g f from = elim (cases_lt k (left - 1)) [
  | inl p ↦ kept k e g f (λ q. absurd (let l = link_of links k e g in n.none k l.0 l.1 (ap (λ (x : Edge). x.from.0) l.2 ∙ q) (from q) (omega arith)))
  | inr p ↦ elim (cases_eq k (left - 1)) [
    | inl q ↦ met e (ap (slice_get (edges_of links)) (sym q) ∙ g) f
    | inr q ↦ kept k e g f (λ _. omega arith)
  ]
]

pub kept_end : (edges : List Edge) (point : ℕ) (t : ℕ → ℕ) (flags : List Bool) → KeptFrom edges t flags point 0 → AreKept edges t flags
kept_end edges point t flags kept k e g f = kept k e g f (λ _. omega arith)

pub all_kept : (edges : List Edge) (t : ℕ → ℕ) (flags : List Bool) → AreKept edges t flags → AreIdle flags → All (Keeps t) edges
all_kept edges t flags kept idle k d h = kept k (get_or edges k d) (slice_get_at edges k d h) (idle (get_or edges k d).from.0)

pub reached_within : (links : List Link) (point left : ℕ) → Reached links point left → left ≤ length links
reached_within links point left r = elim r [
  | inl z ↦ omega arith
  | inr n ↦ (let p = n.number_is in let w = slice_get_within links n.at n.link n.get in omega arith)
]

-- all edges are kept: those before the newest, and the newest
pub kept_newest : (edges : List Edge) (t : ℕ → ℕ) (flags : List Bool) (n : ℕ) → n ≡ length edges → KeptFrom (take (n - 1) edges) t flags 0 0 → IsMet edges t flags (n - 1) → AreKept edges t flags
kept_newest edges t flags n is kept met k e g f =
    let w = slice_get_within edges k e g in
    elim (cases_lt k (n - 1)) [
      | inl p ↦ kept k e (slice_get_kept (n - 1) edges k p ∙ g) f (λ _. omega arith)
      | inr p ↦ (let q : k ≡ n - 1 = omega arith in met e (ap (slice_get edges) (sym q) ∙ g) f)
    ]

-- all edges but the newest are kept: those that begin elsewhere, and those before the newest
pub kept_begun : (links : List Link) (t : ℕ → ℕ) (flags : List Bool) (n : ℕ) → 0 < n → n ≡ length links → AreKept (take (n - 1) (edges_of links)) t flags → KeptFrom (edges_of links) t flags (get_or links (n - 1) no_link).edge.from.0 n
kept_begun links t flags n some is kept k e g f from =
    let w = slice_get_within (edges_of links) k e g in
    let l = length-map links (λ (l : Link). l.edge) in
    elim (cases_lt k (n - 1)) [
      | inl p ↦ kept k e (slice_get_kept (n - 1) (edges_of links) k p ∙ g) f
      | inr p ↦ absurd (
          let q : k ≡ n - 1 = omega arith in
          let m = link_of links k e g in
          let same : m.0 ≡ get_or links (n - 1) no_link = same_Some m.0 _ (sym m.1 ∙ ap (slice_get links) q ∙ slice_get_at links (n - 1) no_link (omega arith)) in
          let b = from (ap (λ (x : Edge). x.from.0) (sym m.2) ∙ ap (λ (x : Link). x.edge.from.0) same) in
          omega arith)
    ]

-- the newest edge begins where it does
pub reached_newest : (links : List Link) (n : ℕ) → 0 < n → n ≡ length links → Reached links (get_or links (n - 1) no_link).edge.from.0 n
reached_newest links n some is = inr (record { at = n - 1; link = get_or links (n - 1) no_link; get = slice_get_at links (n - 1) no_link (omega arith); begins = refl; number_is = omega arith })
