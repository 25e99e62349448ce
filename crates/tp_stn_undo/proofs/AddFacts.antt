-- Edges are added one after another.
use Rattle.std.proofs.Common.{◌≡◌, ◌≢◌, ℕ, ◌+◌, ◌<◌, ◌≤◌, Bool, true, false, List, [], ◌∷◌, ◌++◌, length, get_or, set, take, drop, sym, refl, ap, ◌∙◌, subst, arith, inl, inr}
use Rattle.std.specs.Prelude.{Result, Ok, Err, OnOk}
use Rattle.std.proofs.lemmas.Bool.{cases_eq, true≢false}
use Rattle.std.proofs.lemmas.List.{length-append, append_assoc, take-append-drop, take_all, drop_all, take_more, drop_more, get_or-set_same, get_or-set_other}
use Rattle.std.proofs.lemmas.List.Elements.{All-nil, All-cons, All-append, All-more}
use Rattle.std.specs.List.{All, slice_get}
use Rattle.tp_base.specs.declared.edges.Edge.{Edge}
use Rattle.tp_base.specs.declared.kept.Kept.{Kept}
use Rattle.tp_base.specs.Net.{Keeps}
use Rattle.tp_base.specs.Grows.{IsKnown}
use Rattle.tp_base.specs.Kept.{net_of, KeptRefutes}
use Rattle.tp_base.proofs.SliceFacts.{All-at}
use Rattle.tp_base.proofs.RefuteFacts.{more_edges_refute}
use Rattle.tp_stn_undo.specs.declared.point_state.PointState.{PointState}
use Rattle.tp_stn_undo.specs.declared.link.Link.{Link}
use Rattle.tp_stn_undo.specs.declared.point_state.SavedState.{SavedState}
use Rattle.tp_stn_undo.specs.States.{IsSound, lows_of, edges_of}
use Rattle.tp_stn_undo.specs.Saved.{relinked}
use Rattle.tp_stn_undo.specs.Flags.{flag, AreKnown}
use Rattle.tp_stn_undo.specs.Marks.{AreLinks}
use Rattle.tp_stn_undo.specs.Propagation.{LeadsBack, AreKept}
use Rattle.tp_stn_undo.specs.AddedEdges.{AreLinkedAfter, AllWait, Adds}
use Rattle.tp_stn_undo.proofs.LinkedFacts.{links_undone, same_links}
use Rattle.tp_stn_undo.proofs.SoundFacts.{edges_more, links_len}

pub both_ok : {T E P Q S : Type 0} (r : Result T E) → (P → Q → S) → OnOk r P → OnOk r Q → OnOk r S
both_ok (Ok x) f p q = f p q
both_ok (Err x) f p q = p

pub known_one : (count : ℕ) (e : Edge) → IsKnown count e → All (IsKnown count) (e ∷ [])
known_one count e k = All-cons (IsKnown count) e [] k (All-nil (IsKnown count))

-- ---- what is linked
pub linked_edges : (links links' : List Link) (edges : List Edge) → AreLinkedAfter links links' edges → edges_of links' ≡ edges_of links ++ edges
linked_edges links links' edges a = ap edges_of a.after ∙ edges_more links a.more ∙ ap (λ (es : List Edge). edges_of links ++ es) a.edges_are

pub linked_len : (links links' : List Link) (edges : List Edge) → AreLinkedAfter links links' edges → length links' ≡ length links + length edges
linked_len links links' edges a =
    let e = ap length (linked_edges links links' edges a) in
    let n = length-append (edges_of links) edges in
    let m = links_len links in
    let k = links_len links' in
    omega arith

pub linked_next : (links links' links'' : List Link) (l : Link) (edges : List Edge) (i : ℕ) (d : Edge) → i < length edges → l.edge ≡ get_or edges i d → links'' ≡ links' ++ l ∷ [] → AreLinkedAfter links links' (take i edges) → AreLinkedAfter links links'' (take (i + 1) edges)
linked_next links links' links'' l edges i d h is e a = record {
  more = a.more ++ l ∷ [];
  after = e ∙ ap (λ (ls : List Link). ls ++ l ∷ []) a.after ∙ append_assoc links a.more (l ∷ []);
  edges_are = edges_more a.more (l ∷ []) ∙ ap (λ (es : List Edge). es ++ l.edge ∷ []) a.edges_are ∙ ap (λ (x : Edge). take i edges ++ x ∷ []) is ∙ sym (take_more edges i d h);
}

-- the edges after the first are taken away
pub unlinked : (links : List Link) (heads : List ℕ) (points n : ℕ) → n ≤ length links → AreLinks links heads points → AreLinks (take n links) (relinked (drop n links) heads) points
unlinked links heads points n h a =
    subst (λ (hs : List ℕ). AreLinks (take n links) (relinked (drop n links) hs) points) (take_all points heads (let l = a.len in omega arith)) (links_undone links heads points n points h (omega arith) a)

-- the points after the first are taken away, to which no edge leads
pub points_cut : (links : List Link) (heads : List ℕ) (points n : ℕ) → n ≤ points → AreLinks links heads points → AreLinks links (take n heads) n
points_cut links heads points n h a =
    same_links _ _ _ _ n n (sym (take_all (length links) links (omega arith))) (sym (ap (λ (ls : List Link). relinked ls (take n heads)) (drop_all (length links) links (omega arith)))) refl
    (links_undone links heads points (length links) n (omega arith) h a)

-- ---- the points that wait
pub waits_next : (edges : List Edge) (flags flags' : List Bool) (i : ℕ) (d : Edge) → i < length edges → (get_or edges i d).from.0 < length flags' → AllWait (take i edges) flags flags' → AllWait (take (i + 1) edges) flags (set flags' (get_or edges i d).from.0 true)
waits_next edges flags flags' i d h w a v f =
    let p = (get_or edges i d).from.0 in
    elim (cases_eq v p) [
      | inl e ↦ absurd (true≢false (sym (get_or-set_same flags' p true false w) ∙ ap (flag (set flags' p true)) (sym e) ∙ f))
      | inr ne ↦ (let b = a v (sym (get_or-set_other flags' p v true false ne) ∙ f) in (b.0, All-more (λ (e : Edge). e.from.0 ≢ v) edges i d h b.1 (λ e. ne (sym e))))
    ]

-- where the points of the new edges wait, all edges are kept but those of points that wait
pub kept_waiting : (links links' : List Link) (edges : List Edge) (t : ℕ → ℕ) (flags flags' : List Bool) → AreLinkedAfter links links' edges → All (Keeps t) (edges_of links) → AllWait edges flags flags' → AreKept (edges_of links') t flags'
kept_waiting links links' edges t flags flags' a keeps w k e g f =
    let P = λ (x : Edge). flag flags' x.from.0 ≡ false → Keeps t x in
    let all : All P (edges_of links ++ edges) = All-append P (edges_of links) edges (λ i d h _. keeps i d h) (λ i d h z. absurd ((w (get_or edges i d).from.0 z).1 i d h refl)) in
    All-at P (edges_of links ++ edges) k e all (ap (λ (es : List Edge). slice_get es k) (sym (linked_edges links links' edges a)) ∙ g) f

-- ---- the times
module _ (edges : List Edge) (caps : List ℕ) (links links' links'' : List Link) (states states' states'' : List PointState) (noted noted' : List SavedState) (l : Link) (i : ℕ) (d : Edge)
    (h : i < length edges) (is : l.edge ≡ get_or edges i d) (a : Adds (take i edges) caps links links' states states' noted) (added : links'' ≡ links' ++ l ∷ []) where
  pub adds_next : LeadsBack links'' states' states'' noted noted' → IsSound (record { states = states''; caps = caps; links = links'' }) → Adds (take (i + 1) edges) caps links links'' states states'' noted'
  adds_next back sound = record {
    linked = linked_next links links' links'' l edges i d h is added a.linked;
    sound = sound;
    lows = back.lows ∙ a.lows;
    len = back.len ∙ a.len;
    back = back.back ∙ a.back;
    known = subst (λ (n : ℕ). AreKnown n noted') a.len (back.known (subst (λ (n : ℕ). AreKnown n noted) (sym a.len) a.known));
  }

  -- what refutes the net with one edge more refutes it with all
  pub refuted_next : (kept : Kept) (path : List Edge) → KeptRefutes (net_of (lows_of states') caps (edges_of links' ++ l.edge ∷ [])) kept path → KeptRefutes (net_of (lows_of states) caps (edges_of links ++ edges)) kept path
  refuted_next kept path r =
      let rest = drop (i + 1) edges in
      let base = edges_of links in
      let all : (edges_of links' ++ l.edge ∷ []) ++ rest ≡ base ++ edges =
      ap (λ (es : List Edge). (es ++ l.edge ∷ []) ++ rest) (linked_edges links links' (take i edges) a.linked)
      ∙ append_assoc (base ++ take i edges) (l.edge ∷ []) rest
      ∙ append_assoc base (take i edges) (l.edge ∷ rest)
      ∙ ap (λ (x : Edge). base ++ (take i edges ++ x ∷ rest)) is
      ∙ ap (λ (es : List Edge). base ++ (take i edges ++ es)) (sym (drop_more edges i d h))
      ∙ ap (λ (es : List Edge). base ++ es) (take-append-drop i edges) in
      subst (λ (ls : List ℕ). KeptRefutes (net_of ls caps (base ++ edges)) kept path) a.lows
      (subst (λ (es : List Edge). KeptRefutes (net_of (lows_of states') caps es) kept path) all
      (more_edges_refute (net_of (lows_of states') caps (edges_of links' ++ l.edge ∷ [])) kept path rest r))
