-- Edges stay linked by the points that they begin at.
use Rattle.std.proofs.Common.{◌≡◌, ℕ, ◌+◌, ◌<◌, ◌≤◌, List, [], ◌∷◌, ◌++◌, length, slice_index, take, drop, set, sym, ap, ◌∙◌, subst, arith, inl, inr}
use Rattle.std.proofs.lemmas.Bool.{cases_eq, cases_lt}
use Rattle.std.proofs.lemmas.Option.{slice_get_within, get_or_from_slice_get}
use Rattle.std.proofs.lemmas.List.{length-append, length-map, length-set, length-take-le, take-append-le, take-append-drop, take_at, take-take, get_or-set_same, get_or-set_other, get_or_append_left, get_or_at, get_or-take, get_or-map}
use Rattle.std.specs.List.{All}
use Rattle.tp_base.specs.declared.edges.Edge.{Edge}
use Rattle.tp_base.specs.Grows.{IsKnown}
use Rattle.tp_base.proofs.SliceFacts.{slice_get_end, slice_get_take}
use Rattle.tp_stn_undo.specs.declared.link.Link.{Link}
use Rattle.tp_stn_undo.specs.States.{edges_of}
use Rattle.tp_stn_undo.specs.Saved.{by_link, relinked, newest_of}
use Rattle.tp_stn_undo.specs.Marks.{AreLinks}
use Rattle.tp_stn_undo.proofs.SavedFacts.{newest_names, newest-push_same, newest-push_other, length-relinked, relinked_newest}

-- one more edge
pub links_pushed : (links : List Link) (heads : List ℕ) (points : ℕ) (l : Link) → AreLinks links heads points → l.edge.from.0 < points → l.older ≡ slice_index heads l.edge.from.0 → AreLinks (links ++ l ∷ []) (set heads l.edge.from.0 (length links + 1)) points
links_pushed links heads points l a h older =
    let p = l.edge.from.0 in
    record {
      len = length-set heads p (length links + 1) ∙ a.len;
      head_is = λ v k. elim (cases_eq v p) [
        | inl e ↦ (let n = a.len in ap (slice_index (set heads p (length links + 1))) e ∙ get_or-set_same heads p (length links + 1) 0 (omega arith) ∙ sym (newest-push_same by_link links l v (sym e)))
        | inr ne ↦ get_or-set_other heads p v (length links + 1) 0 ne ∙ a.head_is v k ∙ sym (newest-push_other by_link links l v (λ e. ne (sym e)))
      ];
      linked = λ j e g. elim (slice_get_end links l j e g) [
        | inl q ↦ (let w = slice_get_within links j e q in a.linked j e q ∙ ap (λ (xs : List Link). newest_of by_link xs e.edge.from.0) (sym (take-append-le j links (l ∷ []) (omega arith))))
        | inr q ↦ subst (λ (x : Link). x.older ≡ newest_of by_link (take j (links ++ l ∷ [])) x.edge.from.0) q.1 (older ∙ a.head_is p h ∙ ap (λ (xs : List Link). newest_of by_link xs p) (sym (take_at links (l ∷ []) j (sym q.0))))
      ];
    }

-- one more point
pub links_pointed : (links : List Link) (heads : List ℕ) (points : ℕ) → All (IsKnown points) (edges_of links) → AreLinks links heads points → AreLinks links (heads ++ 0 ∷ []) (points + 1)
links_pointed links heads points known a = record {
  len = (let l = length-append heads (0 ∷ []) in let n = a.len in omega arith);
  head_is = λ v h. (let n = a.len in elim (cases_lt v points) [
    | inl q ↦ get_or_append_left heads (0 ∷ []) 0 v (omega arith) ∙ a.head_is v q
    | inr q ↦ get_or_at heads 0 [] 0 v (omega arith) ∙ elim (newest_names by_link links v) [
      | inl z ↦ sym z
      | inr w ↦ absurd (
          let i = slice_get_within links w.at w.entry w.get in
          let l = length-map links (λ (x : Link). x.edge) in
          let k = (known w.at w.entry.edge (omega arith)).from in
          let e = ap (λ (x : Edge). x.from.0) (get_or-map (λ (x : Link). x.edge) links w.at w.entry w.entry.edge i ∙ ap (λ (x : Link). x.edge) (get_or_from_slice_get links w.at w.entry w.entry w.get)) in
          let p = w.point in
          omega arith)
    ]
  ]);
  linked = a.linked;
}

-- back to a mark
pub links_undone : (links : List Link) (heads : List ℕ) (points edges n : ℕ) → edges ≤ length links → n ≤ points → AreLinks links heads points → AreLinks (take edges links) (relinked (drop edges links) (take n heads)) n
links_undone links heads points edges n below fewer a =
    let len : length (take n heads) ≡ n = (let l = a.len in length-take-le n heads (omega arith)) in
    let whole : take edges links ++ drop edges links ≡ links = take-append-drop edges links in
    record {
      len = length-relinked (drop edges links) (take n heads) ∙ len;
      head_is = λ v h. relinked_newest (take edges links) (drop edges links) (take n heads) v (omega arith) (rw whole a.linked)
          (get_or-take n heads v 0 h ∙ a.head_is v (omega arith) ∙ ap (λ (xs : List Link). newest_of by_link xs v) (sym whole));
      linked = λ j e g. (let t = slice_get_take edges links j e g in let i = t.0 in
          a.linked j e t.1 ∙ ap (λ (xs : List Link). newest_of by_link xs e.edge.from.0) (sym (take-take j edges links (omega arith))));
    }

pub same_links : (ls ls' : List Link) (hs hs' : List ℕ) (n n' : ℕ) → ls' ≡ ls → hs' ≡ hs → n' ≡ n → AreLinks ls hs n → AreLinks ls' hs' n'
same_links ls ls' hs hs' n n' p q r a =
    subst (λ (x : List Link). AreLinks x hs' n') (sym p) (subst (λ (x : List ℕ). AreLinks ls x n') (sym q) (subst (λ (x : ℕ). AreLinks ls hs x) (sym r) a))
