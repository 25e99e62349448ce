-- The joins of a rack as pairs of ENDs. No END stands in them twice, so each END is one place with at most one other.
use Rattle.std.proofs.Common.{◌≡◌, inl, inr, ℕ, true, ◌&&◌, List, [], ◌∷◌, ◌++◌, map, Option, Some, None, refl, ap, sym, ◌∙◌, subst}
use Rattle.std.specs.Prelude.{codes}
use Rattle.std.specs.List.{list_all, flat_map}
use Rattle.std.proofs.lemmas.Bool.{and_parts}
use Rattle.toml.specs.Data.{Data, string, Members, no_members, get_member}
use Rattle.tp_machine_text.specs.Words.{elements, text_of, is_fit, is_array, are_different}
use Rattle.tp_compose.specs.Racks.{joins, own_names, join_entry, join_entries, first_ends, first_in}
use Rattle.tp_compose.specs.EndRules.{is_end, is_end_text, are_two_ends, is_join, joined}
use Rattle.tp_compose.specs.Walks.{IsJoined, IsOnePlace}
use Rattle.tp_compose.proofs.Lists.{In, Apart, apart_of, in_any, any_in, in_map, in_map_back, in_flat, in_flat_back, all_in}
use Rattle.tp_compose.proofs.Puts.{put_some, put_there}
use Rattle.tp_compose.proofs.EndFacts.{end_text}
use Rattle.tp_compose.proofs.KeptRack.{KeepsRackRules}

abbrev Texts : Type 0
Texts = List ℕ × List ℕ

abbrev pub pair : List Data → List Texts
pair (a ∷ b ∷ []) = (text_of a, text_of b) ∷ []
pair _ = []

abbrev pub pair_of : Data → List Texts
pair_of j = pair (elements j)

abbrev pub pairs : List Data → List Texts
pairs js = flat_map pair_of js

abbrev pub flatten : List Texts → List (List ℕ)
flatten [] = []
flatten (x ∷ xs) = x.0 ∷ x.1 ∷ flatten xs

abbrev pub entry : Texts → List ℕ × Data
entry x = (x.1, string x.0)

-- ---- the joins are these pairs

more_entries : (ds : List Data) (es : List (List ℕ × Data)) (xs : List Texts) → es ≡ map entry xs → join_entry ds ++ es ≡ map entry (pair ds ++ xs)
more_entries [] es xs same = same
more_entries (a ∷ []) es xs same = same
more_entries (a ∷ b ∷ []) es xs same = ap (λ t. (text_of b, string (text_of a)) ∷ t) same
more_entries (a ∷ b ∷ c ∷ ds) es xs same = same

entries_are : (js : List Data) → flat_map join_entries js ≡ map entry (pairs js)
entries_are [] = refl
entries_are (j ∷ js) = more_entries (elements j) (flat_map join_entries js) (pairs js) (entries_are js)

more_flat : (own : Members) (ds : List Data) (ts : List (List ℕ)) (xs : List Texts) → are_two_ends own ds ≡ true → ts ≡ flatten xs → map text_of ds ++ ts ≡ flatten (pair ds ++ xs)
more_flat own [] ts xs test same = cc
more_flat own (a ∷ []) ts xs test same = cc
more_flat own (a ∷ b ∷ []) ts xs test same = ap (λ t. text_of a ∷ text_of b ∷ t) same
more_flat own (a ∷ b ∷ c ∷ ds) ts xs test same = cc

flat_are : (own : Members) (js : List Data) → list_all (is_join own) js ≡ true → joined js ≡ flatten (pairs js)
unfolding is_join
flat_are own [] test = refl
flat_are own (j ∷ js) test =
    let (here, rest) = and_parts (is_join own j) (list_all (is_join own) js) test in
    more_flat own (elements j) (joined js) (pairs js) here (flat_are own js rest)

in_pair : (ds : List Data) (e f : List ℕ) → map text_of ds ≡ e ∷ f ∷ [] → In (pair ds) (e, f)
in_pair [] e f same = cc
in_pair (a ∷ []) e f same = cc
in_pair (a ∷ b ∷ []) e f same = let p : text_of a ≡ e = cc in let q : text_of b ≡ f = cc in inl (λ i. (p i, q i))
in_pair (a ∷ b ∷ c ∷ ds) e f same = cc

pair_in : (ds : List Data) (e f : List ℕ) → In (pair ds) (e, f) → map text_of ds ≡ e ∷ f ∷ []
pair_in [] e f within = elim within [ ]
pair_in (a ∷ []) e f within = elim within [ ]
pair_in (a ∷ b ∷ []) e f (inl same) = λ i. (same i).0 ∷ (same i).1 ∷ []
pair_in (a ∷ b ∷ []) e f (inr more) = elim more [ ]
pair_in (a ∷ b ∷ c ∷ ds) e f within = elim within [ ]

pub joined_in : (r : Members) (e f : List ℕ) → IsJoined r e f → In (pairs (joins r)) (e, f)
joined_in r e f is =
    let (j, in_j, same) = in_any (λ j. map text_of (elements j) ≡ e ∷ f ∷ []) (joins r) is in
    in_flat pair_of (joins r) j (e, f) in_j (in_pair (elements j) e f same)

pub in_joined : (r : Members) (e f : List ℕ) → In (pairs (joins r)) (e, f) → IsJoined r e f
in_joined r e f within =
    let (j, in_j, here) = in_flat_back pair_of (joins r) (e, f) within in
    any_in (λ j. map text_of (elements j) ≡ e ∷ f ∷ []) (joins r) j in_j (pair_in (elements j) e f here)

pair_ends : (own : Members) (ds : List Data) (e f : List ℕ) → are_two_ends own ds ≡ true → In (pair ds) (e, f) → (is_end_text own e ≡ true) × (is_end_text own f ≡ true)
pair_ends own [] e f test within = elim within [ ]
pair_ends own (a ∷ []) e f test within = elim within [ ]
pair_ends own (a ∷ b ∷ []) e f test (inr more) = elim more [ ]
pair_ends own (a ∷ b ∷ []) e f test (inl same) =
    let (first, second) = and_parts (is_end own a) (is_end own b) test in (
      subst (λ x. is_end_text own x ≡ true) (λ i. (same i).0) (end_text own a first),
      subst (λ x. is_end_text own x ≡ true) (λ i. (same i).1) (end_text own b second),
    )
pair_ends own (a ∷ b ∷ c ∷ ds) e f test within = elim within [ ]

-- ---- no END stands in them twice

first_flat : (xs : List Texts) (e f : List ℕ) → In xs (e, f) → In (flatten xs) e
first_flat [] e f within = elim within [ ]
first_flat (x ∷ xs) e f (inl same) = inl (λ i. (same i).0)
first_flat (x ∷ xs) e f (inr rest) = inr (inr (first_flat xs e f rest))

second_flat : (xs : List Texts) (e f : List ℕ) → In xs (e, f) → In (flatten xs) f
second_flat [] e f within = elim within [ ]
second_flat (x ∷ xs) e f (inl same) = inr (inl (λ i. (same i).1))
second_flat (x ∷ xs) e f (inr rest) = inr (inr (second_flat xs e f rest))

pub one_first : (xs : List Texts) (e f g : List ℕ) → Apart (flatten xs) → In xs (e, g) → In xs (f, g) → e ≡ f
one_first [] e f g apart a b = elim a [ ]
one_first (x ∷ xs) e f g apart (inl a) (inl b) = sym (λ i. (a i).0) ∙ (λ i. (b i).0)
one_first (x ∷ xs) e f g apart (inl a) (inr b) = absurd (apart.1.0 (subst (λ t. In (flatten xs) t) (sym (λ i. (a i).1)) (second_flat xs f g b)))
one_first (x ∷ xs) e f g apart (inr a) (inl b) = absurd (apart.1.0 (subst (λ t. In (flatten xs) t) (sym (λ i. (b i).1)) (second_flat xs e g a)))
one_first (x ∷ xs) e f g apart (inr a) (inr b) = one_first xs e f g apart.1.1 a b

pub one_second : (xs : List Texts) (e f g : List ℕ) → Apart (flatten xs) → In xs (e, f) → In xs (e, g) → f ≡ g
one_second [] e f g apart a b = elim a [ ]
one_second (x ∷ xs) e f g apart (inl a) (inl b) = sym (λ i. (a i).1) ∙ (λ i. (b i).1)
one_second (x ∷ xs) e f g apart (inl a) (inr b) = absurd (apart.0 (inr (subst (λ t. In (flatten xs) t) (sym (λ i. (a i).0)) (first_flat xs e g b))))
one_second (x ∷ xs) e f g apart (inr a) (inl b) = absurd (apart.0 (inr (subst (λ t. In (flatten xs) t) (sym (λ i. (b i).0)) (first_flat xs e f a))))
one_second (x ∷ xs) e f g apart (inr a) (inr b) = one_second xs e f g apart.1.1 a b

pub one_side : (xs : List Texts) (e f g : List ℕ) → Apart (flatten xs) → In xs (e, f) → In xs (g, e) → ⊥
one_side [] e f g apart a b = elim a [ ]
one_side (x ∷ xs) e f g apart (inl a) (inl b) = apart.0 (inl ((λ i. (b i).1) ∙ sym (λ i. (a i).0)))
one_side (x ∷ xs) e f g apart (inl a) (inr b) = apart.0 (inr (subst (λ t. In (flatten xs) t) (sym (λ i. (a i).0)) (second_flat xs g e b)))
one_side (x ∷ xs) e f g apart (inr a) (inl b) = apart.1.0 (subst (λ t. In (flatten xs) t) (sym (λ i. (b i).1)) (first_flat xs e f a))
one_side (x ∷ xs) e f g apart (inr a) (inr b) = one_side xs e f g apart.1.1 a b

-- ---- the first END of an END's join

module _ (r : Members) (k : KeepsRackRules r) where
  abbrev ps : List Texts
  ps = pairs (joins r)

  join_parts : (list_all (is_join (own_names r)) (joins r) ≡ true) × (are_different (joined (joins r)) ≡ true)
  join_parts =
      let fit = is_fit is_array (get_member (codes "joins") r) in
      let (front, differ) = and_parts (fit && list_all (is_join (own_names r)) (joins r)) (are_different (joined (joins r))) k.joins in
      ((and_parts fit (list_all (is_join (own_names r)) (joins r)) front).1, differ)

  pub apart : Apart (flatten ps)
  apart = subst (λ t. Apart t) (flat_are (own_names r) (joins r) join_parts.0) (apart_of (joined (joins r)) join_parts.1)

  pub joined_ends : (e f : List ℕ) → In ps (e, f) → (is_end_text (own_names r) e ≡ true) × (is_end_text (own_names r) f ≡ true)
  unfolding is_join
  joined_ends e f within =
      let (j, in_j, here) = in_flat_back pair_of (joins r) (e, f) within in
      pair_ends (own_names r) (elements j) e f (all_in (is_join (own_names r)) (joins r) j join_parts.0 in_j) here

  pub first_some : (e : List ℕ) (d : Data) → get_member e (first_ends r) ≡ Some d → In ps (text_of d, e)
  first_some e d at = elim (put_some e d (flat_map join_entries (joins r)) no_members at) [ inl within ↦ back (in_map_back entry ps (e, d) (subst (λ t. In t (e, d)) (entries_are (joins r)) within)) | inr none ↦ absurd (cc) ] where
    back : (x : Texts) × In ps x × (entry x ≡ (e, d)) → In ps (text_of d, e)
    back (x, within, same) = subst (λ t. In ps t) (λ i. (text_of (same i).1, (same i).0)) within

  pub first_of_second : (e f : List ℕ) → In ps (f, e) → first_in e (get_member e (first_ends r)) ≡ f
  first_of_second e f within =
      let (d, at) = put_there e (string f) (flat_map join_entries (joins r)) no_members (subst (λ t. In t (e, string f)) (sym (entries_are (joins r))) (in_map entry ps (f, e) within)) in
      ap (first_in e) at ∙ one_first ps (text_of d) f e apart (first_some e d at) within

  first_of_other : (e : List ℕ) (o : Option Data) → get_member e (first_ends r) ≡ o → ((f : List ℕ) → In ps (f, e) → ⊥) → first_in e o ≡ e
  first_of_other e None at none = refl
  first_of_other e (Some d) at none = absurd (none (text_of d) (first_some e d at))

  abbrev pub first_of : List ℕ → List ℕ
  first_of e = first_in e (get_member e (first_ends r))

  -- two ENDs are one place exactly where they have the same first END
  pub place_first : (e f : List ℕ) → IsOnePlace r e f → first_of e ≡ first_of f
  place_first e f (inl same) = ap first_of same
  place_first e f (inr (inl is)) =
      let within = joined_in r e f is in
      first_of_other e (get_member e (first_ends r)) refl (λ g at. one_side ps e f g apart within at) ∙ sym (first_of_second f e within)
  place_first e f (inr (inr is)) =
      let within = joined_in r f e is in
      first_of_second e f within ∙ sym (first_of_other f (get_member f (first_ends r)) refl (λ g at. one_side ps f e g apart within at))

  pub first_place : (e f : List ℕ) → first_of e ≡ first_of f → IsOnePlace r e f
  first_place e f same = by_firsts (get_member e (first_ends r)) (get_member f (first_ends r)) refl refl same where
    by_firsts : (o p : Option Data) → get_member e (first_ends r) ≡ o → get_member f (first_ends r) ≡ p → first_in e o ≡ first_in f p → IsOnePlace r e f
    by_firsts None None at_e at_f same = inl same
    by_firsts None (Some d) at_e at_f same = inr (inl (in_joined r e f (subst (λ t. In ps (t, f)) (sym same) (first_some f d at_f))))
    by_firsts (Some c) None at_e at_f same = inr (inr (in_joined r f e (subst (λ t. In ps (t, e)) same (first_some e c at_e))))
    by_firsts (Some c) (Some d) at_e at_f same = inl (one_second ps (text_of d) e f apart (subst (λ t. In ps (t, e)) same (first_some e c at_e)) (first_some f d at_f))

  -- the first END of an END is an END
  pub first_end : (e : List ℕ) → is_end_text (own_names r) e ≡ true → is_end_text (own_names r) (first_of e) ≡ true
  first_end e test = by_first (get_member e (first_ends r)) refl where
    by_first : (o : Option Data) → get_member e (first_ends r) ≡ o → is_end_text (own_names r) (first_in e o) ≡ true
    by_first None at = test
    by_first (Some d) at = (joined_ends (text_of d) e (first_some e d at)).0
