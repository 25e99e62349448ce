-- What a table has after values were put in it.
use Rattle.std.proofs.Common.{◌≡◌, ◌⊎◌, inl, inr, ℕ, Bool, true, false, List, [], ◌∷◌, ◌++◌, map, Option, Some, None, Ordering, Less, Equal, Greater, refl, ap, sym, ◌∙◌, subst, append_assoc}
use Rattle.std.specs.Ordering.{is_eq, nat_cmp, match_ordering}
use Rattle.std.specs.Str.{bytes_eq}
use Rattle.std.specs.Cmp.Lexicographic.{slice_cmp, nat_list_cmp_total}
use Rattle.std.specs.Cmp.{tied_itself}
use Rattle.std.proofs.lemmas.Map.Text.{is_eq-slice_cmp}
use Rattle.std.proofs.lemmas.Slice.Eq.{bytes_eq-Decides}
use Rattle.toml.specs.Data.{Data, Members, no_members, member, get_member}
use Rattle.tp_machine_text.specs.Printed.{put_member}
use Rattle.tp_compose.specs.Racks.{entries, put_all}
use Rattle.tp_compose.specs.Flat.{put_found}
use Rattle.tp_compose.proofs.Lists.{In, Apart}

pub put_all-append : (es fs : List (List ℕ × Data)) (ms : Members) → put_all (es ++ fs) ms ≡ put_all fs (put_all es ms)
put_all-append [] fs ms = refl
put_all-append (e ∷ es) fs ms = put_all-append es fs (put_member e.0 e.1 ms)

pub ruleset put_more = (put_all-append)

pub joined_on : (ds bs x rest goal : List Data) → bs ≡ ds ++ x → ds ++ (x ++ rest) ≡ goal → bs ++ rest ≡ goal
joined_on ds bs x rest goal grown whole = rw grown (append_assoc ds x rest ∙ whole)

pub ruleset pieces = (joined_on)

pub same_bytes : (k l : List ℕ) → bytes_eq k l ≡ true → k ≡ l
same_bytes k l test = (bytes_eq-Decides k l).0 test

tied : (k : List ℕ) → slice_cmp nat_cmp k k ≡ Equal
tied k = tied_itself nat_list_cmp_total k

tied_same : (k l : List ℕ) → slice_cmp nat_cmp k l ≡ Equal → k ≡ l
tied_same k l e = same_bytes k l (sym (is_eq-slice_cmp k l) ∙ ap is_eq e)

untied : (j k : List ℕ) (o : Ordering) → slice_cmp nat_cmp j k ≡ o → bytes_eq j k ≡ false → is_eq o ≡ false
untied j k o at apart = ap is_eq (sym at) ∙ is_eq-slice_cmp j k ∙ apart

passed : (o : Ordering) (a b : Option Data) → is_eq o ≡ false → match_ordering o a b a ≡ a
passed Less a b test = refl
passed Equal a b test = cc
passed Greater a b test = refl

-- ---- the value at a key

pub skip : (j k : List ℕ) (d : Data) (ms : Members) → bytes_eq j k ≡ false → get_member j (member k d ms) ≡ get_member j ms
skip j k d ms apart = passed (slice_cmp nat_cmp j k) (get_member j ms) (Some d) (untied j k (slice_cmp nat_cmp j k) refl apart)

pub here : (k : List ℕ) (d : Data) (ms : Members) → get_member k (member k d ms) ≡ Some d
here k d ms = rw (tied k)

pub get_put : (k : List ℕ) (d : Data) (ms : Members) → get_member k (put_member k d ms) ≡ Some d
get_put k d no_members = here k d no_members
get_put k d (member l e ms) = by_order (slice_cmp nat_cmp k l) refl (get_put k d ms) where
  by_order : (o : Ordering) → slice_cmp nat_cmp k l ≡ o → get_member k (put_member k d ms) ≡ Some d → get_member k (match_ordering o (member k d (member l e ms)) (member l d ms) (member l e (put_member k d ms))) ≡ Some d
  by_order Less at rest = here k d (member l e ms)
  by_order Equal at rest = rw at
  by_order Greater at rest = rw at rest

pub get_put_other : (j k : List ℕ) (d : Data) (ms : Members) → bytes_eq j k ≡ false → get_member j (put_member k d ms) ≡ get_member j ms
get_put_other j k d no_members apart = skip j k d no_members apart
get_put_other j k d (member l e ms) apart = by_order (slice_cmp nat_cmp k l) refl (get_put_other j k d ms apart) where
  by_order : (o : Ordering) → slice_cmp nat_cmp k l ≡ o → get_member j (put_member k d ms) ≡ get_member j ms
      → get_member j (match_ordering o (member k d (member l e ms)) (member l d ms) (member l e (put_member k d ms))) ≡ get_member j (member l e ms)
  by_order Less at rest = skip j k d (member l e ms) apart
  by_order Equal at rest =
      let apart_l : bytes_eq j l ≡ false = ap (bytes_eq j) (sym (tied_same k l at)) ∙ apart in
      skip j l d ms apart_l ∙ sym (skip j l e ms apart_l)
  by_order Greater at rest = ap (λ o. match_ordering (slice_cmp nat_cmp j l) o (Some e) o) rest

pub get_found_other : (j k : List ℕ) (o : Option Data) (ms : Members) → bytes_eq j k ≡ false → get_member j (put_found k o ms) ≡ get_member j ms
get_found_other j k None ms apart = refl
get_found_other j k (Some d) ms apart = get_put_other j k d ms apart

-- ---- one after another

abbrev keys : List (List ℕ × Data) → List (List ℕ)
keys es = map (λ e. e.0) es

by_bytes : (k l : List ℕ) → (bytes_eq k l ≡ true) ⊎ (bytes_eq k l ≡ false)
by_bytes k l = cases (bytes_eq k l) where
  cases : (b : Bool) → (b ≡ true) ⊎ (b ≡ false)
  cases true = inl refl
  cases false = inr refl

-- what is found was put, or stood before
pub put_some : (k : List ℕ) (d : Data) (es : List (List ℕ × Data)) (ms : Members) → get_member k (put_all es ms) ≡ Some d → In es (k, d) ⊎ (get_member k ms ≡ Some d)
put_some k d [] ms found = inr found
put_some k d (e ∷ es) ms found = elim (put_some k d es (put_member e.0 e.1 ms) found) [ inl later ↦ inl (inr later) | inr now ↦ by_key now (by_bytes k e.0) ] where
  by_key : get_member k (put_member e.0 e.1 ms) ≡ Some d → (bytes_eq k e.0 ≡ true) ⊎ (bytes_eq k e.0 ≡ false) → In (e ∷ es) (k, d) ⊎ (get_member k ms ≡ Some d)
  by_key now (inl same) =
      let key : k ≡ e.0 = same_bytes k e.0 same in
      let put : get_member k (put_member e.0 e.1 ms) ≡ Some e.1 = subst (λ x. get_member x (put_member e.0 e.1 ms) ≡ Some e.1) (sym key) (get_put e.0 e.1 ms) in
      let value : e.1 ≡ d = cc in
      inl (inl (λ i. (sym key i, value i)))
  by_key now (inr apart) = inr (sym (get_put_other k e.0 e.1 ms apart) ∙ now)

-- what stands at a key is replaced at most
pub stays : (k : List ℕ) (es : List (List ℕ × Data)) (ms : Members) (d : Data) → get_member k ms ≡ Some d → (x : Data) × (get_member k (put_all es ms) ≡ Some x)
stays k [] ms d at = (d, at)
stays k (e ∷ es) ms d at = elim (by_bytes k e.0) [
  | inl same ↦ stays k es (put_member e.0 e.1 ms) e.1 (subst (λ x. get_member x (put_member e.0 e.1 ms) ≡ Some e.1) (sym (same_bytes k e.0 same)) (get_put e.0 e.1 ms))
  | inr apart ↦ stays k es (put_member e.0 e.1 ms) d (get_put_other k e.0 e.1 ms apart ∙ at)
]

-- what was put is found, with a value of that key
pub put_there : (k : List ℕ) (d : Data) (es : List (List ℕ × Data)) (ms : Members) → In es (k, d) → (x : Data) × (get_member k (put_all es ms) ≡ Some x)
put_there k d [] ms within = elim within [ ]
put_there k d (e ∷ es) ms (inl same) = stays k es (put_member e.0 e.1 ms) e.1 (subst (λ x. get_member x (put_member e.0 e.1 ms) ≡ Some e.1) (ap (λ x. x.0) same) (get_put e.0 e.1 ms))
put_there k d (e ∷ es) ms (inr later) = put_there k d es (put_member e.0 e.1 ms) later

-- ---- the entries of a table

in_put : (k : List ℕ) (d : Data) (ms : Members) → In (entries (put_member k d ms)) (k, d)
in_put k d no_members = inl refl
in_put k d (member l e ms) = by_order (slice_cmp nat_cmp k l) refl (in_put k d ms) where
  by_order : (o : Ordering) → slice_cmp nat_cmp k l ≡ o → In (entries (put_member k d ms)) (k, d)
      → In (entries (match_ordering o (member k d (member l e ms)) (member l d ms) (member l e (put_member k d ms)))) (k, d)
  by_order Less at rest = inl refl
  by_order Equal at rest = inl (λ i. (sym (tied_same k l at) i, d))
  by_order Greater at rest = inr rest

in_put_old : (k : List ℕ) (d : Data) (ms : Members) (x : List ℕ × Data) → bytes_eq x.0 k ≡ false → In (entries ms) x → In (entries (put_member k d ms)) x
in_put_old k d no_members x apart within = elim within [ ]
in_put_old k d (member l e ms) x apart within = by_order (slice_cmp nat_cmp k l) refl within (λ rest. in_put_old k d ms x apart rest) where
  by_order : (o : Ordering) → slice_cmp nat_cmp k l ≡ o → In (entries (member l e ms)) x → (In (entries ms) x → In (entries (put_member k d ms)) x)
      → In (entries (match_ordering o (member k d (member l e ms)) (member l d ms) (member l e (put_member k d ms)))) x
  by_order Less at within more = inr within
  by_order Equal at (inl same) more =
      let key : x.0 ≡ k = sym (ap (λ y. y.0) same) ∙ sym (tied_same k l at) in
      let equal : bytes_eq x.0 k ≡ true = (bytes_eq-Decides x.0 k).1 key in
      cc
  by_order Equal at (inr rest) more = inr rest
  by_order Greater at (inl same) more = inl same
  by_order Greater at (inr rest) more = inr (more rest)

in_put_back : (k : List ℕ) (d : Data) (ms : Members) (x : List ℕ × Data) → In (entries (put_member k d ms)) x → ((k, d) ≡ x) ⊎ In (entries ms) x
in_put_back k d no_members x (inl same) = inl same
in_put_back k d no_members x (inr rest) = elim rest [ ]
in_put_back k d (member l e ms) x within = by_order (slice_cmp nat_cmp k l) refl within (λ rest. in_put_back k d ms x rest) where
  by_order : (o : Ordering) → slice_cmp nat_cmp k l ≡ o → In (entries (match_ordering o (member k d (member l e ms)) (member l d ms) (member l e (put_member k d ms)))) x
      → (In (entries (put_member k d ms)) x → ((k, d) ≡ x) ⊎ In (entries ms) x) → ((k, d) ≡ x) ⊎ In (entries (member l e ms)) x
  by_order Less at (inl same) more = inl same
  by_order Less at (inr rest) more = inr rest
  by_order Equal at (inl same) more = inl ((λ i. (tied_same k l at i, d)) ∙ same)
  by_order Equal at (inr rest) more = inr (inr rest)
  by_order Greater at (inl same) more = inr (inl same)
  by_order Greater at (inr rest) more = elim (more rest) [ inl same ↦ inl same | inr old ↦ inr (inr old) ]

pub in_all_back : (es : List (List ℕ × Data)) (ms : Members) (x : List ℕ × Data) → In (entries (put_all es ms)) x → In es x ⊎ In (entries ms) x
in_all_back [] ms x within = inr within
in_all_back (e ∷ es) ms x within = elim (in_all_back es (put_member e.0 e.1 ms) x within) [ inl later ↦ inl (inr later) | inr now ↦ elim (in_put_back e.0 e.1 ms x now) [ inl same ↦ inl (inl same) | inr old ↦ inr old ] ]

apart_bytes : (k l : List ℕ) → (k ≡ l → ⊥) → bytes_eq k l ≡ false
apart_bytes k l apart = elim (by_bytes k l) [ inl same ↦ absurd (apart (same_bytes k l same)) | inr other ↦ other ]

in_all_old : (es : List (List ℕ × Data)) (ms : Members) (x : List ℕ × Data) → (In (keys es) x.0 → ⊥) → In (entries ms) x → In (entries (put_all es ms)) x
in_all_old [] ms x apart within = within
in_all_old (e ∷ es) ms x apart within = in_all_old es (put_member e.0 e.1 ms) x (λ later. apart (inr later)) (in_put_old e.0 e.1 ms x (apart_bytes x.0 e.0 (λ same. apart (inl (sym same)))) within)

pub in_all : (es : List (List ℕ × Data)) (ms : Members) (x : List ℕ × Data) → Apart (keys es) → In es x → In (entries (put_all es ms)) x
in_all [] ms x apart within = elim within [ ]
in_all (e ∷ es) ms x apart (inl same) = in_all_old es (put_member e.0 e.1 ms) x (λ later. apart.0 (subst (λ k. In (keys es) k) (sym (ap (λ y. y.0) same)) later)) (subst (λ y. In (entries (put_member e.0 e.1 ms)) y) same (in_put e.0 e.1 ms))
in_all (e ∷ es) ms x apart (inr later) = in_all es (put_member e.0 e.1 ms) x apart.1 later
