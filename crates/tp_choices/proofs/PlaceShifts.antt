-- A list with two parts, those that stay and those that are gone, and an element put among the ones that stay: where all
-- behind it lies ahead of the gone ones, it is put into the whole list at its place and as many places further as are gone.
use Rattle.std.proofs.Common.{◌≡◌, ℕ, zero, suc, ◌+◌, ◌-◌, ◌≤◌, Bool, true, false, cond, not, List, [], ◌∷◌, ◌++◌, insert, take, drop, filter, length, refl, ap, sym, arith, Contains, All, AllPairs, ◌∙◌, subst, get_or}
use Rattle.std.proofs.lemmas.List.{length-append, take-append-drop, append-nil, length-take-le}
use Rattle.std.proofs.lemmas.List.Elements.{Contains-append_left}
use Rattle.std.proofs.lemmas.List.Elements.{All-cons, All-head, All-tail, All-nil, All-contains, filter-append}
use Rattle.std.proofs.lemmas.List.Filters.{length-filter_both}
use Rattle.tp_schedule.proofs.Membership.{All-from_contains, Contains-filter}
use Rattle.tp_schedule.proofs.Pairs.{AllPairs-head, AllPairs-tail, AllPairs-cons, AllPairs-append_right}
use Rattle.tp_choices.proofs.Lists.{filter-all, AllPairs-across}

pub insert-between : {X : Type 0} (us vs : List X) (n : ℕ) (x : X) → n ≡ length us → insert (us ++ vs) n x ≡ us ++ x ∷ vs
insert-between [] vs zero x e = refl
insert-between [] vs (suc n) x e = absurd (omega arith)
insert-between (u ∷ us) vs zero x e = absurd (omega arith)
insert-between (u ∷ us) vs (suc n) x e = ap (λ ys. u ∷ ys) (insert-between us vs n x (omega arith))

AllPairs-between : {X : Type 0} (R : X → X → Type 0) (us vs : List X) (x : X) → AllPairs R (us ++ vs) → All (λ u. R u x) us → All (R x) vs → AllPairs R (us ++ x ∷ vs)
AllPairs-between R [] vs x all before after = AllPairs-cons R x vs after all
AllPairs-between R (u ∷ us) vs x all before after =
    AllPairs-cons R u (us ++ x ∷ vs) (middle us (AllPairs-head R u (us ++ vs) all)) (AllPairs-between R us vs x (AllPairs-tail R u (us ++ vs) all) (All-tail (λ w. R w x) u us before) after) where
      middle : (ws : List _) → All (R u) (ws ++ vs) → All (R u) (ws ++ x ∷ vs)
      middle [] h = All-cons (R u) x vs (All-head (λ w. R w x) u us before) h
      middle (w ∷ ws) h = All-cons (R u) w (ws ++ x ∷ vs) (All-head (R u) w (ws ++ vs) h) (middle ws (All-tail (R u) w (ws ++ vs) h))

module _ {X : Type 0} (p : X → Bool) (R : X → X → Type 0) (Late : X → Type 0) (never : (y g : X) → Late y → p g ≡ false → R y g → ⊥) where
  -- so many that stay, and all that are gone, before the rest
  pub record Split (k : ℕ) (xs : List X) : Type 0 where
    pub us : List X
    pub vs : List X
    pub is : xs ≡ us ++ vs
    pub count : length (filter p us) ≡ k
    pub rest : All (λ v. p v ≡ true) vs

  all-stay : (z : X) (zs : List X) → Late z → All (R z) zs → All (λ v. p v ≡ true) zs
  all-stay z zs late all = All-from_contains (λ v. p v ≡ true) zs (λ v in'. go v in' (p v) refl) where
    go : (v : X) → Contains zs v → (b : Bool) → p v ≡ b → b ≡ true
    go v in' true e = refl
    go v in' false e = absurd (never z v late e (All-contains (R z) zs v all in'))

  split : (xs : List X) (k : ℕ) → k ≤ length (filter p xs) → All Late (drop k (filter p xs)) → AllPairs R xs → Split k xs
  split [] k le late all = record { us = []; vs = []; is = refl; count = omega arith; rest = All-nil (λ v. p v ≡ true) }
  split (z ∷ zs) k le late all = go (p z) refl k le late (λ k' le' late'. split zs k' le' late' (AllPairs-tail R z zs all)) where
    go : (b : Bool) → p z ≡ b → (k' : ℕ) → k' ≤ length (cond b (z ∷ filter p zs) (filter p zs)) → All Late (drop k' (cond b (z ∷ filter p zs) (filter p zs)))
        → ((i : ℕ) → i ≤ length (filter p zs) → All Late (drop i (filter p zs)) → Split i zs) → Split k' (z ∷ zs)
    go false e k' le' late' rest =
        let s = rest k' le' late' in
        record { us = z ∷ s.us; vs = s.vs; is = ap (λ ys. z ∷ ys) s.is; count = rw e s.count; rest = s.rest }
    go true e zero le' late' rest = record { us = []; vs = z ∷ zs; is = refl; count = refl; rest = All-cons (λ v. p v ≡ true) z zs e (all-stay z zs (All-head Late z (filter p zs) late') (AllPairs-head R z zs all)) }
    go true e (suc k') le' late' rest =
        let s = rest k' (omega arith) late' in
        record { us = z ∷ s.us; vs = s.vs; is = ap (λ ys. z ∷ ys) s.is; count = rw e (ap suc s.count); rest = s.rest }

  none-gone : (vs : List X) → All (λ v. p v ≡ true) vs → filter (λ v. not (p v)) vs ≡ []
  none-gone [] all = refl
  none-gone (v ∷ vs) all = rw (All-head (λ w. p w ≡ true) v vs all) (none-gone vs (All-tail (λ w. p w ≡ true) v vs all))

  -- an element that stays, put at its place among those that stay, and its place in the whole list
  pub record Beside (olds xs ys : List X) : Type 0 where
    pub stay : filter p xs ≡ ys
    pub gone : filter (λ x. not (p x)) xs ≡ olds
    pub all : AllPairs R xs

  pub insert-beside : (olds xs ys : List X) (k : ℕ) (x : X) → Beside olds xs ys → p x ≡ true → k ≤ length ys → AllPairs R (insert ys k x)
      → ((y : X) → R x y → Late y) → ((g : X) → p g ≡ false → Contains xs g → R g x) → Beside olds (insert xs (k + length olds) x) (insert ys k x)
  insert-beside olds xs ys k x b stays le all late before =
      let behind : All (R x) (drop k ys) = AllPairs-head R x (drop k ys) (AllPairs-append_right R (take k ys) (x ∷ drop k ys) all) in
      let s = split xs k (rw b.stay le) (rw b.stay (λ i d within. late (get_or (drop k ys) i d) (behind i d within))) b.all in
      let part : ys ≡ filter p s.us ++ s.vs = sym b.stay ∙ ap (filter p) s.is ∙ filter-append p s.us s.vs ∙ ap (λ zs. filter p s.us ++ zs) (filter-all p s.vs s.rest) in
      let gone-us : filter (λ y. not (p y)) s.us ≡ olds = sym (ap (filter (λ y. not (p y))) s.is ∙ filter-append (λ y. not (p y)) s.us s.vs ∙ ap (λ zs. filter (λ y. not (p y)) s.us ++ zs) (none-gone s.vs s.rest) ∙ append-nil (filter (λ y. not (p y)) s.us)) ∙ b.gone in
      let count-gone = ap length gone-us in
      let both = length-filter_both p (λ y. not (p y)) (λ y. refl) s.us in
      let here : insert xs (k + length olds) x ≡ s.us ++ x ∷ s.vs = ap (λ zs. insert zs (k + length olds) x) s.is ∙ insert-between s.us s.vs (k + length olds) x (let count-us = s.count in omega arith) in
      let there : insert ys k x ≡ filter p s.us ++ x ∷ s.vs = ap (λ zs. insert zs k x) part ∙ insert-between (filter p s.us) s.vs k x (sym s.count) in
      let stay-all : AllPairs R (filter p s.us ++ x ∷ s.vs) = subst (AllPairs R) there all in
      let whole : AllPairs R (s.us ++ s.vs) = subst (AllPairs R) s.is b.all in
      record {
        stay = ap (filter p) here ∙ filter-append p s.us (x ∷ s.vs) ∙ ap (λ zs. filter p s.us ++ zs) (rw (stays, filter-all p s.vs s.rest) refl) ∙ sym there;
        gone = ap (filter (λ y. not (p y))) here ∙ filter-append (λ y. not (p y)) s.us (x ∷ s.vs) ∙ ap (λ zs. filter (λ y. not (p y)) s.us ++ zs) (rw (stays, none-gone s.vs s.rest) refl) ∙ append-nil (filter (λ y. not (p y)) s.us) ∙ gone-us;
        all = subst (AllPairs R) (sym here) (AllPairs-between R s.us s.vs x whole
            (All-from_contains (λ u. R u x) s.us (λ u in'. earlier s.us s.vs s.is stay-all u in' (p u) refl))
            (AllPairs-head R x s.vs (AllPairs-append_right R (filter p s.us) (x ∷ s.vs) stay-all)));
      } where
        earlier : (us vs : List X) → xs ≡ us ++ vs → AllPairs R (filter p us ++ x ∷ vs) → (u : X) → Contains us u → (c : Bool) → p u ≡ c → R u x
        earlier us vs is stay-all u in' true e = All-head (R u) x vs (AllPairs-across R (filter p us) (x ∷ vs) u stay-all (Contains-filter p us u in' e))
        earlier us vs is stay-all u in' false e = before u e (subst (λ zs. Contains zs u) (sym is) (Contains-append_left us vs u in'))

  -- the reverse: what was put into the whole list was put behind all that are gone
  pub record IsOut (olds xs : List X) (n : ℕ) (x : X) : Type 0 where
    pub behind : length olds ≤ n
    pub within : n - length olds ≤ length (filter p xs)
    pub stay : filter p (insert xs n x) ≡ insert (filter p xs) (n - length olds) x
    pub gone : filter (λ y. not (p y)) (insert xs n x) ≡ olds

  pub insert-out : (olds xs : List X) (n : ℕ) (x : X) → filter (λ y. not (p y)) xs ≡ olds → p x ≡ true → n ≤ length xs → AllPairs R (insert xs n x)
      → ((y : X) → R x y → p y ≡ false → ⊥) → IsOut olds xs n x
  insert-out olds xs n x gone-olds stays le all after =
      let us : List X = take n xs in
      let vs : List X = drop n xs in
      let is : us ++ vs ≡ xs = take-append-drop n xs in
      let behind : All (R x) vs = AllPairs-head R x vs (AllPairs-append_right R us (x ∷ vs) all) in
      let rest : All (λ v. p v ≡ true) vs = λ i d within. stay-of (get_or vs i d) (behind i d within) (p (get_or vs i d)) refl in
      let long : length us ≡ n = length-take-le n xs le in
      let none = none-gone vs rest in
      let gone-us : filter (λ y. not (p y)) us ≡ olds = sym (ap (filter (λ y. not (p y))) (sym is) ∙ filter-append (λ y. not (p y)) us vs ∙ ap (λ zs. filter (λ y. not (p y)) us ++ zs) none ∙ append-nil (filter (λ y. not (p y)) us)) ∙ gone-olds in
      let count-gone = ap length gone-us in
      let both = length-filter_both p (λ y. not (p y)) (λ y. refl) us in
      let part : filter p xs ≡ filter p us ++ vs = ap (filter p) (sym is) ∙ filter-append p us vs ∙ ap (λ zs. filter p us ++ zs) (filter-all p vs rest) in
      let fewer = ap length part ∙ length-append (filter p us) vs in
      let index : n - length olds ≡ length (filter p us) = omega arith in
      record {
        behind = omega arith;
        within = omega arith;
        stay = filter-append p us (x ∷ vs) ∙ ap (λ zs. filter p us ++ zs) (rw (stays, filter-all p vs rest) refl) ∙ sym (ap (λ zs. insert zs (n - length olds) x) part ∙ insert-between (filter p us) vs (n - length olds) x index);
        gone = filter-append (λ y. not (p y)) us (x ∷ vs) ∙ ap (λ zs. filter (λ y. not (p y)) us ++ zs) (rw (stays, none) refl) ∙ append-nil (filter (λ y. not (p y)) us) ∙ gone-us;
      } where
        stay-of : (v : X) → R x v → (b : Bool) → p v ≡ b → b ≡ true
        stay-of v r true e = refl
        stay-of v r false e = absurd (after v r e)
