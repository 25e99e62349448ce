-- Readers of values of several forms.
use Rattle.std.proofs.Common.{◌≡◌, ◌⊎◌, inl, inr, ℕ, ◌<◌, Bool, true, false, cond, ◌||◌, eqb, List, [], ◌∷◌, length, Option, Some, None, refl, sym, ap, subst, ◌∙◌, arith}
use Rattle.std.specs.Prelude.{option_map}
use Rattle.std.specs.List.{list_all}
use Rattle.std.proofs.lemmas.Bool.{cases_Bool, and_parts, and_from, or_left, or_right, eq-eqb, eqb-true, ne_eqb}
use Rattle.tp_words.specs.Fields.{after_of, begins_with}
use Rattle.tp_words.proofs.Steps.{map_some}
use Rattle.tp_words.proofs.SpelledWords.{Spells, weaker}

-- a value made of another
pub mapped_spells : {A X : Type 0} {r : List ℕ → Option A} {t : A → List ℕ} {F : A → Type 0} {p : ℕ → Bool} (s : Spells r t F p) (make : A → X) (text : X → List ℕ) (same : (a : A) → text (make a) ≡ t a) → Spells (λ w. option_map make (r w)) text (λ x. (a : A) × (make a ≡ x) × F a) p
mapped_spells {X = X} {r} {t} {F} {p} s make text same = record {
  takes = λ word x e. (let m = map_some make (r word) x e in let k = s.takes word m.0 m.1 in (k.0 ∙ sym (same m.0) ∙ ap text m.2, (m.0, m.2, k.1)));
  again = λ x (a, is, fa). subst (λ (x : X). option_map make (r (text x)) ≡ Some x) is (rw (same a, s.again a fa) refl);
  bytes = λ x (a, is, fa). subst (λ (x : X). list_all p (text x) ≡ true) is (rw (same a) (s.bytes a fa));
  filled = λ x (a, is, fa). subst (λ (x : X). 0 < length (text x)) is (rw (same a) (s.filled a fa));
}

abbrev pub with_byte : ℕ → (ℕ → Bool) → ℕ → Bool
with_byte c p b = eqb b c || p b

after_takes : {A : Type 0} (c : ℕ) {r : List ℕ → Option A} {t : A → List ℕ} {F : A → Type 0} {p : ℕ → Bool} (s : Spells r t F p) (word : List ℕ) (x : A) → after_of c r word ≡ Some x → (word ≡ c ∷ t x) × F x
unfolding after_of
after_takes c s [] x e = absurd cc
after_takes c {r} s (b ∷ word) x e =
    elim (cases_Bool (eqb b c)) [
      | inl h ↦ (let f : r word ≡ Some x = rw h at e in let k = s.takes word x f in (same_cons b c _ _ (eqb-true b c h) k.0, k.1))
      | inr h ↦ (let f : None ≡ Some x = rw h at e in absurd cc)
    ]
  where
    same_cons : (a b : ℕ) (s t : List ℕ) → a ≡ b → s ≡ t → a ∷ s ≡ b ∷ t
    same_cons a b s t h k = cc

after_again : {A : Type 0} (c : ℕ) {r : List ℕ → Option A} {t : A → List ℕ} {F : A → Type 0} {p : ℕ → Bool} (s : Spells r t F p) (x : A) → F x → after_of c r (c ∷ t x) ≡ Some x
unfolding after_of
after_again c s x fits = rw (eq-eqb c c refl) (s.again x fits)

-- behind a byte
pub after_spells : {A : Type 0} (c : ℕ) {r : List ℕ → Option A} {t : A → List ℕ} {F : A → Type 0} {p : ℕ → Bool} (s : Spells r t F p) → Spells (after_of c r) (λ x. c ∷ t x) F (with_byte c p)
after_spells c {r} {t} {F} {p} s = record {
  takes = after_takes c s;
  again = after_again c s;
  bytes = λ x h. and_from (with_byte c p c) (list_all (with_byte c p) (t x)) (or_left (eqb c c) (p c) (eq-eqb c c refl)) (weaker p (with_byte c p) (λ b k. or_right (eqb b c) (p b) k) (t x) (s.bytes x h));
  filled = λ x h. omega arith;
}

-- one of two forms, by a test of the text
pub choice_spells : {X : Type 0} (test : List ℕ → Bool) {ra rb : List ℕ → Option X} {text : X → List ℕ} {Fa Fb : X → Type 0} {p q : ℕ → Bool} (sa : Spells ra text Fa p) (sb : Spells rb text Fb q) → ((x : X) → Fa x → test (text x) ≡ true) → ((x : X) → Fb x → test (text x) ≡ false) → Spells (λ w. cond (test w) (ra w) (rb w)) text (λ x. Fa x ⊎ Fb x) (λ b. p b || q b)
choice_spells {X} test {ra} {rb} {text} {Fa} {Fb} {p} {q} sa sb is_first is_second = record {
  takes = λ word x e. elim (cases_Bool (test word)) [
    | inl h ↦ (let f : ra word ≡ Some x = rw h at e in let k = sa.takes word x f in (k.0, inl k.1))
    | inr h ↦ (let f : rb word ≡ Some x = rw h at e in let k = sb.takes word x f in (k.0, inr k.1))
  ];
  again = λ x fits. elim fits [ inl f ↦ rw (is_first x f) (sa.again x f) | inr f ↦ rw (is_second x f) (sb.again x f) ];
  bytes = λ x fits. elim fits [ inl f ↦ weaker p (λ b. p b || q b) (λ b k. or_left (p b) (q b) k) (text x) (sa.bytes x f) | inr f ↦ weaker q (λ b. p b || q b) (λ b k. or_right (p b) (q b) k) (text x) (sb.bytes x f) ];
  filled = λ x fits. elim fits [ inl f ↦ sa.filled x f | inr f ↦ sb.filled x f ];
}

-- the same values under other words
pub refit : {X : Type 0} {r : List ℕ → Option X} {t : X → List ℕ} {F G : X → Type 0} {p : ℕ → Bool} (s : Spells r t F p) → ((x : X) → F x → G x) → ((x : X) → G x → F x) → Spells r t G p
refit s to from = record {
  takes = λ word x e. (let k = s.takes word x e in (k.0, to x k.1));
  again = λ x g. s.again x (from x g);
  bytes = λ x g. s.bytes x (from x g);
  filled = λ x g. s.filled x (from x g);
}

-- a text without the byte doesn't begin with it
pub begins-not : (c : ℕ) (p : ℕ → Bool) (text : List ℕ) → p c ≡ false → list_all p text ≡ true → 0 < length text → begins_with c text ≡ false
begins-not c p [] not_c all some = absurd (omega arith)
begins-not c p (b ∷ text) not_c all some =
    let parts = and_parts (p b) (list_all p text) all in
    ne_eqb b c (λ e. (let both : p c ≡ true = subst (λ x. p x ≡ true) e parts.0 in cc))
