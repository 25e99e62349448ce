-- The words of a thing that is made of one, two, three or five fields.
use Rattle.std.proofs.Common.{◌≡◌, ℕ, Bool, List, [], ◌∷◌, Option, Some, refl, sym, ap, subst, ◌∙◌}
use Rattle.std.specs.Prelude.{option_and_then, option_map}
use Rattle.std.proofs.lemmas.Option.{same_Some}
use Rattle.tp_words.specs.Fields.{two_of, five_of}
use Rattle.tp_words.proofs.Steps.{and_then_some, map_some}
use Rattle.tp_words.proofs.SpelledWords.{Spells, Tells, two_takes, five_takes}
use Rattle.tp_log.specs.RecordReaders.{one_of, three_of}

one_takes : {A : Type 0} {ra : List ℕ → Option A} {ta : A → List ℕ} {Fa : A → Type 0} {p : ℕ → Bool} (sa : Spells ra ta Fa p) (words : List (List ℕ)) (x : A) → one_of ra words ≡ Some x → (words ≡ ta x ∷ []) × Fa x
unfolding one_of
one_takes sa [] x e = absurd cc
one_takes sa (a ∷ b ∷ ws) x e = absurd cc
one_takes sa (a ∷ []) x e = (let k = sa.takes a x e in (ap (λ w. w ∷ []) k.0, k.1))

pub one_again : {A : Type 0} {ra : List ℕ → Option A} {ta : A → List ℕ} {Fa : A → Type 0} {p : ℕ → Bool} (sa : Spells ra ta Fa p) (x : A) → Fa x → one_of ra (ta x ∷ []) ≡ Some x
unfolding one_of
one_again sa x fits = sa.again x fits

pub one_made : {A X : Type 0} (words_of : X → List (List ℕ)) (Is : X → Type 0) {ra : List ℕ → Option A} {ta : A → List ℕ} {Fa : A → Type 0} {p : ℕ → Bool} (sa : Spells ra ta Fa p) (make : A → X) (head : List ℕ)
    → ((x : A) → words_of (make x) ≡ head ∷ ta x ∷ []) → ((x : A) → Fa x → Is (make x)) → (words : List (List ℕ)) (v : X) → option_map make (one_of ra words) ≡ Some v → Tells words_of Is (head ∷ words) v
one_made words_of Is {ra} sa make head same fits words v e =
    let m = map_some make (one_of ra words) v e in
    let k = one_takes sa words m.0 m.1 in
    subst (λ v. Tells words_of Is (head ∷ words) v) m.2 (ap (λ ws. head ∷ ws) k.0 ∙ sym (same m.0), fits m.0 k.1)

pub two_made : {A B X : Type 0} (words_of : X → List (List ℕ)) (Is : X → Type 0) {ra : List ℕ → Option A} {rb : List ℕ → Option B} {ta : A → List ℕ} {tb : B → List ℕ} {Fa : A → Type 0} {Fb : B → Type 0} {p q : ℕ → Bool} (sa : Spells ra ta Fa p) (sb : Spells rb tb Fb q) (make : A → B → X) (head : List ℕ)
    → ((x : A) (y : B) → words_of (make x y) ≡ head ∷ ta x ∷ tb y ∷ []) → ((x : A) (y : B) → Fa x → Fb y → Is (make x y)) → (words : List (List ℕ)) (v : X) → two_of ra rb make words ≡ Some v → Tells words_of Is (head ∷ words) v
two_made words_of Is sa sb make head same fits words v e =
    let k = two_takes sa sb make words v e in
    subst (λ v. Tells words_of Is (head ∷ words) v) k.2 (ap (λ ws. head ∷ ws) k.3 ∙ sym (same k.0 k.1), fits k.0 k.1 k.4 k.5)

same_three : (a b c a' b' c' : List ℕ) → a ≡ a' → b ≡ b' → c ≡ c' → a ∷ b ∷ c ∷ [] ≡ a' ∷ b' ∷ c' ∷ []
same_three a b c a' b' c' h i j = cc

three_takes : {A B C X : Type 0} {ra : List ℕ → Option A} {rb : List ℕ → Option B} {rc : List ℕ → Option C} {ta : A → List ℕ} {tb : B → List ℕ} {tc : C → List ℕ} {Fa : A → Type 0} {Fb : B → Type 0} {Fc : C → Type 0} {p q r : ℕ → Bool} (sa : Spells ra ta Fa p) (sb : Spells rb tb Fb q) (sc : Spells rc tc Fc r) (make : A → B → C → X)
    → (words : List (List ℕ)) (v : X) → three_of ra rb rc make words ≡ Some v → (x : A) × (y : B) × (z : C) × (make x y z ≡ v) × (words ≡ ta x ∷ tb y ∷ tc z ∷ []) × Fa x × Fb y × Fc z
unfolding three_of
three_takes sa sb sc make [] v e = absurd cc
three_takes sa sb sc make (a ∷ []) v e = absurd cc
three_takes sa sb sc make (a ∷ b ∷ []) v e = absurd cc
three_takes sa sb sc make (a ∷ b ∷ c ∷ d ∷ ws) v e = absurd cc
three_takes {ra} {rb} {rc} {ta} {tb} {tc} sa sb sc make (a ∷ b ∷ c ∷ []) v e =
    let i = and_then_some (ra a) (λ x. option_and_then (λ y. option_and_then (λ z. Some (make x y z)) (rc c)) (rb b)) v e in
    let j = and_then_some (rb b) (λ y. option_and_then (λ z. Some (make i.0 y z)) (rc c)) v i.2 in
    let k = and_then_some (rc c) (λ z. Some (make i.0 j.0 z)) v j.2 in
    let x = sa.takes a i.0 i.1 in
    let y = sb.takes b j.0 j.1 in
    let z = sc.takes c k.0 k.1 in
    (i.0, j.0, k.0, same_Some _ _ k.2, same_three a b c (ta i.0) (tb j.0) (tc k.0) x.0 y.0 z.0, x.1, y.1, z.1)

pub three_again : {A B C X : Type 0} {ra : List ℕ → Option A} {rb : List ℕ → Option B} {rc : List ℕ → Option C} {ta : A → List ℕ} {tb : B → List ℕ} {tc : C → List ℕ} {Fa : A → Type 0} {Fb : B → Type 0} {Fc : C → Type 0} {p q r : ℕ → Bool} (sa : Spells ra ta Fa p) (sb : Spells rb tb Fb q) (sc : Spells rc tc Fc r) (make : A → B → C → X)
    → (x : A) (y : B) (z : C) → Fa x → Fb y → Fc z → three_of ra rb rc make (ta x ∷ tb y ∷ tc z ∷ []) ≡ Some (make x y z)
unfolding three_of
three_again sa sb sc make x y z fx fy fz = rw (sa.again x fx, sb.again y fy, sc.again z fz) refl

pub three_made : {A B C X : Type 0} (words_of : X → List (List ℕ)) (Is : X → Type 0) {ra : List ℕ → Option A} {rb : List ℕ → Option B} {rc : List ℕ → Option C} {ta : A → List ℕ} {tb : B → List ℕ} {tc : C → List ℕ} {Fa : A → Type 0} {Fb : B → Type 0} {Fc : C → Type 0} {p q r : ℕ → Bool} (sa : Spells ra ta Fa p) (sb : Spells rb tb Fb q) (sc : Spells rc tc Fc r) (make : A → B → C → X) (head : List ℕ)
    → ((x : A) (y : B) (z : C) → words_of (make x y z) ≡ head ∷ ta x ∷ tb y ∷ tc z ∷ []) → ((x : A) (y : B) (z : C) → Fa x → Fb y → Fc z → Is (make x y z)) → (words : List (List ℕ)) (v : X) → three_of ra rb rc make words ≡ Some v → Tells words_of Is (head ∷ words) v
three_made words_of Is sa sb sc make head same fits words v e =
    let k = three_takes sa sb sc make words v e in
    subst (λ v. Tells words_of Is (head ∷ words) v) k.3 (ap (λ ws. head ∷ ws) k.4 ∙ sym (same k.0 k.1 k.2), fits k.0 k.1 k.2 k.5 k.6 k.7)

pub five_made : {A B C D E X : Type 0} (words_of : X → List (List ℕ)) (Is : X → Type 0) {ra : List ℕ → Option A} {rb : List ℕ → Option B} {rc : List ℕ → Option C} {rd : List ℕ → Option D} {re : List ℕ → Option E} {ta : A → List ℕ} {tb : B → List ℕ} {tc : C → List ℕ} {td : D → List ℕ} {te : E → List ℕ} {Fa : A → Type 0} {Fb : B → Type 0} {Fc : C → Type 0} {Fd : D → Type 0} {Fe : E → Type 0} {p q r s t : ℕ → Bool}
    (sa : Spells ra ta Fa p) (sb : Spells rb tb Fb q) (sc : Spells rc tc Fc r) (sd : Spells rd td Fd s) (se : Spells re te Fe t) (make : A → B → C → D → E → X) (head : List ℕ)
    → ((v : A) (w : B) (x : C) (y : D) (z : E) → words_of (make v w x y z) ≡ head ∷ ta v ∷ tb w ∷ tc x ∷ td y ∷ te z ∷ []) → ((v : A) (w : B) (x : C) (y : D) (z : E) → Fa v → Fb w → Fc x → Fd y → Fe z → Is (make v w x y z)) → (words : List (List ℕ)) (u : X) → five_of ra rb rc rd re make words ≡ Some u → Tells words_of Is (head ∷ words) u
five_made words_of Is sa sb sc sd se make head same fits words u e =
    let k = five_takes sa sb sc sd se make words u e in
    subst (λ u. Tells words_of Is (head ∷ words) u) k.makes (ap (λ ws. head ∷ ws) k.text ∙ sym (same k.a k.b k.c k.d k.e), fits k.a k.b k.c k.d k.e k.fa k.fb k.fc k.fd k.fe)
