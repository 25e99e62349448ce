-- A reader and the text that it reads, and how such readers join.
use Rattle.std.proofs.Common.{◌≡◌, ℕ, ◌<◌, ◌≤◌, Bool, true, false, not, ◌&&◌, ◌||◌, eqb, leb, List, [], ◌∷◌, ◌++◌, length, Option, Some, refl, ap, subst, ◌∙◌, arith, decimal}
use Rattle.std.specs.Prelude.{option_and_then}
use Rattle.std.specs.List.{list_all}
use Rattle.std.specs.Char.{is_ascii_digit}
use Rattle.std.proofs.lemmas.Bool.{and_parts, and_from, or_left, or_right, eq-eqb, leb-true, ne_eqb}
use Rattle.std.proofs.lemmas.List.{length-append}
use Rattle.std.proofs.lemmas.List.Folds.{list_all-append}
use Rattle.std.proofs.lemmas.Option.{cond_some, same_Some}
use Rattle.std.proofs.lemmas.Fmt.{digits_decimal, decimal_nonempty}
use Rattle.tp_base.specs.NameText.{is_name_text, is_name_byte}
use Rattle.tp_words.specs.Numbers.{IsNumber, number_of}
use Rattle.tp_words.specs.Parts.{cut_at, is_word}
use Rattle.tp_words.specs.Fields.{IsName, name_of, pair_of, two_of, five_of}
use Rattle.tp_words.proofs.Steps.{and_then_some}
use Rattle.tp_words.proofs.NumberFacts.{own, number_takes, number_again}
use Rattle.tp_words.proofs.PartFacts.{lacks_from, cut_takes, cut_again}

-- what is read is spelled so, what is spelled so is read, and each text is some of these bytes
pub record Spells {X : Type 0} (read : List ℕ → Option X) (text : X → List ℕ) (Fits : X → Type 0) (byte : ℕ → Bool) : Type 0 where
  pub takes : (word : List ℕ) (x : X) → read word ≡ Some x → (word ≡ text x) × Fits x
  pub again : (x : X) → Fits x → read (text x) ≡ Some x
  pub bytes : (x : X) → Fits x → list_all byte (text x) ≡ true
  pub filled : (x : X) → Fits x → 0 < length (text x)

-- these are its words, and it is one
abbrev pub Tells : {X : Type 0} → (X → List (List ℕ)) → (X → Type 0) → List (List ℕ) → X → Type 0
Tells words_of Is words x = (words ≡ words_of x) × Is x

pub filled_from : (text : List ℕ) → 0 < length text → is_word text ≡ true
filled_from text h = ap not (ne_eqb (length text) 0 (λ e. omega arith))

-- ---- names and numbers
name_parts : (text : List ℕ) → IsName text → (1 ≤ length text) × (list_all is_name_byte text ≡ true)
name_parts text h =
    let both = and_parts (leb 1 (length text) && leb (length text) 32) (list_all is_name_byte text) h in
    (leb-true _ _ (and_parts (leb 1 (length text)) (leb (length text) 32) both.0).0, both.1)

name_takes : (word name : List ℕ) → name_of word ≡ Some name → (word ≡ name) × IsName name
unfolding name_of
name_takes word name e =
    let k = cond_some (is_name_text word) word name e in
    (k.1, subst IsName k.1 k.0)

name_again : (name : List ℕ) → IsName name → name_of name ≡ Some name
unfolding name_of
name_again name h = rw h refl

pub name_spells : Spells name_of (λ name. name) IsName is_name_byte
name_spells = record {
  takes = name_takes;
  again = name_again;
  bytes = λ name h. (name_parts name h).1;
  filled = λ name h. (name_parts name h).0;
}

pub number_spells : Spells number_of decimal IsNumber is_ascii_digit
number_spells = record {
  takes = number_takes;
  again = number_again;
  bytes = λ n h. digits_decimal own n (omega arith);
  filled = λ n h. decimal_nonempty n (omega arith);
}

-- ---- two parts with a byte between that the first lacks
abbrev pub either : ℕ → (ℕ → Bool) → (ℕ → Bool) → ℕ → Bool
either c p q b = eqb b c || p b || q b

pub weaker : (p q : ℕ → Bool) → ((b : ℕ) → p b ≡ true → q b ≡ true) → (text : List ℕ) → list_all p text ≡ true → list_all q text ≡ true
weaker p q h [] all = refl
weaker p q h (b ∷ text) all =
    let parts = and_parts (p b) (list_all p text) all in
    and_from (q b) (list_all q text) (h b parts.0) (weaker p q h text parts.1)

pub from_either : (c : ℕ) (p q : ℕ → Bool) (b : ℕ) → q b ≡ true → either c p q b ≡ true
from_either c p q b h = or_right (eqb b c || p b) (q b) h

left_either : (c : ℕ) (p q : ℕ → Bool) (b : ℕ) → p b ≡ true → either c p q b ≡ true
left_either c p q b h = or_left (eqb b c || p b) (q b) (or_right (eqb b c) (p b) h)

self_either : (c : ℕ) (p q : ℕ → Bool) → either c p q c ≡ true
self_either c p q = or_left (eqb c c || p c) (q c) (or_left (eqb c c) (p c) (eq-eqb c c refl))

pair_bytes : (c : ℕ) (p q : ℕ → Bool) (s t : List ℕ) → list_all p s ≡ true → list_all q t ≡ true → list_all (either c p q) (s ++ c ∷ t) ≡ true
pair_bytes c p q s t h k =
    list_all-append (either c p q) s (c ∷ t)
    ∙ and_from (list_all (either c p q) s) (list_all (either c p q) (c ∷ t)) (weaker p (either c p q) (left_either c p q) s h)
    (and_from (either c p q c) (list_all (either c p q) t) (self_either c p q) (weaker q (either c p q) (from_either c p q) t k))

pair_takes : {A B X : Type 0} (c : ℕ) {ra : List ℕ → Option A} {rb : List ℕ → Option B} {ta : A → List ℕ} {tb : B → List ℕ} {Fa : A → Type 0} {Fb : B → Type 0} {p q : ℕ → Bool} (sa : Spells ra ta Fa p) (sb : Spells rb tb Fb q) (make : A → B → X)
    → (word : List ℕ) (v : X) → pair_of c ra rb make word ≡ Some v → (x : A) × (y : B) × (make x y ≡ v) × (word ≡ ta x ++ c ∷ tb y) × Fa x × Fb y
unfolding pair_of
pair_takes c {ra} {rb} {ta} {tb} sa sb make word v e =
    let s = and_then_some (cut_at c word) (λ sides. option_and_then (λ a. option_and_then (λ b. Some (make a b)) (rb sides.1)) (ra sides.0)) v e in
    let a = and_then_some (ra s.0.0) (λ a. option_and_then (λ b. Some (make a b)) (rb s.0.1)) v s.2 in
    let b = and_then_some (rb s.0.1) (λ b. Some (make a.0 b)) v a.2 in
    let cut = cut_takes c word s.0.0 s.0.1 s.1 in
    let x = sa.takes s.0.0 a.0 a.1 in
    let y = sb.takes s.0.1 b.0 b.1 in
    (a.0, b.0, same_Some _ _ b.2, cut.0 ∙ ap (λ t. t ++ c ∷ s.0.1) x.0 ∙ ap (λ t. ta a.0 ++ c ∷ t) y.0, x.1, y.1)

pair_again : {A B X : Type 0} (c : ℕ) {ra : List ℕ → Option A} {rb : List ℕ → Option B} {ta : A → List ℕ} {tb : B → List ℕ} {Fa : A → Type 0} {Fb : B → Type 0} {p q : ℕ → Bool} (sa : Spells ra ta Fa p) (sb : Spells rb tb Fb q) (make : A → B → X)
    → p c ≡ false → (x : A) (y : B) → Fa x → Fb y → pair_of c ra rb make (ta x ++ c ∷ tb y) ≡ Some (make x y)
unfolding pair_of
pair_again c {ta = ta} {tb = tb} {p = p} sa sb make not_c x y fx fy =
    rw (cut_again c (ta x) (tb y) (lacks_from p c (ta x) not_c (sa.bytes x fx)), sa.again x fx, sb.again y fy) refl

-- the value is known by its two parts
pub pair_spells : {A B X : Type 0} (c : ℕ) {ra : List ℕ → Option A} {rb : List ℕ → Option B} {ta : A → List ℕ} {tb : B → List ℕ} {Fa : A → Type 0} {Fb : B → Type 0} {p q : ℕ → Bool} (sa : Spells ra ta Fa p) (sb : Spells rb tb Fb q)
    (make : A → B → X) (fst : X → A) (snd : X → B) → ((x : X) → make (fst x) (snd x) ≡ x) → ((a : A) (b : B) → fst (make a b) ≡ a) → ((a : A) (b : B) → snd (make a b) ≡ b)
    → p c ≡ false → Spells (pair_of c ra rb make) (λ x. ta (fst x) ++ c ∷ tb (snd x)) (λ x. Fa (fst x) × Fb (snd x)) (either c p q)
pair_spells c {ra} {rb} {ta} {tb} {Fa} {Fb} {p} {q} sa sb make fst snd eta one two not_c = record {
  takes = λ word v e. (let k = pair_takes c sa sb make word v e in
      subst (λ w. (word ≡ ta (fst w) ++ c ∷ tb (snd w)) × (Fa (fst w) × Fb (snd w))) k.2
      (rw (one k.0 k.1, two k.0 k.1) (k.3, (k.4, k.5))));
  again = λ v fits. pair_again c sa sb make not_c (fst v) (snd v) fits.0 fits.1 ∙ ap (λ x. Some x) (eta v);
  bytes = λ v fits. pair_bytes c p q (ta (fst v)) (tb (snd v)) (sa.bytes (fst v) fits.0) (sb.bytes (snd v) fits.1);
  filled = λ v fits. omega (arith, length-append (ta (fst v)) (c ∷ tb (snd v)));
}

-- ---- lines of fields
pub two_takes : {A B X : Type 0} {ra : List ℕ → Option A} {rb : List ℕ → Option B} {ta : A → List ℕ} {tb : B → List ℕ} {Fa : A → Type 0} {Fb : B → Type 0} {p q : ℕ → Bool} (sa : Spells ra ta Fa p) (sb : Spells rb tb Fb q) (make : A → B → X)
    → (words : List (List ℕ)) (v : X) → two_of ra rb make words ≡ Some v → (x : A) × (y : B) × (make x y ≡ v) × (words ≡ ta x ∷ tb y ∷ []) × Fa x × Fb y
unfolding two_of
two_takes sa sb make [] v e = absurd cc
two_takes sa sb make (a ∷ []) v e = absurd cc
two_takes sa sb make (a ∷ b ∷ c ∷ ws) v e = absurd cc
two_takes {ra} {rb} {ta} {tb} sa sb make (a ∷ b ∷ []) v e =
    let f = and_then_some (ra a) (λ x. option_and_then (λ y. Some (make x y)) (rb b)) v e in
    let g = and_then_some (rb b) (λ y. Some (make f.0 y)) v f.2 in
    let x = sa.takes a f.0 f.1 in
    let y = sb.takes b g.0 g.1 in
    (f.0, g.0, same_Some _ _ g.2, ap (λ t. t ∷ b ∷ []) x.0 ∙ ap (λ t. ta f.0 ∷ t ∷ []) y.0, x.1, y.1)

pub two_again : {A B X : Type 0} {ra : List ℕ → Option A} {rb : List ℕ → Option B} {ta : A → List ℕ} {tb : B → List ℕ} {Fa : A → Type 0} {Fb : B → Type 0} {p q : ℕ → Bool} (sa : Spells ra ta Fa p) (sb : Spells rb tb Fb q) (make : A → B → X)
    → (x : A) (y : B) → Fa x → Fb y → two_of ra rb make (ta x ∷ tb y ∷ []) ≡ Some (make x y)
unfolding two_of
two_again sa sb make x y fx fy = rw (sa.again x fx, sb.again y fy) refl

same_five : (a b c d e a' b' c' d' e' : List ℕ) → a ≡ a' → b ≡ b' → c ≡ c' → d ≡ d' → e ≡ e' → a ∷ b ∷ c ∷ d ∷ e ∷ [] ≡ a' ∷ b' ∷ c' ∷ d' ∷ e' ∷ []
same_five a b c d e a' b' c' d' e' h i j k l = cc

pub record FiveFields {A B C D E X : Type 0} (ta : A → List ℕ) (tb : B → List ℕ) (tc : C → List ℕ) (td : D → List ℕ) (te : E → List ℕ) (Fa : A → Type 0) (Fb : B → Type 0) (Fc : C → Type 0) (Fd : D → Type 0) (Fe : E → Type 0) (make : A → B → C → D → E → X) (words : List (List ℕ)) (v : X) : Type 0 where
  pub a : A
  pub b : B
  pub c : C
  pub d : D
  pub e : E
  pub makes : make a b c d e ≡ v
  pub text : words ≡ ta a ∷ tb b ∷ tc c ∷ td d ∷ te e ∷ []
  pub fa : Fa a
  pub fb : Fb b
  pub fc : Fc c
  pub fd : Fd d
  pub fe : Fe e

pub five_takes : {A B C D E X : Type 0} {ra : List ℕ → Option A} {rb : List ℕ → Option B} {rc : List ℕ → Option C} {rd : List ℕ → Option D} {re : List ℕ → Option E} {ta : A → List ℕ} {tb : B → List ℕ} {tc : C → List ℕ} {td : D → List ℕ} {te : E → List ℕ} {Fa : A → Type 0} {Fb : B → Type 0} {Fc : C → Type 0} {Fd : D → Type 0} {Fe : E → Type 0} {p q r s t : ℕ → Bool}
    (sa : Spells ra ta Fa p) (sb : Spells rb tb Fb q) (sc : Spells rc tc Fc r) (sd : Spells rd td Fd s) (se : Spells re te Fe t) (make : A → B → C → D → E → X)
    → (words : List (List ℕ)) (v : X) → five_of ra rb rc rd re make words ≡ Some v → FiveFields ta tb tc td te Fa Fb Fc Fd Fe make words v
unfolding five_of
five_takes sa sb sc sd se make [] v h = absurd cc
five_takes sa sb sc sd se make (a ∷ []) v h = absurd cc
five_takes sa sb sc sd se make (a ∷ b ∷ []) v h = absurd cc
five_takes sa sb sc sd se make (a ∷ b ∷ c ∷ []) v h = absurd cc
five_takes sa sb sc sd se make (a ∷ b ∷ c ∷ d ∷ []) v h = absurd cc
five_takes sa sb sc sd se make (a ∷ b ∷ c ∷ d ∷ e ∷ f ∷ ws) v h = absurd cc
five_takes {ra} {rb} {rc} {rd} {re} {ta} {tb} {tc} {td} {te} sa sb sc sd se make (a ∷ b ∷ c ∷ d ∷ e ∷ []) v h =
    let i = and_then_some (ra a) (λ v. option_and_then (λ w. option_and_then (λ x. option_and_then (λ y. option_and_then (λ z. Some (make v w x y z)) (re e)) (rd d)) (rc c)) (rb b)) v h in
    let j = and_then_some (rb b) (λ w. option_and_then (λ x. option_and_then (λ y. option_and_then (λ z. Some (make i.0 w x y z)) (re e)) (rd d)) (rc c)) v i.2 in
    let k = and_then_some (rc c) (λ x. option_and_then (λ y. option_and_then (λ z. Some (make i.0 j.0 x y z)) (re e)) (rd d)) v j.2 in
    let l = and_then_some (rd d) (λ y. option_and_then (λ z. Some (make i.0 j.0 k.0 y z)) (re e)) v k.2 in
    let m = and_then_some (re e) (λ z. Some (make i.0 j.0 k.0 l.0 z)) v l.2 in
    let x1 = sa.takes a i.0 i.1 in
    let x2 = sb.takes b j.0 j.1 in
    let x3 = sc.takes c k.0 k.1 in
    let x4 = sd.takes d l.0 l.1 in
    let x5 = se.takes e m.0 m.1 in
    record {
      a = i.0;
      b = j.0;
      c = k.0;
      d = l.0;
      e = m.0;
      makes = same_Some _ _ m.2;
      text = same_five a b c d e (ta i.0) (tb j.0) (tc k.0) (td l.0) (te m.0) x1.0 x2.0 x3.0 x4.0 x5.0;
      fa = x1.1;
      fb = x2.1;
      fc = x3.1;
      fd = x4.1;
      fe = x5.1;
    }

pub five_again : {A B C D E X : Type 0} {ra : List ℕ → Option A} {rb : List ℕ → Option B} {rc : List ℕ → Option C} {rd : List ℕ → Option D} {re : List ℕ → Option E} {ta : A → List ℕ} {tb : B → List ℕ} {tc : C → List ℕ} {td : D → List ℕ} {te : E → List ℕ} {Fa : A → Type 0} {Fb : B → Type 0} {Fc : C → Type 0} {Fd : D → Type 0} {Fe : E → Type 0} {p q r s t : ℕ → Bool}
    (sa : Spells ra ta Fa p) (sb : Spells rb tb Fb q) (sc : Spells rc tc Fc r) (sd : Spells rd td Fd s) (se : Spells re te Fe t) (make : A → B → C → D → E → X)
    → (v : A) (w : B) (x : C) (y : D) (z : E) → Fa v → Fb w → Fc x → Fd y → Fe z → five_of ra rb rc rd re make (ta v ∷ tb w ∷ tc x ∷ td y ∷ te z ∷ []) ≡ Some (make v w x y z)
unfolding five_of
five_again sa sb sc sd se make v w x y z fv fw fx fy fz = rw (sa.again v fv, sb.again w fw, sc.again x fx, sd.again y fy, se.again z fz) refl
