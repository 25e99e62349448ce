-- A group that is read is spelled so, and what is spelled so is read.
use Rattle.std.proofs.Common.{◌≡◌, ◌⊎◌, inl, inr, ℕ, ◌≤◌, Bool, true, false, cond, ◌&&◌, eqb, leb, List, [], ◌∷◌, ◌++◌, Option, Some, None, refl, sym, ap, subst, ◌∙◌, arith, decimal}
use Rattle.std.specs.Prelude.{option_and_then}
use Rattle.std.specs.List.{list_all}
use Rattle.std.specs.Char.{is_ascii_digit}
use Rattle.std.proofs.lemmas.Bool.{and_parts, eqb-true, leb-true, le-leb, cases_Bool}
use Rattle.std.proofs.lemmas.Option.{cond_some, same_Some}
use Rattle.tp_words.specs.Numbers.{digits_of}
use Rattle.tp_words.specs.Parts.{cut_at, lacks}
use Rattle.tp_words.proofs.Steps.{and_then_some}
use Rattle.tp_words.proofs.PartFacts.{cut_takes, cut_again, cut_none, lacks_from}
use Rattle.tp_words.proofs.NumberFacts.{digits_take, digits_again}
use Rattle.tp_machine.specs.declared.parts.Want.{Want}
use Rattle.tp_machine.specs.declared.parts.Want.TheVariants.{Blank, Mono, Colour}
use Rattle.tp_machine.specs.declared.parts.Face.{Face}
use Rattle.tp_machine.specs.declared.parts.Face.TheVariants.{Front, Back}
use Rattle.tp_script.specs.Form.{GroupForm}
use Rattle.tp_script.specs.Script.{IsGroup, Writes, spec_text, want_byte, face_byte, group_text}
use Rattle.tp_script.specs.EventReaders.{want_of, face_of, group_with, count_of, group_from, group_of}

-- an if that chose
chosen : {A : Type 0} (b : Bool) (x y z : A) → cond b x y ≡ z → ((b ≡ true) × (x ≡ z)) ⊎ ((b ≡ false) × (y ≡ z))
chosen true x y z e = inl (refl, e)
chosen false x y z e = inr (refl, e)

want_takes : (b : ℕ) (w : Want) → want_of b ≡ Some w → b ≡ want_byte w
want_takes b w e =
    elim (chosen (eqb b 45) _ _ _ e) [
      | inl h ↦ eqb-true b 45 h.0 ∙ ap want_byte (same_Some _ _ h.1)
      | inr h ↦ elim (chosen (eqb b 77) _ _ _ h.1) [
        | inl h ↦ eqb-true b 77 h.0 ∙ ap want_byte (same_Some _ _ h.1)
        | inr h ↦ (let k = cond_some (eqb b 67) Colour w h.1 in eqb-true b 67 k.0 ∙ ap want_byte k.1)
      ]
    ]

want_again : (w : Want) → want_of (want_byte w) ≡ Some w
want_again Blank = refl
want_again Mono = refl
want_again Colour = refl

face_takes : (b : ℕ) (f : Face) → face_of b ≡ Some f → b ≡ face_byte f
face_takes b f e =
    elim (chosen (eqb b 70) _ _ _ e) [
      | inl h ↦ eqb-true b 70 h.0 ∙ ap face_byte (same_Some _ _ h.1)
      | inr h ↦ (let k = cond_some (eqb b 66) Back f h.1 in eqb-true b 66 k.0 ∙ ap face_byte k.1)
    ]

face_again : (f : Face) → face_of (face_byte f) ≡ Some f
face_again Front = refl
face_again Back = refl

made : ℕ → Want → Want → Face → GroupForm
made count f b u = record { count = count; front = f; back = b; face = u }

same_four : (a b c d e f g h : ℕ) → a ≡ e → b ≡ f → c ≡ g → d ≡ h → a ∷ b ∷ c ∷ d ∷ [] ≡ e ∷ f ∷ g ∷ h ∷ []
same_four a b c d e f g h p q r s = cc

spec_takes : (count : ℕ) (text : List ℕ) (g : GroupForm) → group_with count text ≡ Some g → (text ≡ spec_text g) × (g.count ≡ count)
unfolding group_with
spec_takes count [] g e = absurd cc
spec_takes count (f ∷ []) g e = absurd cc
spec_takes count (f ∷ b ∷ []) g e = absurd cc
spec_takes count (f ∷ b ∷ c ∷ []) g e = absurd cc
spec_takes count (f ∷ b ∷ c ∷ u ∷ v ∷ more) g e = absurd cc
spec_takes count (f ∷ b ∷ c ∷ u ∷ []) g e =
    let x = and_then_some (want_of f) (λ front. option_and_then (λ back. option_and_then (λ face. cond (eqb c 58) (Some (record { count = count; front = front; back = back; face = face })) None) (face_of u)) (want_of b)) g e in
    let y = and_then_some (want_of b) (λ back. option_and_then (λ face. cond (eqb c 58) (Some (record { count = count; front = x.0; back = back; face = face })) None) (face_of u)) g x.2 in
    let z = and_then_some (face_of u) (λ face. cond (eqb c 58) (Some (record { count = count; front = x.0; back = y.0; face = face })) None) g y.2 in
    let k = cond_some (eqb c 58) (record { count = count; front = x.0; back = y.0; face = z.0 }) g z.2 in
    subst (λ (h : GroupForm). (f ∷ b ∷ c ∷ u ∷ [] ≡ spec_text h) × (h.count ≡ count)) k.1
    (same_four f b c u (want_byte x.0) (want_byte y.0) 58 (face_byte z.0) (want_takes f x.0 x.1) (want_takes b y.0 y.1) (eqb-true c 58 k.0) (face_takes u z.0 z.1), refl)

spec_again : (g : GroupForm) → group_with g.count (spec_text g) ≡ Some g
unfolding group_with
spec_again g = rw (want_again g.front, want_again g.back, face_again g.face) refl

count_takes : (text : List ℕ) (n : ℕ) → count_of text ≡ Some n → Writes 4 text n × (1 ≤ n) × (n ≤ 4096)
count_takes text n e =
    let a = and_then_some (digits_of 4 text) (λ n. cond (leb 1 n && leb n 4096) (Some n) None) n e in
    let k = cond_some (leb 1 a.0 && leb a.0 4096) a.0 n a.2 in
    let both = and_parts (leb 1 a.0) (leb a.0 4096) k.0 in
    subst (λ m. Writes 4 text m × (1 ≤ m) × (m ≤ 4096)) k.1 (digits_take 4 text a.0 a.1, leb-true _ _ both.0, leb-true _ _ both.1)

count_again : (text : List ℕ) (n : ℕ) → Writes 4 text n → 1 ≤ n → n ≤ 4096 → count_of text ≡ Some n
unfolding digits_of
count_again text n w low high = rw (w.0, w.1, le-leb 1 n low, le-leb n 4096 high) refl

option_cases : {A : Type 0} (o : Option A) → (o ≡ None) ⊎ ((x : A) × (o ≡ Some x))
option_cases None = inl refl
option_cases (Some x) = inr (x, refl)

pub group_takes : (word : List ℕ) (g : GroupForm) → group_of word ≡ Some g → IsGroup word g
unfolding group_of
group_takes word g e =
    elim (option_cases (cut_at 42 word)) [
      | inl h ↦ (let k = spec_takes 1 word g (ap (group_from word) (sym h) ∙ e) in inl (k.1, k.0))
      | inr h ↦
          let f : group_from word (Some h.0) ≡ Some g = ap (group_from word) (sym h.1) ∙ e in
          let a = and_then_some (count_of h.0.0) (λ count. group_with count h.0.1) g f in
          let k = spec_takes a.0 h.0.1 g a.2 in
          let c = count_takes h.0.0 a.0 a.1 in
          let w = cut_takes 42 word h.0.0 h.0.1 h.1 in
          subst (λ n. Writes 4 h.0.0 n × (1 ≤ n) × (n ≤ 4096) → IsGroup word g) k.1 (λ d. inr (h.0.0, d.0, d.1, d.2, w.0 ∙ ap (λ x. h.0.0 ++ 42 ∷ x) k.0)) c
    ]

want_lacks : (w : Want) → eqb (want_byte w) 42 ≡ false
want_lacks Blank = refl
want_lacks Mono = refl
want_lacks Colour = refl

face_lacks : (f : Face) → eqb (face_byte f) 42 ≡ false
face_lacks Front = refl
face_lacks Back = refl

spec_lacks : (g : GroupForm) → lacks 42 (spec_text g) ≡ true
spec_lacks g = rw (want_lacks g.front, want_lacks g.back, face_lacks g.face) refl

pub group_only : (word : List ℕ) (g : GroupForm) → IsGroup word g → group_of word ≡ Some g
unfolding group_of
group_only word g (inl (one, is)) =
    rw (is, cut_none 42 (spec_text g) (spec_lacks g)) (ap (λ n. group_with n (spec_text g)) (sym one) ∙ spec_again g)
group_only word g (inr (count, writes, low, high, is)) =
    let digits : list_all is_ascii_digit count ≡ true = (and_parts _ _ writes.0).1 in
    rw (is, cut_again 42 count (spec_text g) (lacks_from is_ascii_digit 42 count refl digits), count_again count g.count writes low high) (spec_again g)

-- what is printed is in the grammar
pub group_printed : (g : GroupForm) → 1 ≤ g.count → g.count ≤ 4096 → IsGroup (group_text g) g
group_printed g low high =
    elim (cases_Bool (eqb g.count 1)) [
      | inl one ↦ rw one (inl (eqb-true g.count 1 one, refl))
      | inr more ↦ rw more (inr (decimal g.count, digits_take 4 (decimal g.count) g.count (digits_again 4 g.count (omega arith) (omega arith) (omega arith)), low, high, refl))
    ]
