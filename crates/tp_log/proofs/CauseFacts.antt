-- Causes: what is read is spelled so, and what is spelled so is read.
use Rattle.std.proofs.Common.{◌≡◌, inl, inr, ℕ, Bool, true, List, [], ◌∷◌, Some, refl, sym, ap, subst}
use Rattle.std.specs.Prelude.{option_map, find}
use Rattle.std.specs.Str.{bytes_eq}
use Rattle.std.proofs.lemmas.Bool.{cases_Bool}
use Rattle.std.proofs.lemmas.Option.{same_Some}
use Rattle.std.proofs.lemmas.Slice.Eq.{bytes_eq-Decides}
use Rattle.tp_words.proofs.Steps.{and_then_some}
use Rattle.tp_words.proofs.SpelledWords.{Tells, name_spells, number_spells}
use Rattle.tp_words.proofs.Texts.{AllVisible, name_visible, number_visible}
use Rattle.tp_schedule.specs.declared.records.Cause.{Cause}
use Rattle.tp_schedule.specs.declared.records.Cause.TheVariants.{Syntax, Tray, Media, Named, Waiting, Back, End, «Module», Out, NotOn, Feeder, Endless, Stock}
use Rattle.tp_log.specs.declared.cause_word.CauseWord.{CauseWord}
use Rattle.tp_log.specs.declared.cause_word.CauseWord.TheVariants as reasons
use Rattle.tp_log.specs.Headings.{reason_text, reason_of, reasons as all_reasons}
use Rattle.tp_log.specs.Records.{cause_words}
use Rattle.tp_log.specs.Grammar.{IsCause}
use Rattle.tp_log.specs.RecordReaders.{bare_of, cause_after, cause_of}
use Rattle.tp_log.proofs.Forms.{one_again, one_made}

pub find_passes : {A : Type 0} (p : A → Bool) (xs : List A) (x : A) → find p xs ≡ Some x → p x ≡ true
find_passes p [] x e = absurd cc
find_passes p (y ∷ ys) x e =
    elim (cases_Bool (p y)) [
      | inl h ↦ (let f : Some y ≡ Some x = rw h at e in subst (λ z. p z ≡ true) (same_Some y x f) h)
      | inr h ↦ find_passes p ys x (rw h at e)
    ]

reason_takes : (word : List ℕ) (r : CauseWord) → reason_of word ≡ Some r → word ≡ reason_text r
reason_takes word r e = sym ((bytes_eq-Decides (reason_text r) word).0 (find_passes (λ r. bytes_eq (reason_text r) word) all_reasons r e))

bare_made : (cause : Cause) (head : List ℕ) → cause_words cause ≡ head ∷ [] → IsCause cause → (words : List (List ℕ)) (c : Cause) → bare_of cause words ≡ Some c → Tells cause_words IsCause (head ∷ words) c
unfolding bare_of
bare_made cause head same is [] c e = subst (λ c. Tells cause_words IsCause (head ∷ []) c) (same_Some cause c e) (sym same, is)
bare_made cause head same is (w ∷ ws) c e = absurd cc

after_takes : (r : CauseWord) (words : List (List ℕ)) (c : Cause) → cause_after r words ≡ Some c → Tells cause_words IsCause (reason_text r ∷ words) c
unfolding cause_after
after_takes reasons.Syntax words c e = bare_made Syntax (reason_text reasons.Syntax) refl tt words c e
after_takes reasons.Tray words c e = one_made cause_words IsCause name_spells (λ n. Tray n) (reason_text reasons.Tray) (λ n. refl) (λ n h. h) words c e
after_takes reasons.Media words c e = one_made cause_words IsCause name_spells (λ n. Media n) (reason_text reasons.Media) (λ n. refl) (λ n h. h) words c e
after_takes reasons.Named words c e = one_made cause_words IsCause name_spells (λ n. Named n) (reason_text reasons.Named) (λ n. refl) (λ n h. h) words c e
after_takes reasons.Waiting words c e = bare_made Waiting (reason_text reasons.Waiting) refl tt words c e
after_takes reasons.Back words c e = one_made cause_words IsCause number_spells (λ n. Back n) (reason_text reasons.Back) (λ n. refl) (λ n h. h) words c e
after_takes reasons.End words c e = bare_made End (reason_text reasons.End) refl tt words c e
after_takes reasons.«Module» words c e = one_made cause_words IsCause name_spells (λ n. «Module» n) (reason_text reasons.«Module») (λ n. refl) (λ n h. h) words c e
after_takes reasons.Out words c e = one_made cause_words IsCause name_spells (λ n. Out n) (reason_text reasons.Out) (λ n. refl) (λ n h. h) words c e
after_takes reasons.NotOn words c e = one_made cause_words IsCause name_spells (λ n. NotOn n) (reason_text reasons.NotOn) (λ n. refl) (λ n h. h) words c e
after_takes reasons.Feeder words c e = one_made cause_words IsCause name_spells (λ n. Feeder n) (reason_text reasons.Feeder) (λ n. refl) (λ n h. h) words c e
after_takes reasons.Endless words c e = one_made cause_words IsCause name_spells (λ n. Endless n) (reason_text reasons.Endless) (λ n. refl) (λ n h. h) words c e
after_takes reasons.Stock words c e = one_made cause_words IsCause name_spells (λ n. Stock n) (reason_text reasons.Stock) (λ n. refl) (λ n h. h) words c e

pub cause_takes : (words : List (List ℕ)) (c : Cause) → cause_of words ≡ Some c → Tells cause_words IsCause words c
unfolding cause_of
cause_takes [] c e = absurd cc
cause_takes (first ∷ words) c e =
    let r = and_then_some (reason_of first) (λ r. cause_after r words) c e in
    rw (reason_takes first r.0 r.1) (after_takes r.0 words c r.2)

pub cause_again : (c : Cause) → IsCause c → cause_of (cause_words c) ≡ Some c
unfolding cause_of cause_after bare_of
cause_again Syntax h = refl
cause_again (Tray n) h = ap (option_map (λ n. Tray n)) (one_again name_spells n h)
cause_again (Media n) h = ap (option_map (λ n. Media n)) (one_again name_spells n h)
cause_again (Named n) h = ap (option_map (λ n. Named n)) (one_again name_spells n h)
cause_again Waiting h = refl
cause_again (Back n) h = ap (option_map (λ n. Back n)) (one_again number_spells n h)
cause_again End h = refl
cause_again («Module» n) h = ap (option_map (λ n. «Module» n)) (one_again name_spells n h)
cause_again (Out n) h = ap (option_map (λ n. Out n)) (one_again name_spells n h)
cause_again (NotOn n) h = ap (option_map (λ n. NotOn n)) (one_again name_spells n h)
cause_again (Feeder n) h = ap (option_map (λ n. Feeder n)) (one_again name_spells n h)
cause_again (Endless n) h = ap (option_map (λ n. Endless n)) (one_again name_spells n h)
cause_again (Stock n) h = ap (option_map (λ n. Stock n)) (one_again name_spells n h)

pub cause_visible : (c : Cause) → IsCause c → AllVisible (cause_words c)
cause_visible Syntax h = (refl, tt)
cause_visible (Tray n) h = (refl, (name_visible n h, tt))
cause_visible (Media n) h = (refl, (name_visible n h, tt))
cause_visible (Named n) h = (refl, (name_visible n h, tt))
cause_visible Waiting h = (refl, tt)
cause_visible (Back n) h = (refl, (number_visible n h, tt))
cause_visible End h = (refl, tt)
cause_visible («Module» n) h = (refl, (name_visible n h, tt))
cause_visible (Out n) h = (refl, (name_visible n h, tt))
cause_visible (NotOn n) h = (refl, (name_visible n h, tt))
cause_visible (Feeder n) h = (refl, (name_visible n h, tt))
cause_visible (Endless n) h = (refl, (name_visible n h, tt))
cause_visible (Stock n) h = (refl, (name_visible n h, tt))
