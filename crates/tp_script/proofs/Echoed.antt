-- An event that is read and printed the same is the one that was printed.
use Rattle.std.proofs.Common.{◌≡◌, ◌≢◌, inl, inr, ℕ, suc, Bool, true, false, eqb, List, [], ◌∷◌, length, Err, refl, sym, ap, subst, ◌∙◌, arith}
use Rattle.std.specs.Prelude.{codes}
use Rattle.std.specs.Cmp.Lexicographic.{pointwise}
use Rattle.std.proofs.lemmas.Slice.Eq.{slice_eq-Decides}
use Rattle.std.proofs.lemmas.Bool.Decides.{Decides-eqb}
use Rattle.std.specs.List.{AllZip, AllByRecursion}
use Rattle.tp_script.specs.declared.event.Event.{Event}
use Rattle.tp_script.specs.declared.event.Event.TheVariants.{Bad, Job, Clock, Jam, Off, On, Refill}
use Rattle.tp_script.specs.declared.fault.LineFault.{LineFault}
use Rattle.tp_script.specs.declared.fault.LineFault.TheVariants.{Memory, Syntax}
use Rattle.tp_script.specs.Form.{GroupForm}
use Rattle.tp_script.specs.Script.{IsGroup, IsEvent, IsOff, Reads, is_passed, bare, event_words, event_text, words_of_line}
use Rattle.tp_script.specs.Printed.{IsCounted, IsWhole, IsEchoed, Echoes}
use Rattle.tp_script.proofs.Events.{one_event}
use Rattle.tp_script.proofs.Printed.{event_printed, words-bare}

counted : (word : List ℕ) (g : GroupForm) → IsGroup word g → IsCounted g
counted word g (inl (one, is)) = (omega (arith, one), omega (arith, one))
counted word g (inr (count, writes, low, high, is)) = (low, high)

pub all_counted : (words : List (List ℕ)) (gs : List GroupForm) → AllZip IsGroup words gs → AllByRecursion IsCounted gs × (length gs ≡ length words)
all_counted [] [] h = (tt, refl)
all_counted [] (g ∷ gs) h = absurd h
all_counted (w ∷ ws) [] h = absurd h
all_counted (w ∷ ws) (g ∷ gs) h = (let k = all_counted ws gs h.1 in ((counted w g h.0, k.0), ap suc k.1))

pub whole_from : (words : List (List ℕ)) (e : Event) → IsEvent words e → IsWhole e
whole_from words Bad h = h
whole_from words (Job n t m gs) (texts, is, name, tray, media, some, all) = (let k = all_counted texts gs all in (name, tray, media, omega (arith, k.1, some), k.0))
whole_from words (Clock to) (digits, is, writes, below) = below
whole_from words (Jam n) (is, name) = name
whole_from words (Off n) (is, name) = name
whole_from words (On n) (is, name) = name
whole_from words (Refill n count) (digits, is, name, writes, below) = (name, below)

printed_in : (e : Event) → IsWhole e → IsEvent (words_of_line (event_text e)) e
printed_in e h = rw (words-bare e h) (event_printed e h)

not_passed : (e : Event) → IsWhole e → is_passed (words_of_line (event_text e)) ≡ false
not_passed e h = rw (words-bare e h) (head e h)
  where
    head : (e : Event) → IsWhole e → is_passed (event_words e) ≡ false
    head Bad h = absurd h
    head (Job n t m gs) h = refl
    head (Clock to) h = refl
    head (Jam n) h = refl
    head (Off n) h = refl
    head (On n) h = refl
    head (Refill n count) h = refl

-- the line `?` alone is Bad's
pub only_bad : (text : List ℕ) → text ≢ codes "?" → (e : Event) → IsEchoed e → text ≡ event_text e → IsWhole e
only_bad text other e (inl bad) is = absurd (other (is ∙ ap event_text bad))
only_bad text other e (inr whole) is = whole

pub not_off : (text : List ℕ) → text ≢ codes "?" → IsOff (words_of_line text) → (e : Event) → IsEchoed e → text ≢ event_text e
not_off text other off e echoed is =
    let whole = only_bad text other e echoed is in
    off.1 e (rw is (printed_in e whole))

pub not_blank : (text : List ℕ) → text ≢ codes "?" → is_passed (words_of_line text) ≡ true → (e : Event) → IsEchoed e → text ≢ event_text e
not_blank text other passed e echoed is =
    let whole = only_bad text other e echoed is in
    let no_pass : is_passed (words_of_line text) ≡ false = rw is (not_passed e whole) in
    cc

pub not_same : (text : List ℕ) → text ≢ codes "?" → (f : Event) → IsEvent (words_of_line text) f → event_text f ≢ text → (e : Event) → IsEchoed e → text ≢ event_text e
not_same text other f read differs e echoed is =
    let whole = only_bad text other e echoed is in
    let printed : IsEvent (words_of_line text) e = rw is (printed_in e whole) in
    let same : f ≡ e = one_event (words_of_line text) f e read printed in
    differs (ap event_text same ∙ sym is)

pub echo_fault : (text : List ℕ) (fault : LineFault) → text ≢ codes "?" → Reads (words_of_line text) (Err fault) → Echoes text (Err fault)
echo_fault text Memory other h = tt
echo_fault text Syntax other h = not_off text other h

pub other_text : (text star : List ℕ) (r : Bool) → r ≡ pointwise eqb text star → r ≡ false → star ≡ codes "?" → text ≢ codes "?"
other_text text star r is no_eq literal same = (let k = (slice_eq-Decides Decides-eqb text star r is).1 (same ∙ sym literal) in cc)

pub differs_from : (text out : List ℕ) (r : Bool) → r ≡ pointwise eqb out text → r ≡ false → out ≢ text
differs_from text out r is no_eq same = (let k = (slice_eq-Decides Decides-eqb out text r is).1 same in cc)

pub same_from : (text out : List ℕ) (r : Bool) → r ≡ pointwise eqb out text → r ≡ true → out ≡ text
same_from text out r is eq = (slice_eq-Decides Decides-eqb out text r is).0 eq

question_words : words_of_line (codes "?") ≡ codes "?" ∷ []
unfolding bare
question_words = refl

not_question : (e : Event) → IsEvent (codes "?" ∷ []) e → ⊥
not_question Bad h = h
not_question (Job n t m gs) h = (let is = h.1 in absurd cc)
not_question (Clock to) h = (let is = h.1 in absurd cc)
not_question (Jam n) h = (let is = h.0 in absurd cc)
not_question (Off n) h = (let is = h.0 in absurd cc)
not_question (On n) h = (let is = h.0 in absurd cc)
not_question (Refill n count) h = (let is = h.1 in absurd cc)

-- no event is printed as `?` but Bad
no_question : (e : Event) → IsWhole e → event_text e ≢ codes "?"
no_question e h same =
    let spelled : IsEvent (words_of_line (codes "?")) e = subst (λ text. IsEvent (words_of_line text) e) same (printed_in e h) in
    not_question e (subst (λ words. IsEvent words e) question_words spelled)

pub same_event : (e f : Event) → IsEchoed e → IsEchoed f → event_text e ≡ event_text f → e ≡ f
same_event e f (inl bad) (inl bad') same = bad ∙ sym bad'
same_event e f (inl bad) (inr whole) same = absurd (no_question f whole (sym same ∙ ap event_text bad))
same_event e f (inr whole) (inl bad) same = absurd (no_question e whole (same ∙ ap event_text bad))
same_event e f (inr whole) (inr whole') same =
    one_event (words_of_line (event_text f)) e f (subst (λ text. IsEvent (words_of_line text) e) same (printed_in e whole)) (printed_in f whole')
