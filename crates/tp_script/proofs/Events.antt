-- An event that is read is spelled so, and what is spelled so is read.
use Rattle.std.proofs.Common.{◌≡◌, inl, inr, ℕ, ◌<◌, ◌^◌, Bool, true, false, cond, ltb, List, [], ◌∷◌, length, Some, None, Err, refl, sym, ap, subst, ◌∙◌, arith}
use Rattle.std.specs.Prelude.{option_and_then, find}
use Rattle.std.specs.List.{AllZip}
use Rattle.std.specs.Str.{bytes_eq}
use Rattle.std.proofs.lemmas.Slice.Eq.{bytes_eq-Decides}
use Rattle.std.proofs.lemmas.Bool.{cases_Bool, ltb-true, lt-ltb}
use Rattle.std.proofs.lemmas.Option.{cond_some, same_Some}
use Rattle.tp_base.specs.NameText.{is_name_text}
use Rattle.tp_words.specs.Fields.{IsName}
use Rattle.tp_words.specs.Numbers.{digits_of}
use Rattle.tp_words.proofs.Steps.{and_then_some}
use Rattle.tp_words.proofs.EachFacts.{each_takes, each_again}
use Rattle.tp_words.proofs.NumberFacts.{digits_take}
use Rattle.tp_script.specs.declared.event.Event.{Event}
use Rattle.tp_script.specs.declared.event.Event.TheVariants.{Bad, Job, Clock, Jam, Off, On, Refill}
use Rattle.tp_script.specs.declared.verb.Verb.{Verb}
use Rattle.tp_script.specs.declared.verb.Verb.TheVariants as verbs
use Rattle.tp_script.specs.declared.fault.LineFault.{LineFault}
use Rattle.tp_script.specs.declared.fault.LineFault.TheVariants.{Memory, Syntax}
use Rattle.tp_script.specs.Form.{GroupForm}
use Rattle.tp_script.specs.Verbs.{verb_text, verb_of, verbs as verbs-all}
use Rattle.tp_script.specs.Script.{IsGroup, IsEvent, Reads, Writes, is_passed}
use Rattle.tp_words.specs.Fields.{name_of}
use Rattle.tp_script.specs.EventReaders.{Gives, group_of, groups_of, one_name, number_of, after_clock, after_refill, job_of, after_job, event_after, event_of}
use Rattle.tp_script.proofs.Groups.{group_takes, group_only}

-- what `find` gives passes
find_passes : {A : Type 0} (p : A → Bool) (xs : List A) (x : A) → find p xs ≡ Some x → p x ≡ true
find_passes p [] x e = absurd cc
find_passes p (y ∷ ys) x e =
    elim (cases_Bool (p y)) [
      | inl h ↦ (let f : Some y ≡ Some x = rw h at e in subst (λ z. p z ≡ true) (same_Some y x f) h)
      | inr h ↦ find_passes p ys x (rw h at e)
    ]

verb_takes : (word : List ℕ) (v : Verb) → verb_of word ≡ Some v → word ≡ verb_text v
verb_takes word v e = sym ((bytes_eq-Decides (verb_text v) word).0 (find_passes (λ v. bytes_eq (verb_text v) word) verbs-all v e))

name_takes : (word name : List ℕ) → name_of word ≡ Some name → (word ≡ name) × IsName name
unfolding name_of
name_takes word name e =
    let k = cond_some (is_name_text word) word name e in
    (k.1, subst IsName k.1 k.0)

name_again : (name : List ℕ) → IsName name → name_of name ≡ Some name
unfolding name_of
name_again name h = rw h refl

groups_take : (words : List (List ℕ)) (gs : List GroupForm) → AllZip (λ word g. group_of word ≡ Some g) words gs → AllZip IsGroup words gs
groups_take [] [] h = tt
groups_take [] (g ∷ gs) h = absurd h
groups_take (w ∷ ws) [] h = absurd h
groups_take (w ∷ ws) (g ∷ gs) h = (group_takes w g h.0, groups_take ws gs h.1)

groups_only : (words : List (List ℕ)) (gs : List GroupForm) → AllZip IsGroup words gs → AllZip (λ word g. group_of word ≡ Some g) words gs
groups_only [] [] h = tt
groups_only [] (g ∷ gs) h = absurd h
groups_only (w ∷ ws) [] h = absurd h
groups_only (w ∷ ws) (g ∷ gs) h = (group_only w g h.0, groups_only ws gs h.1)

same_job : (a b c d e f : List ℕ) (ws : List (List ℕ)) → a ≡ d → b ≡ e → c ≡ f → a ∷ b ∷ c ∷ ws ≡ d ∷ e ∷ f ∷ ws
same_job a b c d e f ws p q r = cc

job_takes : (words : List (List ℕ)) (e : Event) → after_job words ≡ Some e → IsEvent (verb_text verbs.Job ∷ words) e
unfolding after_job job_of
job_takes [] e h = absurd cc
job_takes (a ∷ []) e h = absurd cc
job_takes (a ∷ b ∷ []) e h = absurd cc
job_takes (a ∷ b ∷ c ∷ []) e h = absurd cc
job_takes (a ∷ b ∷ c ∷ w ∷ ws) e h =
    let x = and_then_some (name_of a) (λ n. option_and_then (λ t. option_and_then (λ m. option_and_then (λ gs. Some (Job n t m gs)) (groups_of (w ∷ ws))) (name_of c)) (name_of b)) e h in
    let y = and_then_some (name_of b) (λ t. option_and_then (λ m. option_and_then (λ gs. Some (Job x.0 t m gs)) (groups_of (w ∷ ws))) (name_of c)) e x.2 in
    let z = and_then_some (name_of c) (λ m. option_and_then (λ gs. Some (Job x.0 y.0 m gs)) (groups_of (w ∷ ws))) e y.2 in
    let g = and_then_some (groups_of (w ∷ ws)) (λ gs. Some (Job x.0 y.0 z.0 gs)) e z.2 in
    let n = name_takes a x.0 x.1 in
    let t = name_takes b y.0 y.1 in
    let m = name_takes c z.0 z.1 in
    let gs : AllZip IsGroup (w ∷ ws) g.0 = groups_take (w ∷ ws) g.0 (each_takes group_of (w ∷ ws) g.0 g.1) in
    let words-are : verb_text verbs.Job ∷ a ∷ b ∷ c ∷ w ∷ ws ≡ verb_text verbs.Job ∷ x.0 ∷ y.0 ∷ z.0 ∷ w ∷ ws = ap (λ v. verb_text verbs.Job ∷ v) (same_job a b c x.0 y.0 z.0 (w ∷ ws) n.0 t.0 m.0) in
    let some : 0 < length (w ∷ ws) = omega arith in
    subst (λ v. IsEvent (verb_text verbs.Job ∷ a ∷ b ∷ c ∷ w ∷ ws) v) (same_Some _ _ g.2) (w ∷ ws, words-are, n.1, t.1, m.1, some, gs)

number_takes : (text : List ℕ) (n : ℕ) → number_of text ≡ Some n → Writes 10 text n × (n < 2 ^ 32)
unfolding number_of
number_takes text n e =
    let x = and_then_some (digits_of 10 text) (λ to. cond (ltb to (2 ^ 32)) (Some to) None) n e in
    let k = cond_some (ltb x.0 (2 ^ 32)) x.0 n x.2 in
    subst (λ m. Writes 10 text m × (m < 2 ^ 32)) k.1 (digits_take 10 text x.0 x.1, ltb-true _ _ k.0)

clock_takes : (words : List (List ℕ)) (e : Event) → after_clock words ≡ Some e → IsEvent (verb_text verbs.Clock ∷ words) e
unfolding after_clock
clock_takes [] e h = absurd cc
clock_takes (a ∷ b ∷ ws) e h = absurd cc
clock_takes (a ∷ []) e h =
    let x = and_then_some (number_of a) (λ to. Some (Clock to)) e h in
    let n = number_takes a x.0 x.1 in
    subst (λ v. IsEvent (verb_text verbs.Clock ∷ a ∷ []) v) (same_Some _ _ x.2) (a, refl, n.0, n.1)

same_refill : (a b d : List ℕ) → a ≡ b → verb_text verbs.Refill ∷ a ∷ d ∷ [] ≡ verb_text verbs.Refill ∷ b ∷ d ∷ []
same_refill a b d p = cc

refill_takes : (words : List (List ℕ)) (e : Event) → after_refill words ≡ Some e → IsEvent (verb_text verbs.Refill ∷ words) e
unfolding after_refill
refill_takes [] e h = absurd cc
refill_takes (a ∷ []) e h = absurd cc
refill_takes (a ∷ b ∷ c ∷ ws) e h = absurd cc
refill_takes (a ∷ b ∷ []) e h =
    let x = and_then_some (name_of a) (λ n. option_and_then (λ count. Some (Refill n count)) (number_of b)) e h in
    let y = and_then_some (number_of b) (λ count. Some (Refill x.0 count)) e x.2 in
    let name = name_takes a x.0 x.1 in
    let n = number_takes b y.0 y.1 in
    subst (λ v. IsEvent (verb_text verbs.Refill ∷ a ∷ b ∷ []) v) (same_Some _ _ y.2) (b, same_refill a x.0 b name.0, name.1, n.0, n.1)

one_takes : (words : List (List ℕ)) (name : List ℕ) → one_name words ≡ Some name → (words ≡ name ∷ []) × IsName name
unfolding one_name
one_takes [] name h = absurd cc
one_takes (a ∷ b ∷ ws) name h = absurd cc
one_takes (a ∷ []) name h = (let n = name_takes a name h in (ap (λ x. x ∷ []) n.0, n.1))

after_takes : (v : Verb) (words : List (List ℕ)) (e : Event) → event_after v words ≡ Some e → IsEvent (verb_text v ∷ words) e
unfolding event_after
after_takes verbs.Job words e h = job_takes words e h
after_takes verbs.Clock words e h = clock_takes words e h
after_takes verbs.Jam words e h =
    let x = and_then_some (one_name words) (λ n. Some (Jam n)) e h in
    let n = one_takes words x.0 x.1 in
    subst (λ v. IsEvent (verb_text verbs.Jam ∷ words) v) (same_Some _ _ x.2) (ap (λ ws. verb_text verbs.Jam ∷ ws) n.0, n.1)
after_takes verbs.Off words e h =
    let x = and_then_some (one_name words) (λ n. Some (Off n)) e h in
    let n = one_takes words x.0 x.1 in
    subst (λ v. IsEvent (verb_text verbs.Off ∷ words) v) (same_Some _ _ x.2) (ap (λ ws. verb_text verbs.Off ∷ ws) n.0, n.1)
after_takes verbs.On words e h =
    let x = and_then_some (one_name words) (λ n. Some (On n)) e h in
    let n = one_takes words x.0 x.1 in
    subst (λ v. IsEvent (verb_text verbs.On ∷ words) v) (same_Some _ _ x.2) (ap (λ ws. verb_text verbs.On ∷ ws) n.0, n.1)
after_takes verbs.Refill words e h = refill_takes words e h

pub event_takes : (words : List (List ℕ)) (e : Event) → event_of words ≡ Some e → IsEvent words e
unfolding event_of
event_takes [] e h = absurd cc
event_takes (first ∷ others) e h =
    let x = and_then_some (verb_of first) (λ v. event_after v others) e h in
    rw (verb_takes first x.0 x.1) (after_takes x.0 others e x.2)

-- the other way
job_only : (texts : List (List ℕ)) (n t m : List ℕ) (gs : List GroupForm) → IsName n → IsName t → IsName m → 0 < length texts → AllZip IsGroup texts gs → after_job (n ∷ t ∷ m ∷ texts) ≡ Some (Job n t m gs)
unfolding after_job job_of
job_only [] n t m gs name tray media some all = absurd (omega arith)
job_only (w ∷ ws) n t m gs name tray media some all =
    rw (name_again n name, name_again t tray, name_again m media, each_again group_of (w ∷ ws) gs (groups_only (w ∷ ws) gs all)) refl

pub event_only : (words : List (List ℕ)) (e : Event) → IsEvent words e → event_of words ≡ Some e
unfolding event_of event_after after_job job_of after_clock after_refill number_of one_name digits_of
event_only words Bad h = absurd h
event_only words (Job n t m gs) (texts, is, name, tray, media, some, all) = rw is (job_only texts n t m gs name tray media some all)
event_only words (Clock to) (digits, is, writes, below) = rw (is, writes.0, writes.1, lt-ltb to (2 ^ 32) below) refl
event_only words (Jam n) (is, name) = rw (is, name_again n name) refl
event_only words (Off n) (is, name) = rw (is, name_again n name) refl
event_only words (On n) (is, name) = rw (is, name_again n name) refl
event_only words (Refill n count) (digits, is, name, writes, below) =
    rw (is, name_again n name, writes.0, writes.1, lt-ltb count (2 ^ 32) below) refl

pub reads_fault : (words : List (List ℕ)) (fault : LineFault) → is_passed words ≡ false → Gives {X = Event} (Err fault) (event_of words) → Reads words (Err fault)
reads_fault words Memory not_passed h = tt
reads_fault words Syntax not_passed h = (not_passed, λ e is. (let k = event_only words e is in cc))

-- no line gives two events
pub one_event : (words : List (List ℕ)) (e f : Event) → IsEvent words e → IsEvent words f → e ≡ f
one_event words e f p q = same_Some e f (sym (event_only words e p) ∙ event_only words f q)
