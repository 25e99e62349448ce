-- The addresses of lines that were read.
use Rattle.std.proofs.Common.{◌≡◌, ℕ, ◌≤◌, Bool, true, false, cond, List, [], ◌∷◌, length, Some, None, refl, sym, ap, subst, inl, inr, arith}
use Rattle.std.specs.Prelude.{codes}
use Rattle.std.specs.Str.{bytes_eq}
use Rattle.tp_script.specs.Printed.{IsEchoed}
use Rattle.tp_script.specs.EventReaders.{event_of}
use Rattle.tp_script.specs.Script.{IsEvent, IsOff, is_passed, words_of_line}
use Rattle.tp_script.specs.declared.event.Event.{Event}
use Rattle.tp_script.specs.declared.event.Event.TheVariants.{Bad, Job, Clock, Jam, Off, On, Refill}
use Rattle.tp_script.proofs.Echoed.{whole_from}
use Rattle.tp_script.proofs.Events.{event_only}
use Rattle.tp_stream.proofs.ReadLines.{none_of, not_passed}
use Rattle.tp_farm.specs.Addresses.{IsPlain, address_of, at_words, bad_line, line_address, plain_address, without_number}

-- ---- events of words

pub echoed_of : (words : List (List ℕ)) (e : Event) → IsEvent words e → IsEchoed e
echoed_of words e h = inr (whole_from words e h)

pub some_of : (words : List (List ℕ)) (e : Event) → IsEvent words e → Some e ≡ event_of words
some_of words e h = sym (event_only words e h)

pub off_of : (words : List (List ℕ)) → IsOff words → None ≡ event_of words
off_of words h = sym (none_of (event_of words) words refl h.1)

-- a blank line and a comment have no event
pub passed_of : (words : List (List ℕ)) → is_passed words ≡ true → None ≡ event_of words
passed_of words passed = sym (none_of (event_of words) words refl (λ e is. (let open' = not_passed words e is in absurd cc)))

-- ---- addresses

pub plain_some : (line : List ℕ) (e : Event) → IsEvent (words_of_line line) e → Some (without_number (Some e)) ≡ plain_address line
plain_some line e h = rw (not_passed (words_of_line line) e h, event_only (words_of_line line) e h) refl

pub plain_none : (line : List ℕ) → is_passed (words_of_line line) ≡ true → None ≡ plain_address line
plain_none line h = rw h refl

pub plain_bad : (line : List ℕ) → IsOff (words_of_line line) → Some bad_line ≡ plain_address line
plain_bad line h = rw (h.0, none_of (event_of (words_of_line line)) (words_of_line line) refl h.1) refl

-- the word at is no event's first
at_alone : (first : List ℕ) → bytes_eq first (codes "at") ≡ true → event_of (first ∷ []) ≡ None
at_alone first e = none_of (event_of (first ∷ [])) (first ∷ []) refl (no_event first)
  where
    no_event : (first : List ℕ) (e : Event) → IsEvent (first ∷ []) e → ⊥
    no_event first Bad h = h
    no_event first (Job name tray media groups) (texts, is, more, n, t, s, m) = absurd cc
    no_event first (Clock to) (digits, is, more, n) = absurd cc
    no_event first (Jam name) (is, n) = absurd cc
    no_event first (Off name) (is, n) = absurd cc
    no_event first (On name) (is, n) = absurd cc
    no_event first (Refill name count) (digits, is, named, more, n) = absurd cc

address-plain : (count : ℕ) (words : List (List ℕ)) → is_passed words ≡ false → IsPlain words → address_of count words ≡ without_number (event_of words)
address-plain count [] passed plain = absurd cc
address-plain count (first ∷ words) passed (inr other) = rw other refl
address-plain count (first ∷ words) passed (inl none) =
    subst (λ ws. address_of count (first ∷ ws) ≡ without_number (event_of (first ∷ ws))) (sym none) (go (bytes_eq first (codes "at")) refl)
  where
    go : (b : Bool) → bytes_eq first (codes "at") ≡ b → cond b bad_line (without_number (event_of (first ∷ []))) ≡ without_number (event_of (first ∷ []))
    go true e = sym (ap without_number (at_alone first e))
    go false e = refl

pub line-plain : (count : ℕ) (line : List ℕ) → IsPlain (words_of_line line) → plain_address line ≡ line_address count line
line-plain count line plain = go (is_passed (words_of_line line)) refl
  where
    go : (b : Bool) → is_passed (words_of_line line) ≡ b
        → cond b None (Some (without_number (event_of (words_of_line line)))) ≡ cond b None (Some (address_of count (words_of_line line)))
    go true e = refl
    go false e = ap (λ a. Some a) (sym (address-plain count (words_of_line line) e plain))

-- nothing, or K alone, stands behind at
event-none : event_of [] ≡ None
unfolding event_of
event-none = refl

pub at-few : (count : ℕ) (words : List (List ℕ)) → length words ≤ 1 → bad_line ≡ at_words count words
at-few count [] few = refl
at-few count (number ∷ []) few = rw event-none refl
at-few count (number ∷ second ∷ words) few = absurd (omega (arith, few))
