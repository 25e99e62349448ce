-- The event of a line that was read.
use Rattle.std.proofs.Common.{◌≡◌, ℕ, false, List, Option, Some, None, inl, inr, refl, sym}
use Rattle.tp_script.specs.EventReaders.{event_of}
use Rattle.tp_script.specs.Script.{IsEvent, IsOff, is_passed, words_of_line}
use Rattle.tp_script.specs.declared.event.Event.{Event}
use Rattle.tp_script.specs.declared.event.Event.TheVariants.{Bad, Job, Clock, Jam, Off, On, Refill}
use Rattle.tp_script.proofs.Echoed.{whole_from}
use Rattle.tp_script.proofs.Events.{event_only, event_takes}
use Rattle.tp_stream.specs.Scripts.{ReadsEvent}

pub not_passed : (words : List (List ℕ)) (e : Event) → IsEvent words e → is_passed words ≡ false
not_passed words Bad h = absurd h
not_passed words (Job name tray media groups) h = rw h.1 refl
not_passed words (Clock to) h = rw h.1 refl
not_passed words (Jam name) h = rw h.0 refl
not_passed words (Off name) h = rw h.0 refl
not_passed words (On name) h = rw h.0 refl
not_passed words (Refill name count) h = rw h.1 refl

pub reads_some : (line : List ℕ) (e : Event) → IsEvent (words_of_line line) e → ReadsEvent line (Some e)
reads_some line e h = (rw (not_passed (words_of_line line) e h, event_only (words_of_line line) e h) refl, inr (whole_from (words_of_line line) e h))

pub none_of : (o : Option Event) (words : List (List ℕ)) → o ≡ event_of words → ((e : Event) → IsEvent words e → ⊥) → event_of words ≡ None
none_of None words e off = sym e
none_of (Some x) words e off = absurd (off x (event_takes words x (sym e)))

pub reads_bad : (line : List ℕ) → IsOff (words_of_line line) → ReadsEvent line (Some Bad)
reads_bad line h = (rw (h.0, none_of (event_of (words_of_line line)) (words_of_line line) refl h.1) refl, inl refl)
