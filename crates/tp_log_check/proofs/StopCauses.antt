-- Why not all lines were fed.
use Rattle.std.proofs.Common.{◌≡◌, inl, ℕ, ◌+◌, ◌<◌, List, [], ◌∷◌, ◌++◌, length, take, Option, Some, refl, sym, subst, ◌∙◌, arith}
use Rattle.std.specs.Prelude.{IfSome}
use Rattle.tp_outside.specs.PartialTransfer.{IsCutShort}
use Rattle.tp_log_check.specs.Lawful.{IsLawfulLog}
use Rattle.tp_log_check.specs.declared.flaw.Flaw.{Flaw}
use Rattle.tp_machine.specs.declared.machine.Machine.{Machine}
use Rattle.tp_stream.specs.Takes.{IsReadFrom, NextLine, Place, Stops, StopsBefore, Takes, place_of}
use Rattle.tp_stream.specs.declared.stop.Stop.{Stop}
use Rattle.tp_stream.specs.declared.stop.Stop.TheVariants as stop
use Rattle.tp_words.specs.Texts.{lines_of}
use Rattle.tp_log_check.specs.declared.rejection.Rejection.{Rejection}
use Rattle.tp_log_check.specs.declared.rejection.Rejection.TheVariants.{Memory, Source, Line, Log, Flaw as Flawed}
use Rattle.tp_log_check.specs.Ends.{BeginsNone, IsCaused, StopsAt, StopsFor, StopsFrom}
use Rattle.tp_log_check.specs.Sizes.{IsPastSizes, event_lines, events_in, line_bytes, most_lines}
use Rattle.tp_log_check.specs.TakenLines.{Answers, IsFlawed, LogState, RefusesLine}
use Rattle.tp_log_check.proofs.FedInTurn.{HasTakenText, IsAtStart, feeds-all, taken-text}
use Rattle.tp_log_check.proofs.UnlawfulStarts.{begins-none}
use Rattle.tp_log_check.proofs.FedLines.{few_lines}

-- no line is refused without a text
abbrev pub NoRefusal : LogState → List ℕ → Type 0
NoRefusal s line = ⊥

-- the cause that a stop tells
abbrev pub AsCause : Stop → LogState → (Rejection → Type 0) → Type 0
AsCause stop.Memory s P = Unit {0}
AsCause stop.Refused s P = ⊥
AsCause stop.Source s P = P Source
AsCause stop.Sink s P = (cause : Rejection) × (s.found ≡ Some cause) × P cause
AsCause (stop.Line n) s P = P (Line n)
AsCause stop.Lines s P = ⊥

-- why a line is refused, by what stands before it
module _ (machine : Machine) (at : LogState) (done rest : List ℕ) (left left' : Option (List ℕ)) (h : HasTakenText machine at done) (next : NextLine line_bytes left left' rest) where
  -- no lawful log begins with the lines up to the flaw
  none-begins : (flaw : Flaw) → IsFlawed at next.line flaw h.by.told → BeginsNone machine (lines_of done ++ next.line ∷ [])
  none-begins flaw w =
      begins-none machine done next.line h.by.told h.by.known h.by.lines (λ told more is lawful.
      w.none told more is (subst (λ m. IsLawfulLog m (h.by.told ++ told ∷ more)) (sym h.same_machine) lawful))

  why-refused : (cause : Rejection) → RefusesLine at next.line cause → StopsAt machine left left' done rest cause
  why-refused Memory w = absurd w
  why-refused Source w = absurd w
  why-refused (Line n) w = absurd w
  why-refused Log w = record {
    next = next;
    past = subst (λ bytes. IsPastSizes (bytes + length next.line) (event_lines done + events_in next.line)) h.bytes
        (subst (λ events. IsPastSizes (at.bytes + length next.line) (events + events_in next.line)) h.events w);
  }
  why-refused (Flawed f) w =
      let bytes = h.bytes in
      let events = h.events in
      let few_bytes = w.0.bytes in
      let few_events = w.0.events in
      let off = w.2 h.by.told h.by.read in (
        w.1,
        inl (record {
          next = next;
          bytes = omega (arith, bytes, few_bytes);
          events = omega (arith, events, few_events);
          told = h.by.told;
          lines = h.by.lines;
          lies = off.lies;
          none = none-begins f off;
        }),
      )

  -- and a flaw for what it tells
  why-caused : (cause : Rejection) → RefusesLine at next.line cause → IsCaused at.checker cause
  why-caused (Flawed f) w = (w.2 h.by.told h.by.read).caused
  why-caused Memory w = tt
  why-caused Source w = tt
  why-caused (Line n) w = tt
  why-caused Log w = tt

no-told : (before told : List ℕ) → Some [] ≡ Some (before ++ told) → before ≡ []
no-told [] told e = refl
no-told (b ∷ before) told e = absurd cc

module _ (left left' : Option (List ℕ)) (s s' : LogState) (text : List ℕ) (start : IsAtStart s) (rest : List ℕ) (at : Place LogState) (takes : Takes Answers line_bytes (place_of s 0 (Some [])) text rest at) where
  done-so-far : takes.text ≡ [] → HasTakenText s.checker.machine at.state takes.done
  done-so-far none = taken-text s at.state takes.done start (feeds-all (lines_of takes.done) takes.text s at.state takes.answered none)

  stops-for : (cause : Rejection) → HasTakenText s.checker.machine at.state takes.done → StopsAt s.checker.machine left left' takes.done rest cause → IsCaused at.state.checker cause
      → StopsFor s.checker.machine left left' text cause
  stops-for cause h w caused =
      let bytes = h.bytes in
      let events = h.events in
      let few_bytes = h.few_bytes in
      let few_events = h.few_events in
      record {
        done = takes.done;
        rest = rest;
        parts = takes.bytes_are;
        whole = takes.whole;
        sizes = record { lines = takes.fit; bytes = omega (arith, bytes, few_bytes); events = omega (arith, events, few_events) };
        taken = (at.state.checker, h.same_machine, h.by);
        stops = w;
        caused = caused;
      }

  silent : Some [] ≡ at.taken → takes.text ≡ []
  silent same = (let e : Some [] ≡ Some ([] ++ takes.text) = same ∙ takes.written in cc)

  pub stopped : (why : Stop) → StopsBefore Answers NoRefusal line_bytes most_lines left left' why rest at s' (Some []) → AsCause why s' (StopsFor s.checker.machine left left' text)
  stopped stop.Memory h = tt
  stopped stop.Refused h = h.0.refused
  stopped stop.Source h = stops-for Source (done-so-far (silent h.1)) h.0 tt
  stopped stop.Sink h = go h.told h.answered (cut takes.written)
    where
      -- nothing was reported before this line, and of it something is
      cut : at.taken ≡ Some ([] ++ takes.text) → (takes.text ≡ []) × (0 < length h.told)
      cut e =
          let k = subst (λ o. IfSome o (IsCutShort h.told (Some []))) e h.cut in
          (no-told takes.text (take k.count h.told) k.taken, omega (arith, k.short))

      go : (told : List ℕ) → Answers at.state h.next.line told s' → (takes.text ≡ []) × (0 < length told) → AsCause stop.Sink s' (StopsFor s.checker.machine left left' text)
      go [] answered k = absurd (let short = k.1 in omega (arith, short))
      go (b ∷ told) (cause, found, refused) k =
          let before = done-so-far k.0 in (
            cause,
            found,
            stops-for cause before (why-refused s.checker.machine at.state takes.done rest left left' before h.next cause refused)
                (why-caused s.checker.machine at.state takes.done rest left left' before h.next cause refused),
          )
  stopped (stop.Line n) h =
      let count = takes.counted in
      stops-for (Line n) (done-so-far (silent h.2)) (h.0, (let n_is = h.1 in omega (arith, n_is, count))) tt
  stopped stop.Lines h =
      let before = done-so-far (silent h.2) in
      let count = takes.counted in
      let all = h.0 in
      let bytes = before.bytes in
      let few = before.few_bytes in
      omega (arith, count, all, bytes, few, few_lines takes.done)

-- the first lines were fed, up to the cause
pub stops-so : (left left' : Option (List ℕ)) (s s' : LogState) (text : List ℕ) (why : Stop) → IsAtStart s → Stops Answers NoRefusal line_bytes most_lines left left' (place_of s 0 (Some [])) text why s' (Some [])
    → AsCause why s' (StopsFor s.checker.machine left left' text)
stops-so left left' s s' text why start h = stopped left left' s s' text start h.rest h.at h.takes why h.stops

-- a cause that is known is reported of what the source gave
pub stops-from : (machine : Machine) (left left' : Option (List ℕ)) (cause : Rejection) (text : List ℕ) → IsReadFrom left text left' → StopsFor machine left left' text cause → StopsFrom machine left left' cause
stops-from machine left left' Memory text read stops = tt
stops-from machine left left' cause text read stops = (text, read, stops)
