-- Lines that were fed one after another.
use Rattle.std.proofs.Common.{◌≡◌, ◌↔◌, inl, inr, ℕ, ◌+◌, ◌<◌, ◌≤◌, Bool, true, false, cond, List, [], ◌∷◌, ◌++◌, length, map, Some, refl, sym, ap, subst, ◌∙◌, arith, append_assoc, length-append}
use Rattle.std.specs.List.{AllByRecursion, count_by}
use Rattle.std.specs.Prelude.{IsTrue}
use Rattle.std.proofs.lemmas.List.{append-nil}
use Rattle.std.proofs.lemmas.List.Elements.{All-from_recursion}
use Rattle.std.proofs.lemmas.List.Sums.{sum_by-cons}
use Rattle.tp_log.specs.LogLines.{IsLogLine, log_line_text}
use Rattle.tp_log.specs.declared.log_line.LogLine.{LogLine}
use Rattle.tp_log_check.specs.CheckerState.{HasRead}
use Rattle.tp_log_check.specs.CheckerState as check
use Rattle.tp_machine.specs.declared.machine.Machine.{Machine}
use Rattle.tp_stream.specs.Answers.{AnswersAll}
use Rattle.tp_stream.specs.Takes.{TakesAll, place_of}
use Rattle.tp_words.specs.Texts.{lines_of}
use Rattle.tp_log_check.specs.Ends.{IsFresh, IsTakenBy}
use Rattle.tp_log_check.specs.Sizes.{IsPastSizes, KeepsSizes, begins_event, events_in, line_bytes, most_bytes, most_events, most_lines}
use Rattle.tp_log_check.specs.TakenLines.{Answers, LogState, TakesLine}
use Rattle.tp_log_check.proofs.FedLines.{begins, joined, joined_lines}

-- ---- one line

-- where the sizes are not passed they are kept
pub kept-sizes : (past : Bool) (bytes events : ℕ) → IsTrue past ↔ IsPastSizes bytes events → past ≡ false → (bytes ≤ most_bytes) × (events ≤ most_events)
kept-sizes past bytes events exact none =
    let no : IsTrue past → ⊥ = λ is. (let e : true ≡ false = sym is ∙ none in absurd cc) in
    let no_bytes : most_bytes < bytes → ⊥ = λ more. no (exact.1 (inl more)) in
    let no_events : most_events < events → ⊥ = λ more. no (exact.1 (inr more)) in
    (omega (arith, no_bytes), omega (arith, no_events))

-- a line begins with `> ` just where it is an event's
pub events-of : (line : List ℕ) (told : LogLine) → line ≡ log_line_text told → check.events_in told ≡ events_in line
events-of line told text = ap (λ b. cond b 1 0) (sym (ap begins_event text ∙ begins told))

-- ---- one line after another

-- from one state to another the lines were taken
pub record Feeds (s : LogState) (lines : List (List ℕ)) (s' : LogState) : Type 0 where
  pub told : List LogLine
  pub known : AllByRecursion IsLogLine told
  pub are : lines ≡ map log_line_text told
  pub reads : (before : List LogLine) → HasRead s.checker before → HasRead s'.checker (before ++ told)
  pub same_machine : s'.checker.machine ≡ s.checker.machine
  pub bytes : s'.bytes ≡ s.bytes + length (joined lines)
  pub events : s'.checker.events ≡ s.checker.events + count_by begins_event lines
  pub few_bytes : s.bytes ≤ most_bytes → s'.bytes ≤ most_bytes
  pub few_events : s.checker.events ≤ most_events → s'.checker.events ≤ most_events

feeds-none : (s : LogState) → Feeds s [] s
feeds-none s = record {
  told = [];
  known = tt;
  are = refl;
  reads = λ before h. subst (HasRead s.checker) (sym (append-nil before)) h;
  same_machine = refl;
  bytes = omega arith;
  events = omega arith;
  few_bytes = λ h. h;
  few_events = λ h. h;
}

feeds-more : (s mid s' : LogState) (line : List ℕ) (lines : List (List ℕ)) → TakesLine s line mid → Feeds mid lines s' → Feeds s (line ∷ lines) s'
feeds-more s mid s' line lines h k =
    let counted : count_by begins_event (line ∷ lines) ≡ events_in line + count_by begins_event lines = sum_by-cons events_in line lines in
    record {
      told = h.told ∷ k.told;
      known = (h.is_line, k.known);
      are = ap (λ l. l ∷ lines) h.text ∙ ap (λ ls. log_line_text h.told ∷ ls) k.are;
      reads = λ before r. subst (HasRead s'.checker) (append_assoc before (h.told ∷ []) k.told) (k.reads (before ++ h.told ∷ []) (h.reads before r));
      same_machine = k.same_machine ∙ h.machine;
      bytes = let a = h.bytes in let b = k.bytes in omega (arith, a, b, length-append line (joined lines));
      events = let a = h.events in let b = k.events in omega (arith, a, b, counted);
      few_bytes = λ few. k.few_bytes (let a = h.bytes in let b = h.sizes.bytes in omega (arith, a, b));
      few_events = λ few. k.few_events (let a = h.events in let b = h.sizes.events in omega (arith, a, b));
    }

-- where no text is reported, all lines are taken
pub feeds-all : (lines : List (List ℕ)) (text : List ℕ) (s s' : LogState) → AnswersAll Answers s lines text s' → text ≡ [] → Feeds s lines s'
feeds-all [] text s s' h none = subst (λ x. Feeds s [] x) (sym h.1) (feeds-none s)
feeds-all (line ∷ lines) text s s' (told, (mid, (rest, one, others, same))) none = go told one (sym same ∙ none) (feeds-all lines rest mid s' others)
  where
    go : (told : List ℕ) → Answers s line told mid → told ++ rest ≡ [] → (rest ≡ [] → Feeds mid lines s') → Feeds s (line ∷ lines) s'
    go [] taken empty later = feeds-more s mid s' line lines taken (later empty)
    go (b ∷ told) taken empty later = absurd cc

-- ---- from the start

pub record IsAtStart (s : LogState) : Type 0 where
  pub fresh : IsFresh s.checker
  pub bytes : s.bytes ≡ 0

-- what was taken of a text
pub record HasTakenText (machine : Machine) (s : LogState) (text : List ℕ) : Type 0 where
  pub by : IsTakenBy s.checker text
  pub same_machine : s.checker.machine ≡ machine
  pub bytes : s.bytes ≡ length text
  pub events : s.checker.events ≡ count_by begins_event (lines_of text)
  pub few_bytes : s.bytes ≤ most_bytes
  pub few_events : s.checker.events ≤ most_events

pub taken-text : (s s' : LogState) (text : List ℕ) → IsAtStart s → Feeds s (lines_of text) s' → HasTakenText s.checker.machine s' text
taken-text s s' text start h =
    let none = start.bytes in
    let no_events = start.fresh.events in
    record {
      by = record { told = h.told; known = All-from_recursion IsLogLine h.told h.known; lines = h.are; read = h.reads [] start.fresh.read };
      same_machine = h.same_machine;
      bytes = let a = h.bytes in let n = ap length (joined_lines text) in omega (arith, a, n, none);
      events = let a = h.events in omega (arith, a, no_events);
      few_bytes = h.few_bytes (omega (arith, none));
      few_events = h.few_events (omega (arith, no_events));
    }

no-text : (text : List ℕ) → Some [] ≡ Some ([] ++ text) → text ≡ []
no-text text e = cc

-- all lines of the text were taken
pub taken-all : (s s' : LogState) (text : List ℕ) → IsAtStart s → TakesAll Answers line_bytes most_lines (place_of s 0 (Some [])) text s' (Some []) → HasTakenText s.checker.machine s' text
taken-all s s' text start h = taken-text s s' text start (feeds-all (lines_of text) h.text s s' h.answered (no-text h.text h.written))

pub sizes-kept : (s s' : LogState) (text : List ℕ) (machine : Machine) → TakesAll Answers line_bytes most_lines (place_of s 0 (Some [])) text s' (Some []) → HasTakenText machine s' text → KeepsSizes text
sizes-kept s s' text machine h k = record {
  lines = h.fit;
  bytes = let a = k.bytes in let b = k.few_bytes in omega (arith, a, b);
  events = let a = k.events in let b = k.few_events in omega (arith, a, b);
}
