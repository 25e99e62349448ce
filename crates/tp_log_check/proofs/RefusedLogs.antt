-- Why no lawful log begins with lines that were refused.
use Rattle.std.proofs.Common.{◌≡◌, ℕ, Bool, true, false, List, [], ◌∷◌, ◌++◌, All, Option, Some, None, Result, Ok, Err, refl, sym, ap, subst, ◌∙◌, append_assoc}
use Rattle.std.specs.Prelude.{IfErr, IfOk, IsSome}
use Rattle.std.specs.Bool.{MatchBool}
use Rattle.std.proofs.lemmas.List.{append-nil}
use Rattle.std.proofs.lemmas.List.Concat.{flat_map-append}
use Rattle.std.proofs.lemmas.List.Elements.{All-append, All-from_recursion, All-head, All-tail}
use Rattle.tp_log_check.specs.Gathered.{IsPending, lines_of}
use Rattle.tp_log_check.specs.Gathered as entries
use Rattle.tp_log_check.specs.declared.counts.Counts.{Counts}
use Rattle.tp_log_check.specs.declared.pending.Pending.{Pending}
use Rattle.tp_log_check.proofs.PendingFacts.{plain_closed}
use Rattle.tp_log.specs.GatheredItems.{closed, item_lines, lines_with, log_lines, next_of}
use Rattle.tp_log.specs.LogLines.{AreInOrder, FollowEach, IsLogLine, is_event}
use Rattle.tp_log.specs.Logs.{IsLog}
use Rattle.tp_log.specs.declared.log_line.LogLine.{LogLine}
use Rattle.tp_log.proofs.GatherFacts.{closed-lines, closed_log}
use Rattle.tp_log.proofs.Items.{in_order, log_known}
use Rattle.tp_machine.specs.declared.machine.Machine.{Machine}
use Rattle.tp_run_laws.specs.Runs.{items_in}
use Rattle.tp_event_rules.specs.States.{SessionState}
use Rattle.tp_log_check.specs.CheckerState.{CheckerValue, HasTaken, Section, Underway, items_of, section_items, underway}
use Rattle.tp_log_check.specs.Lawful.{EndEvent, HasNoTurn, IsLawfulLog}
use Rattle.tp_log_check.specs.declared.flaw.Flaw.{Flaw}
use Rattle.tp_log_check.proofs.CutLines.{order-cut}
use Rattle.tp_log_check.proofs.ReadSoFar.{sections-log}
use Rattle.tp_log_check.proofs.RefusedItems.{none-lawful}

module _ (machine : Machine) (state : SessionState) (events lines : ℕ) (counts : Counts) (flaw : Option Flaw) where
  abbrev value : Option Underway → CheckerValue
  value under = record { machine = machine; state = state; under = under; events = events; lines = lines; counts = counts; flaw = flaw }

  -- where the event that is under way has no turn of right answers that tells its items
  pub taken-none : (p q : Pending) → IsPending p → entries.items_of q ≡ closed (entries.items_of p) p.tree → HasNoTurn machine state q.event q.items.items → (told more : List LogLine) → HasTaken (value (Some (underway p))) told
      → EndEvent more → IsLawfulLog machine (told ++ more) → ⊥
  taken-none p q pending ended none told more h cut lawful =
      let last : Section = record { event = q.event; items = q.items.items } in
      let all_items : items_of (h.sections ++ last ∷ []) ≡ items_of h.sections ++ entries.items_of q = flat_map-append section_items h.sections (last ∷ []) ∙ ap (λ is. items_of h.sections ++ is) (append-nil (section_items last)) in
      let log : IsLog (section_items last) = subst IsLog (sym ended) (closed_log (entries.items_of p) p.tree (next_of (lines_of p)) pending.gathered) in
      let logs = All-append (λ s. IsLog (section_items s)) h.sections (last ∷ []) h.logs (All-from_recursion (λ s. IsLog (section_items s)) (last ∷ []) (log, tt)) in
      let whole : IsLog (items_of h.sections ++ entries.items_of q) = subst IsLog all_items (sections-log (h.sections ++ last ∷ []) logs) in
      let last_lines : log_lines (entries.items_of q) ≡ lines_with (entries.items_of p) p.tree = ap log_lines ended ∙ closed-lines (entries.items_of p) p.tree in
      let all_lines : told ≡ log_lines (items_of h.sections ++ entries.items_of q) =
      h.lines ∙ ap (λ ls. log_lines (items_of h.sections) ++ ls) (sym last_lines) ∙ sym (flat_map-append item_lines (items_of h.sections) (entries.items_of q)) in
      none-lawful machine h.sections h.plain state h.only q.event q.items.items (plain_closed p.event q.event p.items.items q.items.items p.tree ended pending.plain) whole none told more all_lines cut lawful

  -- where a line may not stand behind those of the event that is under way
  pub taken-off : (p : Pending) (line : LogLine) → (AreInOrder (lines_of p ++ line ∷ []) → ⊥) → (told : List LogLine) → HasTaken (value (Some (underway p))) told → AreInOrder (told ++ line ∷ []) → ⊥
  taken-off p line off told h order =
      let split : told ++ line ∷ [] ≡ log_lines (items_of h.sections) ++ (lines_of p ++ line ∷ []) = ap (λ ls. ls ++ line ∷ []) h.lines ∙ append_assoc (log_lines (items_of h.sections)) (lines_of p) (line ∷ []) in
      off (order-cut (log_lines (items_of h.sections)) (lines_of p ++ line ∷ []) (subst AreInOrder split order) refl)

-- the first line is an event's
pub first-off : (told : LogLine) (before : List LogLine) → is_event told ≡ false → before ≡ [] → AreInOrder (before ++ told ∷ []) → ⊥
first-off told before plain none order =
    let first : is_event told ≡ true = (subst (λ ls. AreInOrder (ls ++ told ∷ [])) none order).0 in
    let no : true ≡ false = sym first ∙ plain in cc

follow-first : (before : LogLine) (xs ys : List LogLine) → FollowEach before (xs ++ ys) → FollowEach before xs
follow-first before [] ys h = tt
follow-first before (x ∷ xs) ys h = (h.0, follow-first x xs ys h.1)

order-first : (xs ys : List LogLine) → AreInOrder (xs ++ ys) → AreInOrder xs
order-first [] ys h = tt
order-first (x ∷ xs) ys h = (h.0, follow-first x xs ys h.1)

line-there : (before : List LogLine) (told : LogLine) (more : List LogLine) → All IsLogLine (before ++ told ∷ more) → IsLogLine told
line-there [] told more all = All-head IsLogLine told more all
line-there (l ∷ before) told more all = line-there before told more (All-tail IsLogLine l (before ++ told ∷ more) all)

module _ (machine : Machine) (before : List LogLine) (told : LogLine) (more : List LogLine) (lawful : IsLawfulLog machine (before ++ told ∷ more)) where
  -- the lines of a lawful log are in order, and in the grammar
  pub lawful-order : AreInOrder (before ++ told ∷ [])
  lawful-order =
      order-first (before ++ told ∷ []) more (subst AreInOrder (sym lawful.lines ∙ sym (append_assoc before (told ∷ []) more)) (in_order (items_in lawful.log) lawful.is_log.0))

  pub lawful-line : IsLogLine told
  lawful-line = line-there before told more (subst (All IsLogLine) (sym lawful.lines) (log_known (items_in lawful.log) lawful.is_log.1))

-- what an answer denies where it is false
pub if-false : {E : Type 0} (A B C : Type 0) (r : Result Bool E) → IfOk r (λ b. MatchBool b A B) → (B → C) → IfOk r (λ b. MatchBool b (Unit {0}) C)
if-false A B C (Ok true) h f = tt
if-false A B C (Ok false) h f = f h
if-false A B C (Err e) h f = tt

pub some-not_none : {A : Type 0} (o : Option A) → IsSome o → o ≡ None → ⊥
some-not_none None some e = cc
some-not_none (Some x) some e = cc

-- what holds of an error, told in other words
pub if-ok : {A E : Type 0} (P Q : A → Type 0) (r : Result A E) → IfOk r P → ((a : A) → P a → Q a) → IfOk r Q
if-ok P Q (Ok a) h f = f a h
if-ok P Q (Err e) h f = tt

pub if-err : {A E : Type 0} (P Q : E → Type 0) (r : Result A E) → IfErr r P → ((e : E) → P e → Q e) → IfErr r Q
if-err P Q (Ok a) h f = tt
if-err P Q (Err e) h f = f e h
