-- What a checker has taken, with one event more that is accepted.
use Rattle.std.proofs.Common.{◌≡◌, ℕ, ◌+◌, List, [], ◌∷◌, ◌++◌, Option, Some, None, refl, sym, ap, subst, ◌∙◌, arith}
use Rattle.std.specs.Prelude.{IsNone}
use Rattle.std.proofs.lemmas.List.{append-nil, map-append}
use Rattle.std.proofs.lemmas.List.Concat.{flat_map-append}
use Rattle.std.proofs.lemmas.List.Elements.{All-append, All-from_recursion}
use Rattle.tp_log_check.specs.Gathered.{ArePlain, IsPending, lines_of}
use Rattle.tp_log_check.specs.Gathered as entries
use Rattle.tp_log_check.specs.declared.counts.Counts.{Counts}
use Rattle.tp_log_check.specs.declared.pending.Pending.{Pending}
use Rattle.tp_log_check.proofs.PendingFacts.{plain_closed}
use Rattle.tp_log.specs.GatheredItems.{closed, item_lines, lines_with, log_lines, next_of}
use Rattle.tp_log.specs.Logs.{IsLog}
use Rattle.tp_log.specs.declared.log_line.LogLine.{LogLine}
use Rattle.tp_log.proofs.GatherFacts.{closed-lines, closed_log}
use Rattle.tp_log_laws.specs.AcceptedEntries.{AreAccepted, IsAccepted}
use Rattle.tp_log_laws.proofs.Lawful.{one_more}
use Rattle.tp_machine.specs.declared.machine.Machine.{Machine}
use Rattle.tp_event_rules.specs.Ready.{CanTakeEvents, KeepsStock, last_copy}
use Rattle.tp_event_rules.specs.States.{SessionState, empty_state}
use Rattle.tp_event_rules.proofs.StockKept.{stock-more}
use Rattle.tp_log_check.specs.Lawful.{AreInPlaces, LeadsTo}
use Rattle.tp_log_check.specs.CheckerState.{CanGoOn, CheckerValue, HasTaken, LeadOn, Section, entries_of, items_of, section_items, underway}
use Rattle.tp_log_check.specs.EventEntry.{entry}
use Rattle.tp_log_check.specs.declared.flaw.Flaw.{Flaw}

pub is-none : {A : Type 0} (o : Option A) → o ≡ None → IsNone o
is-none o e = subst IsNone (sym e) refl

-- ---- what holds between calls

pub keeps-stock : (machine : Machine) (s : SessionState) (pending : Option Pending) (events : ℕ) → CanGoOn machine s pending events → KeepsStock machine last_copy s
keeps-stock machine s pending events c = let h = c.behind in let k = c.few in stock-more machine c.taken last_copy s (omega (arith, h, k)) c.stocked

pub went-on : (machine : Machine) (s s' : SessionState) (p : Pending) (before after : Option Pending) (events : ℕ) → CanGoOn machine s before events → before ≡ Some p → after ≡ None
    → ((n : ℕ) → CanTakeEvents machine n s → CanTakeEvents machine (n + 1) s') → ((n : ℕ) → KeepsStock machine n s → KeepsStock machine (n + 1) s') → CanGoOn machine s' after events
went-on machine s s' p before after events c is none can stocked = subst (λ o. CanGoOn machine s' o events) (sym none) (go (subst (λ o. CanGoOn machine s o events) is c)) where
  go : CanGoOn machine s (Some p) events → CanGoOn machine s' None events
  go c = record {
    under = tt;
    taken = c.taken + 1;
    behind = let h = c.behind in omega (arith, h);
    few = c.few;
    can = can c.taken c.can;
    stocked = stocked c.taken c.stocked;
  }

-- ---- what was taken

lead-more : (machine : Machine) (sections : List Section) (last : Section) (s mid s' : SessionState) → LeadOn machine s sections mid → LeadsTo machine mid last.event last.items s' → LeadOn machine s (sections ++ last ∷ []) s'
lead-more machine [] last s mid s' on leads = (s', subst (λ x. LeadsTo machine x last.event last.items s') on leads, refl)
lead-more machine (section ∷ sections) last s mid s' (next, first, on) leads = (next, first, lead-more machine sections last next mid s' on leads)

module _ (machine : Machine) (state state' : SessionState) (events lines : ℕ) (counts : Counts) (flaw : Option Flaw) (p q : Pending) where
  abbrev before : CheckerValue
  before = record { machine = machine; state = state; under = Some (underway p); events = events; lines = lines; counts = counts; flaw = flaw }

  abbrev after : CheckerValue
  after = record { machine = machine; state = state'; under = None; events = events; lines = lines; counts = counts; flaw = flaw }

  pub taken-more : IsPending p → entries.items_of q ≡ closed (entries.items_of p) p.tree → IsAccepted machine state (entry q.event q.items.items) state' → LeadsTo machine state q.event q.items.items state' → AreInPlaces q.items.items → (told : List LogLine) → HasTaken before told → HasTaken after told
  taken-more pending ended accepted only places told h =
      let last : Section = record { event = q.event; items = q.items.items } in
      let all_items : items_of (h.sections ++ last ∷ []) ≡ items_of h.sections ++ entries.items_of q = flat_map-append section_items h.sections (last ∷ []) ∙ ap (λ is. items_of h.sections ++ is) (append-nil (section_items last)) in
      let log : IsLog (section_items last) = subst IsLog (sym ended) (closed_log (entries.items_of p) p.tree (next_of (lines_of p)) pending.gathered) in
      let last_lines : log_lines (entries.items_of q) ≡ lines_with (entries.items_of p) p.tree = ap log_lines ended ∙ closed-lines (entries.items_of p) p.tree in
      let all_lines : log_lines (items_of (h.sections ++ last ∷ [])) ≡ log_lines (items_of h.sections) ++ lines_with (entries.items_of p) p.tree =
      ap log_lines all_items ∙ flat_map-append item_lines (items_of h.sections) (entries.items_of q) ∙ ap (λ ls. log_lines (items_of h.sections) ++ ls) last_lines in
      record {
        sections = h.sections ++ last ∷ [];
        logs = All-append (λ s. IsLog (section_items s)) h.sections (last ∷ []) h.logs (All-from_recursion (λ s. IsLog (section_items s)) (last ∷ []) (log, tt));
        plain = All-append (λ s. ArePlain s.items) h.sections (last ∷ []) h.plain
            (All-from_recursion (λ s. ArePlain s.items) (last ∷ []) (plain_closed p.event q.event p.items.items q.items.items p.tree ended pending.plain, tt));
        places = All-append (λ s. AreInPlaces s.items) h.sections (last ∷ []) h.places (All-from_recursion (λ s. AreInPlaces s.items) (last ∷ []) (places, tt));
        accepted = subst (λ es. AreAccepted machine empty_state es state') (sym (map-append (λ (s : Section). entry s.event s.items) h.sections (last ∷ [])))
            (one_more machine (entries_of h.sections) (entry q.event q.items.items) empty_state state state' h.accepted accepted);
        only = lead-more machine h.sections last empty_state state state' h.only only;
        lines = h.lines ∙ sym all_lines ∙ sym (append-nil (log_lines (items_of (h.sections ++ last ∷ []))));
        number = tt;
      }
