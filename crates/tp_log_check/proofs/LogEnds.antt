-- The end of a log of which all lines were taken.
use Rattle.std.proofs.Common.{◌≡◌, ◌≢◌, ℕ, inr, List, [], Option, refl, sym, ap, subst, ◌∙◌}
use Rattle.std.specs.List.{flat_map}
use Rattle.std.proofs.lemmas.List.{append-nil}
use Rattle.tp_log_check.specs.declared.counts.Counts.{Counts}
use Rattle.tp_log.specs.LogLines.{log_line_text}
use Rattle.tp_log.proofs.Items.{text_of-log}
use Rattle.tp_log_check.specs.CheckerState.{CheckerValue, IsAcceptedLog, items_of}
use Rattle.tp_log_check.specs.Lawful.{IsLawfulLog}
use Rattle.tp_log_check.specs.declared.flaw.Flaw.{Flaw}
use Rattle.tp_log_check.specs.declared.flaw.Flaw.TheVariants.{Memory as WantsMemory}
use Rattle.tp_machine.specs.declared.machine.Machine.{Machine}
use Rattle.tp_log_check.specs.declared.rejection.Rejection.{Rejection}
use Rattle.tp_log_check.specs.declared.rejection.Rejection.TheVariants.{Memory, Flaw as Flawed}
use Rattle.tp_log_check.specs.Ends.{EndsFor, IsAcceptedText, IsFlawedEnd, IsTakenBy, StopsFor, StopsFrom}
use Rattle.tp_log_check.specs.Sizes.{KeepsSizes}
use Rattle.tp_stream.specs.Takes.{IsAtEnd, IsReadFrom, ends_whole}
use Rattle.tp_log_check.proofs.UnlawfulStarts.{is-none}
use Rattle.tp_log_check.proofs.FedLines.{ends-text, joined, joined_lines, joined_told}

module _ (machine : Machine) (c : CheckerValue) (text : List ℕ) (is : c.machine ≡ machine) (h : IsTakenBy c text) (sizes : KeepsSizes text) where
  whole-text : text ≡ flat_map log_line_text h.told
  whole-text = sym (joined_lines text) ∙ ap joined h.lines ∙ joined_told h.told

  pub accepted-text : (counts : Counts) → IsAcceptedLog c.machine h.told counts → IsAcceptedText machine text counts
  accepted-text counts accepted = go (subst (λ m. IsAcceptedLog m h.told counts) is accepted)
    where
      go : IsAcceptedLog machine h.told counts → IsAcceptedText machine text counts
      go log = record {
        sizes = sizes;
        told = h.told;
        accepted = log;
        is_text = whole-text ∙ ap (flat_map log_line_text) log.lines ∙ text_of-log (items_of log.sections);
      }

  -- where the end is refused
  refused-at-end : (left left' : Option (List ℕ)) (flaw : Flaw) → IsAtEnd left left' → flaw ≢ WantsMemory → IsFlawedEnd c flaw h.told → StopsFor machine left left' text (Flawed flaw)
  refused-at-end left left' flaw ended real off = record {
    caused = off.caused;
    done = text;
    rest = [];
    parts = sym (append-nil text);
    whole = ap ends_whole whole-text ∙ ends-text h.told;
    sizes = sizes;
    taken = (c, is, h);
    stops = (
      real,
      inr (record {
        ended = ended;
        all = refl;
        told = h.told;
        lines = h.lines;
        lies = off.lies;
        none = is-none machine text h.told h.known h.lines (λ lawful. off.none (subst (λ m. IsLawfulLog m h.told) (sym is) lawful));
      }),
    );
  }

  pub refused-end : (left left' : Option (List ℕ)) (cause : Rejection) → IsReadFrom left text left' → IsAtEnd left left' → EndsFor c cause → StopsFrom machine left left' cause
  refused-end left left' Memory read ended ends = tt
  refused-end left left' (Flawed flaw) read ended ends = (text, read, refused-at-end left left' flaw ended ends.0 (ends.1 h.told h.read))
  refused-end left left' other read ended ends = absurd ends
