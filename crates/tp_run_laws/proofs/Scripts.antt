-- Runs over scripts are lawful.
use Rattle.std.proofs.Common.{◌≡◌, ℕ, ◌+◌, Bool, List, [], ◌∷◌, ◌++◌, length, Option, Some, sym, ap, subst, ◌∙◌, arith}
use Rattle.tp_machine.specs.declared.machine.Machine.{Machine}
use Rattle.tp_outside.specs.PartialTransfer.{IsCutShort}
use Rattle.tp_outside.proofs.Parts.{IfSome-at, IfSome-from}
use Rattle.tp_words.specs.Texts.{lines_of}
use Rattle.tp_stream.specs.Takes.{IsWritten, Place, Stops, StopsBefore, Takes, TakesAll, place_of}
use Rattle.tp_stream.specs.declared.stop.Stop.{Stop}
use Rattle.tp_stream.specs.declared.stop.Stop.TheVariants.{Memory, Refused, Source, Sink, Line, Lines}
use Rattle.tp_stream.proofs.TakesFacts.{answers_one, answers_then}
use Rattle.tp_event_rules.specs.States.{SessionState}
use Rattle.tp_stream.specs.Scripts.{NoRefusal}
use Rattle.tp_run_laws.specs.Ends.{IsAnswered, IsAnsweredTo, StopsAt}
use Rattle.tp_run_laws.specs.Wholes.{IsWhole, TellsLine}
use Rattle.tp_run_laws.proofs.Lawful.{lines_lawful}

module _ (machine : Machine) (nodes : ℕ) (bounds : Bool) (whole live : SessionState) (behind : IsWhole machine whole live) where
  pub scripts_lawful : (script : List ℕ) (taken taken' : Option (List ℕ)) (s : SessionState) → TakesAll (TellsLine machine nodes bounds) 4096 1000000 (place_of live 0 taken) script s taken' → IsAnswered machine nodes bounds whole script taken taken'
  scripts_lawful script taken taken' s h = record {
    fit = h.fit;
    few = omega (arith, h.few);
    text = h.text;
    run = lines_lawful machine nodes bounds (lines_of script) h.text whole live s behind h.answered;
    written = h.written;
  }

  at_end : (stop : Stop) (left left' taken taken' : Option (List ℕ)) (s : SessionState) (rest : List ℕ) (at : Place SessionState) (script : List ℕ)
      → (h : Takes (TellsLine machine nodes bounds) 4096 (place_of live 0 taken) script rest at)
      → StopsBefore (TellsLine machine nodes bounds) NoRefusal 4096 1000000 left left' stop rest at s taken' → StopsAt machine nodes bounds whole stop h.done rest h.text left left' taken taken'
  at_end Memory left left' taken taken' s rest at script h k = subst (IsWritten taken h.text) (sym k) h.written
  at_end Refused left left' taken taken' s rest at script h k = absurd k.0.refused
  at_end Source left left' taken taken' s rest at script h k = (k.0, subst (IsWritten taken h.text) (sym k.1) h.written)
  at_end (Line n) left left' taken taken' s rest at script h k = (k.0, k.1 ∙ ap (λ m. m + 1) (count h.counted), subst (IsWritten taken h.text) (sym k.2) h.written)
    where
      count : at.count ≡ 0 + length (lines_of h.done) → at.count ≡ length (lines_of h.done)
      count e = omega (arith, e)
  at_end Lines left left' taken taken' s rest at script h k = (omega (arith, k.0, h.counted), k.1, subst (IsWritten taken h.text) (sym k.2) h.written)
  at_end Sink left left' taken taken' s rest at script h k = record {
    next = k.next;
    few = omega (arith, k.few, h.counted);
    told = k.told;
    run = lines_lawful machine nodes bounds (lines_of h.done ++ k.next.line ∷ []) (h.text ++ k.told) whole live s behind
        (answers_then (TellsLine machine nodes bounds) live at.state s (lines_of h.done) (k.next.line ∷ []) h.text k.told h.answered
        (answers_one (TellsLine machine nodes bounds) at.state s k.next.line k.told k.answered));
    cut = IfSome-from (λ before. IsCutShort k.told taken' (before ++ h.text)) taken (λ before e.
        IfSome-at (IsCutShort k.told taken') at.taken (before ++ h.text) k.cut (IfSome-at (λ before. at.taken ≡ Some (before ++ h.text)) taken before h.written e));
  }

  pub stops_lawful : (stop : Stop) (script : List ℕ) (left left' taken taken' : Option (List ℕ)) (s : SessionState) → Stops (TellsLine machine nodes bounds) NoRefusal 4096 1000000 left left' (place_of live 0 taken) script stop s taken'
      → IsAnsweredTo machine nodes bounds whole stop script left left' taken taken'
  stops_lawful stop script left left' taken taken' s h = record {
    done = h.takes.done;
    rest = h.rest;
    parts = h.takes.bytes_are;
    whole = h.takes.whole;
    fit = h.takes.fit;
    few = omega (arith, h.few, h.takes.counted);
    text = h.takes.text;
    run = lines_lawful machine nodes bounds (lines_of h.takes.done) h.takes.text whole live h.at.state behind h.takes.answered;
    stops = at_end stop left left' taken taken' s h.rest h.at script h.takes h.stops;
  }
