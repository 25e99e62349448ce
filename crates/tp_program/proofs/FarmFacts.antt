-- What a farm of sessions answered, as a run of each of its machines.
use Rattle.std.proofs.Common.{◌≡◌, ℕ, ◌+◌, Bool, List, [], ◌∷◌, ◌++◌, length, map, slice_get, Option, Some, sym, ap, subst, ◌∙◌, arith}
use Rattle.std.specs.Prelude.{option_map, unwrap_or}
use Rattle.std.proofs.lemmas.Option.{slice_get-map}
use Rattle.tp_machine.specs.declared.machine.Machine.{Machine}
use Rattle.tp_outside.specs.PartialTransfer.{IsCutShort}
use Rattle.tp_outside.proofs.Parts.{IfSome-at, IfSome-from}
use Rattle.tp_words.specs.Texts.{lines_of}
use Rattle.tp_stream.specs.Scripts.{NoRefusal}
use Rattle.tp_stream.specs.Takes.{IsWritten, Place, StopsBefore, Takes, place_of}
use Rattle.tp_stream.specs.declared.stop.Stop.{Stop}
use Rattle.tp_stream.specs.declared.stop.Stop.TheVariants.{Memory, Refused, Source, Sink, Line, Lines}
use Rattle.tp_stream.proofs.TakesFacts.{answers_one, answers_then}
use Rattle.tp_session.specs.Probes.{Probes}
use Rattle.tp_session.specs.Sessions.{Standing, Tells, start_of}
use Rattle.tp_session.proofs.Lawfully.{sessions_tell, sessions_tell_lines}
use Rattle.tp_farm.specs.Farms.{AnswersLine, FarmState, sent_to}
use Rattle.tp_farm.specs.Numbered.{told_by}
use Rattle.tp_farm.proofs.Gathered.{gathered}
use Rattle.tp_farm.proofs.MachineParts.{farms_part}
use Rattle.tp_program.specs.FarmRuns.{FarmScriptsLawful, FarmStopsAt, FarmStopsLawful, FarmsLawful, farm_start}

module _ (machines : List Machine) (budget : Option ℕ) (bounds : Bool) where
  abbrev Answers : FarmState Standing → List ℕ → List ℕ → FarmState Standing → Type 0
  Answers = AnswersLine Tells Probes

  abbrev start : FarmState Standing
  start = farm_start machines budget bounds

  pub farm-run : FarmsLawful machines budget bounds
  farm-run lines text farm h =
      let sends = gathered Tells Probes lines text start farm h in
      record {
        sent = sends.0;
        last = farm;
        steps = sends.1;
        logs = λ place machine is.
            let there : slice_get (map (λ m. start_of m budget bounds) machines) place ≡ Some (start_of machine budget bounds) =
            slice_get-map (λ m. start_of m budget bounds) machines place ∙ ap (option_map (λ m. start_of m budget bounds)) is in
            let own = farms_part Tells Probes sessions_tell_lines start farm lines sends.0 text sends.1 place (start_of machine budget bounds) there in
            sessions_tell machine (unwrap_or budget machine.budget) bounds (sent_to (place + 1) sends.0) (told_by (place + 1) text) own.last own.told;
      }

  pub farm-answered : FarmScriptsLawful machines budget bounds
  farm-answered script taken taken' farm h = record {
    fit = h.fit;
    few = omega (arith, h.few);
    text = h.text;
    run = farm-run (lines_of script) h.text farm h.answered;
    written = h.written;
  }

  at_end : (cause : Stop) (left left' taken taken' : Option (List ℕ)) (farm : FarmState Standing) (rest : List ℕ) (at : Place (FarmState Standing)) (script : List ℕ)
      → (h : Takes Answers 4096 (place_of start 0 taken) script rest at)
      → StopsBefore Answers NoRefusal 4096 1000000 left left' cause rest at farm taken' → FarmStopsAt machines budget bounds cause h.done rest h.text left left' taken taken'
  at_end Memory left left' taken taken' farm rest at script h k = subst (IsWritten taken h.text) (sym k) h.written
  at_end Refused left left' taken taken' farm rest at script h k = absurd k.0.refused
  at_end Source left left' taken taken' farm rest at script h k = (k.0, subst (IsWritten taken h.text) (sym k.1) h.written)
  at_end (Line n) left left' taken taken' farm rest at script h k = (k.0, k.1 ∙ ap (λ m. m + 1) (count h.counted), subst (IsWritten taken h.text) (sym k.2) h.written)
    where
      count : at.count ≡ 0 + length (lines_of h.done) → at.count ≡ length (lines_of h.done)
      count e = omega (arith, e)
  at_end Lines left left' taken taken' farm rest at script h k = (omega (arith, k.0, h.counted), k.1, subst (IsWritten taken h.text) (sym k.2) h.written)
  at_end Sink left left' taken taken' farm rest at script h k = record {
    next = k.next;
    few = omega (arith, k.few, h.counted);
    told = k.told;
    run = farm-run (lines_of h.done ++ k.next.line ∷ []) (h.text ++ k.told) farm
        (answers_then Answers start at.state farm (lines_of h.done) (k.next.line ∷ []) h.text k.told h.answered (answers_one Answers at.state farm k.next.line k.told k.answered));
    cut = IfSome-from (λ before. IsCutShort k.told taken' (before ++ h.text)) taken (λ before e.
        IfSome-at (IsCutShort k.told taken') at.taken (before ++ h.text) k.cut (IfSome-at (λ before. at.taken ≡ Some (before ++ h.text)) taken before h.written e));
  }

  pub farm-stopped : FarmStopsLawful machines budget bounds
  farm-stopped cause script left left' taken taken' farm h = record {
    done = h.takes.done;
    rest = h.rest;
    parts = h.takes.bytes_are;
    whole = h.takes.whole;
    fit = h.takes.fit;
    few = omega (arith, h.few, h.takes.counted);
    text = h.takes.text;
    run = farm-run (lines_of h.takes.done) h.takes.text h.at.state h.takes.answered;
    stops = at_end cause left left' taken taken' farm h.rest h.at script h.takes h.stops;
  }
