-- A run with a line behind it, which was made and written, or not.
use Rattle.std.proofs.Common.{◌≡◌, ℕ, Bool, List, [], ◌∷◌, ◌++◌, Option, Some, inl, inr, sym, ap, ◌∙◌, subst}
use Rattle.std.specs.Prelude.{IfSome, true, codes, unwrap_or}
use Rattle.tp_machine.specs.declared.machine.Machine.{Machine}
use Rattle.tp_jobs.specs.declared.standing.Standing as kept
use Rattle.tp_outside.specs.PartialTransfer.{IsCutShort}
use Rattle.tp_outside.proofs.Parts.{IfSome-at, IfSome-from}
use Rattle.tp_session.specs.SessionEnds.{ScriptEnds, ScriptsEndSoundly}
use Rattle.tp_session.specs.Continuations.{StopsGoOn}
use Rattle.tp_session.specs.Sessions.{Standing, Tells, start_of}
use Rattle.tp_snapshot.specs.Rules.{IsSnapshot}
use Rattle.tp_snapshot.specs.Texts.{IsWritten as IsText}
use Rattle.tp_session_standing.specs.Sound.{IsSound}
use Rattle.tp_session_standing.specs.StandingStates.{standing_of}
use Rattle.tp_stream.specs.Scripts.{IsStopped, IsTaken}
use Rattle.tp_stream.specs.Takes.{IsWritten}
use Rattle.tp_stream.specs.declared.stop.Stop.{Stop}
use Rattle.tp_stream.proofs.TakesFacts.{written_then}
use Rattle.tp_event_rules.specs.States.{empty_state}
use Rattle.tp_run_laws.proofs.Lawful.{whole-empty}
use Rattle.tp_run_laws.specs.Ends.{IsAnswered}
use Rattle.tp_program.proofs.RunFacts.{ends_by, stops_on}
use Rattle.tp_program.specs.Runs.{EndsBy}
use Rattle.tp_program.specs.SaveEnds.{EndsWithLine, HasSavedLine, IsSavedLine, SaveDone, SaveStops, SavesOn}
use Rattle.tp_program.specs.declared.status.Status.{Status}
use Rattle.tp_program.specs.declared.status.Status.TheVariants as status

-- what is written of a standing, as a line
pub line-saved : (machine m : Machine) (t u : kept.Standing) (bytes piece line : List ℕ) → m ≡ machine → u ≡ t → IsText bytes m u → IsSnapshot bytes m u → piece ≡ bytes → line ≡ codes "= " ++ piece ++ 10 ∷ [] → IsSavedLine machine t line
line-saved machine m t u bytes piece line same_machine same_standing written read same is = record {
  snapshot = bytes;
  written = subst (λ n. IsText bytes n t) same_machine (subst (IsText bytes m) same_standing written);
  of_standing = subst (λ n. IsSnapshot bytes n t) same_machine (subst (IsSnapshot bytes m) same_standing read);
  is = is ∙ ap (λ p. codes "= " ++ p ++ 10 ∷ []) same;
}

module _ (machine : Machine) (t : kept.Standing) (taken taken' : Option (List ℕ)) (line piece : List ℕ) (made : IsSavedLine machine t line) (same : piece ≡ line) where
  pub wrote_whole : IfSome taken (λ before. taken' ≡ Some (before ++ piece)) → EndsWithLine machine t taken taken' status.Done
  wrote_whole whole = (line, made, subst (λ p. IfSome taken (λ before. taken' ≡ Some (before ++ p))) same whole)

  pub wrote_part : IfSome taken (IsCutShort piece taken') → EndsWithLine machine t taken taken' status.Sink
  wrote_part part = (line, made, subst (λ p. IfSome taken (IsCutShort p taken')) same part)

module _ (machine : Machine) (budget : Option ℕ) (bounds : Bool) (left left' taken mid : Option (List ℕ)) (last : Standing) (law : ScriptsEndSoundly machine budget bounds)
    (all : IsTaken Tells (start_of machine budget bounds) left taken last left' mid) where
  abbrev nodes : ℕ
  nodes = unwrap_or budget machine.budget

  ends : ScriptEnds machine nodes bounds all.0 taken mid last
  ends = law all.0 taken mid last all.2

  -- it is sound to go on from where the session stands
  pub line_sound : IsSound last.machine (standing_of last.machine last.state)
  line_sound = subst (λ m. IsSound m (standing_of m last.state)) (sym ends.same_machine) ends.ends.sound

  has_line : (line : List ℕ) → IsSavedLine last.machine (standing_of last.machine last.state) line → HasSavedLine machine nodes bounds all.0
  has_line line saved = record {
    live = last.state;
    ends = ends.ends;
    line = line;
    saved = subst (λ m. IsSavedLine m (standing_of m last.state) line) ends.same_machine saved;
  }

  answered : (taken' : Option (List ℕ)) → taken' ≡ mid → IsAnswered machine nodes bounds empty_state all.0 taken taken'
  answered taken' same =
      let run = ends.ends.run in
      record {
        fit = ends.ends.fit;
        few = ends.ends.few;
        text = ends.ends.text;
        run = record { log = run.log; last = run.last; run = run.run; is_text = run.is_text };
        written = subst (IsWritten taken ends.ends.text) (sym same) ends.written;
      }

  pub saves_on : (taken' : Option (List ℕ)) → IfSome left (λ _. left' ≡ Some []) → (s : Status) → EndsWithLine last.machine (standing_of last.machine last.state) mid taken' s
      → SavesOn machine nodes bounds left left' taken taken' s
  unfolding has_line ends
  saves_on taken' end status.Done wrote = (let (line, saved, whole) = wrote in ((all.0, all.1, (has_line line saved, written_then taken mid taken' ends.ends.text line ends.written whole)), end))
  saves_on taken' end status.Memory same = inr (all.0, all.1, end, answered taken' same)
  saves_on taken' end status.Sink wrote = inr (
    all.0,
    all.1,
    end,
    (
      has_line wrote.0 wrote.1,
      IfSome-from (λ before. IsCutShort wrote.0 taken' (before ++ ends.ends.text)) taken (λ before e.
          IfSome-at (IsCutShort wrote.0 taken') mid (before ++ ends.ends.text) wrote.2 (IfSome-at (λ before. mid ≡ Some (before ++ ends.ends.text)) taken before ends.written e)),
    ),
  )
  saves_on taken' end s none = absurd none

-- the answering stopped, and no line is written
pub saves_stopped : (machine : Machine) (budget : Option ℕ) (bounds : Bool) (left left' taken taken' : Option (List ℕ)) → StopsGoOn machine budget bounds → (cause : Stop)
    → IsStopped Tells (start_of machine budget bounds) left taken cause left' taken' → (s : Status) → EndsBy ⊥ (λ c. cause ≡ c) s
    → SavesOn machine (unwrap_or budget machine.budget) bounds left left' taken taken' s
saves_stopped machine budget bounds left left' taken taken' go cause stopped s is =
    let nodes = unwrap_or budget machine.budget in
    ends_by (SaveDone machine nodes bounds left left' taken taken' × IfSome left (λ _. left' ≡ Some [])) (SaveStops machine nodes bounds left left' taken taken') cause s is
    (inl (stops_on machine budget bounds empty_state empty_state (whole-empty machine 0 true) left left' taken taken' go cause stopped))
