-- A session that began with nothing planned stands where it is sound to go on from.
use Rattle.std.proofs.Common.{◌≡◌, ℕ, ◌+◌, ◌≤◌, ◌∙◌, Bool, List, [], ◌∷◌, length, Option, Some, None, refl, sym, subst, arith}
use Rattle.std.specs.Option.{MatchOption}
use Rattle.tp_machine.specs.declared.machine.Machine.{Machine}
use Rattle.tp_words.specs.Texts.{lines_of}
use Rattle.tp_script.specs.Lines.{line_event}
use Rattle.tp_script.specs.declared.event.Event.{Event}
use Rattle.tp_stream.specs.Answers.{AnswersAll}
use Rattle.tp_stream.specs.Scripts.{AnswersLine}
use Rattle.tp_stream.specs.Takes.{TakesAll, place_of}
use Rattle.tp_stream.specs.Tellers.{TellsAll}
use Rattle.tp_event_rules.proofs.ReadyTurns.{events-more}
use Rattle.tp_event_rules.proofs.StockKept.{stock-more}
use Rattle.tp_event_rules.specs.States.{SessionState, empty_state}
use Rattle.tp_session.specs.Kept.{CanBeSaved}
use Rattle.tp_session_standing.specs.Sound.{IsSound}
use Rattle.tp_session_standing.specs.StandingStates.{standing_of, standing_state}
use Rattle.tp_run_laws.proofs.Lawful.{lines_go_on, whole-empty}
use Rattle.tp_session.specs.SessionEnds.{ScriptEnds}
use Rattle.tp_session.specs.Sessions.{Standing, Tells}
use Rattle.tp_session.proofs.Lawfully.{all_lines, starts as begins}

module _ (machine : Machine) where
  -- a standing of this machine that can be saved
  record Saves (events : ℕ) (s : Standing) : Type 0 where
    machine_is : s.machine ≡ machine
    can : CanBeSaved machine events s.state

  more : (events : ℕ) (s : Standing) → Saves events s → Saves (events + 1) s
  more events s h = record {
    machine_is = h.machine_is;
    can = record {
      can = events-more machine events (events + 1) s.state (omega arith) h.can.can;
      stocked = stock-more machine events (events + 1) s.state (omega arith) h.can.stocked;
      sound = h.can.sound;
    };
  }

  one-event : (events : ℕ) (event : Event) (text : List ℕ) (s s' : Standing) → Saves events s → Tells s event text s' → Saves (events + 1) s'
  one-event events event text s s' h t = record {
    machine_is = t.same_machine ∙ h.machine_is;
    can = subst (λ m. CanBeSaved m (events + 1) s'.state) h.machine_is (t.saved events (subst (λ m. CanBeSaved m events s.state) (sym h.machine_is) h.can));
  }

  one-line : (events : ℕ) (line text : List ℕ) (s s' : Standing) → Saves events s → AnswersLine Tells s line text s' → Saves (events + 1) s'
  one-line events line text s s' h = go (line_event line) where
    go : (o : Option Event) → MatchOption o ((text ≡ []) × (s' ≡ s)) (λ event. Tells s event text s') → Saves (events + 1) s'
    go None (none, same) = subst (Saves (events + 1)) (sym same) (more events s h)
    go (Some event) t = one-event events event text s s' h t

  all-events : (events : List Event) (text : List ℕ) (n : ℕ) (s s' : Standing) → Saves n s → TellsAll Tells s events text s' → Saves (n + length events) s'
  all-events [] text n s s' h (none, same) = subst (λ m. Saves m s') (omega arith) (subst (Saves n) (sym same) h)
  all-events (event ∷ events) text n s s' h (told, (mid, (rest, one, others, same))) =
      subst (λ m. Saves m s') (omega arith) (all-events events rest (n + 1) mid s' (one-event n event told s mid h one) others)

  all-lines : (lines : List (List ℕ)) (text : List ℕ) (n : ℕ) (s s' : Standing) → Saves n s → AnswersAll (AnswersLine Tells) s lines text s' → Saves (n + length lines) s'
  all-lines [] text n s s' h (none, same) = subst (λ m. Saves m s') (omega arith) (subst (Saves n) (sym same) h)
  all-lines (line ∷ lines) text n s s' h (told, (mid, (rest, one, others, same))) =
      subst (λ m. Saves m s') (omega arith) (all-lines lines rest (n + 1) mid s' (one-line n line told s mid h one) others)

  module _ (nodes : ℕ) (bounds : Bool) (empty : CanBeSaved machine 0 empty_state)
      (sound : (events : ℕ) (s : SessionState) → events ≤ 4000000000 → length s.jobs ≤ 1000000 → CanBeSaved machine events s → IsSound machine (standing_of machine s))
      (back : (events : ℕ) (s : SessionState) → CanBeSaved machine events s → standing_state machine (standing_of machine s) ≡ s) where
    abbrev start : Standing
    start = record { machine = machine; budget = nodes; bounds = bounds; state = empty_state }

    starts : Saves 0 start
    starts = record { machine_is = refl; can = empty }

    pub sessions-stand : (events : List Event) (text : List ℕ) (s : Standing) → TellsAll Tells start events text s → length events ≤ 100000000 → length s.state.jobs ≤ 1000000 → IsSound machine (standing_of machine s.state)
    sessions-stand events text s h few few_jobs = sound (0 + length events) s.state (omega arith) few_jobs (all-events events text 0 start s starts h).can

    script-sound : (script : List ℕ) (taken taken' : Option (List ℕ)) (s : Standing) → TakesAll (AnswersLine Tells) 4096 1000000 (place_of start 0 taken) script s taken' → IsSound machine (standing_of machine s.state)
    script-sound script taken taken' s h =
        let can = (all-lines (lines_of script) h.text 0 start s starts h.answered).can in
        let few : 0 + length (lines_of script) ≤ 1000000 = h.few in
        let jobs : length s.state.jobs ≤ 0 + length (lines_of script) = can.can.kept.numbers.jobs in
        sound (0 + length (lines_of script)) s.state (omega arith) (omega arith) can

    pub scripts-end : (script : List ℕ) (taken taken' : Option (List ℕ)) (s : Standing) → TakesAll (AnswersLine Tells) 4096 1000000 (place_of start 0 taken) script s taken' → ScriptEnds machine nodes bounds script taken taken' s
    scripts-end script taken taken' s h = record {
      same_machine = (all-lines (lines_of script) h.text 0 start s starts h.answered).machine_is;
      ends = record {
        fit = h.fit;
        few = omega (arith, h.few);
        text = h.text;
        run = lines_go_on machine nodes bounds (lines_of script) h.text empty_state empty_state s.state (whole-empty machine nodes bounds)
            (all_lines machine nodes bounds (lines_of script) h.text start s (begins machine nodes bounds empty_state) h.answered).answers;
        sound = script-sound script taken taken' s h;
        as_told = back (0 + length (lines_of script)) s.state (all-lines (lines_of script) h.text 0 start s starts h.answered).can;
      };
      written = h.written;
    }
