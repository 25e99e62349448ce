-- What a session answers from the empty state is lawful.
use Rattle.std.proofs.Common.{◌≡◌, ℕ, Bool, List, [], ◌∷◌, Option, Some, None, refl, sym, ap, subst, ◌∙◌}
use Rattle.std.specs.Option.{MatchOption}
use Rattle.tp_machine.specs.declared.machine.Machine.{Machine}
use Rattle.tp_words.specs.Texts.{lines_of}
use Rattle.tp_script.specs.Lines.{line_event}
use Rattle.tp_script.specs.declared.event.Event.{Event}
use Rattle.tp_stream.specs.Answers.{AnswersAll}
use Rattle.tp_stream.specs.Scripts.{AnswersLine, NoRefusal}
use Rattle.tp_stream.specs.Takes.{Place, Stops, StopsBefore, TakesAll, place_of}
use Rattle.tp_stream.specs.declared.stop.Stop.{Stop}
use Rattle.tp_stream.specs.declared.stop.Stop.TheVariants.{Memory, Refused, Source, Sink, Line, Lines}
use Rattle.tp_stream.specs.Tellers.{TellsAll}
use Rattle.tp_event_rules.specs.States.{SessionState, empty_state}
use Rattle.tp_run_laws.specs.Ends.{IsAnswered, IsAnsweredTo}
use Rattle.tp_run_laws.specs.EventRuns.{IsRunOf, TellsEvent}
use Rattle.tp_run_laws.specs.Wholes.{IsWhole, TellsLine, TellsTurn}
use Rattle.tp_run_laws.proofs.Lawful.{events_lawful, turns_tell_lines, whole-empty}
use Rattle.tp_run_laws.proofs.Scripts.{scripts_lawful, stops_lawful}
use Rattle.tp_session.specs.Sessions.{SessionsTellLines, Standing, Tells}

module _ (machine : Machine) (nodes : ℕ) (bounds : Bool) where
  abbrev Lawful : SessionState → List ℕ → List ℕ → SessionState → Type 0
  Lawful = TellsLine machine nodes bounds

  -- a standing with this machine and this budget, with bounds or without
  pub record Has (s : Standing) : Type 0 where
    pub machine_is : s.machine ≡ machine
    pub budget_is : s.budget ≡ nodes
    pub bounds_is : s.bounds ≡ bounds

  record LineOf (s : Standing) (line text : List ℕ) (s' : Standing) : Type 0 where
    answers : Lawful s.state line text s'.state
    has : Has s'

  one_line : (s s' : Standing) (line text : List ℕ) → Has s → AnswersLine Tells s line text s' → LineOf s line text s'
  one_line s s' line text has h =
      let (answers, kept) = go (line_event line) h in
      record { answers = answers; has = kept }
    where
      go : (o : Option Event) → MatchOption o ((text ≡ []) × (s' ≡ s)) (λ event. Tells s event text s')
          → MatchOption o ((text ≡ []) × (s'.state ≡ s.state)) (λ event. TellsTurn machine nodes bounds event s.state text s'.state) × Has s'
      go None (none, same) = ((none, ap (λ (x : Standing). x.state) same), subst Has (sym same) has)
      go (Some event) h = (
        subst (λ b. TellsTurn machine nodes b event s.state text s'.state) has.bounds_is
            (subst (λ n. TellsTurn machine n s.bounds event s.state text s'.state) has.budget_is (subst (λ m. TellsTurn m s.budget s.bounds event s.state text s'.state) has.machine_is h.turn)),
        record { machine_is = h.same_machine ∙ has.machine_is; budget_is = h.same_budget ∙ has.budget_is; bounds_is = h.same_bounds ∙ has.bounds_is },
      )

  pub record LinesOf (s : Standing) (lines : List (List ℕ)) (text : List ℕ) (s' : Standing) : Type 0 where
    pub answers : AnswersAll Lawful s.state lines text s'.state
    pub has : Has s'

  pub all_lines : (lines : List (List ℕ)) (text : List ℕ) (s s' : Standing) → Has s → AnswersAll (AnswersLine Tells) s lines text s' → LinesOf s lines text s'
  all_lines [] text s s' has (none, same) = record { answers = (none, ap (λ (x : Standing). x.state) same); has = subst Has (sym same) has }
  all_lines (line ∷ lines) text s s' has (told, (mid, (rest, one, others, same))) =
      let first = one_line s mid line told has one in
      let more = all_lines lines rest mid s' first.has others in
      record { answers = (told, (mid.state, (rest, first.answers, more.answers, same))); has = more.has }

  -- where a session stands in this state
  abbrev pub at_state : SessionState → Standing
  at_state live = record { machine = machine; budget = nodes; bounds = bounds; state = live }

  pub starts : (live : SessionState) → Has (at_state live)
  starts live = record { machine_is = refl; budget_is = refl; bounds_is = refl }

  abbrev seen_place : Place Standing → Place SessionState
  seen_place at = place_of at.state.state at.count at.taken

  seen_stop : (stop : Stop) (left left' : Option (List ℕ)) (rest : List ℕ) (at : Place Standing) (s : Standing) (taken' : Option (List ℕ)) → Has at.state
      → StopsBefore (AnswersLine Tells) NoRefusal 4096 1000000 left left' stop rest at s taken' → StopsBefore Lawful NoRefusal 4096 1000000 left left' stop rest (seen_place at) s.state taken'
  seen_stop Memory left left' rest at s taken' has h = h
  seen_stop Refused left left' rest at s taken' has h = absurd h.0.refused
  seen_stop Source left left' rest at s taken' has h = h
  seen_stop (Line n) left left' rest at s taken' has h = h
  seen_stop Lines left left' rest at s taken' has h = h
  seen_stop Sink left left' rest at s taken' has h =
      record { next = h.next; few = h.few; told = h.told; answered = (one_line at.state s h.next.line h.told has h.answered).answers; cut = h.cut }

  module _ (whole live : SessionState) (behind : IsWhole machine whole live) where
    pub scripts_from : (script : List ℕ) (taken taken' : Option (List ℕ)) (s : Standing) → TakesAll (AnswersLine Tells) 4096 1000000 (place_of (at_state live) 0 taken) script s taken'
        → IsAnswered machine nodes bounds whole script taken taken'
    scripts_from script taken taken' s h =
        scripts_lawful machine nodes bounds whole live behind script taken taken' s.state (record {
          fit = h.fit;
          few = h.few;
          text = h.text;
          answered = (all_lines (lines_of script) h.text (at_state live) s (starts live) h.answered).answers;
          written = h.written;
        })

    pub stops_from : (stop : Stop) (script : List ℕ) (left left' taken taken' : Option (List ℕ)) (s : Standing)
        → Stops (AnswersLine Tells) NoRefusal 4096 1000000 left left' (place_of (at_state live) 0 taken) script stop s taken' → IsAnsweredTo machine nodes bounds whole stop script left left' taken taken'
    stops_from stop script left left' taken taken' s h =
        let t = h.takes in
        let lines = all_lines (lines_of t.done) t.text (at_state live) h.at.state (starts live) t.answered in
        stops_lawful machine nodes bounds whole live behind stop script left left' taken taken' s.state (record {
          rest = h.rest;
          at = seen_place h.at;
          takes = record {
            done = t.done;
            bytes_are = t.bytes_are;
            whole = t.whole;
            fit = t.fit;
            text = t.text;
            answered = lines.answers;
            written = t.written;
            counted = t.counted;
          };
          few = h.few;
          stops = seen_stop stop left left' h.rest h.at s taken' lines.has h.stops;
        })

  pub sessions_lawful : (script : List ℕ) (taken taken' : Option (List ℕ)) (s : Standing) → TakesAll (AnswersLine Tells) 4096 1000000 (place_of (at_state empty_state) 0 taken) script s taken'
      → IsAnswered machine nodes bounds empty_state script taken taken'
  sessions_lawful = scripts_from empty_state empty_state (whole-empty machine nodes bounds)

  pub sessions_stop : (stop : Stop) (script : List ℕ) (left left' taken taken' : Option (List ℕ)) (s : Standing)
      → Stops (AnswersLine Tells) NoRefusal 4096 1000000 left left' (place_of (at_state empty_state) 0 taken) script stop s taken' → IsAnsweredTo machine nodes bounds empty_state stop script left left' taken taken'
  sessions_stop = stops_from empty_state empty_state (whole-empty machine nodes bounds)

  -- events without lines around them
  pub record EventsOf (s : Standing) (events : List Event) (text : List ℕ) (s' : Standing) : Type 0 where
    pub tells : TellsAll (TellsEvent machine nodes bounds) s.state events text s'.state

  pub all_events : (events : List Event) (text : List ℕ) (s s' : Standing) → Has s → TellsAll Tells s events text s' → EventsOf s events text s'
  all_events [] text s s' has (none, same) = record { tells = (none, ap (λ (x : Standing). x.state) same) }
  all_events (event ∷ events) text s s' has (told, (mid, (rest, one, others, same))) =
      let has-mid : Has mid = record { machine_is = one.same_machine ∙ has.machine_is; budget_is = one.same_budget ∙ has.budget_is; bounds_is = one.same_bounds ∙ has.bounds_is } in
      let first = subst (λ b. TellsTurn machine nodes b event s.state told mid.state) has.bounds_is
      (subst (λ n. TellsTurn machine n s.bounds event s.state told mid.state) has.budget_is (subst (λ m. TellsTurn m s.budget s.bounds event s.state told mid.state) has.machine_is one.turn)) in
      record { tells = (told, (mid.state, (rest, first, (all_events events rest mid s' has-mid others).tells, same))) }

  pub sessions_tell : (events : List Event) (text : List ℕ) (s : Standing) → TellsAll Tells (at_state empty_state) events text s → IsRunOf machine nodes bounds events text
  sessions_tell events text s h = events_lawful machine nodes bounds events text s.state (all_events events text (at_state empty_state) s (starts empty_state) h).tells

pub sessions_tell_lines : SessionsTellLines
sessions_tell_lines event s s' text h = turns_tell_lines s.machine s.budget s.bounds event s.state s'.state text h.turn
