-- The answers of a run: which they are, that they are right, and that the records tell them in their order.
use Rattle.std.proofs.Common.{◌≡◌, ℕ, Bool, true, false, List, [], ◌∷◌, ◌++◌, map, filter, flat_map, refl, sym, ap, ◌∙◌, All, subst, Option, Some, None, append_assoc}
use Rattle.std.proofs.lemmas.Grind.{flat_map-append}
use Rattle.std.proofs.lemmas.List.{append-nil}
use Rattle.std.proofs.lemmas.List.Concat.{flat_map-cons}
use Rattle.std.proofs.lemmas.List.Elements.{All-append, All-cons, All-nil, filter-append}
use Rattle.std.specs.Bool.{MatchBool}
use Rattle.std.specs.Option.{MatchOption}
use Rattle.tp_machine.specs.declared.machine.Machine.{Machine}
use Rattle.tp_script.specs.declared.event.Event.{Event}
use Rattle.tp_script.specs.declared.event.Event.TheVariants.{Bad, Job as NewJob, Clock, Jam, Off, On, Refill}
use Rattle.tp_jobs.specs.Backlogs.{tray_of}
use Rattle.tp_jobs.specs.declared.parts.Job.{Job}
use Rattle.tp_jobs.specs.declared.parts.WaitingCopy.{WaitingCopy}
use Rattle.tp_schedule.specs.Answers.{kept_of}
use Rattle.tp_schedule.specs.PlannerAnswers.{Deed, IsAnswer}
use Rattle.tp_schedule.specs.PlannerAnswers.Deed.{replied, settled}
use Rattle.tp_schedule.specs.Plans.{plan_of, without}
use Rattle.tp_schedule.specs.declared.parts.Ask.{Ask}
use Rattle.tp_schedule.specs.declared.parts.Plan.{Plan}
use Rattle.tp_schedule.specs.declared.parts.Reply.{Reply}
use Rattle.tp_schedule.specs.declared.parts.Reply.TheVariants.{Planned, Never, Spent}
use Rattle.tp_schedule.specs.declared.records.Cause.{Cause}
use Rattle.tp_schedule.specs.declared.records.Record.{Record}
use Rattle.tp_schedule.specs.declared.records.Record.TheVariants.{Refused, FullUp}
use Rattle.tp_event_rules.specs.AnswerRecords.{Answer, moves, told_of_planned, told_of_reply}
use Rattle.tp_event_rules.specs.AskPhase.{AsksInTurn, ask_waiting, is_full, is_passed_over, passed_after, state_after_reply}
use Rattle.tp_event_rules.specs.Clock.{clock_records, clock_tells, record_of}
use Rattle.tp_event_rules.specs.declared.tell.Tell.{Tell}
use Rattle.tp_event_rules.specs.declared.tell.Tell.TheVariants.{Done as TellsDone, Release as TellsRelease}
use Rattle.tp_event_rules.specs.Labels.{label}
use Rattle.tp_event_rules.specs.Logs.{Entry, Run, TreeClaims, right_answers}
use Rattle.tp_event_rules.specs.Loops.{after_answers, after_asked, after_one, after_reply}
use Rattle.tp_event_rules.specs.Outages.{outage}
use Rattle.tp_event_rules.specs.Planners.{AnswersInTurn, GoesOut, IsRight, PlannerSteps, RunsLoop}
use Rattle.tp_event_rules.specs.Deliveries.{records_of}
use Rattle.tp_event_rules.specs.Refusals.{refusal}
use Rattle.tp_event_rules.specs.States.{SessionState}
use Rattle.tp_event_rules.specs.Turns.{Accepts, Begins, Turn}
use Rattle.tp_event_rules.proofs.AskSteps.{AsksFirst, TellsFull}
use Rattle.tp_headline.specs.Given.{Answers, Given, given_answers, is_answer, told_by, told_of_given}
use Rattle.tp_headline.proofs.Plain.{none-answered, plain-after, plain-moves, plain-outage}

-- what is reported of an answer, and of a move of the clock
told-reply : (machine : Machine) (plans : List Plan) (ask : Ask) (reply : Reply) (after : List Plan) → filter is_answer (told_of_reply machine plans ask reply after) ≡ told_of_given machine ask reply after
told-reply machine plans ask Planned after =
    filter-append is_answer (told_of_planned machine (kept_of ask) (plan_of ask.sheet after)) (moves (without ask.sheet plans) (without ask.sheet after))
    ∙ ap (λ l. filter is_answer (told_of_planned machine (kept_of ask) (plan_of ask.sheet after)) ++ l) (none-answered _ (plain-moves (without ask.sheet plans) (without ask.sheet after)))
    ∙ append-nil _ ∙ go (plan_of ask.sheet after) where
      go : (o : Option Plan) → filter is_answer (told_of_planned machine (kept_of ask) o) ≡ told_of_planned machine (kept_of ask) o
      go None = refl
      go (Some p) = refl
told-reply machine plans ask Never after = refl
told-reply machine plans ask (Spent bound) after = refl

told-clock : (machine : Machine) (jobs : List Job) (tells : List Tell) → filter is_answer (map (record_of machine jobs) tells) ≡ []
told-clock machine jobs [] = refl
told-clock machine jobs (TellsDone sheet place at ∷ tells) = told-clock machine jobs tells
told-clock machine jobs (TellsRelease sheet number act start end ∷ tells) = told-clock machine jobs tells

-- the answers lead a planner on, one after another
abbrev pub LeadsBy : {P : Type 0} → PlannerSteps P → P → List Given → P → Type 0
LeadsBy steps p [] p' = p' ≡ p
LeadsBy {P} steps p (g ∷ given) p' = (mid : P) × steps.does p g.plans (replied g.ask g.reply) g.after mid × LeadsBy steps mid given p'

both-lead : {P : Type 0} (steps : PlannerSteps P) (p mid p' : P) (given given' : List Given) → LeadsBy steps p given mid → LeadsBy steps mid given' p' → LeadsBy steps p (given ++ given') p'
both-lead steps p mid p' [] given' stays leads = subst (λ x. LeadsBy steps x given' p') stays leads
both-lead steps p mid p' (g ∷ given) given' (next, does, leads) more = (next, does, both-lead steps next mid p' given given' leads more)

module _ (spent : Machine → List Plan → Ask → ℕ → Type 0) (machine : Machine) where
  abbrev pub IsRightGiven : Given → Type 0
  IsRightGiven g = IsAnswer spent machine g.plans g.ask g.reply g.after

  -- the answers are right, and the records tell them
  pub record AreTold (given : List Given) (records : List Record) : Type 0 where
    pub right : All IsRightGiven given
    pub told : filter is_answer records ≡ flat_map (told_by machine) given

  none-told : (records : List Record) → filter is_answer records ≡ [] → AreTold [] records
  none-told records e = record { right = All-nil IsRightGiven; told = e }

  both-told : (given given' : List Given) (records records' : List Record) → AreTold given records → AreTold given' records' → AreTold (given ++ given') (records ++ records')
  both-told given given' records records' a b = record {
    right = All-append IsRightGiven given given' a.right b.right;
    told = filter-append is_answer records records' ∙ (λ i. a.told i ++ b.told i) ∙ sym (flat_map-append (told_by machine) given given');
  }

  more-told : (given : List Given) (records records' : List Record) → AreTold given records → filter is_answer records' ≡ [] → AreTold given (records ++ records')
  more-told given records records' a e = record { right = a.right; told = filter-append is_answer records records' ∙ (λ i. a.told i ++ e i) ∙ append-nil (flat_map (told_by machine) given) }

  before-told : (given : List Given) (records records' : List Record) → filter is_answer records ≡ [] → AreTold given records' → AreTold given (records ++ records')
  before-told given records records' e a = record { right = a.right; told = filter-append is_answer records records' ∙ (λ i. e i ++ a.told i) }

  -- one answer
  one-told : (g : Given) (records : List Record) → IsRightGiven g → filter is_answer records ≡ told_by machine g → AreTold (g ∷ []) records
  one-told g records right e = record { right = All-cons IsRightGiven g [] right (All-nil IsRightGiven); told = e ∙ sym (append-nil (told_by machine g)) ∙ sym (flat_map-cons (told_by machine) g []) }

  told-after : (ask : Ask) (reply : Reply) (plans : List Plan) (s : SessionState) → filter is_answer (told_of_reply machine s.plans ask reply plans ++ (after_reply machine ask reply plans s).records) ≡ told_of_given machine ask reply plans
  told-after ask reply plans s =
      filter-append is_answer (told_of_reply machine s.plans ask reply plans) (after_reply machine ask reply plans s).records
      ∙ (λ i. told-reply machine s.plans ask reply plans i ++ none-answered (after_reply machine ask reply plans s).records (plain-after machine ask reply plans s) i)
      ∙ append-nil (told_of_given machine ask reply plans)

  module _ {P : Type 0} (steps : PlannerSteps P) (right : (p : P) (plans : List Plan) (deed : Deed) (plans' : List Plan) (p' : P) → steps.does p plans deed plans' p' → IsRight spent machine plans deed plans')
      (settles : (p : P) (plans : List Plan) (now : ℕ) (plans' : List Plan) (p' : P) → steps.does p plans (settled now) plans' p' → p' ≡ p) where
    record Loops (s : SessionState) (answers : List Answer) (p p' : P) (rest : List Given) : Type 0 where
      given : List Given
      leads : LeadsBy steps p given p'
      in_turn : AnswersInTurn (given_answers spent machine) machine s answers (given ++ rest) rest
      told : AreTold given (after_answers machine answers s).records

    loops : (s : SessionState) (answers : List Answer) (p p' : P) → AnswersInTurn steps machine s answers p p' → (rest : List Given) → Loops s answers p p' rest
    loops s [] p p' in_turn rest = record { given = []; leads = in_turn; in_turn = refl; told = none-told [] refl }
    loops s (a ∷ answers) p p' (ask, e, (between, does, turns)) rest =
        let r = loops (after_one machine s a).state answers between p' turns rest in
        let g : Given = record { plans = s.plans; ask = ask; reply = a.reply; after = a.plans } in
        let is : IsRightGiven g = right p s.plans (replied ask a.reply) a.plans between does in
        let told : filter is_answer (after_one machine s a).records ≡ told_by machine g = subst (λ o. filter is_answer (after_asked machine s o a).records ≡ told_by machine g) (sym e) (told-after ask a.reply a.plans s) in
        record {
          given = g ∷ r.given;
          leads = (between, does, r.leads);
          in_turn = (ask, e, (r.given ++ rest, (refl, is), r.in_turn));
          told = both-told (g ∷ []) r.given (after_one machine s a).records (after_answers machine answers (after_one machine s a).state).records (one-told g (after_one machine s a).records is told) r.told;
        }

    -- a part of a turn by the answers that are given in it
    record Part (p p' : P) (IsPart : List Given → Type 0) (records : List Record) : Type 0 where
      given : List Given
      leads : LeadsBy steps p given p'
      part : IsPart given
      told : AreTold given records

    loop-given : (s : SessionState) (p : P) (records : List Record) (s' : SessionState) (p' : P) → RunsLoop steps machine s p records s' p' → (rest : List Given)
        → Part p p' (λ given. RunsLoop (given_answers spent machine) machine s (given ++ rest) records s' rest) records
    loop-given s p records s' p' runs rest =
        let l = loops s runs.answers p runs.mid runs.in_turn rest in
        let t = (after_answers machine runs.answers s).state in
        record {
          given = l.given;
          leads = subst (LeadsBy steps p l.given) (sym (settles runs.mid t.plans s.now runs.plans p' runs.settles)) l.leads;
          part = record {
            answers = runs.answers;
            mid = rest;
            in_turn = l.in_turn;
            none_loose = runs.none_loose;
            plans = runs.plans;
            settles = (refl, right runs.mid t.plans (settled s.now) runs.plans p' runs.settles);
            told = runs.told;
            state = runs.state;
          };
          told = subst (AreTold l.given) (sym runs.told) (more-told l.given (after_answers machine runs.answers s).records (moves t.plans runs.plans) l.told (none-answered _ (plain-moves t.plans runs.plans)));
        }

    out-given : (s : SessionState) (m : ℕ) (jam : Bool) (p : P) (records : List Record) (s' : SessionState) (p' : P) → GoesOut steps machine s m jam p records s' p' → (rest : List Given)
        → Part p p' (λ given. GoesOut (given_answers spent machine) machine s m jam (given ++ rest) records s' rest) records
    out-given s m jam p records s' p' out rest =
        let l = loop-given (outage machine m jam s).state p out.rest s' p' out.loop rest in
        record {
          given = l.given;
          leads = l.leads;
          part = record { rest = out.rest; told = out.told; loop = l.part };
          told = subst (AreTold l.given) (sym out.told) (before-told l.given (outage machine m jam s).records out.rest (none-answered _ (plain-outage machine m jam s)) l.told);
        }

    -- the phase of asks
    asks-given : (waiting : List WaitingCopy) (passed : List ℕ) (s : SessionState) (p : P) (records : List Record) (s' : SessionState) (p' : P) → AsksInTurn steps machine waiting passed s p records s' p' → (rest : List Given)
        → Part p p' (λ given. AsksInTurn (given_answers spent machine) machine waiting passed s (given ++ rest) records s' rest) records
    asks-given [] passed s p records s' p' (told, is, same) rest = record { given = []; leads = same; part = (told, is, refl); told = subst (AreTold []) (sym told) (none-told [] refl) }
    asks-given (w ∷ waiting) passed s p records s' p' asks rest =
        go (is_passed_over s passed w) refl (is_full machine s) refl asks
        (λ next. asks-given waiting passed s p records s' p' next rest)
        (λ more next. asks-given waiting ((tray_of s.jobs w.sheet).0 ∷ passed) s p more s' p' next rest)
        (λ reply plans mid more next. asks-given waiting (passed_after reply (tray_of s.jobs w.sheet).0 passed) (state_after_reply s w reply plans) mid more s' p' next rest) where
          go : (b : Bool) → is_passed_over s passed w ≡ b → (c : Bool) → is_full machine s ≡ c → MatchBool b (AsksInTurn steps machine waiting passed s p records s' p')
              (MatchBool c (TellsFull steps machine w waiting passed s p records s' p') (AsksFirst steps machine w waiting passed s p records s' p'))
              → (AsksInTurn steps machine waiting passed s p records s' p' → Part p p' (λ given. AsksInTurn (given_answers spent machine) machine waiting passed s (given ++ rest) records s' rest) records)
              → ((more : List Record) → AsksInTurn steps machine waiting ((tray_of s.jobs w.sheet).0 ∷ passed) s p more s' p'
              → Part p p' (λ given. AsksInTurn (given_answers spent machine) machine waiting ((tray_of s.jobs w.sheet).0 ∷ passed) s (given ++ rest) more s' rest) more)
              → ((reply : Reply) (plans : List Plan) (mid : P) (more : List Record)
              → AsksInTurn steps machine waiting (passed_after reply (tray_of s.jobs w.sheet).0 passed) (state_after_reply s w reply plans) mid more s' p'
              → Part mid p' (λ given. AsksInTurn (given_answers spent machine) machine waiting (passed_after reply (tray_of s.jobs w.sheet).0 passed) (state_after_reply s w reply plans) (given ++ rest) more s' rest) more)
              → Part p p' (λ given. MatchBool b (AsksInTurn (given_answers spent machine) machine waiting passed s (given ++ rest) records s' rest)
              (MatchBool c (TellsFull (given_answers spent machine) machine w waiting passed s (given ++ rest) records s' rest) (AsksFirst (given_answers spent machine) machine w waiting passed s (given ++ rest) records s' rest))) records
          go true e c f next over full answered = let r = over next in record { given = r.given; leads = r.leads; part = r.part; told = r.told }
          go false e true f (more, told, next) over full answered =
              let r = full more next in
              record { given = r.given; leads = r.leads; part = (more, told, r.part); told = subst (AreTold r.given) (sym told) (before-told r.given (FullUp (label s.jobs w.sheet) ∷ []) more refl r.told) }
          go false e false f (reply, (plans, (mid, (more, does, told, next)))) over full answered =
              let r = answered reply plans mid more next in
              let g : Given = record { plans = s.plans; ask = ask_waiting machine s w; reply = reply; after = plans } in
              let is : IsRightGiven g = right p s.plans (replied (ask_waiting machine s w) reply) plans mid does in
              record {
                given = g ∷ r.given;
                leads = (mid, does, r.leads);
                part = (reply, (plans, (r.given ++ rest, (more, (refl, is), told, r.part))));
                told = subst (AreTold (g ∷ r.given)) (sym told)
                    (both-told (g ∷ []) r.given (told_of_reply machine s.plans (ask_waiting machine s w) reply plans) more
                    (one-told g (told_of_reply machine s.plans (ask_waiting machine s w) reply plans) is (told-reply machine s.plans (ask_waiting machine s w) reply plans)) r.told);
              }

    -- an event's own part
    begins-given : (event : Event) (s : SessionState) (p : P) (records : List Record) (s' : SessionState) (p' : P) → Begins steps machine event s p records s' p' → (rest : List Given)
        → Part p p' (λ given. Begins (given_answers spent machine) machine event s (given ++ rest) records s' rest) records
    begins-given Bad s p records s' p' none rest = absurd none
    begins-given (NewJob name tray media groups) s p records s' p' (told, is, same) rest = record { given = []; leads = same; part = (told, is, refl); told = subst (AreTold []) (sym told) (none-told [] refl) }
    begins-given (Clock to) s p records s' p' (told, is, same) rest =
        record { given = []; leads = same; part = (told, is, refl); told = subst (AreTold []) (sym told) (none-told (clock_records machine s to) (told-clock machine s.jobs (clock_tells machine s.now to s.plans))) }
    begins-given (Jam name) s p records s' p' (m, of, out) rest = let l = out-given s m true p records s' p' out rest in record { given = l.given; leads = l.leads; part = (m, of, l.part); told = l.told }
    begins-given (Off name) s p records s' p' (m, of, out) rest = let l = out-given s m false p records s' p' out rest in record { given = l.given; leads = l.leads; part = (m, of, l.part); told = l.told }
    begins-given (On name) s p records s' p' (m, of, told, is, same) rest = record { given = []; leads = same; part = (m, of, told, is, refl); told = subst (AreTold []) (sym told) (none-told [] refl) }
    begins-given (Refill name count) s p records s' p' (f, of, told, is, same) rest = record { given = []; leads = same; part = (f, of, told, is, refl); told = subst (AreTold []) (sym told) (none-told [] refl) }

    -- a turn
    turn-given : (event : Event) (s : SessionState) (p : P) (records : List Record) (s' : SessionState) (p' : P) → Turn steps machine event s p records s' p' → (rest : List Given)
        → Part p p' (λ given. Turn (given_answers spent machine) machine event s (given ++ rest) records s' rest) records
    turn-given event s p records s' p' turn rest = go (refusal machine s event) turn where
      go : (o : Option Cause) → MatchOption o (Accepts steps machine event s p records s' p') (λ cause. (records ≡ Refused cause ∷ []) × (s' ≡ s) × (p' ≡ p))
          → Part p p' (λ given. MatchOption o (Accepts (given_answers spent machine) machine event s (given ++ rest) records s' rest) (λ cause. (records ≡ Refused cause ∷ []) × (s' ≡ s) × (rest ≡ given ++ rest))) records
      go (Some cause) (told, is, same) = record { given = []; leads = same; part = (told, is, refl); told = subst (AreTold []) (sym told) (none-told (Refused cause ∷ []) refl) }
      go None a =
          let asks = asks-given a.between.waiting [] a.between a.mid a.rest s' p' a.asks rest in
          let begun = begins-given event s p a.first a.between a.mid a.begins (asks.given ++ rest) in
          record {
            given = begun.given ++ asks.given;
            leads = both-lead steps p a.mid p' begun.given asks.given begun.leads asks.leads;
            part = record {
              first = a.first;
              between = a.between;
              mid = asks.given ++ rest;
              begins = subst (λ l. Begins (given_answers spent machine) machine event s l a.first a.between (asks.given ++ rest)) (sym (append_assoc begun.given asks.given rest)) begun.part;
              rest = a.rest;
              asks = asks.part;
              told = a.told;
            };
            told = subst (AreTold (begun.given ++ asks.given)) (sym a.told) (both-told begun.given asks.given a.first a.rest begun.told asks.told);
          }

-- the answers of a turn of right answers, which take its trees one after another
pub record TurnGives {T : Type 0} (claims : TreeClaims T) (shown : Bool) (spent : Machine → List Plan → Ask → ℕ → Type 0) (machine : Machine) (s : SessionState) (entry : Entry T) (mid : SessionState) (rest : List Given) : Type 0 where
  pub given : List Given
  pub takes : LeadsBy (right_answers claims shown spent machine) entry.trees given []
  pub turn : Turn (given_answers spent machine) machine entry.event s (given ++ rest) entry.records mid rest
  pub told : AreTold spent machine given entry.records

pub turn-gives : {T : Type 0} (claims : TreeClaims T) (shown : Bool) (spent : Machine → List Plan → Ask → ℕ → Type 0) (machine : Machine) (s : SessionState) (entry : Entry T) (mid : SessionState) (rest : List Given)
    → Turn (right_answers claims shown spent machine) machine entry.event s entry.trees entry.records mid [] → TurnGives claims shown spent machine s entry mid rest
turn-gives claims shown spent machine s entry mid rest turn =
    let t = turn-given spent machine (right_answers claims shown spent machine) (λ p plans deed plans' p' does. does.0) (λ p plans now plans' p' does. does.1) entry.event s entry.trees entry.records mid [] turn rest in
    record { given = t.given; takes = t.leads; turn = t.part; told = t.told }

-- a run
pub record RunGives {T : Type 0} (spent : Machine → List Plan → Ask → ℕ → Type 0) (machine : Machine) (s : SessionState) (log : List (Entry T)) (last : SessionState) : Type 0 where
  pub given : List Given
  pub answers : Answers spent machine s log given last
  pub told : AreTold spent machine given (records_of log)

pub run-gives : {T : Type 0} (claims : TreeClaims T) (shown : Bool) (spent : Machine → List Plan → Ask → ℕ → Type 0) (machine : Machine) (s : SessionState) (log : List (Entry T)) (last : SessionState)
    → Run claims shown spent machine s log last → RunGives spent machine s log last
run-gives claims shown spent machine s [] last is = record { given = []; answers = (refl, is); told = none-told spent machine [] refl }
run-gives claims shown spent machine s (entry ∷ log) last (mid, turn, run) =
    let r = run-gives claims shown spent machine mid log last run in
    let t = turn-gives claims shown spent machine s entry mid r.given turn in
    record {
      given = t.given ++ r.given;
      answers = (mid, (r.given, t.turn, r.answers));
      told = subst (AreTold spent machine (t.given ++ r.given)) (sym (flat_map-cons (λ e. e.records) entry log)) (both-told spent machine t.given r.given entry.records (records_of log) t.told r.told);
    }
