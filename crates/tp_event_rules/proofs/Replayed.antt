-- A turn that is played from a list of deeds is a turn by the planner that takes them from the list.
use Rattle.std.proofs.Common.{◌≡◌, ℕ, Bool, true, false, List, [], ◌∷◌, ◌++◌, Option, Some, None, refl, sym, append_assoc, append-nil, ◌∙◌, ap, subst}
use Rattle.std.specs.Bool.{MatchBool}
use Rattle.std.specs.Option.{MatchOption}
use Rattle.std.proofs.lemmas.Bool.{and_parts}
use Rattle.tp_machine.specs.declared.machine.Machine.{Machine}
use Rattle.tp_script.specs.declared.event.Event.{Event}
use Rattle.tp_script.specs.declared.event.Event.TheVariants.{Bad, Job as NewJob, Clock, Jam, Off, On, Refill}
use Rattle.tp_jobs.specs.declared.parts.WaitingCopy.{WaitingCopy}
use Rattle.tp_schedule.specs.declared.records.Cause.{Cause}
use Rattle.tp_schedule.specs.declared.records.Record.{Record}
use Rattle.tp_schedule.specs.declared.records.Record.TheVariants.{FullUp, Refused}
use Rattle.tp_schedule.specs.declared.parts.Ask.{Ask}
use Rattle.tp_schedule.specs.declared.parts.Plan.{Plan}
use Rattle.tp_schedule.specs.declared.parts.Reply.{Reply}
use Rattle.tp_jobs.specs.Backlogs.{tray_of}
use Rattle.tp_event_rules.specs.States.{SessionState}
use Rattle.tp_event_rules.specs.Labels.{label}
use Rattle.tp_event_rules.specs.Refusals.{refusal, module_of}
use Rattle.tp_event_rules.specs.AnswerRecords.{told_of_reply, moves}
use Rattle.tp_event_rules.specs.AskPhase.{AsksInTurn, ask_waiting, is_passed_over, is_full, passed_after, state_after_reply}
use Rattle.tp_event_rules.specs.Loops.{next_ask, after_one, after_answers}
use Rattle.tp_event_rules.specs.Clock.{clock_move}
use Rattle.tp_event_rules.specs.Outages.{outage}
use Rattle.tp_event_rules.specs.Planners.{RunsLoop, GoesOut}
use Rattle.tp_event_rules.specs.Turns.{Begins, Accepts, Turn, with_on, with_refill}
use Rattle.tp_event_rules.proofs.Replay.{Given, answers, settles, listed, Played, answer, play_asks, play_loop, play_out, play_begin, play_by, play, turn_played, play_on, play_refill, loop_on, loop_end, told_first, told_full, pass_over, chosen}
use Rattle.tp_machine.specs.declared.parts.Feeder.{Feeder}
use Rattle.tp_stock.specs.Stock.{feeder_named}

-- the phase of asks
abbrev AsksLead : Machine → List WaitingCopy → List ℕ → SessionState → List Given → Played → Type 0
AsksLead machine ws passed s left p = AsksInTurn listed machine ws passed s left p.records p.state p.left

abbrev CopyLeads : Machine → WaitingCopy → List WaitingCopy → List ℕ → SessionState → List Given → Played → Bool → Bool → Type 0
CopyLeads machine w ws passed s left p over full =
    MatchBool over (AsksLead machine ws passed s left p)
    (MatchBool full
    ((rest : List Record) × (p.records ≡ FullUp (label s.jobs w.sheet) ∷ rest) × AsksInTurn listed machine ws (pass_over s passed w) s left rest p.state p.left)
    ((reply : Reply) × ((plans : List Plan) × ((mid : List Given) × ((rest : List Record)
    × (left ≡ answers reply plans ∷ mid)
    × (p.records ≡ told_of_reply machine s.plans (ask_waiting machine s w) reply plans ++ rest)
    × AsksInTurn listed machine ws (passed_after reply (tray_of s.jobs w.sheet).0 passed) (state_after_reply s w reply plans) mid rest p.state p.left)))))

copy-leads : (machine : Machine) (w : WaitingCopy) (ws : List WaitingCopy) (passed : List ℕ) (s : SessionState) (over full : Bool) (left : List Given)
    → (p : List Given → Played) → ((l : List Given) → (p l).fits ≡ true → AsksLead machine ws passed s l (p l))
    → (q : List Given → Played) → ((l : List Given) → (q l).fits ≡ true → AsksLead machine ws (pass_over s passed w) s l (q l))
    → (r : Reply → List Plan → List Given → Played)
    → ((reply : Reply) (plans : List Plan) (l : List Given) → (r reply plans l).fits ≡ true
    → AsksLead machine ws (passed_after reply (tray_of s.jobs w.sheet).0 passed) (state_after_reply s w reply plans) l (r reply plans l))
    → (chosen over full s left p (λ l. told_first (told_full s w) (q l)) (λ reply plans l. told_first (told_of_reply machine s.plans (ask_waiting machine s w) reply plans) (r reply plans l))).fits ≡ true
    → CopyLeads machine w ws passed s left
    (chosen over full s left p (λ l. told_first (told_full s w) (q l)) (λ reply plans l. told_first (told_of_reply machine s.plans (ask_waiting machine s w) reply plans) (r reply plans l)))
    over full
copy-leads machine w ws passed s true full left p by_p q by_q r by_r fits = by_p left fits
copy-leads machine w ws passed s false true left p by_p q by_q r by_r fits = ((q left).records, refl, by_q left fits)
copy-leads machine w ws passed s false false [] p by_p q by_q r by_r fits = absurd (cc)
copy-leads machine w ws passed s false false (settles plans ∷ left) p by_p q by_q r by_r fits = absurd (cc)
copy-leads machine w ws passed s false false (answers reply plans ∷ left) p by_p q by_q r by_r fits =
    (reply, (plans, (left, ((r reply plans left).records, refl, refl, by_r reply plans left fits))))

played-asks : (machine : Machine) (ws : List WaitingCopy) (passed : List ℕ) (s : SessionState) (left : List Given)
    → (play_asks machine ws passed s left).fits ≡ true → AsksLead machine ws passed s left (play_asks machine ws passed s left)
played-asks machine [] passed s left fits = (refl, refl, refl)
played-asks machine (w ∷ ws) passed s left fits =
    copy-leads machine w ws passed s (is_passed_over s passed w) (is_full machine s) left
    (play_asks machine ws passed s) (played-asks machine ws passed s)
    (play_asks machine ws (pass_over s passed w) s) (played-asks machine ws (pass_over s passed w) s)
    (λ reply plans. play_asks machine ws (passed_after reply (tray_of s.jobs w.sheet).0 passed) (state_after_reply s w reply plans))
    (λ reply plans. played-asks machine ws (passed_after reply (tray_of s.jobs w.sheet).0 passed) (state_after_reply s w reply plans))
    fits

-- the loop, and the settling at its end
abbrev LoopLeads : Machine → SessionState → List Given → Played → Type 0
LoopLeads machine s left p = RunsLoop listed machine s left p.records p.state p.left

loop-ends : (machine : Machine) (s : SessionState) (plans : List Plan) (left : List Given) (o : Option Ask) → next_ask machine s ≡ o → (loop_end o s plans left).fits ≡ true
    → LoopLeads machine s (settles plans ∷ left) (loop_end o s plans left)
loop-ends machine s plans left None e fits =
    record { answers = []; mid = settles plans ∷ left; in_turn = refl; none_loose = e; plans = plans; settles = refl; told = refl; state = refl }
loop-ends machine s plans left (Some ask) e fits = absurd (cc)

loop-goes-on : (machine : Machine) (s : SessionState) (reply : Reply) (plans : List Plan) (left : List Given) (o : Option Ask) → next_ask machine s ≡ o
    → (p : Played) → (p.fits ≡ true → LoopLeads machine (after_one machine s (answer reply plans)).state left p)
    → (loop_on o s (λ ask. told_first (after_one machine s (answer reply plans)).records p)).fits ≡ true
    → LoopLeads machine s (answers reply plans ∷ left) (loop_on o s (λ ask. told_first (after_one machine s (answer reply plans)).records p))
loop-goes-on machine s reply plans left None e p by_p fits = absurd (cc)
loop-goes-on machine s reply plans left (Some ask) e p by_p fits =
    let rest : LoopLeads machine (after_one machine s (answer reply plans)).state left p = by_p fits in
    record {
      answers = answer reply plans ∷ rest.answers;
      mid = rest.mid;
      in_turn = (ask, e, (left, refl, rest.in_turn));
      none_loose = rest.none_loose;
      plans = rest.plans;
      settles = rest.settles;
      told = ap (λ l. (after_one machine s (answer reply plans)).records ++ l) rest.told
          ∙ sym (append_assoc (after_one machine s (answer reply plans)).records (after_answers machine rest.answers (after_one machine s (answer reply plans)).state).records
          (moves (after_answers machine rest.answers (after_one machine s (answer reply plans)).state).state.plans rest.plans));
      state = rest.state;
    }

played-loop : (machine : Machine) (s : SessionState) (left : List Given) → (play_loop machine s left).fits ≡ true → LoopLeads machine s left (play_loop machine s left)
played-loop machine s [] fits = absurd (cc)
played-loop machine s (settles plans ∷ left) fits = loop-ends machine s plans left (next_ask machine s) refl fits
played-loop machine s (answers reply plans ∷ left) fits =
    loop-goes-on machine s reply plans left (next_ask machine s) refl (play_loop machine (after_one machine s (answer reply plans)).state left)
    (played-loop machine (after_one machine s (answer reply plans)).state left) fits

-- a module goes out
abbrev OutLeads : Machine → Option ℕ → Bool → SessionState → List Given → Played → Type 0
OutLeads machine o jam s left p = (m : ℕ) × (o ≡ Some m) × GoesOut listed machine s m jam left p.records p.state p.left

played-out : (machine : Machine) (o : Option ℕ) (jam : Bool) (s : SessionState) (left : List Given) → (play_out machine o jam s left).fits ≡ true → OutLeads machine o jam s left (play_out machine o jam s left)
played-out machine None jam s left fits = absurd (cc)
played-out machine (Some m) jam s left fits =
    (m, refl, record { rest = (play_loop machine (outage machine m jam s).state left).records; told = refl; loop = played-loop machine (outage machine m jam s).state left fits })

played-on : (o : Option ℕ) (s : SessionState) (left : List Given) → (play_on o s left).fits ≡ true
    → (m : ℕ) × (o ≡ Some m) × ((play_on o s left).records ≡ []) × ((play_on o s left).state ≡ with_on m s) × ((play_on o s left).left ≡ left)
played-on None s left fits = absurd (cc)
played-on (Some m) s left fits = (m, refl, refl, refl, refl)

played-refill : (o : Option Feeder) (count : ℕ) (s : SessionState) (left : List Given) → (play_refill o count s left).fits ≡ true
    → (f : Feeder) × (o ≡ Some f) × ((play_refill o count s left).records ≡ []) × ((play_refill o count s left).state ≡ with_refill f count s) × ((play_refill o count s left).left ≡ left)
played-refill None count s left fits = absurd (cc)
played-refill (Some f) count s left fits = (f, refl, refl, refl, refl)

played-begins : (machine : Machine) (event : Event) (s : SessionState) (left : List Given) → (play_begin machine event s left).fits ≡ true
    → Begins listed machine event s left (play_begin machine event s left).records (play_begin machine event s left).state (play_begin machine event s left).left
played-begins machine Bad s left fits = absurd (cc)
played-begins machine (NewJob name tray media groups) s left fits = (refl, refl, refl)
played-begins machine (Clock to) s left fits = (append-nil (clock_move machine to s).records, refl, refl)
played-begins machine (Jam name) s left fits = played-out machine (module_of machine name) true s left fits
played-begins machine (Off name) s left fits = played-out machine (module_of machine name) false s left fits
played-begins machine (On name) s left fits = played-on (module_of machine name) s left fits
played-begins machine (Refill name count) s left fits = played-refill (feeder_named machine name) count s left fits

-- a turn that was played and used up the list is a turn
pub played-turn : (machine : Machine) (event : Event) (s : SessionState) (left : List Given) → (play machine event s left).fits ≡ true
    → Turn listed machine event s left (play machine event s left).records (play machine event s left).state (play machine event s left).left
played-turn machine event s left fits = go (refusal machine s event) fits where
  go : (o : Option Cause) → (play_by o machine event s left).fits ≡ true
      → MatchOption o (Accepts listed machine event s left (play_by o machine event s left).records (play_by o machine event s left).state (play_by o machine event s left).left)
      (λ cause. ((play_by o machine event s left).records ≡ Refused cause ∷ []) × ((play_by o machine event s left).state ≡ s) × ((play_by o machine event s left).left ≡ left))
  go (Some cause) fits = (refl, refl, refl)
  go None fits =
      let both = and_parts (play_begin machine event s left).fits _ fits in
      record {
        first = (play_begin machine event s left).records;
        between = (play_begin machine event s left).state;
        mid = (play_begin machine event s left).left;
        begins = played-begins machine event s left both.0;
        rest = (play_asks machine (play_begin machine event s left).state.waiting [] (play_begin machine event s left).state (play_begin machine event s left).left).records;
        asks = played-asks machine (play_begin machine event s left).state.waiting [] (play_begin machine event s left).state (play_begin machine event s left).left both.1;
        told = refl;
      }

-- so each row is a turn
pub turn-of_row : (machine : Machine) (event : Event) (s : SessionState) (left : List Given) (records : List Record) (s' : SessionState)
    → play machine event s left ≡ turn_played records s' → Turn listed machine event s left records s' []
turn-of_row machine event s left records s' e =
    subst (λ p. p.fits ≡ true → Turn listed machine event s left p.records p.state p.left) e (played-turn machine event s left) refl
