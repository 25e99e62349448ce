-- The headline: the schedule of a lawful log is legal, and each tray receives its line in order.
use Rattle.std.proofs.Common.{◌≡◌, ℕ, ◌≤◌, inl, Bool, true, false, cond, List, [], ◌∷◌, ◌++◌, refl, sym, ap, ◌∙◌, arith, Contains, IsTrue, subst, Option, Some, None}
use Rattle.std.specs.List.{list_any}
use Rattle.std.specs.Option.{MatchOption}
use Rattle.std.proofs.lemmas.List.Elements.{All-nil, All-cons}
use Rattle.std.proofs.lemmas.List.Concat.{flat_map-cons}
use Rattle.std.proofs.lemmas.List.Folds.{list_any_none}
use Rattle.std.proofs.lemmas.List.{append-nil, append_assoc}
use Rattle.tp_machine.specs.declared.machine.Machine.{Machine}
use Rattle.tp_script.specs.Form.{GroupForm}
use Rattle.tp_script.specs.declared.event.Event.{Event}
use Rattle.tp_script.specs.declared.event.Event.TheVariants.{Bad, Job as NewJob, Clock, Jam, Off, On, Refill}
use Rattle.tp_jobs.specs.JobRefusals.{is_tray_name, sheet_count}
use Rattle.tp_jobs.specs.WaitingCopies.{new_job}
use Rattle.tp_jobs.specs.declared.parts.WaitingCopy.{WaitingCopy}
use Rattle.tp_schedule.proofs.Membership.{All-from_contains}
use Rattle.tp_schedule.proofs.Pairs.{AllPairs-nil}
use Rattle.tp_schedule.specs.PlannerAnswers.{Deed}
use Rattle.tp_schedule.specs.declared.parts.Ask.{Ask}
use Rattle.tp_schedule.specs.declared.parts.Plan.{Plan}
use Rattle.tp_schedule.specs.declared.records.Cause.{Cause}
use Rattle.tp_schedule.specs.declared.records.Record.{Record}
use Rattle.tp_schedule.specs.declared.records.Record.TheVariants.{Done, Refused}
use Rattle.tp_event_rules.specs.Laws.{totals_after, totals_by}
use Rattle.tp_event_rules.specs.Clock.{clock_move, clock_records}
use Rattle.tp_event_rules.specs.Logs.{Entry, TreeClaims, right_answers, Run, IsLawful}
use Rattle.tp_event_rules.specs.Planners.{PlannerSteps, IsRight, GoesOut}
use Rattle.tp_event_rules.specs.Deliveries.{Arrival, KeepsHeadline, arrivals, arrival_by, is_earlier, is_refusal, records_of, sheet_ref}
use Rattle.tp_event_rules.specs.Refusals.{refusal}
use Rattle.tp_event_rules.specs.States.{SessionState, empty_state}
use Rattle.tp_event_rules.specs.Turns.{Begins, Accepts, Turn, with_job}
use Rattle.tp_event_rules.proofs.AcceptedTurns.{told-refused}
use Rattle.tp_event_rules.proofs.AskedTurns.{rest-all}
use Rattle.tp_event_rules.proofs.ComesBack.{lines-on, sheets-on}
use Rattle.tp_event_rules.proofs.EmptyState.{kept-empty}
use Rattle.tp_event_rules.proofs.FirstCopies.{accepted-job}
use Rattle.tp_event_rules.proofs.LawfulLogs.{lawful-legal, plannable-empty}
use Rattle.tp_event_rules.proofs.MovedClock.{lines-clock, sheets-clock}
use Rattle.tp_event_rules.proofs.NewJob.{jobs-job, lines-job}
use Rattle.tp_event_rules.proofs.NewSheets.{sheets-job}
use Rattle.tp_event_rules.proofs.PlanOnFacts.{CanPlanOn-clock}
use Rattle.tp_event_rules.proofs.PlannableTurns.{accepted-clock}
use Rattle.tp_event_rules.proofs.ReadyTurns.{broken-clock, broken-job, purges-clock}
use Rattle.tp_event_rules.specs.Ready.{EntersWhereBroken}
use Rattle.tp_event_rules.specs.Seen.{HasStarted}
use Rattle.tp_event_rules.specs.Lines.{is_job_broken}
use Rattle.tp_outage_laws.specs.Through.{KeepsOrder}
use Rattle.tp_headline.proofs.Numbers.{names-apart, told-more, told_jobs, AreNamedApart}
use Rattle.tp_headline.proofs.Follows.{Follows}
use Rattle.tp_headline.proofs.OrderTurns.{Leads, order-asks}
use Rattle.tp_headline.proofs.Locations.{tray-location}
use Rattle.tp_headline.proofs.Steps.{IsNoDelivery, IsQuiet, follows-clock, follows-job, follows-quiet, same-arrived}
use Rattle.tp_stock.specs.Stock.{more_at}
use Rattle.tp_event_rules.proofs.Refilled.{lines-refilled, sheets-refilled}

-- what is to be known of a module that goes out
abbrev pub OutagesLead : {P : Type 0} → PlannerSteps P → Machine → Type 0
OutagesLead {P} steps machine = (totals : List ℕ) (s : SessionState) (m : ℕ) (jam : Bool) (p : P) (records : List Record) (s' : SessionState) (p' : P)
    → GoesOut steps machine s m jam p records s' p' → KeepsOrder machine totals s → Leads machine totals s s' records

module _ {P : Type 0} (steps : PlannerSteps P) (machine : Machine) (spent : P → Machine → List Plan → Ask → ℕ → Type 0)
    (right : (p : P) (plans : List Plan) (deed : Deed) (plans' : List Plan) (p' : P) → steps.does p plans deed plans' p' → IsRight (spent p) machine plans deed plans')
    (out : OutagesLead steps machine) where
  -- the part before the phase of asks, for a job and for the clock, and at one moment
  pub data Begun (totals totals' : List ℕ) (s : SessionState) (records : List Record) (s' : SessionState) : Type 0 where
    comes : (name tray media : List ℕ) (groups : List GroupForm) → records ≡ [] → s' ≡ with_job machine name tray media groups s → is_tray_name machine tray ≡ true → totals' ≡ totals ++ sheet_count groups ∷ [] → Begun totals totals' s records s'
    moves : (to : ℕ) → s.now ≤ to → records ≡ clock_records machine s to → s' ≡ (clock_move machine to s).state → totals' ≡ totals → Begun totals totals' s records s'
    quiet : IsQuiet s s' records → totals' ≡ totals → Begun totals totals' s records s'

  order-begins : (event : Event) (totals : List ℕ) (s : SessionState) (p : P) (records : List Record) (s' : SessionState) (p' : P) → refusal machine s event ≡ None
      → Begins steps machine event s p records s' p' → KeepsOrder machine totals s
      → KeepsOrder machine (totals_by None event totals) s' × Begun totals (totals_by None event totals) s records s'
      × ((rest : List Record) → list_any is_refusal rest ≡ false → told_jobs machine (totals_by None event totals) s'.jobs ≡ told_jobs machine totals s.jobs ++ arrival_by event rest)
  order-begins Bad totals s p records s' p' accepted begins keeps = absurd begins
  order-begins (NewJob name tray media groups) totals s p records s' p' accepted (told, is, same) keeps =
      let ok = accepted-job machine s.jobs _ name tray media groups accepted in (
        subst (KeepsOrder machine (totals ++ sheet_count groups ∷ [])) (sym is) (record {
          jobs = jobs-job machine name tray media groups s ok keeps.jobs;
          lines = lines-job machine name tray media groups s ok keeps.lines;
          sheets = sheets-job machine name tray media groups totals s keeps.lines keeps.sheets;
          plans = keeps.plans;
          broken = broken-job machine name tray media groups s keeps.lines keeps.broken;
          purges = keeps.purges;
        }),
        comes name tray media groups told is ok.is_tray refl,
        λ rest none. ap (λ (t : SessionState). told_jobs machine (totals ++ sheet_count groups ∷ []) t.jobs) is ∙ told-more machine totals s.jobs (sheet_count groups) (new_job machine name tray groups) keeps.sheets.known
            ∙ ap (λ (a : Arrival). told_jobs machine totals s.jobs ++ a ∷ []) (ap (λ n. record { name = name; tray = n; sheets = sheet_count groups }) (tray-location machine tray ok.is_tray).1)
            ∙ ap (λ b. told_jobs machine totals s.jobs ++ cond b [] (record { name = name; tray = tray; sheets = sheet_count groups } ∷ [])) (sym none),
      )
  order-begins (Clock to) totals s p records s' p' accepted (told, is, same) keeps =
      let range = accepted-clock s.now to accepted in (
        subst (KeepsOrder machine totals) (sym is) (record {
          jobs = keeps.jobs;
          lines = lines-clock machine to s keeps.lines;
          sheets = sheets-clock machine to totals s keeps.sheets;
          plans = CanPlanOn-clock machine s.now to s.plans range.0 range.1 keeps.plans;
          broken = broken-clock machine to s range.0 keeps.broken;
          purges = purges-clock machine to s range.0 keeps.purges;
        }),
        moves to range.0 told is refl,
        λ rest none. ap (λ (t : SessionState). told_jobs machine totals t.jobs) is ∙ sym (append-nil (told_jobs machine totals s.jobs)),
      )
  order-begins (Jam name) totals s p records s' p' accepted (m, known, goes) keeps =
      let led = out totals s m true p records s' p' goes keeps in
      (led.0, quiet led.1 refl, λ rest none. same-arrived machine totals s.jobs s'.jobs led.1.jobs ∙ sym (append-nil (told_jobs machine totals s.jobs)))
  order-begins (Off name) totals s p records s' p' accepted (m, known, goes) keeps =
      let led = out totals s m false p records s' p' goes keeps in
      (led.0, quiet led.1 refl, λ rest none. same-arrived machine totals s.jobs s'.jobs led.1.jobs ∙ sym (append-nil (told_jobs machine totals s.jobs)))
  order-begins (On name) totals s p records s' p' accepted (m, known, told, is, same) keeps = (
    subst (KeepsOrder machine totals) (sym is) (record { jobs = keeps.jobs; lines = lines-on machine m s keeps.lines; sheets = sheets-on m totals s keeps.sheets; plans = keeps.plans; broken = record { waiting = keeps.broken.waiting; plans = keeps.broken.plans }; purges = keeps.purges }),
    quiet (subst (λ rs. IsQuiet s s' rs) (sym told) (subst (λ t. IsQuiet s t []) (sym is) (record { now = refl; jobs = refl; broke = λ n e. inl e; to = λ c d. d; from = λ c d. d; none = All-nil _ }))) refl,
    λ rest none. ap (λ (t : SessionState). told_jobs machine totals t.jobs) is ∙ sym (append-nil (told_jobs machine totals s.jobs)),
  )
  order-begins (Refill name count) totals s p records s' p' accepted (f, known, told, is, same) keeps = (
    subst (KeepsOrder machine totals) (sym is) (record { jobs = keeps.jobs; lines = lines-refilled (more_at f.loc.0 count s.refills) s keeps.lines; sheets = sheets-refilled (more_at f.loc.0 count s.refills) totals s keeps.sheets; plans = keeps.plans; broken = record { waiting = keeps.broken.waiting; plans = keeps.broken.plans }; purges = keeps.purges }),
    quiet (subst (λ rs. IsQuiet s s' rs) (sym told) (subst (λ t. IsQuiet s t []) (sym is) (record { now = refl; jobs = refl; broke = λ n e. inl e; to = λ c d. d; from = λ c d. d; none = All-nil _ }))) refl,
    λ rest none. ap (λ (t : SessionState). told_jobs machine totals t.jobs) is ∙ sym (append-nil (told_jobs machine totals s.jobs)),
  )

  -- what a turn gives
  pub record Gives (event : Event) (totals : List ℕ) (s : SessionState) (records : List Record) (s' : SessionState) : Type 0 where
    pub came : told_jobs machine (totals_after machine s event totals) s'.jobs ≡ told_jobs machine totals s.jobs ++ arrival_by event records
    pub order : KeepsOrder machine (totals_after machine s event totals) s'
    pub follows : (all more : List Arrival) (before : List Record) → AreNamedApart all → all ≡ told_jobs machine (totals_after machine s event totals) s'.jobs ++ more → Follows machine totals all before s
        → Follows machine (totals_after machine s event totals) all (before ++ records) s'

  follows-begun : (totals totals' : List ℕ) (s : SessionState) (first : List Record) (s' : SessionState) → Begun totals totals' s first s' → KeepsOrder machine totals s
      → (all more : List Arrival) (before : List Record) → AreNamedApart all → all ≡ told_jobs machine totals' s'.jobs ++ more → Follows machine totals all before s → Follows machine totals' all (before ++ first) s'
  follows-begun totals totals' s first s' (comes name tray media groups told is is_tray same) keeps all more before apart e f =
      subst (λ rs. Follows machine totals' all (before ++ rs) s') (sym told) (subst (λ rs. Follows machine totals' all rs s') (sym (append-nil before))
      (follows-job machine totals totals' all before s s' (new_job machine name tray groups) refl (ap (λ (t : SessionState). t.jobs) is) (ap (λ (t : SessionState). t.now) is) (ap (λ (t : SessionState). t.plans) is)
      (record { more = more; is = e }) keeps f))
  follows-begun totals totals' s first s' (moves to low told is same) keeps all more before apart e f =
      subst (λ n. Follows machine n all (before ++ first) s') (sym same)
      (subst (λ rs. Follows machine totals all (before ++ rs) s') (sym told) (subst (Follows machine totals all (before ++ clock_records machine s to)) (sym is) (follows-clock machine totals all before to s apart low keeps f)))
  follows-begun totals totals' s first s' (quiet q same) keeps all more before apart e f =
      subst (λ n. Follows machine n all (before ++ first) s') (sym same) (follows-quiet machine totals all before first s s' q f)

  -- no accepted event is reported refused
  none-refused : (event : Event) (s : SessionState) (p : P) (records : List Record) (s' : SessionState) (p' : P) → refusal machine s event ≡ None → Turn steps machine event s p records s' p' → list_any is_refusal records ≡ false
  none-refused event s p records s' p' accepted turn = list_any_none is_refusal records (All-from_contains (λ r. is_refusal r ≡ false) records (λ r in'. go r in')) where
    go : (r : Record) → Contains records r → is_refusal r ≡ false
    go (Refused cause) in' = absurd (let refused = told-refused steps machine event s p records s' p' cause turn in' in cc)
    go _ in' = refl

  pub turn-gives : (event : Event) (totals : List ℕ) (s : SessionState) (p : P) (records : List Record) (s' : SessionState) (p' : P) → Turn steps machine event s p records s' p' → KeepsOrder machine totals s → Gives event totals s records s'
  turn-gives event totals s p records s' p' turn keeps = go (refusal machine s event) refl turn where
    accepted-gives : refusal machine s event ≡ None → Accepts steps machine event s p records s' p' → Gives event totals s records s'
    accepted-gives e a =
        let next : List ℕ = totals_by None event totals in
        let same : totals_by None event totals ≡ totals_after machine s event totals = ap (λ o. totals_by o event totals) (sym e) in
        let begun = order-begins event totals s p a.first a.between a.mid e a.begins keeps in
        let asked = order-asks steps machine spent right (totals_by None event totals) a.between.waiting [] a.between a.mid a.rest s' p' a.asks (rest-all steps machine spent right a.between begun.0.lines) begun.0 in
        record {
          came = ap (λ n. told_jobs machine n s'.jobs) (sym same) ∙ same-arrived machine (totals_by None event totals) a.between.jobs s'.jobs asked.1.jobs ∙ begun.2 records (none-refused event s p records s' p' e turn);
          order = subst (λ n. KeepsOrder machine n s') same asked.0;
          follows = λ all more before apart is f.
              let is' : all ≡ told_jobs machine (totals_by None event totals) a.between.jobs ++ more =
              is ∙ ap (λ n. told_jobs machine n s'.jobs ++ more) (sym same) ∙ ap (λ l. l ++ more) (same-arrived machine (totals_by None event totals) a.between.jobs s'.jobs asked.1.jobs) in
              subst (λ n. Follows machine n all (before ++ records) s') same
              (subst (λ rs. Follows machine (totals_by None event totals) all rs s') (append_assoc before a.first a.rest ∙ ap (λ rs. before ++ rs) (sym a.told))
              (follows-quiet machine (totals_by None event totals) all (before ++ a.first) a.rest a.between s' asked.1
              (follows-begun totals (totals_by None event totals) s a.first a.between begun.1 keeps all more before apart is' f)));
        }

    none-came : (cause : Cause) → arrival_by event (Refused cause ∷ []) ≡ []
    none-came cause = by event where
      by : (event : Event) → arrival_by event (Refused cause ∷ []) ≡ []
      by Bad = refl
      by (NewJob name tray media groups) = refl
      by (Clock to) = refl
      by (Jam name) = refl
      by (Off name) = refl
      by (On name) = refl
      by (Refill name count) = refl

    refused-quiet : (cause : Cause) → IsQuiet s s (Refused cause ∷ [])
    refused-quiet cause = record { now = refl; jobs = refl; broke = λ n e. inl e; to = λ c d. d; from = λ c d. d; none = All-cons IsNoDelivery (Refused cause) [] refl (All-nil IsNoDelivery) }

    go : (o : Option Cause) → refusal machine s event ≡ o
        → MatchOption o (Accepts steps machine event s p records s' p') (λ cause. (records ≡ Refused cause ∷ []) × (s' ≡ s) × (p' ≡ p)) → Gives event totals s records s'
    go None e accepts = accepted-gives e accepts
    go (Some cause) e (told, is, same) =
        let stays : totals ≡ totals_after machine s event totals = ap (λ o. totals_by o event totals) (sym e) in
        record {
          came = ap (λ n. told_jobs machine n s'.jobs) (sym stays) ∙ ap (λ (t : SessionState). told_jobs machine totals t.jobs) is ∙ sym (append-nil (told_jobs machine totals s.jobs))
              ∙ ap (λ l. told_jobs machine totals s.jobs ++ l) (sym (ap (arrival_by event) told ∙ none-came cause));
          order = subst (λ n. KeepsOrder machine n s') stays (subst (KeepsOrder machine totals) (sym is) keeps);
          follows = λ all more before apart first f. subst (λ n. Follows machine n all (before ++ records) s') stays
              (subst (λ rs. Follows machine totals all (before ++ rs) s') (sym told) (subst (Follows machine totals all (before ++ Refused cause ∷ [])) (sym is)
              (follows-quiet machine totals all before (Refused cause ∷ []) s s (refused-quiet cause) f)));
        }

-- at the beginning
follows-nothing : (machine : Machine) (all : List Arrival) → Follows machine [] all [] empty_state
follows-nothing machine all = record {
  first = record { more = all; is = refl };
  broke = λ n within e. absurd (omega arith);
  to = λ tray tray_is c d for. absurd (let in' = d.there in omega (arith, in'.1));
  from = λ tray tray_is copy in'. absurd (omega (arith, in'.1));
  rises = λ tray tray_is. AllPairs-nil (λ a b. IsTrue (is_earlier all (sheet_ref a) (sheet_ref b)));
  skips = λ tray tray_is before after copy at e. absurd (empty before (Done copy tray at) after e);
} where
  empty : {X : Type 0} (before : List X) (x : X) (after : List X) → [] ≡ before ++ x ∷ after → ⊥
  empty [] x after e = cc
  empty (b ∷ before) x after e = cc

pub order-empty : (machine : Machine) → KeepsOrder machine [] empty_state
order-empty machine = let k = kept-empty machine in record { jobs = k.jobs; lines = k.lines; sheets = k.sheets; plans = plannable-empty machine; broken = record { waiting = All-nil (λ (w : WaitingCopy). is_job_broken [] w.sheet.job ≡ false); plans = All-nil (EntersWhereBroken 0 []) }; purges = All-nil (HasStarted 0) }

module _ {T : Type 0} (claims : TreeClaims T) (shown : Bool) (spent : Machine → List Plan → Ask → ℕ → Type 0) (machine : Machine)
    (out : OutagesLead (right_answers claims shown spent machine) machine) where
  -- what a run gives
  record RunGives (totals : List ℕ) (s : SessionState) (log : List (Entry T)) (s' : SessionState) : Type 0 where
    after : List ℕ
    came : told_jobs machine after s'.jobs ≡ told_jobs machine totals s.jobs ++ arrivals log
    order : KeepsOrder machine after s'
    follows : (all more : List Arrival) (before : List Record) → AreNamedApart all → all ≡ told_jobs machine after s'.jobs ++ more → Follows machine totals all before s → Follows machine after all (before ++ records_of log) s'

  run-gives : (totals : List ℕ) (s : SessionState) (log : List (Entry T)) (s' : SessionState) → Run claims shown spent machine s log s' → KeepsOrder machine totals s → RunGives totals s log s'
  run-gives totals s [] s' is keeps = record {
    after = totals;
    came = ap (λ (t : SessionState). told_jobs machine totals t.jobs) is ∙ sym (append-nil (told_jobs machine totals s.jobs));
    order = subst (KeepsOrder machine totals) (sym is) keeps;
    follows = λ all more before apart first f. subst (λ rs. Follows machine totals all rs s') (sym (append-nil before)) (subst (Follows machine totals all before) (sym is) f);
  }
  run-gives totals s (entry ∷ log) s' (mid, turn, rest) keeps =
      let one = turn-gives (right_answers claims shown spent machine) machine (λ trees. spent) (λ trees plans deed plans' trees' does. does.0) out entry.event totals s entry.trees entry.records mid [] turn keeps in
      let next : List ℕ = totals_after machine s entry.event totals in
      let later = run-gives (totals_after machine s entry.event totals) mid log s' rest one.order in
      record {
        after = later.after;
        came = later.came ∙ ap (λ l. l ++ arrivals log) one.came ∙ append_assoc (told_jobs machine totals s.jobs) (arrival_by entry.event entry.records) (arrivals log)
            ∙ ap (λ l. told_jobs machine totals s.jobs ++ l) (sym (flat_map-cons (λ (e : Entry T). arrival_by e.event e.records) entry log));
        order = later.order;
        follows = λ all more before apart is f.
            let mid-first : all ≡ told_jobs machine (totals_after machine s entry.event totals) mid.jobs ++ (arrivals log ++ more) =
            is ∙ ap (λ l. l ++ more) later.came ∙ append_assoc (told_jobs machine (totals_after machine s entry.event totals) mid.jobs) (arrivals log) more in
            subst (λ rs. Follows machine later.after all rs s') (append_assoc before entry.records (records_of log) ∙ ap (λ l. before ++ l) (sym (flat_map-cons (λ (e : Entry T). e.records) entry log)))
            (later.follows all more (before ++ entry.records) apart is (one.follows all (arrivals log ++ more) before apart mid-first f));
      }

  pub lawful-lines : (events : List Event) (log : List (Entry T)) (lawful : IsLawful claims shown spent machine events log) → KeepsHeadline machine log lawful.last
  lawful-lines events log lawful =
      let gives = run-gives [] empty_state log lawful.last lawful.run (order-empty machine) in
      let apart : AreNamedApart (told_jobs machine gives.after lawful.last.jobs) = names-apart machine gives.after lawful.last.jobs gives.order.jobs.names in
      let f = subst (λ a. Follows machine gives.after a (records_of log) lawful.last) gives.came
      (gives.follows (told_jobs machine gives.after lawful.last.jobs) [] [] apart (sym (append-nil (told_jobs machine gives.after lawful.last.jobs))) (follows-nothing machine (told_jobs machine gives.after lawful.last.jobs))) in
      record {
        legal = lawful-legal claims shown spent machine events log lawful;
        lines = λ tray tray_is. record { rises = f.rises tray tray_is; skips = f.skips tray tray_is };
      }
