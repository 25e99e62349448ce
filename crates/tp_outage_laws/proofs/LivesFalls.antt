-- An outage keeps what a live state keeps besides.
use Rattle.std.proofs.Common.{◌≡◌, ℕ, ◌+◌, ◌⊎◌, inl, inr, Bool, true, false, cond, ◌&&◌, not, List, [], ◌∷◌, flat_map, refl, sym, ap, arith, Contains}
use Rattle.std.specs.Prelude.{count_by}
use Rattle.tp_machine.specs.declared.machine.Machine.{Machine}
use Rattle.tp_jobs.specs.Backlogs.{next_copy}
use Rattle.tp_jobs.specs.WaitingCopies.{put_waiting}
use Rattle.tp_jobs.specs.declared.parts.WaitingCopy.{WaitingCopy}
use Rattle.tp_schedule.proofs.Membership.{Contains-cons_cases, Contains-filter_from, Contains-here, Contains-later, flat_map-from}
use Rattle.tp_schedule.specs.declared.parts.Plan.{Plan}
use Rattle.tp_schedule.specs.declared.parts.SheetId.{SheetId}
use Rattle.tp_schedule.specs.declared.records.Record.TheVariants.{Again}
use Rattle.tp_event_rules.specs.FallBacks.{Displaced, fall_back, fall_back_unless_broken, fate_in_break, is_line_entering, job_break, later_fall_back, next_waits}
use Rattle.tp_event_rules.specs.Fates.{befall}
use Rattle.tp_event_rules.specs.StateInvariants.{is_clear}
use Rattle.tp_event_rules.specs.Labels.{label}
use Rattle.tp_event_rules.specs.Lines.{is_job_broken, is_lost, is_of_job, is_same_line}
use Rattle.tp_event_rules.specs.Moments.{is_running_on, is_to_run_on, is_unstarted}
use Rattle.tp_event_rules.specs.Outages.{displaced, displaced_by, fate_in_outage, going_out, outage, with_out}
use Rattle.tp_event_rules.specs.States.{Outcome, SessionState, and_then, for_each, nothing_told}
use Rattle.tp_outage_laws.proofs.BreakFalls.{break-pass}
use Rattle.tp_outage_laws.proofs.Clears.{clear-out, clear-started}
use Rattle.tp_outage_laws.proofs.Counts.{count-cons, count-put}
use Rattle.tp_outage_laws.proofs.Falls.{Falls, Outset, none_breaks, pending_by, waits_by}
use Rattle.tp_outage_laws.proofs.FallSteps.{falls-waits, next_pending, state_waits}
use Rattle.tp_outage_laws.proofs.LaterFalls.{later-pass}
use Rattle.tp_outage_laws.proofs.ListCounts.{count-less}
use Rattle.tp_outage_laws.proofs.Lives.{AreClear, Lives, any_sheet, clear-befall, lives-befall}
use Rattle.tp_outage_laws.proofs.OutFalls.{falls-out, out-pass}
use Rattle.tp_outage_laws.proofs.OutageFalls.{falls-unless, lines-same}
use Rattle.tp_outage_laws.proofs.Waits.{put-from}
use Rattle.tp_event_rules.specs.Fates as fates

-- what a live state keeps besides, and that no plan is to run on a module that is out
abbrev pub IsLiving : Machine → ℕ → SessionState → List Displaced → Type 0
IsLiving machine copies s ds = Lives machine copies s ds × AreClear machine s

none-sent : (l : List Plan) → flat_map {X = Plan} {A = Displaced} (λ p. []) l ≡ []
none-sent [] = refl
none-sent (p ∷ l) = none-sent l

none-more : (of_sheet : SheetId → Bool) (ds : List Displaced) (plans : List Plan) → count_by (pending_by of_sheet) ds ≡ count_by (pending_by of_sheet) ds + count_by (pending_by of_sheet) (flat_map {X = Plan} {A = Displaced} (λ p. []) plans)
none-more of_sheet ds plans = let none : count_by (pending_by of_sheet) (flat_map {X = Plan} {A = Displaced} (λ p. []) plans) ≡ 0 = ap (count_by (pending_by of_sheet)) (none-sent plans) in omega arith

module _ (machine : Machine) (base : Outset) (copies : ℕ) where
  -- one that is no longer to fall back
  lives-less : (s : SessionState) (d : Displaced) (ds : List Displaced) → Lives machine copies s (d ∷ ds) → Lives machine copies s ds
  lives-less s d ds l = record {
    plans = l.plans;
    waits = l.waits;
    pends = λ e in'. l.pends e (Contains-later d ds e in');
    few_live = l.few_live;
    few_open = let few = l.few_open in let all = count-cons (pending_by any_sheet) d ds in omega arith;
  }

  -- its next copy waits
  lives-waits : (s : SessionState) (d : Displaced) (ds : List Displaced) (f : Falls machine base none_breaks s (d ∷ ds)) → d.again ≡ true → Lives machine copies s (d ∷ ds)
      → Lives machine copies (state_waits machine base s d ds f) (next_pending machine base s d ds f ∷ ds)
  lives-waits s d ds f again l = record {
    plans = l.plans;
    waits = λ w in'. elim (put-from (record { sheet = next_copy d.sheet; want = d.want }) s.waiting w in') [
      | inl is ↦ (let number = l.pends d (Contains-here d ds) again in let same : w.sheet.copy ≡ d.sheet.copy + 1 = ap (λ (v : WaitingCopy). v.sheet.copy) is in omega arith)
      | inr old ↦ l.waits w old
    ];
    pends = λ e in' more. elim (Contains-cons_cases (next_pending machine base s d ds f) ds e in') [
      | inl is ↦ absurd (let none : e.again ≡ false = ap (λ (x : Displaced). x.again) (sym is) in cc)
      | inr later ↦ l.pends e (Contains-later d ds e later) more
    ];
    few_live = l.few_live;
    few_open =
        let few = l.few_open in
        let put = count-put (waits_by any_sheet) (record { sheet = next_copy d.sheet; want = d.want }) s.waiting in
        let was = count-cons (pending_by any_sheet) d ds in
        let one : cond {A = ℕ} (pending_by any_sheet d) 1 0 ≡ 1 = ap (λ b. cond {A = ℕ} (b && true) 1 0) again in
        let now = count-cons (pending_by any_sheet) (next_pending machine base s d ds f) ds in
        omega arith;
  }

  module _ (s : SessionState) (d : Displaced) (ds : List Displaced) (f : Falls machine base none_breaks s (d ∷ ds)) (l : IsLiving machine copies s (d ∷ ds)) where
    living-skip : IsLiving machine copies s ds
    living-skip = (lives-less s d ds l.0, l.1)

    -- the later copies of the line fall back
    living-later : (c : SheetId) (which : (d.sheet ≡ c) ⊎ (d.sheet ≡ next_copy c)) (waits : d.again ≡ false) (none_enters : is_line_entering s c ≡ false) (lines : (a b : SheetId) → is_same_line s.jobs a b ≡ is_same_line base.jobs a b)
        → IsLiving machine copies (later_fall_back c s).state ds
    living-later c which waits none_enters lines =
        let pass = later-pass machine base s d ds f c which waits none_enters lines in (
          lives-less (later_fall_back c s).state d ds (lives-befall pass copies (d ∷ ds) (λ e in'. inl in') (λ of_sheet. none-more of_sheet (d ∷ ds) s.plans) l.0),
          clear-befall pass copies (λ p in' stays. l.1 p in'),
        )

    -- its job breaks
    living-break : IsLiving machine copies (job_break d.sheet.job s).state ds
    living-break =
        let pass = break-pass machine base s d ds f in
        let b : Lives machine copies (befall (fate_in_break s d.sheet.job) s) (d ∷ ds) = lives-befall pass copies (d ∷ ds) (λ e in'. inl in') (λ of_sheet. none-more of_sheet (d ∷ ds) s.plans) l.0 in
        let clear : AreClear machine (befall (fate_in_break s d.sheet.job) s) = clear-befall pass copies (λ p in' stays. l.1 p in') in (
          record {
            plans = b.plans;
            waits = λ w in'. b.waits w (Contains-filter_from (λ w. not (is_of_job d.sheet.job w)) (befall (fate_in_break s d.sheet.job) s).waiting w in').0;
            pends = λ e in'. b.pends e (Contains-later d ds e in');
            few_live = b.few_live;
            few_open =
                let few = b.few_open in
                let all = count-cons (pending_by any_sheet) d ds in
                let fewer = count-less (waits_by any_sheet) (λ w. not (is_of_job d.sheet.job w)) (befall (fate_in_break s d.sheet.job) s).waiting in omega arith;
          },
          clear,
        )

  -- a copy of a job that is not broken falls back
  pub living-back : (s : SessionState) (d : Displaced) (ds : List Displaced) → Falls machine base none_breaks s (d ∷ ds) → is_job_broken s.jobs d.sheet.job ≡ false → IsLiving machine copies s (d ∷ ds) → IsLiving machine copies (fall_back s d).state ds
  living-back s d ds f whole l = enters (is_line_entering s d.sheet) refl where
    falls : (a : Bool) → d.again ≡ a → is_line_entering s d.sheet ≡ false
        → IsLiving machine copies (later_fall_back d.sheet (cond {A = Outcome} a (record {
          records = Again (label s.jobs (next_copy d.sheet)) ∷ [];
          state = record s { waiting = put_waiting s.waiting (record { sheet = next_copy d.sheet; want = d.want }) };
        }) (nothing_told s)).state).state ds
    falls true e none =
        living-later (state_waits machine base s d ds f) (next_pending machine base s d ds f) ds (falls-waits machine base s d ds f e whole) (lives-waits s d ds f e l.0, l.1) d.sheet (inr refl) refl none (lines-same machine base s.jobs f.same)
    falls false e none = living-later s d ds f l d.sheet (inl refl) e none (lines-same machine base s.jobs f.same)

    enters : (b : Bool) → is_line_entering s d.sheet ≡ b → IsLiving machine copies (cond {A = Outcome} b (job_break d.sheet.job s) (and_then (next_waits d s) (later_fall_back d.sheet))).state ds
    enters true e = living-break s d ds f l
    enters false e = falls d.again refl e

  living-unless : (s : SessionState) (d : Displaced) (ds : List Displaced) → Falls machine base none_breaks s (d ∷ ds) → IsLiving machine copies s (d ∷ ds) → IsLiving machine copies (fall_back_unless_broken s d).state ds
  living-unless s d ds f l = go (is_job_broken s.jobs d.sheet.job) refl where
    go : (b : Bool) → is_job_broken s.jobs d.sheet.job ≡ b → IsLiving machine copies (cond {A = Outcome} b (nothing_told s) (fall_back s d)).state ds
    go true e = living-skip s d ds f l
    go false e = living-back s d ds f e l

  living-each : (ds : List Displaced) (s : SessionState) → Falls machine base none_breaks s ds → IsLiving machine copies s ds → IsLiving machine copies (for_each fall_back_unless_broken ds s).state []
  living-each [] s f l = l
  living-each (d ∷ ds) s f l = living-each ds (fall_back_unless_broken s d).state (falls-unless machine base s d ds f) (living-unless s d ds f l)

  -- the module goes out
  living-out : (m : ℕ) (jam : Bool) (s : SessionState) → Falls machine base none_breaks s [] → IsLiving machine copies s [] → IsLiving machine copies (going_out machine m jam s).state (displaced machine m jam s)
  living-out m jam s f l =
      let pass = out-pass machine base m jam s f in
      let out : Lives machine copies (with_out m s) [] = record { plans = l.0.plans; waits = l.0.waits; pends = l.0.pends; few_live = l.0.few_live; few_open = l.0.few_open } in (
        lives-befall pass copies (displaced machine m jam s) (λ d in'. let r = flat_map-from (λ p. displaced_by p (fate_in_outage machine m jam s p)) s.plans d in' in inr (r.0, r.1, r.2))
            (λ of_sheet. none-before (count_by (pending_by of_sheet) (displaced machine m jam s))) out,
        clear-befall pass copies stays,
      ) where
        none-before : (n : ℕ) → n ≡ 0 + n
        none-before n = omega arith

        other : (p : Plan) → Contains s.plans p → (b : Bool) → is_to_run_on machine s.now m p ≡ b
            → (a : Bool) → cond a fates.lost (cond (not b) fates.stays (cond (is_unstarted s.now p) fates.withdrawn fates.cut)) ≡ fates.stays → is_clear machine (with_out m s) p ≡ true
        other p in' false g a e = clear-out machine m s p (l.1 p in') g
        other p in' true g true e = absurd (cc)
        other p in' true g false e = absurd (gone (is_unstarted s.now p) e) where
          gone : (u : Bool) → cond u fates.withdrawn fates.cut ≡ fates.stays → ⊥
          gone true e = cc
          gone false e = cc

        stays : (p : Plan) → Contains s.plans p → fate_in_outage machine m jam s p ≡ fates.stays → is_clear machine (with_out m s) p ≡ true
        stays p in' = go (is_lost s p) refl where
          go : (k : Bool) → is_lost s p ≡ k → cond ((jam && not k) && is_running_on machine s.now m p) fates.lost (cond (not (not k && is_to_run_on machine s.now m p)) fates.stays (cond (is_unstarted s.now p) fates.withdrawn fates.cut)) ≡ fates.stays
              → is_clear machine (with_out m s) p ≡ true
          go true g e = clear-started machine (with_out m s) p (λ i low. (l.0.plans p in').started ((f.planned p in').lost g) i low)
          go false g e = other p in' (is_to_run_on machine s.now m p) refl ((jam && true) && is_running_on machine s.now m p) e

  pub living-outage : (m : ℕ) (jam : Bool) (s : SessionState) → Falls machine base none_breaks s [] → IsLiving machine copies s [] → IsLiving machine copies (outage machine m jam s).state []
  living-outage m jam s f l = living-each (displaced machine m jam s) (going_out machine m jam s).state (falls-out machine base m jam s f) (living-out m jam s f l)
