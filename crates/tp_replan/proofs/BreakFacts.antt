-- The fates where a job breaks: they fit, and no copy waits after them.
use Rattle.std.proofs.Common.{◌≡◌, ℕ, ◌<◌, Bool, true, false, cond, not, ◌&&◌, ◌==◌, List, [], ◌∷◌, ◌++◌, length, map, filter, flat_map, All, AllPairs, refl, ap}
use Rattle.std.proofs.lemmas.List.Elements.{All-nil, All-cons, All-head, All-tail}
use Rattle.tp_schedule.specs.Plans.{IsFormed}
use Rattle.tp_schedule.specs.declared.parts.Plan.{Plan}
use Rattle.tp_schedule.specs.declared.parts.SheetId.{SheetId}
use Rattle.tp_schedule.proofs.Pairs.{AllPairs-nil, AllPairs-cons, AllPairs-head, AllPairs-tail}
use Rattle.tp_jobs.specs.Backlogs.{IsOfJob, WaitsBefore}
use Rattle.tp_jobs.specs.declared.parts.Job.{Job}
use Rattle.tp_jobs.specs.declared.parts.WaitingCopy.{WaitingCopy}
use Rattle.tp_event_rules.specs.Fates as fates
use Rattle.tp_event_rules.specs.Fates.{waits_for}
use Rattle.tp_event_rules.specs.FallBacks.{fate_in_break, is_copy, is_on_its_way, notices_of_waiting}
use Rattle.tp_event_rules.specs.Lines.{is_of_job}
use Rattle.tp_event_rules.specs.Moments.{is_entering, is_unstarted}
use Rattle.tp_event_rules.specs.States.{SessionState}
use Rattle.tp_replan.specs.Meanings.{StandsBefore, notice_of_copy}
use Rattle.tp_replan.specs.Open.{Fits}
use Rattle.tp_replan.proofs.OpenFacts.{started-some, stays-fits}

pub break-fits : (s : SessionState) (job : ℕ) (p : Plan) → IsFormed p → Fits s p (fate_in_break s job p)
break-fits s job p formed = go ((p.sheet.job == job) && is_copy s p) (is_unstarted s.now p) refl (is_on_its_way s.now p && not (is_entering s.now p)) where
  go : (a b : Bool) → is_unstarted s.now p ≡ b → (d : Bool) → Fits s p (cond (not a) fates.stays (cond b fates.dropped (cond d fates.purged fates.stays)))
  go false b e d = stays-fits s p
  go true true e d = record { started = λ h. absurd cc; opens = λ h. absurd cc }
  go true false e true = record { started = λ h. started-some s.now p formed e; opens = λ h. absurd cc }
  go true false e false = stays-fits s p

none-waits : (s : SessionState) (job : ℕ) (p : Plan) → waits_for p (fate_in_break s job p) ≡ []
none-waits s job p = go ((p.sheet.job == job) && is_copy s p) (is_unstarted s.now p) (is_on_its_way s.now p && not (is_entering s.now p)) where
  go : (a b d : Bool) → waits_for p (cond (not a) fates.stays (cond b fates.dropped (cond d fates.purged fates.stays))) ≡ []
  go false b d = refl
  go true true d = refl
  go true false true = refl
  go true false false = refl

pub none-wait : (s : SessionState) (job : ℕ) (plans : List Plan) → flat_map (λ p. waits_for p (fate_in_break s job p)) plans ≡ []
none-wait s job [] = refl
none-wait s job (p ∷ plans) = (λ k. none-waits s job p k ++ none-wait s job plans k)

-- the copies of the job stand in their order, and are of jobs that came
All-part : {X : Type 0} (P : X → Type 0) (test : X → Bool) (xs : List X) → All P xs → All P (filter test xs)
All-part P test [] all = all
All-part P test (x ∷ xs) all = go (test x) (All-part P test xs (All-tail P x xs all)) where
  go : (b : Bool) → All P (filter test xs) → All P (cond b (x ∷ filter test xs) (filter test xs))
  go true rest = All-cons P x (filter test xs) (All-head P x xs all) rest
  go false rest = rest

sheets-all : (P : SheetId → Type 0) (ws : List WaitingCopy) → All (λ w. P w.sheet) ws → All P (map (λ w. w.sheet) ws)
sheets-all P [] all = All-nil P
sheets-all P (w ∷ ws) all = All-cons P w.sheet (map (λ v. v.sheet) ws) (All-head (λ v. P v.sheet) w ws all) (sheets-all P ws (All-tail (λ v. P v.sheet) w ws all))

pub sheets-known : (jobs : List Job) (test : WaitingCopy → Bool) (ws : List WaitingCopy) → All (IsOfJob jobs) ws → All (λ (c : SheetId). c.job < length jobs) (map (λ w. w.sheet) (filter test ws))
sheets-known jobs test ws all = sheets-all (λ c. c.job < length jobs) (filter test ws) (All-part (IsOfJob jobs) test ws all)

pub sheets-in_order : (test : WaitingCopy → Bool) (ws : List WaitingCopy) → AllPairs WaitsBefore ws → AllPairs StandsBefore (map (λ w. w.sheet) (filter test ws))
sheets-in_order test [] pairs = AllPairs-nil StandsBefore
sheets-in_order test (w ∷ ws) pairs = go (test w) (sheets-in_order test ws (AllPairs-tail WaitsBefore w ws pairs)) where
  go : (b : Bool) → AllPairs StandsBefore (map (λ v. v.sheet) (filter test ws)) → AllPairs StandsBefore (map (λ v. v.sheet) (cond b (w ∷ filter test ws) (filter test ws)))
  go true rest = AllPairs-cons StandsBefore w.sheet (map (λ v. v.sheet) (filter test ws))
      (sheets-all (StandsBefore w.sheet) (filter test ws) (All-part (WaitsBefore w) test ws (AllPairs-head WaitsBefore w ws pairs))) rest
  go false rest = rest

notices-map : (jobs : List Job) (ws : List WaitingCopy) → map (λ (w : WaitingCopy). notice_of_copy jobs w.sheet) ws ≡ map (notice_of_copy jobs) (map (λ w. w.sheet) ws)
notices-map jobs [] = refl
notices-map jobs (w ∷ ws) = ap (λ ns. notice_of_copy jobs w.sheet ∷ ns) (notices-map jobs ws)

pub notices-are : (s : SessionState) (job : ℕ) → notices_of_waiting s job ≡ map (notice_of_copy s.jobs) (map (λ w. w.sheet) (filter (is_of_job job) s.waiting))
notices-are s job = notices-map s.jobs (filter (is_of_job job) s.waiting)
