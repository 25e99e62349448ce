-- Where a module goes out each displaced copy can fall back when its turn comes.
use Rattle.std.proofs.Common.{◌≡◌, ℕ, zero, suc, ◌<◌, ◌≤◌, Bool, true, false, cond, not, ◌&&◌, ◌==◌, List, [], ◌∷◌, ◌++◌, length, filter, flat_map, IsTrue, All, Contains, refl, sym, ap, ◌∙◌, arith, subst, count_by}
use Rattle.std.proofs.lemmas.List.Concat.{flat_map-cons}
use Rattle.std.proofs.lemmas.Grind.{flat_map-append}
use Rattle.std.proofs.lemmas.List.Elements.{All-append, All-nil, All-cons, All-head, All-tail, All-contains}
use Rattle.tp_machine.specs.declared.machine.Machine.{Machine}
use Rattle.tp_schedule.specs.Plans.{IsFormed, point}
use Rattle.tp_schedule.specs.declared.parts.Plan.{Plan}
use Rattle.tp_schedule.specs.declared.parts.SheetId.{SheetId}
use Rattle.tp_schedule.specs.declared.records.Record.TheVariants.{Again}
use Rattle.tp_schedule.proofs.Membership.{Contains-here, Contains-later}
use Rattle.tp_jobs.specs.Backlogs.{mark_broken, next_copy}
use Rattle.tp_jobs.specs.WaitingCopies.{put_waiting}
use Rattle.tp_jobs.specs.declared.parts.Job.{Job}
use Rattle.tp_jobs.specs.declared.parts.WaitingCopy.{WaitingCopy}
use Rattle.tp_event_rules.specs.Fates as fates
use Rattle.tp_event_rules.specs.Fates.{Fate as Befalls, befall, is_loss}
use Rattle.tp_event_rules.specs.FallBacks.{Displaced, fall_back, fall_back_unless_broken, fate_in_break, fate_in_fall_back, is_copy, is_later, is_line_entering, is_on_its_way, job_break, later_fall_back, next_waits}
use Rattle.tp_event_rules.specs.Labels.{label}
use Rattle.tp_event_rules.specs.Lines.{is_job_broken, is_of_job}
use Rattle.tp_event_rules.specs.Moments.{is_entering, is_running_on, is_to_run_on, is_to_tray, is_unstarted}
use Rattle.tp_event_rules.specs.Outages.{displaced, displaced_by, fate_in_outage, going_out, is_lost_by, outage}
use Rattle.tp_event_rules.specs.Seen.{HasNextCopy, HasStarted}
use Rattle.tp_event_rules.specs.States.{Outcome, SessionState, and_then, for_each, nothing_told}
use Rattle.tp_event_rules.proofs.CutPlans.{started-low}
use Rattle.tp_replan.specs.Meanings.{IsKnown}
use Rattle.tp_replan.specs.Open.{CanFall, Group, is_in, to_wait}
use Rattle.tp_replan.specs.Displacement.{CanAllFall}
use Rattle.tp_replan.proofs.BreakFacts.{break-fits}
use Rattle.tp_replan.proofs.OpenFacts.{and-first, and-second, count-append, count-cons, fall_back-fits, is_of_sheet, is_open_of, of_sheet-put}
use Rattle.tp_replan.proofs.OutFacts.{outage-fits}
use Rattle.tp_replan.proofs.StillFall.{Befits, can-befall, formed-befall, is_purged_by}

-- fates can befall the copies, and go on to do so
pub record StillCan (s : SessionState) (pending : List SheetId) : Type 0 where
  pub fall : CanFall s pending
  pub formed : All IsFormed s.plans

pub less-pending : (s : SessionState) (first pending : List SheetId) → CanFall s (first ++ pending) → CanFall s pending
less-pending s first pending can = record {
  known = can.known;
  next = can.next;
  purges = can.purges;
  few = λ g. let few = can.few g in let both = count-append (is_in g) first pending in omega arith;
}

pub none-given : (plans : List Plan) → flat_map {X = Plan} {A = SheetId} (λ p. []) plans ≡ []
none-given [] = refl
none-given (p ∷ plans) = none-given plans

can-of : (s : SessionState) (rule : Plan → Befalls) (pending : List SheetId) → StillCan s pending → ((p : Plan) → Contains s.plans p → Befits s rule (λ q. []) p) → StillCan (befall rule s) pending
can-of s rule pending can befits = record {
  fall = subst (λ given. CanFall (befall rule s) (given ++ pending)) (none-given s.plans) (can-befall s rule (λ q. []) pending can.fall befits);
  formed = formed-befall s rule (λ q. []) can.formed befits;
}

-- the later copies of the line make way
pub fall_back-purged : (s : SessionState) (copy : SheetId) (p : Plan) → IsTrue (is_purged_by (fate_in_fall_back s copy p)) → point p 0 ≤ s.now
fall_back-purged s copy p e = go (is_later s copy p) (is_unstarted s.now p) refl (is_on_its_way s.now p) e where
  go : (a b : Bool) → is_unstarted s.now p ≡ b → (d : Bool) → IsTrue (is_purged_by (cond (not a) fates.stays (cond b fates.withdrawn (cond d fates.replaced fates.stays)))) → point p 0 ≤ s.now
  go false b f d e = absurd cc
  go true true f d e = absurd cc
  go true false f d e = started-low s.now p f

pub can-make_way : (s : SessionState) (copy : SheetId) (pending : List SheetId) → StillCan s pending → StillCan (later_fall_back copy s).state pending
can-make_way s copy pending can = can-of s (fate_in_fall_back s copy) pending can (λ p in'. record {
  fits = fall_back-fits s copy p (All-contains IsFormed s.plans p can.formed in') (All-contains (HasStarted s.now) s.plans p can.fall.purges in');
  purged = fall_back-purged s copy p;
  given = λ g. omega arith;
})

-- a job breaks
pub break-purged : (s : SessionState) (job : ℕ) (p : Plan) → IsTrue (is_purged_by (fate_in_break s job p)) → point p 0 ≤ s.now
break-purged s job p e = go ((p.sheet.job == job) && is_copy s p) (is_unstarted s.now p) refl (is_on_its_way s.now p && not (is_entering s.now p)) e where
  go : (a b : Bool) → is_unstarted s.now p ≡ b → (d : Bool) → IsTrue (is_purged_by (cond (not a) fates.stays (cond b fates.dropped (cond d fates.purged fates.stays)))) → point p 0 ≤ s.now
  go false b f d e = absurd cc
  go true true f d e = absurd cc
  go true false f d e = started-low s.now p f

pub as-many-jobs : (job : ℕ) (jobs : List Job) → length (mark_broken job jobs) ≡ length jobs
as-many-jobs job [] = refl
as-many-jobs zero (j ∷ jobs) = refl
as-many-jobs (suc job) (j ∷ jobs) = let rest = as-many-jobs job jobs in omega arith

pub fewer-of : {X : Type 0} (test kept : X → Bool) (xs : List X) → count_by test (filter kept xs) ≤ count_by test xs
fewer-of test kept [] = omega arith
fewer-of test kept (x ∷ xs) = go (kept x) (fewer-of test kept xs) where
  go : (b : Bool) → count_by test (filter kept xs) ≤ count_by test xs → count_by test (cond b (x ∷ filter kept xs) (filter kept xs)) ≤ count_by test (x ∷ xs)
  go true few = let one = count-cons test x (filter kept xs) in let other = count-cons test x xs in omega arith
  go false few = let other = count-cons test x xs in omega arith

pub can-break : (s : SessionState) (job : ℕ) (pending : List SheetId) → StillCan s pending → StillCan (job_break job s).state pending
can-break s job pending can =
    let after = can-of s (fate_in_break s job) pending can (λ p in'. record {
      fits = break-fits s job p (All-contains IsFormed s.plans p can.formed in');
      purged = break-purged s job p;
      given = λ g. omega arith;
    }) in
    record {
      fall = record {
        known = subst (λ n. All (λ (p : Plan). p.sheet.job < n) (befall (fate_in_break s job) s).plans) (sym (as-many-jobs job s.jobs)) after.fall.known;
        next = after.fall.next;
        purges = after.fall.purges;
        few = λ g.
            let few = after.fall.few g in
            let fewer = fewer-of (is_of_sheet g) (λ w. not (is_of_job job w)) (befall (fate_in_break s job) s).waiting in
            omega arith;
      };
      formed = after.formed;
    }

-- the next copy waits
pub can-wait_next : (s : SessionState) (d : Displaced) (pending : List SheetId) → StillCan s (to_wait d ++ pending) → StillCan (next_waits d s).state pending
can-wait_next s d pending can = go d.again can where
  waits : Outcome
  waits = record {
    records = Again (label s.jobs (next_copy d.sheet)) ∷ [];
    state = record s { waiting = put_waiting s.waiting (record { sheet = next_copy d.sheet; want = d.want }) };
  }

  go : (b : Bool) → StillCan s (cond b (d.sheet ∷ []) [] ++ pending) → StillCan (cond {A = Outcome} b waits (nothing_told s)).state pending
  go true h = record {
    fall = record {
      known = h.fall.known;
      next = h.fall.next;
      purges = h.fall.purges;
      few = λ g.
          let w : WaitingCopy = record { sheet = next_copy d.sheet; want = d.want } in
          let few = h.fall.few g in
          let put = of_sheet-put g w s.waiting in
          let first = count-cons (is_of_sheet g) w s.waiting in
          let one = count-cons (is_in g) d.sheet pending in
          omega arith;
    };
    formed = h.formed;
  }
  go false h = h

-- a fall-back
pub can-fall_back : (s : SessionState) (d : Displaced) (pending : List SheetId) → StillCan s (to_wait d ++ pending) → StillCan (fall_back s d).state pending
can-fall_back s d pending can = go (is_line_entering s d.sheet) where
  go : (b : Bool) → StillCan (cond {A = Outcome} b (job_break d.sheet.job s) (and_then (next_waits d s) (later_fall_back d.sheet))).state pending
  go true = can-break s d.sheet.job pending (record { fall = less-pending s (to_wait d) pending can.fall; formed = can.formed })
  go false = can-make_way (next_waits d s).state d.sheet pending (can-wait_next s d pending can)

pub can-unless_broken : (s : SessionState) (d : Displaced) (pending : List SheetId) → StillCan s (to_wait d ++ pending) → StillCan (fall_back_unless_broken s d).state pending
can-unless_broken s d pending can = go (is_job_broken s.jobs d.sheet.job) where
  go : (b : Bool) → StillCan (cond {A = Outcome} b (nothing_told s) (fall_back s d)).state pending
  go true = record { fall = less-pending s (to_wait d) pending can.fall; formed = can.formed }
  go false = can-fall_back s d pending can

-- as many jobs as before
jobs-wait_next : (s : SessionState) (d : Displaced) → length (next_waits d s).state.jobs ≡ length s.jobs
jobs-wait_next s d = go d.again where
  go : (b : Bool) → length (cond {A = Outcome} b (record {
    records = Again (label s.jobs (next_copy d.sheet)) ∷ [];
    state = record s { waiting = put_waiting s.waiting (record { sheet = next_copy d.sheet; want = d.want }) };
  }) (nothing_told s)).state.jobs ≡ length s.jobs
  go true = refl
  go false = refl

pub jobs-fall_back : (s : SessionState) (d : Displaced) → length (fall_back s d).state.jobs ≡ length s.jobs
jobs-fall_back s d = go (is_line_entering s d.sheet) where
  go : (b : Bool) → length (cond {A = Outcome} b (job_break d.sheet.job s) (and_then (next_waits d s) (later_fall_back d.sheet))).state.jobs ≡ length s.jobs
  go true = as-many-jobs d.sheet.job s.jobs
  go false = jobs-wait_next s d

pub jobs-unless_broken : (s : SessionState) (d : Displaced) → length (fall_back_unless_broken s d).state.jobs ≡ length s.jobs
jobs-unless_broken s d = go (is_job_broken s.jobs d.sheet.job) where
  go : (b : Bool) → length (cond {A = Outcome} b (nothing_told s) (fall_back s d)).state.jobs ≡ length s.jobs
  go true = refl
  go false = jobs-fall_back s d

-- the displaced copies are of jobs that came, and can have a next one
pub record CanBeNext (jobs : ℕ) (d : Displaced) : Type 0 where
  pub known : d.sheet.job < jobs
  pub next : HasNextCopy d.sheet

pub all-fall : (ds : List Displaced) (s : SessionState) → StillCan s (flat_map to_wait ds) → All (CanBeNext (length s.jobs)) ds → CanAllFall ds s
all-fall [] s can next = tt
all-fall (d ∷ ds) s can next =
    let here : StillCan s (to_wait d ++ flat_map to_wait ds) = subst (StillCan s) (flat_map-cons to_wait d ds) can in
    let first = All-head (CanBeNext (length s.jobs)) d ds next in (
      record { known = first.known; next = first.next; can = first-alone s (to_wait d) (flat_map to_wait ds) here.fall },
      all-fall ds (fall_back_unless_broken s d).state (can-unless_broken s d (flat_map to_wait ds) here)
          (subst (λ n. All (CanBeNext n) ds) (sym (jobs-unless_broken s d)) (All-tail (CanBeNext (length s.jobs)) d ds next)),
    ) where
      first-alone : (s : SessionState) (first pending : List SheetId) → CanFall s (first ++ pending) → CanFall s first
      first-alone s first pending can = record {
        known = can.known;
        next = can.next;
        purges = can.purges;
        few = λ g. let few = can.few g in let both = count-append (is_in g) first pending in omega arith;
      }

pub all-fallen : (ds : List Displaced) (s : SessionState) → StillCan s (flat_map to_wait ds) → StillCan (for_each fall_back_unless_broken ds s).state []
all-fallen [] s can = can
all-fallen (d ∷ ds) s can = all-fallen ds (fall_back_unless_broken s d).state (can-unless_broken s d (flat_map to_wait ds) (subst (StillCan s) (flat_map-cons to_wait d ds) can))

-- the outage itself
abbrev pub gives_in : Machine → ℕ → Bool → SessionState → Plan → List SheetId
gives_in machine m jam s p = flat_map to_wait (displaced_by p (fate_in_outage machine m jam s p))

outage-purged : (machine : Machine) (m : ℕ) (jam : Bool) (s : SessionState) (p : Plan) → IsTrue (is_purged_by (fate_in_outage machine m jam s p)) → point p 0 ≤ s.now
outage-purged machine m jam s p e = absurd (go (is_lost_by machine m jam s p) (is_copy s p && is_to_run_on machine s.now m p) (is_unstarted s.now p) e) where
  go : (a b d : Bool) → IsTrue (is_purged_by (cond a fates.lost (cond (not b) fates.stays (cond d fates.withdrawn fates.cut)))) → ⊥
  go true b d e = cc
  go false false d e = cc
  go false true true e = cc
  go false true false e = cc

pub outage-given : (machine : Machine) (m : ℕ) (jam : Bool) (s : SessionState) (p : Plan) (g : Group)
    → count_by (is_in g) (gives_in machine m jam s p) ≤ cond (is_loss (fate_in_outage machine m jam s p) && is_open_of s g p) 1 0
outage-given machine m jam s p g = go (is_lost_by machine m jam s p) refl (is_copy s p && is_to_run_on machine s.now m p) (is_unstarted s.now p) where
  tray : (b c : Bool) → c ≡ true → count_by (is_in g) (flat_map to_wait (cond b (record { sheet = p.sheet; want = p.want; again = true } ∷ []) [])) ≤ cond ((c && b) && is_in g p.sheet) 1 0
  tray true true e = let one = count-cons (is_in g) p.sheet [] in omega arith
  tray false c e = omega arith
  tray b false e = absurd cc

  go : (a : Bool) → is_lost_by machine m jam s p ≡ a → (b d : Bool)
      → count_by (is_in g) (flat_map to_wait (displaced_by p (cond a fates.lost (cond (not b) fates.stays (cond d fates.withdrawn fates.cut)))))
      ≤ cond (is_loss (cond a fates.lost (cond (not b) fates.stays (cond d fates.withdrawn fates.cut))) && is_open_of s g p) 1 0
  go true e b d = tray (is_to_tray p.goal) (is_copy s p) (and-second jam (is_copy s p) (and-first (jam && is_copy s p) (is_running_on machine s.now m p) e))
  go false e false d = omega arith
  go false e true true = omega arith
  go false e true false = omega arith

pub outage-befits : (machine : Machine) (m : ℕ) (jam : Bool) (s : SessionState) → StillCan s [] → (p : Plan) → Contains s.plans p → Befits s (fate_in_outage machine m jam s) (gives_in machine m jam s) p
outage-befits machine m jam s can p in' = record {
  fits = outage-fits machine m jam s p (All-contains IsFormed s.plans p can.formed in') (All-contains (HasStarted s.now) s.plans p can.fall.purges in');
  purged = outage-purged machine m jam s p;
  given = outage-given machine m jam s p;
}

-- each displaced copy is one of the plans'
displaced-next : (machine : Machine) (m : ℕ) (jam : Bool) (s : SessionState) (n : ℕ) (plans : List Plan) → ((p : Plan) → Contains plans p → CanBeNext n (record { sheet = p.sheet; want = p.want; again = true }))
    → All (CanBeNext n) (flat_map (λ p. displaced_by p (fate_in_outage machine m jam s p)) plans)
displaced-next machine m jam s n [] each = All-nil (CanBeNext n)
displaced-next machine m jam s n (p ∷ plans) each =
    subst (All (CanBeNext n)) (sym (flat_map-cons (λ q. displaced_by q (fate_in_outage machine m jam s q)) p plans))
    (All-append (CanBeNext n) (displaced_by p (fate_in_outage machine m jam s p)) _ (one (fate_in_outage machine m jam s p) (each p (Contains-here p plans)))
    (displaced-next machine m jam s n plans (λ q in'. each q (Contains-later p plans q in')))) where
      tray : (b : Bool) → CanBeNext n (record { sheet = p.sheet; want = p.want; again = true }) → All (CanBeNext n) (cond b (record { sheet = p.sheet; want = p.want; again = true } ∷ []) [])
      tray true h = All-cons (CanBeNext n) _ [] h (All-nil (CanBeNext n))
      tray false h = All-nil (CanBeNext n)

      one : (f : Befalls) → CanBeNext n (record { sheet = p.sheet; want = p.want; again = true }) → All (CanBeNext n) (displaced_by p f)
      one fates.stays h = All-nil (CanBeNext n)
      one fates.lost h = tray (is_to_tray p.goal) h
      one fates.withdrawn h = All-cons (CanBeNext n) (record { sheet = p.sheet; want = p.want; again = false }) [] (record { known = h.known; next = h.next }) (All-nil (CanBeNext n))
      one fates.cut h = All-nil (CanBeNext n)
      one fates.purged h = All-nil (CanBeNext n)
      one fates.replaced h = All-nil (CanBeNext n)
      one fates.dropped h = All-nil (CanBeNext n)

-- what is to wait of the displaced copies, plan by plan
pub flat-twice : {X Y Z : Type 0} (f : X → List Y) (g : Y → List Z) (xs : List X) → flat_map g (flat_map f xs) ≡ flat_map (λ x. flat_map g (f x)) xs
flat-twice f g [] = refl
flat-twice f g (x ∷ xs) =
    ap (flat_map g) (flat_map-cons f x xs) ∙ flat_map-append g (f x) (flat_map f xs)
    ∙ ap (λ zs. flat_map g (f x) ++ zs) (flat-twice f g xs) ∙ sym (flat_map-cons (λ y. flat_map g (f y)) x xs)

pub can-go_out : (machine : Machine) (m : ℕ) (jam : Bool) (s : SessionState) → StillCan s [] → StillCan (going_out machine m jam s).state (flat_map to_wait (displaced machine m jam s))
can-go_out machine m jam s can =
    let rule = fate_in_outage machine m jam s in
    let befits = outage-befits machine m jam s can in
    let fall = can-befall s rule (gives_in machine m jam s) [] can.fall befits in
    let formed = formed-befall s rule (gives_in machine m jam s) can.formed befits in
    let same = flat-twice (λ p. displaced_by p (rule p)) to_wait s.plans in
    record {
      fall = record {
        known = fall.known;
        next = fall.next;
        purges = fall.purges;
        few = λ g.
            let few = fall.few g in
            let both = count-append (is_in g) (flat_map (gives_in machine m jam s) s.plans) [] in
            let given = ap (count_by (is_in g)) same in
            omega arith;
      };
      formed = formed;
    }

pub outage-all-fall : (machine : Machine) (m : ℕ) (jam : Bool) (s : SessionState) → StillCan s [] → CanAllFall (displaced machine m jam s) (going_out machine m jam s).state
outage-all-fall machine m jam s can =
    all-fall (displaced machine m jam s) (going_out machine m jam s).state (can-go_out machine m jam s can)
    (displaced-next machine m jam s (length s.jobs) s.plans (λ p in'. record {
      known = All-contains (IsKnown s.jobs) s.plans p can.fall.known in';
      next = All-contains (λ (p : Plan). HasNextCopy p.sheet) s.plans p can.fall.next in';
    }))

-- and after the outage fates can befall the copies again
pub can-outage : (machine : Machine) (m : ℕ) (jam : Bool) (s : SessionState) → StillCan s [] → StillCan (outage machine m jam s).state []
can-outage machine m jam s can = all-fallen (displaced machine m jam s) (going_out machine m jam s).state (can-go_out machine m jam s can)
