-- Each answer leaves less of the loop's work.
use Rattle.std.proofs.Common.{◌≡◌, ℕ, ◌+◌, ◌≤◌, Bool, true, false, cond, not, ◌&&◌, List, [], ◌∷◌, Contains, refl, sym, ap, ◌∙◌, arith, subst, count_by, inl, inr}
use Rattle.std.proofs.lemmas.List.Concat.{flat_map-cons}
use Rattle.tp_machine.specs.declared.machine.Machine.{Machine}
use Rattle.tp_schedule.specs.declared.parts.Plan.{Plan}
use Rattle.tp_schedule.specs.declared.records.Record.TheVariants.{Again}
use Rattle.tp_schedule.proofs.Membership.{Contains-cons_cases, Contains-here, Contains-later}
use Rattle.tp_jobs.specs.Backlogs.{next_copy}
use Rattle.tp_jobs.specs.WaitingCopies.{put_waiting}
use Rattle.tp_event_rules.specs.Fates as fates
use Rattle.tp_event_rules.specs.Fates.{Fate as Befalls, befall, is_loss, left_by, left_of, to_purge}
use Rattle.tp_event_rules.specs.FallBacks.{Displaced, fall_back, fall_back_unless_broken, fate_in_break, fate_in_fall_back, is_copy, is_line_entering, job_break, later_fall_back, next_waits}
use Rattle.tp_event_rules.specs.Labels.{label}
use Rattle.tp_event_rules.specs.Lines.{is_job_broken, is_lost}
use Rattle.tp_event_rules.specs.Moments.{front_of, is_running_on, is_to_tray}
use Rattle.tp_event_rules.specs.Outages.{displaced, fate_in_outage, fate_of_others, going_out, is_lost_by, outage}
use Rattle.tp_event_rules.specs.States.{Outcome, SessionState, and_then, nothing_told}
use Rattle.tp_event_rules.proofs.LessOutages.{for_each-keeps}
use Rattle.tp_replan.specs.LooseLoop.{copies_left, trays_left}
use Rattle.tp_replan.proofs.OpenFacts.{count-append, count-cons}
use Rattle.tp_replan.proofs.StillFall.{now-lost, still-lost}

-- fewer copies that are not lost, and fewer that are to go to their trays
pub record IsFewer (s t : SessionState) : Type 0 where
  pub copies : copies_left t ≤ copies_left s
  pub trays : trays_left t ≤ trays_left s

pub IsFewer-refl : (s : SessionState) → IsFewer s s
IsFewer-refl s = record { copies = omega arith; trays = omega arith }

pub IsFewer-trans : (s t u : SessionState) → IsFewer s t → IsFewer t u → IsFewer s u
IsFewer-trans s t u one other = record {
  copies = let a = one.copies in let b = other.copies in omega arith;
  trays = let a = one.trays in let b = other.trays in omega arith;
}

fewer-by : (now : ℕ) (rule : Plan → Befalls) (after before : Plan → Bool) (plans : List Plan) → ((p : Plan) → Contains plans p → count_by after (left_of now p (rule p)) ≤ cond (before p) 1 0)
    → count_by after (left_by rule now plans) ≤ count_by before plans
fewer-by now rule after before [] each = omega arith
fewer-by now rule after before (p ∷ plans) each =
    let here = each p (Contains-here p plans) in
    let rest = fewer-by now rule after before plans (λ q in'. each q (Contains-later p plans q in')) in
    let lefts = ap (count_by after) (flat_map-cons (λ q. left_of now q (rule q)) p plans) ∙ count-append after (left_of now p (rule p)) (left_by rule now plans) in
    let all = count-cons before p plans in
    omega arith

one-fewer-by : (now : ℕ) (rule : Plan → Befalls) (after before : Plan → Bool) (plans : List Plan) → ((p : Plan) → Contains plans p → count_by after (left_of now p (rule p)) ≤ cond (before p) 1 0)
    → (p : Plan) → Contains plans p → count_by after (left_of now p (rule p)) + 1 ≤ cond (before p) 1 0 → count_by after (left_by rule now plans) + 1 ≤ count_by before plans
one-fewer-by now rule after before [] each p in' less = absurd (omega (arith, in'.1))
one-fewer-by now rule after before (q ∷ plans) each p in' less = elim (Contains-cons_cases q plans p in') [
  | inl same ↦
      let here : count_by after (left_of now q (rule q)) + 1 ≤ cond (before q) 1 0 = subst (λ r. count_by after (left_of now r (rule r)) + 1 ≤ cond (before r) 1 0) (sym same) less in
      let rest = fewer-by now rule after before plans (λ r in'. each r (Contains-later q plans r in')) in
      omega (arith, lefts, all)
  | inr later ↦
      let here = each q (Contains-here q plans) in
      let rest = one-fewer-by now rule after before plans (λ r in'. each r (Contains-later q plans r in')) p later less in
      omega (arith, lefts, all)
] where
  lefts : count_by after (left_by rule now (q ∷ plans)) ≡ count_by after (left_of now q (rule q)) + count_by after (left_by rule now plans)
  lefts = ap (count_by after) (flat_map-cons (λ q. left_of now q (rule q)) q plans) ∙ count-append after (left_of now q (rule q)) (left_by rule now plans)

  all : count_by before (q ∷ plans) ≡ cond (before q) 1 0 + count_by before plans
  all = count-cons before q plans

-- of one plan
less-copy : (lost lost' : Bool) → (lost ≡ true → lost' ≡ true) → cond (not lost') 1 0 ≤ cond (not lost) 1 0
less-copy true true h = omega arith
less-copy true false h = absurd (let e = h refl in cc)
less-copy false true h = omega arith
less-copy false false h = omega arith

less-tray : (lost lost' to : Bool) → (lost ≡ true → lost' ≡ true) → cond (not lost' && to) 1 0 ≤ cond (not lost && to) 1 0
less-tray true true to h = omega arith
less-tray true false to h = absurd (let e = h refl in cc)
less-tray false true to h = go to where
  go : (to : Bool) → 0 ≤ cond to 1 0
  go to = omega arith
less-tray false false to h = omega arith

gone-copy : (lost : Bool) → lost ≡ true → cond {A = ℕ} (not lost) 1 0 ≡ 0
gone-copy true e = refl
gone-copy false e = absurd cc

gone-tray : (lost : Bool) → cond {A = ℕ} (not lost && false) 1 0 ≡ 0
gone-tray true = refl
gone-tray false = refl

lost-tray : (lost to : Bool) → lost ≡ true → cond {A = ℕ} (not lost && to) 1 0 ≡ 0
lost-tray true to e = refl
lost-tray false to e = absurd cc

module _ (s : SessionState) (rule : Plan → Befalls) where
  abbrev t : SessionState
  t = befall rule s

  copies-of : (p : Plan) → Contains s.plans p → count_by (is_copy t) (left_of s.now p (rule p)) ≤ cond (is_copy s p) 1 0
  copies-of p in' = go (rule p) refl where
    less : cond {A = ℕ} (is_copy t p) 1 0 ≤ cond (is_copy s p) 1 0
    less = less-copy (is_lost s p) (is_lost t p) (still-lost s rule p in')

    go : (f : Befalls) → rule p ≡ f → count_by (is_copy t) (left_of s.now p f) ≤ cond (is_copy s p) 1 0
    go fates.stays e = let one = count-cons (is_copy t) p [] in let l = less in omega arith
    go fates.lost e = let one = count-cons (is_copy t) (front_of s.now p) [] in let none = gone-copy (is_lost t p) (now-lost s rule p in' (ap is_loss e)) in omega arith
    go fates.withdrawn e = omega arith
    go fates.cut e = let one = count-cons (is_copy t) (front_of s.now p) [] in let l = less in omega arith
    go fates.purged e = let one = count-cons (is_copy t) (to_purge (front_of s.now p)) [] in let l = less in omega arith
    go fates.replaced e = let one = count-cons (is_copy t) (to_purge (front_of s.now p)) [] in let l = less in omega arith
    go fates.dropped e = omega arith

  trays-of : (p : Plan) → Contains s.plans p → count_by (λ q. is_copy t q && is_to_tray q.goal) (left_of s.now p (rule p)) ≤ cond (is_copy s p && is_to_tray p.goal) 1 0
  trays-of p in' = go (rule p) refl where
    less : cond {A = ℕ} (is_copy t p && is_to_tray p.goal) 1 0 ≤ cond (is_copy s p && is_to_tray p.goal) 1 0
    less = less-tray (is_lost s p) (is_lost t p) (is_to_tray p.goal) (still-lost s rule p in')

    go : (f : Befalls) → rule p ≡ f → count_by (λ q. is_copy t q && is_to_tray q.goal) (left_of s.now p f) ≤ cond (is_copy s p && is_to_tray p.goal) 1 0
    go fates.stays e = let one = count-cons (λ q. is_copy t q && is_to_tray q.goal) p [] in let l = less in omega arith
    go fates.lost e = let one = count-cons (λ q. is_copy t q && is_to_tray q.goal) (front_of s.now p) [] in let none = lost-tray (is_lost t p) (is_to_tray p.goal) (now-lost s rule p in' (ap is_loss e)) in omega arith
    go fates.withdrawn e = omega arith
    go fates.cut e = let one = count-cons (λ q. is_copy t q && is_to_tray q.goal) (front_of s.now p) [] in let l = less in omega arith
    go fates.purged e = let one = count-cons (λ q. is_copy t q && is_to_tray q.goal) (to_purge (front_of s.now p)) [] in let none = gone-tray (is_lost t p) in omega arith
    go fates.replaced e = let one = count-cons (λ q. is_copy t q && is_to_tray q.goal) (to_purge (front_of s.now p)) [] in let none = gone-tray (is_lost t p) in omega arith
    go fates.dropped e = omega arith

  pub fewer-befall : IsFewer s (befall rule s)
  fewer-befall = record {
    copies = fewer-by s.now rule (is_copy t) (is_copy s) s.plans copies-of;
    trays = fewer-by s.now rule (λ q. is_copy t q && is_to_tray q.goal) (λ p. is_copy s p && is_to_tray p.goal) s.plans trays-of;
  }

  pub one-lost : (p : Plan) → Contains s.plans p → rule p ≡ fates.lost → is_copy s p ≡ true → copies_left (befall rule s) + 1 ≤ copies_left s
  one-lost p in' e own = one-fewer-by s.now rule (is_copy t) (is_copy s) s.plans copies-of p in' here where
    here : count_by (is_copy t) (left_of s.now p (rule p)) + 1 ≤ cond (is_copy s p) 1 0
    here =
        let one = count-cons (is_copy t) (front_of s.now p) [] in
        let none = gone-copy (is_lost t p) (now-lost s rule p in' (ap is_loss e)) in
        let left = ap (λ f. count_by (is_copy t) (left_of s.now p f)) e in
        let was = ap (λ b. cond {A = ℕ} b 1 0) own in
        omega arith

-- breaks, fall-backs, outages
fewer-wait_next : (s : SessionState) (d : Displaced) → IsFewer s (next_waits d s).state
fewer-wait_next s d = go d.again where
  go : (b : Bool) → IsFewer s (cond {A = Outcome} b (record {
    records = Again (label s.jobs (next_copy d.sheet)) ∷ [];
    state = record s { waiting = put_waiting s.waiting (record { sheet = next_copy d.sheet; want = d.want }) };
  }) (nothing_told s)).state
  go true = record { copies = omega arith; trays = omega arith }
  go false = IsFewer-refl s

pub fewer-fall_back : (s : SessionState) (d : Displaced) → IsFewer s (fall_back s d).state
fewer-fall_back s d = go (is_line_entering s d.sheet) where
  go : (b : Bool) → IsFewer s (cond {A = Outcome} b (job_break d.sheet.job s) (and_then (next_waits d s) (later_fall_back d.sheet))).state
  go true = let less = fewer-befall s (fate_in_break s d.sheet.job) in record { copies = less.copies; trays = less.trays }
  go false = IsFewer-trans s (next_waits d s).state (later_fall_back d.sheet (next_waits d s).state).state (fewer-wait_next s d)
      (fewer-befall (next_waits d s).state (fate_in_fall_back (next_waits d s).state d.sheet))

pub fewer-unless_broken : (s : SessionState) (d : Displaced) → IsFewer s (fall_back_unless_broken s d).state
fewer-unless_broken s d = go (is_job_broken s.jobs d.sheet.job) where
  go : (b : Bool) → IsFewer s (cond {A = Outcome} b (nothing_told s) (fall_back s d)).state
  go true = IsFewer-refl s
  go false = fewer-fall_back s d

-- a jam loses the copies that run on the module
pub jam-loses : (machine : Machine) (m : ℕ) (s : SessionState) (p : Plan) → Contains s.plans p → is_copy s p ≡ true → is_running_on machine s.now m p ≡ true
    → copies_left (outage machine m true s).state + 1 ≤ copies_left s
jam-loses machine m s p in' own runs =
    let first = one-lost s (fate_in_outage machine m true s) p in' lost own in
    let rest : IsFewer (going_out machine m true s).state (outage machine m true s).state =
    for_each-keeps (IsFewer (going_out machine m true s).state) fall_back_unless_broken
    (λ q d less. IsFewer-trans (going_out machine m true s).state q (fall_back_unless_broken q d).state less (fewer-unless_broken q d))
    (displaced machine m true s) (going_out machine m true s).state (IsFewer-refl (going_out machine m true s).state) in
    let few = rest.copies in
    omega arith where
      lost : fate_in_outage machine m true s p ≡ fates.lost
      lost = go (is_lost_by machine m true s p) (both (is_copy s p) (is_running_on machine s.now m p) own runs) where
        both : (a b : Bool) → a ≡ true → b ≡ true → ((true && a) && b) ≡ true
        both true true e f = refl
        both true false e f = absurd cc
        both false b e f = absurd cc

        go : (b : Bool) → b ≡ true → cond b fates.lost (fate_of_others machine m s p) ≡ fates.lost
        go true e = refl
        go false e = absurd cc
