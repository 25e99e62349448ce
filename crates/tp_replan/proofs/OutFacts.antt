-- The fates where a module goes out: they fit, and the lost copies are reported apart.
use Rattle.std.proofs.Common.{◌≡◌, ℕ, ◌≤◌, Bool, true, false, cond, not, ◌&&◌, ◌||◌, List, [], ◌∷◌, map, refl, ap, ◌∙◌, arith, count_by, nat_lt}
use Rattle.std.specs.List.{list_any}
use Rattle.tp_machine.specs.declared.machine.Machine.{Machine}
use Rattle.tp_schedule.specs.Holders.{Run, runs_of}
use Rattle.tp_schedule.specs.Plans.{IsFormed}
use Rattle.tp_schedule.specs.declared.parts.Plan.{Plan}
use Rattle.tp_event_rules.specs.Fates as fates
use Rattle.tp_event_rules.specs.Fates.{Fate as Befalls}
use Rattle.tp_event_rules.specs.FallBacks.{is_copy}
use Rattle.tp_event_rules.specs.Moments.{does_use, is_running, is_running_on, is_started, is_to_run_on, is_to_tray, is_unstarted}
use Rattle.tp_event_rules.specs.Outages.{fate_in_outage, fate_of_running, fate_unless_lost, is_lost_by}
use Rattle.tp_event_rules.specs.Seen.{HasStarted}
use Rattle.tp_event_rules.specs.States.{SessionState}
use Rattle.tp_replan.specs.Meanings.{lost_alone, lost_aside, meant}
use Rattle.tp_replan.specs.Open.{Fits}
use Rattle.tp_replan.specs.declared.fate.Fate.{Fate}
use Rattle.tp_replan.specs.declared.fate.Fate.TheVariants.{Stays, Lost, Withdrawn, Cut, Purged, Replaced, Dropped}
use Rattle.tp_replan.proofs.OpenFacts.{and-both, and-first, and-third, count-cons, one-where, started-some, stays-fits, unstarted-to_tray}

-- a running action has started
running-some : (now : ℕ) (test : Run → Bool) (runs : List Run) → list_any (λ run. is_running now run && test run) runs ≡ true → 1 ≤ count_by (is_started now) runs
running-some now test [] e = absurd cc
running-some now test (run ∷ runs) e = go (is_running now run && test run) refl e (running-some now test runs) where
  here : (is_running now run && test run) ≡ true → is_started now run ≡ true
  here f = and-first (is_started now run) (nat_lt now run.end) (and-first (is_running now run) (test run) f)

  go : (b : Bool) → (is_running now run && test run) ≡ b → (b || list_any (λ r. is_running now r && test r) runs) ≡ true
      → (list_any (λ r. is_running now r && test r) runs ≡ true → 1 ≤ count_by (is_started now) runs) → 1 ≤ count_by (is_started now) (run ∷ runs)
  go true f g later = let one = one-where (is_started now run) (here f) in let first = count-cons (is_started now) run runs in omega arith
  go false f g later = let some = later g in let first = count-cons (is_started now) run runs in omega arith

pub outage-fits : (machine : Machine) (m : ℕ) (jam : Bool) (s : SessionState) (p : Plan) → IsFormed p → HasStarted s.now p → Fits s p (fate_in_outage machine m jam s p)
outage-fits machine m jam s p formed purges =
    go (is_lost_by machine m jam s p) refl (is_copy s p && is_to_run_on machine s.now m p) refl (is_unstarted s.now p) refl where
      go : (a : Bool) → is_lost_by machine m jam s p ≡ a → (b : Bool) → (is_copy s p && is_to_run_on machine s.now m p) ≡ b → (d : Bool) → is_unstarted s.now p ≡ d
          → Fits s p (cond a fates.lost (cond (not b) fates.stays (cond d fates.withdrawn fates.cut)))
      go true e b f d g = record {
        started = λ h. running-some s.now (λ run. does_use machine m run.act) (runs_of p) (and-third jam (is_copy s p) (is_running_on machine s.now m p) e);
        opens = λ h. absurd cc;
      }
      go false e false f d g = stays-fits s p
      go false e true f true g = record {
        started = λ h. absurd cc;
        opens = λ h. and-both (is_copy s p) (is_to_tray p.goal) (and-first (is_copy s p) (is_to_run_on machine s.now m p) f) (unstarted-to_tray s.now p purges g);
      }
      go false e true f false g = record { started = λ h. started-some s.now p formed g; opens = λ h. absurd cc }

-- the fate alone, and the fate aside
alone : Befalls → Befalls
alone fates.stays = fates.stays
alone fates.lost = fates.lost
alone fates.withdrawn = fates.stays
alone fates.cut = fates.stays
alone fates.purged = fates.stays
alone fates.replaced = fates.stays
alone fates.dropped = fates.stays

aside : Befalls → Befalls
aside fates.stays = fates.stays
aside fates.lost = fates.stays
aside fates.withdrawn = fates.withdrawn
aside fates.cut = fates.cut
aside fates.purged = fates.purged
aside fates.replaced = fates.replaced
aside fates.dropped = fates.dropped

meant-alone : (f : Fate) → meant (lost_alone f) ≡ alone (meant f)
unfolding alone
meant-alone Stays = refl
meant-alone Lost = refl
meant-alone Withdrawn = refl
meant-alone Cut = refl
meant-alone Purged = refl
meant-alone Replaced = refl
meant-alone Dropped = refl

meant-aside : (f : Fate) → meant (lost_aside f) ≡ aside (meant f)
unfolding aside
meant-aside Stays = refl
meant-aside Lost = refl
meant-aside Withdrawn = refl
meant-aside Cut = refl
meant-aside Purged = refl
meant-aside Replaced = refl
meant-aside Dropped = refl

alone-is : (machine : Machine) (m : ℕ) (jam : Bool) (s : SessionState) (p : Plan) → alone (fate_in_outage machine m jam s p) ≡ fate_of_running machine m jam s p
unfolding alone
alone-is machine m jam s p = go (is_lost_by machine m jam s p) (is_copy s p && is_to_run_on machine s.now m p) (is_unstarted s.now p) where
  go : (a b d : Bool) → alone (cond a fates.lost (cond (not b) fates.stays (cond d fates.withdrawn fates.cut))) ≡ cond a fates.lost fates.stays
  go true b d = refl
  go false false d = refl
  go false true true = refl
  go false true false = refl

aside-is : (machine : Machine) (m : ℕ) (jam : Bool) (s : SessionState) (p : Plan) → aside (fate_in_outage machine m jam s p) ≡ fate_unless_lost machine m jam s p
unfolding aside
aside-is machine m jam s p = go (is_lost_by machine m jam s p) (is_copy s p && is_to_run_on machine s.now m p) (is_unstarted s.now p) where
  go : (a b d : Bool) → aside (cond a fates.lost (cond (not b) fates.stays (cond d fates.withdrawn fates.cut))) ≡ cond a fates.stays (cond (not b) fates.stays (cond d fates.withdrawn fates.cut))
  go true b d = refl
  go false false d = refl
  go false true true = refl
  go false true false = refl

changed-by : (change : Fate → Fate) (change' : Befalls → Befalls) (rule rule' : Plan → Befalls) → ((f : Fate) → meant (change f) ≡ change' (meant f)) → ((p : Plan) → change' (rule p) ≡ rule' p)
    → (fates : List Fate) (plans : List Plan) → map meant fates ≡ map rule plans → map meant (map change fates) ≡ map rule' plans
changed-by change change' rule rule' each each' [] [] e = refl
changed-by change change' rule rule' each each' [] (p ∷ plans) e = absurd cc
changed-by change change' rule rule' each each' (f ∷ fates) [] e = absurd cc
changed-by change change' rule rule' each each' (f ∷ fates) (p ∷ plans) e =
    let heads : meant f ≡ rule p = cc in
    let tails : map meant fates ≡ map rule plans = cc in
    (λ k. (each f ∙ ap change' heads ∙ each' p) k ∷ changed-by change change' rule rule' each each' fates plans tails k)

pub alone-by : (machine : Machine) (m : ℕ) (jam : Bool) (s : SessionState) (fates : List Fate) → map meant fates ≡ map (fate_in_outage machine m jam s) s.plans
    → map meant (map lost_alone fates) ≡ map (fate_of_running machine m jam s) s.plans
alone-by machine m jam s fates e = changed-by lost_alone alone _ _ meant-alone (alone-is machine m jam s) fates s.plans e

pub aside-by : (machine : Machine) (m : ℕ) (jam : Bool) (s : SessionState) (fates : List Fate) → map meant fates ≡ map (fate_in_outage machine m jam s) s.plans
    → map meant (map lost_aside fates) ≡ map (fate_unless_lost machine m jam s) s.plans
aside-by machine m jam s fates e = changed-by lost_aside aside _ _ meant-aside (aside-is machine m jam s) fates s.plans e
