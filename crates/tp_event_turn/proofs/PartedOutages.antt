-- An outage on a state less its past copies is the outage on the whole, with the same records.
use Rattle.tp_event_turn.proofs.PastPlans.{dead-running, dead-to_run, running-ahead, to_run-ahead}
use Rattle.std.proofs.Common.{◌≡◌, ℕ, inl, inr, ◌⊎◌, Bool, true, false, cond, ◌&&◌, not, List, ◌++◌, refl, sym, ap, ◌∙◌, Contains, subst}
use Rattle.tp_machine.specs.declared.machine.Machine.{Machine}
use Rattle.tp_schedule.specs.declared.parts.Plan.{Plan}
use Rattle.tp_schedule.specs.declared.parts.SheetId.{SheetId}
use Rattle.tp_event_rules.proofs.PlanOnFacts.{running-started}
use Rattle.tp_event_rules.specs.FallBacks.{fall_back_unless_broken}
use Rattle.tp_event_rules.specs.Fates as fates
use Rattle.tp_event_rules.specs.Fates.{Fate}
use Rattle.tp_event_rules.specs.Lines.{is_lost}
use Rattle.tp_event_rules.specs.Moments.{is_running_on, is_to_run_on, is_unstarted}
use Rattle.tp_event_rules.specs.Outages.{displaced, displaced_by, fate_in_outage, fate_of_running, fate_unless_lost, going_out, outage, with_out}
use Rattle.tp_event_rules.specs.States.{SessionState, and_then, for_each}
use Rattle.tp_event_turn.proofs.PartedFalls.{Like, alike-each, alike-then, alike-unless, dead, timed}
use Rattle.tp_event_turn.proofs.PartedLists.{SameFates, befall-part, by-fates, lost-same, part, told-part}
use Rattle.tp_event_turn.proofs.PartedStates.{CanStrike, IsParted, Strikes, parted-befall}

-- the fate by the tests on a plan
abbrev outage_of : Bool → Bool → Bool → Bool → Bool → Fate
outage_of j l r t u = cond ((j && not l) && r) fates.lost (cond (not (not l && t)) fates.stays (cond u fates.withdrawn fates.cut))

module _ (machine : Machine) (g : SheetId → Bool) (first : List Plan) (m : ℕ) (jam : Bool) (s : SessionState) (parted : IsParted machine g first s) where
  abbrev lost_in : Bool → Bool → Bool → Bool
  lost_in j l r = (j && not l) && r

  others : Plan → Bool → Fate
  others p l = cond (not (not l && is_to_run_on machine s.now m p)) fates.stays (cond (is_unstarted s.now p) fates.withdrawn fates.cut)

  outage-stays : (p : Plan) → Contains s.plans p → g p.sheet ≡ true → fate_in_outage machine m jam s p ≡ fates.stays
  outage-stays p in' gone = go jam (is_lost s p) (dead-running machine s.now p (dead machine g first s parted p in' gone) m) (dead-to_run machine s.now p (dead machine g first s parted p in' gone) m) where
    go : (j l : Bool) {r t : Bool} → r ≡ false → t ≡ false → cond ((j && not l) && r) fates.lost (cond (not (not l && t)) fates.stays (cond (is_unstarted s.now p) fates.withdrawn fates.cut)) ≡ fates.stays
    go true true e f = refl
    go true false e f = rw (e, f) refl
    go false true e f = refl
    go false false e f = rw f refl

  running-stays : (p : Plan) → Contains s.plans p → g p.sheet ≡ true → fate_of_running machine m jam s p ≡ fates.stays
  running-stays p in' gone = go jam (is_lost s p) (dead-running machine s.now p (dead machine g first s parted p in' gone) m) where
    go : (j l : Bool) {r : Bool} → r ≡ false → cond ((j && not l) && r) fates.lost fates.stays ≡ fates.stays
    go true true e = refl
    go true false e = rw e refl
    go false l e = refl

  unless-stays : (p : Plan) → Contains s.plans p → g p.sheet ≡ true → fate_unless_lost machine m jam s p ≡ fates.stays
  unless-stays p in' gone = go jam (is_lost s p) (dead-running machine s.now p (dead machine g first s parted p in' gone) m) (dead-to_run machine s.now p (dead machine g first s parted p in' gone) m) where
    go : (j l : Bool) {r t : Bool} → r ≡ false → t ≡ false → cond ((j && not l) && r) fates.stays (cond (not (not l && t)) fates.stays (cond (is_unstarted s.now p) fates.withdrawn fates.cut)) ≡ fates.stays
    go true true e f = refl
    go true false e f = rw (e, f) refl
    go false true e f = refl
    go false false e f = rw f refl

  outage-same : SameFates machine g first s (fate_in_outage machine m jam (part machine g first s)) (fate_in_outage machine m jam s)
  outage-same = record {
    stays = outage-stays;
    same = λ p in' stays. ap (λ l. cond ((jam && not l) && is_running_on machine s.now m p) fates.lost (cond (not (not l && is_to_run_on machine s.now m p)) fates.stays (cond (is_unstarted s.now p) fates.withdrawn fates.cut))) (lost-same machine g first s p stays);
  }

  running-same : SameFates machine g first s (fate_of_running machine m jam (part machine g first s)) (fate_of_running machine m jam s)
  running-same = record {
    stays = running-stays;
    same = λ p in' stays. ap (λ l. cond ((jam && not l) && is_running_on machine s.now m p) fates.lost fates.stays) (lost-same machine g first s p stays);
  }

  unless-same : SameFates machine g first s (fate_unless_lost machine m jam (part machine g first s)) (fate_unless_lost machine m jam s)
  unless-same = record {
    stays = unless-stays;
    same = λ p in' stays. ap (λ l. cond ((jam && not l) && is_running_on machine s.now m p) fates.stays (cond (not (not l && is_to_run_on machine s.now m p)) fates.stays (cond (is_unstarted s.now p) fates.withdrawn fates.cut))) (lost-same machine g first s p stays);
  }

  outage-strikes : CanStrike s (fate_in_outage machine m jam s)
  outage-strikes p in' = go jam (is_lost s p) refl (is_running_on machine s.now m p) refl (is_to_run_on machine s.now m p) refl (is_unstarted s.now p) refl where
    rest : (l : Bool) → is_lost s p ≡ l → (t : Bool) → is_to_run_on machine s.now m p ≡ t → (u : Bool) → is_unstarted s.now p ≡ u
        → (cond (not (not l && t)) fates.stays (cond u fates.withdrawn fates.cut) ≡ fates.stays) ⊎ Strikes s (cond (not (not l && t)) fates.stays (cond u fates.withdrawn fates.cut)) p
    rest true a t b u c = inl refl
    rest false a false b u c = inl refl
    rest false a true b true c = inr (record { copy = a; ahead = to_run-ahead machine s.now p (timed machine g first s parted p in') m b; started = λ h. absurd (cc) })
    rest false a true b false c = inr (record { copy = a; ahead = to_run-ahead machine s.now p (timed machine g first s parted p in') m b; started = λ h. c })

    go : (j l : Bool) → is_lost s p ≡ l → (r : Bool) → is_running_on machine s.now m p ≡ r → (t : Bool) → is_to_run_on machine s.now m p ≡ t → (u : Bool) → is_unstarted s.now p ≡ u
        → (outage_of j l r t u ≡ fates.stays) ⊎ Strikes s (outage_of j l r t u) p
    go true true a r b t c u d = rest true a t c u d
    go true false a true b t c u d = inr (record { copy = a; ahead = running-ahead machine s.now p (timed machine g first s parted p in') m b; started = λ h. running-started machine s.now m p (timed machine g first s parted p in') b ∙ refl })
    go true false a false b t c u d = rest false a t c u d
    go false l a r b t c u d = rest l a t c u d

  alike-going : Like machine g first (going_out machine m jam (part machine g first s)) (going_out machine m jam s)
  alike-going =
      let out : SameFates machine g first (with_out m s) (fate_in_outage machine m jam (part machine g first s)) (fate_in_outage machine m jam s) = record { stays = outage-same.stays; same = outage-same.same } in
      let kept : IsParted machine g first (with_out m s) = record { can = parted.can; each = parted.each; lost = parted.lost; fronts = parted.fronts; last = parted.last; past = parted.past; gone = parted.gone } in
      let one = told-part machine g first s (fate_of_running machine m jam (part machine g first s)) (fate_of_running machine m jam s) running-same in
      let other = told-part machine g first s (fate_unless_lost machine m jam (part machine g first s)) (fate_unless_lost machine m jam s) unless-same in
      let strikes : CanStrike (with_out m s) (fate_in_outage machine m jam s) = λ p in'. elim (outage-strikes p in') [
        | inl stays ↦ inl stays
        | inr st ↦ inr (record { copy = st.copy; ahead = st.ahead; started = st.started })
      ] in
      record {
        records = λ i. one i ++ other i;
        state = befall-part machine g first (with_out m s) (fate_in_outage machine m jam (part machine g first s)) (fate_in_outage machine m jam s) out;
        parted = parted-befall machine g first (with_out m s) (fate_in_outage machine m jam s) strikes kept;
      }

  pub alike-outage : Like machine g first (outage machine m jam (part machine g first s)) (outage machine m jam s)
  alike-outage =
      let all : displaced machine m jam (part machine g first s) ≡ displaced machine m jam s = by-fates machine g first s (fate_in_outage machine m jam (part machine g first s)) (fate_in_outage machine m jam s) outage-same displaced_by (λ p. refl) in
      subst (λ ds. Like machine g first (and_then (going_out machine m jam (part machine g first s)) (for_each fall_back_unless_broken ds)) (outage machine m jam s)) (sym all)
      (alike-then machine g first (going_out machine m jam (part machine g first s)) (going_out machine m jam s) (for_each fall_back_unless_broken (displaced machine m jam s)) alike-going
      (λ t kept. alike-each machine g first fall_back_unless_broken (alike-unless machine g first) (displaced machine m jam s) t kept))
