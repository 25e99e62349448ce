-- A break and a fall-back on a state less its past copies are those on the whole, with the same records.
use Rattle.tp_event_turn.proofs.PastPlans.{dead-entering, dead-flight, dead-started, flight-ahead}
use Rattle.std.proofs.Common.{◌≡◌, ℕ, ◌<◌, inl, inr, ◌⊎◌, Bool, true, false, cond, ◌&&◌, ◌||◌, ◌==◌, not, List, [], ◌∷◌, ◌++◌, length, map, filter, refl, sym, ap, ◌∙◌, arith, Contains, subst}
use Rattle.std.specs.List.{list_any}
use Rattle.std.proofs.lemmas.Bool.Decides.{nat_tests}
use Rattle.std.proofs.lemmas.List.Elements.{All-contains}
use Rattle.tp_machine.specs.declared.machine.Machine.{Machine}
use Rattle.tp_choices.proofs.PointFacts.{point-le}
use Rattle.tp_choices.specs.LiveParts.{less}
use Rattle.tp_jobs.specs.Backlogs.{next_copy}
use Rattle.tp_jobs.specs.WaitingCopies.{put_waiting}
use Rattle.tp_schedule.specs.LivePlans.{is_live}
use Rattle.tp_schedule.specs.Plans.{IsTimedPlan, end_of_plan, is_before, point}
use Rattle.tp_schedule.specs.declared.parts.Plan.{Plan}
use Rattle.tp_schedule.specs.declared.parts.SheetId.{SheetId}
use Rattle.tp_schedule.specs.declared.records.Record.{Record}
use Rattle.tp_schedule.specs.declared.records.Record.TheVariants.{Again, Broken}
use Rattle.tp_schedule.proofs.Membership.{Contains-here, Contains-later}
use Rattle.tp_event_rules.specs.FallBacks.{Displaced, by_copy, fall_back, fall_back_unless_broken, fate_in_break, fate_in_fall_back, is_later, is_line_entering, is_on_its_way, job_break, later_fall_back, next_waits, notices_of_plans, notices_of_waiting, without_job}
use Rattle.tp_event_rules.specs.Fates as fates
use Rattle.tp_event_rules.specs.Fates.{Fate, told_of}
use Rattle.tp_event_rules.specs.Labels.{job_name, label}
use Rattle.tp_event_rules.specs.Lines.{is_job_broken, is_lost, is_same_line}
use Rattle.tp_event_rules.specs.Moments.{is_entering, is_in_flight, is_to_tray, is_unstarted}
use Rattle.tp_event_rules.specs.States.{Outcome, SessionState, and_then, for_each, nothing_told}
use Rattle.tp_event_turn.proofs.PartedBreaks.{Drops, drops-behind, drops-by_copy, drops-told, keep, none, skip}
use Rattle.tp_event_turn.proofs.PartedLists.{SameFates, befall-part, lost-same, part, told-part}
use Rattle.tp_event_turn.proofs.PartedStates.{CanStrike, IsParted, Strikes, parted-befall}

-- fates by the tests on a plan
abbrev break_of : Bool → Bool → Bool → Bool → Bool → Fate
break_of j l u w e = cond (not (j && not l)) fates.stays (cond u fates.dropped (cond (w && not e) fates.purged fates.stays))

abbrev fall_of : Bool → Bool → Bool → Bool → Bool → Fate
fall_of j k l u w = cond (not (j && k && not l)) fates.stays (cond u fates.withdrawn (cond w fates.replaced fates.stays))

-- a next copy waits
abbrev again : SessionState → Displaced → Outcome
again s d = record {
  records = Again (label s.jobs (next_copy d.sheet)) ∷ [];
  state = record s { waiting = put_waiting s.waiting (record { sheet = next_copy d.sheet; want = d.want }) };
}

any-part : {X : Type 0} (q t t' : X → Bool) (xs : List X) → ((x : X) → Contains xs x → q x ≡ false → t x ≡ false) → ((x : X) → Contains xs x → q x ≡ true → t' x ≡ t x) → list_any t' (filter q xs) ≡ list_any t xs
any-part q t t' [] fails same = refl
any-part {X} q t t' (x ∷ xs) fails same = go (q x) refl (any-part q t t' xs (λ y in'. fails y (Contains-later x xs y in')) (λ y in'. same y (Contains-later x xs y in'))) where
  go : (b : Bool) → q x ≡ b → list_any t' (filter q xs) ≡ list_any t xs → list_any t' (cond b (x ∷ filter q xs) (filter q xs)) ≡ (t x || list_any t xs)
  go true e rest = rw (same x (Contains-here x xs) e) (ap (λ b. t x || b) rest)
  go false e rest = rw (fails x (Contains-here x xs) e) rest

not-not : (b : Bool) → not b ≡ false → b ≡ true
not-not true e = refl
not-not false e = absurd (cc)

not-yes : (b : Bool) → not b ≡ true → b ≡ false
not-yes true e = absurd (cc)
not-yes false e = refl

-- the outcome on the part tells what the one on the whole tells, and leaves the part of what that leaves
pub record Alike (machine : Machine) (g : SheetId → Bool) (first : List Plan) (o q : Outcome) : Type 0 where
  pub records : o.records ≡ q.records
  pub state : o.state ≡ part machine g first q.state
  pub parted : IsParted machine g first q.state

module _ (machine : Machine) (g : SheetId → Bool) (first : List Plan) where
  abbrev pub Like : Outcome → Outcome → Type 0
  Like = Alike machine g first

  abbrev pub Parted : SessionState → Type 0
  Parted = IsParted machine g first

  -- one part after another, where they may differ
  pub alike-next : (o q : Outcome) (f f' : SessionState → Outcome) → Like o q → Like (f (part machine g first q.state)) (f' q.state) → Like (and_then o f) (and_then q f')
  alike-next o q f f' like next =
      let here : f o.state ≡ f (part machine g first q.state) = ap f like.state in
      record {
        records = (λ i. like.records i ++ (here i).records) ∙ ap (λ l. q.records ++ l) next.records;
        state = ap (λ (r : Outcome). r.state) here ∙ next.state;
        parted = next.parted;
      }

  pub alike-then : (o q : Outcome) (f : SessionState → Outcome) → Like o q → ((s : SessionState) → Parted s → Like (f (part machine g first s)) (f s)) → Like (and_then o f) (and_then q f)
  alike-then o q f like each = alike-next o q f f like (each q.state like.parted)

  pub alike-each : {X : Type 0} (f : SessionState → X → Outcome) → ((s : SessionState) (x : X) → Parted s → Like (f (part machine g first s) x) (f s x)) → (xs : List X) (s : SessionState) → Parted s
      → Like (for_each f xs (part machine g first s)) (for_each f xs s)
  alike-each f each [] s parted = record { records = refl; state = refl; parted = parted }
  alike-each f each (x ∷ xs) s parted = alike-then (f (part machine g first s) x) (f s x) (for_each f xs) (each s x parted) (alike-each f each xs)

  alike-either : (b : Bool) (o o' q q' : Outcome) → Like o q → Like o' q' → Like (cond b o o') (cond b q q')
  alike-either true o o' q q' one other = one
  alike-either false o o' q q' one other = other

  module _ (s : SessionState) (parted : Parted s) where
    pub dead : (p : Plan) → Contains s.plans p → g p.sheet ≡ true → is_live machine s.now p ≡ false
    dead p in' gone = not-yes (is_live machine s.now p) (sym (parted.each p in') ∙ gone)

    pub timed : (p : Plan) → Contains s.plans p → IsTimedPlan machine p
    timed p in' = All-contains (IsTimedPlan machine) s.plans p parted.can.legal.timed in'

    unstarted-ahead : (p : Plan) → Contains s.plans p → is_unstarted s.now p ≡ true → s.now < end_of_plan p
    unstarted-ahead p in' e =
        let rises = point-le machine p (timed p in') 0 (length p.acts) (omega arith) (omega arith) in
        let high : s.now < point p 0 = grind (arith, nat_tests) in omega arith

    way-ahead : (p : Plan) → Contains s.plans p → is_on_its_way s.now p ≡ true → s.now < end_of_plan p
    way-ahead p in' e = go (is_in_flight s.now p) refl e where
      go : (b : Bool) → is_in_flight s.now p ≡ b → (b && is_to_tray p.goal) ≡ true → s.now < end_of_plan p
      go true f e = flight-ahead machine s.now p (timed p in') f
      go false f e = absurd (cc)

    -- a break
    break-stays : (job : ℕ) (p : Plan) → Contains s.plans p → g p.sheet ≡ true → fate_in_break s job p ≡ fates.stays
    break-stays job p in' gone = go ((p.sheet.job == job) && not (is_lost s p)) (dead-started machine s.now p (dead p in' gone)) (dead-flight machine s.now p (dead p in' gone)) where
      go : (b : Bool) {u w : Bool} → u ≡ false → w ≡ false → cond (not b) fates.stays (cond u fates.dropped (cond ((w && is_to_tray p.goal) && not (is_entering s.now p)) fates.purged fates.stays)) ≡ fates.stays
      go true e f = rw (e, f) refl
      go false e f = refl

    break-same : (job : ℕ) → SameFates machine g first s (fate_in_break (part machine g first s) job) (fate_in_break s job)
    break-same job = record {
      stays = break-stays job;
      same = λ p in' stays. ap (λ l. cond (not ((p.sheet.job == job) && not l)) fates.stays (cond (is_unstarted s.now p) fates.dropped (cond (is_on_its_way s.now p && not (is_entering s.now p)) fates.purged fates.stays)))
          (lost-same machine g first s p stays);
    }

    break-strikes : (job : ℕ) → CanStrike s (fate_in_break s job)
    break-strikes job p in' = go (p.sheet.job == job) (is_lost s p) refl (is_unstarted s.now p) refl (is_on_its_way s.now p) refl (is_entering s.now p) refl where
      go : (j l : Bool) → is_lost s p ≡ l → (u : Bool) → is_unstarted s.now p ≡ u → (w : Bool) → is_on_its_way s.now p ≡ w → (e : Bool) → is_entering s.now p ≡ e
          → (break_of j l u w e ≡ fates.stays) ⊎ Strikes s (break_of j l u w e) p
      go false l a u b w c e d = inl refl
      go true true a u b w c e d = inl refl
      go true false a true b w c e d = inr (record { copy = a; ahead = unstarted-ahead p in' b; started = λ h. absurd (cc) })
      go true false a false b true c true d = inl refl
      go true false a false b true c false d = inr (record { copy = a; ahead = way-ahead p in' c; started = λ h. b })
      go true false a false b false c e d = inl refl

    -- the notices of a break: those of past copies tell nothing
    drops-plans : (job : ℕ) (ps : List Plan) → ((p : Plan) → Contains ps p → Contains s.plans p)
        → Drops (map (λ p. record { sheet = p.sheet; records = told_of s.jobs s.now p (fate_in_break (part machine g first s) job p) }) (less g ps))
        (map (λ p. record { sheet = p.sheet; records = told_of s.jobs s.now p (fate_in_break s job p) }) ps)
    drops-plans job [] of = none
    drops-plans job (p ∷ ps) of = go (g p.sheet) refl (drops-plans job ps (λ q in'. of q (Contains-later p ps q in'))) where
      go : (b : Bool) → g p.sheet ≡ b
          → Drops (map (λ p. record { sheet = p.sheet; records = told_of s.jobs s.now p (fate_in_break (part machine g first s) job p) }) (less g ps))
          (map (λ p. record { sheet = p.sheet; records = told_of s.jobs s.now p (fate_in_break s job p) }) ps)
          → Drops (map (λ p. record { sheet = p.sheet; records = told_of s.jobs s.now p (fate_in_break (part machine g first s) job p) }) (cond (not b) (p ∷ less g ps) (less g ps)))
          (map (λ p. record { sheet = p.sheet; records = told_of s.jobs s.now p (fate_in_break s job p) }) (p ∷ ps))
      go true e rest = skip _ _ _ (ap (told_of s.jobs s.now p) ((break-same job).stays p (of p (Contains-here p ps)) e)) rest
      go false e rest =
          subst (λ f. Drops (record { sheet = p.sheet; records = told_of s.jobs s.now p f } ∷ map (λ p. record { sheet = p.sheet; records = told_of s.jobs s.now p (fate_in_break (part machine g first s) job p) }) (less g ps)) (map (λ p. record { sheet = p.sheet; records = told_of s.jobs s.now p (fate_in_break s job p) }) (p ∷ ps)))
          (sym ((break-same job).same p (of p (Contains-here p ps)) e)) (keep _ _ _ rest)

    pub alike-break : (job : ℕ) → Like (job_break job (part machine g first s)) (job_break job s)
    alike-break job =
        let drops = drops-by_copy (notices_of_waiting s job ++ notices_of_plans (part machine g first s) job) (notices_of_waiting s job ++ notices_of_plans s job)
        (drops-behind (notices_of_waiting s job) (notices_of_plans (part machine g first s) job) (notices_of_plans s job) (drops-plans job s.plans (λ p in'. in'))) in
        let kept = parted-befall machine g first s (fate_in_break s job) (break-strikes job) parted in
        record {
          records = ap (λ (l : List Record). Broken (job_name s.jobs job) ∷ l)
              (drops-told (by_copy (notices_of_waiting s job ++ notices_of_plans (part machine g first s) job)) (by_copy (notices_of_waiting s job ++ notices_of_plans s job)) drops);
          state = ap (without_job job) (befall-part machine g first s (fate_in_break (part machine g first s) job) (fate_in_break s job) (break-same job));
          parted = record { can = kept.can; each = kept.each; lost = kept.lost; fronts = kept.fronts; last = kept.last; past = kept.past; gone = kept.gone };
        }

    -- a fall-back
    fall-stays : (copy : SheetId) (p : Plan) → Contains s.plans p → g p.sheet ≡ true → fate_in_fall_back s copy p ≡ fates.stays
    fall-stays copy p in' gone = go (is_later s copy p) (dead-started machine s.now p (dead p in' gone)) (dead-flight machine s.now p (dead p in' gone)) where
      go : (b : Bool) {u w : Bool} → u ≡ false → w ≡ false → cond (not b) fates.stays (cond u fates.withdrawn (cond (w && is_to_tray p.goal) fates.replaced fates.stays)) ≡ fates.stays
      go true e f = rw (e, f) refl
      go false e f = refl

    fall-same : (copy : SheetId) → SameFates machine g first s (fate_in_fall_back (part machine g first s) copy) (fate_in_fall_back s copy)
    fall-same copy = record {
      stays = fall-stays copy;
      same = λ p in' stays. ap (λ l. cond (not (is_before copy p.sheet && is_same_line s.jobs copy p.sheet && not l)) fates.stays (cond (is_unstarted s.now p) fates.withdrawn (cond (is_on_its_way s.now p) fates.replaced fates.stays)))
          (lost-same machine g first s p stays);
    }

    fall-strikes : (copy : SheetId) → CanStrike s (fate_in_fall_back s copy)
    fall-strikes copy p in' = go (is_before copy p.sheet) (is_same_line s.jobs copy p.sheet) (is_lost s p) refl (is_unstarted s.now p) refl (is_on_its_way s.now p) refl where
      go : (j k l : Bool) → is_lost s p ≡ l → (u : Bool) → is_unstarted s.now p ≡ u → (w : Bool) → is_on_its_way s.now p ≡ w → (fall_of j k l u w ≡ fates.stays) ⊎ Strikes s (fall_of j k l u w) p
      go false k l a u b w c = inl refl
      go true false l a u b w c = inl refl
      go true true true a u b w c = inl refl
      go true true false a true b w c = inr (record { copy = a; ahead = unstarted-ahead p in' b; started = λ h. absurd (cc) })
      go true true false a false b true c = inr (record { copy = a; ahead = way-ahead p in' c; started = λ h. b })
      go true true false a false b false c = inl refl

    alike-later : (copy : SheetId) → Like (later_fall_back copy (part machine g first s)) (later_fall_back copy s)
    alike-later copy = record {
      records = told-part machine g first s (fate_in_fall_back (part machine g first s) copy) (fate_in_fall_back s copy) (fall-same copy);
      state = befall-part machine g first s (fate_in_fall_back (part machine g first s) copy) (fate_in_fall_back s copy) (fall-same copy);
      parted = parted-befall machine g first s (fate_in_fall_back s copy) (fall-strikes copy) parted;
    }

    alike-waits : (d : Displaced) → Like (next_waits d (part machine g first s)) (next_waits d s)
    alike-waits d = go d.again where
      go : (b : Bool) → Like (cond b (again (part machine g first s) d) (nothing_told (part machine g first s))) (cond b (again s d) (nothing_told s))
      go true = record { records = refl; state = refl; parted = record { can = parted.can; each = parted.each; lost = parted.lost; fronts = parted.fronts; last = parted.last; past = parted.past; gone = parted.gone } }
      go false = record { records = refl; state = refl; parted = parted }

    line-same : (copy : SheetId) → is_line_entering (part machine g first s) copy ≡ is_line_entering s copy
    line-same copy =
        any-part (λ p. not (g p.sheet)) (λ p. is_later s copy p && is_entering s.now p) (λ p. is_later (part machine g first s) copy p && is_entering s.now p) s.plans
        (λ p in' e. none-there (is_later s copy p) (dead-entering machine s.now p (dead p in' (not-not (g p.sheet) e))))
        (λ p in' e. ap (λ l. (is_before copy p.sheet && is_same_line s.jobs copy p.sheet && not l) && is_entering s.now p) (lost-same machine g first s p (not-yes (g p.sheet) e))) where
          none-there : (b : Bool) {c : Bool} → c ≡ false → (b && c) ≡ false
          none-there true e = e
          none-there false e = refl

  pub alike-fall_back : (s : SessionState) (d : Displaced) → Parted s → Like (fall_back (part machine g first s) d) (fall_back s d)
  alike-fall_back s d parted =
      subst (λ b. Like (cond b (job_break d.sheet.job (part machine g first s)) (and_then (next_waits d (part machine g first s)) (later_fall_back d.sheet))) (fall_back s d)) (sym (line-same s parted d.sheet))
      (alike-either (is_line_entering s d.sheet) _ _ _ _ (alike-break s parted d.sheet.job)
      (alike-then (next_waits d (part machine g first s)) (next_waits d s) (later_fall_back d.sheet) (alike-waits s parted d) (λ t kept. alike-later t kept d.sheet)))

  pub alike-unless : (s : SessionState) (d : Displaced) → Parted s → Like (fall_back_unless_broken (part machine g first s) d) (fall_back_unless_broken s d)
  alike-unless s d parted = alike-either (is_job_broken s.jobs d.sheet.job) _ _ _ _ (record { records = refl; state = refl; parted = parted }) (alike-fall_back s d parted)
