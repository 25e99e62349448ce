-- What is left of the plans where fates befall them.
use Rattle.std.proofs.Common.{◌≡◌, ℕ, ◌-◌, ◌≤◌, inl, inr, Bool, true, false, cond, ◌&&◌, ◌||◌, List, [], ◌∷◌, ◌++◌, map, filter, flat_map, length, refl, sym, ap, ◌∙◌, arith, Contains, subst}
use Rattle.std.specs.Str.{bytes_eq}
use Rattle.std.proofs.lemmas.List.Elements.{All-contains}
use Rattle.std.proofs.lemmas.Bool.{and_parts}
use Rattle.std.proofs.lemmas.List.Concat.{flat_map-cons}
use Rattle.tp_machine.specs.declared.machine.Machine.{Machine}
use Rattle.tp_schedule.proofs.CopyFacts.{plan_of-itself}
use Rattle.tp_schedule.proofs.Membership.{Contains-cons_cases, Contains-filter_from, Contains-here, Contains-later, Contains-map_from, flat_map-from}
use Rattle.tp_schedule.specs.Plans.{IsTimedPlan, end_of_plan, is_front, point}
use Rattle.tp_schedule.specs.declared.parts.Plan.{Plan}
use Rattle.tp_event_rules.specs.Labels.{job_name}
use Rattle.tp_event_rules.specs.FallBacks.{Displaced}
use Rattle.tp_event_rules.specs.Fates.{Fate, befall, is_loss, left_by, left_of, lost_by, to_purge}
use Rattle.tp_event_rules.specs.StateInvariants.{is_known, is_of_its_job}
use Rattle.tp_event_rules.specs.Lines.{is_job_broken, is_lost}
use Rattle.tp_event_rules.specs.Moments.{front_of, is_to_tray}
use Rattle.tp_event_rules.specs.States.{SessionState}
use Rattle.tp_outage_laws.proofs.Members.{any-contains}
use Rattle.tp_outage_laws.proofs.Falls.{Outset, is_open}
use Rattle.tp_outage_laws.proofs.Flight.{front-end}
use Rattle.tp_outage_laws.proofs.Midway.{IsFlying, IsMeet, lost-after}
use Rattle.tp_outage_laws.proofs.Fits.{IsFit, IsPass, open-copy, open-tray, first-front, fit-meets, stay, lose_sent, lose_purged, withdraw, displace, cut_off, give_up, replace, drop}
use Rattle.tp_event_rules.specs.Fates as fates

module _ {machine : Machine} {base : Outset} {ex : ℕ → Bool} {s : SessionState} {ds : List Displaced} (pass : IsPass machine base ex s ds) where
  pub meets : (p : Plan) → Contains s.plans p → IsMeet s.now p (pass.fate p)
  meets p in' = fit-meets s p (pass.fate p) (pass.pend p) (pass.fits p in')

  -- a plan of a copy is the plan of it
  one-plan : (p q : Plan) → Contains s.plans p → Contains s.plans q → p.sheet ≡ q.sheet → p ≡ q
  one-plan p q in' in'' e =
      let mine = plan_of-itself s.plans p pass.falls.mid.plans.legal.in_order in' in
      let its = plan_of-itself s.plans q pass.falls.mid.plans.legal.in_order in'' in
      cc

  -- who is lost after it
  pub lost-is : (p q : Plan) → Contains s.plans p → q.sheet ≡ p.sheet → is_lost (befall pass.fate s) q ≡ (is_lost s p || is_loss (pass.fate p))
  lost-is p q in' same = go (is_lost s p || is_loss (pass.fate p)) refl (is_lost (befall pass.fate s) q) refl where
    go : (b : Bool) → (is_lost s p || is_loss (pass.fate p)) ≡ b → (c : Bool) → is_lost (befall pass.fate s) q ≡ c → c ≡ b
    go true e c g = sym g ∙ lost-after machine pass.fate s pass.falls.mid meets p q in' e same
    go false e false g = refl
    go false e true g = absurd (
        let there = any-contains q.sheet (lost_by pass.fate s) g in
        let r = Contains-map_from (λ p. p.sheet) (filter (λ p. is_lost s p || is_loss (pass.fate p)) s.plans) q.sheet there in
        let r' = Contains-filter_from (λ p. is_lost s p || is_loss (pass.fate p)) s.plans r.0 r.1 in
        let is = one-plan r.0 p r'.0 in' (sym r.2 ∙ same) in
        let lost : (is_lost s p || is_loss (pass.fate p)) ≡ true = subst (λ (x : Plan). (is_lost s x || is_loss (pass.fate x)) ≡ true) is r'.1 in cc)

  -- what is left of a plan
  pub record IsOf (p q : Plan) : Type 0 where
    pub sheet : q.sheet ≡ p.sheet
    pub lost_is : is_lost (befall pass.fate s) q ≡ (is_lost s p || is_loss (pass.fate p))
    pub own : is_of_its_job base.jobs q ≡ true
    pub opened : is_open (befall pass.fate s) q ≡ true → is_open s p ≡ true
    pub ended : is_open (befall pass.fate s) q ≡ true → end_of_plan q ≤ s.now → q ≡ p
    pub purge : is_to_tray q.goal ≡ false → point q 0 ≤ s.now
    pub broken : is_open (befall pass.fate s) q ≡ true → is_job_broken s.jobs q.sheet.job ≡ true → (is_front q.kind ≡ false) × (point q (length q.acts - 1) ≤ s.now)
    pub lost : is_lost (befall pass.fate s) q ≡ true → is_front q.kind ≡ true

  pub data IsLeftOf (p : Plan) : Fate → List Plan → Type 0 where
    gone : (f : Fate) → (is_lost s p || is_loss f) ≡ false → IsLeftOf p f []
    left : (f : Fate) (q : Plan) → IsOf p q → IsLeftOf p f (q ∷ [])

  after-copy : (p q : Plan) → Contains s.plans p → q.sheet ≡ p.sheet → is_open (befall pass.fate s) q ≡ true → is_lost s p ≡ false
  after-copy p q in' same o = or-first (is_lost s p) (is_loss (pass.fate p)) (sym (lost-is p q in' same) ∙ open-copy (befall pass.fate s) q o) where
    or-first : (a b : Bool) → (a || b) ≡ false → a ≡ false
    or-first true b e = absurd (cc)
    or-first false b e = refl

  opens : (p q : Plan) → Contains s.plans p → q.sheet ≡ p.sheet → q.goal ≡ p.goal → is_open (befall pass.fate s) q ≡ true → is_open s p ≡ true
  opens p q in' same goal o =
      let copy = after-copy p q in' same o in
      let tray : is_to_tray p.goal ≡ true = subst (λ g. is_to_tray g ≡ true) goal (open-tray (befall pass.fate s) q o) in
      rw (copy, tray) refl

  purged-own : (p : Plan) → is_of_its_job base.jobs p ≡ true → is_of_its_job base.jobs (to_purge (front_of s.now p)) ≡ true
  purged-own p own = let first = (and_parts (is_known base.jobs p.sheet && bytes_eq p.name (job_name base.jobs p.sheet.job)) _ own).0 in rw first refl

  pub timed-at : (p : Plan) → Contains s.plans p → IsTimedPlan machine p
  timed-at p in' = All-contains (IsTimedPlan machine) s.plans p pass.falls.mid.plans.legal.timed in'

  low-front : (p : Plan) → IsFlying s.now p → point (front_of s.now p) 0 ≤ s.now
  low-front p fl = let same = first-front s.now p in let low = fl.started in omega arith

  pub no-open : (q : Plan) → is_to_tray q.goal ≡ false → is_open (befall pass.fate s) q ≡ true → ⊥
  no-open q g o = let t = open-tray (befall pass.fate s) q o in cc

  pub lost-open : (p q : Plan) → Contains s.plans p → q.sheet ≡ p.sheet → pass.fate p ≡ fates.lost → is_open (befall pass.fate s) q ≡ true → ⊥
  lost-open p q in' same e o =
      let none : (is_lost s p || is_loss (pass.fate p)) ≡ false = sym (lost-is p q in' same) ∙ open-copy (befall pass.fate s) q o in
      or-true (is_lost s p) (subst (λ x. (is_lost s p || is_loss x) ≡ false) e none) where
        or-true : (a : Bool) → (a || true) ≡ false → ⊥
        or-true true e = cc
        or-true false e = cc

  lost-front : (p : Plan) → Contains s.plans p → pass.fate p ≡ fates.lost → IsFlying s.now p → IsOf p (front_of s.now p)
  lost-front p in' e fl = record {
    sheet = refl;
    lost_is = lost-is p (front_of s.now p) in' refl;
    own = (pass.falls.planned p in').own;
    opened = λ o. absurd (lost-open p (front_of s.now p) in' refl e o);
    ended = λ o past. absurd (lost-open p (front_of s.now p) in' refl e o);
    purge = λ g. low-front p fl;
    broken = λ o b. absurd (lost-open p (front_of s.now p) in' refl e o);
    lost = λ l. refl;
  }

  purged-front : (p : Plan) → Contains s.plans p → IsFlying s.now p → IsOf p (to_purge (front_of s.now p))
  purged-front p in' fl = record {
    sheet = refl;
    lost_is = lost-is p (to_purge (front_of s.now p)) in' refl;
    own = purged-own p (pass.falls.planned p in').own;
    opened = λ o. absurd (no-open (to_purge (front_of s.now p)) refl o);
    ended = λ o past. absurd (no-open (to_purge (front_of s.now p)) refl o);
    purge = λ g. low-front p fl;
    broken = λ o b. absurd (no-open (to_purge (front_of s.now p)) refl o);
    lost = λ l. refl;
  }

  not-lost : (p : Plan) (x : Fate) → is_lost s p ≡ false → is_loss x ≡ false → (is_lost s p || is_loss x) ≡ false
  not-lost p x e g = rw (e, g) refl

  left-is : (p : Plan) → Contains s.plans p → (x : Fate) (es : List Displaced) → pass.fate p ≡ x → IsFit s p x es → IsLeftOf p x (left_of s.now p x)
  left-is p in' _ _ e stay = left fates.stays p (record {
    sheet = refl;
    lost_is = lost-is p p in' refl;
    own = (pass.falls.planned p in').own;
    opened = opens p p in' refl refl;
    ended = λ o past. refl;
    purge = (pass.falls.planned p in').purge;
    broken = λ o b. (pass.falls.planned p in').broken (opens p p in' refl refl o) b;
    lost = λ l. (pass.falls.planned p in').lost (or-false (is_lost s p) (subst (λ x. (is_lost s p || is_loss x) ≡ true) e (sym (lost-is p p in' refl) ∙ l)));
  }) where
    or-false : (a : Bool) → (a || false) ≡ true → a ≡ true
    or-false true e = refl
    or-false false e = absurd (cc)
  left-is p in' _ _ e (lose_sent o fl) = left fates.lost (front_of s.now p) (lost-front p in' e fl)
  left-is p in' _ _ e (lose_purged l g fl) = left fates.lost (front_of s.now p) (lost-front p in' e fl)
  left-is p in' _ _ e (withdraw o low ends w) = gone fates.withdrawn (not-lost p fates.withdrawn (open-copy s p o) refl)
  left-is p in' _ _ e (displace o low ends w) = gone fates.withdrawn (not-lost p fates.withdrawn (open-copy s p o) refl)
  left-is p in' _ _ e (cut_off l fl w) = left fates.cut (front_of s.now p) (record {
    sheet = refl;
    lost_is = lost-is p (front_of s.now p) in' refl;
    own = (pass.falls.planned p in').own;
    opened = opens p (front_of s.now p) in' refl refl;
    ended = λ o past. absurd (let above = front-end machine s.now p (timed-at p in') fl.ends in omega arith);
    purge = λ g. low-front p fl;
    broken = λ o b. absurd (let whole = w (opens p (front_of s.now p) in' refl refl o) in cc);
    lost = λ l. refl;
  })
  left-is p in' _ _ e (give_up o fl) = left fates.purged (to_purge (front_of s.now p)) (purged-front p in' fl)
  left-is p in' _ _ e (replace o fl w) = left fates.replaced (to_purge (front_of s.now p)) (purged-front p in' fl)
  left-is p in' _ _ e (drop o low ends) = gone fates.dropped (not-lost p fates.dropped (open-copy s p o) refl)

  -- where a plan comes from
  pub plan-from : (q : Plan) → Contains (left_by pass.fate s.now s.plans) q → (p : Plan) × Contains s.plans p × IsOf p q × Contains (left_of s.now p (pass.fate p)) q
  plan-from q in' =
      let r = flat_map-from (λ p. left_of s.now p (pass.fate p)) s.plans q in' in
      (r.0, r.1, go r.0 (left_of s.now r.0 (pass.fate r.0)) (left-is r.0 r.1 (pass.fate r.0) (pass.pend r.0) refl (pass.fits r.0 r.1)) r.2, r.2) where
        go : (p : Plan) (l : List Plan) → IsLeftOf p (pass.fate p) l → Contains l q → IsOf p q
        go p _ (gone _ none) i = absurd (omega (arith, i.1))
        go p _ (left _ r of) i = elim (Contains-cons_cases r [] q i) [
          | inl is ↦ subst (IsOf p) is of
          | inr none ↦ absurd (omega (arith, none.1))
        ]

  pub left-unique : (p : Plan) → Contains s.plans p → (q r : Plan) → Contains (left_of s.now p (pass.fate p)) q → Contains (left_of s.now p (pass.fate p)) r → q ≡ r
  left-unique p in' q r i j = go (left_of s.now p (pass.fate p)) (left-is p in' (pass.fate p) (pass.pend p) refl (pass.fits p in')) i j where
    go : (l : List Plan) → IsLeftOf p (pass.fate p) l → Contains l q → Contains l r → q ≡ r
    go _ (gone _ none) i j = absurd (omega (arith, i.1))
    go _ (left _ t of) i j = elim (Contains-cons_cases t [] q i) [
      | inl is ↦ elim (Contains-cons_cases t [] r j) [
        | inl is' ↦ sym is ∙ is'
        | inr none ↦ absurd (omega (arith, none.1))
      ]
      | inr none ↦ absurd (omega (arith, none.1))
    ]

  -- the lost ones
  pub lost-all : (l : List Plan) → ((p : Plan) → Contains l p → Contains s.plans p) → map (λ p. p.sheet) (filter (is_lost (befall pass.fate s)) (flat_map (λ p. left_of s.now p (pass.fate p)) l)) ≡ map (λ p. p.sheet) (filter (λ p. is_lost s p || is_loss (pass.fate p)) l)
  lost-all [] within = refl
  lost-all (p ∷ l) within =
      ap (λ m. map (λ (p : Plan). p.sheet) (filter (is_lost (befall pass.fate s)) m)) (flat_map-cons (λ p. left_of s.now p (pass.fate p)) p l)
      ∙ go (left_of s.now p (pass.fate p)) (left-is p (within p (Contains-here p l)) (pass.fate p) (pass.pend p) refl (pass.fits p (within p (Contains-here p l)))) (lost-all l (λ q i. within q (Contains-later p l q i))) where
        go : (m : List Plan) → IsLeftOf p (pass.fate p) m
            → map (λ p. p.sheet) (filter (is_lost (befall pass.fate s)) (flat_map (λ p. left_of s.now p (pass.fate p)) l)) ≡ map (λ p. p.sheet) (filter (λ p. is_lost s p || is_loss (pass.fate p)) l)
            → map (λ p. p.sheet) (filter (is_lost (befall pass.fate s)) (m ++ flat_map (λ p. left_of s.now p (pass.fate p)) l)) ≡ map (λ p. p.sheet) (filter (λ p. is_lost s p || is_loss (pass.fate p)) (p ∷ l))
        go _ (gone _ none) rest = rest ∙ ap (λ b. map (λ (p : Plan). p.sheet) (cond b (p ∷ filter (λ p. is_lost s p || is_loss (pass.fate p)) l) (filter (λ p. is_lost s p || is_loss (pass.fate p)) l))) (sym none)
        go _ (left _ q of) rest =
            ap (λ b. map (λ (p : Plan). p.sheet) (cond b (q ∷ filter (is_lost (befall pass.fate s)) (flat_map (λ p. left_of s.now p (pass.fate p)) l)) (filter (is_lost (befall pass.fate s)) (flat_map (λ p. left_of s.now p (pass.fate p)) l)))) of.lost_is
            ∙ both (is_lost s p || is_loss (pass.fate p)) where
              both : (b : Bool) → map (λ (p : Plan). p.sheet) (cond b (q ∷ filter (is_lost (befall pass.fate s)) (flat_map (λ p. left_of s.now p (pass.fate p)) l)) (filter (is_lost (befall pass.fate s)) (flat_map (λ p. left_of s.now p (pass.fate p)) l)))
                  ≡ map (λ (p : Plan). p.sheet) (cond b (p ∷ filter (λ p. is_lost s p || is_loss (pass.fate p)) l) (filter (λ p. is_lost s p || is_loss (pass.fate p)) l))
              both true = (λ i. of.sheet i ∷ rest i)
              both false = rest
