-- Fates leave no more copies of a sheet than there were.
use Rattle.std.proofs.Common.{◌≡◌, ℕ, ◌+◌, ◌<◌, ◌≤◌, ◌⊎◌, inl, inr, Bool, true, false, cond, ◌&&◌, ◌||◌, not, List, [], ◌∷◌, flat_map, refl, ap, ◌∙◌, arith, Contains}
use Rattle.std.specs.Prelude.{count_by}
use Rattle.std.proofs.lemmas.List.Concat.{flat_map-cons}
use Rattle.tp_machine.specs.declared.machine.Machine.{Machine}
use Rattle.tp_jobs.specs.Backlogs.{next_copy}
use Rattle.tp_schedule.proofs.Membership.{Contains-here, Contains-later}
use Rattle.tp_schedule.specs.Plans.{IsTimedPlan, end_of_plan}
use Rattle.tp_schedule.specs.declared.parts.Plan.{Plan}
use Rattle.tp_schedule.specs.declared.parts.SheetId.{SheetId}
use Rattle.tp_event_rules.specs.FallBacks.{Displaced}
use Rattle.tp_event_rules.specs.Fates.{Fate, befall, is_loss, left_of, to_purge, waits_for}
use Rattle.tp_event_rules.specs.StateInvariants.{is_copy_of}
use Rattle.tp_event_rules.specs.Lines.{is_lost}
use Rattle.tp_event_rules.specs.Moments.{front_of, is_to_tray}
use Rattle.tp_event_rules.specs.States.{SessionState}
use Rattle.tp_outage_laws.proofs.Falls.{Outset, is_open, open_by, pending_by, total_by, waits_by}
use Rattle.tp_outage_laws.proofs.Counts.{count-append, count-cons}
use Rattle.tp_outage_laws.proofs.Midway.{IsFlying}
use Rattle.tp_outage_laws.proofs.Waits.{count-put_all}
use Rattle.tp_outage_laws.proofs.Fits.{IsFit, IsPass, again_for, keeps_sheet, stay, lose_sent, lose_purged, withdraw, displace, cut_off, give_up, replace, drop}
use Rattle.tp_outage_laws.proofs.FateLeft.{lost-is, lost-open, no-open, timed-at}

-- a test of plans, and of their sheets, that is the same for a plan that ends later, what is left of it, and a next copy
pub record IsCounted (machine : Machine) (now : ℕ) (of_plan : Plan → Bool) (of_sheet : SheetId → Bool) : Type 0 where
  pub front : (p : Plan) → IsTimedPlan machine p → IsFlying now p → of_plan (front_of now p) ≡ of_plan p
  pub sheet : (p : Plan) → now < end_of_plan p → of_sheet p.sheet ≡ of_plan p
  pub next : (c : SheetId) → of_sheet (next_copy c) ≡ of_sheet c

-- the copies of a sheet
pub counts-sheet : (machine : Machine) (now job number : ℕ) → IsCounted machine now (λ p. is_copy_of job number p.sheet) (is_copy_of job number)
counts-sheet machine now job number = record { front = λ p timed flies. refl; sheet = λ p ends. refl; next = λ c. refl }

single : {X : Type 0} (test : X → Bool) (x : X) → count_by test (x ∷ []) ≡ cond (test x) 1 0
single test x = let all = count-cons test x [] in omega arith

module _ {machine : Machine} {base : Outset} {ex : ℕ → Bool} {s : SessionState} {ds : List Displaced} (pass : IsPass machine base ex s ds) where
  same-open : (p q : Plan) → Contains s.plans p → q.sheet ≡ p.sheet → q.goal ≡ p.goal → is_loss (pass.fate p) ≡ false → is_open (befall pass.fate s) q ≡ is_open s p
  same-open p q in' same goal kept =
      ap (λ b. not b && is_to_tray q.goal) (lost-is pass p q in' same ∙ ap (λ b. is_lost s p || b) kept ∙ or-none (is_lost s p)) ∙ ap (λ g. not (is_lost s p) && is_to_tray g) goal where
        or-none : (b : Bool) → (b || false) ≡ b
        or-none true = refl
        or-none false = refl

  shut : (q : Plan) → (is_open (befall pass.fate s) q ≡ true → ⊥) → is_open (befall pass.fate s) q ≡ false
  shut q none = go (is_open (befall pass.fate s) q) refl where
    go : (b : Bool) → is_open (befall pass.fate s) q ≡ b → b ≡ false
    go true e = absurd (none e)
    go false e = refl

  module _ (of_plan : Plan → Bool) (of_sheet : SheetId → Bool) (counts : IsCounted machine s.now of_plan of_sheet) where
    -- what is counted of a plan after its fate, and before
    abbrev After : Plan → Fate → List Displaced → ℕ
    After p x es =
        count_by (waits_by of_sheet) (waits_for p x) + (count_by (open_by (befall pass.fate s) of_plan) (left_of s.now p x) + count_by (pending_by of_sheet) es)

    abbrev Before : Plan → ℕ
    Before p = cond (open_by s of_plan p) 1 0

    abbrev Counts : Plan → Fate → List Displaced → Type 0
    Counts p x es = (After p x es ≤ Before p) × (keeps_sheet x ≡ true → After p x es ≡ Before p)

    -- where the plan was open
    was-open : (p : Plan) → is_open s p ≡ true → Before p ≡ cond (of_plan p) 1 0
    was-open p o = ap (λ b. cond {A = ℕ} (b && of_plan p) 1 0) o

    by-sheet : (p : Plan) → s.now < end_of_plan p → cond {A = ℕ} (of_sheet p.sheet) 1 0 ≡ cond (of_plan p) 1 0
    by-sheet p ends = ap (λ b. cond {A = ℕ} b 1 0) (counts.sheet p ends)

    none-left : (q : Plan) → is_open (befall pass.fate s) q ≡ false → count_by (open_by (befall pass.fate s) of_plan) (q ∷ []) ≡ 0
    none-left q none = let one = single (open_by (befall pass.fate s) of_plan) q in let is : cond {A = ℕ} (open_by (befall pass.fate s) of_plan q) 1 0 ≡ 0 = ap (λ b. cond {A = ℕ} (b && of_plan q) 1 0) none in omega arith

    counted : (p : Plan) → Contains s.plans p → (x : Fate) (es : List Displaced) → pass.fate p ≡ x → IsFit s p x es → Counts p x es
    counted p in' _ _ e stay =
        let one = single (open_by (befall pass.fate s) of_plan) p in
        let same : is_open (befall pass.fate s) p ≡ is_open s p = same-open p p in' refl refl (ap is_loss e) in
        let is : cond {A = ℕ} (open_by (befall pass.fate s) of_plan p) 1 0 ≡ Before p = ap (λ b. cond {A = ℕ} (b && of_plan p) 1 0) same in
        (omega arith, λ k. omega arith)
    counted p in' _ _ e (lose_sent o fl) =
        let none = none-left (front_of s.now p) (shut (front_of s.now p) (λ o'. lost-open pass p (front_of s.now p) in' refl e o')) in
        let sent = single (pending_by of_sheet) (again_for true p) in
        let was = was-open p o in
        let is = by-sheet p fl.ends in
        (omega arith, λ k. omega arith)
    counted p in' _ _ e (lose_purged l g fl) =
        let none = none-left (front_of s.now p) (shut (front_of s.now p) (λ o'. lost-open pass p (front_of s.now p) in' refl e o')) in
        let shut' : is_open s p ≡ false = rw (l, g) refl in
        let was : Before p ≡ 0 = ap (λ b. cond {A = ℕ} (b && of_plan p) 1 0) shut' in
        (omega arith, λ k. omega arith)
    counted p in' _ _ e (withdraw o low ends w) =
        let one = single (waits_by of_sheet) (record { sheet = p.sheet; want = p.want }) in
        let was = was-open p o in
        let is = by-sheet p ends in
        (omega arith, λ k. omega arith)
    counted p in' _ _ e (displace o low ends w) =
        let one = single (waits_by of_sheet) (record { sheet = p.sheet; want = p.want }) in
        let sent = single (pending_by of_sheet) (again_for false p) in
        let was = was-open p o in
        let is = by-sheet p ends in
        (omega arith, λ k. omega arith)
    counted p in' _ _ e (cut_off l fl w) =
        let one = single (open_by (befall pass.fate s) of_plan) (front_of s.now p) in
        let same : is_open (befall pass.fate s) (front_of s.now p) ≡ is_open s p = same-open p (front_of s.now p) in' refl refl (ap is_loss e) in
        let front = counts.front p (timed-at pass p in') fl in
        let is : cond {A = ℕ} (open_by (befall pass.fate s) of_plan (front_of s.now p)) 1 0 ≡ Before p = (λ k. cond {A = ℕ} (same k && front k) 1 0) in
        (omega arith, λ k. omega arith)
    counted p in' _ _ e (give_up o fl) =
        let none = none-left (to_purge (front_of s.now p)) (shut (to_purge (front_of s.now p)) (λ o'. no-open pass (to_purge (front_of s.now p)) refl o')) in
        (omega arith, λ k. absurd (cc))
    counted p in' _ _ e (replace o fl w) =
        let none = none-left (to_purge (front_of s.now p)) (shut (to_purge (front_of s.now p)) (λ o'. no-open pass (to_purge (front_of s.now p)) refl o')) in
        let one = single (waits_by of_sheet) (record { sheet = next_copy p.sheet; want = p.want }) in
        let next : cond {A = ℕ} (of_sheet (next_copy p.sheet)) 1 0 ≡ cond (of_sheet p.sheet) 1 0 = ap (λ b. cond {A = ℕ} b 1 0) (counts.next p.sheet) in
        let was = was-open p o in
        let is = by-sheet p fl.ends in
        (omega arith, λ k. omega arith)
    counted p in' _ _ e (drop o low ends) = (omega arith, λ k. absurd (cc))

    -- of some of the plans
    abbrev pub Sums : List Plan → ℕ
    Sums l = count_by (waits_by of_sheet) (flat_map (λ p. waits_for p (pass.fate p)) l)
        + (count_by (open_by (befall pass.fate s) of_plan) (flat_map (λ p. left_of s.now p (pass.fate p)) l) + count_by (pending_by of_sheet) (flat_map pass.pend l))

    sums-cons : (p : Plan) (l : List Plan) → Sums (p ∷ l) ≡ After p (pass.fate p) (pass.pend p) + Sums l
    sums-cons p l =
        let a = ap (count_by (waits_by of_sheet)) (flat_map-cons (λ p. waits_for p (pass.fate p)) p l) ∙ count-append (waits_by of_sheet) (waits_for p (pass.fate p)) (flat_map (λ p. waits_for p (pass.fate p)) l) in
        let b = ap (count_by (open_by (befall pass.fate s) of_plan)) (flat_map-cons (λ p. left_of s.now p (pass.fate p)) p l) ∙ count-append (open_by (befall pass.fate s) of_plan) (left_of s.now p (pass.fate p)) (flat_map (λ p. left_of s.now p (pass.fate p)) l) in
        let c = ap (count_by (pending_by of_sheet)) (flat_map-cons pass.pend p l) ∙ count-append (pending_by of_sheet) (pass.pend p) (flat_map pass.pend l) in
        omega arith

    pub sums-few : (l : List Plan) → ((p : Plan) → Contains l p → Contains s.plans p) → Sums l ≤ count_by (open_by s of_plan) l
    sums-few [] within = omega arith
    sums-few (p ∷ l) within =
        let here = counted p (within p (Contains-here p l)) (pass.fate p) (pass.pend p) refl (pass.fits p (within p (Contains-here p l))) in
        let few = here.0 in
        let rest = sums-few l (λ q i. within q (Contains-later p l q i)) in
        let all = sums-cons p l in
        let was = count-cons (open_by s of_plan) p l in
        omega arith

    pub sums-same : (l : List Plan) → ((p : Plan) → Contains l p → Contains s.plans p × ((keeps_sheet (pass.fate p) ≡ true) ⊎ (of_plan p ≡ false))) → Sums l ≡ count_by (open_by s of_plan) l
    sums-same [] within = refl
    sums-same (p ∷ l) within =
        let in' = within p (Contains-here p l) in
        let here = counted p in'.0 (pass.fate p) (pass.pend p) refl (pass.fits p in'.0) in
        let same : After p (pass.fate p) (pass.pend p) ≡ Before p = elim in'.1 [
          | inl keeps ↦ here.1 keeps
          | inr other ↦ (let none : Before p ≡ 0 = ap (λ b. cond {A = ℕ} (is_open s p && b) 1 0) other ∙ and-zero (is_open s p) in let few = here.0 in omega arith)
        ] in
        let rest = sums-same l (λ q i. within q (Contains-later p l q i)) in
        let all = sums-cons p l in
        let was = count-cons (open_by s of_plan) p l in
        omega arith where
          and-zero : (b : Bool) → cond {A = ℕ} (b && false) 1 0 ≡ 0
          and-zero true = refl
          and-zero false = refl

    -- after fates no more are counted than before
    pub total-few : (ds' : List Displaced) → count_by (pending_by of_sheet) ds' ≡ count_by (pending_by of_sheet) ds + count_by (pending_by of_sheet) (flat_map pass.pend s.plans)
        → total_by of_plan of_sheet (befall pass.fate s) ds' ≤ total_by of_plan of_sheet s ds
    total-few ds' more =
        let few = sums-few s.plans (λ p i. i) in
        let put = count-put_all (waits_by of_sheet) (flat_map (λ p. waits_for p (pass.fate p)) s.plans) s.waiting in
        omega arith

    -- and as many where each plan that counts keeps its sheet
    pub total-same : (ds' : List Displaced) → count_by (pending_by of_sheet) ds' ≡ count_by (pending_by of_sheet) ds + count_by (pending_by of_sheet) (flat_map pass.pend s.plans)
        → ((p : Plan) → Contains s.plans p → (keeps_sheet (pass.fate p) ≡ true) ⊎ (of_plan p ≡ false))
        → total_by of_plan of_sheet (befall pass.fate s) ds' ≡ total_by of_plan of_sheet s ds
    total-same ds' more keeps =
        let same = sums-same s.plans (λ p i. (i, keeps p i)) in
        let put = count-put_all (waits_by of_sheet) (flat_map (λ p. waits_for p (pass.fate p)) s.plans) s.waiting in
        omega arith
