-- A loose copy gives its tray up: its front is to be purged, and its next copy is still to fall back.
use Rattle.std.proofs.Common.{◌≡◌, ℕ, ◌+◌, ◌<◌, ◌≤◌, ◌⊎◌, inl, inr, Bool, true, false, cond, ◌&&◌, List, [], ◌∷◌, map, filter, refl, sym, ap, ◌∙◌, arith, Contains, subst}
use Rattle.std.specs.Prelude.{count_by}
use Rattle.std.specs.Str.{bytes_eq}
use Rattle.std.proofs.lemmas.Bool.{and_parts}
use Rattle.tp_machine.specs.declared.machine.Machine.{Machine}
use Rattle.tp_schedule.proofs.CopyFacts.{same_copy-refl}
use Rattle.tp_schedule.proofs.Membership.{Contains-cons_cases, Contains-here, Contains-later}
use Rattle.tp_schedule.specs.Plans.{change_plan, is_before, is_same_copy}
use Rattle.tp_schedule.specs.declared.parts.Ask.{Ask}
use Rattle.tp_schedule.specs.declared.parts.Plan.{Plan}
use Rattle.tp_schedule.specs.declared.parts.SheetId.{SheetId}
use Rattle.tp_event_rules.specs.FallBacks.{Displaced, is_copy}
use Rattle.tp_event_rules.specs.Fates.{to_purge}
use Rattle.tp_event_rules.specs.StateInvariants.{is_copy_of, is_known, is_same_sheet}
use Rattle.tp_event_rules.specs.Labels.{job_name}
use Rattle.tp_event_rules.specs.Lines.{is_job_broken, is_lost, is_same_line}
use Rattle.tp_event_rules.specs.Moments.{is_to_tray}
use Rattle.tp_event_rules.specs.States.{SessionState}
use Rattle.tp_event_rules.proofs.PlanOnFacts.{Contains-change_plan}
use Rattle.tp_outage_laws.proofs.Falls.{open_by, Outset, is_sheet_in, Falls, IsPlanned, is_open, none_breaks, one-open, pending_of}
use Rattle.tp_outage_laws.proofs.Counts.{count-cons}
use Rattle.tp_outage_laws.proofs.LooseAsks.{IsAskOf, front-is, purge-mid}

module _ (machine : Machine) (base : Outset) (s : SessionState) (f : Falls machine base none_breaks s []) (ask : Ask) (of : IsAskOf machine s ask) (tray : is_to_tray of.p.goal ≡ true) where
  sheet-is : of.p.sheet ≡ ask.sheet
  sheet-is = ap (λ (a : Ask). a.sheet) of.is

  same-copy : is_same_copy of.p.sheet ask.sheet ≡ true
  same-copy = subst (λ c. is_same_copy of.p.sheet c ≡ true) sheet-is (same_copy-refl of.p.sheet)

  pub asked-open : is_open s of.p ≡ true
  asked-open = let l = of.not_lost in rw (l, tray) refl

  -- its job is not broken
  pub asked-whole : is_job_broken s.jobs ask.sheet.job ≡ false
  asked-whole = subst (λ c. is_job_broken s.jobs c.job ≡ false) sheet-is (go (is_job_broken s.jobs of.p.sheet.job) refl) where
    go : (b : Bool) → is_job_broken s.jobs of.p.sheet.job ≡ b → b ≡ false
    go true e = absurd (let whole = ((f.planned of.p of.there).broken asked-open e).0 in let front = of.front in cc)
    go false e = refl

  abbrev pub given : Displaced
  given = record { sheet = ask.sheet; want = ask.want; again = true }

  abbrev pub purged : List Plan
  purged = change_plan ask.sheet to_purge s.plans

  shut-open : (q : Plan) → is_open s (to_purge q) ≡ false
  shut-open q = and-false (is_copy s q) where
    and-false : (b : Bool) → (b && false) ≡ false
    and-false true = refl
    and-false false = refl

  pub cases : (q : Plan) → Contains purged q → (Contains s.plans q × (is_same_copy q.sheet ask.sheet ≡ false)) ⊎ (q ≡ to_purge of.p)
  cases q in' = elim (Contains-change_plan ask.sheet to_purge s.plans q f.mid.plans.legal.in_order in') [
    | inl other ↦ inl other
    | inr mine ↦ inr (mine.3 ∙ ap to_purge (front-is machine s ask f.mid of mine.0 mine.1 mine.2))
  ]

  opens : (q : Plan) → Contains purged q → is_open s q ≡ true → Contains s.plans q × (is_same_copy q.sheet ask.sheet ≡ false)
  opens q in' o = elim (cases q in') [
    | inl other ↦ other
    | inr is ↦ absurd (let shut = shut-open of.p in let same : is_open s q ≡ is_open s (to_purge of.p) = ap (is_open s) is in cc)
  ]

  -- where a plan comes from
  from : (q : Plan) → Contains purged q → (p : Plan) × Contains s.plans p × (q.sheet ≡ p.sheet)
  from q in' = elim (cases q in') [
    | inl other ↦ (q, other.0, refl)
    | inr is ↦ (of.p, of.there, ap (λ (x : Plan). x.sheet) is)
  ]

  pub counts : (of_plan : Plan → Bool) (of_sheet : SheetId → Bool) → of_sheet ask.sheet ≡ of_plan of.p → (l : List Plan) → ((p : Plan) → Contains l p → Contains s.plans p) → Contains l of.p → count_by (open_by s of_plan) (change_plan ask.sheet to_purge l) + cond (of_sheet ask.sheet) 1 0 ≡ count_by (open_by s of_plan) l
  counts of_plan of_sheet e [] within in' = absurd (omega (arith, in'.1))
  counts of_plan of_sheet sheet-same (x ∷ l) within in' = go (is_same_copy x.sheet ask.sheet) refl (counts of_plan of_sheet sheet-same l (λ p i. within p (Contains-later x l p i))) where
    mine : cond {A = ℕ} (open_by s of_plan of.p) 1 0 ≡ cond {A = ℕ} (of_sheet ask.sheet) 1 0
    mine = ap (λ b. cond {A = ℕ} (b && of_plan of.p) 1 0) asked-open ∙ ap (λ b. cond {A = ℕ} b 1 0) (sym sheet-same)

    go : (b : Bool) → is_same_copy x.sheet ask.sheet ≡ b → (Contains l of.p → count_by (open_by s of_plan) (change_plan ask.sheet to_purge l) + cond (of_sheet ask.sheet) 1 0 ≡ count_by (open_by s of_plan) l)
        → count_by (open_by s of_plan) (cond b (to_purge x ∷ l) (x ∷ change_plan ask.sheet to_purge l)) + cond (of_sheet ask.sheet) 1 0 ≡ count_by (open_by s of_plan) (x ∷ l)
    go true e rest =
        let is : x ≡ of.p = front-is machine s ask f.mid of x (within x (Contains-here x l)) e in
        let a = count-cons (open_by s of_plan) (to_purge x) l in
        let b = count-cons (open_by s of_plan) x l in
        let shut : cond {A = ℕ} (open_by s of_plan (to_purge x)) 1 0 ≡ 0 = ap (λ k. cond {A = ℕ} (k && of_plan (to_purge x)) 1 0) (shut-open x) in
        let was : cond {A = ℕ} (open_by s of_plan x) 1 0 ≡ cond {A = ℕ} (of_sheet ask.sheet) 1 0 = ap (λ y. cond {A = ℕ} (open_by s of_plan y) 1 0) is ∙ mine in
        omega arith
    go false e rest = elim (Contains-cons_cases x l of.p in') [
      | inl is ↦ absurd (let same = same-copy in let no : is_same_copy of.p.sheet ask.sheet ≡ false = subst (λ (y : Plan). is_same_copy y.sheet ask.sheet ≡ false) is e in cc)
      | inr later ↦ (let r = rest later in let a = count-cons (open_by s of_plan) x (change_plan ask.sheet to_purge l) in let b = count-cons (open_by s of_plan) x l in omega arith)
    ]

  lost-same : (l : List Plan) → map (λ p. p.sheet) (filter (is_lost s) (change_plan ask.sheet to_purge l)) ≡ map (λ p. p.sheet) (filter (is_lost s) l)
  lost-same [] = refl
  lost-same (x ∷ l) = go (is_same_copy x.sheet ask.sheet) (lost-same l) where
    go : (b : Bool) → map (λ p. p.sheet) (filter (is_lost s) (change_plan ask.sheet to_purge l)) ≡ map (λ p. p.sheet) (filter (is_lost s) l)
        → map (λ p. p.sheet) (filter (is_lost s) (cond b (to_purge x ∷ l) (x ∷ change_plan ask.sheet to_purge l))) ≡ map (λ p. p.sheet) (filter (is_lost s) (x ∷ l))
    go true rest = one (is_lost s x) where
      one : (k : Bool) → map (λ (p : Plan). p.sheet) (cond k (to_purge x ∷ filter (is_lost s) l) (filter (is_lost s) l)) ≡ map (λ (p : Plan). p.sheet) (cond k (x ∷ filter (is_lost s) l) (filter (is_lost s) l))
      one true = refl
      one false = refl
    go false rest = two (is_lost s x) where
      two : (k : Bool) → map (λ (p : Plan). p.sheet) (cond k (x ∷ filter (is_lost s) (change_plan ask.sheet to_purge l)) (filter (is_lost s) (change_plan ask.sheet to_purge l))) ≡ map (λ (p : Plan). p.sheet) (cond k (x ∷ filter (is_lost s) l) (filter (is_lost s) l))
      two true = ap (λ m. x.sheet ∷ m) rest
      two false = rest

  given-is : (d : Displaced) → Contains (given ∷ []) d → given ≡ d
  given-is d in' = elim (Contains-cons_cases given [] d in') [
    | inl is ↦ is
    | inr none ↦ absurd (omega (arith, none.1))
  ]

  purged-plan : (q : Plan) → Contains purged q → IsPlanned base (record s { plans = purged }) q
  purged-plan q in' = elim (cases q in') [
    | inl other ↦ (let i = f.planned q other.0 in record { own = i.own; sheet = i.sheet; purge = i.purge; broken = i.broken; lost = i.lost })
    | inr is ↦ subst (IsPlanned base (record s { plans = purged })) (sym is) mine
  ] where
    mine : IsPlanned base (record s { plans = purged }) (to_purge of.p)
    mine = record {
      own = let first = (and_parts (is_known base.jobs of.p.sheet && bytes_eq of.p.name (job_name base.jobs of.p.sheet.job)) _ (f.planned of.p of.there).own).0 in rw first refl;
      sheet = (f.planned of.p of.there).sheet;
      purge = λ g. (f.mid.flying of.p of.there of.front of.not_lost).started;
      broken = λ o b. absurd (let shut = shut-open of.p in cc);
      lost = λ l. of.front;
    }

  pub falls-given : Falls machine base none_breaks (record s { plans = change_plan ask.sheet to_purge s.plans }) (given ∷ [])
  falls-given = record {
    same = f.same;
    mid = purge-mid machine s ask f.mid of;
    in_order = f.in_order;
    waiters = λ w in'. let i = f.waiters w in' in record { known = i.known; sheet = i.sheet; whole = i.whole };
    planned = purged-plan;
    pending = λ d in'. subst (λ (x : Displaced). (is_known base.jobs x.sheet ≡ true) × (is_sheet_in base x.sheet ≡ true)) (given-is d in')
        (subst (λ c. (is_known base.jobs c ≡ true) × (is_sheet_in base c ≡ true)) sheet-is (known, (f.planned of.p of.there).sheet));
    lost_are = lost-same s.plans ∙ f.lost_are;
    once = λ j n. let once = f.once j n in let same = counts (λ p. is_copy_of j n p.sheet) (is_copy_of j n) (ap (is_copy_of j n) (sym sheet-is)) s.plans (λ p i. i) of.there in let one = count-cons (pending_of j n) given [] in omega arith;
    each = λ j n known' whole e wanted. let some = f.each j n known' whole e wanted in let same = counts (λ p. is_copy_of j n p.sheet) (is_copy_of j n) (ap (is_copy_of j n) (sym sheet-is)) s.plans (λ p i. i) of.there in let one = count-cons (pending_of j n) given [] in omega arith;
    older_waiting = λ q w in' in'' same. let m = from q in' in subst (λ c. c.copy < w.sheet.copy) (sym m.2) (f.older_waiting m.0 w m.1 in'' (subst (λ c. is_same_sheet c w.sheet ≡ true) m.2 same));
    older_pending = λ q d in' in'' again same. subst (λ (x : Displaced). q.sheet.copy ≤ x.sheet.copy) (given-is d in'') (older q in' (subst (λ (x : Displaced). is_same_sheet q.sheet x.sheet ≡ true) (sym (given-is d in'')) same));
    older_planned = λ q t in' in'' shut o same. let t' = opens t in'' o in older-p q t in' t'.0 t'.1 shut o same;
    line = λ w q in' in'' o line. elim (f.line w q in' (opens q in'' o).0 o line) [
      | inl before ↦ inl before
      | inr pending ↦ absurd (let i = pending.there in omega (arith, i.1))
    ];
    ended_waiting = λ q w in' o past in'' line. f.ended_waiting q w (opens q in' o).0 o past in'' line;
    ended_pending = λ q d in' o past in'' line. subst (λ (x : Displaced). is_before q.sheet x.sheet ≡ true) (given-is d in'')
        (subst (λ c. is_before q.sheet c ≡ true) sheet-is (f.ended_front q of.p (opens q in' o).0 o past of.there asked-open of.front
        (subst (λ c. is_same_line base.jobs c q.sheet ≡ true) (sym sheet-is) (subst (λ (x : Displaced). is_same_line base.jobs x.sheet q.sheet ≡ true) (sym (given-is d in'')) line))));
    ended_front = λ q t in' o past in'' o' front line. f.ended_front q t (opens q in' o).0 o past (opens t in'' o').0 o' front line;
  } where
    known : is_known base.jobs of.p.sheet ≡ true
    known = (and_parts (is_known base.jobs of.p.sheet) _ (and_parts (is_known base.jobs of.p.sheet && bytes_eq of.p.name (job_name base.jobs of.p.sheet.job)) _ (f.planned of.p of.there).own).0).0

    older : (q : Plan) → Contains purged q → is_same_sheet q.sheet ask.sheet ≡ true → q.sheet.copy ≤ ask.sheet.copy
    older q in' same = elim (cases q in') [
      | inl other ↦ by (is_open s q) refl other
      | inr is ↦ (let copy : q.sheet.copy ≡ ask.sheet.copy = ap (λ (x : Plan). x.sheet.copy) is ∙ ap (λ (c : SheetId). c.copy) sheet-is in omega arith)
    ] where
      by : (b : Bool) → is_open s q ≡ b → Contains s.plans q × (is_same_copy q.sheet ask.sheet ≡ false) → q.sheet.copy ≤ ask.sheet.copy
      by true e other = absurd (
          let one = one-open machine base none_breaks s [] f q of.p other.0 of.there e asked-open (subst (λ c. is_same_sheet q.sheet c ≡ true) (sym sheet-is) same) in
          let no = other.1 in let yes : is_same_copy q.sheet ask.sheet ≡ true = subst (λ (x : Plan). is_same_copy x.sheet ask.sheet ≡ true) (sym one) same-copy in cc)
      by false e other =
          let less = f.older_planned q of.p other.0 of.there e asked-open (subst (λ c. is_same_sheet q.sheet c ≡ true) (sym sheet-is) same) in
          let copy : of.p.sheet.copy ≡ ask.sheet.copy = ap (λ (c : SheetId). c.copy) sheet-is in omega arith

    older-p : (q t : Plan) → Contains purged q → Contains s.plans t → is_same_copy t.sheet ask.sheet ≡ false → is_open s q ≡ false → is_open s t ≡ true → is_same_sheet q.sheet t.sheet ≡ true → q.sheet.copy < t.sheet.copy
    older-p q t in' in'' differs shut o same = elim (cases q in') [
      | inl other ↦ f.older_planned q t other.0 in'' shut o same
      | inr is ↦ absurd (
          let one = one-open machine base none_breaks s [] f of.p t of.there in'' asked-open o (subst (λ (x : Plan). is_same_sheet x.sheet t.sheet ≡ true) is same) in
          let yes : is_same_copy t.sheet ask.sheet ≡ true = subst (λ (x : Plan). is_same_copy x.sheet ask.sheet ≡ true) one same-copy in cc)
    ]
