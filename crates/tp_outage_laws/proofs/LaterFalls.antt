-- The later copies of a line make way for one that falls back, where none of them is entering.
use Rattle.std.proofs.Common.{◌≡◌, ℕ, suc, ◌+◌, ◌-◌, ◌<◌, ◌≤◌, ◌⊎◌, inl, inr, Bool, true, false, cond, ◌&&◌, ◌||◌, not, List, [], ◌∷◌, flat_map, length, refl, sym, ap, ◌∙◌, arith, Contains, subst, nat_lt, nat_le, slice_get, slice_index}
use Rattle.std.specs.Prelude.{◌==◌, count_by}
use Rattle.std.specs.List.{list_any}
use Rattle.std.proofs.lemmas.Bool.{and_parts}
use Rattle.std.proofs.lemmas.Bool.Decides.{nat_tests}
use Rattle.std.proofs.lemmas.List.Elements.{All-contains}
use Rattle.std.proofs.lemmas.List.Folds.{list_any_at}
use Rattle.tp_machine.specs.declared.parts.ActId.{ActId}
use Rattle.tp_machine.specs.declared.machine.Machine.{Machine}
use Rattle.tp_jobs.specs.declared.parts.Job.{Job}
use Rattle.tp_jobs.specs.Backlogs.{next_copy, tray_in, tray_of}
use Rattle.tp_jobs.specs.declared.parts.WaitingCopy.{WaitingCopy}
use Rattle.tp_schedule.proofs.Membership.{Contains-cons_cases, Contains-here}
use Rattle.tp_schedule.proofs.CopyFacts.{before-asym, before-other, before-trans, same_copy-is}
use Rattle.tp_schedule.specs.Holders.{runs_from}
use Rattle.tp_schedule.specs.Plans.{IsTimedPlan, end_of_plan, is_before, is_same_copy, point}
use Rattle.tp_schedule.specs.declared.parts.Plan.{Plan}
use Rattle.tp_schedule.specs.declared.parts.SheetId.{SheetId}
use Rattle.tp_event_rules.specs.FallBacks.{Displaced, fate_in_fall_back, is_copy, is_later, is_line_entering, is_on_its_way}
use Rattle.tp_event_rules.specs.Fates.{befall, left_by, left_of, waits_for}
use Rattle.tp_event_rules.specs.StateInvariants.{is_same_sheet}
use Rattle.tp_event_rules.specs.Lines.{is_job_broken, is_same_line}
use Rattle.tp_event_rules.specs.Moments.{is_entering, is_in_flight, is_running, is_to_tray, is_tray_plan, is_unstarted}
use Rattle.tp_event_rules.specs.States.{SessionState}
use Rattle.tp_outage_laws.proofs.Fits.{IsFit, IsPass, keeps_sheet, replace, stay, withdraw}
use Rattle.tp_outage_laws.proofs.FateLeft.{IsOf, plan-from}
use Rattle.tp_outage_laws.proofs.FateWaits.{wait-is}
use Rattle.tp_outage_laws.proofs.BefallFalls.{falls-after}
use Rattle.tp_outage_laws.proofs.Falls.{pending_by, Outset, Falls, IsPending, IsPlanned, is_open, none_breaks}
use Rattle.tp_outage_laws.proofs.FallSteps.{falls-release}
use Rattle.tp_outage_laws.proofs.Flight.{flight-range, in-flight, up-to}
use Rattle.tp_event_rules.specs.Fates as fates

-- the order of copies by numbers
before-cases : (a b : SheetId) → is_before a b ≡ true → (a.job < b.job) ⊎ (((a.job ≡ b.job) × (a.number < b.number)) ⊎ ((a.job ≡ b.job) × (a.number ≡ b.number) × (a.copy < b.copy)))
before-cases a b e = go (nat_lt a.job b.job) refl (a.job == b.job) refl (nat_lt a.number b.number) refl (a.number == b.number) refl (nat_lt a.copy b.copy) refl e where
  go : (i : Bool) → nat_lt a.job b.job ≡ i → (j : Bool) → (a.job == b.job) ≡ j → (k : Bool) → nat_lt a.number b.number ≡ k → (l : Bool) → (a.number == b.number) ≡ l → (m : Bool) → nat_lt a.copy b.copy ≡ m
      → (i || (j && (k || (l && m)))) ≡ true → (a.job < b.job) ⊎ (((a.job ≡ b.job) × (a.number < b.number)) ⊎ ((a.job ≡ b.job) × (a.number ≡ b.number) × (a.copy < b.copy)))
  go true p j q k r l t m u x = inl (grind (arith, nat_tests))
  go false p true q true r l t m u x = inr (inl (grind (arith, nat_tests), grind (arith, nat_tests)))
  go false p true q false r true t true u x = inr (inr (grind (arith, nat_tests), grind (arith, nat_tests), grind (arith, nat_tests)))
  go false p true q false r true t false u x = absurd (cc)
  go false p true q false r false t m u x = absurd (cc)
  go false p false q k r l t m u x = absurd (cc)

-- the last action runs
last-runs : (now total : ℕ) (sheet : SheetId) (n : ℕ) (acts : List ActId) (points : List ℕ) → length points ≡ length acts + 1 → n + length acts ≡ total + 1 → 0 < length acts
    → slice_index points (length acts - 1) ≤ now → now < slice_index points (length acts) → list_any (λ run. is_running now run && (run.number == total)) (runs_from sheet n acts points) ≡ true
last-runs now total sheet n [] points len e some low high = absurd (omega arith)
last-runs now total sheet n (a ∷ acts) [] len e some low high = absurd (omega arith)
last-runs now total sheet n (a ∷ acts) (start ∷ []) len e some low high = absurd (omega arith)
last-runs now total sheet n (a ∷ []) (start ∷ end ∷ points) len e some low high =
    let x : nat_le start now ≡ true = grind (arith, nat_tests) in
    let y : nat_lt now end ≡ true = grind (arith, nat_tests) in
    let is : n ≡ total = omega arith in
    let z : (n == total) ≡ true = grind (arith, nat_tests) in
    rw (x, y, z) refl
last-runs now total sheet n (a ∷ b ∷ acts) (start ∷ end ∷ points) len e some low high =
    let at : length (a ∷ b ∷ acts) - 1 ≡ suc (length (b ∷ acts) - 1) = omega arith in
    let low' : slice_index (end ∷ points) (length (b ∷ acts) - 1) ≤ now = subst (λ k. slice_index (start ∷ end ∷ points) k ≤ now) at low in
    let rest = last-runs now total sheet (n + 1) (b ∷ acts) (end ∷ points) (omega arith) (omega arith) (omega arith) low' high in
    rw rest (or-true ((nat_le start now && nat_lt now end) && (n == total))) where
      or-true : (b : Bool) → (b || true) ≡ true
      or-true true = refl
      or-true false = refl

pub enters : (machine : Machine) (now : ℕ) (p : Plan) → IsTimedPlan machine p → is_tray_plan p ≡ true → point p (length p.acts - 1) ≤ now → now < end_of_plan p → is_entering now p ≡ true
enters machine now p timed tray low high =
    let some : 0 < length p.acts = timed.some in
    let runs = last-runs now (length p.acts) p.sheet 1 p.acts p.points timed.one_more (omega arith) timed.some low high in
    rw (tray, runs) refl

same-trays : (jobs : List Job) (a b : SheetId) → is_same_line jobs a b ≡ true → (tray_of jobs a).0 ≡ (tray_of jobs b).0
same-trays jobs a b e = grind (arith, nat_tests)

trays-same : (jobs : List Job) (a b : SheetId) → (tray_of jobs a).0 ≡ (tray_of jobs b).0 → is_same_line jobs a b ≡ true
trays-same jobs a b e = grind (arith, nat_tests)

module _ (machine : Machine) (base : Outset) (s : SessionState) (d : Displaced) (ds : List Displaced) (f : Falls machine base none_breaks s (d ∷ ds)) (c : SheetId)
    (which : (d.sheet ≡ c) ⊎ (d.sheet ≡ next_copy c)) (waits : d.again ≡ false) (none_enters : is_line_entering s c ≡ false) (lines : (a b : SheetId) → is_same_line s.jobs a b ≡ is_same_line base.jobs a b) where
  timed-at : (p : Plan) → Contains s.plans p → IsTimedPlan machine p
  timed-at p in' = All-contains (IsTimedPlan machine) s.plans p f.mid.plans.legal.timed in'

  no-entering : (p : Plan) → Contains s.plans p → is_later s c p ≡ true → is_entering s.now p ≡ true → ⊥
  no-entering p in' later e =
      let any = list_any_at (λ p. is_later s c p && is_entering s.now p) s.plans in'.0 p in'.1 (subst (λ x. (is_later s c x && is_entering s.now x) ≡ true) (sym in'.2) (both later e)) in cc where
        both : {a b : Bool} → a ≡ true → b ≡ true → (a && b) ≡ true
        both x y = rw (x, y) refl

  later-copy : (p : Plan) → is_later s c p ≡ true → is_copy s p ≡ true
  later-copy p e = third (is_before c p.sheet) (is_same_line s.jobs c p.sheet) (is_copy s p) e where
    third : (a b d : Bool) → (a && b && d) ≡ true → d ≡ true
    third true true d e = e
    third true false d e = absurd (cc)
    third false b d e = absurd (cc)

  pub later-fit : (p : Plan) → Contains s.plans p → IsFit s p (fate_in_fall_back s c p) []
  later-fit p in' = go (is_later s c p) refl (is_unstarted s.now p) refl (is_on_its_way s.now p) refl where
    timed : IsTimedPlan machine p
    timed = timed-at p in'

    is : IsPlanned base s p
    is = f.planned p in'

    opened : is_later s c p ≡ true → is_to_tray p.goal ≡ true → is_open s p ≡ true
    opened e g = rw (later-copy p e, g) refl

    tray-if : (b : Bool) → is_to_tray p.goal ≡ b → s.now < point p 0 → b ≡ true
    tray-if true e low = refl
    tray-if false e low = absurd (let past = is.purge e in omega arith)

    whole-if : (b : Bool) → is_job_broken s.jobs p.sheet.job ≡ b → (b ≡ true → ⊥) → b ≡ false
    whole-if true e none = absurd (none refl)
    whole-if false e none = refl

    go : (a : Bool) → is_later s c p ≡ a → (b : Bool) → is_unstarted s.now p ≡ b → (w : Bool) → is_on_its_way s.now p ≡ w → IsFit s p (cond (not a) fates.stays (cond b fates.withdrawn (cond w fates.replaced fates.stays))) []
    go false e b g w h = stay
    go true e true g w h =
        let low : s.now < point p 0 = grind (arith, nat_tests) in
        let up = up-to machine s.now p timed (length p.acts) (omega arith) in
        let tray = tray-if (is_to_tray p.goal) refl low in
        let o = opened e tray in
        withdraw o low (omega arith) (whole-if (is_job_broken s.jobs p.sheet.job) refl (λ broken.
        let last = (is.broken o broken).1 in
        let up' = up-to machine s.now p timed (length p.acts - 1) (omega arith) in
        absurd (omega arith)))
    go true e false g true h =
        let parts = and_parts (is_in_flight s.now p) (is_to_tray p.goal) h in
        let range = flight-range machine s.now p timed parts.0 in
        let o = opened e parts.1 in
        replace o (record { started = range.0; ends = range.1 }) (whole-if (is_job_broken s.jobs p.sheet.job) refl (λ broken.
        let b = is.broken o broken in
        let front = b.0 in
        let tray : is_tray_plan p ≡ true = rw (front, parts.1) refl in
        no-entering p in' e (enters machine s.now p timed tray b.1 range.1)))
    go true e false g false h = stay

  abbrev pub later-pass : IsPass machine base none_breaks s (d ∷ ds)
  later-pass = record { falls = f; fate = fate_in_fall_back s c; pend = λ p. []; fits = later-fit }

  -- none of the open copies that are left of the line stands behind it
  not-later : (q : Plan) → Contains (left_by (fate_in_fall_back s c) s.now s.plans) q → is_open (befall (fate_in_fall_back s c) s) q ≡ true → is_same_line base.jobs c q.sheet ≡ true → is_before c q.sheet ≡ false
  not-later q in' o line = go (plan-from later-pass q in') where
    no-between : (a : SheetId) → is_before c a ≡ true → is_before a d.sheet ≡ true → ⊥
    no-between a x y = elim which [
      | inl is ↦ first a c x (subst (λ e. is_before a e ≡ true) is y)
      | inr is ↦ second a c x (subst (λ e. is_before a e ≡ true) is y)
    ] where
      first : (a b : SheetId) → is_before b a ≡ true → is_before a b ≡ true → ⊥
      first a b x y = let no = before-asym b a x in cc

      second : (a b : SheetId) → is_before b a ≡ true → is_before a (next_copy b) ≡ true → ⊥
      second a b x y = elim (before-cases b a x) [
        | inl j ↦ elim (before-cases a (next_copy b) y) [
          | inl j' ↦ omega arith
          | inr r ↦ elim r [
            | inl n ↦ (let same = n.0 in omega arith)
            | inr e ↦ (let same = e.0 in omega arith)
          ]
        ]
        | inr r ↦ elim r [
          | inl n ↦ elim (before-cases a (next_copy b) y) [
            | inl j' ↦ (let same = n.0 in omega arith)
            | inr r' ↦ elim r' [
              | inl n' ↦ (let low = n.1 in let high = n'.1 in omega arith)
              | inr e' ↦ (let low = n.1 in let same = e'.1 in omega arith)
            ]
          ]
          | inr e ↦ elim (before-cases a (next_copy b) y) [
            | inl j' ↦ (let same = e.0 in omega arith)
            | inr r' ↦ elim r' [
              | inl n' ↦ (let same = e.1 in let high = n'.1 in omega arith)
              | inr e' ↦ (let low = e.2 in let high = e'.2 in omega arith)
            ]
          ]
        ]
      ]

    line-d : (a : SheetId) → is_same_line base.jobs c a ≡ true → is_same_line base.jobs d.sheet a ≡ true
    line-d a x = elim which [
      | inl is ↦ subst (λ e. is_same_line base.jobs e a ≡ true) (sym is) x
      | inr is ↦ subst (λ e. is_same_line base.jobs e a ≡ true) (sym is) x
    ]

    go : ((p : Plan) × Contains s.plans p × IsOf later-pass p q × Contains (left_of s.now p (fate_in_fall_back s c p)) q) → is_before c q.sheet ≡ false
    go (p, there, of, lies) = behind (is_before c p.sheet) refl where
      behind : (b : Bool) → is_before c p.sheet ≡ b → is_before c q.sheet ≡ false
      behind false e = subst (λ x. is_before c x ≡ false) (sym of.sheet) e
      behind true e = absurd (fate-is (is_unstarted s.now p) refl (is_on_its_way s.now p) refl (subst (λ b. Contains (left_of s.now p (cond (not b) fates.stays (cond (is_unstarted s.now p) fates.withdrawn (cond (is_on_its_way s.now p) fates.replaced fates.stays)))) q) later lies)) where
        open-p : is_open s p ≡ true
        open-p = of.opened o

        later : is_later s c p ≡ true
        later =
            let line' : is_same_line s.jobs c p.sheet ≡ true = lines c p.sheet ∙ subst (λ x. is_same_line base.jobs c x ≡ true) of.sheet line in
            let copy = (and_parts (is_copy s p) (is_to_tray p.goal) open-p).0 in
            rw (e, line', copy) refl

        fate-is : (b : Bool) → is_unstarted s.now p ≡ b → (w : Bool) → is_on_its_way s.now p ≡ w → Contains (left_of s.now p (cond b fates.withdrawn (cond w fates.replaced fates.stays))) q → ⊥
        fate-is true g w h i = omega (arith, i.1)
        fate-is false g true h i = elim (Contains-cons_cases _ [] q i) [
          | inl is ↦ (let shut = (and_parts (is_copy (befall (fate_in_fall_back s c) s) q) (is_to_tray q.goal) o).1 in let none : is_to_tray q.goal ≡ false = ap (λ (x : Plan). is_to_tray x.goal) (sym is) in cc)
          | inr none ↦ omega (arith, none.1)
        ]
        fate-is false g false h i = past (nat_lt s.now (end_of_plan p)) refl where
          past : (b : Bool) → nat_lt s.now (end_of_plan p) ≡ b → ⊥
          past true k =
              let low : point p 0 ≤ s.now = grind (arith, nat_tests) in
              let flies = in-flight machine s.now p (timed-at p there) low (grind (arith, nat_tests)) in
              let tray = (and_parts (is_copy s p) (is_to_tray p.goal) open-p).1 in
              let way : is_on_its_way s.now p ≡ true = rw (flies, tray) refl in cc
          past false k =
              let low : end_of_plan p ≤ s.now = grind (arith, nat_tests) in
              no-between p.sheet e (f.ended_pending p d there open-p low (Contains-here d ds) (line-d p.sheet (subst (λ x. is_same_line base.jobs c x ≡ true) of.sheet line)))

  line-c : (a : SheetId) → is_same_line base.jobs d.sheet a ≡ true → is_same_line base.jobs c a ≡ true
  line-c a x = elim which [
    | inl is ↦ subst (λ e. is_same_line base.jobs e a ≡ true) is x
    | inr is ↦ subst (λ e. is_same_line base.jobs e a ≡ true) is x
  ]

  -- who does not stand behind the copy is it, or stands before it
  at-or-before : (a : SheetId) → is_before c a ≡ false → (a ≡ c) ⊎ (is_before a c ≡ true)
  at-or-before a e = go (is_same_copy a c) refl where
    go : (b : Bool) → is_same_copy a c ≡ b → (a ≡ c) ⊎ (is_before a c ≡ true)
    go true g = inl (same_copy-is a c g)
    go false g = inr (before-other c a e g)

  before-newer : (x a b : SheetId) → is_before x a ≡ true → b.job ≡ a.job → b.number ≡ a.number → a.copy ≤ b.copy → is_before x b ≡ true
  before-newer x a b e job number newer = grind (arith, nat_tests)

  later-if : (p : Plan) (w : WaitingCopy) → Contains (waits_for p (fate_in_fall_back s c p)) w → is_later s c p ≡ true
  later-if p w i = go (is_later s c p) refl where
    go : (b : Bool) → is_later s c p ≡ b → b ≡ true
    go true e = refl
    go false e = absurd (let none = subst (λ b. Contains (waits_for p (cond (not b) fates.stays (cond (is_unstarted s.now p) fates.withdrawn (cond (is_on_its_way s.now p) fates.replaced fates.stays)))) w) e i in omega (arith, none.1))

  first-two : (a b g : Bool) → (a && b && g) ≡ true → (a ≡ true) × (b ≡ true)
  first-two true true g e = (refl, refl)
  first-two true false g e = absurd (cc)
  first-two false b g e = absurd (cc)

  abbrev pub state_later : SessionState
  state_later = befall (fate_in_fall_back s c) s

  new-line : (p : Plan) (w : WaitingCopy) → Contains s.plans p → Contains (waits_for p (fate_in_fall_back s c p)) w → (q : Plan) → Contains (left_by (fate_in_fall_back s c) s.now s.plans) q → is_open (befall (fate_in_fall_back s c) s) q ≡ true → is_same_line base.jobs w.sheet q.sheet ≡ true
      → (is_before q.sheet w.sheet ≡ true) ⊎ IsPending (d ∷ ds) w.sheet
  new-line p w in' new q in'' o line =
      let wait = wait-is later-pass p in' (fate_in_fall_back s c p) [] refl (later-fit p in') w new in
      let parts = first-two (is_before c p.sheet) (is_same_line s.jobs c p.sheet) (is_copy s p) (later-if p w new) in
      let with-p : (tray_of base.jobs c).0 ≡ (tray_of base.jobs p.sheet).0 = same-trays base.jobs c p.sheet (sym (lines c p.sheet) ∙ parts.1) in
      let with-q : (tray_of base.jobs w.sheet).0 ≡ (tray_of base.jobs q.sheet).0 = same-trays base.jobs w.sheet q.sheet line in
      let job : (tray_of base.jobs w.sheet).0 ≡ (tray_of base.jobs p.sheet).0 = ap (λ n. (tray_in (slice_get base.jobs n)).0) wait.job in
      let line' : is_same_line base.jobs c q.sheet ≡ true = trays-same base.jobs c q.sheet (with-p ∙ sym job ∙ with-q) in
      let before : is_before q.sheet p.sheet ≡ true = elim (at-or-before q.sheet (not-later q in'' o line')) [
        | inl is ↦ subst (λ x. is_before x p.sheet ≡ true) (sym is) parts.0
        | inr low ↦ before-trans q.sheet c p.sheet low parts.0
      ] in
      inl (before-newer q.sheet p.sheet w.sheet before wait.job wait.number wait.newer)

  none-sent : (l : List Plan) → flat_map {X = Plan} {A = Displaced} (λ p. []) l ≡ []
  none-sent [] = refl
  none-sent (p ∷ l) = none-sent l

  all-keep : (p : Plan) → keeps_sheet (fate_in_fall_back s c p) ≡ true
  all-keep p = go (is_later s c p) (is_unstarted s.now p) (is_on_its_way s.now p) where
    go : (a b w : Bool) → keeps_sheet (cond (not a) fates.stays (cond b fates.withdrawn (cond w fates.replaced fates.stays))) ≡ true
    go false b w = refl
    go true true w = refl
    go true false true = refl
    go true false false = refl

  falls-made : Falls machine base none_breaks state_later (d ∷ ds)
  falls-made = falls-after later-pass none_breaks (d ∷ ds) (λ j e. e) (λ p in' e. all-keep p) (λ e in'. inl in')
      (λ of_sheet. let none : count_by (pending_by of_sheet) (flat_map {X = Plan} {A = Displaced} (λ p. []) s.plans) ≡ 0 = ap (count_by (pending_by of_sheet)) (none-sent s.plans) in omega arith) (λ x p. p) new-line

  pub falls-later : Falls machine base none_breaks state_later ds
  falls-later = falls-release machine base state_later d ds falls-made waits (λ w in' is p in'' o line. stands w in' is p in'' o line) where
    before-next : (a : SheetId) → is_before a (next_copy a) ≡ true
    before-next a = grind (arith, nat_tests)

    same-own : (a b : SheetId) → a ≡ b → is_same_sheet a b ≡ true
    same-own a b e = subst (λ x. is_same_sheet a x ≡ true) e (own a) where
      own : (a : SheetId) → is_same_sheet a a ≡ true
      own a = grind (arith, nat_tests)

    stands : (w : WaitingCopy) → Contains state_later.waiting w → d.sheet ≡ w.sheet → (q : Plan) → Contains state_later.plans q → is_open state_later q ≡ true → is_same_line base.jobs w.sheet q.sheet ≡ true → is_before q.sheet w.sheet ≡ true
    stands w in' is q in'' o line = subst (λ x. is_before q.sheet x ≡ true) is (go which (at-or-before q.sheet (not-later q in'' o (line-c q.sheet (subst (λ x. is_same_line base.jobs x q.sheet ≡ true) (sym is) line))))) where
      go : ((d.sheet ≡ c) ⊎ (d.sheet ≡ next_copy c)) → ((q.sheet ≡ c) ⊎ (is_before q.sheet c ≡ true)) → is_before q.sheet d.sheet ≡ true
      go (inl at) (inl same) = absurd (
          let one : q.sheet ≡ w.sheet = same ∙ sym at ∙ is in
          let older = falls-made.older_waiting q w in'' in' (same-own q.sheet w.sheet one) in
          let copy : q.sheet.copy ≡ w.sheet.copy = ap (λ (x : SheetId). x.copy) one in omega arith)
      go (inl at) (inr low) = subst (λ x. is_before q.sheet x ≡ true) (sym at) low
      go (inr at) (inl same) = subst (λ x. is_before q.sheet x ≡ true) (sym at) (subst (λ x. is_before x (next_copy c) ≡ true) (sym same) (before-next c))
      go (inr at) (inr low) = subst (λ x. is_before q.sheet x ≡ true) (sym at) (before-trans q.sheet c (next_copy c) low (before-next c))
