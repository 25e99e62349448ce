-- A displaced copy falls back: the steps of it, and what each keeps.
use Rattle.std.proofs.Common.{◌≡◌, ℕ, ◌+◌, ◌<◌, ◌≤◌, ◌⊎◌, inl, inr, Bool, true, false, cond, ◌&&◌, List, ◌∷◌, refl, sym, ap, arith, Contains, subst}
use Rattle.std.specs.Prelude.{count_by}
use Rattle.std.proofs.lemmas.Bool.Decides.{nat_tests}
use Rattle.tp_machine.specs.declared.machine.Machine.{Machine}
use Rattle.tp_jobs.specs.Backlogs.{next_copy}
use Rattle.tp_jobs.specs.WaitingCopies.{put_waiting}
use Rattle.tp_jobs.specs.declared.parts.WaitingCopy.{WaitingCopy}
use Rattle.tp_schedule.proofs.Membership.{Contains-cons_cases, Contains-here, Contains-later}
use Rattle.tp_schedule.specs.Plans.{end_of_plan, is_before, is_same_copy}
use Rattle.tp_schedule.specs.declared.parts.Plan.{Plan}
use Rattle.tp_schedule.specs.declared.parts.SheetId.{SheetId}
use Rattle.tp_event_rules.specs.FallBacks.{Displaced}
use Rattle.tp_event_rules.specs.StateInvariants.{is_copy_of, is_known, is_same_sheet}
use Rattle.tp_event_rules.specs.Lines.{is_job_broken, is_same_line}
use Rattle.tp_event_rules.specs.States.{SessionState}
use Rattle.tp_outage_laws.proofs.Falls.{Outset, is_sheet_in, Falls, IsPending, IsWaiter, both-true, is_open, none_breaks, own-copy, pending_of, total}
use Rattle.tp_outage_laws.proofs.Counts.{count-cons, count-one, count-put}
use Rattle.tp_outage_laws.proofs.Waits.{put-from, put-order, waiting_of}

module _ (machine : Machine) (base : Outset) (s : SessionState) (d : Displaced) (ds : List Displaced) (f : Falls machine base none_breaks s (d ∷ ds)) where
  less-pending : (j n : ℕ) → count_by (pending_of j n) (d ∷ ds) ≡ cond (pending_of j n d) 1 0 + count_by (pending_of j n) ds
  less-pending j n = count-cons (pending_of j n) d ds

  pending-cases : (c : SheetId) → IsPending (d ∷ ds) c → ((d.again ≡ false) × (d.sheet ≡ c)) ⊎ IsPending ds c
  pending-cases c p = elim (Contains-cons_cases d ds p.d p.there) [
    | inl is ↦ inl (subst (λ (x : Displaced). x.again ≡ false) (sym is) p.waits, subst (λ (x : Displaced). x.sheet ≡ c) (sym is) p.is)
    | inr later ↦ inr (record { d = p.d; there = later; waits = p.waits; is = p.is })
  ]

  -- it is no longer to fall back, where the copy counts no more and stands in its line
  without : ((j n : ℕ) → is_job_broken s.jobs j ≡ false → pending_of j n d ≡ false)
      → ((w : WaitingCopy) → Contains s.waiting w → d.again ≡ false → d.sheet ≡ w.sheet → (p : Plan) → Contains s.plans p → is_open s p ≡ true → is_same_line base.jobs w.sheet p.sheet ≡ true → is_before p.sheet w.sheet ≡ true)
      → Falls machine base none_breaks s ds
  without none stands = record {
    same = f.same;
    mid = f.mid;
    in_order = f.in_order;
    waiters = f.waiters;
    planned = f.planned;
    pending = λ e in'. f.pending e (Contains-later d ds e in');
    lost_are = f.lost_are;
    once = λ j n. let once = f.once j n in let less = less-pending j n in omega arith;
    each = λ j n known whole e wanted.
        let some = f.each j n known whole e wanted in
        let less = less-pending j n in
        let zero' : cond {A = ℕ} (pending_of j n d) 1 0 ≡ 0 = ap (λ b. cond {A = ℕ} b 1 0) (none j n whole) in omega arith;
    older_waiting = f.older_waiting;
    older_pending = λ p e in' in''. f.older_pending p e in' (Contains-later d ds e in'');
    older_planned = f.older_planned;
    line = λ w p in' in'' o line. elim (f.line w p in' in'' o line) [
      | inl before ↦ inl before
      | inr pending ↦ elim (pending-cases w.sheet pending) [
        | inl is ↦ inl (stands w in' is.0 is.1 p in'' o line)
        | inr later ↦ inr later
      ]
    ];
    ended_waiting = f.ended_waiting;
    ended_pending = λ p e in' o past in''. f.ended_pending p e in' o past (Contains-later d ds e in'');
    ended_front = f.ended_front;
  }

  -- a copy of a broken job does not fall back
  pub falls-skip : is_job_broken s.jobs d.sheet.job ≡ true → Falls machine base none_breaks s ds
  falls-skip broken = without
      (λ j n whole. none j n whole (is_copy_of j n d.sheet) refl)
      (λ w in' waits is p in'' o line. absurd (let whole = (f.waiters w in').whole in let same : is_job_broken s.jobs d.sheet.job ≡ is_job_broken s.jobs w.sheet.job = ap (λ (c : SheetId). is_job_broken s.jobs c.job) is in cc)) where
        none : (j n : ℕ) → is_job_broken s.jobs j ≡ false → (b : Bool) → is_copy_of j n d.sheet ≡ b → (d.again && b) ≡ false
        none j n whole false e = and-false d.again where
          and-false : (b : Bool) → (b && false) ≡ false
          and-false true = refl
          and-false false = refl
        none j n whole true e = absurd (let job : d.sheet.job ≡ j = job-is j n d.sheet e in let same : is_job_broken s.jobs d.sheet.job ≡ is_job_broken s.jobs j = ap (is_job_broken s.jobs) job in cc) where
          job-is : (j n : ℕ) (c : SheetId) → is_copy_of j n c ≡ true → c.job ≡ j
          job-is j n c h = grind (arith, nat_tests)

  -- a copy that waits makes room for no one any more
  pub falls-release : d.again ≡ false
      → ((w : WaitingCopy) → Contains s.waiting w → d.sheet ≡ w.sheet → (p : Plan) → Contains s.plans p → is_open s p ≡ true → is_same_line base.jobs w.sheet p.sheet ≡ true → is_before p.sheet w.sheet ≡ true)
      → Falls machine base none_breaks s ds
  falls-release waits stands = without (λ j n whole. ap (λ b. b && is_copy_of j n d.sheet) waits) (λ w in' e is. stands w in' is)

  -- the next copy waits
  abbrev next_waiting : WaitingCopy
  next_waiting = record { sheet = next_copy d.sheet; want = d.want }

  abbrev pub state_waits : SessionState
  state_waits = record s { waiting = put_waiting s.waiting (record { sheet = next_copy d.sheet; want = d.want }) }

  abbrev pub next_pending : Displaced
  next_pending = record { sheet = next_copy d.sheet; want = d.want; again = false }

  pub falls-waits : d.again ≡ true → is_job_broken s.jobs d.sheet.job ≡ false → Falls machine base none_breaks state_waits (next_pending ∷ ds)
  falls-waits again whole = record {
    same = f.same;
    mid = record { plans = f.mid.plans; flying = f.mid.flying };
    in_order = put-order next_waiting s.waiting (λ v in'. other v in' (is_same_copy v.sheet (next_copy d.sheet)) refl) f.in_order;
    waiters = λ w in'. elim (put-from next_waiting s.waiting w in') [
      | inl is ↦ subst (IsWaiter base state_waits) (sym is) (record { known = (f.pending d (Contains-here d ds)).0; sheet = (f.pending d (Contains-here d ds)).1; whole = whole })
      | inr old ↦ let i = f.waiters w old in record { known = i.known; sheet = i.sheet; whole = i.whole }
    ];
    planned = λ p in'. let i = f.planned p in' in record { own = i.own; sheet = i.sheet; purge = i.purge; broken = i.broken; lost = i.lost };
    pending = λ e in'. elim (Contains-cons_cases next_pending ds e in') [
      | inl is ↦ subst (λ (x : Displaced). (is_known base.jobs x.sheet ≡ true) × (is_sheet_in base x.sheet ≡ true)) is (f.pending d (Contains-here d ds))
      | inr later ↦ f.pending e (Contains-later d ds e later)
    ];
    lost_are = f.lost_are;
    once = λ j n. let same = totals j n in let once = f.once j n in omega arith;
    each = λ j n known w e wanted. let same = totals j n in let some = f.each j n known w e wanted in omega arith;
    older_waiting = λ p w in' in'' same. older p w in' (put-from next_waiting s.waiting w in'') same;
    older_pending = λ p e in' in'' a same. elim (Contains-cons_cases next_pending ds e in'') [
      | inl is ↦ absurd (let no : e.again ≡ false = ap (λ (x : Displaced). x.again) (sym is) in cc)
      | inr later ↦ f.older_pending p e in' (Contains-later d ds e later) a same
    ];
    older_planned = f.older_planned;
    line = λ w p in' in'' o line. stands w p (put-from next_waiting s.waiting w in') in'' o line;
    ended_waiting = λ p w in' o past in'' line. ended p w in' o past (put-from next_waiting s.waiting w in'') line;
    ended_pending = λ p e in' o past in'' line. elim (Contains-cons_cases next_pending ds e in'') [
      | inl is ↦ subst (λ (x : Displaced). is_before p.sheet x.sheet ≡ true) is (before-next p.sheet d.sheet (f.ended_pending p d in' o past (Contains-here d ds) (subst (λ (x : Displaced). is_same_line base.jobs x.sheet p.sheet ≡ true) (sym is) line)))
      | inr later ↦ f.ended_pending p e in' o past (Contains-later d ds e later) line
    ];
    ended_front = f.ended_front;
  } where
    before-next : (a b : SheetId) → is_before a b ≡ true → is_before a (next_copy b) ≡ true
    before-next a b e = grind (arith, nat_tests)

    same-sheet : (a b : SheetId) → is_same_copy a (next_copy b) ≡ true → is_copy_of b.job b.number a ≡ true
    same-sheet a b e = grind (arith, nat_tests)

    other : (v : WaitingCopy) → Contains s.waiting v → (b : Bool) → is_same_copy v.sheet (next_copy d.sheet) ≡ b → b ≡ false
    other v in' false e = refl
    other v in' true e = absurd (
        let once = f.once d.sheet.job d.sheet.number in
        let one = count-one (waiting_of d.sheet.job d.sheet.number) s.waiting v in' (same-sheet v.sheet d.sheet e) in
        let two = count-one (pending_of d.sheet.job d.sheet.number) (d ∷ ds) d (Contains-here d ds) (both-true d.again _ again (own-copy d.sheet)) in
        omega arith)

    totals : (j n : ℕ) → total j n state_waits (next_pending ∷ ds) ≡ total j n s (d ∷ ds)
    totals j n =
        let put = count-put (waiting_of j n) next_waiting s.waiting in
        let less = less-pending j n in
        let was : cond {A = ℕ} (pending_of j n d) 1 0 ≡ cond {A = ℕ} (is_copy_of j n d.sheet) 1 0 = ap (λ b. cond {A = ℕ} (b && is_copy_of j n d.sheet) 1 0) again in
        let now = count-cons (pending_of j n) next_pending ds in
        omega arith

    sheet-of : (a b : SheetId) → is_same_sheet a (next_copy b) ≡ true → is_same_sheet a b ≡ true
    sheet-of a b e = e

    older : (p : Plan) (w : WaitingCopy) → Contains s.plans p → ((w ≡ next_waiting) ⊎ Contains s.waiting w) → is_same_sheet p.sheet w.sheet ≡ true → p.sheet.copy < w.sheet.copy
    older p w in' (inl is) same =
        let low : p.sheet.copy ≤ d.sheet.copy = f.older_pending p d in' (Contains-here d ds) again (subst (λ (x : WaitingCopy). is_same_sheet p.sheet x.sheet ≡ true) is same) in
        let copy : w.sheet.copy ≡ d.sheet.copy + 1 = ap (λ (x : WaitingCopy). x.sheet.copy) is in omega arith
    older p w in' (inr old) same = f.older_waiting p w in' old same

    stands : (w : WaitingCopy) (p : Plan) → ((w ≡ next_waiting) ⊎ Contains s.waiting w) → Contains s.plans p → is_open s p ≡ true → is_same_line base.jobs w.sheet p.sheet ≡ true → (is_before p.sheet w.sheet ≡ true) ⊎ IsPending (next_pending ∷ ds) w.sheet
    stands w p (inl is) in'' o line = inr (record { d = next_pending; there = Contains-here next_pending ds; waits = refl; is = ap (λ (x : WaitingCopy). x.sheet) (sym is) })
    stands w p (inr old) in'' o line = elim (f.line w p old in'' o line) [
      | inl before ↦ inl before
      | inr pending ↦ elim (pending-cases w.sheet pending) [
        | inl is ↦ absurd (let no = is.0 in cc)
        | inr later ↦ inr (record { d = later.d; there = Contains-later next_pending ds later.d later.there; waits = later.waits; is = later.is })
      ]
    ]

    ended : (p : Plan) (w : WaitingCopy) → Contains s.plans p → is_open s p ≡ true → end_of_plan p ≤ s.now → ((w ≡ next_waiting) ⊎ Contains s.waiting w) → is_same_line base.jobs w.sheet p.sheet ≡ true → is_before p.sheet w.sheet ≡ true
    ended p w in' o past (inl is) line = subst (λ (x : WaitingCopy). is_before p.sheet x.sheet ≡ true) (sym is)
        (before-next p.sheet d.sheet (f.ended_pending p d in' o past (Contains-here d ds) (subst (λ (x : WaitingCopy). is_same_line base.jobs x.sheet p.sheet ≡ true) is line)))
    ended p w in' o past (inr old) line = f.ended_waiting p w in' o past old line
