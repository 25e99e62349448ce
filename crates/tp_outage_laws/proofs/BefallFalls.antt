-- What befalls the copies in an outage, a fall-back or a break keeps what holds in the midst of an outage.
use Rattle.std.proofs.Common.{◌≡◌, ℕ, ◌+◌, ◌<◌, ◌≤◌, ◌⊎◌, inl, inr, Bool, true, false, ◌&&◌, List, [], ◌∷◌, flat_map, length, refl, sym, ap, arith, Contains, subst, nat_lt, slice_get}
use Rattle.std.specs.Prelude.{◌==◌, count_by}
use Rattle.std.specs.Str.{bytes_eq}
use Rattle.std.proofs.lemmas.Bool.{and_parts}
use Rattle.std.proofs.lemmas.Bool.Decides.{nat_tests}
use Rattle.tp_machine.specs.declared.machine.Machine.{Machine}
use Rattle.tp_jobs.specs.Backlogs.{tray_in, tray_of}
use Rattle.tp_jobs.specs.declared.parts.WaitingCopy.{WaitingCopy}
use Rattle.tp_schedule.proofs.Membership.{Contains-cons_cases}
use Rattle.tp_schedule.specs.Plans.{end_of_plan, is_before, is_front}
use Rattle.tp_schedule.specs.declared.parts.Plan.{Plan}
use Rattle.tp_schedule.specs.declared.parts.SheetId.{SheetId}
use Rattle.tp_event_rules.specs.Labels.{job_name}
use Rattle.tp_event_rules.specs.FallBacks.{Displaced}
use Rattle.tp_event_rules.specs.Fates.{befall, left_by, left_of, waits_for}
use Rattle.tp_event_rules.specs.StateInvariants.{is_copy_of, is_known, is_of_its_job, is_same_sheet}
use Rattle.tp_event_rules.specs.Lines.{is_job_broken, is_same_line}
use Rattle.tp_event_rules.specs.States.{SessionState}
use Rattle.tp_outage_laws.proofs.FateCounts.{counts-sheet, total-few, total-same}
use Rattle.tp_outage_laws.proofs.Falls.{pending_by, total, Outset, is_sheet_in, Falls, IsPending, IsPlanned, IsWaiter, ended-open, is_open, one-open}
use Rattle.tp_outage_laws.proofs.Midway.{IsFlying, IsMid, befall-mid}
use Rattle.tp_outage_laws.proofs.Waits.{count-put_all, put-all-order, waiting_of}
use Rattle.tp_outage_laws.proofs.Fits.{IsPass, keeps_sheet, open-copy}
use Rattle.tp_outage_laws.proofs.FateLeft.{IsOf, left-unique, lost-all, meets, plan-from}
use Rattle.tp_outage_laws.proofs.FateWaits.{IsSentOf, IsWaitOf, sent-is, wait-from}

module _ {machine : Machine} {base : Outset} {ex : ℕ → Bool} {s : SessionState} {ds : List Displaced} (pass : IsPass machine base ex s ds) where
  -- What follows.
  before-newer : (c a b : SheetId) → is_before c a ≡ true → b.job ≡ a.job → b.number ≡ a.number → a.copy ≤ b.copy → is_before c b ≡ true
  before-newer c a b e job number newer = grind (arith, nat_tests)

  pub same-line-of : (a b c : SheetId) → a.job ≡ b.job → is_same_line base.jobs a c ≡ true → is_same_line base.jobs b c ≡ true
  same-line-of a b c job e = subst (λ n. ((tray_in (slice_get base.jobs n)).0 == (tray_of base.jobs c).0) ≡ true) job e

  of-sheets : (a b c : SheetId) → c.job ≡ b.job → c.number ≡ b.number → is_same_sheet a c ≡ true → is_same_sheet a b ≡ true
  of-sheets a b c job number e = grind (arith, nat_tests)

  sheet-known : (a b : SheetId) → b.job ≡ a.job → b.number ≡ a.number → is_sheet_in base a ≡ true → is_sheet_in base b ≡ true
  sheet-known a b job number e = subst (λ n. base.is_sheet n b.number ≡ true) (sym job) (subst (λ n. base.is_sheet a.job n ≡ true) (sym number) e)

  known-job : (a b : SheetId) → b.job ≡ a.job → is_known base.jobs a ≡ true → is_known base.jobs b ≡ true
  known-job a b job e = subst (λ n. nat_lt n (length base.jobs) ≡ true) (sym job) e

  known-own : (p : Plan) → is_of_its_job base.jobs p ≡ true → is_known base.jobs p.sheet ≡ true
  known-own p e = (and_parts (is_known base.jobs p.sheet) _ (and_parts (is_known base.jobs p.sheet && bytes_eq p.name (job_name base.jobs p.sheet.job)) _ e).0).0

  module _ (ex' : ℕ → Bool) (ds' : List Displaced)
      (more : (j : ℕ) → ex' j ≡ false → ex j ≡ false)
      (exact : (p : Plan) → Contains s.plans p → ex' p.sheet.job ≡ false → keeps_sheet (pass.fate p) ≡ true)
      (sent : (d : Displaced) → Contains ds' d → Contains ds d ⊎ ((p : Plan) × Contains s.plans p × Contains (pass.pend p) d))
      (counts : (of_sheet : SheetId → Bool) → count_by (pending_by of_sheet) ds' ≡ count_by (pending_by of_sheet) ds + count_by (pending_by of_sheet) (flat_map pass.pend s.plans))
      (still : (c : SheetId) → IsPending ds c → IsPending ds' c)
      (new_line : (p : Plan) (w : WaitingCopy) → Contains s.plans p → Contains (waits_for p (pass.fate p)) w → (q : Plan) → Contains (left_by pass.fate s.now s.plans) q → is_open (befall pass.fate s) q ≡ true → is_same_line base.jobs w.sheet q.sheet ≡ true
      → (is_before q.sheet w.sheet ≡ true) ⊎ IsPending ds' w.sheet) where
    now-once : (j n : ℕ) → total j n (befall pass.fate s) ds' ≤ total j n s ds
    now-once j n = total-few pass (λ p. is_copy_of j n p.sheet) (is_copy_of j n) (counts-sheet machine s.now j n) ds' (counts (is_copy_of j n))

    now-same : (j n : ℕ) → ex' j ≡ false → total j n (befall pass.fate s) ds' ≡ total j n s ds
    now-same j n e = total-same pass (λ p. is_copy_of j n p.sheet) (is_copy_of j n) (counts-sheet machine s.now j n) ds' (counts (is_copy_of j n)) (λ p i. of p i (is_copy_of j n p.sheet) refl) where
      of : (p : Plan) → Contains s.plans p → (b : Bool) → is_copy_of j n p.sheet ≡ b → (keeps_sheet (pass.fate p) ≡ true) ⊎ (b ≡ false)
      of p i false g = inr refl
      of p i true g = inl (exact p i (subst (λ k. ex' k ≡ false) (sym (job-is p.sheet g)) e)) where
        job-is : (c : SheetId) → is_copy_of j n c ≡ true → c.job ≡ j
        job-is c h = grind (arith, nat_tests)

    older-w : (q : Plan) (w : WaitingCopy) → Contains (left_by pass.fate s.now s.plans) q → Contains (befall pass.fate s).waiting w → is_same_sheet q.sheet w.sheet ≡ true → q.sheet.copy < w.sheet.copy
    older-w q w in' in'' same = go (plan-from pass q in') (wait-from pass w in'') where
      go : ((p : Plan) × Contains s.plans p × IsOf pass p q × Contains (left_of s.now p (pass.fate p)) q) → (Contains s.waiting w ⊎ ((p : Plan) × Contains s.plans p × IsWaitOf pass p w × Contains (waits_for p (pass.fate p)) w)) → q.sheet.copy < w.sheet.copy
      go (p, there, of, lies) (inl old) =
          let less : p.sheet.copy < w.sheet.copy = pass.falls.older_waiting p w there old (subst (λ c. is_same_sheet c w.sheet ≡ true) of.sheet same) in
          let copy : q.sheet.copy ≡ p.sheet.copy = ap (λ (c : SheetId). c.copy) of.sheet in omega arith
      go (p, there, of, lies) (inr (p2, there2, wait, new)) = cases (is_open s p) refl where
        sheets : is_same_sheet p.sheet p2.sheet ≡ true
        sheets = of-sheets p.sheet p2.sheet w.sheet wait.job wait.number (subst (λ c. is_same_sheet c w.sheet ≡ true) of.sheet same)

        cases : (b : Bool) → is_open s p ≡ b → q.sheet.copy < w.sheet.copy
        cases true e =
            let is = one-open machine base ex s ds pass.falls p p2 there there2 e wait.opened sheets in
            wait.left_older q (subst (λ x. Contains (left_of s.now x (pass.fate x)) q) is lies)
        cases false e =
            let less = pass.falls.older_planned p p2 there there2 e wait.opened sheets in
            let copy : q.sheet.copy ≡ p.sheet.copy = ap (λ (c : SheetId). c.copy) of.sheet in
            let newer = wait.newer in omega arith

    older-d : (q : Plan) (d : Displaced) → Contains (left_by pass.fate s.now s.plans) q → Contains ds' d → d.again ≡ true → is_same_sheet q.sheet d.sheet ≡ true → q.sheet.copy ≤ d.sheet.copy
    older-d q d in' in'' again same = go (plan-from pass q in') (sent d in'') where
      go : ((p : Plan) × Contains s.plans p × IsOf pass p q × Contains (left_of s.now p (pass.fate p)) q) → (Contains ds d ⊎ ((p : Plan) × Contains s.plans p × Contains (pass.pend p) d)) → q.sheet.copy ≤ d.sheet.copy
      go (p, there, of, lies) (inl old) =
          let less : p.sheet.copy ≤ d.sheet.copy = pass.falls.older_pending p d there old again (subst (λ c. is_same_sheet c d.sheet ≡ true) of.sheet same) in
          let copy : q.sheet.copy ≡ p.sheet.copy = ap (λ (c : SheetId). c.copy) of.sheet in omega arith
      go (p, there, of, lies) (inr (p2, there2, new)) = cases (is_open s p) refl where
        out : IsSentOf pass p2 d
        out = sent-is pass p2 (pass.fate p2) (pass.pend p2) (pass.fits p2 there2) d new

        sheets : is_same_sheet p.sheet p2.sheet ≡ true
        sheets = subst (λ c. is_same_sheet p.sheet c ≡ true) out.sheet (subst (λ c. is_same_sheet c d.sheet ≡ true) of.sheet same)

        copy : q.sheet.copy ≡ p.sheet.copy
        copy = ap (λ (c : SheetId). c.copy) of.sheet

        copy' : d.sheet.copy ≡ p2.sheet.copy
        copy' = ap (λ (c : SheetId). c.copy) out.sheet

        cases : (b : Bool) → is_open s p ≡ b → q.sheet.copy ≤ d.sheet.copy
        cases true e =
            let is : p.sheet.copy ≡ p2.sheet.copy = ap (λ (x : Plan). x.sheet.copy) (one-open machine base ex s ds pass.falls p p2 there there2 e out.opened sheets) in
            let a = copy in let b = copy' in omega arith
        cases false e =
            let less = pass.falls.older_planned p p2 there there2 e out.opened sheets in
            let a = copy in let b = copy' in omega arith

    older-p : (q r : Plan) → Contains (left_by pass.fate s.now s.plans) q → Contains (left_by pass.fate s.now s.plans) r → is_open (befall pass.fate s) q ≡ false → is_open (befall pass.fate s) r ≡ true → is_same_sheet q.sheet r.sheet ≡ true → q.sheet.copy < r.sheet.copy
    older-p q r in' in'' shut-q open-r same = go (plan-from pass q in') (plan-from pass r in'') where
      go : ((p : Plan) × Contains s.plans p × IsOf pass p q × Contains (left_of s.now p (pass.fate p)) q) → ((p : Plan) × Contains s.plans p × IsOf pass p r × Contains (left_of s.now p (pass.fate p)) r) → q.sheet.copy < r.sheet.copy
      go (p, there, of, lies) (p2, there2, of2, lies2) = cases (is_open s p) refl where
        sheets : is_same_sheet p.sheet p2.sheet ≡ true
        sheets = subst (λ c. is_same_sheet p.sheet c ≡ true) of2.sheet (subst (λ c. is_same_sheet c r.sheet ≡ true) of.sheet same)

        cases : (b : Bool) → is_open s p ≡ b → q.sheet.copy < r.sheet.copy
        cases true e = absurd (
            let is = one-open machine base ex s ds pass.falls p p2 there there2 e (of2.opened open-r) sheets in
            let one = left-unique pass p2 there2 q r (subst (λ x. Contains (left_of s.now x (pass.fate x)) q) is lies) lies2 in
            let o : is_open (befall pass.fate s) q ≡ true = subst (λ x. is_open (befall pass.fate s) x ≡ true) (sym one) open-r in cc)
        cases false e =
            let less = pass.falls.older_planned p p2 there there2 e (of2.opened open-r) sheets in
            let a : q.sheet.copy ≡ p.sheet.copy = ap (λ (c : SheetId). c.copy) of.sheet in
            let b : r.sheet.copy ≡ p2.sheet.copy = ap (λ (c : SheetId). c.copy) of2.sheet in omega arith

    line-w : (w : WaitingCopy) (q : Plan) → Contains (befall pass.fate s).waiting w → Contains (left_by pass.fate s.now s.plans) q → is_open (befall pass.fate s) q ≡ true → is_same_line base.jobs w.sheet q.sheet ≡ true → (is_before q.sheet w.sheet ≡ true) ⊎ IsPending ds' w.sheet
    line-w w q in' in'' o line = go (wait-from pass w in') (plan-from pass q in'') where
      go : (Contains s.waiting w ⊎ ((p : Plan) × Contains s.plans p × IsWaitOf pass p w × Contains (waits_for p (pass.fate p)) w)) → ((p : Plan) × Contains s.plans p × IsOf pass p q × Contains (left_of s.now p (pass.fate p)) q) → (is_before q.sheet w.sheet ≡ true) ⊎ IsPending ds' w.sheet
      go (inl old) (p, there, of, lies) = elim (pass.falls.line w p old there (of.opened o) (subst (λ c. is_same_line base.jobs w.sheet c ≡ true) of.sheet line)) [
        | inl before ↦ inl (subst (λ c. is_before c w.sheet ≡ true) (sym of.sheet) before)
        | inr pending ↦ inr (still w.sheet pending)
      ]
      go (inr (p2, there2, wait, new)) from = new_line p2 w there2 new q in'' o line

    ended-w : (q : Plan) (w : WaitingCopy) → Contains (left_by pass.fate s.now s.plans) q → is_open (befall pass.fate s) q ≡ true → end_of_plan q ≤ s.now → Contains (befall pass.fate s).waiting w → is_same_line base.jobs w.sheet q.sheet ≡ true → is_before q.sheet w.sheet ≡ true
    ended-w q w in' o past in'' line = go (plan-from pass q in') (wait-from pass w in'') where
      go : ((p : Plan) × Contains s.plans p × IsOf pass p q × Contains (left_of s.now p (pass.fate p)) q) → (Contains s.waiting w ⊎ ((p : Plan) × Contains s.plans p × IsWaitOf pass p w × Contains (waits_for p (pass.fate p)) w)) → is_before q.sheet w.sheet ≡ true
      go (p, there, of, lies) (inl old) =
          let is = of.ended o past in
          pass.falls.ended_waiting q w (subst (Contains s.plans) (sym is) there) (subst (λ x. is_open s x ≡ true) (sym is) (of.opened o)) past old line
      go (p, there, of, lies) (inr (p2, there2, wait, new)) =
          let is = of.ended o past in
          let before = ended-open machine base ex s ds pass.falls q p2 (subst (Contains s.plans) (sym is) there) (subst (λ x. is_open s x ≡ true) (sym is) (of.opened o)) past there2 wait.opened wait.ends (same-line-of w.sheet p2.sheet q.sheet wait.job line) in
          before-newer q.sheet p2.sheet w.sheet before wait.job wait.number wait.newer

    ended-d : (q : Plan) (d : Displaced) → Contains (left_by pass.fate s.now s.plans) q → is_open (befall pass.fate s) q ≡ true → end_of_plan q ≤ s.now → Contains ds' d → is_same_line base.jobs d.sheet q.sheet ≡ true → is_before q.sheet d.sheet ≡ true
    ended-d q d in' o past in'' line = go (plan-from pass q in') (sent d in'') where
      go : ((p : Plan) × Contains s.plans p × IsOf pass p q × Contains (left_of s.now p (pass.fate p)) q) → (Contains ds d ⊎ ((p : Plan) × Contains s.plans p × Contains (pass.pend p) d)) → is_before q.sheet d.sheet ≡ true
      go (p, there, of, lies) (inl old) =
          let is = of.ended o past in
          pass.falls.ended_pending q d (subst (Contains s.plans) (sym is) there) (subst (λ x. is_open s x ≡ true) (sym is) (of.opened o)) past old line
      go (p, there, of, lies) (inr (p2, there2, new)) =
          let is = of.ended o past in
          let out = sent-is pass p2 (pass.fate p2) (pass.pend p2) (pass.fits p2 there2) d new in
          let before = ended-open machine base ex s ds pass.falls q p2 (subst (Contains s.plans) (sym is) there) (subst (λ x. is_open s x ≡ true) (sym is) (of.opened o)) past there2 out.opened out.ends (subst (λ c. is_same_line base.jobs c q.sheet ≡ true) out.sheet line) in
          subst (λ c. is_before q.sheet c ≡ true) (sym out.sheet) before

    after-mid : IsMid machine (befall pass.fate s)
    after-mid = befall-mid machine pass.fate s pass.falls.mid (meets pass)

    ended-q : (q r : Plan) → Contains (left_by pass.fate s.now s.plans) q → is_open (befall pass.fate s) q ≡ true → end_of_plan q ≤ s.now → Contains (left_by pass.fate s.now s.plans) r → is_open (befall pass.fate s) r ≡ true → is_front r.kind ≡ true → is_same_line base.jobs r.sheet q.sheet ≡ true → is_before q.sheet r.sheet ≡ true
    ended-q q r in' o past in'' o' front line = go (plan-from pass q in') (plan-from pass r in'') where
      go : ((p : Plan) × Contains s.plans p × IsOf pass p q × Contains (left_of s.now p (pass.fate p)) q) → ((p : Plan) × Contains s.plans p × IsOf pass p r × Contains (left_of s.now p (pass.fate p)) r) → is_before q.sheet r.sheet ≡ true
      go (p, there, of, lies) (p2, there2, of2, lies2) = ends (nat_lt s.now (end_of_plan p2)) refl where
        flies : IsFlying s.now r
        flies = after-mid.flying r in'' front (open-copy (befall pass.fate s) r o')

        ends : (b : Bool) → nat_lt s.now (end_of_plan p2) ≡ b → is_before q.sheet r.sheet ≡ true
        ends true e =
            let is = of.ended o past in
            subst (λ c. is_before q.sheet c ≡ true) (sym of2.sheet)
            (ended-open machine base ex s ds pass.falls q p2 (subst (Contains s.plans) (sym is) there) (subst (λ x. is_open s x ≡ true) (sym is) (of.opened o)) past there2 (of2.opened o') (grind (arith, nat_tests)) (subst (λ c. is_same_line base.jobs c q.sheet ≡ true) of2.sheet line))
        ends false e =
            let low : end_of_plan p2 ≤ s.now = grind (arith, nat_tests) in
            let stays = (meets pass p2 there2).stays low in
            let is : p2 ≡ r = one-stays p2 r (subst (λ x. Contains (left_of s.now p2 x) r) stays lies2) in
            let same : end_of_plan p2 ≡ end_of_plan r = ap end_of_plan is in
            let fl = flies in
            let above = fl.ends in
            absurd (omega arith) where
              one-stays : (x y : Plan) → Contains (x ∷ []) y → x ≡ y
              one-stays x y i = elim (Contains-cons_cases x [] y i) [
                | inl is ↦ is
                | inr none ↦ absurd (omega (arith, none.1))
              ]

    pub falls-after : Falls machine base ex' (befall pass.fate s) ds'
    falls-after = record {
      same = pass.falls.same;
      mid = after-mid;
      in_order = put-all-order (flat_map (λ p. waits_for p (pass.fate p)) s.plans) s.waiting (λ j n.
          let once = pass.falls.once j n in
          let now = now-once j n in
          let put = count-put_all (waiting_of j n) (flat_map (λ p. waits_for p (pass.fate p)) s.plans) s.waiting in
          omega arith) pass.falls.in_order;
      waiters = λ w in'. waiter w (wait-from pass w in');
      planned = λ q in'. plan q (plan-from pass q in');
      pending = λ d in'. out d (sent d in');
      lost_are = lost-all pass s.plans (λ p i. i);
      once = λ j n. let once = pass.falls.once j n in let now = now-once j n in omega arith;
      each = λ j n known whole e wanted. let some = pass.falls.each j n known whole (more j e) wanted in let now = now-same j n e in omega arith;
      older_waiting = older-w;
      older_pending = older-d;
      older_planned = older-p;
      line = line-w;
      ended_waiting = ended-w;
      ended_pending = ended-d;
      ended_front = ended-q;
    } where
      waiter : (w : WaitingCopy) → (Contains s.waiting w ⊎ ((p : Plan) × Contains s.plans p × IsWaitOf pass p w × Contains (waits_for p (pass.fate p)) w)) → IsWaiter base (befall pass.fate s) w
      waiter w (inl old) = let is = pass.falls.waiters w old in record { known = is.known; sheet = is.sheet; whole = is.whole }
      waiter w (inr (p, there, wait, new)) = record {
        known = known-job p.sheet w.sheet wait.job (known-own p (pass.falls.planned p there).own);
        sheet = sheet-known p.sheet w.sheet wait.job wait.number (pass.falls.planned p there).sheet;
        whole = subst (λ j. is_job_broken s.jobs j ≡ false) (sym wait.job) wait.whole;
      }

      out : (d : Displaced) → (Contains ds d ⊎ ((p : Plan) × Contains s.plans p × Contains (pass.pend p) d)) → (is_known base.jobs d.sheet ≡ true) × (is_sheet_in base d.sheet ≡ true)
      out d (inl old) = pass.falls.pending d old
      out d (inr (p, there, new)) =
          let o = sent-is pass p (pass.fate p) (pass.pend p) (pass.fits p there) d new in
          (subst (λ c. is_known base.jobs c ≡ true) (sym o.sheet) (known-own p (pass.falls.planned p there).own), subst (λ c. is_sheet_in base c ≡ true) (sym o.sheet) (pass.falls.planned p there).sheet)

      plan : (q : Plan) → ((p : Plan) × Contains s.plans p × IsOf pass p q × Contains (left_of s.now p (pass.fate p)) q) → IsPlanned base (befall pass.fate s) q
      plan q (p, there, of, lies) = record { own = of.own; sheet = subst (λ c. is_sheet_in base c ≡ true) (sym of.sheet) (pass.falls.planned p there).sheet; purge = of.purge; broken = of.broken; lost = of.lost }
