-- A loose copy is planned: what holds in the midst of an outage is kept.
use Rattle.std.proofs.Common.{◌≡◌, ℕ, ◌+◌, ◌-◌, ◌<◌, ◌≤◌, ◌⊎◌, inl, inr, Bool, true, false, cond, ◌&&◌, not, List, [], ◌∷◌, map, filter, length, refl, sym, ap, ◌∙◌, arith, Contains, subst, Some}
use Rattle.std.specs.Prelude.{count_by}
use Rattle.std.specs.List.{list_any}
use Rattle.std.specs.Str.{bytes_eq}
use Rattle.tp_machine.specs.declared.machine.Machine.{Machine}
use Rattle.tp_jobs.specs.Backlogs.{tray_of}
use Rattle.tp_schedule.proofs.CopyFacts.{same_copy-is, same_copy-refl}
use Rattle.tp_schedule.proofs.Membership.{All-from_contains}
use Rattle.tp_schedule.specs.Answers.{IsAlternative, unmoved}
use Rattle.tp_schedule.specs.Plans.{change_plan, end_of_plan, is_before, is_front, is_same_copy, plan_of, point, without}
use Rattle.tp_schedule.specs.declared.parts.Ask.{Ask}
use Rattle.tp_schedule.specs.declared.parts.Plan.{Plan}
use Rattle.tp_schedule.specs.declared.parts.SheetId.{SheetId}
use Rattle.tp_event_rules.specs.StateInvariants.{is_copy_of, is_known, is_of_its_job, is_own_goal, is_same_sheet}
use Rattle.tp_event_rules.specs.Labels.{job_name}
use Rattle.tp_event_rules.specs.Laws.{IsPlannable}
use Rattle.tp_event_rules.specs.Lines.{is_job_broken, is_lost, is_same_line}
use Rattle.tp_event_rules.specs.Moments.{is_to_tray, release_until}
use Rattle.tp_event_rules.specs.States.{SessionState}
use Rattle.tp_event_rules.proofs.AnsweredPlans.{IsUnmoved, mine-is, unmoved-sheet}
use Rattle.tp_event_rules.proofs.TestFacts.{filter-map_same, map-map_same}
use Rattle.tp_event_rules.proofs.PlanCounts.{count-without, count-change, lost-without}
use Rattle.tp_outage_laws.proofs.ListCounts.{count-map}
use Rattle.tp_outage_laws.proofs.Falls.{Outset, is_sheet_in, Falls, IsPending, IsPlanned, is_open, none_breaks, open_of}
use Rattle.tp_outage_laws.proofs.KeptPoints.{ends-back, low-stays}
use Rattle.tp_outage_laws.proofs.LooseAsks.{IsAskOf, cases, from-before, kept, mine-sheet, mine-there, new-ends, planned-flying, planned_plans, sheet-is}

module _ (s : SessionState) (t : ℕ) (c : SheetId) where
  lost-change : (l : List Plan) → map (λ p. p.sheet) (filter (is_lost s) (change_plan c (release_until t) l)) ≡ map (λ p. p.sheet) (filter (is_lost s) l)
  lost-change [] = refl
  lost-change (x ∷ l) = go (is_same_copy x.sheet c) (lost-change l) where
    go : (b : Bool) → map (λ p. p.sheet) (filter (is_lost s) (change_plan c (release_until t) l)) ≡ map (λ p. p.sheet) (filter (is_lost s) l)
        → map (λ p. p.sheet) (filter (is_lost s) (cond b (release_until t x ∷ l) (x ∷ change_plan c (release_until t) l))) ≡ map (λ p. p.sheet) (filter (is_lost s) (x ∷ l))
    go true rest = one (is_lost s x) where
      one : (k : Bool) → map (λ (p : Plan). p.sheet) (cond k (release_until t x ∷ filter (is_lost s) l) (filter (is_lost s) l)) ≡ map (λ (p : Plan). p.sheet) (cond k (x ∷ filter (is_lost s) l) (filter (is_lost s) l))
      one true = refl
      one false = refl
    go false rest = two (is_lost s x) where
      two : (k : Bool) → map (λ (p : Plan). p.sheet) (cond k (x ∷ filter (is_lost s) (change_plan c (release_until t) l)) (filter (is_lost s) (change_plan c (release_until t) l))) ≡ map (λ (p : Plan). p.sheet) (cond k (x ∷ filter (is_lost s) l) (filter (is_lost s) l))
      two true = ap (λ m. x.sheet ∷ m) rest
      two false = rest

  lost-unmoved : (l : List Plan) → map (λ p. p.sheet) (filter (is_lost s) l) ≡ map (λ p. p.sheet) (filter (is_lost s) (map unmoved l))
  lost-unmoved l = sym (ap (map (λ (p : Plan). p.sheet)) (filter-map_same (is_lost s) unmoved (λ p. refl) l) ∙ map-map_same (λ p. p.sheet) unmoved (λ p. refl) (filter (is_lost s) l))

-- where a plan comes from
record IsFrom (s : SessionState) (q p : Plan) : Type 0 where
  sheet : q.sheet ≡ p.sheet
  goal : q.goal ≡ p.goal
  name : q.name ≡ p.name
  first : point p 0 ≤ s.now → point q 0 ≤ s.now
  ends : end_of_plan q ≤ s.now → end_of_plan p ≤ s.now
  kind : is_front q.kind ≡ true → is_front p.kind ≡ true
  last : is_front p.kind ≡ false → point p (length p.acts - 1) ≤ s.now → (is_front q.kind ≡ false) × (point q (length q.acts - 1) ≤ s.now)
  lost : is_lost s p ≡ true → is_front p.kind ≡ true → is_front q.kind ≡ true

module _ (machine : Machine) (base : Outset) (s : SessionState) (f : Falls machine base none_breaks s []) (ask : Ask) (of : IsAskOf machine s ask)
    (plans' : List Plan) (a : IsAlternative machine s.plans ask plans') (same_now : ask.now ≡ s.now) where
  mine-kept : IsFrom s (release_until (s.now + machine.lead) a.plan) of.p
  mine-kept =
      let planned : plan_of of.p.sheet plans' ≡ Some a.plan = subst (λ c. plan_of c plans' ≡ Some a.plan) (sym (sheet-is machine s ask f.mid of)) a.planned in
      record {
        sheet = a.answers.sheet ∙ sym (sheet-is machine s ask f.mid of);
        goal = a.answers.goal ∙ sym (ap (λ (x : Ask). x.goal) of.is);
        name = a.answers.name ∙ sym (ap (λ (x : Ask). x.name) of.is);
        first = λ low. let stays : point a.plan 0 ≡ point of.p 0 = a.fixed of.p a.plan of.there planned 0 (rw of.front refl) (omega arith) in omega arith;
        ends = λ past. absurd (let above = new-ends machine s ask f.mid of plans' a same_now in omega arith);
        kind = λ front. absurd (let whole : is_front a.plan.kind ≡ false = ap is_front a.answers.whole in cc);
        last = λ whole low. absurd (let front = of.front in cc);
        lost = λ lost front. absurd (let not_lost = of.not_lost in cc);
      }

  other-kept : (q p : Plan) → Contains s.plans p → Contains plans' q → is_same_copy q.sheet ask.sheet ≡ false → IsUnmoved q p → IsFrom s q p
  other-kept q p in' in'' differs u =
      let k = kept machine s ask f.mid of plans' a same_now p q in' in'' differs u in
      let some : 0 < length p.acts = k.timed.some in
      let acts : length q.acts ≡ length p.acts = ap (λ (x : Plan). length x.acts) u.is in
      record {
        sheet = unmoved-sheet q p u;
        goal = ap (λ (x : Plan). x.goal) u.is;
        name = ap (λ (x : Plan). x.name) u.is;
        first = λ low. let same = low-stays machine s.now p q k 0 some low in omega arith;
        ends = ends-back machine s.now p q k;
        kind = λ front. ap (λ (x : Plan). is_front x.kind) (sym u.is) ∙ front;
        last = λ whole low.
            let same = low-stays machine s.now p q k (length p.acts - 1) (omega arith) low in
            let at : point q (length q.acts - 1) ≡ point q (length p.acts - 1) = ap (λ n. point q (n - 1)) acts in
            (ap (λ (x : Plan). is_front x.kind) u.is ∙ whole, omega arith);
        lost = λ lost front. ap (λ (x : Plan). is_front x.kind) u.is ∙ front;
      }

  abbrev plans'' : List Plan
  plans'' = planned_plans machine s ask f.mid of plans' a same_now

  from : (q : Plan) → Contains plans'' q → (p : Plan) × Contains s.plans p × IsFrom s q p
  from q in' = elim (cases machine s ask f.mid of plans' a same_now q in') [
    | inl other ↦
        let p = from-before machine s ask f.mid of plans' a same_now q other.0 other.1 in
        (p.0, p.1, other-kept q p.0 p.1 other.0 other.1 p.2)
    | inr mine ↦
        let is : mine.0 ≡ a.plan = mine-is machine s.plans ask plans' a mine.0 mine.1 mine.2 in
        (of.p, of.there, subst (λ x. IsFrom s x of.p) (sym (mine.3 ∙ ap (release_until (s.now + machine.lead)) is)) mine-kept)
  ]

  open-is : (q p : Plan) → IsFrom s q p → is_open s q ≡ is_open s p
  open-is q p i = (λ k. not (list_any (is_same_copy (i.sheet k)) s.lost) && is_to_tray (i.goal k))

  lost-is : (q p : Plan) → IsFrom s q p → is_lost s q ≡ is_lost s p
  lost-is q p i = ap (λ c. list_any (is_same_copy c) s.lost) i.sheet

  own-is : (q p : Plan) → IsFrom s q p → is_of_its_job base.jobs q ≡ is_of_its_job base.jobs p
  own-is q p i = (λ k. is_known base.jobs (i.sheet k) && bytes_eq (i.name k) (job_name base.jobs (i.sheet k).job) && is_own_goal (i.goal k) (tray_of base.jobs (i.sheet k)).0)

  of-same : is_same_copy of.p.sheet ask.sheet ≡ true
  of-same = subst (λ c. is_same_copy of.p.sheet c ≡ true) (sheet-is machine s ask f.mid of) (same_copy-refl of.p.sheet)

  counts : (j n : ℕ) → count_by (open_of s j n) plans'' ≡ count_by (open_of s j n) s.plans
  counts j n =
      let changed = count-change ask.sheet (release_until (s.now + machine.lead)) (open_of s j n) (λ p. refl) plans' in
      let new = count-without (open_of s j n) ask.sheet plans' a.plan a.legal.in_order (mine-there machine s ask f.mid of plans' a same_now) (mine-sheet machine s ask f.mid of plans' a same_now) in
      let old = count-without (open_of s j n) ask.sheet s.plans of.p f.mid.plans.legal.in_order of.there of-same in
      let rest : count_by (open_of s j n) (without ask.sheet plans') ≡ count_by (open_of s j n) (without ask.sheet s.plans) =
      sym (count-map (open_of s j n) unmoved (without ask.sheet plans')) ∙ ap (count_by (open_of s j n)) a.others ∙ count-map (open_of s j n) unmoved (without ask.sheet s.plans) in
      let mine : cond {A = ℕ} (open_of s j n a.plan) 1 0 ≡ cond {A = ℕ} (open_of s j n of.p) 1 0 =
      (λ k. cond {A = ℕ} (not (list_any (is_same_copy (mine-kept.sheet k)) s.lost) && is_to_tray (mine-kept.goal k) && is_copy_of j n (mine-kept.sheet k)) 1 0) in
      omega arith

  lost-sheets : map (λ p. p.sheet) (filter (is_lost s) plans'') ≡ map (λ p. p.sheet) (filter (is_lost s) s.plans)
  lost-sheets =
      lost-change s (s.now + machine.lead) ask.sheet plans'
      ∙ ap (map (λ (p : Plan). p.sheet)) (sym (lost-without (is_lost s) ask.sheet plans' (All-from_contains (λ p. is_same_copy p.sheet ask.sheet ≡ true → is_lost s p ≡ false) plans' (λ q in' same.
      subst (λ c. list_any (is_same_copy c) s.lost ≡ false) (sheet-is machine s ask f.mid of ∙ sym (same_copy-is q.sheet ask.sheet same)) of.not_lost))))
      ∙ lost-unmoved s 0 ask.sheet (without ask.sheet plans')
      ∙ ap (λ l. map (λ (p : Plan). p.sheet) (filter (is_lost s) l)) a.others
      ∙ sym (lost-unmoved s 0 ask.sheet (without ask.sheet s.plans))
      ∙ ap (map (λ (p : Plan). p.sheet)) (lost-without (is_lost s) ask.sheet s.plans (All-from_contains (λ p. is_same_copy p.sheet ask.sheet ≡ true → is_lost s p ≡ false) s.plans (λ q in' same.
      subst (λ c. list_any (is_same_copy c) s.lost ≡ false) (sheet-is machine s ask f.mid of ∙ sym (same_copy-is q.sheet ask.sheet same)) of.not_lost)))

  abbrev pub state_planned : SessionState
  state_planned = record s { plans = planned_plans machine s ask f.mid of plans' a same_now }

  plan : (q : Plan) → ((p : Plan) × Contains s.plans p × IsFrom s q p) → IsPlanned base state_planned q
  plan q (p, there, k) =
      let i = f.planned p there in
      record {
        own = own-is q p k ∙ i.own;
        sheet = subst (λ c. is_sheet_in base c ≡ true) (sym k.sheet) i.sheet;
        purge = λ g. k.first (i.purge (ap is_to_tray (sym k.goal) ∙ g));
        broken = λ o b.
            let was = i.broken (sym (open-is q p k) ∙ o) (subst (λ c. is_job_broken s.jobs c.job ≡ true) k.sheet b) in
            k.last was.0 was.1;
        lost = λ l. let was : is_lost s p ≡ true = sym (lost-is q p k) ∙ l in k.lost was (i.lost was);
      }

  pub falls-planned : IsPlannable machine state_planned → Falls machine base none_breaks state_planned []
  falls-planned can = record {
    same = f.same;
    mid = record { plans = can; flying = planned-flying machine s ask f.mid of plans' a same_now };
    in_order = f.in_order;
    waiters = λ w in'. let i = f.waiters w in' in record { known = i.known; sheet = i.sheet; whole = i.whole };
    planned = λ q in'. plan q (from q in');
    pending = f.pending;
    lost_are = lost-sheets ∙ f.lost_are;
    once = λ j n. let once = f.once j n in let same = counts j n in omega arith;
    each = λ j n known whole e wanted. let some = f.each j n known whole e wanted in let same = counts j n in omega arith;
    older_waiting = λ q w in' in'' same. let m = from q in' in subst (λ c. c.copy < w.sheet.copy) (sym m.2.sheet) (f.older_waiting m.0 w m.1 in'' (subst (λ c. is_same_sheet c w.sheet ≡ true) m.2.sheet same));
    older_pending = λ q d in' in''. absurd (omega (arith, in''.1));
    older_planned = λ q t in' in'' shut o same. let m = from q in' in let n = from t in'' in
        subst (λ c. c.copy < t.sheet.copy) (sym m.2.sheet) (subst (λ c. m.0.sheet.copy < c.copy) (sym n.2.sheet)
        (f.older_planned m.0 n.0 m.1 n.1 (sym (open-is q m.0 m.2) ∙ shut) (sym (open-is t n.0 n.2) ∙ o)
        (subst (λ c. is_same_sheet m.0.sheet c ≡ true) n.2.sheet (subst (λ c. is_same_sheet c t.sheet ≡ true) m.2.sheet same))));
    line = λ w q in' in'' o line. let m = from q in'' in
        subst (λ c. (is_before c w.sheet ≡ true) ⊎ IsPending [] w.sheet) (sym m.2.sheet) (f.line w m.0 in' m.1 (sym (open-is q m.0 m.2) ∙ o) (subst (λ c. is_same_line base.jobs w.sheet c ≡ true) m.2.sheet line));
    ended_waiting = λ q w in' o past in'' line. let m = from q in' in
        subst (λ c. is_before c w.sheet ≡ true) (sym m.2.sheet)
        (f.ended_waiting m.0 w m.1 (sym (open-is q m.0 m.2) ∙ o) (m.2.ends past) in'' (subst (λ c. is_same_line base.jobs w.sheet c ≡ true) m.2.sheet line));
    ended_pending = λ q d in' o past in''. absurd (omega (arith, in''.1));
    ended_front = λ q t in' o past in'' o' front line. let m = from q in' in let n = from t in'' in
        subst (λ c. is_before c t.sheet ≡ true) (sym m.2.sheet) (subst (λ c. is_before m.0.sheet c ≡ true) (sym n.2.sheet)
        (f.ended_front m.0 n.0 m.1 (sym (open-is q m.0 m.2) ∙ o) (m.2.ends past) n.1 (sym (open-is t n.0 n.2) ∙ o') (n.2.kind front)
        (subst (λ c. is_same_line base.jobs n.0.sheet c ≡ true) m.2.sheet (subst (λ c. is_same_line base.jobs c q.sheet ≡ true) n.2.sheet line))));
  }
