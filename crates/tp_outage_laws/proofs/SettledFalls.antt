-- The settling keeps what holds in the midst of an outage.
use Rattle.std.proofs.Common.{◌≡◌, ℕ, ◌-◌, ◌<◌, ◌⊎◌, true, false, List, [], map, filter, length, refl, sym, ap, ◌∙◌, arith, Contains, subst}
use Rattle.std.specs.Prelude.{count_by}
use Rattle.tp_machine.specs.declared.machine.Machine.{Machine}
use Rattle.tp_schedule.proofs.Membership.{Contains-map, Contains-map_from}
use Rattle.tp_schedule.specs.Answers.{IsRetimed, unmoved}
use Rattle.tp_schedule.specs.PlannerAnswers.{none_exempt}
use Rattle.tp_schedule.specs.Plans.{end_of_plan, is_before, is_front, point}
use Rattle.tp_schedule.specs.declared.parts.Plan.{Plan}
use Rattle.tp_event_rules.specs.StateInvariants.{is_of_its_job, is_same_sheet}
use Rattle.tp_event_rules.specs.Lines.{is_job_broken, is_lost, is_same_line}
use Rattle.tp_event_rules.specs.Moments.{is_to_tray}
use Rattle.tp_event_rules.specs.States.{SessionState}
use Rattle.tp_event_rules.proofs.AnsweredPlans.{IsUnmoved, unmoved-sheet}
use Rattle.tp_event_rules.proofs.TestFacts.{filter-map_same, map-map_same}
use Rattle.tp_outage_laws.proofs.Falls.{Outset, is_sheet_in, Falls, IsPending, IsPlanned, is_open, none_breaks, open_of}
use Rattle.tp_outage_laws.proofs.KeptPoints.{IsKept, ends-back, kept-plan, low-stays}
use Rattle.tp_outage_laws.proofs.ListCounts.{count-map}
use Rattle.tp_outage_laws.proofs.Midway.{IsFlying}

module _ (machine : Machine) (base : Outset) (s : SessionState) (f : Falls machine base none_breaks s []) (plans : List Plan) (r : IsRetimed machine s.now none_exempt s.plans plans) where
  from : (q : Plan) → Contains plans q → (p : Plan) × Contains s.plans p × IsUnmoved q p
  from q in' =
      let m = Contains-map_from unmoved s.plans (unmoved q) (subst (λ l. Contains l (unmoved q)) r.same (Contains-map unmoved plans q in')) in
      (m.0, m.1, record { is = m.2 })

  kept : (p q : Plan) → Contains s.plans p → Contains plans q → IsUnmoved q p → IsKept machine s.now p q
  kept p q in' in'' u = kept-plan machine s.now s.plans plans none_exempt p q f.mid.plans.legal r.legal f.mid.plans.floors r.floors r.fixed in' in'' refl u

  abbrev pub state_settled : SessionState
  state_settled = record s { plans = plans }

  open-is : (q p : Plan) → IsUnmoved q p → is_open s q ≡ is_open s p
  open-is q p u = ap (is_open s) u.is

  counts : (j n : ℕ) → count_by (open_of s j n) plans ≡ count_by (open_of s j n) s.plans
  counts j n = sym (count-map (open_of s j n) unmoved plans) ∙ ap (count_by (open_of s j n)) r.same ∙ count-map (open_of s j n) unmoved s.plans

  lost-sheets : (l : List Plan) → map (λ p. p.sheet) (filter (is_lost s) l) ≡ map (λ p. p.sheet) (filter (is_lost s) (map unmoved l))
  lost-sheets l = sym (ap (map (λ (p : Plan). p.sheet)) (filter-map_same (is_lost s) unmoved (λ p. refl) l) ∙ map-map_same (λ p. p.sheet) unmoved (λ p. refl) (filter (is_lost s) l))

  flies : (q : Plan) → Contains plans q → is_front q.kind ≡ true → is_lost s q ≡ false → IsFlying s.now q
  flies q in' front not_lost =
      let m = from q in' in
      let p = m.0 in
      let kind : is_front p.kind ≡ true = ap (λ (x : Plan). is_front x.kind) (sym m.2.is) ∙ front in
      let fl = f.mid.flying p m.1 kind (ap (is_lost s) (sym m.2.is) ∙ not_lost) in
      let k = kept p q m.1 in' m.2 in
      let acts : length q.acts ≡ length p.acts = ap (λ (x : Plan). length x.acts) m.2.is in
      let first : point q 0 ≡ point p 0 = k.fixed 0 (rw kind refl) (omega arith) in
      let last : point q (length p.acts) ≡ end_of_plan p = k.fixed (length p.acts) (rw kind refl) (omega arith) in
      let end : end_of_plan q ≡ point q (length p.acts) = ap (point q) acts in
      let low = fl.started in
      let high = fl.ends in
      record { started = omega arith; ends = omega arith }

  pub falls-settled : Falls machine base none_breaks state_settled []
  falls-settled = record {
    same = f.same;
    mid = record { plans = record { now_at_most = f.mid.plans.now_at_most; legal = r.legal; floors = r.floors; horizon = r.horizon }; flying = flies };
    in_order = f.in_order;
    waiters = λ w in'. let i = f.waiters w in' in record { known = i.known; sheet = i.sheet; whole = i.whole };
    planned = λ q in'. plan q (from q in') in';
    pending = f.pending;
    lost_are = lost-sheets plans ∙ ap (λ l. map (λ (p : Plan). p.sheet) (filter (is_lost s) l)) r.same ∙ sym (lost-sheets s.plans) ∙ f.lost_are;
    once = λ j n. let once = f.once j n in let same = counts j n in omega arith;
    each = λ j n known whole e wanted. let some = f.each j n known whole e wanted in let same = counts j n in omega arith;
    older_waiting = λ q w in' in'' same. let m = from q in' in subst (λ c. c.copy < w.sheet.copy) (sym (unmoved-sheet q m.0 m.2)) (f.older_waiting m.0 w m.1 in'' (subst (λ c. is_same_sheet c w.sheet ≡ true) (unmoved-sheet q m.0 m.2) same));
    older_pending = λ q d in' in''. absurd (omega (arith, in''.1));
    older_planned = λ q t in' in'' shut o same. let m = from q in' in let n = from t in'' in
        subst (λ c. c.copy < t.sheet.copy) (sym (unmoved-sheet q m.0 m.2)) (subst (λ c. m.0.sheet.copy < c.copy) (sym (unmoved-sheet t n.0 n.2))
        (f.older_planned m.0 n.0 m.1 n.1 (sym (open-is q m.0 m.2) ∙ shut) (sym (open-is t n.0 n.2) ∙ o)
        (subst (λ c. is_same_sheet m.0.sheet c ≡ true) (unmoved-sheet t n.0 n.2) (subst (λ c. is_same_sheet c t.sheet ≡ true) (unmoved-sheet q m.0 m.2) same))));
    line = λ w q in' in'' o line. let m = from q in'' in
        subst (λ c. (is_before c w.sheet ≡ true) ⊎ IsPending [] w.sheet) (sym (unmoved-sheet q m.0 m.2)) (f.line w m.0 in' m.1 (sym (open-is q m.0 m.2) ∙ o) (subst (λ c. is_same_line base.jobs w.sheet c ≡ true) (unmoved-sheet q m.0 m.2) line));
    ended_waiting = λ q w in' o past in'' line. let m = from q in' in
        subst (λ c. is_before c w.sheet ≡ true) (sym (unmoved-sheet q m.0 m.2))
        (f.ended_waiting m.0 w m.1 (sym (open-is q m.0 m.2) ∙ o) (ends-back machine s.now m.0 q (kept m.0 q m.1 in' m.2) past) in'' (subst (λ c. is_same_line base.jobs w.sheet c ≡ true) (unmoved-sheet q m.0 m.2) line));
    ended_pending = λ q d in' o past in''. absurd (omega (arith, in''.1));
    ended_front = λ q t in' o past in'' o' front line. let m = from q in' in let n = from t in'' in
        subst (λ c. is_before c t.sheet ≡ true) (sym (unmoved-sheet q m.0 m.2)) (subst (λ c. is_before m.0.sheet c ≡ true) (sym (unmoved-sheet t n.0 n.2))
        (f.ended_front m.0 n.0 m.1 (sym (open-is q m.0 m.2) ∙ o) (ends-back machine s.now m.0 q (kept m.0 q m.1 in' m.2) past) n.1 (sym (open-is t n.0 n.2) ∙ o') (ap (λ (x : Plan). is_front x.kind) (sym n.2.is) ∙ front)
        (subst (λ c. is_same_line base.jobs n.0.sheet c ≡ true) (unmoved-sheet q m.0 m.2) (subst (λ c. is_same_line base.jobs c q.sheet ≡ true) (unmoved-sheet t n.0 n.2) line))));
  } where
    plan : (q : Plan) → ((p : Plan) × Contains s.plans p × IsUnmoved q p) → Contains plans q → IsPlanned base state_settled q
    plan q (p, there, u) in' =
        let i = f.planned p there in
        let k = kept p q there in' u in
        let acts : length q.acts ≡ length p.acts = ap (λ (x : Plan). length x.acts) u.is in
        let some : 0 < length p.acts = k.timed.some in
        record {
          own = ap (is_of_its_job base.jobs) u.is ∙ i.own;
          sheet = subst (λ c. is_sheet_in base c ≡ true) (sym (unmoved-sheet q p u)) i.sheet;
          purge = λ g. let low = i.purge (ap (λ (x : Plan). is_to_tray x.goal) (sym u.is) ∙ g) in let same = low-stays machine s.now p q k 0 (omega arith) low in omega arith;
          broken = λ o b.
              let was = i.broken (sym (open-is q p u) ∙ o) (subst (λ c. is_job_broken s.jobs c.job ≡ true) (unmoved-sheet q p u) b) in
              let low = was.1 in
              let same = low-stays machine s.now p q k (length p.acts - 1) (omega arith) low in
              let at : point q (length q.acts - 1) ≡ point q (length p.acts - 1) = ap (λ n. point q (n - 1)) acts in
              (ap (λ (x : Plan). is_front x.kind) u.is ∙ was.0, omega arith);
          lost = λ l. ap (λ (x : Plan). is_front x.kind) u.is ∙ i.lost (ap (is_lost s) (sym u.is) ∙ l);
        }
