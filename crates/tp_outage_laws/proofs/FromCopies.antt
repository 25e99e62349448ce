-- What is kept of lines, sheets and broken jobs when a module goes out is what is kept in the midst of an outage.
use Rattle.std.proofs.Common.{◌≡◌, ℕ, ◌+◌, ◌<◌, ◌≤◌, inl, Bool, true, false, cond, ◌&&◌, not, List, [], ◌∷◌, map, filter, refl, sym, ap, ◌∙◌, arith, All, AllPairs, Contains, subst}
use Rattle.std.specs.Prelude.{count_by}
use Rattle.std.proofs.lemmas.Bool.{and_parts}
use Rattle.std.proofs.lemmas.Bool.Decides.{nat_tests}
use Rattle.std.proofs.lemmas.List.Elements.{All-contains, Contains-append_left, Contains-append_right}
use Rattle.tp_machine.specs.declared.machine.Machine.{Machine}
use Rattle.tp_jobs.specs.declared.parts.WaitingCopy.{WaitingCopy}
use Rattle.tp_schedule.proofs.CopyFacts.{plan_of-itself}
use Rattle.tp_schedule.proofs.Membership.{Contains-filter, Contains-filter_from, Contains-map, Contains-map_from, Contains-here, Contains-later}
use Rattle.tp_schedule.proofs.Pairs.{AllPairs-head, AllPairs-tail}
use Rattle.tp_schedule.specs.Plans.{is_front}
use Rattle.tp_schedule.specs.declared.parts.Plan.{Plan}
use Rattle.tp_schedule.specs.declared.parts.SheetId.{SheetId}
use Rattle.tp_event_rules.specs.Ready.{EntersWhereBroken}
use Rattle.tp_event_rules.specs.Seen.{HasStarted}
use Rattle.tp_event_rules.specs.Lines.{is_job_broken, is_lost}
use Rattle.tp_event_rules.specs.FallBacks.{is_copy}
use Rattle.tp_event_rules.specs.StateInvariants.{IsOlder, StandsBehind, is_copy_of, is_known, is_of_its_job, is_same_sheet, open_copies, tray_plans}
use Rattle.tp_event_rules.specs.Moments.{is_to_tray, is_tray_plan}
use Rattle.tp_event_rules.specs.States.{SessionState}
use Rattle.tp_event_rules.proofs.AskedFacts.{Apart}
use Rattle.tp_event_rules.proofs.ListFacts.{Any-contains}
use Rattle.tp_outage_laws.proofs.ListCounts.{count-filter, count-map, count-same}
use Rattle.tp_outage_laws.proofs.Falls.{HasSheets, outset_of, Falls, both-true, is_open, none_breaks, open_of, total}
use Rattle.tp_outage_laws.proofs.Midway.{IsMid}
use Rattle.tp_outage_laws.specs.Through.{KeepsCopies}
use Rattle.tp_outage_laws.proofs.Counts.{count-append, count-cons, count-one}
use Rattle.tp_outage_laws.proofs.Members.{any-contains, filter-same, lost-any}
use Rattle.tp_outage_laws.proofs.PlanFacts.{not-false}
use Rattle.tp_outage_laws.proofs.Waits.{waiting_of}

apart-count : (j n : ℕ) (l : List SheetId) → AllPairs Apart l → count_by (is_copy_of j n) l ≤ 1
apart-count j n [] pairs = omega arith
apart-count j n (c ∷ l) pairs = go (is_copy_of j n c) refl (count-cons (is_copy_of j n) c l) (apart-count j n l (AllPairs-tail Apart c l pairs)) where
  none : is_copy_of j n c ≡ true → (m : List SheetId) → ((d : SheetId) → Contains m d → is_same_sheet c d ≡ false) → count_by (is_copy_of j n) m ≡ 0
  none e [] each = refl
  none e (d ∷ m) each =
      let other : is_copy_of j n d ≡ false = differs c d e (each d (Contains-here d m)) in
      let all = count-cons (is_copy_of j n) d m in
      let zero' : cond {A = ℕ} (is_copy_of j n d) 1 0 ≡ 0 = ap (λ b. cond {A = ℕ} b 1 0) other in
      let rest = none e m (λ x i. each x (Contains-later d m x i)) in
      omega arith where
        differs : (a b : SheetId) → is_copy_of j n a ≡ true → is_same_sheet a b ≡ false → is_copy_of j n b ≡ false
        differs a b x y = grind (arith, nat_tests)

  go : (b : Bool) → is_copy_of j n c ≡ b → count_by (is_copy_of j n) (c ∷ l) ≡ cond (is_copy_of j n c) 1 0 + count_by (is_copy_of j n) l → count_by (is_copy_of j n) l ≤ 1 → count_by (is_copy_of j n) (c ∷ l) ≤ 1
  go true e all rest =
      let one : cond {A = ℕ} (is_copy_of j n c) 1 0 ≡ 1 = ap (λ b. cond {A = ℕ} b 1 0) e in
      let empty = none e l (λ d i. All-contains (Apart c) l d (AllPairs-head Apart c l pairs) i) in omega arith
  go false e all rest = let zero' : cond {A = ℕ} (is_copy_of j n c) 1 0 ≡ 0 = ap (λ b. cond {A = ℕ} b 1 0) e in omega arith

module _ (machine : Machine) (s : SessionState) (k : KeepsCopies machine s) where
  front-lost : (p : Plan) → Contains s.plans p → is_front p.kind ≡ true → is_lost s p ≡ true
  front-lost p in' front = lost-any s.lost p.sheet (subst (λ l. Contains l p.sheet) k.lines.fronts (Contains-map (λ p. p.sheet) (filter (λ p. is_front p.kind) s.plans) p (Contains-filter (λ p. is_front p.kind) s.plans p in' front)))

  lost-front : (p : Plan) → Contains s.plans p → is_lost s p ≡ true → is_front p.kind ≡ true
  lost-front p in' lost =
      let there = subst (λ l. Contains l p.sheet) (sym k.lines.fronts) (any-contains p.sheet s.lost lost) in
      let q = Contains-map_from (λ p. p.sheet) (filter (λ p. is_front p.kind) s.plans) p.sheet there in
      let r = Contains-filter_from (λ p. is_front p.kind) s.plans q.0 q.1 in
      let mine = plan_of-itself s.plans p k.plans.legal.in_order in' in
      let its = plan_of-itself s.plans q.0 k.plans.legal.in_order r.0 in
      let sheets : p.sheet ≡ q.0.sheet = q.2 in
      let one : q.0 ≡ p = cc in
      subst (λ (x : Plan). is_front x.kind ≡ true) one r.1

  lost-is : (p : Plan) → Contains s.plans p → (x : Bool) → is_front p.kind ≡ x → (y : Bool) → is_lost s p ≡ y → y ≡ x
  lost-is p in' true e true g = refl
  lost-is p in' true e false g = absurd (let l = front-lost p in' e in cc)
  lost-is p in' false e true g = absurd (let l = lost-front p in' g in cc)
  lost-is p in' false e false g = refl

  pub copies-open : (p : Plan) → Contains s.plans p → is_open s p ≡ is_tray_plan p
  copies-open p in' = ap (λ x. not x && is_to_tray p.goal) (lost-is p in' (is_front p.kind) refl (is_lost s p) refl)

  count-open : (j n : ℕ) → count_by (open_of s j n) s.plans ≡ count_by (is_copy_of j n) (map (λ p. p.sheet) (tray_plans s.plans))
  count-open j n =
      count-same (open_of s j n) (λ p. is_tray_plan p && is_copy_of j n p.sheet) s.plans (λ p in'. ap (λ x. x && is_copy_of j n p.sheet) (copies-open p in'))
      ∙ sym (count-filter (λ p. is_copy_of j n p.sheet) is_tray_plan s.plans) ∙ sym (count-map (is_copy_of j n) (λ p. p.sheet) (tray_plans s.plans))

  total-is : (j n : ℕ) → total j n s [] ≡ count_by (is_copy_of j n) (open_copies s)
  total-is j n =
      let open' = count-open j n in
      let waits = count-map (is_copy_of j n) (λ w. w.sheet) s.waiting in
      let both = count-append (is_copy_of j n) (map (λ w. w.sheet) s.waiting) (map (λ p. p.sheet) (tray_plans s.plans)) in
      omega arith

  tray-of : (p : Plan) → Contains s.plans p → is_open s p ≡ true → is_tray_plan p ≡ true
  tray-of p in' o = sym (copies-open p in') ∙ o

  line-is : (w : WaitingCopy) (p : Plan) → Contains s.waiting w → Contains s.plans p → is_open s p ≡ true → StandsBehind s.jobs w p
  line-is w p in' in'' o = All-contains (StandsBehind s.jobs w) (tray_plans s.plans) p (All-contains (λ w. All (StandsBehind s.jobs w) (tray_plans s.plans)) s.waiting w k.lines.line in') (Contains-filter is_tray_plan s.plans p in'' (tray-of p in'' o))

  older-is : (p : Plan) (c : SheetId) → Contains s.plans p → Contains (open_copies s) c → is_tray_plan p ≡ false → is_same_sheet p.sheet c ≡ true → p.sheet.copy < c.copy
  older-is p c in' there none same = All-contains (IsOlder p) (open_copies s) c (All-contains (λ p. All (IsOlder p) (open_copies s)) s.plans p k.older in') there none same

  waits-open : (w : WaitingCopy) → Contains s.waiting w → Contains (open_copies s) w.sheet
  waits-open w in' = Contains-append_left (map (λ w. w.sheet) s.waiting) (map (λ p. p.sheet) (tray_plans s.plans)) w.sheet (Contains-map (λ w. w.sheet) s.waiting w in')

  planned-open : (p : Plan) → Contains s.plans p → is_tray_plan p ≡ true → Contains (open_copies s) p.sheet
  planned-open p in' tray = Contains-append_right (map (λ w. w.sheet) s.waiting) (map (λ p. p.sheet) (tray_plans s.plans)) p.sheet (Contains-map (λ p. p.sheet) (tray_plans s.plans) p (Contains-filter is_tray_plan s.plans p in' tray))

  pub copies-mid : IsMid machine s
  copies-mid = record {
    plans = k.plans;
    flying = λ p in' front not_lost. absurd (let lost = front-lost p in' front in cc);
  }

  pub copies-fall : (is_sheet : ℕ → ℕ → Bool) (exempt : ℕ → Bool) → HasSheets (outset_of s is_sheet exempt) s → Falls machine (outset_of s is_sheet exempt) none_breaks s []
  copies-fall is_sheet exempt sheets = record {
    same = refl;
    mid = copies-mid;
    in_order = k.lines.in_order;
    waiters = λ w in'. record { known = All-contains (λ w. is_known s.jobs w.sheet ≡ true) s.waiting w k.lines.waiting_known in'; sheet = sheets.waiting w in'; whole = All-contains (λ w. is_job_broken s.jobs w.sheet.job ≡ false) s.waiting w k.broken.waiting in' };
    planned = λ p in'. record {
      own = All-contains (λ p. is_of_its_job s.jobs p ≡ true) s.plans p k.lines.plans_known in';
      sheet = sheets.planned p in';
      purge = All-contains (HasStarted s.now) s.plans p k.purges in';
      broken = λ o broken. (not-false (is_front p.kind) (and_parts (not (is_front p.kind)) (is_to_tray p.goal) (tray-of p in' o)).0, All-contains (EntersWhereBroken s.now s.jobs) s.plans p k.broken.plans in' (tray-of p in' o) broken);
      lost = lost-front p in';
    };
    pending = λ d in'. absurd (omega (arith, in'.1));
    lost_are = ap (map (λ (p : Plan). p.sheet)) (filter-same (is_lost s) (λ p. is_front p.kind) s.plans (λ p in'. lost-is p in' (is_front p.kind) refl (is_lost s p) refl)) ∙ k.lines.fronts;
    once = λ j n. let is = total-is j n in let few = apart-count j n (open_copies s) k.lines.one in omega arith;
    each = λ j n known whole e wanted.
        let is = total-is j n in
        let c = Any-contains (λ copy. is_copy_of j n copy ≡ true) (open_copies s) (sheets.each j n known whole wanted) in
        let one = count-one (is_copy_of j n) (open_copies s) c.0 c.1 c.2 in omega arith;
    older_waiting = λ p w in' in'' same. older-w p w in' in'' same (is_tray_plan p) refl;
    older_pending = λ p d in' in''. absurd (omega (arith, in''.1));
    older_planned = λ p q in' in'' shut o same. older-is p q.sheet in' (planned-open q in'' (tray-of q in'' o)) (sym (copies-open p in') ∙ shut) same;
    line = λ w p in' in'' o line. inl (line-is w p in' in'' o line);
    ended_waiting = λ p w in' o past in'' line. line-is w p in'' in' o line;
    ended_pending = λ p d in' o past in''. absurd (omega (arith, in''.1));
    ended_front = λ p q in' o past in'' o' front line. absurd (let lost = front-lost q in'' front in let copy = not-false (is_lost s q) (and_parts (is_copy s q) (is_to_tray q.goal) o').0 in cc);
  } where
    of-copy' : (a c : SheetId) → is_same_sheet a c ≡ true → is_copy_of c.job c.number a ≡ true
    of-copy' a c e = grind (arith, nat_tests)

    own' : (a : SheetId) → is_copy_of a.job a.number a ≡ true
    own' a = grind (arith, nat_tests)

    older-w : (p : Plan) (w : WaitingCopy) → Contains s.plans p → Contains s.waiting w → is_same_sheet p.sheet w.sheet ≡ true → (t : Bool) → is_tray_plan p ≡ t → p.sheet.copy < w.sheet.copy
    older-w p w in' in'' same false e = older-is p w.sheet in' (waits-open w in'') e same
    older-w p w in' in'' same true e = absurd (
        let is = total-is w.sheet.job w.sheet.number in
        let few = apart-count w.sheet.job w.sheet.number (open_copies s) k.lines.one in
        let one = count-one (waiting_of w.sheet.job w.sheet.number) s.waiting w in'' (own' w.sheet) in
        let other = count-one (open_of s w.sheet.job w.sheet.number) s.plans p in' (both-true (is_open s p) _ (copies-open p in' ∙ e) (of-copy' p.sheet w.sheet same)) in
        omega arith)
