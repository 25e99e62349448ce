-- The steps of durations and of lines are those of the gaps that a schedule's ticks leave no room.
use Rattle.std.proofs.Common.{◌≡◌, ◌⊎◌, inl, inr, ℕ, zero, suc, ◌+◌, ◌<◌, ◌≤◌, ◌==◌, Bool, true, false, cond, List, [], ◌∷◌, ◌++◌, length, find, flat_map, get_or, slice_get, refl, sym, subst, arith, eqb-true, All, Contains, Option, Some, None}
use Rattle.std.specs.Prelude.{pos, neg_ℤ, ◌+ℤ◌}
use Rattle.std.proofs.lemmas.Bool.Decides.{nat_tests}
use Rattle.std.proofs.lemmas.Int.{ints}
use Rattle.std.proofs.lemmas.List.{append-nil}
use Rattle.std.proofs.lemmas.List.Concat.{flat_map-append}
use Rattle.std.proofs.lemmas.List.Elements.{All-append, All-cons, All-contains, All-head, All-nil, All-tail, All-weaker, Contains-append_left, Contains-append_right}
use Rattle.tp_machine.specs.ModuleUse.{action_at}
use Rattle.tp_machine.specs.declared.machine.Machine.{Machine}
use Rattle.tp_machine.specs.declared.parts.ActId.{ActId}
use Rattle.tp_machine.specs.declared.parts.Action.{Action}
use Rattle.tp_schedule.specs.Plans.{end_of_plan}
use Rattle.tp_schedule.specs.Spots.{Spot, Ticks}
use Rattle.tp_schedule.specs.Spots.Spot.{kept}
use Rattle.tp_schedule.specs.declared.parts.Plan.{Plan}
use Rattle.tp_schedule.specs.declared.parts.SheetId.{SheetId}
use Rattle.tp_schedule.proofs.HeldCount.{Agrees, IsTimedBy}
use Rattle.tp_schedule.proofs.Membership.{Contains-cons_cases, Contains-here, Contains-later}
use Rattle.tp_constraints.specs.Gaps.{Gap, acts_gaps, duration_gaps, end_spot, gap, is_same_line, line_gap, line_gaps, plan_gaps, range_gaps}
use Rattle.tp_constraints.specs.Supports.{IsTight}
use Rattle.tp_schedule_check.specs.Early.{AreTightSteps, IsStepOf, IsTightStep, act_steps, acts_steps, pair_steps, plans_steps, step_to}
use Rattle.tp_schedule_check.specs.Lines.{end_of, line_of, line_pairs, next_in, pair_with}
use Rattle.tp_schedule_check.specs.declared.held.NumberedHold.{NumberedHold}
use Rattle.tp_schedule_check.specs.declared.line_ends.PlanEnd.{PlanEnd}
use Rattle.tp_schedule_check.specs.declared.marks.MarkStep.{MarkStep}
use Rattle.tp_schedule_check.proofs.LineFacts.{AllFrom, HasEnd, IsNext, found-one, next-is}

pub in-append : {X : Type 0} (xs ys : List X) (x : X) → Contains (xs ++ ys) x → Contains xs x ⊎ Contains ys x
in-append [] ys x c = inr c
in-append (y ∷ xs) ys x c = elim (Contains-cons_cases y (xs ++ ys) x c) [
  | inl e ↦ inl (subst (Contains (y ∷ xs)) e (Contains-here y xs))
  | inr later ↦ elim (in-append xs ys x later) [ inl a ↦ inl (Contains-later y xs x a) | inr b ↦ inr b ]
]

-- the points of a plan stand in the table from its number on, and those of a hold by their numbers
abbrev pub StandsAt : List Spot → Plan → ℕ → Type 0
StandsAt table p n = (i j : ℕ) → j ≡ n + i → i ≤ length p.acts → slice_get table j ≡ Some (kept p.sheet i)

abbrev pub IsNumbered : List Spot → NumberedHold → Type 0
IsNumbered table h = (slice_get table h.from ≡ Some (kept h.hold.sheet h.at)) × (slice_get table h.to ≡ Some (kept h.hold.sheet h.hold.act))

module _ (table : List Spot) (t : Ticks) where
  abbrev Are : List Gap → List MarkStep → Type 0
  Are = AreTightSteps table t

  more-gaps : (gs hs : List Gap) → ((g : Gap) → Contains gs g → Contains hs g) → (s : MarkStep) → IsTightStep table t gs s → IsTightStep table t hs s
  more-gaps gs hs there s is = record { by = is.by; among = there is.by is.among; tight = is.tight; of = is.of }

  none : Are [] []
  none = record { sound = All-nil (IsTightStep table t []); all = λ g in' tight. absurd (omega (arith, in'.1)) }

  -- gaps and steps of two kinds together, whichever steps come first
  pub both : (gs hs : List Gap) (ss rs : List MarkStep) → Are gs ss → Are hs rs → Are (gs ++ hs) (ss ++ rs)
  both gs hs ss rs one other = record {
    sound = All-append (IsTightStep table t (gs ++ hs)) ss rs
        (All-weaker (IsTightStep table t gs) (IsTightStep table t (gs ++ hs)) (more-gaps gs (gs ++ hs) (λ g c. Contains-append_left gs hs g c)) ss one.sound)
        (All-weaker (IsTightStep table t hs) (IsTightStep table t (gs ++ hs)) (more-gaps hs (gs ++ hs) (λ g c. Contains-append_right gs hs g c)) rs other.sound);
    all = λ g in' tight. elim (in-append gs hs g in') [
      | inl a ↦ let r = one.all g a tight in (r.0, Contains-append_left ss rs r.0 r.1, r.2)
      | inr b ↦ let r = other.all g b tight in (r.0, Contains-append_right ss rs r.0 r.1, r.2)
    ];
  }

  turned : (gs : List Gap) (ss rs : List MarkStep) → Are gs (ss ++ rs) → Are gs (rs ++ ss)
  turned gs ss rs is = record {
    sound = λ k d within. All-contains (IsTightStep table t gs) (ss ++ rs) (get_or (rs ++ ss) k d) is.sound (back (get_or (rs ++ ss) k d) (in-append rs ss (get_or (rs ++ ss) k d) (k, within, here (rs ++ ss) k d within)));
    all = λ g in' tight. let r = is.all g in' tight in (r.0, forth r.0 (in-append ss rs r.0 r.1), r.2);
  } where
    here : (xs : List MarkStep) (k : ℕ) (d : MarkStep) → k < length xs → get_or xs k (get_or xs k d) ≡ get_or xs k d
    here [] k d within = absurd (omega (arith, within))
    here (x ∷ xs) zero d within = refl
    here (x ∷ xs) (suc k) d within = here xs k d (omega arith)

    back : (s : MarkStep) → Contains rs s ⊎ Contains ss s → Contains (ss ++ rs) s
    back s (inl a) = Contains-append_right ss rs s a
    back s (inr b) = Contains-append_left ss rs s b

    forth : (s : MarkStep) → Contains ss s ⊎ Contains rs s → Contains (rs ++ ss) s
    forth s (inl a) = Contains-append_right rs ss s a
    forth s (inr b) = Contains-append_left rs ss s b

  -- one gap, by a test
  one-gap : (g : Gap) (s : MarkStep) (b : Bool) → (b ≡ true → IsTight t g) → (IsTight t g → b ≡ true) → IsStepOf table g s → Are (g ∷ []) (cond b (s ∷ []) [])
  one-gap g s true to back of = record {
    sound = All-cons (IsTightStep table t (g ∷ [])) s [] (record { by = g; among = Contains-here g []; tight = to refl; of = of }) (All-nil (IsTightStep table t (g ∷ [])));
    all = λ h in' tight. elim (Contains-cons_cases g [] h in') [ inl e ↦ (s, Contains-here s [], subst (λ x. IsStepOf table x s) e of) | inr later ↦ absurd (omega (arith, later.1)) ];
  }
  one-gap g s false to back of = record {
    sound = All-nil (IsTightStep table t (g ∷ []));
    all = λ h in' tight. elim (Contains-cons_cases g [] h in') [ inl e ↦ absurd (differ (back (subst (IsTight t) (sym e) tight))) | inr later ↦ absurd (omega (arith, later.1)) ];
  } where
    differ : false ≡ true → ⊥
    differ f = cc

  -- ---- durations
  range : (o : Option Action) (from to : Spot) (n : ℕ) → slice_get table n ≡ Some from → slice_get table (n + 1) ≡ Some to → Are (range_gaps o from to) (act_steps o n (t from) (t to))
  range None from to n a b = none
  range (Some x) from to n a b =
      both (gap from to (pos x.least) ∷ []) (gap to from (neg_ℤ (pos x.most)) ∷ []) (cond ((t from + x.least) == t to) (step_to n (n + 1) ∷ []) []) (cond ((t from + x.most) == t to) (step_to (n + 1) n ∷ []) [])
      (one-gap (gap from to (pos x.least)) (step_to n (n + 1)) ((t from + x.least) == t to) (least (t from) x.least (t to)) (least-back (t from) x.least (t to)) (a, b))
      (one-gap (gap to from (neg_ℤ (pos x.most))) (step_to (n + 1) n) ((t from + x.most) == t to) (most (t from) x.most (t to)) (most-back (t from) x.most (t to)) (b, a))
    where
      least : (p d q : ℕ) → ((p + d) == q) ≡ true → pos p +ℤ pos d ≡ pos q
      least p d q e = let same : p + d ≡ q = grind (arith, nat_tests) in omega (arith, ints)

      least-back : (p d q : ℕ) → pos p +ℤ pos d ≡ pos q → ((p + d) == q) ≡ true
      least-back p d q e = let same : p + d ≡ q = omega (arith, ints) in grind (arith, nat_tests)

      most : (p d q : ℕ) → ((p + d) == q) ≡ true → pos q +ℤ neg_ℤ (pos d) ≡ pos p
      most p d q e = let same : p + d ≡ q = grind (arith, nat_tests) in omega (arith, ints)

      most-back : (p d q : ℕ) → pos q +ℤ neg_ℤ (pos d) ≡ pos p → ((p + d) == q) ≡ true
      most-back p d q e = let same : p + d ≡ q = omega (arith, ints) in grind (arith, nat_tests)

  acts-are : (machine : Machine) (sheet : SheetId) (at n : ℕ) (acts : List ActId) (points : List ℕ) → length points ≡ length acts + 1 → Agrees t sheet at points
      → ((i j k : ℕ) → j ≡ n + i → k ≡ at + i → i ≤ length acts → slice_get table j ≡ Some (kept sheet k)) → Are (acts_gaps machine sheet at acts) (acts_steps machine n acts points)
  acts-are machine sheet at n [] points e agrees stands = none
  acts-are machine sheet at n (act ∷ acts) [] e agrees stands = absurd (omega arith)
  acts-are machine sheet at n (act ∷ acts) (start ∷ []) e agrees stands = absurd (omega arith)
  acts-are machine sheet at n (act ∷ acts) (start ∷ end ∷ points) e agrees stands =
      let first : t (kept sheet at) ≡ start = agrees 0 at (omega arith) (omega arith) in
      let second : t (kept sheet (suc at)) ≡ end = agrees 1 (suc at) (omega arith) (omega arith) in
      both (range_gaps (action_at machine act.0) (kept sheet at) (kept sheet (suc at))) (acts_gaps machine sheet (suc at) acts) (act_steps (action_at machine act.0) n start end) (acts_steps machine (n + 1) acts (end ∷ points))
      (subst (λ a. Are (range_gaps (action_at machine act.0) (kept sheet at) (kept sheet (suc at))) (act_steps (action_at machine act.0) n a end)) first
      (subst (λ b. Are (range_gaps (action_at machine act.0) (kept sheet at) (kept sheet (suc at))) (act_steps (action_at machine act.0) n (t (kept sheet at)) b)) second
      (range (action_at machine act.0) (kept sheet at) (kept sheet (suc at)) n (stands 0 n at (omega arith) (omega arith) (omega arith)) (stands 1 (n + 1) (suc at) (omega arith) (omega arith) (omega arith)))))
      (acts-are machine sheet (suc at) (n + 1) acts (end ∷ points) (omega arith) (λ i j is within. agrees (suc i) j (omega arith) (omega arith))
      (λ i j k is is' le. stands (suc i) j k (omega arith) (omega arith) (omega arith)))

  pub durations-are : (machine : Machine) (n : ℕ) (plans : List Plan) → All (IsTimedBy t) plans → AllFrom (StandsAt table) n plans → Are (duration_gaps machine plans) (plans_steps machine n plans)
  durations-are machine n [] timed stands = none
  durations-are machine n (p ∷ plans) timed stands =
      let by : IsTimedBy t p = All-head (IsTimedBy t) p plans timed in
      both (plan_gaps machine p) (duration_gaps machine plans) (acts_steps machine n p.acts p.points) (plans_steps machine (n + (length p.acts + 1)) plans)
      (acts-are machine p.sheet 0 n p.acts p.points by.0 by.1 (λ i j k is is' le. let same : i ≡ k = omega arith in subst (λ x. slice_get table j ≡ Some (kept p.sheet x)) same (stands.0 i j is le)))
      (durations-are machine (n + (length p.acts + 1)) plans (All-tail (IsTimedBy t) p plans timed) stands.1)

  -- ---- lines
  line-one : (p : Plan) (n : ℕ) (o : Option Plan) (e : Option PlanEnd) → IsNext (StandsAt table) o e → StandsAt table p n → HasEnd t p → ((q : Plan) → o ≡ Some q → HasEnd t q) → Are (line_gap p o) (flat_map pair_steps (pair_with (end_of n p) e))
  line-one p n None None next stands at each = none
  line-one p n None (Some e) next stands at each = absurd next
  line-one p n (Some q) None next stands at each = absurd next
  line-one p n (Some q) (Some e) next stands at each =
      let is : e ≡ end_of next.0 q = next.2 in
      let at-q : HasEnd t q = each q refl in
      subst (λ x. Are (gap (end_spot p) (end_spot q) (pos 1) ∷ []) (flat_map pair_steps ((end_of n p, x) ∷ []))) (sym is)
      (subst (Are (gap (end_spot p) (end_spot q) (pos 1) ∷ [])) (sym (append-nil (pair_steps (end_of n p, end_of next.0 q))))
      (one-gap (gap (end_spot p) (end_spot q) (pos 1)) (step_to (n + length p.acts) (next.0 + length q.acts)) ((end_of_plan p + 1) == end_of_plan q)
      (λ f. let same : end_of_plan p + 1 ≡ end_of_plan q = eqb-true (end_of_plan p + 1) (end_of_plan q) f in omega (arith, ints, at, at-q, same))
      (λ tight. let same : end_of_plan p + 1 ≡ end_of_plan q = omega (arith, ints, at, at-q, tight) in grind (arith, nat_tests))
      (stands (length p.acts) (n + length p.acts) refl (omega arith), next.1 (length q.acts) (next.0 + length q.acts) refl (omega arith))))

  pub lines-are : (n : ℕ) (plans : List Plan) → All (HasEnd t) plans → AllFrom (StandsAt table) n plans → Are (line_gaps plans) (flat_map pair_steps (line_pairs n plans))
  lines-are n [] at stands = none
  lines-are n (p ∷ plans) at stands =
      let m = n + (length p.acts + 1) in
      let next = next_in (line_of p.kind p.goal) m plans in
      subst (Are (line_gap p (find (is_same_line p) plans) ++ line_gaps plans)) (sym (flat_map-append pair_steps (line_pairs m plans) (pair_with (end_of n p) next)))
      (turned (line_gap p (find (is_same_line p) plans) ++ line_gaps plans) (flat_map pair_steps (pair_with (end_of n p) next)) (flat_map pair_steps (line_pairs m plans))
      (both (line_gap p (find (is_same_line p) plans)) (line_gaps plans) (flat_map pair_steps (pair_with (end_of n p) next)) (flat_map pair_steps (line_pairs m plans))
      (line-one p n (find (is_same_line p) plans) next (next-is (StandsAt table) p m plans stands.1) stands.0 (All-head (HasEnd t) p plans at)
      (λ q e. All-contains (HasEnd t) plans q (All-tail (HasEnd t) p plans at) (found-one (is_same_line p) plans q e).0))
      (lines-are m plans (All-tail (HasEnd t) p plans at) stands.1)))
