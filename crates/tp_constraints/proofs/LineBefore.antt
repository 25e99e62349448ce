-- One gap makes a plan end after all others of its line.
use Rattle.std.proofs.Common.{◌≡◌, ℕ, true, false, not, List, [], ◌∷◌, ◌++◌, arith, All, AllPairs, get_or, subst, sym}
use Rattle.std.specs.Prelude.{pos}
use Rattle.std.proofs.lemmas.Bool.{and_from, and_parts}
use Rattle.std.proofs.lemmas.Bool.Decides.{nat_tests}
use Rattle.std.proofs.lemmas.List.Elements.{All-append, All-cons, All-head, All-nil, All-tail}
use Rattle.tp_schedule.specs.declared.parts.Plan.{Plan}
use Rattle.tp_schedule.specs.declared.parts.Goal.{Goal}
use Rattle.tp_schedule.specs.declared.parts.Goal.TheVariants.{Tray, Purge}
use Rattle.tp_schedule.specs.Plans.{is_front, goes_to, is_delivered_to}
use Rattle.tp_schedule.specs.Spots.{Ticks}
use Rattle.tp_schedule.specs.Times.{EndsBeforeAt}
use Rattle.tp_schedule.proofs.Pairs.{AllPairs-cons, AllPairs-head, AllPairs-nil, AllPairs-tail}
use Rattle.tp_constraints.specs.Gaps.{KeepsGap, KeepsGaps, end_spot, gap, is_in_line, is_same_line, line_gaps}
use Rattle.tp_constraints.proofs.LineGaps.{gaps-from_rise, line-of, rise-from_gaps}
use Rattle.tp_constraints.specs.AddedPlan.{IsLineBefore}
use Rattle.tp_constraints.specs.AddedPlan.IsLineBefore.{behind, first_of_line}

-- two plans alone
pair-rises : (t : Ticks) (p q : Plan) → EndsBeforeAt t p q → AllPairs (EndsBeforeAt t) (p ∷ q ∷ [])
pair-rises t p q ends = AllPairs-cons (EndsBeforeAt t) p (q ∷ []) (All-cons (EndsBeforeAt t p) q [] ends (All-nil (EndsBeforeAt t p))) (AllPairs-cons (EndsBeforeAt t) q [] (All-nil (EndsBeforeAt t q)) (AllPairs-nil (EndsBeforeAt t)))

ends-of : (t : Ticks) (p q : Plan) → KeepsGaps t (line_gaps (p ∷ q ∷ [])) → EndsBeforeAt t p q
ends-of t p q keeps = All-head (EndsBeforeAt t p) q [] (AllPairs-head (EndsBeforeAt t) p (q ∷ []) (rise-from_gaps t (p ∷ q ∷ []) keeps))

gap-ends : (t : Ticks) (p q : Plan) → is_same_line p q ≡ true → KeepsGap t (gap (end_spot p) (end_spot q) (pos 1)) → EndsBeforeAt t p q
gap-ends t p q same keeps = ends-of t p q (rw same (All-cons (KeepsGap t) (gap (end_spot p) (end_spot q) (pos 1)) [] keeps (All-nil (KeepsGap t))))

ends-gap : (t : Ticks) (p q : Plan) → is_same_line p q ≡ true → EndsBeforeAt t p q → KeepsGap t (gap (end_spot p) (end_spot q) (pos 1))
ends-gap t p q same ends =
    let gaps = rw same at (gaps-from_rise t (p ∷ q ∷ []) (pair-rises t p q ends)) in
    All-head (KeepsGap t) (gap (end_spot p) (end_spot q) (pos 1)) [] gaps

no-line : (t : Ticks) (p q : Plan) → is_same_line p q ≡ false → EndsBeforeAt t p q
no-line t p q other = ends-of t p q (rw other (All-nil (KeepsGap t)))

one-tray : (g : Goal) (t u : ℕ) → goes_to g t ≡ true → goes_to g u ≡ true → t ≡ u
one-tray Purge t u a b = absurd cc
one-tray (Tray x) t u a b = grind (arith, nat_tests)

-- a plan before the last of the line ends before that, and so before the plan
through : (t : Ticks) (r q p : Plan) → is_same_line q p ≡ true → EndsBeforeAt t r q → EndsBeforeAt t q p → EndsBeforeAt t r p
through t r q p same one other tray a b =
    let l = line-of q.goal p (and_parts (not (is_front q.kind)) (is_in_line q.goal p) same).1 in
    let e : l.0 ≡ tray = one-tray p.goal l.0 tray (and_parts (not (is_front p.kind)) (goes_to p.goal l.0) l.2).1 (and_parts (not (is_front p.kind)) (goes_to p.goal tray) b).1 in
    let there : is_delivered_to q tray ≡ true = and_from (not (is_front q.kind)) (goes_to q.goal tray) (and_parts (not (is_front q.kind)) (is_in_line q.goal p) same).0 (subst (λ u. goes_to q.goal u ≡ true) e l.1) in
    let x = one tray a there in
    let y = other tray there b in
    omega arith

all-through : (t : Ticks) (before : List Plan) (q p : Plan) → is_same_line q p ≡ true → All (λ r. EndsBeforeAt t r q) before → EndsBeforeAt t q p → All (λ r. EndsBeforeAt t r p) before
all-through t before q p same each last k d within = through t (get_or before k d) q p same (each k d within) last

all-other : (t : Ticks) (later : List Plan) (p : Plan) → All (λ r. is_same_line r p ≡ false) later → All (λ r. EndsBeforeAt t r p) later
all-other t later p each k d within = no-line t (get_or later k d) p (each k d within)

earlier-ends : (t : Ticks) (before later : List Plan) (q : Plan) → AllPairs (EndsBeforeAt t) (before ++ q ∷ later) → All (λ r. EndsBeforeAt t r q) before
earlier-ends t [] later q pairs = All-nil (λ r. EndsBeforeAt t r q)
earlier-ends t (r ∷ before) later q pairs =
    All-cons (λ s. EndsBeforeAt t s q) r before
    (All-head (EndsBeforeAt t r) q later (tail-of before (AllPairs-head (EndsBeforeAt t) r (before ++ q ∷ later) pairs)))
    (earlier-ends t before later q (AllPairs-tail (EndsBeforeAt t) r (before ++ q ∷ later) pairs)) where
      tail-of : (xs : List Plan) → All (EndsBeforeAt t r) (xs ++ q ∷ later) → All (EndsBeforeAt t r) (q ∷ later)
      tail-of [] all = all
      tail-of (x ∷ xs) all = tail-of xs (All-tail (EndsBeforeAt t r) x (xs ++ q ∷ later) all)

-- where the line's gap is kept, all others of the line end before the plan
pub ends-by_line : (t : Ticks) (plans : List Plan) (p : Plan) (lines : _) → IsLineBefore plans p lines → AllPairs (EndsBeforeAt t) plans → KeepsGaps t lines → All (λ q. EndsBeforeAt t q p) plans
ends-by_line t plans p lines (first_of_line none) pairs keeps = all-other t plans p none
ends-by_line t plans p lines (behind before later q is same none) pairs keeps =
    let last = gap-ends t q p same (All-head (KeepsGap t) (gap (end_spot q) (end_spot p) (pos 1)) [] keeps) in
    let each = all-through t before q p same (earlier-ends t before later q (subst (AllPairs (EndsBeforeAt t)) is pairs)) last in
    subst (All (λ r. EndsBeforeAt t r p)) (sym is) (All-append (λ r. EndsBeforeAt t r p) before (q ∷ later) each (All-cons (λ r. EndsBeforeAt t r p) q later last (all-other t later p none)))

-- and then the gap is kept
pub line-by_ends : (t : Ticks) (plans : List Plan) (p : Plan) (lines : _) → IsLineBefore plans p lines → All (λ q. EndsBeforeAt t q p) plans → KeepsGaps t lines
line-by_ends t plans p lines (first_of_line none) each = All-nil (KeepsGap t)
line-by_ends t plans p lines (behind before later q is same none) each =
    All-cons (KeepsGap t) (gap (end_spot q) (end_spot p) (pos 1)) [] (ends-gap t q p same (at-place before (subst (All (λ r. EndsBeforeAt t r p)) is each))) (All-nil (KeepsGap t)) where
      at-place : (xs : List Plan) → All (λ r. EndsBeforeAt t r p) (xs ++ q ∷ later) → EndsBeforeAt t q p
      at-place [] all = All-head (λ r. EndsBeforeAt t r p) q later all
      at-place (x ∷ xs) all = at-place xs (All-tail (λ r. EndsBeforeAt t r p) x (xs ++ q ∷ later) all)
