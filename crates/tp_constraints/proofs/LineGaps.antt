-- The ends of whole plans to a tray rise exactly where the gaps of the lines are kept.
use Rattle.std.proofs.Common.{◌≡◌, ℕ, ◌<◌, Bool, true, false, cond, not, List, [], ◌∷◌, refl, arith, All, AllPairs, get_or, Some, find, subst}
use Rattle.std.specs.Prelude.{◌≤ℤ◌, ◌+ℤ◌, pos, ◌==◌}
use Rattle.std.proofs.lemmas.Bool.{and_from, and_parts}
use Rattle.std.proofs.lemmas.List.Elements.{All-nil, All-cons, All-head, All-tail, All-append}
use Rattle.std.proofs.lemmas.Int.{ints}
use Rattle.std.proofs.lemmas.Bool.Decides.{nat_tests}
use Rattle.tp_schedule.specs.declared.parts.Plan.{Plan}
use Rattle.tp_schedule.specs.declared.parts.Goal.{Goal}
use Rattle.tp_schedule.specs.declared.parts.Goal.TheVariants.{Tray, Purge}
use Rattle.tp_schedule.specs.Plans.{is_front, goes_to, is_delivered_to}
use Rattle.tp_schedule.specs.Spots.{Ticks}
use Rattle.tp_schedule.specs.Times.{EndsBeforeAt}
use Rattle.tp_schedule.proofs.Pairs.{AllPairs-head, AllPairs-tail, AllPairs-nil, AllPairs-cons}
use Rattle.tp_constraints.specs.Gaps.{KeepsGap, KeepsGaps, gap, end_spot, line_gap, line_gaps, is_in_line, is_same_line}
use Rattle.tp_constraints.proofs.Lists.{All-split}

-- where the second plan is of the line of the first, the first ends before it
abbrev Ends : Ticks → Plan → Plan → Type 0
Ends t p q = is_same_line p q ≡ true → t (end_spot p) < t (end_spot q)

-- a plan is in the line of a goal exactly where the goal is a tray to which it is delivered
pub in-line : (g : Goal) (p : Plan) (tray : ℕ) → goes_to g tray ≡ true → is_delivered_to p tray ≡ true → is_in_line g p ≡ true
in-line Purge p tray e there = absurd cc
in-line (Tray x) p tray e there = let same : x.0 ≡ tray = grind (arith, nat_tests) in rw same there

pub line-of : (g : Goal) (p : Plan) → is_in_line g p ≡ true → (tray : ℕ) × (goes_to g tray ≡ true) × (is_delivered_to p tray ≡ true)
line-of Purge p e = absurd cc
line-of (Tray x) p e = (x.0, itself x.0, e) where
  itself : (u : ℕ) → (u == u) ≡ true
  itself u = grind (arith, nat_tests)

-- two plans are of one line exactly where they are delivered to one tray
same-to : (p q : Plan) (tray : ℕ) → is_delivered_to p tray ≡ true → is_delivered_to q tray ≡ true → is_same_line p q ≡ true
same-to p q tray a b =
    and_from (not (is_front p.kind)) (is_in_line p.goal q) (and_parts (not (is_front p.kind)) (goes_to p.goal tray) a).0 (in-line p.goal q tray (and_parts (not (is_front p.kind)) (goes_to p.goal tray) a).1 b)

same-from : (p q : Plan) → is_same_line p q ≡ true → (tray : ℕ) × (is_delivered_to p tray ≡ true) × (is_delivered_to q tray ≡ true)
same-from p q e =
    let l = line-of p.goal q (and_parts (not (is_front p.kind)) (is_in_line p.goal q) e).1 in
    (l.0, and_from (not (is_front p.kind)) (goes_to p.goal l.0) (and_parts (not (is_front p.kind)) (is_in_line p.goal q) e).0 l.1, l.2)

one-tray : (g : Goal) (t u : ℕ) → goes_to g t ≡ true → goes_to g u ≡ true → t ≡ u
one-tray Purge t u a b = absurd cc
one-tray (Tray x) t u a b = grind (arith, nat_tests)

same_line-trans : (p q r : Plan) → is_same_line p q ≡ true → is_same_line p r ≡ true → is_same_line q r ≡ true
same_line-trans p q r a b =
    let x = same-from p q a in
    let y = same-from p r b in
    let same : y.0 ≡ x.0 = one-tray p.goal y.0 x.0 (and_parts (not (is_front p.kind)) (goes_to p.goal y.0) y.1).1 (and_parts (not (is_front p.kind)) (goes_to p.goal x.0) x.1).1 in
    same-to q r x.0 x.2 (subst (λ tray. is_delivered_to r tray ≡ true) same y.2)

-- the gap to the next plan of a line gives all later ones, since later ends rise
line-head : (t : Ticks) (p : Plan) (plans : List Plan) → KeepsGaps t (line_gap p (find (is_same_line p) plans)) → AllPairs (Ends t) plans → All (Ends t p) plans
line-head t p [] keeps pairs = All-nil (Ends t p)
line-head t p (q ∷ plans) keeps pairs = go (is_same_line p q) refl keeps (line-head t p plans) where
  go : (b : Bool) → is_same_line p q ≡ b → KeepsGaps t (line_gap p (cond b (Some q) (find (is_same_line p) plans))) → (KeepsGaps t (line_gap p (find (is_same_line p) plans)) → AllPairs (Ends t) plans → All (Ends t p) plans) → All (Ends t p) (q ∷ plans)
  go true e keeps' rest =
      let first : (pos (t (end_spot p)) +ℤ pos 1) ≤ℤ pos (t (end_spot q)) = All-head (KeepsGap t) (gap (end_spot p) (end_spot q) (pos 1)) [] keeps' in
      let below : t (end_spot p) < t (end_spot q) = omega (arith, ints) in
      All-cons (Ends t p) q plans (λ _. below) (λ k d within same. let later : t (end_spot q) < t (end_spot (get_or plans k d)) = AllPairs-head (Ends t) q plans pairs k d within (same_line-trans p q (get_or plans k d) e same) in omega arith)
  go false e keeps' rest = All-cons (Ends t p) q plans (λ same. absurd cc) (rest keeps' (AllPairs-tail (Ends t) q plans pairs))

ends-from_gaps : (t : Ticks) (plans : List Plan) → KeepsGaps t (line_gaps plans) → AllPairs (Ends t) plans
ends-from_gaps t [] keeps = AllPairs-nil (Ends t)
ends-from_gaps t (p ∷ plans) keeps =
    let r = All-split (KeepsGap t) (line_gap p (find (is_same_line p) plans)) (line_gaps plans) keeps in
    let rest = ends-from_gaps t plans r.1 in
    AllPairs-cons (Ends t) p plans (line-head t p plans r.0 rest) rest

first-gap : (t : Ticks) (p : Plan) (plans : List Plan) → All (Ends t p) plans → KeepsGaps t (line_gap p (find (is_same_line p) plans))
first-gap t p [] ends = All-nil (KeepsGap t)
first-gap t p (q ∷ plans) ends = go (is_same_line p q) refl (first-gap t p plans (All-tail (Ends t p) q plans ends)) where
  go : (b : Bool) → is_same_line p q ≡ b → KeepsGaps t (line_gap p (find (is_same_line p) plans)) → KeepsGaps t (line_gap p (cond b (Some q) (find (is_same_line p) plans)))
  go true e rest =
      let below : t (end_spot p) < t (end_spot q) = All-head (Ends t p) q plans ends e in
      All-cons (KeepsGap t) (gap (end_spot p) (end_spot q) (pos 1)) [] (omega (arith, ints)) (All-nil (KeepsGap t))
  go false e rest = rest

gaps-from_ends : (t : Ticks) (plans : List Plan) → AllPairs (Ends t) plans → KeepsGaps t (line_gaps plans)
gaps-from_ends t [] pairs = All-nil (KeepsGap t)
gaps-from_ends t (p ∷ plans) pairs = All-append (KeepsGap t) (line_gap p (find (is_same_line p) plans)) (line_gaps plans) (first-gap t p plans (AllPairs-head (Ends t) p plans pairs)) (gaps-from_ends t plans (AllPairs-tail (Ends t) p plans pairs))

-- the same, tray by tray
ends-is : (t : Ticks) (p q : Plan) → Ends t p q → EndsBeforeAt t p q
ends-is t p q ends tray a b = ends (same-to p q tray a b)

ends-back : (t : Ticks) (p q : Plan) → EndsBeforeAt t p q → Ends t p q
ends-back t p q ends same = let s = same-from p q same in ends s.0 s.1 s.2

pub rise-from_gaps : (t : Ticks) (plans : List Plan) → KeepsGaps t (line_gaps plans) → AllPairs (EndsBeforeAt t) plans
rise-from_gaps t plans keeps i j d before within = ends-is t (get_or plans i d) (get_or plans j d) (ends-from_gaps t plans keeps i j d before within)

pub gaps-from_rise : (t : Ticks) (plans : List Plan) → AllPairs (EndsBeforeAt t) plans → KeepsGaps t (line_gaps plans)
gaps-from_rise t plans rise = gaps-from_ends t plans (λ i j d before within. ends-back t (get_or plans i d) (get_or plans j d) (rise i j d before within))
