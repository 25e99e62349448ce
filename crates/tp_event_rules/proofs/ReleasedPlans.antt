-- Releases: a plan with more actions released is what is left of it, and after a move of the clock each unreleased start is
-- above the new moment and the lead.
use Rattle.std.proofs.Common.{◌≡◌, ℕ, zero, suc, ◌+◌, ◌<◌, ◌≤◌, Bool, true, false, cond, ◌&&◌, List, [], ◌∷◌, length, filter, refl, ap, arith, Contains, slice_index, nat_le, nat_lt}
use Rattle.std.specs.Prelude.{◌||◌}
use Rattle.std.proofs.lemmas.Bool.Decides.{nat_tests}
use Rattle.tp_machine.specs.declared.parts.ActId.{ActId}
use Rattle.tp_machine.specs.declared.machine.Machine.{Machine}
use Rattle.tp_schedule.specs.Holders.{Run, runs_from}
use Rattle.tp_schedule.specs.Plans.{IsTimedPlan, is_front, is_same_copy, change_plan, point}
use Rattle.tp_schedule.specs.declared.parts.Plan.{Plan}
use Rattle.tp_schedule.specs.declared.parts.SheetId.{SheetId}
use Rattle.tp_schedule.proofs.Membership.{Contains-here, Contains-later}
use Rattle.tp_event_rules.specs.Clock.{released_until}
use Rattle.tp_event_rules.specs.Moments.{due_until, release_until}
use Rattle.tp_event_rules.proofs.LeftPlans.{IsLeft, IsLeft-refl, AreLeft, none, more}

-- the actions that are numbered above the released ones, and start early enough
abbrev pub due_from : ℕ → ℕ → SheetId → ℕ → List ActId → List ℕ → List Run
due_from released last sheet n acts points = filter (λ run. nat_lt released run.number && nat_le run.start last) (runs_from sheet n acts points)

-- no more are due than there are, and none of the released ones is
few_due : (released last : ℕ) (sheet : SheetId) (m n : ℕ) (acts : List ActId) (points : List ℕ) → n ≡ m + 1
    → (length (due_from released last sheet n acts points) ≤ length acts)
    × (m ≤ released → released ≤ m + length acts → released + length (due_from released last sheet n acts points) ≤ m + length acts)
few_due released last sheet m n [] points e = (omega arith, λ low high. omega arith)
few_due released last sheet m n (act ∷ acts) [] e = (omega arith, λ low high. omega arith)
few_due released last sheet m n (act ∷ acts) (start ∷ []) e = (omega arith, λ low high. omega arith)
few_due released last sheet m n (act ∷ acts) (start ∷ end ∷ points) e =
    go (nat_lt released n) refl (nat_le start last) (few_due released last sheet (m + 1) (n + 1) acts (end ∷ points) (omega arith)) where
      go : (b : Bool) → nat_lt released n ≡ b → (c : Bool)
          → (length (due_from released last sheet (n + 1) acts (end ∷ points)) ≤ length acts)
          × (m + 1 ≤ released → released ≤ m + 1 + length acts → released + length (due_from released last sheet (n + 1) acts (end ∷ points)) ≤ m + 1 + length acts)
          → (length (cond (b && c) (record { sheet = sheet; number = n; act = act; start = start; end = end } ∷ due_from released last sheet (n + 1) acts (end ∷ points)) (due_from released last sheet (n + 1) acts (end ∷ points))) ≤ suc (length acts))
          × (m ≤ released → released ≤ m + suc (length acts)
          → released + length (cond (b && c) (record { sheet = sheet; number = n; act = act; start = start; end = end } ∷ due_from released last sheet (n + 1) acts (end ∷ points)) (due_from released last sheet (n + 1) acts (end ∷ points))) ≤ m + suc (length acts))
      go true f true (few, rest) = let low : released < n = grind (arith, nat_tests) in (omega arith, λ from to. omega arith)
      go true f false (few, rest) = let low : released < n = grind (arith, nat_tests) in (omega arith, λ from to. omega arith)
      go false f c (few, rest) = let high : n ≤ released = grind (arith, nat_tests) in (omega arith, λ from to. let later = rest (omega arith) (omega arith) in omega arith)

pub release-within : (last : ℕ) (p : Plan) → p.released ≤ length p.acts → p.released + length (due_until last p) ≤ length p.acts
release-within last p within =
    let few = (few_due p.released last p.sheet 0 1 p.acts p.points refl).1 (omega arith) (omega arith) in omega arith

IsTimedPlan-release : (machine : Machine) (last : ℕ) (p : Plan) → IsTimedPlan machine p → IsTimedPlan machine (release_until last p)
IsTimedPlan-release machine last p timed = record {
  some = timed.some;
  at_most = timed.at_most;
  one_more = timed.one_more;
  released = release-within last p timed.released;
  start = timed.start;
  starts = timed.starts;
  end = timed.end;
  leads = timed.leads;
  rise = timed.rise;
  lasts = timed.lasts;
  ends = timed.ends;
}

-- a point that is not fixed after more releases was not before
not_fixed : (front : Bool) (released count i : ℕ) → (front || (nat_lt 0 (released + count) && nat_le i (released + count))) ≡ false → (front || (nat_lt 0 released && nat_le i released)) ≡ false
not_fixed front released count i e = grind (arith, nat_tests)

pub IsLeft-release : (machine : Machine) (last : ℕ) (p : Plan) → IsLeft machine p (release_until last p)
IsLeft-release machine last p = record {
  sheet = refl;
  timed = λ timed. IsTimedPlan-release machine last p timed;
  holds = λ resource tick. omega arith;
  runs = λ run in'. in';
  delivered = λ tray to. (to, refl);
  live = λ now e. e;
  begins = λ loc e. e;
  unreleased = λ i released within. (omega arith, within, refl);
  unfixed = λ i within e. (within, not_fixed (is_front p.kind) p.released (length (due_until last p)) i e, refl);
}

pub AreLeft-released : (machine : Machine) (to : ℕ) (plans : List Plan) → AreLeft machine plans (released_until machine to plans)
AreLeft-released machine to [] = none
AreLeft-released machine to (p ∷ plans) =
    more p (release_until (to + machine.lead) p) plans (released_until machine to plans) (IsLeft-release machine (to + machine.lead) p) (AreLeft-released machine to plans)

-- one plan changed
pub AreLeft-change_plan : (machine : Machine) (copy : SheetId) (f : Plan → Plan) (plans : List Plan)
    → ((p : Plan) → Contains plans p → is_same_copy p.sheet copy ≡ true → IsLeft machine p (f p)) → AreLeft machine plans (change_plan copy f plans)
AreLeft-change_plan machine copy f [] each = none
AreLeft-change_plan machine copy f (p ∷ plans) each =
    go (is_same_copy p.sheet copy) refl (AreLeft-change_plan machine copy f plans (λ q in'. each q (Contains-later p plans q in'))) where
      all : (plans : List Plan) → AreLeft machine plans plans
      all [] = none
      all (q ∷ plans) = more q q plans plans (IsLeft-refl machine q) (all plans)

      go : (b : Bool) → is_same_copy p.sheet copy ≡ b → AreLeft machine plans (change_plan copy f plans) → AreLeft machine (p ∷ plans) (cond b (f p ∷ plans) (p ∷ change_plan copy f plans))
      go true e rest = more p (f p) plans plans (each p (Contains-here p plans) e) (all plans)
      go false e rest = more p p plans (change_plan copy f plans) (IsLeft-refl machine p) rest

-- an action that starts early enough is released with all before it
all_due : (released last : ℕ) (sheet : SheetId) (m n i : ℕ) (acts : List ActId) (points : List ℕ) → n ≡ m + 1 → length points ≡ length acts + 1
    → ((j : ℕ) → j < length acts → slice_index points j < slice_index points (suc j)) → i < length acts → slice_index points i ≤ last
    → (m ≤ released → m + i + 1 ≤ released + length (due_from released last sheet n acts points))
    × (released ≤ m → i + 1 ≤ length (due_from released last sheet n acts points))
all_due released last sheet m n i [] points e len rise within low = absurd (omega arith)
all_due released last sheet m n i (act ∷ acts) [] e len rise within low = absurd (omega arith)
all_due released last sheet m n i (act ∷ acts) (start ∷ []) e len rise within low = absurd (omega arith)
all_due released last sheet m n zero (act ∷ acts) (start ∷ end ∷ points) e len rise within low =
    let early : nat_le start last ≡ true = grind (arith, nat_tests) in
    go (nat_lt released n) refl (nat_le start last) early where
      go : (b : Bool) → nat_lt released n ≡ b → (c : Bool) → c ≡ true
          → (m ≤ released → m + 0 + 1 ≤ released + length (cond (b && c) (record { sheet = sheet; number = n; act = act; start = start; end = end } ∷ due_from released last sheet (n + 1) acts (end ∷ points)) (due_from released last sheet (n + 1) acts (end ∷ points))))
          × (released ≤ m → 0 + 1 ≤ length (cond (b && c) (record { sheet = sheet; number = n; act = act; start = start; end = end } ∷ due_from released last sheet (n + 1) acts (end ∷ points)) (due_from released last sheet (n + 1) acts (end ∷ points))))
      go true f true g = (λ from. omega arith, λ to. omega arith)
      go true f false g = absurd (cc)
      go false f c g = let high : n ≤ released = grind (arith, nat_tests) in (λ from. omega arith, λ to. absurd (omega arith))
all_due released last sheet m n (suc i) (act ∷ acts) (start ∷ end ∷ points) e len rise within low =
    let rest = all_due released last sheet (m + 1) (n + 1) i acts (end ∷ points) (omega arith) (omega arith) (λ j in'. rise (suc j) (omega arith)) (omega arith) low in
    let early : start ≤ last = omega (arith, first_low i acts (end ∷ points) (λ j in'. rise (suc j) (omega arith)) (omega arith), rise 0 (omega arith)) in
    let is_early : nat_le start last ≡ true = grind (arith, nat_tests) in
    go (nat_lt released n) refl (nat_le start last) is_early rest where
      first_low : (i : ℕ) (acts : List ActId) (points : List ℕ) → ((j : ℕ) → j < length acts → slice_index points j < slice_index points (suc j)) → i < length acts → slice_index points 0 ≤ slice_index points i
      first_low zero acts points rise within = omega arith
      first_low (suc i) acts points rise within =
          let before = first_low i acts points rise (omega arith) in
          let next : slice_index points i < slice_index points (suc i) = rise i (omega arith) in omega arith

      go : (b : Bool) → nat_lt released n ≡ b → (c : Bool) → c ≡ true
          → (m + 1 ≤ released → m + 1 + i + 1 ≤ released + length (due_from released last sheet (n + 1) acts (end ∷ points)))
          × (released ≤ m + 1 → i + 1 ≤ length (due_from released last sheet (n + 1) acts (end ∷ points)))
          → (m ≤ released → m + suc i + 1 ≤ released + length (cond (b && c) (record { sheet = sheet; number = n; act = act; start = start; end = end } ∷ due_from released last sheet (n + 1) acts (end ∷ points)) (due_from released last sheet (n + 1) acts (end ∷ points))))
          × (released ≤ m → suc i + 1 ≤ length (cond (b && c) (record { sheet = sheet; number = n; act = act; start = start; end = end } ∷ due_from released last sheet (n + 1) acts (end ∷ points)) (due_from released last sheet (n + 1) acts (end ∷ points))))
      go true f true g (above, below) =
          let at : released < n = grind (arith, nat_tests) in
          let later = below (omega arith) in (λ from. omega arith, λ to. omega arith)
      go true f false g rest = absurd (cc)
      go false f c g (above, below) = let high : n ≤ released = grind (arith, nat_tests) in let later = above (omega arith) in (λ from. omega arith, λ to. absurd (omega arith))

pub released-below : (machine : Machine) (last : ℕ) (p : Plan) (i : ℕ) → IsTimedPlan machine p → (release_until last p).released ≤ i → i < length p.acts → last < point p i
released-below machine last p i timed high within = go (nat_lt last (point p i)) refl where
  go : (b : Bool) → nat_lt last (point p i) ≡ b → last < point p i
  go true e = grind (arith, nat_tests)
  go false e =
      let low : point p i ≤ last = grind (arith, nat_tests) in
      let one_more : length p.points ≡ length p.acts + 1 = timed.one_more in
      let rise : (j : ℕ) → j < length p.acts → point p j < point p (suc j) =
      λ j in'. let next : point p j < point p (j + 1) = timed.rise j in' in
      let same : point p (j + 1) ≡ point p (suc j) = ap (point p) (omega arith) in omega arith in
      let due = (all_due p.released last p.sheet 0 1 i p.acts p.points refl one_more rise within low).0 (omega arith) in
      absurd (omega arith)
