-- The actions of a plan that are due, one after another.
use Rattle.std.proofs.Common.{◌≡◌, ℕ, zero, suc, ◌+◌, ◌<◌, ◌≤◌, Bool, true, false, cond, ◌&&◌, List, [], ◌∷◌, ◌++◌, length, filter, take, get_or, refl, sym, ap, ◌∙◌, arith, Some, nat_le, nat_lt, slice_index}
use Rattle.std.specs.Prelude.{slice_get}
use Rattle.std.proofs.lemmas.Bool.Decides.{nat_tests}
use Rattle.std.proofs.lemmas.List.{append-nil, length-append, take_more}
use Rattle.std.proofs.lemmas.List.Elements.{filter-append}
use Rattle.std.proofs.lemmas.Option.{get_or_from_slice_get, slice_get-get_or, slice_get_within}
use Rattle.tp_machine.specs.declared.parts.ActId.{ActId}
use Rattle.tp_schedule.specs.Holders.{Run, runs_from, runs_of}
use Rattle.tp_schedule.specs.Plans.{IsFormed, point}
use Rattle.tp_schedule.specs.declared.parts.Plan.{Plan}
use Rattle.tp_schedule.specs.declared.parts.SheetId.{SheetId}
use Rattle.tp_event_rules.specs.Moments.{due_until, is_due}
use Rattle.tp_event_rules.proofs.CutPlans.{length-runs_from}

-- an action of a plan in time
abbrev pub run_at : Plan → ℕ → ActId → Run
run_at p i act = record { sheet = p.sheet; number = i + 1; act = act; start = point p i; end = point p (i + 1) }

pub runs_from-at : (sheet : SheetId) (n : ℕ) (acts : List ActId) (points : List ℕ) (i : ℕ) (act : ActId) → length points ≡ length acts + 1 → slice_get acts i ≡ Some act
    → slice_get (runs_from sheet n acts points) i ≡ Some (record { sheet = sheet; number = i + n; act = act; start = slice_index points i; end = slice_index points (i + 1) })
runs_from-at sheet n [] points i act len is = absurd cc
runs_from-at sheet n (a ∷ acts) [] i act len is = absurd (omega arith)
runs_from-at sheet n (a ∷ acts) (start ∷ []) i act len is = absurd (omega arith)
runs_from-at sheet n (a ∷ acts) (start ∷ end ∷ points) zero act len is =
    let same : a ≡ act = cc in
    let e : n ≡ 0 + n = omega arith in
    λ k. Some (record { sheet = sheet; number = e k; act = same k; start = start; end = end })
runs_from-at sheet n (a ∷ acts) (start ∷ end ∷ points) (suc i) act len is =
    let number : i + (n + 1) ≡ suc i + n = omega arith in
    let next : suc (i + 1) ≡ suc i + 1 = omega arith in
    runs_from-at sheet (n + 1) acts (end ∷ points) i act (omega arith) is
    ∙ (λ k. Some (record { sheet = sheet; number = number k; act = act; start = slice_index (end ∷ points) i; end = slice_index (start ∷ end ∷ points) (next k) }))

-- the due ones among the first actions
abbrev pub due_below : ℕ → Plan → ℕ → List Run
due_below last p n = filter (is_due last p) (take n (runs_of p))

pub due-more : (last : ℕ) (p : Plan) (i : ℕ) (act : ActId) → IsFormed p → p.released ≤ i → slice_get p.acts i ≡ Some act
    → due_below last p (i + 1) ≡ due_below last p i ++ cond (nat_le (point p i) last) (run_at p i act ∷ []) []
due-more last p i act formed high is =
    let here = runs_from-at p.sheet 1 p.acts p.points i act formed.one_more is in
    let within = slice_get_within (runs_of p) i (run_at p i act) here in
    let run = get_or_from_slice_get (runs_of p) i (run_at p i act) (run_at p i act) here in
    let unreleased : nat_lt p.released (i + 1) ≡ true = grind (arith, nat_tests) in
    ap (filter (is_due last p)) (take_more (runs_of p) i (run_at p i act) within ∙ ap (λ r. take i (runs_of p) ++ r ∷ []) run)
    ∙ filter-append (is_due last p) (take i (runs_of p)) (run_at p i act ∷ [])
    ∙ ap (λ b. due_below last p i ++ cond (b && nat_le (point p i) last) (run_at p i act ∷ []) []) unreleased

-- none of the released ones is due
none_due : (released last : ℕ) (sheet : SheetId) (n k : ℕ) (acts : List ActId) (points : List ℕ) → n + k ≤ released + 1
    → filter (λ run. nat_lt released run.number && nat_le run.start last) (take k (runs_from sheet n acts points)) ≡ []
none_due released last sheet n zero acts points low = refl
none_due released last sheet n (suc k) [] points low = refl
none_due released last sheet n (suc k) (act ∷ acts) [] low = refl
none_due released last sheet n (suc k) (act ∷ acts) (start ∷ []) low = refl
none_due released last sheet n (suc k) (act ∷ acts) (start ∷ end ∷ points) low =
    let here : nat_lt released n ≡ false = grind (arith, nat_tests) in
    let rest = none_due released last sheet (n + 1) k acts (end ∷ points) (omega arith) in
    go (nat_lt released n) (nat_le start last) (record { sheet = sheet; number = n; act = act; start = start; end = end }) here rest where
      go : (b c : Bool) (run : Run) {later : List Run} → b ≡ false → later ≡ [] → cond (b && c) (run ∷ later) later ≡ []
      go true c run e rest = absurd cc
      go false c run e rest = rest

pub due-none : (last : ℕ) (p : Plan) → due_below last p p.released ≡ []
due-none last p = none_due p.released last p.sheet 1 p.released p.acts p.points (omega arith)

take-whole : {X : Type 0} (xs : List X) (n : ℕ) → n ≡ length xs → take n xs ≡ xs
take-whole [] zero e = refl
take-whole [] (suc n) e = refl
take-whole (x ∷ xs) zero e = absurd (omega arith)
take-whole (x ∷ xs) (suc n) e = ap (λ ys. x ∷ ys) (take-whole xs n (omega arith))

-- all of them
pub due-whole : (last : ℕ) (p : Plan) (n : ℕ) → IsFormed p → n ≡ length p.acts → due_below last p n ≡ due_until last p
due-whole last p n formed whole =
    ap (filter (is_due last p)) (take-whole (runs_of p) n (whole ∙ sym (length-runs_from p.sheet 1 p.acts p.points formed.one_more)))

-- an action that starts early enough is due, and one that doesn't is not
pub due-takes : (last : ℕ) (p : Plan) (i : ℕ) (act : ActId) → IsFormed p → p.released ≤ i → slice_get p.acts i ≡ Some act → point p i ≤ last
    → due_below last p (i + 1) ≡ due_below last p i ++ run_at p i act ∷ []
due-takes last p i act formed high is early =
    let b : nat_le (point p i) last ≡ true = grind (arith, nat_tests) in
    due-more last p i act formed high is ∙ ap (λ b. due_below last p i ++ cond b (run_at p i act ∷ []) []) b

pub due-skips : (last : ℕ) (p : Plan) (i : ℕ) → IsFormed p → p.released ≤ i → i < length p.acts → last < point p i → due_below last p (i + 1) ≡ due_below last p i
due-skips last p i formed high within late =
    let none : ActId = record { 0 = 0 } in
    let act = get_or p.acts i none in
    let b : nat_le (point p i) last ≡ false = grind (arith, nat_tests) in
    due-more last p i act formed high (slice_get-get_or p.acts i none within) ∙ ap (λ b. due_below last p i ++ cond b (run_at p i act ∷ []) []) b ∙ append-nil (due_below last p i)

-- how many are due, with one action more
pub count-takes : (last : ℕ) (p : Plan) (i : ℕ) → IsFormed p → p.released ≤ i → i < length p.acts → point p i ≤ last → length (due_below last p (i + 1)) ≡ length (due_below last p i) + 1
count-takes last p i formed high within early =
    let none : ActId = record { 0 = 0 } in
    let act = get_or p.acts i none in
    ap length (due-takes last p i act formed high (slice_get-get_or p.acts i none within) early) ∙ length-append (due_below last p i) (run_at p i act ∷ [])
