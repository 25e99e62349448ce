-- Points that are supported, found one after another until no gap without room leads on: of a least schedule they are all.
use Rattle.std.proofs.Common.{◌≡◌, ◌⊎◌, inl, inr, ℕ, zero, suc, ◌≤◌, Bool, true, false, not, List, [], ◌∷◌, length, All, Contains, refl, subst, arith}
use Rattle.std.specs.Prelude.{◌&&◌, ◌||◌, ◌==◌, pos, ◌+ℤ◌, int_le, ℤ, ◌≤ℤ◌}
use Rattle.std.specs.List.{list_any}
use Rattle.std.proofs.lemmas.Bool.{and_parts}
use Rattle.std.proofs.lemmas.Bool.Decides.{nat_tests}
use Rattle.std.proofs.lemmas.Int.{ints}
use Rattle.std.proofs.lemmas.List.Elements.{All-cons, All-contains, All-nil}
use Rattle.std.proofs.lemmas.Map.Views.{Contains-from_any}
use Rattle.tp_machine.specs.declared.machine.Machine.{Machine}
use Rattle.tp_schedule.specs.Answers.{IsLeast, KeepsHorizon}
use Rattle.tp_schedule.specs.Spots.{Spot, Ticks, ticks_of}
use Rattle.tp_schedule.specs.Spots.Spot.{kept, own}
use Rattle.tp_schedule.specs.declared.parts.Plan.{Plan}
use Rattle.tp_schedule.proofs.Membership.{Contains-cons_cases, Contains-here, Contains-later}
use Rattle.tp_schedule.proofs.Without.{length-without, stays-in, was-in, without}
use Rattle.tp_choices.specs.Retimings.{IgnoresPoints}
use Rattle.tp_constraints.specs.Gaps.{Gap, IsPoint}
use Rattle.tp_constraints.specs.Laws.{IsLoadable, plans_gaps}
use Rattle.tp_constraints.specs.Numbers.{is_same_spot}
use Rattle.tp_constraints.specs.Supports.{IsMarking, IsSupportedIn, IsTight, LeastIsSupported, lows_of}
use Rattle.tp_constraints.specs.Supports.IsSupported.{at_low, by_gap}
use Rattle.tp_constraints.proofs.GapPoints.{gaps-points}
use Rattle.tp_constraints.proofs.PointNumbers.{same_spot-is, same_spot-refl}
use Rattle.tp_constraints.proofs.SupportedPoints.{itself, retimed-keeps, unmarked-later}

-- no element passes the test, or this one does
none-or-one : {X : Type 0} (test : X → Bool) (xs : List X) → ((x : X) → Contains xs x → test x ≡ false) ⊎ ((x : X) × Contains xs x × (test x ≡ true))
none-or-one test [] = inl (λ x in'. absurd (omega (arith, in'.1)))
none-or-one {X} test (x ∷ xs) = go (test x) refl (none-or-one test xs) where
  go : (b : Bool) → test x ≡ b → ((y : X) → Contains xs y → test y ≡ false) ⊎ ((y : X) × Contains xs y × (test y ≡ true)) → ((y : X) → Contains (x ∷ xs) y → test y ≡ false) ⊎ ((y : X) × Contains (x ∷ xs) y × (test y ≡ true))
  go true e rest = inr (x, Contains-here x xs, e)
  go false e (inl none) = inl (λ y in'. elim (Contains-cons_cases x xs y in') [ inl same ↦ subst (λ z. test z ≡ false) same e | inr later ↦ none y later ])
  go false e (inr (y, in', passes)) = inr (y, Contains-later x xs y in', passes)

either : (a b : Bool) → (a || b) ≡ true → (a ≡ true) ⊎ (b ≡ true)
either true b e = inl refl
either false b e = inr e

-- whether the ticks leave the gap no room
is_tight : Ticks → Gap → Bool
is_tight t g = int_le (pos (t g.from) +ℤ g.weight) (pos (t g.to)) && int_le (pos (t g.to)) (pos (t g.from) +ℤ g.weight)

at_most : (a b : ℤ) → int_le a b ≡ true → a ≤ℤ b
at_most a b test = grind (arith, ints)

tight-is : (t : Ticks) (g : Gap) → is_tight t g ≡ true → IsTight t g
unfolding is_tight
tight-is t g test =
    let (one, other) = and_parts (int_le (pos (t g.from) +ℤ g.weight) (pos (t g.to))) (int_le (pos (t g.to)) (pos (t g.from) +ℤ g.weight)) test in
    let low = at_most (pos (t g.from) +ℤ g.weight) (pos (t g.to)) one in
    let high = at_most (pos (t g.to)) (pos (t g.from) +ℤ g.weight) other in
    omega (arith, ints)

same_le : (a b : ℤ) → a ≡ b → (int_le a b && int_le b a) ≡ true
same_le a b same = grind (arith, ints)

tight-test : (t : Ticks) (g : Gap) → IsTight t g → is_tight t g ≡ true
unfolding is_tight
tight-test t g tight = same_le (pos (t g.from) +ℤ g.weight) (pos (t g.to)) tight

module _ (machine : Machine) (now : ℕ) (exempt : Plan → Bool) (plans : List Plan) (load : IsLoadable machine now exempt plans) (only_shape : IgnoresPoints exempt) (horizon : KeepsHorizon machine now plans) where
  abbrev t : Ticks
  t = ticks_of plans

  abbrev low : Spot → ℕ
  low = lows_of machine now exempt plans

  abbrev Holds : Spot → Type 0
  Holds = IsSupportedIn machine now exempt plans

  -- the marks of what stands at its least tick, at tick 0, or was reached
  marks : List Spot → Spot → Bool
  marks reached s = (t s == low s) || ((t s == 0) || list_any (is_same_spot s) reached)

  low-at : (s : Spot) → IsPoint plans 0 s → low s ≤ t s
  low-at s known = ((retimed-keeps machine now exempt plans load only_shape plans (itself machine now exempt plans load only_shape horizon)).0 s known).0

  same_number : (a b : ℕ) → (a == b) ≡ true → a ≡ b
  same_number a b test = grind (arith, nat_tests)

  -- a point of the schedule that is marked is supported
  marked-holds : (reached : List Spot) → All Holds reached → (s : Spot) → IsPoint plans 0 s → marks reached s ≡ true → Holds s
  unfolding marks
  marked-holds reached each s known e = elim (either (t s == low s) ((t s == 0) || list_any (is_same_spot s) reached) e) [
    | inl here ↦ at_low s known (same_number (t s) (low s) here)
    | inr other ↦ elim (either (t s == 0) (list_any (is_same_spot s) reached) other) [
      | inl zero' ↦ (let z = same_number (t s) 0 zero' in let l = low-at s known in at_low s known (omega (arith, z, l)))
      | inr found ↦ All-contains Holds reached s each (Contains-from_any same_spot-is s reached found)
    ]
  ]

  reached-marked : (reached : List Spot) (s : Spot) → marks (s ∷ reached) s ≡ true
  unfolding marks
  reached-marked reached s = let e = same_spot-refl s in grind arith

  stays-marked : (reached : List Spot) (x s : Spot) → marks reached s ≡ true → marks (x ∷ reached) s ≡ true
  unfolding marks
  stays-marked reached x s e = grind arith

  zero-marked : (reached : List Spot) (s : Spot) → t s ≡ 0 → marks reached s ≡ true
  unfolding marks
  zero-marked reached s is = let e : (t s == 0) ≡ true = grind (arith, nat_tests) in grind arith

  low-marked : (reached : List Spot) (s : Spot) → t s ≡ low s → marks reached s ≡ true
  unfolding marks
  low-marked reached s is = let e : (t s == low s) ≡ true = grind (arith, nat_tests) in grind arith

  -- the gap leads from a marked point to one that is not
  leads : List Spot → Gap → Bool
  leads reached g = is_tight t g && (marks reached g.from && not (marks reached g.to))

  leads-no-more : (reached : List Spot) (g : Gap) → leads reached g ≡ false → IsTight t g → marks reached g.from ≡ true → marks reached g.to ≡ true
  unfolding leads
  leads-no-more reached g stops tight from = go (is_tight t g) (marks reached g.from) (marks reached g.to) (tight-test t g tight) from stops where
    go : (a b c : Bool) → a ≡ true → b ≡ true → (a && (b && not c)) ≡ false → c ≡ true
    go a b true x y z = refl
    go true true false x y z = absurd (cc)
    go true false false x y z = absurd (cc)
    go false b false x y z = absurd (cc)

  record Leads (reached : List Spot) (g : Gap) : Type 0 where
    tight : IsTight t g
    from : marks reached g.from ≡ true

  leads-on : (reached : List Spot) (g : Gap) → leads reached g ≡ true → Leads reached g
  unfolding leads
  leads-on reached g leading =
      let (tight, rest) = and_parts (is_tight t g) (marks reached g.from && not (marks reached g.to)) leading in
      record { tight = tight-is t g tight; from = (and_parts (marks reached g.from) (not (marks reached g.to)) rest).0 }

  -- points that are supported, from which no gap without room leads on
  record Closed : Type 0 where
    reached : List Spot
    each : All Holds reached
    closed : (g : Gap) → Contains (plans_gaps machine plans) g → IsTight t g → marks reached g.from ≡ true → marks reached g.to ≡ true

  close : (count : ℕ) (rest : List Gap) (reached : List Spot) → length rest ≡ count → ((g : Gap) → Contains rest g → Contains (plans_gaps machine plans) g) → All Holds reached
      → ((g : Gap) → Contains (plans_gaps machine plans) g → Contains rest g ⊎ (marks reached g.to ≡ true)) → Closed
  close zero rest reached count among each known = record {
    reached = reached;
    each = each;
    closed = λ g in' tight from. elim (known g in') [ inl there ↦ absurd (omega (arith, there.1, count)) | inr done ↦ done ];
  }
  close (suc n) rest reached count among each known = elim (none-or-one (leads reached) rest) [
    | inl none ↦ record {
      reached = reached;
      each = each;
      closed = λ g in' tight from. elim (known g in') [ inl there ↦ leads-no-more reached g (none g there) tight from | inr done ↦ done ];
    }
    | inr (g, there, leading) ↦ (
        let on = leads-on reached g leading in
        let in' = among g there in
        let source = All-contains (λ h. IsPoint plans 0 h.from) (plans_gaps machine plans) g (gaps-points machine plans) in' in
        close n (without rest there.0) (g.to ∷ reached) (omega (arith, length-without rest there.0 there.1, count))
        (λ h still. among h (was-in rest there.0 h still))
        (All-cons Holds g.to reached (by_gap g in' on.tight (marked-holds reached each g.from source on.from)) each)
        (λ h in''. elim (known h in'') [
          | inl left ↦ elim (stays-in rest there.0 g h there.1 there.2 left) [
            | inl same ↦ inr (subst (λ (k : Gap). marks (g.to ∷ reached) k.to ≡ true) same (reached-marked reached g.to))
            | inr still ↦ inl still
          ]
          | inr done ↦ inr (stays-marked reached g.to h.to done)
        ]))
  ]

  whole : Closed
  whole = close (length (plans_gaps machine plans)) (plans_gaps machine plans) [] refl (λ g in'. in') (All-nil Holds) (λ g in'. inl in')

  marking : IsMarking machine now exempt plans (marks whole.reached)
  marking = record {
    at_zero = λ s is. zero-marked whole.reached s is;
    lows = λ s known is. low-marked whole.reached s is;
    goes_on = whole.closed;
  }

  -- where the schedule is least, all its points are among them
  plan-holds : IsLeast machine now exempt plans → (p : Plan) → Contains plans p → (i : ℕ) → i ≤ length p.acts → Holds (kept p.sheet i)
  plan-holds least p in' i le = go (marks whole.reached (kept p.sheet i)) refl where
    go : (b : Bool) → marks whole.reached (kept p.sheet i) ≡ b → Holds (kept p.sheet i)
    go true e = marked-holds whole.reached whole.each (kept p.sheet i) (p, in', refl, le) e
    go false e =
        let (earlier, re, at) = unmarked-later machine now exempt plans load only_shape horizon (marks whole.reached) marking p in' i le e in
        let first = least earlier re p in' i le in
        absurd (omega (arith, first, at))

pub least_is_supported : LeastIsSupported
least_is_supported machine now exempt plans load only_shape horizon least (kept copy i) (p, in', same, le) =
    subst (λ c. IsSupportedIn machine now exempt plans (kept c i)) same (plan-holds machine now exempt plans load only_shape horizon least p in' i le)
least_is_supported machine now exempt plans load only_shape horizon least (own n) known = absurd (omega (arith, known))
