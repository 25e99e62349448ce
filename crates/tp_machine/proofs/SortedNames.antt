-- Names of which each stands before the next are different.
use Rattle.std.proofs.Common.{◌≡◌, ◌≢◌, ℕ, true, Ordering, Less, Equal, Greater, List, [], ◌∷◌, All, AllPairs, refl, sym, subst}
use Rattle.std.specs.Ordering.{nat_cmp, is_lt, ordering_reverse}
use Rattle.std.specs.Cmp.Lexicographic.{slice_cmp}
use Rattle.std.proofs.lemmas.Bool.{and_parts}
use Rattle.std.proofs.lemmas.Cmp.{nat_list_cmp_total}
use Rattle.std.proofs.lemmas.List.Elements.{All-nil, All-cons, All-weaker}
use Rattle.tp_machine.specs.Rules.{do_names_rise, is_below}
use Rattle.tp_machine.proofs.Lists.{AllPairs-nil, AllPairs-cons}

less : (o : Ordering) → is_lt o ≡ true → o ≡ Less
less Less test = refl
less Equal test = cc
less Greater test = cc

not_reversed : (o : Ordering) → o ≡ Less → o ≡ ordering_reverse o → ⊥
not_reversed Less is back = cc
not_reversed Equal is back = cc
not_reversed Greater is back = cc

-- a name stands before another in the order of their bytes
abbrev StandsBefore : List ℕ → List ℕ → Type 0
StandsBefore a b = slice_cmp nat_cmp a b ≡ Less

before_differs : (a b : List ℕ) → StandsBefore a b → a ≢ b
before_differs a b before same = not_reversed (slice_cmp nat_cmp a a) (subst (StandsBefore a) (sym same) before) (nat_list_cmp_total.antisymm a a)

-- the first of rising names stands before all others
first_before : (a : List ℕ) (names : List (List ℕ)) → do_names_rise (a ∷ names) ≡ true → All (StandsBefore a) names
first_before a [] rise = All-nil (StandsBefore a)
first_before a (b ∷ names) rise =
    let (below, rest) = and_parts (is_below a b) (do_names_rise (b ∷ names)) rise in
    let here = less (slice_cmp nat_cmp a b) below in
    All-cons (StandsBefore a) b names here
    (All-weaker (StandsBefore b) (StandsBefore a) (λ c later. nat_list_cmp_total.trans a b c here later) names (first_before b names rest))

pub rising_names_differ : (names : List (List ℕ)) → do_names_rise names ≡ true → AllPairs (λ a b. a ≢ b) names
rising_names_differ [] rise = AllPairs-nil (λ a b. a ≢ b)
rising_names_differ (a ∷ []) rise = AllPairs-cons (λ b c. b ≢ c) a [] (All-nil (λ b. a ≢ b)) (AllPairs-nil (λ b c. b ≢ c))
rising_names_differ (a ∷ b ∷ names) rise =
    AllPairs-cons (λ c d. c ≢ d) a (b ∷ names)
    (All-weaker (StandsBefore a) (λ c. a ≢ c) (before_differs a) (b ∷ names) (first_before a (b ∷ names) rise))
    (rising_names_differ (b ∷ names) (and_parts (is_below a b) (do_names_rise (b ∷ names)) rise).1)
