-- The refills that a standing tells leave at each feeder what it says is free.
use Rattle.std.proofs.Common.{◌≡◌, ◌≢◌, ℕ, ◌≤◌, ◌==◌, Bool, true, false, cond, List, [], ◌∷◌, map, refl, ap, ◌∙◌, subst, inl, inr, arith, All, AllPairs, Contains, Option, Some, None, pos, ◌+ℤ◌, ◌-ℤ◌, ◌≤ℤ◌}
use Rattle.std.specs.Prelude.{IfSome, neg_ℤ, option_map, ℤ}
use Rattle.std.proofs.lemmas.Bool.{eq-eqb, ne_eqb}
use Rattle.std.proofs.lemmas.Int.{ints}
use Rattle.std.proofs.lemmas.List.Elements.{All-contains, All-head, All-tail}
use Rattle.tp_machine.specs.declared.parts.Feeder.{Feeder}
use Rattle.tp_schedule.proofs.Membership.{Contains-cons_cases, Contains-here, Contains-later}
use Rattle.tp_schedule.proofs.Pairs.{AllPairs-head, AllPairs-tail}
use Rattle.tp_stock.specs.Stock.{free_of}
use Rattle.tp_session_standing.proofs.FeederFacts.{Apart}
use Rattle.tp_session_standing.specs.Sound.{AreFree, IsFreeOf}
use Rattle.tp_session_standing.specs.StandingStates.{count_of, refill_at, refill_by}

-- a feeder of the list, what is free there, and the refills at its location
pub record Refilled (taken : ℕ) (feeders : List Feeder) (stock : List (Option ℕ)) (f : Feeder) : Type 0 where
  pub free : Option ℕ
  pub fits : IsFreeOf f.stock free
  pub is : refill_at taken f.loc.0 feeders stock ≡ refill_by taken f.stock free

pub refilled-each : (taken : ℕ) (feeders : List Feeder) (stock : List (Option ℕ)) → AllPairs Apart feeders → AreFree feeders stock → (f : Feeder) → Contains feeders f → Refilled taken feeders stock f
refilled-each taken [] stock apart free f in' = absurd (omega (arith, in'.1))
refilled-each taken (g ∷ feeders) [] apart free f in' = absurd free
refilled-each taken (g ∷ feeders) (n ∷ stock) apart (here, rest) f in' = elim (Contains-cons_cases g feeders f in') [
  | inl same ↦ subst (Refilled taken (g ∷ feeders) (n ∷ stock)) same (record { free = n; fits = here; is = own g feeders n stock })
  | inr later ↦ further (refilled-each taken feeders stock (AllPairs-tail Apart g feeders apart) rest f later) (All-contains (Apart g) feeders f (AllPairs-head Apart g feeders apart) later)
]
  where
    own : (g : Feeder) (feeders : List Feeder) (n : Option ℕ) (stock : List (Option ℕ)) → refill_at taken g.loc.0 (g ∷ feeders) (n ∷ stock) ≡ refill_by taken g.stock n
    own g feeders n stock = ap (λ b. cond b (refill_by taken g.stock n) (refill_at taken g.loc.0 feeders stock)) (eq-eqb g.loc.0 g.loc.0 refl)

    further : Refilled taken feeders stock f → g.loc.0 ≢ f.loc.0 → Refilled taken (g ∷ feeders) (n ∷ stock) f
    further r differs = record {
      free = r.free;
      fits = r.fits;
      is = ap (λ b. cond b (refill_by taken g.stock n) (refill_at taken f.loc.0 feeders stock)) (ne_eqb g.loc.0 f.loc.0 differs) ∙ r.is;
    }

-- so much is free where the refills are those
free-back : (taken : ℕ) (stock free : Option ℕ) → IsFreeOf stock free → option_map count_of (free_of stock (refill_by taken stock free) taken) ≡ free
free-back taken None None fits = refl
free-back taken None (Some n) fits = absurd fits
free-back taken (Some n) None fits = absurd fits
free-back taken (Some st) (Some n) fits = ap (λ z. Some (count_of z)) (back st n) where
  back : (st n : ℕ) → ((pos st +ℤ ((pos n +ℤ pos taken) -ℤ pos st)) -ℤ pos taken) ≡ pos n
  back st n = omega (arith, ints)

-- functions that agree on all members
pub map-members : {X Y : Type 0} (f g : X → Y) (xs : List X) → ((x : X) → Contains xs x → f x ≡ g x) → map f xs ≡ map g xs
map-members f g [] same = refl
map-members f g (x ∷ xs) same = λ k. same x (Contains-here x xs) k ∷ map-members f g xs (λ y in'. same y (Contains-later x xs y in')) k

-- at all feeders, in their order
pub free-all : (taken : ℕ → ℕ) (feeders : List Feeder) (stock : List (Option ℕ)) → AllPairs Apart feeders → AreFree feeders stock
    → map (λ f. option_map count_of (free_of f.stock (refill_at (taken f.loc.0) f.loc.0 feeders stock) (taken f.loc.0))) feeders ≡ stock
free-all taken [] [] apart free = refl
free-all taken [] (n ∷ stock) apart free = absurd free
free-all taken (g ∷ feeders) [] apart free = absurd free
free-all taken (g ∷ feeders) (n ∷ stock) apart (here, rest) =
    let rest-is = free-all taken feeders stock (AllPairs-tail Apart g feeders apart) rest in λ k. first k ∷ later rest-is k where
      left : List Feeder → List (Option ℕ) → Feeder → Option ℕ
      left fs ns f = option_map count_of (free_of f.stock (refill_at (taken f.loc.0) f.loc.0 fs ns) (taken f.loc.0))

      first : left (g ∷ feeders) (n ∷ stock) g ≡ n
      first =
          ap (λ b. option_map count_of (free_of g.stock (cond b (refill_by (taken g.loc.0) g.stock n) (refill_at (taken g.loc.0) g.loc.0 feeders stock)) (taken g.loc.0))) (eq-eqb g.loc.0 g.loc.0 refl)
          ∙ free-back (taken g.loc.0) g.stock n here

      beside : (f : Feeder) → g.loc.0 ≢ f.loc.0 → left (g ∷ feeders) (n ∷ stock) f ≡ left feeders stock f
      beside f differs = ap (λ b. option_map count_of (free_of f.stock (cond b (refill_by (taken f.loc.0) g.stock n) (refill_at (taken f.loc.0) f.loc.0 feeders stock)) (taken f.loc.0))) (ne_eqb g.loc.0 f.loc.0 differs)

      later : map (left feeders stock) feeders ≡ stock → map (left (g ∷ feeders) (n ∷ stock)) feeders ≡ stock
      later rest-is = map-members (left (g ∷ feeders) (n ∷ stock)) (left feeders stock) feeders (λ f in'. beside f (All-contains (Apart g) feeders f (AllPairs-head Apart g feeders apart) in')) ∙ rest-is

-- no refill is far from zero
pub refill-between : (taken loc : ℕ) (feeders : List Feeder) (stock : List (Option ℕ)) → taken ≤ 256 → All (λ f. IfSome f.stock (λ n. n ≤ 1000000)) feeders → AreFree feeders stock
    → (neg_ℤ (pos 2000000) ≤ℤ refill_at taken loc feeders stock) × (refill_at taken loc feeders stock ≤ℤ pos 2000000)
refill-between taken loc [] stock few all free = (omega (arith, ints), omega (arith, ints))
refill-between taken loc (g ∷ feeders) [] few all free = absurd free
refill-between taken loc (g ∷ feeders) (n ∷ stock) few all (here, rest) =
    go (g.loc.0 == loc) (refill-between taken loc feeders stock few (All-tail (λ f. IfSome f.stock (λ m. m ≤ 1000000)) g feeders all) rest) where
      bounds : ℤ → Type 0
      bounds z = (neg_ℤ (pos 2000000) ≤ℤ z) × (z ≤ℤ pos 2000000)

      one : (st n : Option ℕ) → IfSome st (λ m. m ≤ 1000000) → IsFreeOf st n → bounds (refill_by taken st n)
      one None n le fits = (omega (arith, ints), omega (arith, ints))
      one (Some st) None le fits = absurd fits
      one (Some st) (Some m) le fits = (omega (arith, ints), omega (arith, ints))

      go : (b : Bool) → bounds (refill_at taken loc feeders stock) → bounds (cond b (refill_by taken g.stock n) (refill_at taken loc feeders stock))
      go true others = one g.stock n (All-head (λ f. IfSome f.stock (λ m. m ≤ 1000000)) g feeders all) here
      go false others = others
