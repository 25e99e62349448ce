-- The modules that are out, and what is free at the feeders, as they were read.
use Rattle.std.proofs.Common.{◌≡◌, ◌≢◌, ◌∙◌, ℕ, suc, ◌+◌, ◌<◌, ◌≤◌, ◌^◌, ◌==◌, ◌&&◌, max, cond, Bool, true, false, List, [], ◌∷◌, length, Option, Some, None, inl, inr, ap, sym, subst, arith, nat_lt}
use Rattle.std.specs.Int.{bit_at}
use Rattle.std.proofs.lemmas.Bool.{cases_Bool, eqb-true}
use Rattle.std.proofs.lemmas.Bool.Decides.{nat_tests}
use Rattle.std.proofs.lemmas.Nat.Bits.{bit_at-pow_other, bit_at-zero, bit_at_or}
use Rattle.std.proofs.lemmas.Option.{none-some, same_Some}
use Rattle.serde_json.specs.Data.{Data, null, boolean, number, string, array, object}
use Rattle.tp_machine.specs.ModuleUse.{is_out, put_out}
use Rattle.tp_machine.specs.declared.parts.Feeder.{Feeder}
use Rattle.tp_machine.specs.declared.parts.Outs.{Outs}
use Rattle.tp_words.proofs.Steps.{and_then_some, map_some}
use Rattle.tp_session_standing.specs.Sound.{AreFree, IsFreeOf, most_free}
use Rattle.tp_snapshot.proofs.ReadFacts.{whole-most}
use Rattle.tp_snapshot.specs.Moments.{free_in, is_text, none_out, out_from, stock_from}
use Rattle.tp_snapshot.specs.Values.{whole_of}

-- only modules before number n are out
abbrev AreBelow : Outs → ℕ → Type 0
AreBelow outs n = (m : ℕ) → is_out outs m ≡ true → m < n

none-below : AreBelow none_out 0
none-below m out = absurd (go (nat_lt m 64) (bit_at 0 m) (bit_at-zero m) out) where
  go : (b : Bool) (x : ℕ) → x ≡ 0 → (b && (x == 1)) ≡ true → ⊥
  go false x is e = cc
  go true x is e = let one = eqb-true x 1 e in omega arith

out-below : (outs : Outs) (n : ℕ) → AreBelow outs n → AreBelow (put_out outs n) (suc n)
out-below outs n below k out = elim (cases_Bool (k == n)) [
  | inl same ↦ let is = eqb-true k n same in omega arith
  | inr other ↦ (let low = below k (was (nat_lt k 64) (bit_at outs.0 k) (bit_at (2 ^ n) k) (bit_at (put_out outs n).0 k) (bit_at_or outs.0 (2 ^ n) k) (bit_at-pow_other n k (differ k n other)) out) in omega (arith, low))
] where
  differ : (a b : ℕ) → (a == b) ≡ false → a ≢ b
  differ a b f = grind (arith, nat_tests)

  was : (b : Bool) (x y z : ℕ) → z ≡ max x y → y ≡ 0 → (b && (z == 1)) ≡ true → (b && (x == 1)) ≡ true
  was false x y z is low f = f
  was true x y z is low f = let same : z ≡ x = omega arith in ap (λ n. n == 1) (sym same) ∙ f

out-from : (n : ℕ) (names : List (List ℕ)) (ds : List Data) (acc outs : Outs) → AreBelow acc n → out_from n names ds acc ≡ Some outs → AreBelow outs (n + length names)
unfolding out_from
out-from n [] [] acc outs below e m out = let low = below m (subst (λ (o : Outs). is_out o m ≡ true) (sym (same_Some acc outs e)) out) in omega (arith, low)
out-from n [] (d ∷ ds) acc outs below e m out = absurd (none-some outs e)
out-from n (x ∷ names) [] acc outs below e m out = let low = below m (subst (λ (o : Outs). is_out o m ≡ true) (sym (same_Some acc outs e)) out) in omega (arith, low)
out-from n (x ∷ names) (d ∷ ds) acc outs below e m out =
    go (is_text x d) e
    (λ f. out-from (suc n) names ds (put_out acc n) outs (out-below acc n below) f m out)
    (λ f. out-from (suc n) names (d ∷ ds) acc outs (λ k was. (let under = below k was in omega (arith, under))) f m out)
  where
    go : (b : Bool) → cond b (out_from (suc n) names ds (put_out acc n)) (out_from (suc n) names (d ∷ ds) acc) ≡ Some outs
        → (out_from (suc n) names ds (put_out acc n) ≡ Some outs → m < suc n + length names) → (out_from (suc n) names (d ∷ ds) acc ≡ Some outs → m < suc n + length names) → m < n + suc (length names)
    go true f taken passed = let low = taken f in omega (arith, low)
    go false f taken passed = let low = passed f in omega (arith, low)

pub outs-read : (names : List (List ℕ)) (ds : List Data) (outs : Outs) → out_from 0 names ds none_out ≡ Some outs → (m : ℕ) → is_out outs m ≡ true → m < length names
outs-read names ds outs e m out = let low = out-from 0 names ds none_out outs none-below e m out in omega (arith, low)

-- ---- what is free

some-free : (stock : ℕ) (d : Data) (free : Option ℕ) → free_in (Some stock) d ≡ Some free → IsFreeOf (Some stock) free
some-free stock d free e =
    let (n, is, made) = map_some (λ n. Some n) (whole_of most_free d) free e in
    subst (IsFreeOf (Some stock)) made (whole-most most_free n d is)

no-free : (d : Data) (free : Option ℕ) → free_in None d ≡ Some free → IsFreeOf None free
no-free null free e = subst (IsFreeOf None) (same_Some None free e) tt
no-free (boolean b) free e = absurd (none-some free e)
no-free (number n) free e = absurd (none-some free e)
no-free (string s) free e = absurd (none-some free e)
no-free (array ds) free e = absurd (none-some free e)
no-free (object ms) free e = absurd (none-some free e)

free-fits : (stock : Option ℕ) (d : Data) (free : Option ℕ) → free_in stock d ≡ Some free → IsFreeOf stock free
free-fits None d free e = no-free d free e
free-fits (Some stock) d free e = some-free stock d free e

pub stock-read : (feeders : List Feeder) (ds : List Data) (stock : List (Option ℕ)) → stock_from feeders ds ≡ Some stock → AreFree feeders stock
unfolding stock_from
stock-read [] [] stock e = subst (AreFree []) (same_Some [] stock e) tt
stock-read [] (d ∷ ds) stock e = absurd (none-some stock e)
stock-read (f ∷ feeders) [] stock e = absurd (none-some stock e)
stock-read (f ∷ feeders) (d ∷ ds) stock e =
    let (free, here, more) = and_then_some (free_in f.stock d) _ stock e in
    let (rest, there, made) = and_then_some (stock_from feeders ds) _ stock more in
    subst (AreFree (f ∷ feeders)) (same_Some (free ∷ rest) stock made) (free-fits f.stock d free here, stock-read feeders ds rest there)
