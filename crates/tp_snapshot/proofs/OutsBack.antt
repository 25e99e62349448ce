-- The names of the modules that are out, read back.
use Rattle.std.proofs.Common.{◌≡◌, ◌≢◌, ◌⊎◌, ℕ, zero, suc, ◌+◌, ◌<◌, ◌≤◌, ◌^◌, max, Bool, true, false, eqb, ltb, List, [], ◌∷◌, length, map, All, AllPairs, Some, inl, inr, refl, sym, ap, subst, ◌∙◌, arith}
use Rattle.std.specs.List.{AllByRecursion}
use Rattle.std.specs.Str.{bytes_eq}
use Rattle.std.specs.Int.{bit_at}
use Rattle.std.proofs.lemmas.Bool.{and_from, and_parts, cases_Bool, cases_lt, eq-eqb, eqb-true, lt-ltb}
use Rattle.std.proofs.lemmas.Nat.Bits.{bit_at-lt, bit_at-pow_other, bit_at-pow_same, bit_at-zero, bit_at_above, bit_at_or, same_from_bits}
use Rattle.std.proofs.lemmas.Slice.Eq.{bytes_eq-Decides}
use Rattle.serde_json.specs.Data.{string}
use Rattle.tp_machine.proofs.Lists.{AllPairs-head, AllPairs-tail}
use Rattle.tp_machine.specs.ModuleUse.{is_out, put_out}
use Rattle.tp_machine.specs.declared.parts.Outs.{Outs}
use Rattle.tp_snapshot.specs.Moments.{none_out, out_from}
use Rattle.tp_snapshot.specs.Written.{out_names}

-- just those of the modules before number n that are out
record IsBelow (outs : Outs) (n : ℕ) (acc : Outs) : Type 0 where
  pub low : (k : ℕ) → k < n → bit_at acc.0 k ≡ bit_at outs.0 k
  pub high : (k : ℕ) → n ≤ k → bit_at acc.0 k ≡ 0

bit-out : (outs : Outs) (n : ℕ) → is_out outs n ≡ true → bit_at outs.0 n ≡ 1
bit-out outs n out = eqb-true (bit_at outs.0 n) 1 (and_parts (ltb n 64) (eqb (bit_at outs.0 n) 1) out).1

bit-in : (outs : Outs) (n : ℕ) → n < 64 → is_out outs n ≡ false → bit_at outs.0 n ≡ 0
bit-in outs n low inside = go (bit_at outs.0 n) refl (bit_at-lt outs.0 n) where
  go : (b : ℕ) → bit_at outs.0 n ≡ b → b < 2 → bit_at outs.0 n ≡ 0
  go zero is few = is
  go (suc zero) is few = let out : is_out outs n ≡ true = and_from (ltb n 64) (eqb (bit_at outs.0 n) 1) (lt-ltb n 64 low) (eq-eqb (bit_at outs.0 n) 1 is) in absurd cc
  go (suc (suc b)) is few = absurd (omega arith)

below-out : (outs : Outs) (n : ℕ) (acc : Outs) → is_out outs n ≡ true → IsBelow outs n acc → IsBelow outs (n + 1) (put_out acc n)
below-out outs n acc out below = record {
  low = λ k under. low k under (cases_lt k n);
  high = λ k over. bit_at_or acc.0 (2 ^ n) k ∙ (let a = below.high k (omega arith) in let b = bit_at-pow_other n k (λ e. omega arith) in omega (arith, a, b));
} where
  low : (k : ℕ) → k < n + 1 → (k < n) ⊎ (n ≤ k) → bit_at (put_out acc n).0 k ≡ bit_at outs.0 k
  low k under (inl before) = bit_at_or acc.0 (2 ^ n) k ∙ (let a = below.low k before in let b = bit_at-pow_other n k (λ e. omega arith) in omega (arith, a, b))
  low k under (inr from) =
      let e : k ≡ n = omega arith in
      bit_at_or acc.0 (2 ^ n) k ∙ subst (λ j. max (bit_at acc.0 j) (bit_at (2 ^ n) j) ≡ bit_at outs.0 j) (sym e)
      (let a = below.high n (omega arith) in let b = bit_at-pow_same n in let o = bit-out outs n out in omega (arith, a, b, o))

below-in : (outs : Outs) (n : ℕ) (acc : Outs) → n < 64 → is_out outs n ≡ false → IsBelow outs n acc → IsBelow outs (n + 1) acc
below-in outs n acc few inside below = record {
  low = λ k under. low k under (cases_lt k n);
  high = λ k over. below.high k (omega arith);
} where
  low : (k : ℕ) → k < n + 1 → (k < n) ⊎ (n ≤ k) → bit_at acc.0 k ≡ bit_at outs.0 k
  low k under (inl before) = below.low k before
  low k under (inr from) =
      let e : k ≡ n = omega arith in
      subst (λ j. bit_at acc.0 j ≡ bit_at outs.0 j) (sym e) (below.high n (omega arith) ∙ sym (bit-in outs n few inside))

unlike : (x m : List ℕ) → m ≢ x → bytes_eq x m ≡ false
unlike x m apart = go (bytes_eq x m) refl where
  go : (r : Bool) → bytes_eq x m ≡ r → r ≡ false
  go true e = absurd (apart (sym ((bytes_eq-Decides x m).0 e)))
  go false e = refl

-- the names of those that are out are some of the names
out-among : (P : List ℕ → Type 0) (outs : Outs) (n : ℕ) (names : List (List ℕ)) → AllByRecursion P names → AllByRecursion P (out_names outs n names)
out-among P outs n [] all = tt
out-among P outs n (m ∷ names) all =
    elim (cases_Bool (is_out outs n)) [
      | inl out ↦ rw out (all.0, out-among P outs (suc n) names all.1)
      | inr inside ↦ rw inside (out-among P outs (suc n) names all.1)
    ]

each : (P : List ℕ → Type 0) (names : List (List ℕ)) → All P names → AllByRecursion P names
each P [] all = tt
each P (m ∷ names) all = (all 0 m (omega arith), each P names (λ k d low. all (suc k) d (omega (arith, low))))

none-left : (n : ℕ) (names : List (List ℕ)) (acc : Outs) → out_from n names [] acc ≡ Some acc
unfolding out_from
none-left n [] acc = refl
none-left n (m ∷ names) acc = refl

-- a module that is not named is passed over
passed : (n : ℕ) (m : List ℕ) (names texts : List (List ℕ)) (acc : Outs) → AllByRecursion (λ x. m ≢ x) texts → out_from n (m ∷ names) (map string texts) acc ≡ out_from (suc n) names (map string texts) acc
unfolding out_from
passed n m names [] acc apart = sym (none-left (suc n) names acc)
passed n m names (x ∷ texts) acc apart = rw (unlike x m apart.0) refl

record IsRead (outs : Outs) (n : ℕ) (names : List (List ℕ)) (acc : Outs) : Type 0 where
  pub out : Outs
  pub reads : out_from n names (map string (out_names outs n names)) acc ≡ Some out
  pub below : IsBelow outs (n + length names) out

outs-read : (outs : Outs) (n : ℕ) (names : List (List ℕ)) (acc : Outs) → n + length names ≤ 64 → AllPairs (λ a b. a ≢ b) names → IsBelow outs n acc → IsRead outs n names acc
unfolding out_from
outs-read outs n [] acc few apart below = record { out = acc; reads = refl; below = (let e : n ≡ n + 0 = omega arith in subst (λ k. IsBelow outs k acc) e below) }
outs-read outs n (m ∷ names) acc few apart below =
    let tail = AllPairs-tail (λ (a : List ℕ) (b : List ℕ). a ≢ b) m names apart in
    let next : suc n ≡ n + 1 = omega arith in
    let all : suc n + length names ≡ n + suc (length names) = omega arith in
    elim (cases_Bool (is_out outs n)) [
      | inl out ↦
          (let more = outs-read outs (suc n) names (put_out acc n) (omega (arith, few)) tail (subst (λ k. IsBelow outs k (put_out acc n)) (sym next) (below-out outs n acc out below)) in
          record { out = more.out; reads = rw (out, (bytes_eq-Decides m m).1 refl) more.reads; below = subst (λ k. IsBelow outs k more.out) all more.below })
      | inr inside ↦
          (let more = outs-read outs (suc n) names acc (omega (arith, few)) tail (subst (λ k. IsBelow outs k acc) (sym next) (below-in outs n acc (omega (arith, few)) inside below)) in
          let head = out-among (λ x. m ≢ x) outs (suc n) names (each (λ x. m ≢ x) names (AllPairs-head (λ (a : List ℕ) (b : List ℕ). a ≢ b) m names apart)) in
          record { out = more.out; reads = rw inside (passed n m names (out_names outs (suc n) names) acc head ∙ more.reads); below = subst (λ k. IsBelow outs k more.out) all more.below })
    ]

-- the modules that are out are read back
pub outs-back : (outs : Outs) (names : List (List ℕ)) → length names ≤ 64 → AllPairs (λ a b. a ≢ b) names → outs.0 < 2 ^ 64 → ((m : ℕ) → is_out outs m ≡ true → m < length names) → out_from 0 names (map string (out_names outs 0 names)) none_out ≡ Some outs
outs-back outs names few apart fits modules =
    let start : IsBelow outs 0 none_out = record { low = λ k under. absurd (omega arith); high = λ k over. bit_at-zero k } in
    let all = outs-read outs 0 names none_out (omega arith) apart start in
    let same : all.out.0 ≡ outs.0 = same_from_bits all.out.0 outs.0 (λ k. bits all.out all.below k (cases_lt k (length names))) in
    all.reads ∙ ap (λ n. Some (record { 0 = n })) same
  where
    past : (k : ℕ) → length names ≤ k → (k < 64) ⊎ (64 ≤ k) → bit_at outs.0 k ≡ 0
    past k over (inr high) = bit_at_above outs.0 64 k fits high
    past k over (inl low) = elim (cases_Bool (is_out outs k)) [ inl out ↦ absurd (omega (arith, modules k out)) | inr inside ↦ bit-in outs k low inside ]

    bits : (out : Outs) → IsBelow outs (0 + length names) out → (k : ℕ) → (k < length names) ⊎ (length names ≤ k) → bit_at out.0 k ≡ bit_at outs.0 k
    bits out below k (inl under) = below.low k (omega arith)
    bits out below k (inr over) = below.high k (omega arith) ∙ sym (past k over (cases_lt k 64))
