-- How far apart two holds stand on a resource, by their modes.
use Rattle.std.proofs.Common.{◌≡◌, ◌≢◌, ◌⊎◌, inl, inr, ℕ, ◌+◌, ◌≤◌, Bool, true, false, cond, ◌==◌, List, Option, Some, None, slice_get, refl, arith}
use Rattle.std.specs.Prelude.{nat_le}
use Rattle.std.proofs.lemmas.Bool.Decides.{nat_tests}
use Rattle.tp_machine.specs.Modes.{mode_of, gap_of, gap_at, gap_between}
use Rattle.tp_machine.specs.Rules.{have_gaps}
use Rattle.tp_machine.specs.declared.parts.HoldRule.{HoldRule}
use Rattle.tp_machine.specs.declared.parts.Resource.{Resource}
use Rattle.tp_machine.specs.declared.machine.Machine.{Machine}
use Rattle.tp_machine.proofs.Amounts.{amounts_of}
use Rattle.tp_machine.proofs.Lists.{list_all-at}

-- two modes are the same or not
pub modes_differ_or_not : (h k : HoldRule) → (mode_of h ≡ mode_of k) ⊎ (mode_of h ≢ mode_of k)
modes_differ_or_not h k = go (mode_of h) (mode_of k) where
  go : (m n : ℕ) → (m ≡ n) ⊎ (m ≢ n)
  go m n = by (m == n) refl where
    by : (b : Bool) → (m == n) ≡ b → (m ≡ n) ⊎ (m ≢ n)
    by true e = inl (grind (arith, nat_tests))
    by false e = inr (λ f. absurd (grind (arith, nat_tests)))

-- holds of one mode have no gap between them
pub no_gap_between : (gap : ℕ) (h k : HoldRule) → mode_of h ≡ mode_of k → gap_between gap h k ≡ 0
unfolding gap_between
no_gap_between gap h k same = go (mode_of h) (mode_of k) same where
  go : (m n : ℕ) → m ≡ n → cond (m == n) 0 gap ≡ 0
  go m n e = grind (arith, nat_tests)

-- holds of different modes have the whole gap between them
pub whole_gap_between : (gap : ℕ) (h k : HoldRule) → mode_of h ≢ mode_of k → gap_between gap h k ≡ gap
unfolding gap_between
whole_gap_between gap h k differ = go (mode_of h) (mode_of k) differ where
  go : (m n : ℕ) → m ≢ n → cond (m == n) 0 gap ≡ gap
  go m n d = by (m == n) refl where
    by : (b : Bool) → (m == n) ≡ b → cond b 0 gap ≡ gap
    by true e = absurd (d (grind (arith, nat_tests)))
    by false e = refl

pub gap_between-most : (gap : ℕ) (h k : HoldRule) → gap_between gap h k ≤ gap
unfolding gap_between
gap_between-most gap h k = go (mode_of h == mode_of k) where
  go : (b : Bool) → cond b 0 gap ≤ gap
  go true = omega arith
  go false = omega arith

-- a third hold between two makes way enough for their gap
pub gap_between-by_third : (gap : ℕ) (h j k : HoldRule) → gap_between gap h k ≤ gap_between gap h j + gap_between gap j k
unfolding gap_between
gap_between-by_third gap h j k = go (mode_of h) (mode_of j) (mode_of k) where
  go : (m n o : ℕ) → cond (m == o) 0 gap ≤ cond (m == n) 0 gap + cond (n == o) 0 gap
  go m n o = by (m == n) refl (n == o) refl where
    by : (b : Bool) → (m == n) ≡ b → (c : Bool) → (n == o) ≡ c → cond (m == o) 0 gap ≤ cond b 0 gap + cond c 0 gap
    by b e c f = grind (arith, nat_tests)

-- gaps are small
small_gap : (rs : List Resource) (n : ℕ) (o : Option Resource) → slice_get rs n ≡ o → have_gaps rs ≡ true → gap_of o ≤ 4096
small_gap rs n None at small = omega arith
small_gap rs n (Some r) at small = let e = list_all-at (λ r. nat_le r.gap 4096) rs n r small at in grind (arith, nat_tests)

pub gap_at_most : (machine : Machine) (resource : ℕ) → gap_at machine resource ≤ 4096
unfolding gap_at
gap_at_most machine resource = small_gap machine.resources resource (slice_get machine.resources resource) refl (amounts_of machine).gaps
