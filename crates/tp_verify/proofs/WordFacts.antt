-- No check ends in a refusal of the words.
use Rattle.std.proofs.Common.{◌≡◌, ℕ, List, Option, inl, inr, subst}
use Rattle.tp_outside.specs.Outside.{Files}
use Rattle.tp_verify.specs.Checks.{CheckEnds}
use Rattle.tp_verify.specs.declared.verify_status.VerifyStatus.{VerifyStatus}
use Rattle.tp_verify.specs.declared.verify_status.VerifyStatus.TheVariants as status

module _ {S K : Type 0} (left : S → Option (List ℕ)) (taken : K → Option (List ℕ)) (known : Option Files) (source source' : S) (sink sink' : K) (name : List ℕ) where
  no-end : CheckEnds left taken known source source' sink sink' name status.Usage → ⊥
  no-end (inl none) = none.0
  no-end (inr checked) = checked.did

  pub no-usage : (s : VerifyStatus) → CheckEnds left taken known source source' sink sink' name s → s ≡ status.Usage → ⊥
  no-usage s ends is = no-end (subst (CheckEnds left taken known source source' sink sink' name) is ends)
