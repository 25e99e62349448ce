-- If everything is in order, and the outside did not fail, a check ends in a verdict.
use Rattle.std.proofs.Common.{◌≡◌, ◌≢◌, ℕ, List, Option, Some, None, inl, inr, refl, sym, subst, ◌∙◌}
use Rattle.std.specs.Prelude.{IsTrue}
use Rattle.tp_outside.specs.Outside.{Files}
use Rattle.tp_verify.specs.Checks.{CheckEnds, CheckedBy}
use Rattle.tp_verify.specs.InOrder.{RefusesButLog, VerifiesInOrder, is_verdict}
use Rattle.tp_verify.specs.Words.{named_by}
use Rattle.tp_verify.specs.declared.verify_status.VerifyStatus.{VerifyStatus}
use Rattle.tp_verify.specs.declared.verify_status.VerifyStatus.TheVariants as status
use Rattle.tp_verify.proofs.CheckFacts.{checks-taken}
use Rattle.tp_verify.proofs.InOrderFacts.{no-check-is-refused}

-- a status that refuses nothing but a log, and is no fault of the outside, is a verdict
verdicts : (s : VerifyStatus) → s ≢ status.Shelf → s ≢ status.Source → s ≢ status.Sink → ¬ RefusesButLog s → IsTrue (is_verdict s)
verdicts status.Done shelf source sink not = refl
verdicts status.Memory shelf source sink not = refl
verdicts (status.Rejected flaw) shelf source sink not = refl
verdicts status.Shelf shelf source sink not = absurd (shelf refl)
verdicts status.Source shelf source sink not = absurd (source refl)
verdicts status.Sink shelf source sink not = absurd (sink refl)
verdicts status.Usage shelf source sink not = absurd (not (refl, λ flaw e. cc))
verdicts (status.Machine fault) shelf source sink not = absurd (not (refl, λ flaw e. cc))
verdicts (status.TooLong what) shelf source sink not = absurd (not (refl, λ flaw e. cc))

pub unnamed : (words : List (List ℕ)) (known : Option Files) (left : Option (List ℕ)) (s : VerifyStatus) → named_by words ≡ None → VerifiesInOrder words known left s
unnamed words known left s none = λ files log name machine is is_left of sizes. (let some : Some name ≡ None = sym of.named ∙ none in absurd cc)

module _ {S K : Type 0} (left : S → Option (List ℕ)) (taken : K → Option (List ℕ)) (words : List (List ℕ)) (name : List ℕ) (named : named_by words ≡ Some name) (known : Option Files)
    (source source' : S) (sink sink' : K) (s : VerifyStatus) where
  pub in-order : CheckEnds left taken known source source' sink sink' name s → s ≢ status.Shelf → s ≢ status.Source → s ≢ status.Sink → VerifiesInOrder words known (left source) s
  in-order ends shelf source-well sink-well = λ files log other machine is is_left of sizes.
      let both : Some name ≡ Some other = sym named ∙ of.named in
      let same : name ≡ other = cc in
      let ends-so : CheckEnds left taken (Some files) source source' sink sink' other s =
      subst (λ k. CheckEnds left taken k source source' sink sink' other s) is (subst (λ n. CheckEnds left taken known source source' sink sink' n s) same ends) in
      let law = no-check-is-refused words files log other machine of sizes in
      verdicts s shelf source-well sink-well (λ refuses. elim ends-so [
        | inl none ↦ law.found s refuses none.0
        | inr checked ↦
            (let seen : CheckedBy (λ t. t) (Some files) other (left source) (left source') (taken sink) (taken sink') s =
            record { machine = checked.machine; text = checked.text; did = checks-taken taken checked.machine (left source) (left source') sink sink' s checked.did } in
            law.looked s refuses (left source') (taken sink) (taken sink') (subst (λ l. CheckedBy (λ t. t) (Some files) other l (left source') (taken sink) (taken sink') s) is_left seen))
      ])
