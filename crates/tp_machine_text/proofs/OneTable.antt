-- A text is of one table at most.
use Rattle.std.proofs.Common.{◌≡◌, ℕ, List, Some, None, sym, ◌∙◌}
use Rattle.toml.specs.Data.{Members}
use Rattle.tp_machine_text.specs.Broken.{first_broken}
use Rattle.tp_machine_text.specs.Texts.{IsToml, IsSound}

same_broken : (t u : Members) (n : ℕ) → Some t ≡ Some u → first_broken t ≡ None → first_broken u ≡ Some n → ⊥
same_broken t u n same none broken = let e : t ≡ u = cc in cc

pub sound : (text : List ℕ) (t : Members) → IsToml text t → first_broken t ≡ None → IsSound text
sound text t toml none =
    (λ no. no t toml, λ n b. same_broken t b.0 n (sym toml.parses ∙ b.1.parses) none b.2)
