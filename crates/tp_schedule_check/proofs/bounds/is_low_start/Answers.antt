use Rattle.std.proofs.Common.{◌≡◌, ℕ, ◌≤◌, ◌∙◌, sym, leb, IsTrue, arith}
use Rattle.std.proofs.lemmas.Bool.Decides.{nat_tests}
use Rattle.tp_schedule.specs.Plans.{point}
use Rattle.tp_schedule_check.proofs.ListFacts.{get-is}
use Rattle.tp_schedule_check.proofs.bounds.is_low_start.Goals as goal

tested : (a b n : ℕ) → a ≡ n → (IsTrue (leb a b) → n ≤ b) × (n ≤ b → IsTrue (leb a b))
tested a b n e = (λ t. grind (arith, nat_tests), λ le. grind (arith, nat_tests))

pub returns : goal.returns
returns c = tested c.from.result c.args.floor (point c.args.plan.now c.args.at) (c.from.ensures ∙ sym (get-is c.args.plan.now.points c.args.at c.get.result 0 c.get.ensures))
