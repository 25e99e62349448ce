use Rattle.std.proofs.Common.{◌≡◌, ◌∙◌, ◌-◌, ◌<◌, ◌==◌, false, arith, get_or, length, sym}
use Rattle.std.proofs.lemmas.Bool.Decides.{nat_tests}
use Rattle.std.proofs.lemmas.Option.{slice_get-get_or}
use Rattle.tp_placing.proofs.BehindCopies.{all-before}
use Rattle.tp_placing.proofs.live_match.are_before.Goals as goal

pub returns : goal.returns
returns c is =
    let plans = c.args.plans.now in
    let p = c.index-plans-plans.result in
    let none : (length plans == 0) ≡ false = sym c.is_empty.ensures ∙ c.if-is_empty.false in
    let some : 0 < length plans = grind (arith, nat_tests) in
    all-before c.args.copy plans (length plans - 1) (get_or plans (length plans - 1) p) c.requires.in_order (slice_get-get_or plans (length plans - 1) p (omega arith)) (omega arith) (sym c.is_earlier.ensures ∙ is)
