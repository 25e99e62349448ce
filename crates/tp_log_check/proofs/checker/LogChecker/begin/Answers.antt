use Rattle.std.proofs.Common.{◌∷◌, ◌<◌, ◌^◌, refl, subst}
use Rattle.tp_log.specs.declared.log_line.LogLine.TheVariants.{Event as EventLine}
use Rattle.tp_log_check.proofs.checker.LogChecker.begin.Goals as goal

pub returns-in-Err-clause-refused : goal.returns-in-Err-clause-refused
returns-in-Err-clause-refused c other told more h lawful = c.in-Err.ensures.refused other told (EventLine c.args.event ∷ more) h refl lawful

pub returns-in-Err-clause-lies : goal.returns-in-Err-clause-lies
returns-in-Err-clause-lies c other told h numbered = c.in-Err.ensures.lies other told h (subst (λ n. n < 2 ^ 64) numbered c.ranges.line.fits)

pub returns-in-Err-clause-why : goal.returns-in-Err-clause-why
returns-in-Err-clause-why c other told h numbered = c.in-Err.ensures.why other told h (subst (λ n. n < 2 ^ 64) numbered c.ranges.line.fits)
