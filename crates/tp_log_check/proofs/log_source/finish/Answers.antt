-- A flaw that is reported at the end lies in what is reported of the last event.
use Rattle.std.proofs.Common.{rules, ◌≢◌}
use Rattle.tp_log_check.specs.declared.flaw.Flaw.TheVariants.{Memory as WantsMemory}
use Rattle.tp_log_check.proofs.log_source.finish.Goals as goal

pub returns-in-Err : goal.returns-in-Err
returns-in-Err c =
    let known : c.in-Err.flaw ≢ WantsMemory = search rules in
    record { accepted = tt; ends = (known, λ told h. record { lies = c.in-Err.ensures.lies known told h; caused = c.in-Err.ensures.why known told h; none = c.in-Err.ensures.refused known told h }) }
