use Rattle.std.proofs.Common.{sym, subst, ◌≡◌, ◌||◌, ◌==◌}
use Rattle.tp_schedule.specs.LocationSets.{has, with}
use Rattle.tp_schedule.specs.declared.parts.Empties.{Empties}
use Rattle.tp_schedule.proofs.SetFacts.{has-with}
use Rattle.tp_schedule.proofs.parts.Empties.with.Goals as goal

pub returns-clause-members : goal.returns-clause-members
returns-clause-members c other =
    let set = c.args.self in
    let is : record { w0 = c.word_with.result; w1 = c.word_with-2.result; w2 = c.word_with-3.result; w3 = c.word_with-4.result } ≡ with set c.args.loc =
    λ k. record { w0 = c.word_with.ensures k; w1 = c.word_with-2.ensures k; w2 = c.word_with-3.ensures k; w3 = c.word_with-4.ensures k }
    in
    subst (λ (more : Empties). has more other ≡ (has set other || (other.0 == c.args.loc.0))) (sym is) (has-with set c.args.loc other c.requires)
