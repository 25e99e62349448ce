-- The names of the jobs differ, or rule 4 is broken.
use Rattle.std.proofs.Common.{ap, arith, length}
use Rattle.std.proofs.lemmas.List.{length-map}
use Rattle.serde_json.specs.View.{view}
use Rattle.tp_jobs.specs.declared.parts.Job.{Job}
use Rattle.tp_snapshot.proofs.RuleFacts.{twice-named}
use Rattle.tp_snapshot.specs.Rules.{without_copies}
use Rattle.tp_snapshot.proofs.standing_reader.copies_in.Goals as goal

pub returns-in-None-clause-broken : goal.returns-in-None-clause-broken
returns-in-None-clause-broken c = λ outs stock moment jobs.
    twice-named c.args.machine.now (view c.args.value.now) (without_copies c.args.now outs stock c.args.jobs.now) moment c.args.jobs.now jobs
    (c.in_ok-names.ensures.none c.in-None.is)

pub copies_of-requires-clause-few : goal.copies_of-requires-clause-few
copies_of-requires-clause-few c =
    let names = rw c.in-Some.is at c.in_ok-names.ensures.names in
    omega (arith, ap length names, length-map c.args.jobs.now (λ (j : Job). j.name), c.requires.few)
