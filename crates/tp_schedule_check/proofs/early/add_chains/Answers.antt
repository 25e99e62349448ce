use Rattle.std.proofs.Common.{◌-◌, drop, arith}
use Rattle.std.proofs.lemmas.Grind.{common_steps}
use Rattle.tp_schedule_check.specs.Early.{chain_steps}
use Rattle.tp_schedule_check.proofs.ChainFacts.{chain-end}
use Rattle.tp_schedule_check.proofs.ListFacts.{last-piece}
use Rattle.tp_schedule_check.proofs.early.add_chains.Goals as goal

pub returns : goal.returns
returns c =
    let machine = c.args.machine.now in
    let holds = c.args.holds.now in
    let out = c.holds-test.false in
    let first = c.holds.auto.at in
    last-piece c.holds.steps.items (chain_steps machine (drop (c.holds.at - 1) holds)) _ (chain-end machine (c.holds.at - 1) holds (omega arith)) c.holds.invariant

pub holds-preserved : goal.holds-preserved
holds-preserved c = grind (arith, common_steps)
