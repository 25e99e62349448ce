-- One name more is that of one action more.
use Rattle.std.proofs.Common.{◌-◌, drop, length, take}
use Rattle.tp_log_planner.proofs.NameFacts.{more-named, names-whole, none-named}
use Rattle.tp_log_planner.proofs.action_names.+add_named.Goals as goal

pub returns-in-Some : goal.returns-in-Some
returns-in-Some t c =
    let names = c.args.names.now in
    let name = c.name-item.result in
    more-named c.args.machine.now name names (take (length names - 1) (drop 1 names)) (names-whole names name c.in-len1-up.len_at_least c.name-item.is)
    c.in-Some.act c.args.acts.now c.push.new.self c.add_named.new.acts c.add_named.result c.in-Some.ensures c.push.ensures.pushed c.add_named.ensures

pub returns-in-None : goal.returns-in-None
returns-in-None t c =
    let names = c.args.names.now in
    let name = c.name-item.result in
    none-named c.args.machine.now name names (take (length names - 1) (drop 1 names)) (names-whole names name c.in-len1-up.len_at_least c.name-item.is) c.in-None.ensures
