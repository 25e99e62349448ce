use Rattle.tp_bound_laws.proofs.PurgeStates.{purges-more}
use Rattle.tp_bound_laws.proofs.goals.purge_states.Goals as goal

pub locations-preserved : goal.locations-preserved
locations-preserved c = purges-more c.args.machine.now c.args.sheet.now c.locations.at c.locations.states.items c.put_purge.new.states.items c.locations.invariant c.in_ok-put_purge.ensures
