-- The machine of the engines keeps the rules of machines.
use Rattle.std.proofs.Common.{refl}
use Rattle.tp_soak.proofs.EngineFacts.{are_drawn, few_engines}
use Rattle.tp_soak.proofs.MachineFacts as fact
use Rattle.tp_soak.proofs.machine.machine_with.Goals as goal

pub resources-requires : goal.resources-requires
resources-requires c = record { drawn = are_drawn _ c.requires; few = few_engines _ c.requires }

pub actions-requires : goal.actions-requires
actions-requires c = record { drawn = are_drawn _ c.requires; few = few_engines _ c.requires }

pub invariant_of-result : goal.invariant_of-result
invariant_of-result c =
    let es = c.in_ok-locations.ensures in
    let ms = c.in_ok-modules.ensures in
    let ts = c.in_ok-trays.ensures in
    let ps = c.in_ok-purges.ensures in
    let fs = c.in_ok-feeders.ensures in
    let rs = c.in_ok-resources.ensures in
    let ds = c.in_ok-actions.ensures in
    record {
      named = rw (es, ms, fs, rs, ds) (fact.named _ c.requires);
      numbers = refl;
      counts = rw (es, ms, rs, ds) (fact.counted _ c.requires);
      good_trays = rw (es, ts) refl;
      good_purges = rw (es, ts, ps) refl;
      good_feeders = rw (es, ts, ps, fs) refl;
      good_resources = rw (ms, rs) (fact.resourced _ c.requires);
      amounts = rw (fs, rs, ds) (fact.amounts _ c.requires);
      names_differ = rw ds (fact.differ _ c.requires);
      ways = rw (es, ms, ts, ps, fs, ds) (fact.ways _ c.requires);
      durations = rw ds (fact.last _ c.requires);
      few_holds = rw ds (fact.few_holds _ c.requires);
      holds = rw (rs, ds) (fact.sound_holds _ c.requires);
    }
