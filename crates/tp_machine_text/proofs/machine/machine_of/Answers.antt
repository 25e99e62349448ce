use Rattle.std.proofs.Common.{refl}
use Rattle.std.specs.Prelude.{codes}
use Rattle.toml.specs.Data.{get_member}
use Rattle.toml.specs.View.{table_view}
use Rattle.tp_machine_text.proofs.NumberFacts.{wider}
use Rattle.tp_machine_text.proofs.Sound as sound
use Rattle.tp_machine_text.proofs.machine.machine_of.Goals as goal

pub number_at-requires : goal.number_at-requires
number_at-requires c = wider 0 4096 (get_member (codes "lead") (table_view c.args.table.now)) refl c.requires.lead

pub number_at-requires-2 : goal.number_at-requires-2
number_at-requires-2 c = wider 1 32768 (get_member (codes "window") (table_view c.args.table.now)) refl c.requires.window

pub number_at-requires-3 : goal.number_at-requires-3
number_at-requires-3 c = wider 1 200000 (get_member (codes "budget") (table_view c.args.table.now)) refl c.requires.budget

pub invariant_of-result : goal.invariant_of-result
invariant_of-result c =
    let t = table_view c.args.table.now in
    let k = c.requires in
    let g = c.in_ok-names.ensures in
    let m = c.in_ok-works.ensures in
    let es = g.locations in
    let ms = g.modules in
    let ts = g.trays in
    let ps = g.purges in
    let ds = m.actions in
    record {
      named = rw (es, ms, m.feeders, m.resources, ds) (sound.named t k);
      numbers = rw (c.number_at.ensures, c.number_at-2.ensures, c.number_at-3.ensures) (sound.numbers t k);
      counts = rw (es, ms, m.resources, ds) (sound.counts t k);
      good_trays = rw (es, ts) (sound.trays t k);
      good_purges = rw (es, ts, ps) (sound.purges t k);
      good_feeders = rw (es, ts, ps, m.feeders) (sound.feeders t k m.feeders_rise);
      good_resources = rw (ms, m.resources) (sound.resources t k m.resources_rise);
      amounts = rw (m.feeders, m.resources, ds) (sound.amounts t k);
      names_differ = rw ds (sound.names t k);
      ways = rw (es, ms, ts, ps, m.feeders, ds) (sound.ways t k);
      durations = rw ds (sound.durations t k);
      few_holds = rw ds (sound.few_holds t k);
      holds = rw (m.resources, ds) (sound.holds t k);
    }
