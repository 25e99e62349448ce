use Rattle.std.proofs.Common.{ℕ, List, ap, ◌∙◌}
use Rattle.serde_json.specs.View.{view}
use Rattle.tp_snapshot.proofs.Depth.{written}
use Rattle.tp_snapshot.proofs.Named.{has-names}
use Rattle.tp_snapshot.proofs.PlainData.{one-line}
use Rattle.tp_snapshot.proofs.ReadBack.{written-is-read}
use Rattle.tp_snapshot.specs.Written.{snapshot_data}
use Rattle.tp_snapshot.proofs.snapshot_writer.write_snapshot.Goals as goal

pub returns-clause-one_line : goal.returns-clause-one_line
returns-clause-one_line c =
    one-line c.in_ok-text.text.items c.in_ok-to_vec.field-0.items c.args.machine.now c.args.standing.now (view c.in_ok-value.value) c.requires
    (c.in_ok-value.ensures ∙ ap (λ (bytes : List ℕ). snapshot_data bytes c.args.machine.now c.args.standing.now) c.as_slice.ensures.value) c.in_ok-to_vec.ensures.text

pub returns-clause-written : goal.returns-clause-written
returns-clause-written c =
    written c.in_ok-text.text.items c.in_ok-to_vec.field-0.items c.args.machine.now c.args.standing.now (view c.in_ok-value.value) c.in_ok-text.ensures.reads
    (c.in_ok-value.ensures ∙ ap (λ (bytes : List ℕ). snapshot_data bytes c.args.machine.now c.args.standing.now) c.as_slice.ensures.value) c.in_ok-to_vec.ensures.utf8 c.in_ok-to_vec.ensures.reads_back

pub returns-clause-snapshot : goal.returns-clause-snapshot
returns-clause-snapshot c =
    written-is-read c.in_ok-to_vec.field-0.items c.args.machine.now c.args.standing.now c.requires c.standing_law.ensures
    (written c.in_ok-text.text.items c.in_ok-to_vec.field-0.items c.args.machine.now c.args.standing.now (view c.in_ok-value.value) c.in_ok-text.ensures.reads
    (c.in_ok-value.ensures ∙ ap (λ (bytes : List ℕ). snapshot_data bytes c.args.machine.now c.args.standing.now) c.as_slice.ensures.value) c.in_ok-to_vec.ensures.utf8 c.in_ok-to_vec.ensures.reads_back)

pub snapshot_value-requires-clause-utf8 : goal.snapshot_value-requires-clause-utf8
snapshot_value-requires-clause-utf8 c = rw c.as_slice.ensures.value c.in_ok-text.ensures.reads.1.utf8

pub snapshot_value-requires-clause-named : goal.snapshot_value-requires-clause-named
snapshot_value-requires-clause-named c = has-names c.args.machine.now c.args.standing.now c.requires
